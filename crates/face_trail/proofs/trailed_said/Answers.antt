-- `face_trail::trailed_said`: by how the file opened.
use mathlib.Core.Path.{sym, ap, subst, ◌∙◌}
use mathlib.Core.List.{List}
use Prim.Native.Nat.{ℕ, ◌≤◌}
use lib.ListN.{length}
use Rattle.face_record.specs.declared.Said.{Said}
use Rattle.face_trail.proofs.Above.{opened_long}
use Rattle.face_trail.proofs.Laws.{trailed_unopened, trailed_opened}
use Rattle.face_trail.proofs.trailed_said.Goals as goal

pub returns-then-said-ne0 : goal.returns-then-said-ne0
returns-then-said-ne0 c = (c.not_found.ensures ∙ trailed_unopened c.args.file.now c.args.words.now c.open_words-said.ensures.0 c.open_words-said.ensures.1 c.if-said-ne0.true, c.open_words-said.ensures.1)

pub find_opened-requires : goal.find_opened-requires
find_opened-requires c =
    let a = c.args in
    let o = c.open_words-said.ensures in
    subst (λ (l : List ℕ). 647 ≤ length l) (sym o.1) (opened_long a.file.now a.words.now (sym (ap (λ (x : Said). x.number) o.0) ∙ c.if-said-ne0.false))

pub returns : goal.returns
returns c =
    let o = c.open_words-said.ensures in
    (trailed_opened c.args.file.now c.args.words.now o.0 o.1 c.if-said-ne0.false c.find_opened.ensures, o.1)
