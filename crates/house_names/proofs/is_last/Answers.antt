-- `house_names::is_last` meets its contract.
use mathlib.Core.Path.{◌≡◌, sym, ap, ◌∙◌}
use mathlib.Core.List.{List}
use Prim.Native.Nat.{ℕ}
use lib.ListN.{length}
use Rattle.std.specs.declared.option.Option.{Option}
use Rattle.written.specs.Bytes.{same}
use Rattle.link_order.specs.Keys.{name_at}
use Rattle.link_search.specs.Found.{last_below}
use Rattle.house_names.specs.Names.{last_is}
use Rattle.house_names.proofs.is_last.Goals.{After-last_question}
use Rattle.house_names.proofs.is_last.Goals as goal

-- what is found, by the name of row k
found : (c : After-last_question) → c.last_question.result ≡ last_below (λ e. same (name_at c.args.s.now c.args.questions.now e) (name_at c.args.s.now c.args.questions.now c.args.k)) (length c.args.index.now)
found c =
    let a = c.args in
    c.last_question.ensures ∙ ap (λ (v : List ℕ). last_below (λ e. same (name_at a.s.now a.questions.now e) v) (length a.index.now)) c.name_of.ensures

pub returns-in-Some : goal.returns-in-Some
returns-in-Some c = ap (λ (f : Option ℕ). last_is f c.args.k) (sym c.in-Some.is ∙ found (goal.at.returns-in-Some c).After-last_question)

pub returns-in-None : goal.returns-in-None
returns-in-None c = ap (λ (f : Option ℕ). last_is f c.args.k) (sym c.in-None.is ∙ found (goal.at.returns-in-None c).After-last_question)
