-- `head_open::comment` meets its contract.
use mathlib.Core.Path.{◌≡◌, sym, ap, ◌∙◌}
use mathlib.Core.List.{List}
use Prim.Native.Nat.{ℕ, ◌≤◌}
use native.Mathlib.Nat.{add-sub_cancel_left}
use borrow.Author.Tests.{lt-ltb, le-ltb, eq-eqb, ne_eqb}
use lib.ListN.{length, get_or, take, drop, drop_of_length-le}
use lib.Seq.{get_or-drop}
use Rattle.head_words.specs.Words.{word_at, global_at, header_at}
use Rattle.head_open.specs.Open.{comment_part}
use Rattle.head_open.proofs.comment.Goals as goal

-- a word past the end is 0
past : (w : List ℕ) → length w ≤ 94 → word_at w 94 ≡ 0
past w h = sym (get_or-drop 94 w 0 0) ∙ ap (λ (l : List ℕ). get_or l 0 0) (drop_of_length-le w {i = 94} h)

pub returns-then-words-le-HAS_COMMENT : goal.returns-then-words-le-HAS_COMMENT
unfolding comment_part header_at global_at
returns-then-words-le-HAS_COMMENT c = rw (eq-eqb _ _ (past c.args.words.now c.if-words-le-HAS_COMMENT.true))

pub returns-then-words-eq0 : goal.returns-then-words-eq0
unfolding comment_part header_at global_at
returns-then-words-eq0 c = rw (eq-eqb _ _ c.if-words-eq0.true)

pub returns-then-n-start : goal.returns-then-n-start
unfolding comment_part header_at global_at
returns-then-n-start c = rw (ne_eqb _ _ c.if-words-eq0.false, lt-ltb _ _ c.if-n-start.true)

pub returns-then-n-start-2 : goal.returns-then-n-start-2
unfolding comment_part header_at global_at
returns-then-n-start-2 c = rw (ne_eqb _ _ c.if-words-eq0.false, le-ltb _ _ c.if-n-start.false, lt-ltb _ _ c.if-n-start-2.true)

pub returns : goal.returns
unfolding comment_part header_at global_at
returns c = let w = c.args.words.now in
    rw (ne_eqb _ _ c.if-words-eq0.false, le-ltb _ _ c.if-n-start.false, le-ltb _ _ c.if-n-start-2.false)
    (ap (λ (k : ℕ). take k (drop (word_at w 92) c.args.file.now)) (add-sub_cancel_left (word_at w 92) (word_at w 93)))
