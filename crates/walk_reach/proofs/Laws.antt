-- Each way through `look`.
use mathlib.Core.Path.{◌≡◌, sym, ap, ap₂, ◌∙◌}
use mathlib.Core.Bool.{Bool, true, false, cond}
use mathlib.Core.List.{List}
use Prim.Native.Nat.{ℕ, ◌+◌, ◌<◌}
use borrow.Author.Tests.{eq-eqb, ne_eqb}
use lib.Dec.{eqb}
use Rattle.table_rows.specs.Rows.{record_there, record_rows, record_kind, record_yes, record_no}
use Rattle.table_rows.proofs.Stand.{record_in}
use Rattle.walk_reach.specs.Seeing.{kind_seen, seen_at}
use Rattle.walk_reach.specs.declared.Seen.TheVariants.{Leaf, Line, Wrong}

module _ (R : List ℕ) (first count k : ℕ) where
  pub seen_missing : record_there R first count k ≡ false → Wrong ≡ seen_at R first count k
  unfolding seen_at
  seen_missing e = sym (ap (λ (b : Bool). cond b (kind_seen R (first + k)) Wrong) e)

  module _ (there : record_there R first count k ≡ true) where
    pub row_inside : first + k < record_rows R
    row_inside = (record_in R first count k there).1

    kind : kind_seen R (first + k) ≡ seen_at R first count k
    unfolding seen_at
    kind = sym (ap (λ (b : Bool). cond b (kind_seen R (first + k)) Wrong) there)

    module _ {c : ℕ} (of : c ≡ record_kind R (first + k)) where
      pub seen_line : {y n : ℕ} → c ≡ 0 → y ≡ record_yes R (first + k) → n ≡ record_no R (first + k) → Line y n ≡ seen_at R first count k
      unfolding kind_seen
      seen_line z y n =
          ap₂ Line y n
          ∙ sym (ap (λ (b : Bool). cond b (Line (record_yes R (first + k)) (record_no R (first + k))) (cond (eqb (record_kind R (first + k)) 1) Leaf Wrong)) (eq-eqb (record_kind R (first + k)) 0 (sym of ∙ z)))
          ∙ kind

      pub seen-leaf : (c ≡ 0 → ⊥) → c ≡ 1 → Leaf ≡ seen_at R first count k
      unfolding kind_seen
      seen-leaf d o =
          sym (ap₂ (λ (a b : Bool). cond a (Line (record_yes R (first + k)) (record_no R (first + k))) (cond b Leaf Wrong)) (ne_eqb (record_kind R (first + k)) 0 (λ q. d (of ∙ q))) (eq-eqb (record_kind R (first + k)) 1 (sym of ∙ o)))
          ∙ kind

      pub seen_wrong : (c ≡ 0 → ⊥) → (c ≡ 1 → ⊥) → Wrong ≡ seen_at R first count k
      unfolding kind_seen
      seen_wrong d t =
          sym (ap₂ (λ (a b : Bool). cond a (Line (record_yes R (first + k)) (record_no R (first + k))) (cond b Leaf Wrong)) (ne_eqb (record_kind R (first + k)) 0 (λ q. d (of ∙ q))) (ne_eqb (record_kind R (first + k)) 1 (λ q. t (of ∙ q))))
          ∙ kind
