-- Groups by first appearance: the rows of groups that are not known yet, and the names that are.
use mathlib.Core.Path.{◌≡◌, refl, sym, ap, ◌∙◌, subst}
use mathlib.Core.Bool.{Bool, true, false, cond}
use mathlib.Core.List.{List, [], ◌∷◌, ◌++◌, map}
use Prim.Native.Nat.{ℕ, zero, suc, ◌+◌, ◌≤◌, ◌<◌}
use native.Mathlib.Omega.{arith}
use native.Mathlib.Decide.{dec_lt}
use borrow.Author.Tests.{leb-true, leb-false}
use lib.Dec.{leb}
use lib.ListN.{length, get_or}
use Rattle.written.specs.Bytes as written
use Rattle.written.specs.Bytes.{same, part}
use Rattle.written.specs.Groups.{Row, Group, Grouped, next, of_group, of_others, name_of}
use Rattle.written.proofs.Tests.{differ}
use Rattle.written_apart.proofs.ApartFile.{same_same}
use Rattle.written_total.proofs.Total.{same_true}
use Rattle.head_record.specs.Empty.{no_span}
use Rattle.head_record.specs.Lists.{filled, span_of}
use Rattle.text_parts.specs.declared.Span.{Span}
use Rattle.head_brackets.specs.Rows.{known_from}
use Rattle.text_parts.specs.Parts.{bytes_of}

-- ---- rows of groups that are not known

unfoldable pub known : List (List ℕ) → List ℕ → Bool
known [] w = false
known (k ∷ K) w = cond (same k w) true (known K w)

unfoldable pub unknown : List (List ℕ) → List Row → List Row
unknown K [] = []
unknown K (r ∷ rs) = cond (known K r.group) (unknown K rs) (r ∷ unknown K rs)

pub unknown_none : (rs : List Row) → unknown [] rs ≡ rs
unfolding unknown known
unknown_none [] = refl
unknown_none (r ∷ rs) = ap (λ (l : List Row). r ∷ l) (unknown_none rs)

known_more : (K : List (List ℕ)) (w v : List ℕ) → known (K ++ (w ∷ [])) v ≡ cond (known K v) true (same w v)
unfolding known
known_more [] w v = go (same w v)
  where
    go : (t : Bool) → cond t true false ≡ t
    go true = refl
    go false = refl
known_more (k ∷ K) w v = go (same k v) (known_more K w v)
  where
    go : (t : Bool) → known (K ++ (w ∷ [])) v ≡ cond (known K v) true (same w v) → cond t true (known (K ++ (w ∷ [])) v) ≡ cond (cond t true (known K v)) true (same w v)
    go true e = refl
    go false e = e

pub known_last : (K : List (List ℕ)) (w : List ℕ) → known (K ++ (w ∷ [])) w ≡ true
known_last K w = known_more K w w ∙ go (known K w)
  where
    go : (t : Bool) → cond t true (same w w) ≡ true
    go true = refl
    go false = same_same w

pub known_fewer : (K : List (List ℕ)) (w v : List ℕ) → known (K ++ (w ∷ [])) v ≡ false → known K v ≡ false
known_fewer K w v e = go (known K v) (sym (known_more K w v) ∙ e)
  where
    go : (t : Bool) → cond t true (same w v) ≡ false → t ≡ false
    go true f = f
    go false f = refl

others_unknown : (K : List (List ℕ)) (w : List ℕ) (rs : List Row) → of_others w (unknown K rs) ≡ unknown (K ++ (w ∷ [])) rs
unfolding unknown of_others
others_unknown K w [] = refl
others_unknown K w (r ∷ rs) = go (known K r.group) refl (others_unknown K w rs)
  where
    other : (u : Bool) → of_others w (unknown K rs) ≡ unknown (K ++ (w ∷ [])) rs → cond u (of_others w (unknown K rs)) (r ∷ of_others w (unknown K rs)) ≡ cond u (unknown (K ++ (w ∷ [])) rs) (r ∷ unknown (K ++ (w ∷ [])) rs)
    other u e = ap (λ (l : List Row). cond u l (r ∷ l)) e

    go : (t : Bool) → known K r.group ≡ t → of_others w (unknown K rs) ≡ unknown (K ++ (w ∷ [])) rs
        → of_others w (cond t (unknown K rs) (r ∷ unknown K rs)) ≡ cond (known (K ++ (w ∷ [])) r.group) (unknown (K ++ (w ∷ [])) rs) (r ∷ unknown (K ++ (w ∷ [])) rs)
    go true e rec = rec ∙ ap (λ (u : Bool). cond u (unknown (K ++ (w ∷ [])) rs) (r ∷ unknown (K ++ (w ∷ [])) rs)) (sym (known_more K w r.group ∙ ap (λ (u : Bool). cond u true (same w r.group)) e))
    go false e rec = other (same w r.group) rec ∙ ap (λ (u : Bool). cond u (unknown (K ++ (w ∷ [])) rs) (r ∷ unknown (K ++ (w ∷ [])) rs)) (sym (known_more K w r.group ∙ ap (λ (u : Bool). cond u true (same w r.group)) e))

-- a group that is not known keeps its rows
group_unknown : (K : List (List ℕ)) (w : List ℕ) → known K w ≡ false → (rs : List Row) → of_group w (unknown K rs) ≡ of_group w rs
unfolding unknown of_group
group_unknown K w h [] = refl
group_unknown K w h (r ∷ rs) = go (known K r.group) refl (same w r.group) refl (group_unknown K w h rs)
  where
    go : (t : Bool) → known K r.group ≡ t → (u : Bool) → same w r.group ≡ u → of_group w (unknown K rs) ≡ of_group w rs
        → of_group w (cond t (unknown K rs) (r ∷ unknown K rs)) ≡ cond u (r ∷ of_group w rs) (of_group w rs)
    go true e true f rec = differ (ap (known K) (same_true w r.group f) ∙ e) h
    go true e false f rec = rec
    go false e true f rec = ap (λ (t : Bool). cond t (r ∷ of_group w (unknown K rs)) (of_group w (unknown K rs))) f ∙ ap (λ (l : List Row). r ∷ l) rec
    go false e false f rec = ap (λ (t : Bool). cond t (r ∷ of_group w (unknown K rs)) (of_group w (unknown K rs))) f ∙ rec

pub of_group_here : (r : Row) (rs : List Row) → of_group r.group (r ∷ rs) ≡ r ∷ of_group r.group rs
unfolding of_group
of_group_here r rs = ap (λ (t : Bool). cond t (r ∷ of_group r.group rs) (of_group r.group rs)) (same_same r.group)

-- a row of a known group is of no other
pub of_group_past : (w : List ℕ) (K : List (List ℕ)) (r : Row) (rs : List Row) → known K r.group ≡ true → known K w ≡ false → of_group w (r ∷ rs) ≡ of_group w rs
unfolding of_group
of_group_past w K r rs e f = go (same w r.group) refl
  where
    go : (t : Bool) → same w r.group ≡ t → cond t (r ∷ of_group w rs) (of_group w rs) ≡ of_group w rs
    go true g = differ (ap (known K) (same_true w r.group g) ∙ e) f
    go false g = refl

-- the rows of a known group are passed over
pub unknown_past : (K : List (List ℕ)) (r : Row) (rs : List Row) → known K r.group ≡ true → unknown K (r ∷ rs) ≡ unknown K rs
unfolding unknown
unknown_past K r rs e = ap (λ (t : Bool). cond t (unknown K rs) (r ∷ unknown K rs)) e

-- a new group: its name stands in this row, its rows are all of that name
pub grouped_new : (K : List (List ℕ)) (r : Row) (rs whole : List Row) {gs : List Group} → known K r.group ≡ false → of_group r.group whole ≡ of_group r.group (r ∷ rs)
    → Grouped (unknown (K ++ (r.group ∷ [])) rs) gs → Grouped (unknown K (r ∷ rs)) (record { name = name_of r; rows = of_group r.group whole } ∷ gs)
unfolding unknown
grouped_new K r rs whole {gs} e f g =
    let o = next {r = r} (subst (λ (l : List Row). Grouped l gs) (sym (others_unknown K r.group rs)) g) in
    let q : r ∷ of_group r.group (unknown K rs) ≡ of_group r.group whole = ap (λ (l : List Row). r ∷ l) (group_unknown K r.group e rs) ∙ sym (f ∙ of_group_here r rs) in
    subst (λ (t : Bool). Grouped (cond t (unknown K rs) (r ∷ unknown K rs)) (record { name = name_of r; rows = of_group r.group whole } ∷ gs)) (sym e)
    (subst (λ (l : List Row). Grouped (r ∷ unknown K rs) (record { name = name_of r; rows = l } ∷ gs)) q o)

-- ---- every list of rows has groups

others_fewer : (w : List ℕ) (rs : List Row) → length (of_others w rs) ≤ length rs
unfolding of_others
others_fewer w [] = omega arith
others_fewer w (r ∷ rs) = go (same w r.group) (others_fewer w rs)
  where
    go : (t : Bool) → length (of_others w rs) ≤ length rs → length (cond t (of_others w rs) (r ∷ of_others w rs)) ≤ suc (length rs)
    go true h = omega arith
    go false h = omega arith

grouped_up_to : (n : ℕ) (rs : List Row) → length rs ≤ n → (gs : List Group) × Grouped rs gs
grouped_up_to zero [] h = ([], Grouped.end)
grouped_up_to zero (r ∷ rs) h = absurd (omega arith)
grouped_up_to (suc n) [] h = ([], Grouped.end)
grouped_up_to (suc n) (r ∷ rs) h = let g = grouped_up_to n (of_others r.group rs) (omega (arith, others_fewer r.group rs)) in (record { name = name_of r; rows = r ∷ of_group r.group rs } ∷ g.0, next {r = r} g.1)

pub grouped_always : (rs : List Row) → (gs : List Group) × Grouped rs gs
grouped_always rs = grouped_up_to (length rs) rs (omega arith)

-- ---- the names that the reader knows, the first eight

module _ (s w : List ℕ) where
  known_in : (t : List Span) (n k : ℕ) → known_from n s t k w ≡ true → (j : ℕ) × (k ≤ j) × (j < k + n) × (j < 8) × (same (bytes_of s (get_or t j no_span)) w ≡ true)
  unfolding known_from
  known_in t zero k e = differ e refl
  known_in t (suc n) k e = go (leb 8 k) refl (same (bytes_of s (get_or t k no_span)) w) refl e (λ f. known_in t n (k + 1) f)
    where
      go : (a : Bool) → leb 8 k ≡ a → (b : Bool) → same (bytes_of s (get_or t k no_span)) w ≡ b → cond a false (cond b true (known_from n s t (k + 1) w)) ≡ true
          → (known_from n s t (k + 1) w ≡ true → (j : ℕ) × (k + 1 ≤ j) × (j < k + 1 + n) × (j < 8) × (same (bytes_of s (get_or t j no_span)) w ≡ true))
          → (j : ℕ) × (k ≤ j) × (j < k + suc n) × (j < 8) × (same (bytes_of s (get_or t j no_span)) w ≡ true)
      go true f b g h rec = differ h refl
      go false f true g h rec = (k, omega arith, omega arith, omega (arith, leb-false 8 k f), g)
      go false f false g h rec = let r = rec h in (r.0, omega (arith, r.1), omega (arith, r.2), r.3, r.4)

  known_out : (t : List Span) (n k : ℕ) → known_from n s t k w ≡ false → (j : ℕ) → k ≤ j → j < k + n → j < 8 → same (bytes_of s (get_or t j no_span)) w ≡ false
  unfolding known_from
  known_out t zero k e j p q r = absurd (omega arith)
  known_out t (suc n) k e j p q r = go (leb 8 k) refl (same (bytes_of s (get_or t k no_span)) w) refl e (λ f a b. known_out t n (k + 1) f j a b r) (dec_lt k j)
    where
      go : (a : Bool) → leb 8 k ≡ a → (b : Bool) → same (bytes_of s (get_or t k no_span)) w ≡ b → cond a false (cond b true (known_from n s t (k + 1) w)) ≡ false
          → (known_from n s t (k + 1) w ≡ false → k + 1 ≤ j → j < k + 1 + n → same (bytes_of s (get_or t j no_span)) w ≡ false) → Dec (k < j) → same (bytes_of s (get_or t j no_span)) w ≡ false
      go true f b g h rec d = absurd (omega (arith, leb-true 8 k f))
      go false f true g h rec d = differ refl h
      go false f false g h rec (yes l) = rec h (omega arith) (omega arith)
      go false f false g h rec (no l) = let z : j ≡ k = omega arith in ap (λ (i : ℕ). same (bytes_of s (get_or t i no_span)) w) z ∙ g

  module _ {E : Type 0} (name : E → written.Span) where
    abbrev names_of : List E → List (List ℕ)
    names_of es = map (λ e. part s (name e).start (name e).len) es

    abbrev placed : ℕ → List E → List Span
    placed n es = filled n no_span (map (λ e. span_of (name e)) es)

    known_at : (es : List E) (n k : ℕ) → k < n → k < length es → same (bytes_of s (get_or (placed n es) k no_span)) w ≡ true → known (names_of es) w ≡ true
    unfolding known filled
    known_at [] n k h l e = absurd (omega arith)
    known_at (a ∷ es) zero k h l e = absurd (omega arith)
    known_at (a ∷ es) (suc n) zero h l e = ap (λ (t : Bool). cond t true (known (names_of es) w)) e
    known_at (a ∷ es) (suc n) (suc k) h l e = go (same (part s (name a).start (name a).len) w) (known_at es n k (omega arith) (omega arith) e)
      where
        go : (t : Bool) → known (names_of es) w ≡ true → cond t true (known (names_of es) w) ≡ true
        go true f = refl
        go false f = f

    known_place : (es : List E) → known (names_of es) w ≡ true → (k : ℕ) × (k < length es) × ((n : ℕ) → k < n → same (bytes_of s (get_or (placed n es) k no_span)) w ≡ true)
    unfolding known filled
    known_place [] e = differ e refl
    known_place (a ∷ es) e = go (same (part s (name a).start (name a).len) w) refl e (λ f. known_place es f)
      where
        here : same (part s (name a).start (name a).len) w ≡ true → (n : ℕ) → 0 < n → same (bytes_of s (get_or (placed n (a ∷ es)) 0 no_span)) w ≡ true
        here f zero h = absurd (omega arith)
        here f (suc n) h = f

        later : (k : ℕ) → ((n : ℕ) → k < n → same (bytes_of s (get_or (placed n es) k no_span)) w ≡ true) → (n : ℕ) → suc k < n → same (bytes_of s (get_or (placed n (a ∷ es)) (suc k) no_span)) w ≡ true
        later k f zero h = absurd (omega arith)
        later k f (suc n) h = f n (omega arith)

        go : (t : Bool) → same (part s (name a).start (name a).len) w ≡ t → cond t true (known (names_of es) w) ≡ true
            → (known (names_of es) w ≡ true → (k : ℕ) × (k < length es) × ((n : ℕ) → k < n → same (bytes_of s (get_or (placed n es) k no_span)) w ≡ true))
            → (k : ℕ) × (k < suc (length es)) × ((n : ℕ) → k < n → same (bytes_of s (get_or (placed n (a ∷ es)) k no_span)) w ≡ true)
        go true f g rec = (0, omega arith, here f)
        go false f g rec = let r = rec g in (suc r.0, omega (arith, r.1), later r.0 r.2)

    -- what the reader knows is known; and what is known the reader knows, of the first eight
    pub known_so : (es : List E) (n : ℕ) → (length es ≤ 8 → n ≤ length es) → known_from n s (placed 8 es) 0 w ≡ true → known (names_of es) w ≡ true
    known_so es n h e = let r = known_in (placed 8 es) n 0 e in known_at es 8 r.0 r.3 (go r.0 r.2 r.3 (dec_lt (length es) 9)) r.4
      where
        go : (j : ℕ) → j < 0 + n → j < 8 → Dec (length es < 9) → j < length es
        go j a b (yes l) = omega (arith, h (omega arith))
        go j a b (no l) = omega arith

    pub known_not : (es : List E) (n : ℕ) → length es ≤ n → length es ≤ 8 → known_from n s (placed 8 es) 0 w ≡ false → known (names_of es) w ≡ false
    known_not es n h l e = go (known (names_of es) w) refl
      where
        go : (t : Bool) → known (names_of es) w ≡ t → t ≡ false
        go true f = let r = known_place es f in differ (r.2 8 (omega (arith, r.1))) (known_out (placed 8 es) n 0 e r.0 (omega arith) (omega (arith, r.1)) (omega (arith, r.1)))
        go false f = refl
