-- A key is split as `written` says: where its answer names a group the key is bracketed so, and a bracketed key is answered so.
use mathlib.Core.Path.{◌≡◌, refl, sym, ap, ap₂, ◌∙◌, subst}
use mathlib.Core.Bool.{Bool, true, false, not, cond, ◌||◌}
use mathlib.Core.List.{List, [], ◌∷◌, ◌++◌, append_assoc}
use Prim.Native.Nat.{ℕ, suc, ◌+◌, ◌-◌, ◌<◌}
use native.Mathlib.Omega.{arith}
use borrow.Author.Tests.{eqb-true, ne_eqb, eq-eqb, leb-false, lt-leb}
use lib.Dec.{eqb, leb}
use lib.ListN.{length, get_or, take, drop, length-append, take-append-drop, drop_of_length-le}
use lib.Seq.{drop-cons, drop-drop, get_or-take, length-take-le}
use Rattle.std.specs.Prelude.{Option, None}
use Rattle.written.specs.Bytes.{bracket, unbracket, one_of, none_of, byte_at, Each, Ends, over, met, part}
use Rattle.written.specs.Groups.{Bracketed}
use Rattle.written.proofs.Tests.{differ}
use Rattle.laws.specs.Runs.{run, stop}
use Rattle.laws.proofs.Runs.{byte_is}
use Rattle.laws.proofs.Cursor.{stop_each, stop_ends}
use Rattle.head_lines.proofs.Moves.{no as never}
use Rattle.head_brackets.specs.Rows.{bracketed, split_at, split_of}
use Rattle.head_brackets.specs.declared.Brackets.{Brackets}

-- ---- one byte as a set

one_in : (b c : ℕ) → none_of (b ∷ []) c ≡ true → eqb b c ≡ false
unfolding one_of
one_in b c e = ne_eqb b c (λ f. by (eqb c b) (eq-eqb c b (sym f)) e)
  where
    by : (t : Bool) → t ≡ true → not (t || false) ≡ true → ⊥
    by true f g = differ g refl
    by false f g = differ f refl

one_is : (b c : ℕ) → one_of (b ∷ []) c ≡ true → c ≡ b
unfolding one_of
one_is b c e = eqb-true c b (by (eqb c b) e)
  where
    by : (t : Bool) → (t || false) ≡ true → t ≡ true
    by true f = refl
    by false f = f

none_in : (b : ℕ) (l : List ℕ) → ((k : ℕ) → k < length l → none_of (b ∷ []) (get_or l k 0) ≡ true) → one_of l b ≡ false
unfolding one_of
none_in b [] h = refl
none_in b (c ∷ l) h = ap₂ ◌||◌ (one_in b c (h 0 (omega arith))) (none_in b l (λ k i. h (suc k) (omega arith)))

-- ---- from the answer to the key

-- a key whose last byte is a bracket, and whose first other bracket stands before it
bracketed_at : (w : List ℕ) (k : ℕ) → k + 1 < length w → Each (none_of (bracket ∷ [])) w 0 k → get_or w k 0 ≡ bracket → get_or w (length w - 1) 0 ≡ unbracket
    → Bracketed w (take k w) (part w (k + 1) (length w - k - 2))
bracketed_at w k h e f g =
    let n = length w - k - 2 in
    let d1 : drop k w ≡ bracket ∷ drop (suc k) w = drop-cons w k 0 (omega arith) ∙ ap (λ (c : ℕ). c ∷ drop (suc k) w) f in
    let q : suc k + n ≡ length w - 1 = omega arith in
    let z : suc (length w - 1) ≡ length w = omega arith in
    let d2 : drop (length w - 1) w ≡ unbracket ∷ [] =
    drop-cons w (length w - 1) 0 (omega arith) ∙ ap₂ ◌∷◌ g (drop_of_length-le w {i = suc (length w - 1)} (omega arith)) in
    let d3 : drop n (drop (suc k) w) ≡ unbracket ∷ [] = drop-drop n (suc k) w ∙ ap (λ (i : ℕ). drop i w) q ∙ d2 in
    let d4 : drop (suc k) w ≡ part w (suc k) n ++ (unbracket ∷ []) = sym (take-append-drop n (drop (suc k) w)) ∙ ap (λ (l : List ℕ). part w (suc k) n ++ l) d3 in
    let s : suc k ≡ k + 1 = omega arith in
    record {
      whole = sym (take-append-drop k w) ∙ ap (λ (l : List ℕ). take k w ++ l) (d1 ∙ ap (λ (l : List ℕ). bracket ∷ l) (d4 ∙ ap (λ (i : ℕ). part w i n ++ (unbracket ∷ [])) s));
      first = none_in bracket (take k w) (λ j i. let l : j < k = omega (arith, length-take-le k w (omega arith)) in ap (none_of (bracket ∷ [])) (get_or-take k w j 0 l) ∙ e.passes j (omega arith) l);
    }

pub split_bracketed : (w : List ℕ) {b n : ℕ} → split_of w ≡ bracketed b n → Bracketed w (take b w) (part w (b + 1) n)
unfolding split_of
split_bracketed w {b} {n} e = go (eqb (byte_at w (length w - 1)) unbracket) refl e
  where
    k : ℕ
    k = stop (none_of (bracket ∷ [])) w 0

    bracket_at : k < length w → Ends (one_of (bracket ∷ [])) w k → get_or w k 0 ≡ bracket
    bracket_at h (over f) = absurd (omega arith)
    bracket_at h (met l f) = one_is bracket (get_or w k 0) f

    negate : (c : ℕ) → none_of (bracket ∷ []) c ≡ false → one_of (bracket ∷ []) c ≡ true
    negate c f = by (one_of (bracket ∷ []) c) f
      where
        by : (t : Bool) → not t ≡ false → t ≡ true
        by true g = refl
        by false g = differ refl g

    at : byte_at w (length w - 1) ≡ unbracket → (t : Bool) → leb (length w) (k + 1) ≡ t → cond t None (bracketed k (length w - k - 2)) ≡ bracketed b n → Bracketed w (take b w) (part w (b + 1) n)
    at g true f h = never cc
    at g false f h =
        let x : ◌≡◌ {A = Brackets} (record { field = k; name = length w - k - 2 }) (record { field = b; name = n }) = cc in
        let p : k ≡ b = ap (λ (y : Brackets). y.field) x in
        let q : length w - k - 2 ≡ n = ap (λ (y : Brackets). y.name) x in
        let l : k + 1 < length w = leb-false (length w) (k + 1) f in
        let c = bracketed_at w k l (stop_each (none_of (bracket ∷ [])) w 0 (omega arith)) (bracket_at (omega arith) (stop_ends (none_of (bracket ∷ [])) w 0 (omega arith) (one_of (bracket ∷ [])) negate)) (sym (byte_is w (length w - 1) (omega arith)) ∙ g) in
        subst (λ (m : ℕ). Bracketed w (take m w) (part w (m + 1) n)) p (subst (λ (m : ℕ). Bracketed w (take k w) (part w (k + 1) m)) q c)

    go : (t : Bool) → eqb (byte_at w (length w - 1)) unbracket ≡ t → cond t (split_at (length w) k) None ≡ bracketed b n → Bracketed w (take b w) (part w (b + 1) n)
    go true f h = at (eqb-true _ _ f) (leb (length w) (k + 1)) refl h
    go false f h = never cc

-- ---- from the key to the answer

run_first : (f r : List ℕ) → one_of f bracket ≡ false → run (none_of (bracket ∷ [])) (f ++ (bracket ∷ r)) ≡ f
unfolding run one_of
run_first [] r e = refl
run_first (c ∷ f) r e = go (eqb bracket c) refl e (λ g. run_first f r g)
  where
    go : (t : Bool) → eqb bracket c ≡ t → (t || one_of f bracket) ≡ false → (one_of f bracket ≡ false → run (none_of (bracket ∷ [])) (f ++ (bracket ∷ r)) ≡ f)
        → cond (not (eqb c bracket || false)) (c ∷ run (none_of (bracket ∷ [])) (f ++ (bracket ∷ r))) [] ≡ c ∷ f
    go true p q rec = differ refl q
    go false p q rec =
        let z : eqb c bracket ≡ false = ne_eqb c bracket (λ g. differ {A = ⊥} (eq-eqb bracket c (sym g)) p) in
        ap (λ (t : Bool). cond (not (t || false)) (c ∷ run (none_of (bracket ∷ [])) (f ++ (bracket ∷ r))) []) z ∙ ap (λ (l : List ℕ). c ∷ l) (rec q)

last_of : (a : List ℕ) (c : ℕ) → get_or (a ++ (c ∷ [])) (length a) 0 ≡ c
last_of [] c = refl
last_of (b ∷ a) c = last_of a c

pub bracketed_split : {w f n : List ℕ} → Bracketed w f n → split_of w ≡ bracketed (length f) (length n)
unfolding split_of stop
bracketed_split {w} {f} {n} b =
    let e : w ≡ (f ++ (bracket ∷ n)) ++ (unbracket ∷ []) = b.whole ∙ sym (append_assoc f (bracket ∷ n) (unbracket ∷ [])) in
    let l0 : length w ≡ length (f ++ (bracket ∷ n)) + 1 = ap length e ∙ length-append (f ++ (bracket ∷ n)) (unbracket ∷ []) in
    let l1 : length (f ++ (bracket ∷ n)) ≡ length f + suc (length n) = length-append f (bracket ∷ n) in
    let i : length w - 1 ≡ length (f ++ (bracket ∷ n)) = omega arith in
    let g : byte_at w (length w - 1) ≡ unbracket =
    byte_is w (length w - 1) (omega arith) ∙ ap₂ (λ (l : List ℕ) (k : ℕ). get_or l k 0) e i ∙ last_of (f ++ (bracket ∷ n)) unbracket in
    let r : length (run (none_of (bracket ∷ [])) w) ≡ length f = ap (λ (l : List ℕ). length (run (none_of (bracket ∷ [])) l)) b.whole ∙ ap length (run_first f (n ++ (unbracket ∷ [])) b.first) in
    let s : 0 + length (run (none_of (bracket ∷ [])) w) ≡ length f = omega (arith, r) in
    let m : length w - length f - 2 ≡ length n = omega arith in
    rw (g, s, lt-leb (length w) (length f + 1) (omega arith), m)

pub plain_split : (w : List ℕ) → split_of w ≡ None → (f n : List ℕ) → ¬ Bracketed w f n
plain_split w e f n b = let g : ◌≡◌ {A = Option Brackets} None (bracketed (length f) (length n)) = sym e ∙ bracketed_split b in never {A = ⊥} cc
