-- The answers of this crate and `written`'s grammar of tree text are the same: what stands there is answered, what is answered stands there.
use mathlib.Core.Path.{◌≡◌, refl, sym, ap, ◌∙◌, subst}
use mathlib.Core.Bool.{Bool, true, false, cond}
use mathlib.Core.List.{List}
use Prim.Native.Nat.{ℕ, ◌+◌, ◌-◌, ◌≤◌, ◌<◌}
use native.Mathlib.Numerals.{add-one}
use native.Mathlib.Omega.{arith}
use borrow.Author.Tests.{lt-ltb, ltb-true, eq-eqb, eqb-true}
use lib.Dec.{ltb, eqb}
use Rattle.text_parts.specs.Parts.{read_to, cut}
use Rattle.std.specs.declared.option.Option.{Option}
use Rattle.std.specs.Prelude.{Some, None}
use Rattle.written.specs.Bytes.{blank, space_or_tab, in_name, byte_at, newline, unbrace}
use lib.ListN.{length}
use native.Mathlib.Decide.{dec_lt}
use Rattle.written.proofs.Once.{Before, before, word_first, run-le}
use Rattle.written.specs.TreeText.{Byte, end, byte, Run, stop as stops, more, Run₁, Parting, LineParting, parting}
use Rattle.laws.specs.Runs.{stop}
use Rattle.laws.proofs.Runs.{byte_in, byte_out}
use Rattle.laws.proofs.Stops.{run-stop, run_is, run₁-stop, run₁_is}
use Rattle.text_spaces.specs.Spaces.{name_of, name_at, past_byte, newline_at, then_at, parting_at, line_parting_at, close_at}

-- none of these classes has the number that stands for the end of a text
pub no_blank : blank 256 ≡ false
unfolding blank
no_blank = refl

pub no_space : space_or_tab 256 ≡ false
unfolding space_or_tab
no_space = refl

pub no_name : in_name 256 ≡ false
unfolding in_name
no_name = refl

-- two cases that can't both be
pub clash : {A : Type 0} → ◌≡◌ {A = ℕ} 0 1 → A
clash e = absurd (omega arith)

-- ---- one byte

pub byte_past : {b i j : ℕ} {s : List ℕ} → Byte s b i j → past_byte b s i ≡ Some j
unfolding past_byte
byte_past {b} {i} {s = s} (byte h end) = rw (eq-eqb (byte_at s i) b h, add-one i)

pub past_byte_lem : (b i j : ℕ) (s : List ℕ) → past_byte b s i ≡ Some j → Byte s b i j
unfolding past_byte
past_byte_lem b i j s e = go (eqb (byte_at s i) b) refl e
  where
    go : (t : Bool) → eqb (byte_at s i) b ≡ t → cond t (Some (i + 1)) None ≡ Some j → Byte s b i j
    go true h k = let p : i + 1 ≡ j = cc in subst (λ (m : ℕ). Byte s b i m) (sym (add-one i) ∙ p) (byte (eqb-true (byte_at s i) b h) end)
    go false h k = clash (cc)

module _ (s : List ℕ) where
  -- ---- a name between blanks

  pub name_found : {a b c d : ℕ} → Run₁ s blank a b → Run₁ s in_name b c → Run₁ s blank c d → name_at s a ≡ Some (read_to (cut b (c - b)) d)
  unfolding name_at name_of
  name_found {a} {b} {c} {d} r n t =
      let p = run₁-stop blank no_blank s r in
      let q = run₁-stop in_name no_name s n in
      let u = run₁-stop blank no_blank s t in
      rw (p.0, q.0, u.0, lt-ltb a b p.1, lt-ltb b c q.1, lt-ltb c d u.1)

  -- blanks, a name of n bytes from b on, blanks
  pub record Named (a b n d : ℕ) : Type 0 where
    pub ends : ℕ
    pub before : Run₁ s blank a b
    pub name : Run₁ s in_name b ends
    pub behind : Run₁ s blank ends d
    pub long : ends - b ≡ n

  pub found_name : (a b n d : ℕ) → name_at s a ≡ Some (read_to (cut b n) d) → Named a b n d
  unfolding name_at name_of
  found_name a b n d e = go (stop blank s a) refl (stop in_name s (stop blank s a)) refl (stop blank s (stop in_name s (stop blank s a))) refl e
    where
      go : (x : ℕ) → stop blank s a ≡ x → (y : ℕ) → stop in_name s (stop blank s a) ≡ y → (z : ℕ) → stop blank s (stop in_name s (stop blank s a)) ≡ z
          → name_of a x y z ≡ Some (read_to (cut b n) d) → Named a b n d
      go x p y q z r h = pick (ltb a x) refl (ltb x y) refl (ltb y z) refl h
        where
          runs : a < x → x < y → y < z → x ≡ b → y - x ≡ n → z ≡ d → Named a b n d
          runs f g k u v w =
              let one : stop in_name s x ≡ y = ap (stop in_name s) (sym p) ∙ q in
              let two : stop blank s y ≡ z = ap (stop blank s) (sym q) ∙ r in
              record {
                ends = y;
                before = subst (Run₁ s blank a) (p ∙ u) (run₁_is blank no_blank s a (omega (arith, p)));
                name = subst (λ (m : ℕ). Run₁ s in_name m y) u (subst (Run₁ s in_name x) one (run₁_is in_name no_name s x (omega (arith, one))));
                behind = subst (Run₁ s blank y) (two ∙ w) (run₁_is blank no_blank s y (omega (arith, two)));
                long = ap (λ (m : ℕ). y - m) (sym u) ∙ v;
              }

          pick : (f : Bool) → ltb a x ≡ f → (g : Bool) → ltb x y ≡ g → (k : Bool) → ltb y z ≡ k
              → cond f (cond g (cond k (Some (read_to (cut x (y - x)) z)) None) None) None ≡ Some (read_to (cut b n) d) → Named a b n d
          pick true f true g true k h =
              let u : x ≡ b = grind arith in
              let v : y - x ≡ n = grind arith in
              let w : z ≡ d = grind arith in
              runs (ltb-true a x f) (ltb-true x y g) (ltb-true y z k) u v w
          pick true f true g false k h = clash (cc)
          pick true f false g t k h = clash (cc)
          pick false f u g t k h = clash (cc)

  -- ---- what parts two items

  newline-found : {i a b : ℕ} → Run s space_or_tab i a → Byte s newline a b → newline_at s i ≡ Some b
  unfolding newline_at
  newline-found r w = rw (run-stop space_or_tab no_space s r) (byte_past w)

  -- the same place, with something done from there on
  then_at_lem : (f : ℕ → ℕ) (p : Option ℕ) (j : ℕ) → then_at f p ≡ Some j → (b : ℕ) × (p ≡ Some b) × (f b ≡ j)
  then_at_lem f (Some b) j e = (b, refl, let q : f b ≡ j = cc in q)
  then_at_lem f None j e = clash (cc)

  found-newline : (i b : ℕ) → newline_at s i ≡ Some b → Run s space_or_tab i (stop space_or_tab s i) × Byte s newline (stop space_or_tab s i) b
  unfolding newline_at
  found-newline i b e = (run_is space_or_tab no_space s i, past_byte_lem newline (stop space_or_tab s i) b s e)

  pub parting_found : {i j : ℕ} → Parting s i j → parting_at s i ≡ Some j
  unfolding parting_at
  parting_found (parting r w b) = ap (then_at (stop blank s)) (newline-found r w) ∙ ap Some (run-stop blank no_blank s b)

  pub found_parting : (i j : ℕ) → parting_at s i ≡ Some j → Parting s i j
  unfolding parting_at
  found_parting i j e =
      let h = then_at_lem (stop blank s) (newline_at s i) j e in
      let n = found-newline i h.0 h.1 in
      parting n.0 n.1 (subst (Run s blank h.0) h.2 (run_is blank no_blank s h.0))

  pub line_parting_found : {i j : ℕ} → LineParting s i j → line_parting_at s i ≡ Some j
  unfolding line_parting_at
  line_parting_found (parting r w t b) =
      ap (then_at (λ j. stop blank s (stop space_or_tab s j))) (newline-found r w) ∙ ap (λ (k : ℕ). Some (stop blank s k)) (run-stop space_or_tab no_space s t) ∙ ap Some (run-stop blank no_blank s b)

  pub found_line_parting : (i j : ℕ) → line_parting_at s i ≡ Some j → LineParting s i j
  unfolding line_parting_at
  found_line_parting i j e =
      let h = then_at_lem (λ j. stop blank s (stop space_or_tab s j)) (newline_at s i) j e in
      let n = found-newline i h.0 h.1 in
      let t = stop space_or_tab s h.0 in
      parting n.0 n.1 (run_is space_or_tab no_space s h.0) (subst (Run s blank t) h.2 (run_is blank no_blank s t))

  -- ---- what closes braces

  -- blanks from i on, and a } up to j
  pub record Closed (i j : ℕ) : Type 0 where
    pub brace : ℕ
    pub blanks : Run s blank i brace
    pub shut : Byte s unbrace brace j

  pub close_found : {i j : ℕ} → Closed i j → close_at s i ≡ Some j
  unfolding close_at
  close_found c = rw (run-stop blank no_blank s c.blanks) (byte_past c.shut)

  pub found_close : (i j : ℕ) → close_at s i ≡ Some j → Closed i j
  unfolding close_at
  found_close i j e = record { brace = stop blank s i; blanks = run_is blank no_blank s i; shut = past_byte_lem unbrace (stop blank s i) j s e }

  pub closed_before : {i j : ℕ} → Closed i j → Before s 125 i
  closed_before c = before c.blanks (word_first c.shut)

  -- ---- what is read stays inside the text

  pub run_inside : {p : ℕ → Bool} {i j : ℕ} → p 256 ≡ false → Run s p i j → i ≤ length s → j ≤ length s
  run_inside n (stops f) h = h
  run_inside {p} {i} {j} n (more y r) h = go (dec_lt i (length s)) (λ l. run_inside n r l)
    where
      go : Dec (i < length s) → (i < length s → j ≤ length s) → j ≤ length s
      go (yes l) later = later l
      go (no l) later = let e : p (byte_at s i) ≡ false = ap p (byte_out s i (omega arith)) ∙ n in let u : ◌≡◌ {A = ℕ} 0 1 = cc in clash u

  pub byte_inside : {b i j : ℕ} → Byte s b i j → b < 256 → j ≤ length s
  byte_inside {i = i} (byte h end) l = byte_in s i h l

  pub parting_inside : {i j : ℕ} → Parting s i j → j ≤ length s
  parting_inside (parting r w b) = run_inside no_blank b (byte_inside w (omega arith))

  pub line_parting_inside : {i j : ℕ} → LineParting s i j → j ≤ length s
  line_parting_inside (parting r w t b) = run_inside no_blank b (run_inside no_space t (byte_inside w (omega arith)))

  pub closed_inside : {i j : ℕ} → Closed i j → j ≤ length s
  closed_inside c = byte_inside c.shut (omega arith)

  pub closed-lt : {i j : ℕ} → Closed i j → i < j
  closed-lt c = past c.blanks c.shut
    where
      past : {i h j : ℕ} → Run s blank i h → Byte s unbrace h j → i < j
      past r (byte e end) = omega (arith, run-le r)
