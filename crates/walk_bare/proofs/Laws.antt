-- The laws of the walk over a text: what is met at a line, at a PDF and nowhere; the loop; the lines read; a tree in braces.
use mathlib.Core.Path.{◌≡◌, refl, sym, ap, ◌∙◌}
use mathlib.Core.Bool.{Bool, true, false, cond}
use mathlib.Core.List.{List, [], ◌∷◌}
use Prim.Native.Nat.{ℕ, zero, suc, ◌+◌, ◌-◌, ◌*◌, ◌/◌, ◌≤◌, ◌<◌, min}
use native.Mathlib.Nat.{mul-suc, mul-le-mul_right, div-mul-le_self, div-lt_iff_lt-mul, le_trans}
use native.Mathlib.Omega.{arith}
use borrow.Author.Tests.{lt-ltb, le-ltb}
use lib.ListN.{length, get_or}
use Rattle.error.specs.declared.LineFault.{LineFault}
use Rattle.walk_bare.specs.declared.Bare.{Bare}
use Rattle.std.specs.declared.result.Result.{Result}
use Rattle.error.specs.declared.Refusal.{Refusal}
use Rattle.std.specs.Prelude.{Some, None, Ok, Err}
use Rattle.std.specs.declared.option.Option.{Option}
use Rattle.written.specs.Said.{QuestionPlace}
use Rattle.written.specs.Linking.{Nth, here, there}
use Rattle.written.specs.Walks.{chosen, is_yes}
use Rattle.laws.specs.Steps.{Ending, done_at, broken_at}
use Rattle.error.specs.declared.Refusal.TheVariants.{WalkTable, Steps}
use Rattle.tree_reference.specs.declared.TreeIndex.{TreeIndex}
use Rattle.tree_reference.specs.declared.TreeIndex.TheVariants.{Node, Pdf}
use Rattle.tree_line.specs.Lines.{lines_at}
use Rattle.tree_line.specs.declared.Line as code
use Rattle.link_order.specs.Keys.{id_key}
use Rattle.text_parts.specs.Parts.{part_inside}
use Rattle.link_find.specs.Find.{asked, bearer, bearing}
use Rattle.link_find.proofs.Finding.{Stands, nowhere, stands, kept}
use Rattle.text_parts.specs.Parts.{nat_of}
use Rattle.link_alone.specs.Alone.{single_in}
use Rattle.link_shape.specs.Shapes.{shape_single, shape_ending, shape_braces, shape_head}
use Rattle.link_shape.specs.declared.Shape.{Shape}
use Rattle.link_shape.specs.declared.Shape.TheVariants as shape
use Rattle.walk.specs.Walking.{walk_from, walked}
use Rattle.walk.specs.declared.Met.{Met}
use Rattle.walk.specs.declared.Met.TheVariants.{Leaf, Line, Wrong}
use Rattle.walk.proofs.Round.{plus_none, enough_min}
use Rattle.walk.proofs.Following.{Following, following_leaf, following_wrong, following_end, following_on}
use Rattle.walk_bare.specs.Bare.{reply_in, reply_found, reply_to, reply_borne, first_of, sought_in, turn_of, line_number, goal_in, met_reply, met_in, meets_in, read_count, ended_of, alone_of, single_of, ending_of, braces_of, head_of, metered_of, linked_as, meter_at, chosen_of, bare_of, BareTells, no_room, told, bare}
use Rattle.walk_accepts.specs.Accepting.{chosen_tree}
use Rattle.link_window.specs.Windows.{fault_head}
use Rattle.tree_question.specs.Questions.{questions_at}
use Rattle.tree_body.specs.Trees.{head_at}
use Rattle.tree_body.specs.declared.TreeHead.{TreeHead}
use Rattle.tree_body.specs.declared.TreeHead.TheVariants as head
use Rattle.walk_bare.specs.declared.Meter.{Meter}
use Rattle.walk_bare.specs.declared.Sought.TheVariants as sought
use Rattle.walk_bare.specs.declared.Turn.TheVariants as turn

-- ---- a line's reply

module _ (bytes : List ℕ) (q : ℕ) (y n : TreeIndex) where
  is_no : (b : ℕ) → b ≡ 0 → is_yes b ≡ false
  is_no zero e = refl
  is_no (suc b) e = absurd (omega arith)

  is_yes_lem : (b : ℕ) → ¬ (b ≡ 0) → is_yes b ≡ true
  is_yes_lem zero e = absurd (e refl)
  is_yes_lem (suc b) e = refl

  there_is : q < length bytes → reply_in bytes q y n ≡ Some (chosen (is_yes (get_or bytes q 0)) y n)
  unfolding reply_in
  there_is h = ap (λ (b : Bool). cond b (Some (chosen (is_yes (get_or bytes q 0)) y n)) None) (lt-ltb q (length bytes) h)

  pub reply_no : q < length bytes → get_or bytes q 0 ≡ 0 → Some n ≡ reply_in bytes q y n
  reply_no h e = sym (there_is h ∙ ap (λ (b : Bool). Some (chosen b y n)) (is_no (get_or bytes q 0) e))

  pub reply_yes : q < length bytes → ¬ (get_or bytes q 0 ≡ 0) → Some y ≡ reply_in bytes q y n
  reply_yes h e = sym (there_is h ∙ ap (λ (b : Bool). Some (chosen b y n)) (is_yes_lem (get_or bytes q 0) e))

  pub reply_none : length bytes ≤ q → None ≡ reply_in bytes q y n
  unfolding reply_in
  reply_none h = sym (ap (λ (b : Bool). cond b (Some (chosen (is_yes (get_or bytes q 0)) y n)) None) (le-ltb q (length bytes) h))

-- by the question that is found
pub reply_at : (s : List ℕ) (qs : List QuestionPlace) (bytes : List ℕ) (l : code.Line) {f : Option ℕ} {r : Option TreeIndex} → f ≡ asked s (part_inside s l.start l.len) qs → r ≡ reply_found bytes l.yes l.no f → r ≡ reply_to s qs bytes l
unfolding reply_to
reply_at s qs bytes l e h = h ∙ ap (reply_found bytes l.yes l.no) e

-- ---- what is met

module _ (f : code.Line → Met) where
  met_line : {ls : List code.Line} {k : ℕ} {l : code.Line} → Nth ls k l → met_in f ls k ≡ f l
  unfolding met_in
  met_line here = refl
  met_line (there n) = met_line n

  met_leaf : (ls : List code.Line) (p : ℕ) → met_in f ls (length ls + suc p) ≡ Leaf p
  unfolding met_in
  met_leaf [] p = let z : 0 + suc p ≡ suc p = omega arith in ap (met_in f []) z
  met_leaf (l ∷ ls) p = let z : suc (length ls) + suc p ≡ suc (length ls + suc p) = omega arith in ap (met_in f (l ∷ ls)) z ∙ met_leaf ls p

  met_none : (ls : List code.Line) → met_in f ls (length ls) ≡ Wrong
  unfolding met_in
  met_none [] = refl
  met_none (l ∷ ls) = met_none ls

  met_below : (ls : List code.Line) (k j : ℕ) → met_in f ls k ≡ Line j → k < length ls
  unfolding met_in
  met_below [] zero j e = let z : ◌≡◌ {A = ℕ} 0 1 = cc in absurd (omega arith)
  met_below [] (suc k) j e = let z : ◌≡◌ {A = ℕ} 0 1 = cc in absurd (omega arith)
  met_below (l ∷ ls) zero j e = omega arith
  met_below (l ∷ ls) (suc k) j e = omega (arith, met_below ls k j e)

module _ (s : List ℕ) (qs : List QuestionPlace) (bytes : List ℕ) (ls : List code.Line) where
  pub meets_line : {k : ℕ} {l : code.Line} → Nth ls k l → meets_in s qs bytes ls k ≡ met_reply ls (reply_to s qs bytes l)
  unfolding meets_in
  meets_line n = met_line (λ l. met_reply ls (reply_to s qs bytes l)) n

  pub meets_leaf : (p : ℕ) → meets_in s qs bytes ls (length ls + suc p) ≡ Leaf p
  unfolding meets_in
  meets_leaf p = met_leaf (λ l. met_reply ls (reply_to s qs bytes l)) ls p

  meets_none : meets_in s qs bytes ls (length ls) ≡ Wrong
  unfolding meets_in
  meets_none = met_none (λ l. met_reply ls (reply_to s qs bytes l)) ls

  meets_below : (k j : ℕ) → meets_in s qs bytes ls k ≡ Line j → k < length ls
  unfolding meets_in
  meets_below k j e = met_below (λ l. met_reply ls (reply_to s qs bytes l)) ls k j e

  -- the line that is sought

  pub meets_first : meets_in s qs bytes ls 0 ≡ met_reply ls (reply_borne s qs bytes (first_of ls))
  unfolding meets_in met_in
  meets_first = go ls
    where
      go : (ks : List code.Line) → met_in (λ l. met_reply ls (reply_to s qs bytes l)) ks 0 ≡ met_reply ls (reply_borne s qs bytes (first_of ks))
      go [] = refl
      go (k ∷ ks) = refl

  meets_bearing : (x : ℕ) → meets_in s qs bytes ls (line_number (length ls) (bearer x ls)) ≡ met_reply ls (reply_borne s qs bytes (bearing x ls))
  meets_bearing x = go (kept x ls)
    where
      go : {f : Option ℕ} {g : Option code.Line} → Stands ls f g → meets_in s qs bytes ls (line_number (length ls) f) ≡ met_reply ls (reply_borne s qs bytes g)
      go nowhere = meets_none
      go (stands n) = meets_line n

  -- where a reference leads

  turn_leaf : (x : TreeIndex) {p : ℕ} → turn.Leaf p ≡ turn_of x → meets_in s qs bytes ls (goal_in ls x) ≡ Leaf p
  turn_leaf (Pdf x) {p} e = let z : nat_of x ≡ p = cc in meets_leaf (nat_of x) ∙ ap Leaf z
  turn_leaf (Node x) e = let z : ◌≡◌ {A = ℕ} 0 1 = cc in absurd (omega arith)

  turn_line : (x : TreeIndex) {k : ℕ} → turn.Line k ≡ turn_of x → goal_in ls x ≡ line_number (length ls) (bearer k ls)
  turn_line (Pdf x) e = let z : ◌≡◌ {A = ℕ} 0 1 = cc in absurd (omega arith)
  turn_line (Node x) {k} e = let z : id_key x ≡ k = cc in ap (λ (y : ℕ). line_number (length ls) (bearer y ls)) z

  -- ---- the loop

  -- at a line that was answered, after so many questions
  pub record Walking (limit n : ℕ) (reply : Option TreeIndex) (asked : ℕ) : Type 0 where
    pub k : ℕ
    pub said : meets_in s qs bytes ls k ≡ met_reply ls reply
    pub follows : Following (meets_in s qs bytes ls) limit n k asked

  pub walking_none : (limit n : ℕ) {r : Option TreeIndex} → n ≡ length ls → r ≡ reply_borne s qs bytes (sought_in ls sought.First) → Walking limit n r 0
  walking_none limit n e h =
      let z : min limit n - 0 ≡ min limit (length ls) = omega arith in
      record {
        k = 0;
        said = meets_first ∙ ap (met_reply ls) (sym h);
        follows = record {
          limited = omega arith;
          bounded = omega arith;
          rest = plus_none (walk_from (meets_in s qs bytes ls) (min limit n - 0) 0) ∙ ap (λ (l : ℕ). walk_from (meets_in s qs bytes ls) l 0) z
              ∙ enough_min (meets_in s qs bytes ls) 0 (length ls) (λ k j m. meets_below k j m) limit;
        };
      }

  module _ {limit n : ℕ} {r : Option TreeIndex} {a : ℕ} (w : Walking limit n r a) where
    met_here : {g : Option TreeIndex} → r ≡ g → meets_in s qs bytes ls w.k ≡ met_reply ls g
    met_here e = w.said ∙ ap (met_reply ls) e

    pub walking_missing : r ≡ None → Err WalkTable ≡ walk_from (meets_in s qs bytes ls) limit 0
    walking_missing e = following_wrong (meets_in s qs bytes ls) limit n w.k a w.follows (met_here e)

    module _ {x : TreeIndex} (e : r ≡ Some x) where
      goes_on : meets_in s qs bytes ls w.k ≡ Line (goal_in ls x)
      goes_on = met_here e

      pub walking_limit : a ≡ limit → Err Steps ≡ walk_from (meets_in s qs bytes ls) limit 0
      walking_limit q = following_end (meets_in s qs bytes ls) limit n w.k a w.follows goes_on (omega (arith, q))

      pub walking_reach : a ≡ n → Err Steps ≡ walk_from (meets_in s qs bytes ls) limit 0
      walking_reach q = following_end (meets_in s qs bytes ls) limit n w.k a w.follows goes_on (omega (arith, q))

      module _ (p : a ≡ limit → ⊥) (q : a ≡ n → ⊥) where
        further : Following (meets_in s qs bytes ls) limit n (goal_in ls x) (a + 1)
        further = following_on (meets_in s qs bytes ls) limit n w.k a w.follows goes_on (omega (arith, p, q, w.follows.limited, w.follows.bounded))

        pub walking_leaf : {m : ℕ} → turn.Leaf m ≡ turn_of x → Ok (walked m (a + 1)) ≡ walk_from (meets_in s qs bytes ls) limit 0
        walking_leaf h = following_leaf (meets_in s qs bytes ls) limit n (goal_in ls x) (a + 1) further (turn_leaf x h)

        pub walking_on : {m : ℕ} → turn.Line m ≡ turn_of x → {t : Option TreeIndex} → t ≡ reply_borne s qs bytes (sought_in ls (sought.Bearing m)) → Walking limit n t (a + 1)
        walking_on {m} h v = record { k = goal_in ls x; said = ap (meets_in s qs bytes ls) (turn_line x h) ∙ meets_bearing m ∙ ap (met_reply ls) (sym v); follows = further }

-- ---- the lines read

module _ (n a : ℕ) where
  module _ (h : 1 < a) where
    passes : n * a ≡ n * (a - 1) + n
    passes = let z : a ≡ suc (a - 1) = omega arith in ap (λ (i : ℕ). n * i) z ∙ mul-suc n (a - 1)

    pub count_fits : n ≤ 18446744073709551614 / (a - 1) → n * (a - 1) ≤ 18446744073709551614
    count_fits l = le_trans (mul-le-mul_right (a - 1) l) (div-mul-le_self 18446744073709551614 (a - 1))

    pub count_is : n ≤ 18446744073709551614 / (a - 1) → 1 + n * (a - 1) ≡ read_count n a
    unfolding read_count
    count_is l = let f = count_fits l in let e = passes in omega (arith, f, e)

    pub count_most : 18446744073709551614 / (a - 1) < n → 18446744073709551615 ≡ read_count n a
    unfolding read_count
    count_most l =
        let p : 0 < a - 1 = omega arith in
        let f : 18446744073709551614 < n * (a - 1) = (div-lt_iff_lt-mul p).0 l in
        let e = passes in omega (arith, f, e)

  pub count_few : a ≤ 1 → 1 ≡ read_count n a
  unfolding read_count
  count_few h = go a refl h
    where
      go : (b : ℕ) → a ≡ b → b ≤ 1 → 1 ≡ min (1 + (n * a - n)) 18446744073709551615
      go zero e l = let z : n * a ≡ n * 0 = ap (λ (i : ℕ). n * i) e in omega (arith, z)
      go (suc zero) e l = let z : n * a ≡ n * 1 = ap (λ (i : ℕ). n * i) e in omega (arith, z)
      go (suc (suc b)) e l = absurd (omega arith)

-- ---- a tree, by its shape

module _ (s : List ℕ) (qs : List QuestionPlace) (bytes : List ℕ) (limit : ℕ) where
  abbrev pub walk_shape : Shape → Result Bare Refusal
  walk_shape (shape.One x n) = alone_of n x
  walk_shape shape.Empty = Err WalkTable
  walk_shape (shape.Lines f n) = ended_of n (walk_from (meets_in s qs bytes (lines_at s f).items) limit 0)
  walk_shape shape.Broken = Err WalkTable

  pub walk_shape_lem : (h : TreeHead) → walk_shape (shape_head s h) ≡ head_of s qs bytes limit h
  unfolding shape_braces braces_of
  walk_shape_lem (head.Lone x r e) = refl
  walk_shape_lem (head.Empty x e) = refl
  walk_shape_lem head.NoTree = refl
  walk_shape_lem (head.Lines x f) = go (lines_at s f).ending
    where
      one : (t : Option TreeIndex) → walk_shape (shape_single f (length (lines_at s f).items) t) ≡ single_of s qs bytes limit (lines_at s f).items t
      one (Some y) = refl
      one None = refl

      go : (e : Ending) → walk_shape (shape_ending f (lines_at s f).items e) ≡ ending_of s qs bytes limit (lines_at s f).items e
      go (done_at e) = one (single_in (lines_at s f).items)
      go (broken_at e) = refl

pub ended_pdf : (n : ℕ) {p a r : ℕ} → r ≡ read_count n a → Ok (bare p a r) ≡ ended_of n (Ok (walked p a))
ended_pdf n {p = p} {a = a} e = ap (λ (k : ℕ). Ok (bare p a k)) e

-- ---- the call

module _ (s : List ℕ) (t : ℕ) (bytes : List ℕ) (limit : ℕ) where
  pub meter_so : (i : ℕ) {l : Result Unit LineFault} {m : Meter} → l ≡ fault_head s (questions_at s 0).items (head_at s i) → m ≡ linked_as t (metered_of (head_of s (questions_at s 0).items bytes limit (head_at s i))) l → m ≡ meter_at s t bytes limit i
  unfolding meter_at
  meter_so i e h = h ∙ ap (linked_as t (metered_of (head_of s (questions_at s 0).items bytes limit (head_at s i)))) e

  pub bare_so : {c : Result ℕ Refusal} {m : Meter} → c ≡ chosen_tree s t → m ≡ chosen_of s t bytes limit c → m ≡ bare_of s t bytes limit
  unfolding bare_of
  bare_so e h = h ∙ ap (chosen_of s t bytes limit) e

-- what is promised fixes what is returned and `out`
pub bare_tells_once : {s : List ℕ} {t : ℕ} {bytes : List ℕ} {limit : ℕ} {out : List ℕ} {r u : ℕ} {e f : List ℕ} → BareTells s t bytes limit out r e → BareTells s t bytes limit out u f → (r ≡ u) × (e ≡ f)
bare_tells_once (no_room h a b) (no_room k x y) = (a ∙ sym x, b ∙ sym y)
bare_tells_once (no_room h a b) (told k x y) = absurd (omega arith)
bare_tells_once (told h a b) (no_room k x y) = absurd (omega arith)
bare_tells_once (told h a b) (told k x y) = (a ∙ sym x, b ∙ sym y)
