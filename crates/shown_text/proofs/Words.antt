-- What the grammar gives linking: a name stands where its span says, a question's row has its name, and every word of a tree's lines is below 2^63.
--
use mathlib.Core.Path.{◌≡◌, refl, sym, ap, ◌∙◌}
use mathlib.Core.Bool.{Bool, true, false}
use mathlib.Core.List.{List, [], ◌++◌, append-nil, zip_with}
use Prim.Native.Nat.{ℕ, zero, suc, ◌+◌, ◌-◌, ◌^◌, ◌≤◌, ◌<◌}
use native.Mathlib.Decide.{dec_lt}
use native.Mathlib.Omega.{arith}
use borrow.Author.Tests.{le-leb}
use lib.IntN.{ℤ, pos, neg_ℤ}
use lib.Signed.{mag}
use lib.ListN.{length, get_or, drop_of_length-le}
use lib.Seq.{sets}
use Rattle.std.specs.declared.option.Option.{Option}
use Rattle.std.specs.Prelude.{Some, None}
use Rattle.written.specs.Bytes.{in_name, between, same, Span}
use Rattle.written.specs.Said as said
use Rattle.written.specs.Said.{Ref, Question, QuestionPlace}
use Rattle.written.specs.TreeText.{Parted, last, next, Run₁, some, Number, plus, minus, Bare, number, word, Reference, bare, quoted, Parting, LineParting, LineAt, line, QuestionAt, question}
use Rattle.written.specs.Linking.{Nth, here, there}
use Rattle.written.proofs.Once.{run₁-lt, question_first}
use Rattle.written.proofs.Decide.{question_le, parting_lt}
use Rattle.laws.proofs.Runs.{byte_out, byte_in}
use Rattle.laws.proofs.Tables.{sets-front}
use Rattle.text_spaces.proofs.Joined.{no_name, run_inside}
use Rattle.link_order.specs.Keys.{name_at}
use Rattle.text_parts.specs.Parts.{part_inside}
use Rattle.link_search.specs.Found.{last_below}
use Rattle.tree_reference.specs.References.{index_of}
use Rattle.tree_reference.specs.declared.TreeIndex.{TreeIndex}
use Rattle.tree_reference.specs.declared.TreeIndex.TheVariants.{Node, Pdf}
use Rattle.tree_line.specs.Lines.{line_of}
use Rattle.tree_line.specs.declared.Line.{Line}
use Rattle.link_search.proofs.Last.{last_found}
use Rattle.load_lines.specs.Words.{kind_of, number_of, asked_of, asked_at, words_of, line_words}
use Rattle.load_questions.specs.Words.{question_words}
use Rattle.load_questions.proofs.Rows.{questions_length}
use Rattle.load_questions.proofs.Decoded.{question_name_is}

-- ---- lists of items

-- the item that says x, and where it stands
pub parted_nth : {A B : Type 0} {Part : ℕ → ℕ → Type 0} {Item : ℕ → ℕ → A → B → Type 0} {i j k : ℕ} {xs : List A} {ys : List B} {x : A}
    → Parted Part Item i j xs ys → Nth xs k x → (y : B) × (a : ℕ) × (b : ℕ) × Nth ys k y × Item a b x y
parted_nth (last t) here = (_, _, _, here, t)
parted_nth (next t p r) here = (_, _, _, here, t)
parted_nth (last t) (there h) = elim h [ ]
parted_nth (next t p r) (there h) = let f = parted_nth r h in (f.0, f.1, f.2, there f.3, f.4)

-- as many in code as are said
pub zipped_length : {A B C : Type 0} {Part : ℕ → ℕ → Type 0} {Item : ℕ → ℕ → A → B → Type 0} (code : A → B → C) {i j : ℕ} {xs : List A} {ys : List B}
    → Parted Part Item i j xs ys → length (zip_with code xs ys) ≡ length xs
unfolding zip_with
zipped_length code (last t) = refl
zipped_length code (next t p r) = ap suc (zipped_length code r)

module _ (s : List ℕ) where
  -- ---- names

  run₁_inside : {p : ℕ → Bool} {i j : ℕ} → p 256 ≡ false → Run₁ s p i j → j ≤ length s
  run₁_inside {p} n (some {i = i} y r) = run_inside s n r (go (dec_lt i (length s)))
    where
      go : Dec (i < length s) → suc i ≤ length s
      go (yes h) = h
      go (no h) =
          let u : ◌≡◌ {A = Bool} true false = sym y ∙ ap p (byte_out s i (omega arith)) ∙ n in
          let t : ◌≡◌ {A = ℕ} 0 1 = cc in absurd (omega arith)

  pub name_stands : {b c : ℕ} → Run₁ s in_name b c → part_inside s b (c - b) ≡ between s b c
  unfolding part_inside between
  name_stands {b} {c} r =
      let l : b < c = run₁-lt r in
      let h : c ≤ length s = run₁_inside no_name r in
      rw (le-leb b (length s) (omega arith), le-leb (c - b) (length s - b) (omega arith))

  -- ---- questions

  question_stands : {i j : ℕ} {x : Question} {y : QuestionPlace} → QuestionAt s i j x y → part_inside s y.name.start y.name.len ≡ x.name
  question_stands (question q a n b c d ps e f) = name_stands n

  -- the name that linking finds in a question's row
  pub question_named : {i a : ℕ} {qs : List Question} {ws : List QuestionPlace} → Parted (Parting s) (QuestionAt s) i a qs ws
      → (e : ℕ) (q : Question) → Nth qs e q → name_at s (question_words 0 ws) e ≡ q.name
  question_named {ws = ws} p e q h =
      let f = parted_nth p h in
      let W = question_words 0 ws in
      let all : length W ≤ length W = omega arith in
      let own : sets W 0 W ≡ W = sets-front W W all ∙ ap (λ (l : List ℕ). W ++ l) (drop_of_length-le W all) ∙ append-nil W in
      ap (λ (t : List ℕ). name_at s t e) (sym own) ∙ question_name_is W ws (omega (arith, questions_length 0 ws)) f.3 s ∙ question_stands f.4

  -- each question takes a byte
  pub questions_few : {i a : ℕ} {qs : List Question} {ws : List QuestionPlace} → Parted (Parting s) (QuestionAt s) i a qs ws → length qs + i ≤ length s
  questions_few (last {i = i} t) = omega (arith, byte_in s i (question_first t) (omega arith))
  questions_few (next t p r) = omega (arith, question_le s t, parting_lt s p, questions_few r)

  -- ---- numbers

  negated : (n : ℕ) → n ≤ 2 ^ 63 → mag (neg_ℤ (pos n)) < 2 ^ 63
  negated zero h = omega arith
  negated (suc n) h = omega arith

  number_small : {i j : ℕ} {x : ℤ} → Number s i j x → mag x < 2 ^ 63
  number_small (plus d h) = h
  number_small (minus {n = n} w d h) = negated n h

  bare_small : {i j : ℕ} {r : Ref} → Bare s i j r → mag (number_of (index_of r)) < 2 ^ 63
  bare_small (number x) = number_small x
  bare_small (word n r a b d h) = h

  reference_small : {i j : ℕ} {r : Ref} → Reference s i j r → mag (number_of (index_of r)) < 2 ^ 63
  reference_small (bare b) = bare_small b
  reference_small (quoted p b q) = bare_small b

  kind_small : (x : TreeIndex) → mag (kind_of x) < 2 ^ 63
  kind_small (Node x) = omega arith
  kind_small (Pdf x) = omega arith

  asked_small : (words : List ℕ) (n start len : ℕ) → n < 2 ^ 63 → mag (asked_at s words n start len) < 2 ^ 63
  unfolding asked_at
  asked_small words n start len h = go (last_below (λ e. same (name_at s words e) (part_inside s start len)) n) refl
    where
      go : (f : Option ℕ) → last_below (λ e. same (name_at s words e) (part_inside s start len)) n ≡ f → mag (asked_of f) < 2 ^ 63
      go (Some k) e = let f = last_found (λ e. same (name_at s words e) (part_inside s start len)) n k e in omega (arith, f.0)
      go None e = omega arith

  -- ---- the words of lines

  abbrev Small : List ℤ → Type 0
  Small w = (i : ℕ) → mag (get_or w i (pos 0)) < 2 ^ 63

  line_small : (l : Line) (a : ℤ) (rest : List ℤ) → mag l.id < 2 ^ 63 → mag (number_of l.yes) < 2 ^ 63 → mag (number_of l.no) < 2 ^ 63 → mag a < 2 ^ 63 → Small rest → Small (words_of l a ++ rest)
  line_small l a rest x y n q r zero = x
  line_small l a rest x y n q r (suc zero) = kind_small l.yes
  line_small l a rest x y n q r (suc (suc zero)) = y
  line_small l a rest x y n q r (suc (suc (suc zero))) = kind_small l.no
  line_small l a rest x y n q r (suc (suc (suc (suc zero)))) = n
  line_small l a rest x y n q r (suc (suc (suc (suc (suc zero))))) = q
  line_small l a rest x y n q r (suc (suc (suc (suc (suc (suc i)))))) = r i

  module _ (words : List ℕ) (n : ℕ) (few : n < 2 ^ 63) where
    line_at_small : {i j : ℕ} {l : said.Line} {w : Span} (rest : List ℤ) → LineAt s i j l w → Small rest → Small (words_of (line_of l w) (asked_at s words n w.start w.len) ++ rest)
    line_at_small {l = e} {w = w} rest (line x _ k _ l _ r) f =
        line_small (line_of e w) (asked_at s words n w.start w.len) rest (number_small x) (reference_small r) (reference_small l) (asked_small words n w.start w.len few) f

    pub words_small : {b c : ℕ} {ls : List said.Line} {ws : List Span} → Parted (LineParting s) (LineAt s) b c ls ws
        → (i : ℕ) → mag (get_or (line_words s words n (zip_with line_of ls ws)) i (pos 0)) < 2 ^ 63
    unfolding zip_with line_words
    words_small (last t) = line_at_small [] t (λ i. omega arith)
    words_small (next {xs = xs} {ys = ys} t p r) = line_at_small (line_words s words n (zip_with line_of xs ys)) t (words_small r)
