-- The survey of a text is that of what it says, whatever its layout; and what its counts are in the words of `written`.
use mathlib.Core.Path.{◌≡◌, refl, sym, ap, ap₂, ◌∙◌}
use mathlib.Core.Bool.{Bool, true, false, cond, ◌||◌}
use mathlib.Core.List.{List, [], ◌∷◌, ◌++◌, zip_with}
use mathlib.Core.Logic.{◌⊎◌, inl, inr}
use Prim.Native.Nat.{ℕ, suc, ◌+◌}
use native.Mathlib.Omega.{arith}
use lib.IntN.{ℤ, pos, negsuc}
use lib.ListN.{length, length-append}
use Rattle.tree_survey.specs.declared.SurveyError.TheVariants as fault
use Rattle.std.specs.Prelude.{Ok, Err}
use Rattle.written.specs.Bytes.{Span}
use Rattle.written.specs.Said as says
use Rattle.written.specs.TreeText.{Parted, last as only, next as then, LineParting, LineAt, BodyAt, one, none, lines, TreeAt, tree, QuestionAt, question, TreesAt, trees, Says, without, with_questions}
use Rattle.written.specs.Linking.{Nth, here, there, Single, alone, alike, NotSingle, pdf_of, pdfs}
use Rattle.written.specs.Tables as tables
use Rattle.laws.specs.Totals.{total, larger, largest, any_of}
use Rattle.tree_reference.specs.References.{index_of, same_index, pdf_count}
use Rattle.tree_reference.proofs.Same.{same_index_lem, index_same}
use Rattle.tree_survey_questions.specs.Counts.{pattern_count}
use Rattle.tree_line.specs.Lines.{line_of}
use Rattle.tree_survey_lines.specs.Counts.{line_pdfs, records_of}
use Rattle.tree_body.specs.Trees.{body_of, tree_of}
use Rattle.tree_survey.specs.Survey.{negative, body_records, body_lines, tree_negative, tree_records, tree_lines, survey_of, survey_at, counts_of}
use Rattle.tree_survey.specs.Said.{said_patterns, said_records, said_body_records, said_body_lines, said_negative, said_tree_records, said_tree_lines, said_survey}
use Rattle.tree_survey.proofs.Joined.{survey_says, whole_says}

-- ---- items that are parted: as many are said as are laid, and numbers of what is said are numbers of what is read

module _ {A B : Type 0} {Part : ℕ → ℕ → Type 0} {Item : ℕ → ℕ → A → B → Type 0} where
  pub same_length : {i j : ℕ} {xs : List A} {ys : List B} → Parted Part Item i j xs ys → length xs ≡ length ys
  same_length (only t) = refl
  same_length (then t p r) = ap suc (same_length r)

  totals : (f : B → ℕ) (g : A → ℕ) → ((i j : ℕ) (x : A) (y : B) → Item i j x y → f y ≡ g x) → {i j : ℕ} {xs : List A} {ys : List B} → Parted Part Item i j xs ys → total f ys ≡ total g xs
  unfolding total
  totals f g e (only t) = ap (λ (n : ℕ). n + 0) (e _ _ _ _ t)
  totals f g e (then t p r) = ap₂ ◌+◌ (e _ _ _ _ t) (totals f g e r)

  module _ {C : Type 0} (code : A → B → C) where
    zipped_length : {i j : ℕ} {xs : List A} {ys : List B} → Parted Part Item i j xs ys → length (zip_with code xs ys) ≡ length xs
    unfolding zip_with
    zipped_length (only t) = refl
    zipped_length (then t p r) = ap suc (zipped_length r)

    zipped_total : (f : C → ℕ) (g : A → ℕ) → ((i j : ℕ) (x : A) (y : B) → Item i j x y → f (code x y) ≡ g x) → {i j : ℕ} {xs : List A} {ys : List B} → Parted Part Item i j xs ys → total f (zip_with code xs ys) ≡ total g xs
    unfolding zip_with total
    zipped_total f g e (only t) = ap (λ (n : ℕ). n + 0) (e _ _ _ _ t)
    zipped_total f g e (then t p r) = ap₂ ◌+◌ (e _ _ _ _ t) (zipped_total f g e r)

    zipped_largest : (f : C → ℕ) (g : A → ℕ) (m : ℕ) → ((i j : ℕ) (x : A) (y : B) → Item i j x y → f (code x y) ≡ g x) → {i j : ℕ} {xs : List A} {ys : List B} → Parted Part Item i j xs ys → largest f m (zip_with code xs ys) ≡ largest g m xs
    unfolding zip_with largest
    zipped_largest f g m e (only t) = ap (larger m) (e _ _ _ _ t)
    zipped_largest f g m e (then {x = x} {y = y} {xs = xs} t p r) = zipped_largest f g (larger m (f (code x y))) e r ∙ ap (λ (n : ℕ). largest g (larger m n) xs) (e _ _ _ _ t)

    zipped_any : (f : C → Bool) (g : A → Bool) (b : Bool) → ((i j : ℕ) (x : A) (y : B) → Item i j x y → f (code x y) ≡ g x) → {i j : ℕ} {xs : List A} {ys : List B} → Parted Part Item i j xs ys → any_of f b (zip_with code xs ys) ≡ any_of g b xs
    unfolding zip_with any_of
    zipped_any f g b e (only t) = ap (b ||◌) (e _ _ _ _ t)
    zipped_any f g b e (then {x = x} {y = y} {xs = xs} t p r) = zipped_any f g (b || f (code x y)) e r ∙ ap (λ c. any_of g (b || c) xs) (e _ _ _ _ t)

-- ---- lines

pdf_length : (r : says.Ref) → pdf_count (index_of r) ≡ length (pdf_of r)
pdf_length (says.node x) = refl
pdf_length (says.pdf n) = refl

pdfs-length : (l : says.Line) (w : Span) (ls : List says.Line) (n : ℕ) → n ≡ length (pdfs ls) → line_pdfs (line_of l w) + n ≡ length (pdfs (l ∷ ls))
unfolding pdfs
pdfs-length l w ls n e =
    omega (arith, pdf_length l.no, pdf_length l.yes, length-append (pdf_of l.yes) (pdf_of l.no ++ pdfs ls), length-append (pdf_of l.no) (pdfs ls))

-- the counts of a text's trees
record Counts (ts : List says.Tree) (us : List says.TreePlace) : Type 0 where
  count : length (zip_with tree_of ts us) ≡ length ts
  records : total tree_records (zip_with tree_of ts us) ≡ total said_tree_records ts
  longest : largest tree_lines 0 (zip_with tree_of ts us) ≡ largest said_tree_lines 0 ts
  below : any_of tree_negative false (zip_with tree_of ts us) ≡ any_of said_negative false ts

module _ {s : List ℕ} where
  lines_pdfs : {i j : ℕ} {ls : List says.Line} {ws : List Span} → Parted (LineParting s) (LineAt s) i j ls ws → total line_pdfs (zip_with line_of ls ws) ≡ length (pdfs ls)
  unfolding zip_with total pdfs
  lines_pdfs (only {x = l} {y = w} t) = pdfs-length l w [] 0 refl
  lines_pdfs (then {x = l} {y = w} {xs = ls} t p r) = pdfs-length l w ls _ (lines_pdfs r)

  many : {i j : ℕ} {ls : List says.Line} {ws : List Span} → Parted (LineParting s) (LineAt s) i j ls ws → length (zip_with line_of ls ws) + total line_pdfs (zip_with line_of ls ws) ≡ length ls + length (pdfs ls)
  many p = ap₂ ◌+◌ (zipped_length line_of p) (lines_pdfs p)

  lines_records : {i j : ℕ} {ls : List says.Line} {ws : List Span} → Parted (LineParting s) (LineAt s) i j ls ws → records_of (zip_with line_of ls ws) ≡ said_records ls
  unfolding zip_with records_of said_records pdfs
  lines_records (only {x = l} {y = w} t) =
      let e : line_pdfs (line_of l w) ≡ length (pdfs (l ∷ [])) = omega (arith, pdfs-length l w [] 0 refl) in
      ap (λ (n : ℕ). cond (same_index (index_of l.no) (index_of l.yes)) 1 (1 + n)) e
  lines_records (then t p (only u)) = many (then t p (only u))
  lines_records (then t p (then u q r)) = many (then t p (then u q r))

  -- ---- trees and questions

  body_records_lem : {i j : ℕ} {t : says.Body} {ws : List Span} → BodyAt s i j t ws → body_records (body_of t ws) ≡ said_body_records t
  unfolding zip_with records_of said_records
  body_records_lem (one r) = refl
  body_records_lem (none o b z) = refl
  body_records_lem (lines o b ls c z) = lines_records ls

  body_lines_lem : {i j : ℕ} {t : says.Body} {ws : List Span} → BodyAt s i j t ws → body_lines (body_of t ws) ≡ said_body_lines t
  unfolding zip_with
  body_lines_lem (one r) = refl
  body_lines_lem (none o b z) = refl
  body_lines_lem (lines o b ls c z) = zipped_length line_of ls

  tree_records_lem : {i j : ℕ} {t : says.Tree} {u : says.TreePlace} → TreeAt s i j t u → tree_records (tree_of t u) ≡ said_tree_records t
  tree_records_lem (tree w a o x c b t) = body_records_lem t

  tree_lines_lem : {i j : ℕ} {t : says.Tree} {u : says.TreePlace} → TreeAt s i j t u → tree_lines (tree_of t u) ≡ said_tree_lines t
  tree_lines_lem (tree w a o x c b t) = body_lines_lem t

  question_patterns : {i j : ℕ} {x : says.Question} {q : says.QuestionPlace} → QuestionAt s i j x q → pattern_count q ≡ said_patterns x
  question_patterns (question q a n b o c ps d z) = sym (same_length ps)

  counts : {i : ℕ} {ts : List says.Tree} {us : List says.TreePlace} → TreesAt s i ts us → Counts ts us
  counts (trees a p b) =
      record {
        count = zipped_length tree_of p;
        records = zipped_total tree_of tree_records said_tree_records (λ i j x y t. tree_records_lem t) p;
        longest = zipped_largest tree_of tree_lines said_tree_lines 0 (λ i j x y t. tree_lines_lem t) p;
        below = zipped_any tree_of tree_negative said_negative false (λ i j x y t. refl) p;
      }

  -- ---- (b) the survey of a text is that of what it says
  pub survey_said : {i : ℕ} {t : says.Text} {l : says.Layout} → Says s i t l → survey_at s i ≡ said_survey t
  unfolding survey_of said_survey total
  survey_said (without t) =
      let c = counts t in
      survey_says s (without t) ∙ λ z. cond (c.below z) (Err fault.Negative) (Ok (counts_of 0 0 (c.count z) (c.records z) (c.longest z)))
  survey_said (with_questions p t) =
      let c = counts t in
      let n = same_length p in
      let m = totals pattern_count said_patterns (λ i j x y t. question_patterns t) p in
      survey_says s (with_questions p t) ∙ λ z. cond (c.below z) (Err fault.Negative) (Ok (counts_of (sym n z) (m z) (c.count z) (c.records z) (c.longest z)))

-- ---- the counts in the words of `written`

-- a tree that is one reference needs one record
pub single_records : {t : says.Body} {r : says.Ref} → Single t r → said_body_records t ≡ 1
unfolding said_records
single_records alone = refl
single_records (alike {l = l} {r = r} e f) = ap (λ c. cond c 1 (1 + length (pdfs (l ∷ [])))) (ap₂ (λ a b. same_index (index_of a) (index_of b)) e f ∙ same_index_lem r)

-- any other needs one for each line and each PDF reference
pub other_records : (ls : List says.Line) → NotSingle ls → said_body_records (says.braces ls) ≡ length ls + length (pdfs ls)
unfolding said_records pdfs
other_records [] n = refl
other_records (l ∷ []) n = go (same_index (index_of l.no) (index_of l.yes)) refl
  where
    go : (c : Bool) → same_index (index_of l.no) (index_of l.yes) ≡ c → cond (same_index (index_of l.no) (index_of l.yes)) 1 (1 + length (pdfs (l ∷ []))) ≡ 1 + length (pdfs (l ∷ []))
    go true e = absurd (n l.yes (alike (index_same l.no l.yes e) refl))
    go false e = ap (λ c. cond c 1 (1 + length (pdfs (l ∷ [])))) e
other_records (l ∷ (k ∷ ls)) n = refl

-- one of the trees has a negative state
any_negative : (b : Bool) (ts : List says.Tree) → any_of said_negative b ts ≡ true → (b ≡ true) ⊎ tables.Negative ts
unfolding any_of
any_negative b [] e = inl e
any_negative b (t ∷ ts) e = go (any_negative (b || said_negative t) ts e)
  where
    here_it : (c : Bool) (x : ℤ) → t.state ≡ x → (c || negative x) ≡ true → (c ≡ true) ⊎ tables.Negative (t ∷ ts)
    here_it true x q e = inl refl
    here_it false (pos n) q e = inl e
    here_it false (negsuc n) q e = inr (tables.negative here q)

    go : ((b || said_negative t) ≡ true) ⊎ tables.Negative ts → (b ≡ true) ⊎ tables.Negative (t ∷ ts)
    go (inl e) = here_it b t.state refl e
    go (inr (tables.negative k q)) = inr (tables.negative (there k) q)

still : (ts : List says.Tree) → any_of said_negative true ts ≡ true
unfolding any_of
still [] = refl
still (t ∷ ts) = still ts

or_true : (b : Bool) → (b || true) ≡ true
or_true true = refl
or_true false = refl

negative_any : {ts : List says.Tree} {i n : ℕ} {t : says.Tree} (b : Bool) → Nth ts i t → t.state ≡ negsuc n → any_of said_negative b ts ≡ true
unfolding any_of
negative_any b (here {xs = ts}) e = ap (λ x. any_of said_negative (b || negative x) ts) e ∙ ap (λ c. any_of said_negative c ts) (or_true b) ∙ still ts
negative_any b (there {y = y} k) e = negative_any (b || said_negative y) k e

module _ {s : List ℕ} where
  -- 18: in the grammar, and a state is negative; both ways
  pub said_negative_lem : {i : ℕ} {t : says.Text} {l : says.Layout} → Says s i t l → tables.Negative t.trees → survey_at s i ≡ (Err fault.Negative)
  unfolding said_survey
  said_negative_lem {t = t} h (tables.negative k e) = survey_said h ∙ rw (negative_any false k e)

  pub negative_said : (i : ℕ) → survey_at s i ≡ (Err fault.Negative) → (t : says.Text) × (l : says.Layout) × Says s i t l × tables.Negative t.trees
  unfolding said_survey
  negative_said i h =
      let r = whole_says s i (λ p q. let e : (Err fault.Negative) ≡ Err (fault.Broken p) = sym h ∙ q in let u : ◌≡◌ {A = ℕ} 0 1 = cc in omega arith) in
      (r.text, r.layout, r.says, go r.text (any_of said_negative false r.text.trees) refl (sym (survey_said r.says) ∙ h))
    where
      go : (t : says.Text) (c : Bool) → any_of said_negative false t.trees ≡ c → said_survey t ≡ (Err fault.Negative) → tables.Negative t.trees
      go t true e h = pick (any_negative false t.trees e)
        where
          pick : (false ≡ true) ⊎ tables.Negative t.trees → tables.Negative t.trees
          pick (inl e) = let u : ◌≡◌ {A = ℕ} 0 1 = cc in absurd (omega arith)
          pick (inr n) = n
      go t false e h =
          let k : Ok (counts_of (length t.questions) (total said_patterns t.questions) (length t.trees) (total said_tree_records t.trees) (largest said_tree_lines 0 t.trees)) ≡ (Err fault.Negative) = rw e at h in
          let u : ◌≡◌ {A = ℕ} 0 1 = cc in absurd (omega arith)
