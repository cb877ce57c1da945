-- Rows that pass all tests are written: the bytes that the writer puts are their text.
use mathlib.Core.Path.{◌≡◌, refl, ap, subst}
use mathlib.Core.Bool.{Bool, true, false, cond, ◌&&◌, ◌||◌}
use mathlib.Core.List.{List, [], ◌∷◌}
use Prim.Native.Nat.{ℕ, zero, suc, ◌+◌, ◌-◌, ◌^◌, ◌≤◌, ◌<◌}
use native.Mathlib.Decide.{dec_lt, ℕ_discrete}
use native.Mathlib.Omega.{arith}
use borrow.Author.Tests.{lt-ltb, ltb-true, leb-true}
use lib.Dec.{ltb, leb, eqb}
use lib.IntN.{pos, neg_ℤ}
use lib.ListN.{length}
use Rattle.written.specs.Bytes.{in_name, in_pattern, part}
use Rattle.written.specs.Said.{pdf, Line, Body, lone, braces}
use Rattle.written.specs.Linking.{NotSingle}
use Rattle.written.specs.Writing.{Written, Plain, Numbered, spelled, first_four}
use Rattle.laws.specs.Every.{all}
use Rattle.laws.proofs.Every.{first_of, second_of, all_each}
use Rattle.link_order.specs.Keys.{name_at}
use Rattle.table_rows.specs.Rows.{question_rows, question_start, question_len, question_first, question_patterns, pattern_rows, pattern_start, pattern_len, tree_rows, tree_state, tree_first, tree_records, tree_lines, record_rows, record_kind, record_question, record_pdf, record_yes, record_no, question_table, pattern_table, tree_table, record_table}
use Rattle.write_parts.specs.Parts.{each, pattern_of, question_of, ref_of, line_of, body_of, tree_of}
use Rattle.write_records.specs.Records.{of_record}
use Rattle.write_parts.proofs.Laws.{pattern_there, ref_line, ref_leaf}
use Rattle.write_text.specs.Text.{text_of}
use Rattle.write_rows.specs.Tests.{rows_in}
use Rattle.write_rows.proofs.Outside.{name_in, its_patterns_in, pattern_in_lem}
use Rattle.write_bytes.specs.Tests.{fits, every, name_fits, pattern_fits, bytes_fit}
use Rattle.write_questions.specs.Tests.{next_in, chained, some_byte, questions_fit, last_named, none_hidden}
use Rattle.write_links.specs.Tests.{leaf_at, leaf_in, ref_in, line_in, unlike, bare_in, lines_in, body_in, tree_in, grown, links_fit}
use Rattle.write_links.proofs.Ways.{tree_room}
use Rattle.written_back.proofs.Spelled.{Every, All, Fits, RefFits, LineFits, BodyFits, TreeFits, PatternFits, QuestionFits, TextFits, spelled_says}
use Rattle.shown_write.proofs.Questions.{whole, name_is}
use Rattle.shown_write.proofs.Records.{each_long, leaf_small, ref_below}
use Rattle.shown_write.proofs.Lines.{yes_in, no_in, asked_there, not_single}
use Rattle.shown_write.proofs.Trees.{none_single, tree_says, asks_so, rows_say}

-- ---- lists by their numbers

module _ {A : Type 0} (p : A → Type 0) (g : ℕ → A) where
  all_of : (k n : ℕ) → ((i : ℕ) → k ≤ i → i < k + n → p (g i)) → All p (each g k n)
  unfolding each
  all_of k zero f = All.none
  all_of k (suc n) f = All.more (f k (omega arith) (omega arith)) (all_of (suc k) n (λ i a b. f i (omega arith) (omega arith)))

every_says : (p : ℕ → Bool) (w : List ℕ) → every p w ≡ true → Every p w
unfolding every
every_says p [] e = Every.none
every_says p (b ∷ w) e = Every.more (first_of _ _ e) (every_says p w (second_of (p b) (every p w) e))

-- ---- ids

id_fits : (k : ℕ) → k ≤ 2 ^ 63 → Fits (neg_ℤ (pos k))
id_fits zero h = omega arith
id_fits (suc k) h = h

numbered : (d Q R : List ℕ) (f n k j : ℕ) → Numbered k (each (line_of d Q R f n) k j)
unfolding each
numbered d Q R f n k zero = Numbered.none
numbered d Q R f n k (suc j) = Numbered.more refl (numbered d Q R f n (suc k) j)

-- ---- each question of the chain, each tree

chain_each : (Q P : List ℕ) (k q n : ℕ) → chained Q P k q n ≡ true → (i : ℕ) → q ≤ i → i < q + n → (0 < question_len Q i) × (0 < question_patterns Q i)
unfolding chained next_in
chain_each Q P k q zero e i a b = absurd (omega arith)
chain_each Q P k q (suc n) e i a b = go (ℕ_discrete q i) (λ c. chain_each Q P (k + question_patterns Q q) (suc q) n (second_of (next_in Q P k q) _ e) i c (omega arith))
  where
    here : (0 < question_len Q q) × (0 < question_patterns Q q)
    here =
        let t = first_of (next_in Q P k q) _ e in
        (ltb-true 0 (question_len Q q) (first_of _ _ t), ltb-true 0 (question_patterns Q q) (first_of _ _ (second_of (ltb 0 (question_len Q q)) _ t)))

    go : Dec (q ≡ i) → (suc q ≤ i → (0 < question_len Q i) × (0 < question_patterns Q i)) → (0 < question_len Q i) × (0 < question_patterns Q i)
    go (yes s) r = subst (λ (j : ℕ). (0 < question_len Q j) × (0 < question_patterns Q j)) s here
    go (no s) r = r (omega (arith, s))

grown_each : (T R : List ℕ) (k t n : ℕ) → grown T R k t n ≡ true → (i : ℕ) → t ≤ i → i < t + n → (j : ℕ) × (tree_in T R j i ≡ true)
unfolding grown
grown_each T R k t zero e i a b = absurd (omega arith)
grown_each T R k t (suc n) e i a b = go (ℕ_discrete t i) (λ c. grown_each T R (k + tree_records T t) (suc t) n (second_of (tree_in T R k t) _ e) i c (omega arith))
  where
    go : Dec (t ≡ i) → (suc t ≤ i → (j : ℕ) × (tree_in T R j i ≡ true)) → (j : ℕ) × (tree_in T R j i ≡ true)
    go (yes s) r = (k, subst (λ (x : ℕ). tree_in T R k x ≡ true) s (first_of _ _ e))
    go (no s) r = r (omega (arith, s))

-- a body that is written as it is
data Plainly : Body → Type 0 where
  bare : {n : ℕ} → Plainly (lone (pdf n))
  some : {ls : List Line} → NotSingle ls → Numbered 0 ls → Plainly (braces ls)

abbrev Good : Body → Type 0
Good b = BodyFits b × Plainly b

-- ---- the text fits

module _ (d Q P T R : List ℕ) (short : record_rows R ≤ 2 ^ 63) (inside : rows_in d Q P T R ≡ true) (even : bytes_fit d Q P ≡ true) (linked : links_fit d Q P T R ≡ true) where
  behind : (questions_fit Q P && (grown T R 0 0 (tree_rows T) && none_hidden d Q R)) ≡ true
  unfolding links_fit
  behind = second_of (ltb 0 (tree_rows T)) _ linked

  grew_all : grown T R 0 0 (tree_rows T) ≡ true
  grew_all = first_of _ _ (second_of (questions_fit Q P) _ behind)

  final : none_hidden d Q R ≡ true
  final = second_of (grown T R 0 0 (tree_rows T)) _ (second_of (questions_fit Q P) _ behind)

  some_tree : 0 < tree_rows T
  unfolding links_fit
  some_tree = ltb-true 0 (tree_rows T) (first_of _ _ linked)

  module _ (q : ℕ) (h : q < question_rows Q) where
    sizes : (0 < question_len Q q) × (0 < question_patterns Q q)
    unfolding questions_fit
    sizes = chain_each Q P 0 0 (question_rows Q) (first_of _ _ (first_of (questions_fit Q P) _ behind)) q (omega arith) (omega arith)

    name_part : part d (question_start Q q) (question_len Q q) ≡ name_at d Q q
    name_part = name_is d Q q h (name_in d Q P T R inside q h) sizes.0

    name_every : Every in_name (name_at d Q q)
    unfolding bytes_fit name_fits fits
    name_every =
        subst (Every in_name) name_part
        (every_says (fits true) (part d (question_start Q q) (question_len Q q)) (all_each (name_fits d Q) 0 (question_rows Q) (first_of _ _ even) q (omega arith) (omega arith)))

    name_some : 0 < length (name_at d Q q)
    name_some = omega (arith, ap length name_part, whole d (question_start Q q) (question_len Q q) (name_in d Q P T R inside q h), sizes.0)

    pattern_fits_lem : (i : ℕ) → i < question_patterns Q q → PatternFits (pattern_of d P (question_first Q q) i)
    unfolding bytes_fit pattern_fits fits questions_fit some_byte
    pattern_fits_lem i l =
        let p = question_first Q q + i in
        let s : p < pattern_rows P = its_patterns_in d Q P T R inside q h i l in
        let e : part d (pattern_start P p) (pattern_len P p) ≡ pattern_of d P (question_first Q q) i = pattern_there d P (question_first Q q) i (lt-ltb p (pattern_rows P) s) refl refl in
        let b = all_each (pattern_fits d P) 0 (pattern_rows P) (second_of (all (name_fits d Q) 0 (question_rows Q)) _ even) p (omega arith) (omega arith) in
        let c = ltb-true 0 (pattern_len P p) (all_each (some_byte P) 0 (pattern_rows P) (second_of (chained Q P 0 0 (question_rows Q)) _ (first_of (questions_fit Q P) _ behind)) p (omega arith) (omega arith)) in
        record {
          bytes_in = subst (Every in_pattern) e (every_says (fits false) (part d (pattern_start P p) (pattern_len P p)) b);
          some_byte = omega (arith, ap length e, whole d (pattern_start P p) (pattern_len P p) (pattern_in_lem d Q P T R inside p s), c);
        }

    question_fits : QuestionFits (question_of d Q P q)
    question_fits = record {
      name = name_every;
      named = name_some;
      patterns = all_of PatternFits (pattern_of d P (question_first Q q)) 0 (question_patterns Q q) (λ i a b. pattern_fits_lem i (omega arith));
      asked = omega (arith, each_long (pattern_of d P (question_first Q q)) 0 (question_patterns Q q), sizes.1);
    }

  module _ (f m n : ℕ) (in_table : f + m ≤ record_rows R) (asks : (k : ℕ) → k < m → record_kind R (f + k) ≡ 0 → (record_question R (f + k) < question_rows Q) × (last_named d Q (record_question R (f + k)) ≡ true)) where
    lines_good : lines_in R f m n ≡ true → Good (braces (each (line_of d Q R f n) 0 n))
    unfolding lines_in
    lines_good t =
        let few = leb-true n m (first_of _ _ t) in
        let t₁ = second_of (leb n m) _ t in
        let one = first_of (unlike R f n) _ t₁ in
        let t₂ = second_of (unlike R f n) _ t₁ in
        let lines = first_of (all (line_in R f m n) 0 n) _ t₂ in
        let leaves = first_of (all (leaf_in R f n) n (m - n)) _ (second_of (all (line_in R f m n) 0 n) _ t₂) in (
          all_of LineFits (line_of d Q R f n) 0 n (λ k a b. line_fits few leaves lines k (omega arith)),
          Plainly.some (not_single d Q P R f m n in_table few asks leaves lines one) (numbered d Q R f n 0 n),
        )
      where
        ref_fits : n ≤ m → all (leaf_in R f n) n (m - n) ≡ true → (k : ℕ) → ref_in R f m n k ≡ true → RefFits (ref_of R f n k)
        ref_fits few leaves k t = go (dec_lt k n)
          where
            go : Dec (k < n) → RefFits (ref_of R f n k)
            go (yes h) = subst RefFits (ref_line R f n k h) (id_fits k (omega (arith, short)))
            go (no h) = subst RefFits (ref_leaf R f n k (omega arith)) (omega (arith, leaf_small R f m n in_table few leaves k (omega arith) (ref_below R f m n in_table few leaves k t)))

        line_fits : n ≤ m → all (leaf_in R f n) n (m - n) ≡ true → all (line_in R f m n) 0 n ≡ true → (k : ℕ) → k < n → LineFits (line_of d Q R f n k)
        line_fits few leaves lines k h =
            let s = asked_there d Q P R f m n in_table few asks leaves lines k h in
            record {
              id = id_fits k (omega (arith, short));
              question = name_every (of_record record_question R f k) s;
              named = name_some (of_record record_question R f k) s;
              no_ref = ref_fits few leaves (of_record record_no R f k) (no_in d Q P R f m n in_table few asks leaves lines k h);
              yes_ref = ref_fits few leaves (of_record record_yes R f k) (yes_in d Q P R f m n in_table few asks leaves lines k h);
            }

    body_good : body_in R f m n ≡ true → Good (body_of d Q R f m n)
    unfolding body_in body_of bare_in leaf_at
    body_good t = go (eqb n 0) (eqb m 0) refl refl t
      where
        go : (a b : Bool) → eqb n 0 ≡ a → eqb m 0 ≡ b → cond a (b || (eqb m 1 && leaf_at R f 0)) (lines_in R f m n) ≡ true
            → Good (cond a (cond b (braces []) (lone (pdf (of_record record_pdf R f 0)))) (braces (each (line_of d Q R f n) 0 n)))
        go true true u v t = (All.none, Plainly.some none_single Numbered.none)
        go true false u v t =
            (omega (arith, ltb-true (of_record record_pdf R f 0) 9223372036854775808 (first_of _ _ (second_of (eqb (of_record record_kind R f 0) 1) _ (second_of (eqb m 1) _ t)))), Plainly.bare)
        go false b u v t = lines_good t

  module _ (t : ℕ) (h : t < tree_rows T) where
    grew : (j : ℕ) × (tree_in T R j t ≡ true)
    grew = grown_each T R 0 0 (tree_rows T) grew_all t (omega arith) (omega arith)

    own_room : tree_first T t + tree_records T t ≤ record_rows R
    own_room = omega (arith, tree_room T R grew.0 t grew.1, (tree_says T R grew.0 t grew.1).0)

    tree_good : Good (body_of d Q R (tree_first T t) (tree_records T t) (tree_lines T t))
    tree_good =
        body_good (tree_first T t) (tree_records T t) (tree_lines T t) own_room (λ k l z. asks_so d Q P T R inside final (tree_first T t + k) (omega (arith, own_room)) z)
        (tree_says T R grew.0 t grew.1).1

    tree_fits : TreeFits (tree_of d Q T R t)
    unfolding tree_in
    tree_fits = record { state = omega (arith, ltb-true (tree_state T t) 9223372036854775808 (first_of _ _ grew.1)); body = tree_good.0 }

  plain_from : (t j : ℕ) → t + j ≡ tree_rows T → Plain (each (tree_of d Q T R) t j)
  unfolding each
  plain_from t zero e = Plain.none
  plain_from t (suc j) e = go (tree_good t (omega arith)).1 refl (plain_from (suc t) j (omega arith))
    where
      go : {b : Body} → Plainly b → (tree_of d Q T R t).body ≡ b → Plain (each (tree_of d Q T R) (suc t) j) → Plain (tree_of d Q T R t ∷ each (tree_of d Q T R) (suc t) j)
      go Plainly.bare q r = Plain.leaf q r
      go (Plainly.some ns nm) q r = Plain.lines q ns nm r

  text_fits : TextFits (text_of d Q P T R)
  unfolding text_of
  text_fits = record {
    questions = all_of QuestionFits (question_of d Q P) 0 (question_rows Q) (λ i a b. question_fits i (omega arith));
    trees = all_of TreeFits (tree_of d Q T R) 0 (tree_rows T) (λ i a b. tree_fits i (omega arith));
    some_tree = omega (arith, each_long (tree_of d Q T R) 0 (tree_rows T), some_tree);
  }

  -- rows that pass are written
  pub passed_written : Written d (question_table Q) (pattern_table P) (first_four (tree_table T)) (record_table R) (spelled (text_of d Q P T R))
  unfolding text_of
  passed_written =
      let s = spelled_says [] (text_of d Q P T R) text_fits in
      record {
        t = text_of d Q P T R;
        l = s.0;
        says = s.1;
        rows = rows_say d Q P T R inside linked;
        plain = plain_from 0 (tree_rows T) (omega arith);
        bytes_of = refl;
      }
