-- A text says something, or it breaks: never neither (Broken: never both, and at one place).
use mathlib.Core.Path.{◌≡◌, refl, ap, ◌∙◌, subst}
use mathlib.Core.Bool.{Bool, true, false}
use mathlib.Core.Logic.{◌⊎◌, inl, inr}
use mathlib.Core.List.{List, [], ◌∷◌}
use Prim.Native.Nat.{ℕ, zero, suc, ◌+◌, ◌≤◌, ◌<◌}
use native.Mathlib.Omega.{arith}
use native.Mathlib.Decide.{dec_lt}
use lib.ListN.{length}
use Rattle.written.specs.Bytes.{blank, byte_at}
use Rattle.written.specs.Said.{Tree, Question, QuestionPlace, TreePlace, Text, Layout}
use Rattle.written.specs.TreeText.{QS, Word, Parted, Parting, QuestionAt, TreeAt, TreesAt, Says, Blanks}
use Rattle.written.specs.Breaks.{Asks, TreesBreak, QuestionsBreak, Breaks}
use Rattle.written.proofs.Tests.{differ}
use Rattle.written.proofs.Once.{word_once, word_first, parting_once, tree_first}
use Rattle.written.proofs.Decide.{word?, run, parting?, question?, tree?, end?, byte_inside, parting_lt, question_le, tree_le}

module _ (s : List ℕ) where
  blanks : (i : ℕ) → (j : ℕ) × Blanks s i j
  unfolding blank
  blanks i = run s blank refl i

  asks? : (i : ℕ) → Dec (Asks s i)
  asks? i = go (word? s QS i)
    where
      go : Dec ((j : ℕ) × Word s QS i j) → Dec (Asks s i)
      go (no n) = no (λ a. n (a.past, a.word))
      go (yes (j, w)) = then (blank (byte_at s j)) refl
        where
          then : (b : Bool) → blank (byte_at s j) ≡ b → Dec (Asks s i)
          then true e = yes (record { past = j; word = w; then_blank = e })
          then false e = no (λ a. differ (ap (λ k. blank (byte_at s k)) (word_once w a.word refl) ∙ a.then_blank) e)

  -- trees from i on, up to the end but for blanks
  abbrev TreesFrom : ℕ → Type 0
  TreesFrom i = (j : ℕ) × (ts : List Tree) × (us : List TreePlace) × Parted (Parting s) (TreeAt s) i j ts us × Blanks s j (length s)

  trees_or : (n i : ℕ) → length s ≤ i + n → TreesFrom i ⊎ ((p : ℕ) × TreesBreak s i p)
  trees_or zero i l = inr (i, TreesBreak.here (λ e t u h. let m : i < length s = byte_inside s (tree_first h) (omega arith) in omega arith))
  trees_or (suc n) i l = go (tree? s i) (λ j m. trees_or n j m)
    where
      go : Dec ((j : ℕ) × ((t : Tree) × (u : TreePlace) × TreeAt s i j t u)) → ((j : ℕ) → length s ≤ j + n → TreesFrom j ⊎ ((p : ℕ) × TreesBreak s j p)) → TreesFrom i ⊎ ((p : ℕ) × TreesBreak s i p)
      go (no x) rec = inr (i, TreesBreak.here (λ e t u h. x (e, (t, u, h))))
      go (yes (e, (t, u, h))) rec = ended (end? s e) (parting? s e)
        where
          after : {j : ℕ} → Parting s e j → j < length s → TreesFrom j ⊎ ((p : ℕ) × TreesBreak s j p) → TreesFrom i ⊎ ((p : ℕ) × TreesBreak s i p)
          after p m (inl (k, ts, us, r, w)) = inl (k, t ∷ ts, u ∷ us, Parted.next h p r, w)
          after p m (inr (q, b)) = inr (q, TreesBreak.later h p m b)

          inside : (¬ Blanks s e (length s)) → (j : ℕ) → Parting s e j → Dec (j < length s) → TreesFrom i ⊎ ((p : ℕ) × TreesBreak s i p)
          inside b j p (yes m) = after p m (rec j (omega (arith, tree_le s h, parting_lt s p)))
          inside b j p (no m) = inr ((blanks e).0, TreesBreak.other h b (λ k q o. m (subst (λ z. z < length s) (parting_once q p refl) o)) (blanks e).1)

          ended : Dec (Blanks s e (length s)) → Dec ((j : ℕ) × Parting s e j) → TreesFrom i ⊎ ((p : ℕ) × TreesBreak s i p)
          ended (yes b) q = inl (e, t ∷ [], u ∷ [], Parted.last h, b)
          ended (no b) (no q) = inr ((blanks e).0, TreesBreak.other h b (λ j p m. q (j, p)) (blanks e).1)
          ended (no b) (yes (j, p)) = inside b j p (dec_lt j (length s))

  -- questions from i on, then trees
  abbrev AllFrom : ℕ → Type 0
  AllFrom i = (a : ℕ) × (qs : List Question) × (ws : List QuestionPlace) × (ts : List Tree) × (us : List TreePlace) × Parted (Parting s) (QuestionAt s) i a qs ws × TreesAt s a ts us

  questions_or : (n i : ℕ) → length s ≤ i + n → Asks s i → AllFrom i ⊎ ((p : ℕ) × QuestionsBreak s i p)
  questions_or zero i l a = let m : i < length s = byte_inside s (word_first a.word) (omega arith) in absurd (omega arith)
  questions_or (suc n) i l a = go (question? s i) (λ j m b. questions_or n j m b)
    where
      go : Dec ((j : ℕ) × ((q : Question) × (w : QuestionPlace) × QuestionAt s i j q w)) → ((j : ℕ) → length s ≤ j + n → Asks s j → AllFrom j ⊎ ((p : ℕ) × QuestionsBreak s j p))
          → AllFrom i ⊎ ((p : ℕ) × QuestionsBreak s i p)
      go (no x) rec = inr (i, QuestionsBreak.here (λ e q w h. x (e, (q, w, h))))
      go (yes (e, (q, w, h))) rec = parted (parting? s e)
        where
          trees : ((k : ℕ) → Parting s e k → ¬ Asks s k) → (j : ℕ) → Blanks s e j → TreesFrom j ⊎ ((p : ℕ) × TreesBreak s j p) → AllFrom i ⊎ ((p : ℕ) × QuestionsBreak s i p)
          trees f j b (inl (k, ts, us, r, v)) = inl (e, q ∷ [], w ∷ [], ts, us, Parted.last h, TreesAt.trees b r v)
          trees f j b (inr (p, x)) = inr (p, QuestionsBreak.trees h f b x)

          none : ((k : ℕ) → Parting s e k → ¬ Asks s k) → AllFrom i ⊎ ((p : ℕ) × QuestionsBreak s i p)
          none f = trees f (blanks e).0 (blanks e).1 (trees_or (length s) (blanks e).0 (omega arith))

          after : {j : ℕ} → Parting s e j → Asks s j → AllFrom j ⊎ ((p : ℕ) × QuestionsBreak s j p) → AllFrom i ⊎ ((p : ℕ) × QuestionsBreak s i p)
          after p c (inl (k, qs, ws, ts, us, r, v)) = inl (k, q ∷ qs, w ∷ ws, ts, us, Parted.next h p r, v)
          after p c (inr (k, b)) = inr (k, QuestionsBreak.later h p c b)

          asked : (j : ℕ) → Parting s e j → Dec (Asks s j) → AllFrom i ⊎ ((p : ℕ) × QuestionsBreak s i p)
          asked j p (yes c) = after p c (rec j (omega (arith, question_le s h, parting_lt s p)) c)
          asked j p (no c) = none (λ k o d. c (subst (Asks s) (parting_once o p refl) d))

          parted : Dec ((j : ℕ) × Parting s e j) → AllFrom i ⊎ ((p : ℕ) × QuestionsBreak s i p)
          parted (yes (j, p)) = asked j p (asks? j)
          parted (no x) = none (λ k o d. x (k, o))

  pub says_or_breaks : (b : ℕ) → ((t : Text) × (l : Layout) × Says s b t l) ⊎ ((p : ℕ) × Breaks s b p)
  says_or_breaks b = go (asks? b)
    where
      with_them : Asks s b → AllFrom b ⊎ ((p : ℕ) × QuestionsBreak s b p) → ((t : Text) × (l : Layout) × Says s b t l) ⊎ ((p : ℕ) × Breaks s b p)
      with_them a (inl (k, qs, ws, ts, us, r, v)) = inl (record { questions = qs; trees = ts }, record { questions = ws; trees = us }, Says.with_questions r v)
      with_them a (inr (p, x)) = inr (p, Breaks.questions a x)

      without : (¬ Asks s b) → TreesFrom (blanks b).0 ⊎ ((p : ℕ) × TreesBreak s (blanks b).0 p) → ((t : Text) × (l : Layout) × Says s b t l) ⊎ ((p : ℕ) × Breaks s b p)
      without n (inl (k, ts, us, r, v)) = inl (record { questions = []; trees = ts }, record { questions = []; trees = us }, Says.without (TreesAt.trees (blanks b).1 r v))
      without n (inr (p, x)) = inr (p, Breaks.trees n (blanks b).1 x)

      go : Dec (Asks s b) → ((t : Text) × (l : Layout) × Says s b t l) ⊎ ((p : ℕ) × Breaks s b p)
      go (yes a) = with_them a (questions_or (length s) b (omega arith) a)
      go (no n) = without n (trees_or (length s) (blanks b).0 (omega arith))
