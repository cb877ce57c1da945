-- The questions that this crate answers and those of `written`'s grammar are the same, pattern by pattern and question by question: what stands there
-- is answered, what is answered stands there.
use mathlib.Core.Path.{◌≡◌, refl, sym, ap, ap₂, ◌∙◌, subst}
use mathlib.Core.Bool.{Bool, true, false, cond}
use mathlib.Core.List.{List}
use Prim.Native.Nat.{ℕ, ◌+◌, ◌-◌, ◌≤◌}
use native.Mathlib.Omega.{arith}
use borrow.Author.Tests.{lt-ltb}
use lib.ListN.{length}
use Rattle.text_parts.specs.Parts.{read_to, cut}
use Rattle.std.specs.declared.option.Option.{Option}
use Rattle.std.specs.Prelude.{Some, None}
use Rattle.written.specs.Bytes.{comma, brace, blank, space_or_tab, byte_at, between, Span, spanning}
use Rattle.written.specs.Said.{Question, QuestionPlace}
use Rattle.written.specs.TreeText.{Parted, Word, Byte, byte, end, QS, Run, stop as stops, more, Run₁, Comma, parting, Parting, PatternAt, QuestionAt, question}
use Rattle.written.proofs.Once.{Before, before, word_first, parting_end}
use Rattle.written.proofs.Decide.{pattern_le, comma-lt, question_le, parting_lt}
use Rattle.laws.specs.Runs.{stop}
use Rattle.laws.specs.Steps.{Ending, done_at, broken_at, Step, next, last, broken}
use Rattle.laws.proofs.Parted.{Stood, Reads, Read, parted_read, read_parted, laid_only}
use Rattle.laws.proofs.Stops.{run-stop, run_is, run₁-stop}
use Rattle.text_spaces.specs.Spaces.{past_byte, then_byte, name_at, close_at, parting_at}
use Rattle.text_spaces.proofs.Joined.{no_blank, clash, byte_past, past_byte_lem, name_found, Named as NameThere, found_name, parting_found, found_parting, Closed, close_found, found_close, parting_inside, byte_inside, run_inside}
use Rattle.text_numbers.specs.Answers.{pattern_at}
use Rattle.text_numbers.proofs.Joined.{found_pattern, pattern_found_lem}
use Rattle.tree_question.specs.Questions.{past_qs, blank_at, starts_question, head_opened, head_named, head_started, head_at, pattern_closed, pattern_parted, after_pattern, pattern_found, pattern_step_at, item_parted, after_question, pattern_step, patterns_at, question_followed, question_read, question_headed, question_step_at}
use Rattle.text_parts.specs.declared.Read.{Read as Found}
use Rattle.text_parts.specs.declared.Span.{Span as Piece}
use Rattle.tree_question.specs.declared.PatternStep.TheVariants.{Next}
use Rattle.tree_question.specs.declared.Item.{Item}
use Rattle.tree_question.specs.declared.Item.TheVariants as item

-- patterns and questions are in code where they stand
abbrev pub laid : {A B : Type 0} → A → B → B
laid x y = y

module _ (s : List ℕ) where
  -- ---- patterns

  abbrev pub pattern_step_here : ℕ → Step Span
  pattern_step_here i = pattern_step i (pattern_step_at s i)

  pattern_read : {i a : ℕ} {x : List ℕ} {w : Span} → PatternAt s i a x w → pattern_step_here i ≡ pattern_step i (after_pattern s w.start w.len a)
  unfolding pattern_step_at
  pattern_read {i} t = ap (λ r. pattern_step i (pattern_found s r)) (found_pattern t)

  -- a comma doesn't close
  no_comma : {a e : ℕ} → Closed s a e → past_byte comma s a ≡ None
  unfolding blank
  no_comma {a} c = go (past_byte comma s a) refl c.blanks (word_first c.shut)
    where
      go : (p : Option ℕ) → past_byte comma s a ≡ p → {h : ℕ} → Run s blank a h → byte_at s h ≡ 125 → past_byte comma s a ≡ None
      go (Some k) q (stops n) h = let z : ◌≡◌ {A = ℕ} 44 125 = sym (word_first (past_byte_lem comma a k s q)) ∙ h in absurd (omega arith)
      go (Some k) q (more y r) h = let z : true ≡ false = sym y ∙ ap blank (word_first (past_byte_lem comma a k s q)) in clash (cc)
      go None q r h = q

  comma_past : {a b : ℕ} (i n m : ℕ) → Comma s a b → pattern_parted s n m a (past_byte comma s a) ≡ Next n m b
  comma_past {a} i n m (parting w b) = ap (pattern_parted s n m a) (byte_past w) ∙ ap (Next n m) (run-stop blank no_blank s b)

  -- the pattern that was read, and what follows it
  read_pattern : (i : ℕ) (z : Step Span) → pattern_step_here i ≡ z → ((p : ℕ) → z ≡ broken p → ⊥)
      → (b n e : ℕ) × PatternAt s i e (between s b (b + n)) (record { start = b; len = n }) × (pattern_step i (after_pattern s b n e) ≡ z)
  unfolding pattern_step_at
  read_pattern i z h f = go (pattern_at s i) refl h
    where
      go : (t : Option (Found Piece)) → pattern_at s i ≡ t → pattern_step i (pattern_found s t) ≡ z
          → (b n e : ℕ) × PatternAt s i e (between s b (b + n)) (record { start = b; len = n }) × (pattern_step i (after_pattern s b n e) ≡ z)
      go (Some r) q h = (r.value.start, r.value.len, r.next, pattern_found_lem s i r.value.start r.value.len r.next q, h)
      go None q h = absurd (f i (sym h))

  comma_inside : {i j : ℕ} → Comma s i j → j ≤ length s
  comma_inside (parting w b) = run_inside s no_blank b (byte_inside s w (omega arith))

  pub pattern_reads : Reads (Comma s) (PatternAt s) (Closed s) laid (length s) pattern_step_here
  unfolding after_pattern
  pattern_reads = record { on = on; done = done; was_on = was_on; was_done = was_done; moves = λ t p. (omega (arith, pattern_le s t, comma-lt s p), comma_inside p) }
    where
      on : {i a b j : ℕ} {x x' : List ℕ} {y y' : Span} → PatternAt s i a x y → Comma s a b → PatternAt s b j x' y' → pattern_step_here i ≡ next y b
      on {i} {y = y} t p u = pattern_read t ∙ ap (pattern_step i) (comma_past i y.start y.len p)

      done : {i a e : ℕ} {x : List ℕ} {y : Span} → PatternAt s i a x y → Closed s a e → pattern_step_here i ≡ last y e
      done {i} {a} {y = y} t c =
          pattern_read t ∙ ap (λ p. pattern_step i (pattern_parted s y.start y.len a p)) (no_comma c) ∙ ap (λ p. pattern_step i (pattern_closed y.start y.len p)) (close_found s c)

      was_on : (i b : ℕ) (z : Span) → pattern_step_here i ≡ next z b → Stood (PatternAt s) laid i z (λ a. Comma s a b)
      was_on i b z h =
          let r = read_pattern i (next z b) h (λ p q. clash (cc)) in
          go r.0 r.1 r.2 r.3 (past_byte comma s r.2) refl (close_at s r.2) refl r.4
        where
          go : (o n e : ℕ) → PatternAt s i e (between s o (o + n)) (record { start = o; len = n }) → (p : Option ℕ) → past_byte comma s e ≡ p → (d : Option ℕ) → close_at s e ≡ d
              → pattern_step i (pattern_parted s o n e (past_byte comma s e)) ≡ next z b → Stood (PatternAt s) laid i z (λ a. Comma s a b)
          go o n e t (Some k) p d q h =
              let u : next (record { start = o; len = n }) (stop blank s k) ≡ next z b = ap (λ c. pattern_step i (pattern_parted s o n e c)) (sym p) ∙ h in
              let v : (record { start = o; len = n }) ≡ z = cc in
              let w : stop blank s k ≡ b = cc in
              record { ends = e; said = between s o (o + n); laid = record { start = o; len = n }; item = t; rest = parting (past_byte_lem comma e k s p) (subst (Run s blank k) w (run_is blank no_blank s k)); is = sym v }
          go o n e t None p (Some k) q h = let u : last (record { start = o; len = n }) k ≡ next z b = ap (λ c. pattern_step i (pattern_closed o n c)) (sym q) ∙ ap (λ c. pattern_step i (pattern_parted s o n e c)) (sym p) ∙ h in clash (cc)
          go o n e t None p None q h = let u : broken i ≡ next z b = ap (λ c. pattern_step i (pattern_closed o n c)) (sym q) ∙ ap (λ c. pattern_step i (pattern_parted s o n e c)) (sym p) ∙ h in clash (cc)

      was_done : (i e : ℕ) (z : Span) → pattern_step_here i ≡ last z e → Stood (PatternAt s) laid i z (λ a. Closed s a e)
      was_done i f z h =
          let r = read_pattern i (last z f) h (λ p q. clash (cc)) in
          go r.0 r.1 r.2 r.3 (past_byte comma s r.2) refl (close_at s r.2) refl r.4
        where
          go : (o n e : ℕ) → PatternAt s i e (between s o (o + n)) (record { start = o; len = n }) → (p : Option ℕ) → past_byte comma s e ≡ p → (d : Option ℕ) → close_at s e ≡ d
              → pattern_step i (pattern_parted s o n e (past_byte comma s e)) ≡ last z f → Stood (PatternAt s) laid i z (λ a. Closed s a f)
          go o n e t (Some k) p d q h = let u : next (record { start = o; len = n }) (stop blank s k) ≡ last z f = ap (λ c. pattern_step i (pattern_parted s o n e c)) (sym p) ∙ h in clash (cc)
          go o n e t None p (Some k) q h =
              let u : last (record { start = o; len = n }) k ≡ last z f = ap (λ c. pattern_step i (pattern_closed o n c)) (sym q) ∙ ap (λ c. pattern_step i (pattern_parted s o n e c)) (sym p) ∙ h in
              let v : (record { start = o; len = n }) ≡ z = cc in
              let w : k ≡ f = cc in
              record { ends = e; said = between s o (o + n); laid = record { start = o; len = n }; item = t; rest = found_close s e f (q ∙ ap Some w); is = sym v }
          go o n e t None p None q h = let u : broken i ≡ last z f = ap (λ c. pattern_step i (pattern_closed o n c)) (sym q) ∙ ap (λ c. pattern_step i (pattern_parted s o n e c)) (sym p) ∙ h in clash (cc)

  -- the patterns that a question says are read, in order
  pub patterns_read : {i j e : ℕ} {ps : List (List ℕ)} {ws : List Span} → Parted (Comma s) (PatternAt s) i j ps ws → Closed s j e → patterns_at s i ≡ record { items = ws; ending = done_at e }
  unfolding patterns_at
  patterns_read {e = e} p c = parted_read pattern_reads p c ∙ ap (λ l. record { items = l; ending = done_at e }) (laid_only p)

  pub read_patterns : (i e : ℕ) → (patterns_at s i).ending ≡ done_at e → Read pattern_reads i e (patterns_at s i).items
  unfolding patterns_at
  read_patterns i e h = read_parted pattern_reads i e h

  -- ---- the head of a question

  pub qs_past : {i a : ℕ} → Word s QS i a → past_qs s i ≡ Some a
  unfolding past_qs
  qs_past (byte p t) = ap (then_byte 83 s) (byte_past (byte p end)) ∙ byte_past t

  pub past_qs_lem : (i a : ℕ) → past_qs s i ≡ Some a → Word s QS i a
  unfolding past_qs
  past_qs_lem i a e = go (past_byte 81 s i) refl e
    where
      join : {k : ℕ} → Byte s 81 i k → Byte s 83 k a → Word s QS i a
      join (byte p end) t = byte p t

      go : (p : Option ℕ) → past_byte 81 s i ≡ p → then_byte 83 s p ≡ Some a → Word s QS i a
      go (Some k) q h = join (past_byte_lem 81 i k s q) (past_byte_lem 83 k a s h)
      go None q h = clash (cc)

  -- QS, blanks, a name of n bytes from b on, blanks, {, blanks up to f
  pub record Headed (i b n f : ℕ) : Type 0 where
    pub named_from : ℕ
    pub opens : ℕ
    pub inside : ℕ
    pub qs : Word s QS i named_from
    pub named : NameThere s named_from b n opens
    pub opened : Byte s brace opens inside
    pub blanks : Run s blank inside f

  pub found_head : (i b n f : ℕ) → head_at s i ≡ Some (read_to (cut b n) f) → Headed i b n f
  unfolding head_at
  found_head i b n f h = go (past_qs s i) refl h
    where
      go : (p : Option ℕ) → past_qs s i ≡ p → head_started s p ≡ Some (read_to (cut b n) f) → Headed i b n f
      go (Some a) p h = called (name_at s a) refl h
        where
          called : (t : Option (Found Piece)) → name_at s a ≡ t → head_named s t ≡ Some (read_to (cut b n) f) → Headed i b n f
          called (Some z) q h = braced (past_byte brace s z.next) refl h
            where
              braced : (t : Option ℕ) → past_byte brace s z.next ≡ t → head_opened s z.value.start z.value.len t ≡ Some (read_to (cut b n) f) → Headed i b n f
              braced (Some e) r h =
                  let u : z.value.start ≡ b = grind arith in
                  let v : z.value.len ≡ n = grind arith in
                  let w : stop blank s e ≡ f = grind arith in
                  record {
                    named_from = a;
                    opens = z.next;
                    inside = e;
                    qs = past_qs_lem i a p;
                    named = found_name s a b n z.next (q ∙ ap₂ (λ x y. Some (read_to (cut x y) z.next)) u v);
                    opened = past_byte_lem brace z.next e s r;
                    blanks = subst (Run s blank e) w (run_is blank no_blank s e);
                  }
              braced None r h = clash (cc)
          called None q h = clash (cc)
      go None p h = clash (cc)

  -- ---- questions

  starts : {b : ℕ} {a c : ℕ} → Word s QS b a → Run₁ s blank a c → starts_question s b ≡ true
  unfolding starts_question
  starts {a = a} q r = let k = run₁-stop blank no_blank s r in ap (blank_at s) (qs_past q) ∙ lt-ltb a (stop blank s a) (omega (arith, k.0, k.1))

  pub question_starts : {i j : ℕ} {x : Question} {y : QuestionPlace} → QuestionAt s i j x y → starts_question s i ≡ true
  question_starts (question q r n t o u ps v z) = starts q r

  -- where a question starts, QS does
  pub starts_qs : (i : ℕ) → starts_question s i ≡ true → byte_at s i ≡ 81
  unfolding starts_question
  starts_qs i h = go (past_qs s i) refl h
    where
      go : (p : Option ℕ) → past_qs s i ≡ p → blank_at s p ≡ true → byte_at s i ≡ 81
      go (Some a) q h = word_first (past_qs_lem i a q)
      go None q h = clash (cc)

  pub question_read_lem : {i j : ℕ} {x : Question} {y : QuestionPlace} → QuestionAt s i j x y → question_step_at s i ≡ question_followed y (after_question s j)
  unfolding question_step_at head_at
  question_read_lem {i} {j} (question {b = b} {c = c} {f = f} {g = g} {ws = ws} q r n t o u ps v z) =
      ap (λ p. question_headed s i (head_started s p)) (qs_past q)
      ∙ ap (λ m. question_headed s i (head_named s m)) (name_found s r n t)
      ∙ ap (λ p. question_headed s i (head_opened s b (c - b) p)) (byte_past o)
      ∙ ap (λ k. question_headed s i (Some (read_to (cut b (c - b)) k))) (run-stop blank no_blank s u)
      ∙ ap (λ m. question_read s i (spanning b c) m.items m.ending) (patterns_read ps (record { brace = _; blanks = v; shut = z }))

  -- the question that was read at i: it stands up to `ends`, and is followed as the step says
  pub record Asked (i : ℕ) (z : Step QuestionPlace) : Type 0 where
    pub ends : ℕ
    pub said : Question
    pub place : QuestionPlace
    pub item : QuestionAt s i ends said place
    pub follows : question_followed place (after_question s ends) ≡ z

  pub read_question : (i : ℕ) (z : Step QuestionPlace) → question_step_at s i ≡ z → (z ≡ broken i → ⊥) → Asked i z
  unfolding question_step_at
  read_question i z h no-break = go (head_at s i) refl h
    where
      go : (t : Option (Found Piece)) → head_at s i ≡ t → question_headed s i t ≡ z → Asked i z
      go (Some x) p h = within (patterns_at s x.next).ending refl h
        where
          within : (e : Ending) → (patterns_at s x.next).ending ≡ e → question_read s i (record { start = x.value.start; len = x.value.len }) (patterns_at s x.next).items e ≡ z → Asked i z
          within (done_at e) q h =
              let d = found_head i x.value.start x.value.len x.next p in
              let m = d.named in
              let r = read_patterns x.next e q in
              let c = r.closed in
              let k : r.laid ≡ (patterns_at s x.next).items = sym (laid_only r.items) ∙ sym r.is in
              record {
                ends = e;
                said = record { name = between s x.value.start m.ends; patterns = r.said };
                place = record { name = spanning x.value.start m.ends; patterns = r.laid };
                item = question d.qs m.before m.name m.behind d.opened d.blanks r.items c.blanks c.shut;
                follows = ap₂ (λ l w. question_followed (record { name = record { start = x.value.start; len = l }; patterns = w }) (after_question s e)) m.long k ∙ h;
              }
          within (broken_at e) q h = absurd (no-break (sym h))
      go None p h = absurd (no-break (sym h))

  -- what follows the last question: no other; blanks, up to where a tree is to stand
  pub record Over (a e : ℕ) : Type 0 where
    pub after : after_question s a ≡ item.Tree e

  pub question_reads : Reads (Parting s) (QuestionAt s) Over laid (length s) (question_step_at s)
  unfolding after_question
  question_reads = record { on = on; done = λ {i} {y = y} t c. question_read_lem t ∙ ap (question_followed y) c.after; was_on = was_on; was_done = was_done; moves = λ t p. (omega (arith, question_le s t, parting_lt s p), parting_inside s p) }
    where
      on : {i a b j : ℕ} {x x' : Question} {y y' : QuestionPlace} → QuestionAt s i a x y → Parting s a b → QuestionAt s b j x' y' → question_step_at s i ≡ next y b
      on {i} {a} {b} {y = y} t p u =
          question_read_lem t ∙ ap (λ c. question_followed y (item_parted s a c)) (parting_found s p) ∙ ap (λ c. question_followed y (cond c (item.Question b) (item.Tree (stop blank s a)))) (question_starts u)

      was_on : (i b : ℕ) (z : QuestionPlace) → question_step_at s i ≡ next z b → Stood (QuestionAt s) laid i z (λ a. Parting s a b)
      was_on i b z h = let r = read_question i (next z b) h (λ q. clash (cc)) in go r.ends r.said r.place r.item (parting_at s r.ends) refl r.follows
        where
          go : (e : ℕ) (x : Question) (y : QuestionPlace) → QuestionAt s i e x y → (p : Option ℕ) → parting_at s e ≡ p → question_followed y (item_parted s e (parting_at s e)) ≡ next z b
              → Stood (QuestionAt s) laid i z (λ a. Parting s a b)
          go e x y t (Some k) q h = pick (starts_question s k) refl (ap (λ c. question_followed y (item_parted s e c)) (sym q) ∙ h)
            where
              pick : (c : Bool) → starts_question s k ≡ c → question_followed y (cond c (item.Question k) (item.Tree (stop blank s e))) ≡ next z b → Stood (QuestionAt s) laid i z (λ a. Parting s a b)
              pick true c h =
                  let v : y ≡ z = cc in
                  let w : k ≡ b = cc in
                  record { ends = e; said = x; laid = y; item = t; rest = found_parting s e b (q ∙ ap Some w); is = sym v }
              pick false c h = clash (cc)
          go e x y t None q h = let u : last y (stop blank s e) ≡ next z b = ap (λ c. question_followed y (item_parted s e c)) (sym q) ∙ h in clash (cc)

      followed : (y z : QuestionPlace) (t : Item) (e : ℕ) → question_followed y t ≡ last z e → (t ≡ item.Tree e) × (y ≡ z)
      followed y z (item.Question k) e h = clash (cc)
      followed y z (item.Tree k) e h = let w : k ≡ e = cc in let v : y ≡ z = cc in (ap item.Tree w, v)

      was_done : (i e : ℕ) (z : QuestionPlace) → question_step_at s i ≡ last z e → Stood (QuestionAt s) laid i z (λ a. Over a e)
      was_done i e z h =
          let r = read_question i (last z e) h (λ q. clash (cc)) in
          let k = followed r.place z (after_question s r.ends) e r.follows in
          record { ends = r.ends; said = r.said; laid = r.place; item = r.item; rest = record { after = k.0 }; is = sym k.1 }

  -- where blanks and a { follow, no other question does
  pub tree_over : {a : ℕ} → Before s 123 a → Over a (stop blank s a)
  unfolding after_question space_or_tab
  tree_over {a} (before r h) = go (parting_at s a) refl
    where
      go : (p : Option ℕ) → parting_at s a ≡ p → Over a (stop blank s a)
      go (Some k) q = pick (starts_question s k) refl
        where
          pick : (c : Bool) → starts_question s k ≡ c → Over a (stop blank s a)
          pick true c =
              let e : k ≡ _ = parting_end (found_parting s a k q) r (ap space_or_tab h) in
              let z : ◌≡◌ {A = ℕ} 81 123 = sym (starts_qs k c) ∙ ap (byte_at s) e ∙ h in
              absurd (omega arith)
          pick false c = record { after = ap (item_parted s a) q ∙ ap (λ c. cond c (item.Question k) (item.Tree (stop blank s a))) c }
      go None q = record { after = ap (item_parted s a) q }

  pub over_blanks : (a e : ℕ) → Over a e → Run s blank a e
  unfolding after_question
  over_blanks a e o = go (parting_at s a) refl o.after
    where
      blanks : item.Tree (stop blank s a) ≡ item.Tree e → Run s blank a e
      blanks h = let w : stop blank s a ≡ e = cc in subst (Run s blank a) w (run_is blank no_blank s a)

      go : (p : Option ℕ) → parting_at s a ≡ p → item_parted s a (parting_at s a) ≡ item.Tree e → Run s blank a e
      go (Some k) q h = pick (starts_question s k) (ap (item_parted s a) (sym q) ∙ h)
        where
          pick : (c : Bool) → cond c (item.Question k) (item.Tree (stop blank s a)) ≡ item.Tree e → Run s blank a e
          pick true h = clash (cc)
          pick false h = blanks h
      go None q h = blanks (ap (item_parted s a) (sym q) ∙ h)
