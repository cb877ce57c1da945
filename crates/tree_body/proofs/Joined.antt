-- The trees that this crate answers and those of `written`'s grammar are the same, one by one and as a text's list: what stands there is answered,
-- what is answered stands there.
use mathlib.Core.Path.{◌≡◌, refl, sym, ap, ◌∙◌, subst}
use mathlib.Core.Bool.{Bool, true, false, cond}
use mathlib.Core.List.{List, [], zip_with}
use Prim.Native.Nat.{ℕ, ◌<◌}
use native.Mathlib.Omega.{arith}
use borrow.Author.Tests.{lt-ltb, eq-eqb, ne_eqb, eqb-true}
use lib.Dec.{ltb, eqb}
use lib.IntN.{ℤ}
use lib.ListN.{length}
use Rattle.tree_reference.specs.declared.TreeIndex.{TreeIndex}
use Rattle.text_parts.specs.declared.Read.{Read}
use Rattle.text_parts.specs.Parts.{read_to}
use Rattle.std.specs.declared.option.Option.{Option}
use Rattle.std.specs.Prelude.{Some, None}
use Rattle.written.specs.Bytes.{bracket, unbracket, brace, unbrace, blank, Span}
use Rattle.written.specs.Said as says
use Rattle.written.specs.TreeText.{Parted, Word, Byte, byte, end, star, Run, Parting, Number, Reference, LineParting, LineAt, BodyAt, one, none, lines, TreeAt, tree, TreesAt, trees}
use Rattle.written.proofs.Once.{before, word_first, head, reference_not, line_not, trees_fixed, at_end, tree_first, run_once}
use Rattle.written.proofs.Decide.{tree_le, parting_lt}
use Rattle.laws.specs.Runs.{stop}
use Rattle.laws.specs.Steps.{Ending, done_at, broken_at, Step, next, last, broken, read}
use Rattle.laws.proofs.Runs.{byte_in}
use Rattle.laws.proofs.Parted.{Stood, Reads, parted_read, read_parted}
use Rattle.laws.proofs.Stops.{run-stop, run_is}
use Rattle.text_spaces.specs.Spaces.{past_byte, then_byte, close_at, parting_at}
use Rattle.text_spaces.proofs.Joined.{no_blank, clash, byte_past, past_byte_lem, parting_found, found_parting, close_found, found_close, parting_inside}
use Rattle.text_numbers.specs.Answers.{signed_at}
use Rattle.text_numbers.proofs.Joined.{number_signed, signed_number}
use Rattle.tree_reference.specs.References.{reference_at}
use Rattle.tree_reference.proofs.Joined.{reference_found, found_reference}
use Rattle.tree_line.specs.Lines.{lines_at}
use Rattle.tree_line.proofs.Joined.{lines_read, read_lines}
use Rattle.tree_body.specs.Trees.{Body, lone, braces, Tree, body_of, tree_of, past_star, number_closed, number_read, number_at, state_opened, state_starred, state_at, lone_read, braces_read, body_read, body_at, head_read, head_at, tree_parted, after_tree, tree_followed, tree_read, tree_headed, tree_step_at, trees_at}
use Rattle.tree_body.specs.declared.TreeHead.TheVariants.{Lines}
use Rattle.tree_body.specs.declared.TreeStep.{TreeStep}
use Rattle.tree_body.specs.declared.TreeStep.TheVariants.{Next, End, Broken}

module _ (s : List ℕ) where
  -- ---- {*} and [state]

  star_past : {i a : ℕ} → Word s star i a → past_star s i ≡ Some a
  unfolding past_star
  star_past (byte p (byte q t)) = ap (λ w. then_byte unbrace s (then_byte 42 s w)) (byte_past (byte p end)) ∙ ap (then_byte unbrace s) (byte_past (byte q end)) ∙ byte_past t

  past_star_lem : (i a : ℕ) → past_star s i ≡ Some a → Word s star i a
  unfolding past_star
  past_star_lem i a e = go (past_byte brace s i) refl e
    where
      join : {k m : ℕ} → Byte s brace i k → Byte s 42 k m → Byte s unbrace m a → Word s star i a
      join (byte p end) (byte q end) t = byte p (byte q t)

      go : (p : Option ℕ) → past_byte brace s i ≡ p → then_byte unbrace s (then_byte 42 s p) ≡ Some a → Word s star i a
      go (Some k) q h = second (past_byte 42 s k) refl h
        where
          second : (p : Option ℕ) → past_byte 42 s k ≡ p → then_byte unbrace s p ≡ Some a → Word s star i a
          second (Some m) r h = join (past_byte_lem brace i k s q) (past_byte_lem 42 k m s r) (past_byte_lem unbrace m a s h)
          second None r h = clash (cc)
      go None q h = clash (cc)

  -- {*}, blanks, [x], blanks up to f
  pub record Stated (i f : ℕ) (x : ℤ) : Type 0 where
    pub starred : ℕ
    pub opens : ℕ
    pub inside : ℕ
    pub numbered : ℕ
    pub shut : ℕ
    pub word : Word s star i starred
    pub before_state : Run s blank starred opens
    pub opened : Byte s bracket opens inside
    pub state : Number s inside numbered x
    pub closed : Byte s unbracket numbered shut
    pub behind_state : Run s blank shut f

  pub state_found : {i f : ℕ} {x : ℤ} → Stated i f x → state_at s i ≡ Some (read_to x f)
  unfolding state_at number_at
  state_found {x = x} t =
      ap (state_starred s) (star_past t.word)
      ∙ ap (λ k. state_opened s (past_byte bracket s k)) (run-stop blank no_blank s t.before_state)
      ∙ ap (state_opened s) (byte_past t.opened)
      ∙ ap (number_read s) (number_signed t.state)
      ∙ ap (number_closed s x) (byte_past t.closed)
      ∙ ap (λ (k : ℕ). Some (read_to x k)) (run-stop blank no_blank s t.behind_state)

  pub found_state : (i f : ℕ) (x : ℤ) → state_at s i ≡ Some (read_to x f) → Stated i f x
  unfolding state_at number_at
  found_state i f x h = go (past_star s i) refl h
    where
      go : (p : Option ℕ) → past_star s i ≡ p → state_starred s p ≡ Some (read_to x f) → Stated i f x
      go (Some a) p h = open_at (past_byte bracket s (stop blank s a)) refl h
        where
          open_at : (t : Option ℕ) → past_byte bracket s (stop blank s a) ≡ t → state_opened s t ≡ Some (read_to x f) → Stated i f x
          open_at (Some c) q h = counted (signed_at s c) refl h
            where
              counted : (t : Option (Read ℤ)) → signed_at s c ≡ t → number_read s t ≡ Some (read_to x f) → Stated i f x
              counted (Some o) r h = shut_at (past_byte unbracket s o.next) refl h
                where
                  shut_at : (t : Option ℕ) → past_byte unbracket s o.next ≡ t → number_closed s o.value t ≡ Some (read_to x f) → Stated i f x
                  shut_at (Some e) u h =
                      let v : o.value ≡ x = grind arith in
                      let w : stop blank s e ≡ f = grind arith in
                      record {
                        starred = a;
                        opens = stop blank s a;
                        inside = c;
                        numbered = o.next;
                        shut = e;
                        word = past_star_lem i a p;
                        before_state = run_is blank no_blank s a;
                        opened = past_byte_lem bracket (stop blank s a) c s q;
                        state = signed_number s c o.next x (r ∙ ap (λ z. Some (read_to z o.next)) v);
                        closed = past_byte_lem unbracket o.next e s u;
                        behind_state = subst (Run s blank e) w (run_is blank no_blank s e);
                      }
                  shut_at None u h = clash (cc)
              counted None r h = clash (cc)
          open_at None q h = clash (cc)
      go None p h = clash (cc)

  -- ---- the body

  no_brace : {f j : ℕ} {r : says.Ref} → Reference s f j r → past_byte brace s f ≡ None
  no_brace {f} t = go (past_byte brace s f) refl
    where
      go : (p : Option ℕ) → past_byte brace s f ≡ p → past_byte brace s f ≡ None
      go (Some k) e = absurd (reference_not t refl (word_first (past_byte_lem brace f k s e)))
      go None e = e

  not_closed : {a b c : ℕ} {ls : List says.Line} {ws : List Span} → Run s blank a b → Parted (LineParting s) (LineAt s) b c ls ws → close_at s a ≡ None
  not_closed {a} {b} r p = go (close_at s a) refl
    where
      go : (t : Option ℕ) → close_at s a ≡ t → close_at s a ≡ None
      go (Some k) e = let c = found_close s a k e in absurd (line_not (head p).3 (run_once r c.blanks refl) (word_first c.shut))
      go None e = e

  -- the step at i, whose state x is read and whose body stands at f
  at_body : {i f : ℕ} {x : ℤ} → Stated i f x → tree_step_at s i ≡ tree_headed s i (body_at s f x)
  unfolding tree_step_at head_at
  at_body {i} t = ap (λ p. tree_headed s i (head_read s p)) (state_found t)

  body_read_lem : (i : ℕ) (x : ℤ) {f j : ℕ} {t : says.Body} {ws : List Span} → BodyAt s f j t ws → tree_headed s i (body_at s f x) ≡ tree_followed s (record { star = i; state = x; body = body_of t ws }) (after_tree s j)
  unfolding body_at zip_with
  body_read_lem i x {f} (one r) = ap (λ p. tree_headed s i (body_read s f x p)) (no_brace r) ∙ ap (λ a. tree_headed s i (lone_read x a)) (reference_found r)
  body_read_lem i x {f} (none {a = a} o b z) =
      ap (λ p. tree_headed s i (body_read s f x p)) (byte_past o) ∙ ap (λ p. tree_headed s i (braces_read s a x p)) (close_found s (record { brace = _; blanks = b; shut = z }))
  body_read_lem i x {f} (lines {a = a} {b = b} o r ls c z) =
      ap (λ p. tree_headed s i (body_read s f x p)) (byte_past o)
      ∙ ap (λ p. tree_headed s i (braces_read s a x p)) (not_closed r ls)
      ∙ ap (λ k. tree_headed s i (Lines x k)) (run-stop blank no_blank s r)
      ∙ ap (λ m. tree_read s i x m.items m.ending) (lines_read s ls (record { brace = _; blanks = c; shut = z }))

  -- ---- a tree

  stated_of : {i a b c d e f : ℕ} {x : ℤ} → Word s star i a → Run s blank a b → Byte s bracket b c → Number s c d x → Byte s unbracket d e → Run s blank e f → Stated i f x
  stated_of w r o n u t = record { starred = _; opens = _; inside = _; numbered = _; shut = _; word = w; before_state = r; opened = o; state = n; closed = u; behind_state = t }

  pub tree_read_lem : {i j : ℕ} {t : says.Tree} {u : says.TreePlace} → TreeAt s i j t u → tree_step_at s i ≡ tree_followed s (tree_of t u) (after_tree s j)
  tree_read_lem (tree w r o n u t g) = at_body (stated_of w r o n u t) ∙ body_read_lem _ _ g

  -- the tree that was read at i: it stands up to `ends`, and is followed as the step says
  pub record Grown (i : ℕ) (z : Step Tree) : Type 0 where
    pub ends : ℕ
    pub said : says.Tree
    pub place : says.TreePlace
    pub item : TreeAt s i ends said place
    pub follows : tree_followed s (tree_of said place) (after_tree s ends) ≡ z

  grown : {i f e : ℕ} {x : ℤ} {t : says.Body} {ws : List Span} {b : Body} (z : Step Tree) → Stated i f x → BodyAt s f e t ws → b ≡ body_of t ws
      → tree_followed s (record { star = i; state = x; body = b }) (after_tree s e) ≡ z → Grown i z
  grown {i} {f} {e} {x} {t} {ws} z d g q h =
      record {
        ends = e;
        said = record { state = x; body = t };
        place = record { star = i; names = ws };
        item = tree d.word d.before_state d.opened d.state d.closed d.behind_state g;
        follows = ap (λ b. tree_followed s (record { star = i; state = x; body = b }) (after_tree s e)) (sym q) ∙ h;
      }

  pub read_tree : (i : ℕ) (z : Step Tree) → tree_step_at s i ≡ z → (z ≡ broken i → ⊥) → Grown i z
  unfolding tree_step_at head_at body_at zip_with
  read_tree i z h no-break = go (state_at s i) refl h
    where
      go : (t : Option (Read ℤ)) → state_at s i ≡ t → tree_headed s i (head_read s t) ≡ z → Grown i z
      go (Some y) p h = body (past_byte brace s y.next) refl h
        where
          d : Stated i y.next y.value
          d = found_state i y.next y.value p

          body : (t : Option ℕ) → past_byte brace s y.next ≡ t → tree_headed s i (body_read s y.next y.value t) ≡ z → Grown i z
          body (Some a) q h = inner (close_at s a) refl h
            where
              inner : (t : Option ℕ) → close_at s a ≡ t → tree_headed s i (braces_read s a y.value t) ≡ z → Grown i z
              inner (Some e) r h = let c = found_close s a e r in grown z d (none (past_byte_lem brace y.next a s q) c.blanks c.shut) refl h
              inner None r h = within (lines_at s (stop blank s a)).ending refl h
                where
                  within : (e : Ending) → (lines_at s (stop blank s a)).ending ≡ e → tree_read s i y.value (lines_at s (stop blank s a)).items e ≡ z → Grown i z
                  within (done_at e) u h =
                      let k = read_lines s (stop blank s a) e u in
                      let c = k.closed in
                      grown z d (lines (past_byte_lem brace y.next a s q) (run_is blank no_blank s a) k.items c.blanks c.shut) (ap braces k.is) h
                  within (broken_at e) u h = absurd (no-break (sym h))
          body None q h = alone (reference_at s y.next) refl h
            where
              alone : (t : Option (Read TreeIndex)) → reference_at s y.next ≡ t → tree_headed s i (lone_read y.value t) ≡ z → Grown i z
              alone (Some q) u h = let k = found_reference s y.next q.next q.value u in grown {ws = []} z d (one k.says) (ap lone k.is) h
              alone None u h = absurd (no-break (sym h))
      go None p h = absurd (no-break (sym h))

  -- ---- the trees of a text

  -- blanks up to the end of the text
  pub record Ended (a e : ℕ) : Type 0 where
    pub blanks : Run s blank a (length s)
    pub at_length : e ≡ length s

  pub ended_after : {a e : ℕ} → Ended a e → after_tree s a ≡ End
  unfolding after_tree
  ended_after {a} d = rw (eq-eqb (stop blank s a) (length s) (run-stop blank no_blank s d.blanks))

  -- what follows a tree that another follows
  further : {a b j : ℕ} {t : says.Tree} {u : says.TreePlace} → Parting s a b → TreeAt s b j t u → after_tree s a ≡ Next b
  unfolding after_tree
  further {a} {b} p t =
      let n : eqb (stop blank s a) (length s) ≡ false = ne_eqb (stop blank s a) (length s) (λ e. trees_fixed.no_more (before (subst (Run s blank a) e (run_is blank no_blank s a)) (at_end s)) p t) in
      let l : b < length s = byte_in s b (tree_first t) (omega arith) in
      rw (n, parting_found s p, lt-ltb b (length s) l)

  -- the ways to follow
  after_next : (a b : ℕ) → after_tree s a ≡ Next b → Parting s a b
  unfolding after_tree
  after_next a b h = go (eqb (stop blank s a) (length s)) (parting_at s a) refl h
    where
      go : (c : Bool) (p : Option ℕ) → parting_at s a ≡ p → cond c End (tree_parted s (stop blank s a) p) ≡ Next b → Parting s a b
      go true p q h = clash (cc)
      go false (Some k) q h = pick (ltb k (length s)) h
        where
          pick : (c : Bool) → cond c (Next k) (Broken (stop blank s a)) ≡ Next b → Parting s a b
          pick true h = let w : k ≡ b = cc in found_parting s a b (q ∙ ap Some w)
          pick false h = clash (cc)
      go false None q h = clash (cc)

  after_end : (a : ℕ) → after_tree s a ≡ End → Ended a (length s)
  unfolding after_tree
  after_end a h = go (eqb (stop blank s a) (length s)) refl (parting_at s a) h
    where
      go : (c : Bool) → eqb (stop blank s a) (length s) ≡ c → (p : Option ℕ) → cond c End (tree_parted s (stop blank s a) p) ≡ End → Ended a (length s)
      go true e p h = record { blanks = subst (Run s blank a) (eqb-true _ _ e) (run_is blank no_blank s a); at_length = refl }
      go false e (Some k) h = pick (ltb k (length s)) h
        where
          pick : (c : Bool) → cond c (Next k) (Broken (stop blank s a)) ≡ End → Ended a (length s)
          pick true h = clash (cc)
          pick false h = clash (cc)
      go false e None h = clash (cc)

  pub reads : Reads (Parting s) (TreeAt s) Ended tree_of (length s) (tree_step_at s)
  reads = record { on = on; done = done; was_on = was_on; was_done = was_done; moves = λ t p. (omega (arith, tree_le s t, parting_lt s p), parting_inside s p) }
    where
      on : {i a b j : ℕ} {x x' : says.Tree} {y y' : says.TreePlace} → TreeAt s i a x y → Parting s a b → TreeAt s b j x' y' → tree_step_at s i ≡ next (tree_of x y) b
      on {x = x} {y = y} t p u = tree_read_lem t ∙ ap (tree_followed s (tree_of x y)) (further p u)

      done : {i a e : ℕ} {x : says.Tree} {y : says.TreePlace} → TreeAt s i a x y → Ended a e → tree_step_at s i ≡ last (tree_of x y) e
      done {x = x} {y = y} t d = tree_read_lem t ∙ ap (tree_followed s (tree_of x y)) (ended_after d) ∙ ap (last (tree_of x y)) (sym d.at_length)

      was_on : (i b : ℕ) (z : Tree) → tree_step_at s i ≡ next z b → Stood (TreeAt s) tree_of i z (λ a. Parting s a b)
      was_on i b z h = let r = read_tree i (next z b) h (λ q. clash (cc)) in go r.ends r.said r.place r.item (after_tree s r.ends) refl r.follows
        where
          go : (e : ℕ) (x : says.Tree) (y : says.TreePlace) → TreeAt s i e x y → (t : TreeStep) → after_tree s e ≡ t → tree_followed s (tree_of x y) (after_tree s e) ≡ next z b → Stood (TreeAt s) tree_of i z (λ a. Parting s a b)
          go e x y t (Next k) q h =
              let u : next (tree_of x y) k ≡ next z b = ap (tree_followed s (tree_of x y)) (sym q) ∙ h in
              let v : tree_of x y ≡ z = cc in
              let w : k ≡ b = cc in
              record { ends = e; said = x; laid = y; item = t; rest = after_next e b (q ∙ ap Next w); is = sym v }
          go e x y t End q h = let u : last (tree_of x y) (length s) ≡ next z b = ap (tree_followed s (tree_of x y)) (sym q) ∙ h in clash (cc)
          go e x y t (Broken k) q h = let u : broken k ≡ next z b = ap (tree_followed s (tree_of x y)) (sym q) ∙ h in clash (cc)

      was_done : (i e : ℕ) (z : Tree) → tree_step_at s i ≡ last z e → Stood (TreeAt s) tree_of i z (λ a. Ended a e)
      was_done i f z h = let r = read_tree i (last z f) h (λ q. clash (cc)) in go r.ends r.said r.place r.item (after_tree s r.ends) refl r.follows
        where
          go : (e : ℕ) (x : says.Tree) (y : says.TreePlace) → TreeAt s i e x y → (t : TreeStep) → after_tree s e ≡ t → tree_followed s (tree_of x y) (after_tree s e) ≡ last z f → Stood (TreeAt s) tree_of i z (λ a. Ended a f)
          go e x y t (Next k) q h = let u : next (tree_of x y) k ≡ last z f = ap (tree_followed s (tree_of x y)) (sym q) ∙ h in clash (cc)
          go e x y t End q h =
              let u : last (tree_of x y) (length s) ≡ last z f = ap (tree_followed s (tree_of x y)) (sym q) ∙ h in
              let v : tree_of x y ≡ z = cc in
              let w : length s ≡ f = cc in
              let d = after_end e q in
              record { ends = e; said = x; laid = y; item = t; rest = record { blanks = d.blanks; at_length = sym w }; is = sym v }
          go e x y t (Broken k) q h = let u : broken k ≡ last z f = ap (tree_followed s (tree_of x y)) (sym q) ∙ h in clash (cc)

  -- the trees that a text says are read, in order
  pub trees_read : {i : ℕ} {ts : List says.Tree} {us : List says.TreePlace} → TreesAt s i ts us → trees_at s (stop blank s i) ≡ record { items = zip_with tree_of ts us; ending = done_at (length s) }
  unfolding trees_at
  trees_read {i} (trees b p d) = ap (read (tree_step_at s) (length s)) (run-stop blank no_blank s b) ∙ parted_read reads p (record { blanks = d; at_length = refl })

  -- the trees that are read, from where blanks before them end, are trees that a text says
  pub record Said (i : ℕ) (zs : List Tree) : Type 0 where
    pub said : List says.Tree
    pub laid : List says.TreePlace
    pub text : TreesAt s i said laid
    pub is : zs ≡ zip_with tree_of said laid

  pub read_trees : (i a e : ℕ) → Run s blank i a → (trees_at s a).ending ≡ done_at e → Said i (trees_at s a).items
  unfolding trees_at
  read_trees i a e b h =
      let r = read_parted reads a e h in
      let d = r.closed in
      record { said = r.said; laid = r.laid; text = trees b r.items d.blanks; is = r.is }
