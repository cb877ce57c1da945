-- What is done with one tree is what `written` says of it: with records exactly `Records`, refused exactly `Refused`, with that number and line.
use mathlib.Core.Path.{◌≡◌, refl, sym, ap, ◌∙◌, subst}
use mathlib.Core.Bool.{Bool, true, false}
use mathlib.Core.List.{List, [], ◌∷◌, map, zip_with, Forall₂}
use Prim.Native.Nat.{ℕ, suc, ◌+◌, ◌*◌}
use native.Mathlib.Omega.{arith}
use lib.IntN.{ℤ, pos}
use lib.ListN.{length, get_or}
use Rattle.std.specs.declared.option.Option.{Option}
use Rattle.std.specs.Prelude.{Some, None}
use Rattle.written.specs.Bytes.{Span, same}
use Rattle.written.specs.Said as said
use Rattle.written.specs.Said.{Ref, node, pdf, Question}
use Rattle.written.specs.Linking.{Nth, Asked, asked}
use Rattle.laws.proofs.Nth.{nth_inside, nth_of}
use Rattle.link_order.specs.Keys.{name_at}
use Rattle.text_parts.specs.Parts.{part_inside}
use Rattle.link_search.specs.Found.{last_below}
use Rattle.link_search.proofs.Ids.{same_true, true_same}
use Rattle.tree_reference.specs.References.{index_of}
use Rattle.tree_line.specs.Lines.{line_of}
use Rattle.tree_line.specs.declared.Line.{Line}
use Rattle.link_targets.specs.Lines.{lines_from}
use Rattle.text_parts.specs.Parts.{nat_of}
use Rattle.link_tree.proofs.Joined.{AskedAs, some, none, Says}
use Rattle.link_search.proofs.Last.{last_found, last_missing}
use Rattle.load_lines.specs.Words.{asked_of, asked_at, line_words}
use Rattle.load_lines.proofs.Decoded.{ref_index, work_line, decode}

-- ---- lines of the text, as linking has them

ref_is : (r : Ref) → ref_index (index_of r) ≡ r
ref_is (node x) = refl
ref_is (pdf n) = refl

module _ (s questions : List ℕ) (qs : List Question) (named : (e : ℕ) (q : Question) → Nth qs e q → name_at s questions e ≡ q.name) where
  -- the question of a line is the last of its name
  asked_as : (start len : ℕ) (name : List ℕ) → part_inside s start len ≡ name → AskedAs qs name (nat_of (asked_at s questions (length qs) start len))
  unfolding asked_at
  asked_as start len name e = go (last_below test (length qs)) refl
    where
      test : ℕ → Bool
      test e = same (name_at s questions e) (part_inside s start len)

      go : (f : Option ℕ) → last_below (λ e. same (name_at s questions e) (part_inside s start len)) (length qs) ≡ f → AskedAs qs name (nat_of (asked_of f))
      go (Some k) p =
          let f = last_found (λ e. same (name_at s questions e) (part_inside s start len)) (length qs) k p in
          let q = nth_of qs k f.0 in
          let z : suc k ≡ k + 1 = omega arith in
          subst (λ (i : ℕ). AskedAs qs name i) z
          (some record {
            at = q.0;
            stands = q.1;
            true_of = sym (named k q.0 q.1) ∙ true_same (name_at s questions k) (part_inside s start len) f.1 ∙ e;
            after = λ m x h r g.
                let i : name_at s questions m ≡ part_inside s start len = named m x r ∙ g ∙ sym e in
                let u : ◌≡◌ {A = Bool} true false = sym (ap (λ a. same a (part_inside s start len)) i ∙ same_true (part_inside s start len)) ∙ f.2 m h (nth_inside r) in
                let t : ◌≡◌ {A = ℕ} 0 1 = cc in omega arith;
          })
      go None p = none no_one
        where
          no_one : ¬ Asked qs name
          no_one (asked {k = m} {q = x} r g) =
              let i : name_at s questions m ≡ part_inside s start len = named m x r ∙ g ∙ sym e in
              let u : ◌≡◌ {A = Bool} true false = sym (ap (λ a. same a (part_inside s start len)) i ∙ same_true (part_inside s start len)) ∙ last_missing (λ e. same (name_at s questions e) (part_inside s start len)) (length qs) p m (nth_inside r) in
              let t : ◌≡◌ {A = ℕ} 0 1 = cc in omega arith

  -- names of lines, where they stand
  pub data Stand : List said.Line → List Span → Type 0 where
    end : Stand [] []
    line : {l : said.Line} {ls : List said.Line} {x : Span} {ws : List Span} → part_inside s x.start x.len ≡ l.question → Stand ls ws → Stand (l ∷ ls) (x ∷ ws)

  abbrev asks : Line → ℤ
  asks l = asked_at s questions (length qs) l.start l.len

  pub lines_say : (ls : List said.Line) (ws : List Span) → Stand ls ws → Forall₂ (Says qs) (map (work_line asks) (zip_with line_of ls ws)) ls
  unfolding zip_with
  lines_say [] [] end = Forall₂.nil
  lines_say (l ∷ ls) (x ∷ ws) (line e t) = Forall₂.cons (record { id = refl; yes = ref_is l.yes; no = ref_is l.no; question = asked_as x.start x.len l.question e }) (lines_say ls ws t)
  lines_say [] (x ∷ ws) x3 = elim x3 [ ]
  lines_say (l ∷ ls) [] x3 = elim x3 [ ]

  -- what stands in the work says the lines of the text
  pub work_says : (ls : List said.Line) (ws : List Span) → Stand ls ws
      → Forall₂ (Says qs) (lines_from (line_words s questions (length qs) (zip_with line_of ls ws)) 0 (length (zip_with line_of ls ws))) ls
  work_says ls ws t =
      let W = line_words s questions (length qs) (zip_with line_of ls ws) in
      subst (λ l. Forall₂ (Says qs) l ls)
      (sym (decode s questions (length qs) W 0 (zip_with line_of ls ws) (λ i h. let z : 6 * 0 + i ≡ i = omega arith in ap (λ (j : ℕ). get_or W j (pos 0)) z)))
      (lines_say ls ws t)
