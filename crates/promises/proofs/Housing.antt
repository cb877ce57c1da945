-- `larsavim_house` keeps its promise.
use mathlib.Core.Path.{◌≡◌, refl, sym, ap, ◌∙◌, subst, fun_ext}
use mathlib.Core.Bool.{Bool, true, false, cond, true≢false}
use mathlib.Core.List.{List, [], ◌∷◌}
use Prim.Native.Nat.{ℕ, ◌≤◌}
use native.Mathlib.Omega.{arith}
use borrow.Author.Tests.{ltb-true, ltb-false, ne_eqb}
use lib.Dec.{ltb}
use lib.ListN.{length}
use lib.Seq.{sets}
use Rattle.written.specs.Record as record_of
use Rattle.written.specs.Models.{Model, Models}
use Rattle.written.specs.Loading.{ModelSaid}
use Rattle.written.specs.House.{VoiceBreaks}
use Rattle.written.specs.Sharing.{Side, Table, questions, patterns, trees, records, values, Held, nothing, Stand, holds}
use Rattle.error.specs.Numbers.{number_of, place_of, line_of}
use Rattle.head_record.specs.Record.{header_record}
use Rattle.head_record.specs.declared.Header.{Header}
use Rattle.head_de.proofs.Sound.{Bytes}
use Rattle.head_open.specs.Open.{refused_with}
use Rattle.head_open.specs.declared.Opened.{Opened}
use Rattle.load_choose.specs.declared.Which.{Which}
use Rattle.load_model.specs.Load.{Tables as Lent}
use Rattle.load_apart.proofs.Tests.{holds-nothing, nothing-holds}
use Rattle.load_shared.specs.Beside.{rows_of}
use Rattle.load_bounds.specs.Bounds.{held_of}
use Rattle.house_step.specs.Steps.{bounds_of}
use Rattle.house_types.specs.Types.{types_rule}
use Rattle.house_voice.specs.Voice.{broken, voice_from, voice_of}
use Rattle.house_voice.specs.declared.Broken.{Broken}
use Rattle.face_open.specs.Answers.{open_said_by, open_said, open_words_by, open_words}
use Rattle.face_record.specs.Answers.{said}
use Rattle.face_shared.specs.Answers.{held_at, side_at, standing}
use Rattle.face_rule.specs.Answers.{house, ruled_by}
use Rattle.face_house.specs.Answers.{After, untouched, said_by, held_by, opened_of, opening_by, opening_of, house_of, house_numbers, HouseTells}
use Rattle.face_rule.specs.declared.House.{House}
use Rattle.face_trail.proofs.Above.{above_zero}
use Rattle.shown_open.proofs.Opened.{OpenAnswer, open_sound}
use Rattle.shown_open.proofs.Opened as answer
use Rattle.shown_words.proofs.Shaped.{record_back}
use Rattle.shown_voice.proofs.Order.{models_so}
use Rattle.shown_house.proofs.Types.{TypesJudged, types_judged}
use Rattle.promises.specs.Opening.{record_words}
use Rattle.promises.specs.Sharing.{Standing}
use Rattle.promises.specs.Housing.{five_of, InTurn, Stops, VoiceEnds, HouseEnds, AfterHouse}
use Rattle.promises.proofs.Moved.{moved₅}
use Rattle.promises.proofs.Sharing.{standing_is, not_standing}
use Rattle.promises.proofs.Voice.{Keeps, VoiceSaid, voice_said}
use Rattle.house_voice.specs.declared.ModelRefused.{ModelRefused}
use Rattle.house_voice.specs.declared.VoiceJudged.{VoiceJudged}
use Rattle.std.specs.Prelude.{Result}

-- ---- a file that says a record, of a task that holds nothing

-- no bounds are those of a task that holds nothing
none_held : held_of (bounds_of 0 0 0 0 0) ≡ nothing
none_held = fun_ext at
  where
    at : (k : Table) → held_of (bounds_of 0 0 0 0 0) k ≡ nothing k
    at questions = refl
    at patterns = refl
    at trees = refl
    at records = refl
    at values = refl

module _ {s : List ℕ} (bytes : Bytes s) {h : record_of.Header} (says : record_of.Says s h) (x : Side) (held : List ℕ) (other : Held) (t : Lent) (stand : Stand (rows_of t) nothing other) where
  module _ {ms : List Model} where
    -- 30 and 31, then the first rule that was kept
    rule_ends : {ys : List ModelSaid} {mine : Held} {u : Lent} {n : ℕ} {c : Broken} → InTurn x s h other ms nothing t ys mine u → TypesJudged s h n → Keeps ms ys (broken 0 0) c
        → VoiceEnds x s h other ms held t (house_numbers (ruled_by n c)) (sets held 0 (five_of mine)) u
    rule_ends r (TypesJudged.kept a b) (Keeps.known n e) = absurd (n refl)
    rule_ends {ys} {mine} {u} r (TypesJudged.kept a b) (Keeps.none n k e) =
        subst (λ (c : Broken). VoiceEnds x s h other ms held t (c.rule ∷ 0 ∷ 0 ∷ c.model ∷ []) (sets held 0 (five_of mine)) u) (sym e) (VoiceEnds.house r (record { counted = a; types = b; each = k }))
    rule_ends r (TypesJudged.kept a b) (Keeps.first n f) = VoiceEnds.breaks r (VoiceBreaks.model a b f)
    rule_ends r (TypesJudged.miscounted a) k = VoiceEnds.breaks r (VoiceBreaks.counted a)
    rule_ends r (TypesJudged.twice a b) k = VoiceEnds.breaks r (VoiceBreaks.types a b)

    voice_ends : {v : Result VoiceJudged ModelRefused} {u : Lent} → VoiceSaid bytes says x other ms (held_of (bounds_of 0 0 0 0 0)) t (broken 0 0) v u
        → VoiceEnds x s h other ms held t (house_numbers (said_by s (header_record h) v)) (held_by held v) u
    voice_ends (VoiceSaid.judged {ys = ys} {mine₁ = mine₁} {u = u} {c = c} {l = l} r e k) =
        subst (λ (m : Held). VoiceEnds x s h other ms held t (house_numbers (ruled_by (types_rule s (header_record h)) c)) (sets held 0 (five_of m)) u) (sym e)
        (rule_ends (subst (λ (m : Held). InTurn x s h other ms m t ys mine₁ u) none_held r) (types_judged s h says) k)
    voice_ends (VoiceSaid.refused {z = z} {k = k} {u = u} r) = VoiceEnds.stopped (subst (λ (m : Held). Stops x s h other ms m t (number_of z) (place_of z) (line_of z) k u) none_held r)

  -- its models, judged
  judged_so : (ms : List Model) × Models s h ms × (let v = voice_of x s (header_record h) other t in VoiceEnds x s h other ms held t (house_numbers (said_by s (header_record h) v.answer)) (held_by held v.answer) v.tables)
  unfolding voice_of
  judged_so =
      let m = models_so s h says in (
        m.0,
        m.1,
        subst
            (λ (l : List Which). (let v = voice_from x s (header_record h) other l (broken 0 0) (bounds_of 0 0 0 0 0) t in VoiceEnds x s h other m.0 held t (house_numbers (said_by s (header_record h) v.answer)) (held_by held v.answer) v.tables))
            (sym m.2)
            (voice_ends (voice_said bytes says x other m.0 (bounds_of 0 0 0 0 0) t (broken 0 0) (subst (λ (n : Held). Stand (rows_of t) n other) (sym none_held) stand))),
      )

-- ---- the call

module _ {s : List ℕ} (bytes : Bytes s) (w : List ℕ) (d : ℕ) (held other : List ℕ) (t : Lent) where
  abbrev Ends : After → Type 0
  Ends a = HouseEnds s w d held other t (house_numbers a.said) a.words a.held a.tables

  module _ (free : held_at held ≡ nothing) (stand : Standing d (held_at held) (held_at other) (rows_of t)) where
    -- a record that the words are
    opened_ends : (h : record_of.Header) → record_of.Says s h → 647 ≤ length w → Ends (opened_of (side_at d) s (sets w 0 (record_words h)) held (held_at other) t)
    unfolding opened_of
    opened_ends h says enough =
        let k = judged_so bytes says (side_at d) held (held_at other) t (subst (λ (n : Held). Stand (rows_of t) n (held_at other)) free stand.1) in
        subst
        (λ (r : Header).
        (let v = voice_of (side_at d) s r (held_at other) t in
        HouseEnds s w d held other t (house_numbers (said_by s r v.answer)) (sets w 0 (record_words h)) (held_by held v.answer) v.tables))
        (sym (record_back w h enough))
        (HouseEnds.judged free stand says enough k.1 k.2)

    of_answer : {o : Opened} → OpenAnswer s o → Ends (opening_by (side_at d) s (open_words_by w o.header o.verdict) held (held_at other) t (open_said_by (length w) o.verdict))
    unfolding refused_with
    of_answer (answer.says h says) = go (ltb (length w) 647) refl
      where
        go : (c : Bool) → ltb (length w) 647 ≡ c → Ends (opening_by (side_at d) s (cond c w (sets w 0 (record_words h))) held (held_at other) t (cond c (said 20 0) (said 0 0)))
        go true e = HouseEnds.few_words free stand says (ltb-true (length w) 647 e)
        go false e = opened_ends h says (ltb-false (length w) 647 e)
    of_answer (answer.refused r x) =
        subst (λ (c : Bool). Ends (cond c (opened_of (side_at d) s w held (held_at other) t) (untouched (house (number_of r) (place_of r) 0 0) w held t))) (sym (ne_eqb (number_of r) 0 (λ e. omega (arith, above_zero r, e))))
        (HouseEnds.unopened free stand x)

    opening_ends : Ends (opening_of (side_at d) s w held (held_at other) t)
    unfolding opening_of open_said open_words
    opening_ends = of_answer (open_sound bytes)

  pub house_ends : Ends (house_of s w d held other t)
  unfolding house_of
  house_ends = go (holds (held_at held)) refl (standing d (held_at held) (held_at other) (rows_of t)) refl
    where
      go : (a : Bool) → holds (held_at held) ≡ a → (b : Bool) → standing d (held_at held) (held_at other) (rows_of t) ≡ b
          → Ends (cond a (untouched (house 29 0 0 0) w held t) (cond b (opening_of (side_at d) s w held (held_at other) t) (untouched (house 24 0 0 0) w held t)))
      go true e b f = HouseEnds.holding (λ n. true≢false (sym e ∙ nothing-holds (held_at held) n))
      go false e true f = opening_ends (holds-nothing (held_at held) e) (standing_is d (held_at held) (held_at other) (rows_of t) f)
      go false e false f = HouseEnds.overlap (holds-nothing (held_at held) e) (not_standing d (held_at held) (held_at other) (rows_of t) f)

pub house_kept : {s w : List ℕ} {d : ℕ} {held other : List ℕ} {t : Lent} {out : List ℕ} {r : ℕ} {w₁ held₁ : List ℕ} {u : Lent} {o : List ℕ}
    → HouseTells s w d held other t out r w₁ held₁ u o → AfterHouse s w d held other t out r w₁ held₁ u o
house_kept {s} {w} {d} {held} {other} {t} {out} (HouseTells.no_room k a b c e f) = moved₅ (AfterHouse s w d held other t out) a b c e f (AfterHouse.short k)
house_kept {s} {w} {d} {held} {other} {t} {out} (HouseTells.told {x = x} k l m i a b bytes) =
    moved₅ (AfterHouse s w d held other t out) (a ∙ ap (λ (y : House). y.number) i.0) i.1 i.2 i.3 (b ∙ ap (λ (y : House). sets out 0 (house_numbers y)) i.0)
    (AfterHouse.ended k l m (house_ends (record { below = bytes }) w d held other t))
