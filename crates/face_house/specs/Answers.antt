-- What judging a voice by the house's rules answers in numbers, and each lent slice after it, by both tasks' bounds (02, Wish 11; host/larsavim.h).
use Rattle.std.specs.Prelude.{◌≡◌, cond, ◌&&◌, List, [], ◌∷◌, ◌⊎◌, ℕ, ◌≤◌, ◌<◌, leb, eqb, length, get_or, Err, Ok, Result}
use Rattle.std.proofs.lemmas.List.Edits.{sets}
use Rattle.written.specs.Sharing.{Side, Held, holds}
use Rattle.head_record.specs.declared.Header.{Header}
use Rattle.head_words.specs.Words.{header_at}
use Rattle.load_model.specs.Load.{Tables as Lent}
use Rattle.load_shared.specs.Beside.{rows_of}
use Rattle.load_bounds.specs.Bounds.{stands_at}
use Rattle.load_bounds.specs.declared.Held.{Held as Bounds}
use Rattle.house_types.specs.Types.{types_rule}
use Rattle.house_voice.specs.Voice.{After as VoiceAfter, voice_of}
use Rattle.face_record.specs.declared.Said.{Said}
use Rattle.face_open.specs.Answers.{open_said, open_words}
use Rattle.face_shared.specs.Answers.{held_at, side_at, standing}
use Rattle.face_rule.specs.declared.House.{House}
use Rattle.face_rule.specs.Answers.{house, refused_as, ruled_by}
use Rattle.house_voice.specs.declared.ModelRefused.{ModelRefused}
use Rattle.house_voice.specs.declared.VoiceJudged.{VoiceJudged}

-- the answer, and what was lent after the call
pub record After : Type 0 where
  pub said : House
  pub words : List ℕ
  pub held : List ℕ
  pub tables : Lent

abbrev pub untouched : House → List ℕ → List ℕ → Lent → After
untouched n w held T = record { said = n; words = w; held = held; tables = T }

-- ---- a file that opened, with words w

abbrev pub said_by : List ℕ → Header → Result VoiceJudged ModelRefused → House
said_by s h (Ok j) = ruled_by (types_rule s h) j.first
said_by s h (Err j) = refused_as j.refusal j.model

abbrev pub bounds_numbers : Bounds → List ℕ
bounds_numbers l = l.questions ∷ l.patterns ∷ l.trees ∷ l.records ∷ l.values ∷ []

-- the task's bounds: the rows of the last model, or as they were
abbrev pub held_by : List ℕ → Result VoiceJudged ModelRefused → List ℕ
held_by held (Ok j) = sets held 0 (bounds_numbers j.held)
held_by held (Err j) = held

abbrev pub opened_by : List ℕ → List ℕ → List ℕ → VoiceAfter → After
opened_by s w held v = record { said = said_by s (header_at w) v.answer; words = w; held = held_by held v.answer; tables = v.tables }

unfoldable pub opened_of : Side → List ℕ → List ℕ → List ℕ → Held → Lent → After
opened_of x s w held other T = opened_by s w held (voice_of x s (header_at w) other T)

-- ---- opening, with words w before it

abbrev pub opening_by : Side → List ℕ → List ℕ → List ℕ → Held → Lent → Said → After
opening_by x s w held other T o = cond (eqb o.number 0) (opened_of x s w held other T) (untouched (house o.number o.place 0 0) w held T)

unfoldable pub opening_of : Side → List ℕ → List ℕ → List ℕ → Held → Lent → After
opening_of x s w held other T = opening_by x s (open_words s w) held other T (open_said s (length w))

-- ---- 29, 24, then opening

unfoldable pub house_of : List ℕ → List ℕ → ℕ → List ℕ → List ℕ → Lent → After
house_of s w d held other T =
    cond (holds (held_at held)) (untouched (house 29 0 0 0) w held T)
    (cond (standing d (held_at held) (held_at other) (rows_of T)) (opening_of (side_at d) s w held (held_at other) T) (untouched (house 24 0 0 0) w held T))

-- in tables of so many numbers: 29, 24, or 0
unfoldable pub before_at : ℕ → Held → Held → ℕ → ℕ → ℕ → ℕ → ℕ → ℕ
before_at d mine other q a t c v = cond (holds mine) 29 (cond (leb d 1 && stands_at mine other q a t c v) 0 24)

-- ---- the contracts: r is answered, and words, bounds and tables are left so

abbrev pub Opened : Side → List ℕ → List ℕ → List ℕ → Held → Lent → House → List ℕ → Lent → Type 0
Opened x s w held other T r held₁ T₁ = (r ≡ (opened_of x s w held other T).said) × (held₁ ≡ (opened_of x s w held other T).held) × (T₁ ≡ (opened_of x s w held other T).tables)

abbrev pub Is : After → House → List ℕ → List ℕ → Lent → Type 0
Is x r w₁ held₁ T₁ = (r ≡ x.said) × (w₁ ≡ x.words) × (held₁ ≡ x.held) × (T₁ ≡ x.tables)

abbrev pub Housed : List ℕ → List ℕ → ℕ → List ℕ → List ℕ → Lent → House → List ℕ → List ℕ → Lent → Type 0
Housed s w d held other T = Is (house_of s w d held other T)

abbrev pub house_numbers : House → List ℕ
house_numbers x = x.number ∷ x.place ∷ x.line ∷ x.model ∷ []

-- larsavim_house: what it returns, and the words, the task's bounds, the tables and `out` after it
pub data HouseTells (s w : List ℕ) (d : ℕ) (held other : List ℕ) (T : Lent) (out : List ℕ) (r : ℕ) (w₁ held₁ : List ℕ) (T₁ : Lent) (out₁ : List ℕ) : Type 0 where
  no_room : (length out < 4) ⊎ ((length held < 5) ⊎ (length other < 5)) → r ≡ 20 → w₁ ≡ w → held₁ ≡ held → T₁ ≡ T → out₁ ≡ out → HouseTells s w d held other T out r w₁ held₁ T₁ out₁
  -- last, that a file is bytes
  told : {x : House} → 4 ≤ length out → 5 ≤ length held → 5 ≤ length other → Housed s w d held other T x w₁ held₁ T₁ → r ≡ x.number → out₁ ≡ sets out 0 (house_numbers x)
      → ((k : ℕ) → get_or s k 0 < 256) → HouseTells s w d held other T out r w₁ held₁ T₁ out₁
