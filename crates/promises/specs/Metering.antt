-- What `larsavim_bare_walk` promises, of any text, tree number, answers and limit.
use Rattle.std.specs.Prelude.{◌≡◌, List, [], ◌∷◌, ℕ, ◌≤◌, ◌<◌, min, length}
use Rattle.std.proofs.lemmas.List.Edits.{sets}
use Rattle.written.specs.Meter.{Meter, Meters}

-- number, place, line, PDF number, questions asked, lines read; the last as far as 64 bits go
abbrev pub meter_numbers : Meter → List ℕ
meter_numbers m = m.number ∷ m.place ∷ m.line ∷ m.pdf ∷ m.asked ∷ min m.lines 18446744073709551615 ∷ []

pub data AfterBare (text : List ℕ) (tree : ℕ) (answers : List ℕ) (limit : ℕ) (out : List ℕ) : ℕ → List ℕ → Type 0 where
  short_out : length out < 6 → AfterBare text tree answers limit out 20 out
  metered : {m : Meter} → 6 ≤ length out → Meters text 0 answers tree limit m → AfterBare text tree answers limit out m.number (sets out 0 (meter_numbers m))

-- two calls, `larsavim_walk` and `larsavim_bare_walk`, that say the same: number, PDF number and questions asked
pub record SameWalk (out : List ℕ) (r : ℕ) (o : List ℕ) (bare-out : List ℕ) (b : ℕ) (e : List ℕ) : Type 0 where
  pub number : ℕ
  pub pdf : ℕ
  pub asked : ℕ
  pub read : ℕ
  pub walk_returns : r ≡ number
  pub walk_says : o ≡ sets out 0 (number ∷ pdf ∷ asked ∷ [])
  pub bare_returns : b ≡ number
  pub bare_says : e ≡ sets bare-out 0 (number ∷ 0 ∷ 0 ∷ pdf ∷ asked ∷ read ∷ [])
