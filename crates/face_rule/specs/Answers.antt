-- What is told of a voice that is judged by the house's rules, in numbers.
use Rattle.std.specs.Prelude.{cond, ℕ, eqb}
use Rattle.error.specs.Numbers.{number_of, place_of, line_of}
use Rattle.error.specs.declared.Refusal.{Refusal}
use Rattle.house_voice.specs.declared.Broken.{Broken}
use Rattle.face_rule.specs.declared.House.{House}

abbrev pub house : ℕ → ℕ → ℕ → ℕ → House
house n p l m = record { number = n; place = p; line = l; model = m }

abbrev pub refused_as : Refusal → ℕ → House
refused_as z m = house (number_of z) (place_of z) (line_of z) m

-- 30 or 31, then what the models broke
abbrev pub ruled_by : ℕ → Broken → House
ruled_by n b = cond (eqb n 0) (house b.rule 0 0 b.model) (house n 0 0 0)
