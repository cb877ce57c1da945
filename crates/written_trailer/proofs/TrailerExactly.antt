-- What each number of writing and of reading means: 1 to 12 are opening's, 13 to 18 the texts', and 0, 26, 27, 28 each have their one meaning.
use mathlib.Core.Path.{◌≡◌, refl}
use mathlib.Core.Logic.{◌⊎◌}
use mathlib.Core.List.{List, []}
use Prim.Native.Nat.{ℕ, ◌+◌, ◌≤◌, ◌<◌}
use native.Mathlib.Omega.{arith}
use lib.ListN.{length}
use Rattle.written.specs.Record.{Header, Says, file_limit}
use Rattle.written.specs.Models.{Model, Models, Unplaced, NoTextOf}
use Rattle.written.specs.Trailer.{VoiceRows, NoVoiceRows, Trailer, EndsIn, Summed, Trailed, WritesOf, FindsOf, Writes, Finds}
use Rattle.written_models.proofs.Openings.{refused_low}
use Rattle.written_trailer.proofs.Trailing.{ends_summed}

unplaced_number : {s : List ℕ} {h : Header} {m : Model} {n : ℕ} → Unplaced s h m n → (13 ≤ n) × (n ≤ 15)
unplaced_number (Unplaced.no_name o n) = (omega arith, omega arith)
unplaced_number (Unplaced.no_position o n u) = (omega arith, omega arith)
unplaced_number (Unplaced.no_stream o n p u) = (omega arith, omega arith)
unplaced_number (Unplaced.no_gv e g) = (omega arith, omega arith)

text_number : {s : List ℕ} {h : Header} {m : Model} {n p : ℕ} → NoTextOf s h m n p → (13 ≤ n) × (n ≤ 18)
text_number (NoTextOf.unplaced u) = let r = unplaced_number u in (r.0, omega (arith, r.1))
text_number (NoTextOf.outside p o) = (omega arith, omega arith)
text_number (NoTextOf.breaks p i b) = (omega arith, omega arith)
text_number (NoTextOf.negative p i y g) = (omega arith, omega arith)

pub rows_number : {s : List ℕ} {h : Header} {ms : List Model} {n p : ℕ} → NoVoiceRows s h ms n p → (13 ≤ n) × (n ≤ 18)
rows_number (NoVoiceRows.here t) = text_number t
rows_number (NoVoiceRows.later t r) = rows_number r

-- ---- writing

-- 0: the bytes that are written are the trailer of the file and its rows
pub writes_zero : {file t : List ℕ} {room n p z : ℕ} → Writes file room n p z t → n ≡ 0
    → (h : Header) × (ms : List Model) × (rows : List ℕ) × Says file h × Models file h ms × VoiceRows file h ms rows × Trailer file rows t × (length t ≤ room) × (length file + length t ≤ file_limit)
writes_zero (Writes.unopened r) e = absurd (omega (arith, (refused_low r).0))
writes_zero (Writes.opened o m (WritesOf.no_text n)) e = absurd (omega (arith, (rows_number n).0))
writes_zero (Writes.opened o m (WritesOf.no_room v t r)) e = absurd (omega arith)
writes_zero (Writes.opened o m (WritesOf.written v t r f)) e = (_, _, _, o, m, v, t, r, f)

-- 26: every text is read, and the trailer, whose length is told, has no room in the buffer or in the file
pub writes_26 : {file t : List ℕ} {room n p z : ℕ} → Writes file room n p z t → n ≡ 26
    → (h : Header) × (ms : List Model) × (rows : List ℕ) × (u : List ℕ) × Says file h × Models file h ms × VoiceRows file h ms rows × Trailer file rows u × (z ≡ length u)
    × ((room < length u) ⊎ (file_limit < length file + length u))
writes_26 (Writes.unopened r) e = absurd (omega (arith, (refused_low r).1))
writes_26 (Writes.opened o m (WritesOf.no_text n)) e = absurd (omega (arith, (rows_number n).1))
writes_26 (Writes.opened o m (WritesOf.no_room v t r)) e = (_, _, _, _, o, m, v, t, refl, r)
writes_26 (Writes.opened o m (WritesOf.written v t r f)) e = absurd (omega arith)

-- refused: nothing is written
pub refused_nothing : {file t : List ℕ} {room n p z : ℕ} → Writes file room n p z t → ¬ (n ≡ 0) → t ≡ []
refused_nothing (Writes.unopened r) e = refl
refused_nothing (Writes.opened o m (WritesOf.no_text n)) e = refl
refused_nothing (Writes.opened o m (WritesOf.no_room v t r)) e = refl
refused_nothing (Writes.opened o m (WritesOf.written v t r f)) e = absurd (e refl)

-- ---- reading

-- 0: the file ends in a trailer that is its text's
pub finds_zero : {file rows : List ℕ} {n p b : ℕ} → Finds file n p rows b → n ≡ 0 → Trailed file rows b
finds_zero (Finds.unopened r) e = absurd (omega (arith, (refused_low r).0))
finds_zero (Finds.opened o m (FindsOf.short l)) e = absurd (omega arith)
finds_zero (Finds.opened o m (FindsOf.sum l x)) e = absurd (omega arith)
finds_zero (Finds.opened o m (FindsOf.no_text l x n)) e = absurd (omega (arith, (rows_number n).0))
finds_zero (Finds.opened o m (FindsOf.other l x v n)) e = absurd (omega arith)
finds_zero (Finds.opened {h = h} {ms = ms} o m (FindsOf.found l x v f)) e = record { record_of = h; models = ms; opens = o; of_voice = m; long = l; text = v; ends = f }

-- and wherever it does, reading finds it
pub trailed_found : {file rows : List ℕ} {b : ℕ} → Trailed file rows b → Finds file 0 0 rows b
trailed_found a = Finds.opened a.opens a.of_voice (FindsOf.found a.long (ends_summed a.ends) a.text a.ends)

-- 26: fewer than 12 data bytes
pub finds_26 : {file rows : List ℕ} {n p b : ℕ} → Finds file n p rows b → n ≡ 26 → (h : Header) × Says file h × (h.datum.len < 12)
finds_26 (Finds.unopened r) e = absurd (omega (arith, (refused_low r).1))
finds_26 (Finds.opened o m (FindsOf.short l)) e = (_, o, l)
finds_26 (Finds.opened o m (FindsOf.sum l x)) e = absurd (omega arith)
finds_26 (Finds.opened o m (FindsOf.no_text l x n)) e = absurd (omega (arith, (rows_number n).1))
finds_26 (Finds.opened o m (FindsOf.other l x v n)) e = absurd (omega arith)
finds_26 (Finds.opened o m (FindsOf.found l x v f)) e = absurd (omega arith)

-- 27: the sum differs
pub finds_27 : {file rows : List ℕ} {n p b : ℕ} → Finds file n p rows b → n ≡ 27 → ¬ Summed file
finds_27 (Finds.unopened r) e = absurd (omega (arith, (refused_low r).1))
finds_27 (Finds.opened o m (FindsOf.short l)) e = absurd (omega arith)
finds_27 (Finds.opened o m (FindsOf.sum l x)) e = x
finds_27 (Finds.opened o m (FindsOf.no_text l x n)) e = absurd (omega (arith, (rows_number n).1))
finds_27 (Finds.opened o m (FindsOf.other l x v n)) e = absurd (omega arith)
finds_27 (Finds.opened o m (FindsOf.found l x v f)) e = absurd (omega arith)

-- 28: every text is read, and the file doesn't end in their rows
pub finds_28 : {file rows : List ℕ} {n p b : ℕ} → Finds file n p rows b → n ≡ 28
    → (h : Header) × (ms : List Model) × (own : List ℕ) × Says file h × Models file h ms × VoiceRows file h ms own × ((c : ℕ) → ¬ EndsIn file own c)
finds_28 (Finds.unopened r) e = absurd (omega (arith, (refused_low r).1))
finds_28 (Finds.opened o m (FindsOf.short l)) e = absurd (omega arith)
finds_28 (Finds.opened o m (FindsOf.sum l x)) e = absurd (omega arith)
finds_28 (Finds.opened o m (FindsOf.no_text l x n)) e = absurd (omega (arith, (rows_number n).1))
finds_28 (Finds.opened o m (FindsOf.other l x v n)) e = (_, _, _, o, m, v, n)
finds_28 (Finds.opened o m (FindsOf.found l x v f)) e = absurd (omega arith)
