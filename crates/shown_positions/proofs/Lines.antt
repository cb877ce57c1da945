-- The lines of [POSITION] answer as `written` says: the durations that they say; or what is wrong with them; or a missing field.
use mathlib.Core.Path.{◌≡◌, refl}
use mathlib.Core.Bool.{Bool, true, false, cond}
use mathlib.Core.List.{List}
use Prim.Native.Nat.{ℕ, ◌≤◌}
use lib.ListN.{length}
use Rattle.std.specs.Prelude.{Result, Ok, Err}
use Rattle.written.specs.HeaderText.{Range, Entry, Section}
use Rattle.written.specs.Record.{position_fields, SaysDurations}
use Rattle.written.specs.Faults.{Missing, NoSection}
use Rattle.error.specs.Numbers as error
use Rattle.error.specs.declared.Refusal.{Refusal}
use Rattle.error.specs.declared.Refusal.TheVariants as refusal
use Rattle.head_record.specs.Lists.{range_of}
use Rattle.head_de.proofs.Sound.{Bytes}
use Rattle.head_fields.specs.Fields.{any_missing}
use Rattle.head_lines.specs.Lines.{Lines, whole, faulty, lines_at, kept}
use Rattle.head_lines.proofs.Marks.{Marks}
use Rattle.head_lines.proofs.Kept.{lines_kinded, missing_so, missing_not}
use Rattle.head_lines.proofs.Sound.{LinesAnswer, a_section, no_section, lines_sound}
use Rattle.head_ungrouped.specs.Ungrouped.{no_durations, with_line, judged, durations_in}
use Rattle.head_ungrouped.specs.declared.Durations as of-durations
use Rattle.shown_positions.proofs.Durations.{durations_leads, durations_room, durations_says}

pub data DurationsAnswer (s : List ℕ) (i : ℕ) : Result of-durations.Durations Refusal → Type 0 where
  durations_say : {xs : List Entry} {pdf tree : Range} {d : of-durations.Durations} → Section position_fields s i xs → SaysDurations xs pdf tree → ¬ Missing position_fields xs → d.pdf ≡ range_of pdf
      → d.tree ≡ range_of tree → DurationsAnswer s i (Ok d)
  lines_wrong : {r : Refusal} → NoSection position_fields s i (error.number_of r) (error.place_of r) → DurationsAnswer s i (Err r)
  field_missing : {xs : List Entry} → Section position_fields s i xs → Missing position_fields xs → DurationsAnswer s i (Err refusal.Field)

pub durations_sound : {s : List ℕ} → Bytes s → (i : ℕ) → i ≤ length s → DurationsAnswer s i (durations_in (lines_at position_fields s i))
unfolding judged
durations_sound {s} b i h = go (lines_at position_fields s i) (lines_sound position_fields durations_room b i h)
  where
    field : (m : List Bool) (xs : List Entry) → Section position_fields s i xs → Marks position_fields m xs → (t : Bool) → any_missing m 2 ≡ t
        → DurationsAnswer s i (cond t (Err refusal.Field) (Ok (kept with_line no_durations xs)))
    field m xs c k true e = field_missing c (missing_so k 2 durations_leads e)
    field m xs c k false e =
        let n = missing_not k 2 durations_leads e in
        let y = durations_says (lines_kinded c.lines) c.distinct n in
        durations_say c y.2 n y.3 y.4

    go : (l : Lines) → LinesAnswer position_fields s i l → DurationsAnswer s i (durations_in l)
    go (whole m xs) (a_section c k) = field m xs c k (any_missing m 2) refl
    go (faulty r) (no_section n) = lines_wrong n
