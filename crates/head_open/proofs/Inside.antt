-- The parts of a file that splits stand inside it.
use mathlib.Core.Path.{◌≡◌, refl, ap}
use mathlib.Core.Bool.{Bool, true, false, cond}
use mathlib.Core.List.{List}
use Prim.Native.Nat.{ℕ, ◌+◌, ◌-◌, ◌≤◌, ◌<◌}
use native.Mathlib.Omega.{arith}
use lib.ListN.{length}
use Rattle.std.specs.Prelude.{Option, Some, None}
use Rattle.written.specs.Bytes.{bytes, is_newline}
use Rattle.laws.specs.Runs.{stop}
use Rattle.head_record.specs.Empty.{span}
use Rattle.head_lines.proofs.Moves.{no as never}
use Rattle.head_sections.specs.Split.{starts_at, section_at, data_of, position_of, stream_of, split_of}
use Rattle.head_sections.specs.declared.Parts.{Parts}
use Rattle.head_sections.specs.declared.Section.{Section}
use Rattle.head_sections.proofs.Breaks.{section_in}
use Rattle.head_open.specs.Open.{Inside}

abbrev of_parts : Parts → Option Parts → Parts
of_parts d (Some p) = p
of_parts d None = d

pub split_inside : (s : List ℕ) (p : Parts) → split_of s ≡ Some p → Inside s p
unfolding split_of
split_inside s p e = global (section_at s (stop is_newline s 0) (bytes "[GLOBAL]\n")) refl e
  where
    dat : (g h a b q f : ℕ) → (g ≤ h) × (h < length s) → (a ≤ b) × (b < length s) → (q ≤ f) × (f < length s) → (t : Bool)
        → cond t (Some (record { global = span g (h - g); stream = span a (b - a); position = span q (f - q); rest = span (f + 8) (length s - (f + 8)) })) None ≡ Some p
        → Inside s p
    dat g h a b q f x y z true w =
        let k : record { global = span g (h - g); stream = span a (b - a); position = span q (f - q); rest = span (f + 8) (length s - (f + 8)) } ≡ p = ap (of_parts p) w in
        rw (← k) (record { global = omega (arith, x.0, x.1); stream = omega (arith, y.0, y.1); position = omega (arith, z.0, z.1) })
    dat g h a b q f x y z false w = never cc

    position : (g h a b : ℕ) → (g ≤ h) × (h < length s) → (a ≤ b) × (b < length s) → (d : Option Section) → section_at s (b + 1) (bytes "[POSITION]\n") ≡ d → data_of s g h a b d ≡ Some p → Inside s p
    position g h a b x y None f w = never cc
    position g h a b x y (Some z) f w = dat g h a b z.start z.end x y (section_in s (b + 1) (bytes "[POSITION]\n") f) (starts_at s (z.end + 1) (bytes "[DATA]\n")) w

    stream : (g h : ℕ) → (g ≤ h) × (h < length s) → (d : Option Section) → section_at s (h + 1) (bytes "[STREAM]\n") ≡ d → position_of s g h d ≡ Some p → Inside s p
    stream g h x None f w = never cc
    stream g h x (Some y) f w = position g h y.start y.end x (section_in s (h + 1) (bytes "[STREAM]\n") f) (section_at s (y.end + 1) (bytes "[POSITION]\n")) refl w

    global : (d : Option Section) → section_at s (stop is_newline s 0) (bytes "[GLOBAL]\n") ≡ d → stream_of s d ≡ Some p → Inside s p
    global None f w = never cc
    global (Some x) f w = stream x.start x.end (section_in s (stop is_newline s 0) (bytes "[GLOBAL]\n") f) (section_at s (x.end + 1) (bytes "[STREAM]\n")) refl w
