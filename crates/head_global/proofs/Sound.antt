-- [GLOBAL] answers as `written` says: the struct of the record that its text says, within the limits; or the refusal of what is wrong with it.
--
use mathlib.Core.Path.{◌≡◌, refl, sym, subst}
use mathlib.Core.Bool.{Bool, true, false, cond}
use mathlib.Core.List.{List}
use Prim.Native.Nat.{ℕ, ◌≤◌}
use native.Mathlib.Omega.{arith}
use borrow.Author.Tests.{ltb-true, ltb-false}
use lib.Dec.{ltb}
use lib.ListN.{length}
use Rattle.std.specs.Prelude.{Ok}
use Rattle.written.specs.HeaderText.{Entry, Section}
use Rattle.written.specs.Faults.{Missing, NoSection}
use Rattle.written.specs.Record.{global_fields, SaysGlobal, GlobalFits}
use Rattle.written.specs.Record as record_of
use Rattle.error.specs.Numbers as error
use Rattle.error.specs.declared.Refusal.{Refusal}
use Rattle.error.specs.declared.Refusal.TheVariants as refusal
use Rattle.head_record.specs.Empty.{empty_global}
use Rattle.head_record.specs.Record.{global_record}
use Rattle.head_record.specs.declared.Global.{Global}
use Rattle.head_de.proofs.Sound.{Bytes}
use Rattle.head_fields.specs.Fields.{any_missing}
use Rattle.head_lines.specs.Lines.{Lines, whole, faulty, lines_at, kept}
use Rattle.head_lines.proofs.Marks.{Marks}
use Rattle.head_lines.proofs.Kept.{lines_kinded, missing_so, missing_not}
use Rattle.head_lines.proofs.Sound.{LinesAnswer, a_section, no_section, lines_sound}
use Rattle.head_global.specs.Global.{with_line, made, refused_with, judged, global_in}
use Rattle.head_global.specs.declared.GlobalRead.{GlobalRead}
use Rattle.head_global.proofs.Says.{global_leads, global_says}

-- the text of s from i on says the record; or its lines are wrong, a field is missing (9), or a count passes its limit (12)
pub data GlobalAnswers (s : List ℕ) (i : ℕ) : GlobalRead → Type 0 where
  says : {xs : List Entry} {g : record_of.Global} → Section global_fields s i xs → SaysGlobal xs g → GlobalFits g → GlobalAnswers s i (made (Ok tt) (global_record g))
  lines : {r : Refusal} → NoSection global_fields s i (error.number_of r) (error.place_of r) → GlobalAnswers s i (refused_with r)
  missing : {xs : List Entry} → Section global_fields s i xs → Missing global_fields xs → GlobalAnswers s i (refused_with refusal.Field)
  too_many : {xs : List Entry} {g : record_of.Global} → Section global_fields s i xs → SaysGlobal xs g → ¬ GlobalFits g → GlobalAnswers s i (refused_with refusal.Limit)

short : length global_fields ≤ 10
unfolding global_fields
short = omega arith

pub global_sound : {s : List ℕ} → Bytes s → (i : ℕ) → i ≤ length s → GlobalAnswers s i (global_in (lines_at global_fields s i))
unfolding judged global_record
global_sound {s} b i h = go (lines_at global_fields s i) (lines_sound global_fields short b i h)
  where
    -- the counts of the struct are those of the record
    limited : (xs : List Entry) → Section global_fields s i xs → (g : record_of.Global) → SaysGlobal xs g
        → (t : Bool) → ltb 8 (length g.stream_type) ≡ t → (u : Bool) → ltb 32 (length g.gv_off_context) ≡ u
        → GlobalAnswers s i (cond t (refused_with refusal.Limit) (cond u (refused_with refusal.Limit) (made (Ok tt) (global_record g))))
    limited xs c g y true e u f = too_many c y (λ z. let k = ltb-true 8 (length g.stream_type) e in omega (arith, z.names))
    limited xs c g y false e true f = too_many c y (λ z. let k = ltb-true 32 (length g.gv_off_context) f in omega (arith, z.contexts))
    limited xs c g y false e false f = says c y (record { names = ltb-false 8 (length g.stream_type) e; contexts = ltb-false 32 (length g.gv_off_context) f })

    stands : (xs : List Entry) → Section global_fields s i xs → (g : record_of.Global) → SaysGlobal xs g → (G : Global) → G ≡ global_record g
        → GlobalAnswers s i (cond (ltb 8 G.stream_type_count) (refused_with refusal.Limit) (cond (ltb 32 G.gv_off_context_count) (refused_with refusal.Limit) (made (Ok tt) G)))
    stands xs c g y G e =
        subst
        (λ (k : Global). GlobalAnswers s i (cond (ltb 8 k.stream_type_count) (refused_with refusal.Limit) (cond (ltb 32 k.gv_off_context_count) (refused_with refusal.Limit) (made (Ok tt) k))))
        (sym e) (limited xs c g y (ltb 8 (length g.stream_type)) refl (ltb 32 (length g.gv_off_context)) refl)

    field : (m : List Bool) (xs : List Entry) → Section global_fields s i xs → Marks global_fields m xs → (t : Bool) → any_missing m 8 ≡ t
        → GlobalAnswers s i
        (cond t (refused_with refusal.Field)
        (cond (ltb 8 (kept with_line empty_global xs).stream_type_count) (refused_with refusal.Limit)
        (cond (ltb 32 (kept with_line empty_global xs).gv_off_context_count) (refused_with refusal.Limit) (made (Ok tt) (kept with_line empty_global xs)))))
    field m xs c k true e = missing c (missing_so k 8 global_leads e)
    field m xs c k false e = let y = global_says (lines_kinded c.lines) c.distinct (missing_not k 8 global_leads e) in stands xs c y.0 y.1 (kept with_line empty_global xs) y.2

    go : (l : Lines) → LinesAnswer global_fields s i l → GlobalAnswers s i (global_in l)
    go (whole m xs) (a_section c k) = field m xs c k (any_missing m 8) refl
    go (faulty r) (no_section n) = lines n
