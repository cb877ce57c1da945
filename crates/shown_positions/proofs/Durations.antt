-- What the lines of [POSITION] make of the two duration ranges is what `written` says.
use mathlib.Core.Path.{◌≡◌, refl}
use mathlib.Core.Bool.{true}
use mathlib.Core.List.{List}
use Prim.Native.Nat.{ℕ, ◌≤◌, ◌<◌}
use native.Mathlib.Omega.{arith}
use lib.ListN.{length, get_or}
use Rattle.written.specs.Bytes.{bytes, same}
use Rattle.written.specs.HeaderText.{Range, a_pair, Value, range, kind_of, Entry, Distinct}
use Rattle.written.specs.Record.{position_fields, Once, SaysDurations}
use Rattle.written.specs.Faults.{Missing}
use Rattle.written.proofs.Tests.{both}
use Rattle.laws.proofs.Ranges.{all, at}
use Rattle.head_record.specs.Lists.{range_of}
use Rattle.head_ungrouped.specs.declared.Durations as of-durations
use Rattle.head_de_lists.specs.Lists.{spans_of, ranges_of}
use Rattle.head_de_values.specs.Values.{value_of}
use Rattle.head_de_values.specs.declared.Value as values
use Rattle.head_fields.specs.Fields.{field_index}
use Rattle.head_lines.specs.Lines.{kept}
use Rattle.head_lines.proofs.Kept.{Kinded, kept_one, no_field, as_range, Leads, leads, first?}
use Rattle.shown_groups.proofs.Fields.{once_made}
use Rattle.head_ungrouped.specs.Ungrouped.{no_durations, stored, with_line}

abbrev in_value : Value → values.Value
in_value v = value_of v

-- the required fields of the table are its first 2
pub durations_leads : Leads position_fields 2
unfolding position_fields bytes same field_index
durations_leads = leads position_fields 2 (omega arith) refl refl

pub durations_room : length position_fields ≤ 10
unfolding position_fields
durations_room = omega arith

known : (n : ℕ) → n < 2 → n < length position_fields
unfolding position_fields
known n h = h

all_first : all (first? position_fields) 2 0 ≡ true
unfolding position_fields bytes same field_index
all_first = refl

required : (n : ℕ) → n < 2 → (get_or position_fields n no_field).required ≡ true
unfolding no_field
required n h = let b = both _ _ (at (first? position_fields) 2 0 all_first n (omega arith) (omega arith)) in b.0

-- ---- the fields by their numbers, kinds and names

duration_pdf_index : field_index position_fields (bytes "DURATION_PDF") ≡ 0
unfolding position_fields bytes same field_index
duration_pdf_index = refl

duration_pdf_kind : kind_of position_fields (bytes "DURATION_PDF") ≡ a_pair
unfolding position_fields bytes same kind_of
duration_pdf_kind = refl

duration_pdf_name : bytes "DURATION_PDF" ≡ (get_or position_fields 0 no_field).name
unfolding position_fields bytes
duration_pdf_name = refl

duration_tree_index : field_index position_fields (bytes "DURATION_TREE") ≡ 1
unfolding position_fields bytes same field_index
duration_tree_index = refl

duration_tree_kind : kind_of position_fields (bytes "DURATION_TREE") ≡ a_pair
unfolding position_fields bytes same kind_of
duration_tree_kind = refl

duration_tree_name : bytes "DURATION_TREE" ≡ (get_or position_fields 1 no_field).name
unfolding position_fields bytes
duration_tree_name = refl

-- ---- the record

module _ {xs : List Entry} (kinded : Kinded position_fields xs) (distinct : Distinct position_fields xs) (whole : ¬ Missing position_fields xs) where
  abbrev start : of-durations.Durations
  start = no_durations

  abbrev stored_so : of-durations.Durations
  stored_so = kept with_line start xs

  duration_pdf_says : (x : Range) × Once range xs "DURATION_PDF" x × (stored_so.pdf ≡ range_of x)
  unfolding with_line stored value_of spans_of ranges_of
  duration_pdf_says =
      let o = once_made kinded distinct 0 (known 0 (omega arith)) "DURATION_PDF" duration_pdf_name duration_pdf_kind range (λ v o. as_range o) whole (required 0 (omega arith)) in
      (o.0, record { value = o.1 }, kept_one with_line (λ (d : of-durations.Durations). d.pdf) position_fields (bytes "DURATION_PDF") 0 (λ (v : Value). (in_value v).range) (λ d y. refl) duration_pdf_index (known 0 (omega arith)) start xs o.1)

  duration_tree_says : (x : Range) × Once range xs "DURATION_TREE" x × (stored_so.tree ≡ range_of x)
  unfolding with_line stored value_of spans_of ranges_of
  duration_tree_says =
      let o = once_made kinded distinct 1 (known 1 (omega arith)) "DURATION_TREE" duration_tree_name duration_tree_kind range (λ v o. as_range o) whole (required 1 (omega arith)) in
      (o.0, record { value = o.1 }, kept_one with_line (λ (d : of-durations.Durations). d.tree) position_fields (bytes "DURATION_TREE") 1 (λ (v : Value). (in_value v).range) (λ d y. refl) duration_tree_index (known 1 (omega arith)) start xs o.1)

  -- the ranges that the lines say, and that they stand in the struct
  pub durations_says : (pdf : Range) × (tree : Range) × SaysDurations xs pdf tree × (stored_so.pdf ≡ range_of pdf) × (stored_so.tree ≡ range_of tree)
  durations_says =
      let s0 = duration_pdf_says in
      let s1 = duration_tree_says in
      (s0.0, s1.0, record { duration_pdf = s0.1; duration_tree = s1.1 }, s0.2, s1.2)
