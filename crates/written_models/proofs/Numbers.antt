-- The numbers of refusals: linking's are 21 to 23, a load's 12 to 23.
use mathlib.Core.List.{List}
use Prim.Native.Nat.{ℕ, ◌≤◌, ◌<◌}
use native.Mathlib.Omega.{arith}
use Rattle.written.specs.HeaderText.{Range}
use Rattle.written.specs.Record.{Header}
use Rattle.written.specs.Said.{Line, Body, Tree, Question, Text}
use Rattle.written.specs.Linking.{Fault, yes_undeclared, no_undeclared, not_asked, Refused}
use Rattle.written.specs.Tables.{ModelRefused}
use Rattle.written.specs.Models.{Model, Unplaced}
use Rattle.written.specs.Loading.{Unloaded, Unread, NoModel}

fault_number : {qs : List Question} {ls : List Line} {l : Line} {c : ℕ} → Fault qs ls l c → (20 < c) × (c ≤ 23)
fault_number (yes_undeclared a) = (omega arith, omega arith)
fault_number (no_undeclared a b) = (omega arith, omega arith)
fault_number (not_asked a b c) = (omega arith, omega arith)

pub refused_number : {qs : List Question} {t : Body} {c k : ℕ} → Refused qs t c k → (20 < c) × (c ≤ 23)
refused_number (Refused.single a) = (omega arith, omega arith)
refused_number (Refused.lines n h f b) = fault_number f

pub linking_number : {qs : List Question} {ts : List Tree} {c i k : ℕ} → ModelRefused qs ts c i k → (20 < c) × (c ≤ 23)
linking_number (ModelRefused.here r) = refused_number r
linking_number (ModelRefused.later w r) = linking_number r

unplaced_number : {s : List ℕ} {h : Header} {m : Model} {n : ℕ} → Unplaced s h m n → (12 ≤ n) × (n ≤ 23)
unplaced_number (Unplaced.no_name o n) = (omega arith, omega arith)
unplaced_number (Unplaced.no_position o n u) = (omega arith, omega arith)
unplaced_number (Unplaced.no_stream o n p u) = (omega arith, omega arith)
unplaced_number (Unplaced.no_gv e g) = (omega arith, omega arith)

module _ {widen : ℕ → ℕ} {s : List ℕ} {h : Header} where
  unloaded_number : {x : Text} {r : Range} {w n p k : ℕ} → Unloaded widen s h x r w n p k → (12 ≤ n) × (n ≤ 23)
  unloaded_number (Unloaded.negative a) = (omega arith, omega arith)
  unloaded_number (Unloaded.block_outside a o) = (omega arith, omega arith)
  unloaded_number (Unloaded.no_block a o b) = (omega arith, omega arith)
  unloaded_number (Unloaded.unlinked a o b r) = let k = linking_number r in (omega (arith, k.0), k.1)

  unread_number : {t b : Range} {w n p k : ℕ} → Unread widen s h t b w n p k → (12 ≤ n) × (n ≤ 23)
  unread_number (Unread.wide a) = (omega arith, omega arith)
  unread_number (Unread.text_outside a o) = (omega arith, omega arith)
  unread_number (Unread.breaks a i b) = (omega arith, omega arith)
  unread_number (Unread.said a i y u) = unloaded_number u

  pub no_model_number : {m : Model} {n p k : ℕ} → NoModel widen s h m n p k → (12 ≤ n) × (n ≤ 23)
  no_model_number (NoModel.unplaced u) = unplaced_number u
  no_model_number (NoModel.placed p u) = unread_number u
