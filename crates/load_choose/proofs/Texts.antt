-- The choice of a model with its width, and of its text alone.
use mathlib.Core.Path.{◌≡◌, refl}
use mathlib.Core.Bool.{true}
use mathlib.Core.List.{List}
use Prim.Native.Nat.{ℕ}
use Rattle.head_record.specs.declared.Header.{Header}
use Rattle.load_choose.specs.Chosen.{stream_model, gv_model, stream_by, gv_by, chosen_by, chosen_of}
use Rattle.load_choose.specs.declared.Which.{Which}
use Rattle.load_choose.specs.declared.Which.TheVariants.{Duration, Stream, Gv}

pub measured : (s : List ℕ) (h : Header) (w : Which) → chosen_by true s h w ≡ chosen_of s h w
unfolding chosen_of stream_model gv_model stream_by gv_by
measured s h Duration = refl
measured s h (Stream i) = refl
measured s h (Gv i) = refl
