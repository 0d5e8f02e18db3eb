-- those so far are in shape
use Rattle.std.proofs.Common.{◌≡◌, ℕ, ◌<◌, slice_get, Some}
use Rattle.hs_weak.specs.Void.{VoidData, IsVoidShape}
use Rattle.hs_certificate_checker.proofs.shape.first_out_of_shape.Given as goal

abbrev pub invariant-loop-place : goal.invariant-loop-place
invariant-loop-place l = (i : ℕ) (v : VoidData) → i < l.place → slice_get l.void i ≡ Some v → IsVoidShape l.problem v
