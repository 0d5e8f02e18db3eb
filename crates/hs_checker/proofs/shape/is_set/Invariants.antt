-- each so far is less than the next
use Rattle.std.proofs.Common.{◌≡◌, ◌≤◌}
use Rattle.std.specs.List.{AllAdjacentBelow}
use Rattle.std.specs.declared.cmp.Ordering.TheVariants.{Less}
use Rattle.hs_table.specs.Types.{type_cmp}
use Rattle.hs_checker.proofs.shape.is_set.Given as goal

abbrev pub invariant-loop-place : goal.invariant-loop-place
invariant-loop-place l = (1 ≤ l.place) × AllAdjacentBelow (λ a b. type_cmp a b ≡ Less) l.types l.place
