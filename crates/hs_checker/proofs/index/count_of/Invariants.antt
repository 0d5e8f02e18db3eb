-- those so far are of the point and the type
use Rattle.std.proofs.Common.{◌≡◌, ℕ, ◌<◌, get_or, Bor}
use Rattle.std.specs.declared.cmp.Ordering.TheVariants.{Equal}
use Rattle.hs_types.specs.Interned.{RowData}
use Rattle.hs_checker.specs.Order.{key_cmp}
use Rattle.hs_checker.proofs.index.count_of.Given as goal

abbrev pub invariant-loop-count : goal.invariant-loop-count
invariant-loop-count l = (k : ℕ) (d : Bor RowData) → k < l.count → key_cmp l.point l.ty (get_or l.rows k d).now ≡ Equal
