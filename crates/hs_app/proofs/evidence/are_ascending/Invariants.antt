-- each so far is less than the next
use Rattle.std.proofs.Common.{◌≡◌, ◌≤◌}
use Rattle.std.specs.List.{AllAdjacentBelow}
use Rattle.std.specs.declared.cmp.Ordering.TheVariants.{Less}
use Rattle.hs_table.specs.Entries.{entry_cmp}
use Rattle.hs_types.specs.Interned.{entry_of}
use Rattle.hs_app.proofs.evidence.are_ascending.Given as goal

abbrev pub invariant-loop-place : goal.invariant-loop-place
invariant-loop-place l = (1 ≤ l.place) × AllAdjacentBelow (λ a b. entry_cmp (entry_of l.numbers a) (entry_of l.numbers b) ≡ Less) l.rows l.place
