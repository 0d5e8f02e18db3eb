-- types before `low` are below, and types from `high` on are above
use Rattle.std.proofs.Common.{◌≡◌, ◌<◌, ◌≤◌, ◌-◌, length, get_or, ℕ}
use Rattle.std.specs.declared.cmp.Ordering.TheVariants.{Less, Greater}
use Rattle.hs_table.specs.Types.{type_cmp}
use Rattle.hs_types.specs.Interned.{type_of_id}
use Rattle.hs_types.proofs.nodes.Nodes.contains.Given as goal

abbrev pub invariant-loop-low : goal.invariant-loop-low
invariant-loop-low l = record {
  order : l.low ≤ l.high;
  within : l.high ≤ length l.members;
  below : (k : ℕ) → k < l.low → type_cmp (type_of_id l.self (get_or l.members k 0)) (type_of_id l.self l.ty) ≡ Less;
  above : (k : ℕ) → l.high ≤ k → k < length l.members → type_cmp (type_of_id l.self (get_or l.members k 0)) (type_of_id l.self l.ty) ≡ Greater;
}

abbrev pub decreases-loop-low : goal.decreases-loop-low
decreases-loop-low l = l.high - l.low
