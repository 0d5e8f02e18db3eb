-- those at the arguments so far
use Rattle.std.proofs.Common.{ℕ, take}
use Rattle.hs_minimal.specs.Following.{AddsRowsOf}
use Rattle.hs_minimal.proofs.GatheringLemmas.{OfSome}
use Rattle.hs_minimal.proofs.gathering.add_args.Given as goal

abbrev pub invariant-loop-arg : goal.invariant-loop-arg
invariant-loop-arg l = AddsRowsOf l.growing (OfSome l.growing (λ (u : ℕ). u) l.args l.fn.rows.items (take l.arg-index l.args)) l.fn.rows.items l.rows.items
