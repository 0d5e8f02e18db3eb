-- those so far are of lesser points
use Rattle.std.proofs.Common.{ℕ, ◌<◌, get_or}
use Rattle.hs_scheme.specs.declared.flow.HeadPair.{HeadPair}
use Rattle.hs_flow_checker.proofs.head_pairs.start_at.Given as goal

abbrev pub invariant-loop-start : goal.invariant-loop-start
invariant-loop-start l = (k : ℕ) (d : HeadPair) → k < l.start → (get_or l.pairs k d).point < l.point
