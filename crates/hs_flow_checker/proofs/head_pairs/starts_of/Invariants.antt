-- the starts so far, and as many pairs of lesser points as the last one says
use Rattle.std.proofs.Common.{◌≡◌, ℕ, ◌<◌, ◌≤◌, length, get_or, ◌+◌, vec_capacity}
use Rattle.hs_scheme.specs.declared.flow.HeadPair.{HeadPair}
use Rattle.hs_flow_checker.specs.Starts.{IsStartBy}
use Rattle.hs_flow_checker.proofs.head_pairs.starts_of.Given as goal

abbrev pub invariant-loop-point : goal.invariant-loop-point
invariant-loop-point l = record {
  within : l.known ≤ length l.pairs;
  before : (k : ℕ) (d : HeadPair) → k < l.known → (get_or l.pairs k d).point < l.point;
  long : length l.starts.items ≡ l.point;
  each : (p d : ℕ) → p < length l.starts.items → IsStartBy (λ (h : HeadPair). h.point) l.pairs p (get_or l.starts.items p d);
  room : l.points + 1 ≤ vec_capacity l.starts;
}
