-- each weakly follows so far, and that of each state so far is there
use Rattle.std.proofs.Common.{◌≡◌, ℕ, ◌<◌, [], length, replicate}
use Rattle.hs_scheme.specs.flow.Points.{point_at}
use Rattle.hs_table.specs.Entries.{params_of}
use Rattle.hs_types.specs.Interned.{env_of_id, Grows}
use Rattle.hs_minimal.specs.Following.{AreFollowingAt, HasLacking}
use Rattle.hs_minimal.proofs.children.without_transition.Given as goal

abbrev pub invariant-loop-state : goal.invariant-loop-state
invariant-loop-state l = record {
  grows : Grows l.fn.types l.types;
  env_in : l.env < length l.types.envs;
  env : env_of_id l.types l.env ≡ replicate (params_of l.growing.problem (point_at l.growing.problem.points l.point).rule) [];
  found : AreFollowingAt l.types l.growing l.point l.found.items;
  told : (q : ℕ) → q < l.state → HasLacking l.growing.problem l.types l.found.items l.point l.terminal q;
}
