-- the users among the points so far
use Rattle.std.proofs.Common.{◌≡◌, ◌≢◌, length, sum, ◌<◌, ◌↔◌, ℕ, Contains, AllPairs}
use Rattle.hs_flow.specs.Users.{users_of, IsUser}
use Rattle.hs_flow.proofs.users.Users.of.Given as goal

abbrev pub invariant-loop-point : goal.invariant-loop-point
invariant-loop-point l = record {
  params : l.users.params ≡ l.points.params;
  lists : length l.users.lists ≡ sum l.users.params;
  exact : (rule x p : ℕ) → Contains (users_of l.users rule x) p ↔ ((p < l.point) × IsUser l.points.points rule x p);
  once : (rule x : ℕ) → AllPairs (λ a b. a ≢ b) (users_of l.users rule x);
}
