-- the points so far are listed
use Rattle.std.proofs.Common.{ℕ, ◌<◌, ◌≤◌, get_or}
use Rattle.hs_replica.specs.Replica.{typed_to, ListsMore}
use Rattle.hs_rules.proofs.search.list_args.Given as goal

abbrev pub invariant-loop-arg : goal.invariant-loop-arg
invariant-loop-arg l = record {
  kept : ListsMore l.fn.replica l.replica;
  listed : (j d : ℕ) → j < l.arg-index → l.fn.replica.indexed ≤ typed_to l.replica (get_or l.args j d);
}
