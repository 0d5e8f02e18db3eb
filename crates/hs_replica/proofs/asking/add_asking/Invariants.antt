-- what the sets so far ask for is listed
use Rattle.hs_types.specs.Interned.{env_of_id}
use Rattle.hs_replica.specs.Index.{list_at}
use Rattle.hs_replica.proofs.EnvLemmas.{EnvSoFar}
use Rattle.hs_replica.proofs.asking.add_asking.Given as goal

abbrev pub invariant-loop-param : goal.invariant-loop-param
invariant-loop-param l = EnvSoFar l.interner l.point (env_of_id l.interner l.fn.env) l.place l.param (list_at l.initial.lists) (list_at l.lists)
