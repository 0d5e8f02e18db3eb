-- the environments agree so far, so that what is left decides
use Rattle.std.proofs.Common.{◌≡◌, ◌≤◌, length, drop}
use Rattle.hs_table.specs.Entries.{env_cmp}
use Rattle.hs_types.specs.Interned.{env_of_id}
use Rattle.hs_numbered.proofs.order.compare_envs.Given as goal

abbrev pub invariant-loop-place : goal.invariant-loop-place
invariant-loop-place l = record {
  within : l.place ≤ length (env_of_id l.interner l.fn.other);
  left : env_cmp (drop l.place (env_of_id l.interner l.fn.env)) (drop l.place (env_of_id l.interner l.fn.other))
      ≡ env_cmp (env_of_id l.interner l.fn.env) (env_of_id l.interner l.fn.other);
}
