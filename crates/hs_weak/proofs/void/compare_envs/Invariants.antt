-- the environments agree so far, so that what is left decides
use Rattle.std.proofs.Common.{◌≡◌, ◌≤◌, length, drop}
use Rattle.hs_table.specs.Entries.{env_cmp}
use Rattle.hs_weak.proofs.void.compare_envs.Given as goal

abbrev pub invariant-loop-place : goal.invariant-loop-place
invariant-loop-place l = record {
  within : l.place ≤ length l.other;
  left : env_cmp (drop l.place l.env) (drop l.place l.other) ≡ env_cmp l.env l.other;
}
