-- the environments agree so far, so that what is left decides
use Rattle.std.proofs.Common.{◌≡◌, ◌≤◌, length, drop, map}
use Rattle.hs_table.specs.Entries.{env_cmp}
use Rattle.hs_types.specs.Interned.{set_of_id}
use Rattle.hs_rank.proofs.comparing.compare_envs.Given as goal

abbrev pub invariant-loop-place : goal.invariant-loop-place
invariant-loop-place l = record {
  within : l.place ≤ length l.others;
  left : env_cmp (map (set_of_id l.interner) (drop l.place l.sets)) (map (set_of_id l.interner) (drop l.place l.others))
      ≡ env_cmp (map (set_of_id l.interner) l.sets) (map (set_of_id l.interner) l.others);
}
