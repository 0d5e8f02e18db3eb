-- the unions so far were added
use Rattle.std.proofs.Common.{ℕ, take, length, Contains, ◌⊎◌, ◌↔◌}
use Rattle.hs_table.specs.Entries.{EntryData}
use Rattle.hs_types.specs.Interned.{env_of_id, Grows}
use Rattle.hs_checker.specs.Numbers.{opened_by, AreEnvs, IsJoined}
use Rattle.hs_checker.proofs.unions.add_unions.Given as goal

abbrev pub invariant-loop-env : goal.invariant-loop-env
invariant-loop-env l = record {
  grows : Grows l.fn.types l.types;
  range : AreEnvs (length (env_of_id l.fn.types l.row.env)) l.types l.found.items;
  each : (u : ℕ) (e : EntryData) → Contains (opened_by l.types u l.found.items) e ↔ (Contains (opened_by l.fn.types u l.fn.found.items) e ⊎ IsJoined l.fn.types u (take l.env-index l.kept) l.row e);
}
