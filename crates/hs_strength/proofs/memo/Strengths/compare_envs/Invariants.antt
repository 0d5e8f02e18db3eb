-- the sets so far are asked
use Rattle.std.proofs.Common.{ℕ, ◌<◌}
use Rattle.hs_table.specs.Entries.{set_at}
use Rattle.hs_weak.specs.Strength.{AsStrongAs, AsksEach}
use Rattle.hs_types.specs.Interned.{env_of_id}
use Rattle.hs_strength.specs.Remembered.{Remembers}
use Rattle.hs_strength.proofs.memo.Strengths.compare_envs.Given as goal

abbrev pub invariant-loop-parameter : goal.invariant-loop-parameter
invariant-loop-parameter l = record {
  memo : Remembers l.types l.self;
  asked : (j : ℕ) → j < l.parameter → AsksEach AsStrongAs (set_at (env_of_id l.types l.fn.env) j) (set_at (env_of_id l.types l.fn.other) j);
}
