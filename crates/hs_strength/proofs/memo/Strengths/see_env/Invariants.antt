-- the sets so far ask for each of their types
use Rattle.std.proofs.Common.{ℕ, ◌<◌}
use Rattle.hs_table.specs.Entries.{set_at}
use Rattle.hs_weak.specs.Strength.{AsStrongAs, AsksEach}
use Rattle.hs_types.specs.Interned.{env_of_id}
use Rattle.hs_strength.specs.Remembered.{Remembers}
use Rattle.hs_strength.proofs.memo.Strengths.see_env.Given as goal

abbrev pub invariant-loop-set : goal.invariant-loop-set
invariant-loop-set l = record {
  memo : Remembers l.types l.self;
  seen : (j : ℕ) → j < l.set-index → AsksEach AsStrongAs (set_at (env_of_id l.types l.fn.env) j) (set_at (env_of_id l.types l.fn.env) j);
}
