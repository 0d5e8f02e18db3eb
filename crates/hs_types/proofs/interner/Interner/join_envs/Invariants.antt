-- the unions of so many sets are made
use Rattle.std.proofs.Common.{◌≡◌, ◌<◌, length, get_or, All, ℕ}
use Rattle.hs_table.specs.Entries.{set_at}
use Rattle.hs_types.specs.Interned.{set_of_id, env_of_id, IsUnion, Grows}
use Rattle.hs_types.proofs.interner.Interner.join_envs.Given as goal

abbrev pub invariant-loop-place : goal.invariant-loop-place
invariant-loop-place l = record {
  grows : Grows l.fn.self l.self;
  long : length l.unions.items ≡ l.place;
  range : All (λ s. s < length l.self.sets) l.unions.items;
  each : (k : ℕ) → k < l.place → IsUnion (set_at (env_of_id l.fn.self l.fn.a) k) (set_at (env_of_id l.fn.self l.fn.b) k) (set_of_id l.self (get_or l.unions.items k 0));
}
