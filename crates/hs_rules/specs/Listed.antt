-- What the look-ups of a log tell of once conclusions were sought.
--     TellsAsMuch    of as much as before, or of more
use Rattle.std.specs.Prelude.{ℕ, ◌≤◌}
use Rattle.hs_replica.specs.Replica.{ReplicaData, typed_to}

pub record TellsAsMuch (old new : ReplicaData) : Type 0 where
  pub indexed : old.indexed ≤ new.indexed
  pub typed : (point : ℕ) → typed_to old point ≤ typed_to new point
