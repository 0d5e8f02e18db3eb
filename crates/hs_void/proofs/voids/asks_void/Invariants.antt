-- none of the rows so far is asked
use Rattle.std.proofs.Common.{◌≡◌, take, Contains}
use Rattle.hs_weak.specs.Strength.{AsStrongAs, AsksAtLeast}
use Rattle.hs_types.specs.Interned.{env_of_id}
use Rattle.hs_numbered.specs.Certificates.{VoidRowData}
use Rattle.hs_void.proofs.voids.asks_void.Given as goal

abbrev pub invariant-loop-row : goal.invariant-loop-row
invariant-loop-row l = record {
  same : l.types ≡ l.fn.types;
  none : (v : VoidRowData) → Contains (take l.row-index l.row-items) v → AsksAtLeast AsStrongAs (env_of_id l.fn.types l.fn.env) (env_of_id l.fn.types v.env) → ⊥;
}
