-- none of the rows so far is as strong
use Rattle.std.proofs.Common.{◌≡◌, take}
use Rattle.hs_types.specs.Interned.{type_of_id}
use Rattle.hs_void.proofs.AtArguments.{SomeStrong}
use Rattle.hs_void.proofs.arguments.has_row.Given as goal

abbrev pub invariant-loop-row : goal.invariant-loop-row
invariant-loop-row l = record {
  same : l.types ≡ l.fn.types;
  none : SomeStrong l.fn.types (take l.row-index l.rows) (type_of_id l.fn.types l.fn.ty) → ⊥;
}
