-- just those so far are filed
use Rattle.std.proofs.Common.{◌≡◌, take, length}
use Rattle.hs_minimal.specs.Strongest.{AreFiled}
use Rattle.hs_minimal.proofs.filing.file.Given as goal

abbrev pub invariant-loop-row : goal.invariant-loop-row
invariant-loop-row l = record {
  long : length l.filed.items ≡ l.points;
  filed : AreFiled l.types (take l.row-index l.rows) l.filed.items;
}
