-- the rows that stand here so far stand for what the other's do, and there is room for the others
use Rattle.std.proofs.Common.{◌≡◌, ◌≤◌, All, length, map, take, vec_capacity}
use Rattle.hs_types.specs.Interned.{IsRow, entry_of, Grows}
use Rattle.hs_types.specs.Translations.{AreFound}
use Rattle.hs_types.proofs.nodes.Nodes.import_rows.Given as goal

abbrev pub invariant-loop-row : goal.invariant-loop-row
invariant-loop-row l = record {
  grows : Grows l.fn.self l.self;
  found : AreFound l.from l.self l.found;
  known : All (IsRow l.self) l.own.items;
  same : map (entry_of l.self) l.own.items ≡ map (entry_of l.from) (take l.row-index l.rows);
  room : length l.rows ≤ vec_capacity l.own;
}
