-- the rows of the environments so far are there
use Rattle.std.proofs.Common.{◌⊎◌, take, Contains}
use Rattle.hs_rules.specs.Conclusions.{DeducedData}
use Rattle.hs_rules.specs.Joins.{PartialData}
use Rattle.hs_rules.specs.Found.{RowsAre, Lowers, IsRowOf, HasRow}
use Rattle.hs_rules.proofs.found.add_all.Given as goal

abbrev pub invariant-loop-partial : goal.invariant-loop-partial
invariant-loop-partial l = record {
  rows : RowsAre l.found.rows.keys l.found.list.items;
  lowers : Lowers l.fn.found.list.items l.found.list.items;
  rows_of : (d : DeducedData) → Contains l.found.list.items d → Contains l.fn.found.list.items d ⊎ IsRowOf l.point l.head l.partials d;
  all : (x : PartialData) → Contains (take l.partial-index l.partials) x → HasRow l.point l.head x l.found.list.items;
}
