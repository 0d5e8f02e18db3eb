-- the rows by the types so far are there
use Rattle.std.proofs.Common.{◌⊎◌, ◌∷◌, take, Contains}
use Rattle.hs_rules.specs.Conclusions.{DeducedData}
use Rattle.hs_rules.specs.Joins.{PartialData}
use Rattle.hs_rules.specs.Found.{HeadData, RowsAre, Lowers, IsRowOf, HasRow}
use Rattle.hs_rules.proofs.found.add_each.Given as goal

abbrev pub invariant-loop-other : goal.invariant-loop-other
invariant-loop-other l = record {
  rows : RowsAre l.found.rows.keys l.found.list.items;
  lowers : Lowers l.fn.found.list.items l.found.list.items;
  rows_of : (d : DeducedData) → Contains l.found.list.items d → Contains l.fn.found.list.items d ⊎ ((h : HeadData) × Contains (l.head ∷ l.alike) h × IsRowOf l.point h l.partials d);
  all : (h : HeadData) → Contains (l.head ∷ take l.other-index l.alike) h → (x : PartialData) → Contains l.partials x → HasRow l.point h x l.found.list.items;
}
