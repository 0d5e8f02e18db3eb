-- what comes of the slots so far follows
use Rattle.std.proofs.Common.{◌⊎◌, ◌∷◌, Contains}
use Rattle.hs_replica.specs.Replica.{KeepsLog}
use Rattle.hs_rules.specs.Conclusions.{DeducedData}
use Rattle.hs_rules.specs.Found.{HeadData, seek, RowsAre, Lowers, IsDeducedBy}
use Rattle.hs_rules.proofs.found.conclude_filled.Given as goal

abbrev pub invariant-loop : goal.invariant-loop
invariant-loop l = record {
  kept : KeepsLog l.fn.replica l.replica;
  rows : RowsAre l.found.rows.keys l.found.list.items;
  lowers : Lowers l.fn.found.list.items l.found.list.items;
  concluded : (d : DeducedData) → Contains l.found.list.items d → Contains l.fn.found.list.items d ⊎ ((h : HeadData) × Contains (l.head ∷ l.alike) h × IsDeducedBy l.fn.replica.ids l.replica.ids l.fn.replica.log (seek l.search) h d);
}
