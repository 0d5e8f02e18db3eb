-- what the types so far lead to is there
use Rattle.std.proofs.Common.{ℕ, ◌-◌, List, ◌⊎◌, length, take, Contains}
use Rattle.hs_table.specs.Entries.{Env}
use Rattle.hs_replica.specs.Replica.{KeepsLog}
use Rattle.hs_rules.specs.Conclusions.{DeducedData}
use Rattle.hs_rules.specs.Found.{HeadData, seek, RowsAre, Lowers, HeadLeadsTo, IsDeducedBy, HasEnvFound}
use Rattle.hs_rules.proofs.found.conclude_grouped.Given as goal

abbrev pub decreases-loop-done : goal.decreases-loop-done
decreases-loop-done l = length l.heads - l.done

abbrev pub invariant-loop-done : goal.invariant-loop-done
invariant-loop-done l = record {
  kept : KeepsLog l.fn.replica l.replica;
  rows : RowsAre l.found.rows.keys l.found.list.items;
  lowers : Lowers l.fn.found.list.items l.found.list.items;
  concluded : (d : DeducedData) → Contains l.found.list.items d → Contains l.fn.found.list.items d ⊎ ((h : HeadData) × Contains l.heads h × IsDeducedBy l.fn.replica.ids l.replica.ids l.fn.replica.log (seek l.search) h d);
  all : (h : HeadData) → Contains (take l.done l.heads) h → (args : List (ℕ × ℕ)) (env : Env) → HeadLeadsTo l.fn.replica.ids l.fn.replica.log (seek l.search) h args env → HasEnvFound l.replica.ids (seek l.search) h args env l.found.list.items;
}
