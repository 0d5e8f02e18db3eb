-- those so far are in the log
use Rattle.std.proofs.Common.{Contains}
use Rattle.hs_types.specs.Interned.{entry_of}
use Rattle.hs_rules.specs.Conclusions.{DeducedData}
use Rattle.hs_table_examples.proofs.Lists.{SoFar}
use Rattle.hs_table_examples.proofs.following.has_all.Given as goal

abbrev pub invariant-loop-deduced : goal.invariant-loop-deduced
invariant-loop-deduced l = SoFar (λ (d : DeducedData). Contains l.replica.log (entry_of l.replica.ids d.row)) l.found l.deduced-index
