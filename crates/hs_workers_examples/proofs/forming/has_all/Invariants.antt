-- those so far are in the log
use Rattle.std.proofs.Common.{ℕ, ◌<◌, get_or, Contains}
use Rattle.hs_types.specs.Interned.{entry_of}
use Rattle.hs_rules.specs.Conclusions.{DeducedData}
use Rattle.hs_workers_examples.proofs.forming.has_all.Given as goal

abbrev pub invariant-loop-deduced : goal.invariant-loop-deduced
invariant-loop-deduced l = (k : ℕ) (d : DeducedData) → k < l.deduced-index → Contains l.replica.log (entry_of l.replica.ids (get_or l.found k d).row)
