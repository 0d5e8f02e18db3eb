-- all that is passed on at first is found
use Rattle.std.proofs.Common.{◌-◌, Contains}
use Rattle.hs_scheme.specs.declared.flow.Pair.{Pair}
use Rattle.hs_flow.specs.Passing.{PassedAtFirst}
use Rattle.hs_flow.specs.Pairs.{IsReady, Extends}
use Rattle.hs_flow.proofs.analysis.Analysis.run.Given as goal

abbrev pub invariant-loop-pair : goal.invariant-loop-pair
invariant-loop-pair l = record {
  extends : Extends l.initial.self.pairs l.self.pairs;
  ready : IsReady l.self.pairs;
  first : (q : Pair) → PassedAtFirst l.self.pairs.rules q → Contains l.self.pairs.found q;
}

abbrev pub decreases-loop-pair : goal.decreases-loop-pair
decreases-loop-pair l = l.self.pairs.max - l.self.taken
