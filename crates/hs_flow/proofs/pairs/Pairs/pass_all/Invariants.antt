-- the users so far have passed on what they do
use Rattle.std.proofs.Common.{◌≤◌, ◌⊎◌, take, length, Contains}
use Rattle.hs_scheme.specs.declared.flow.Pair.{Pair}
use Rattle.hs_flow.specs.Passing.{PassedBy, PassedFor}
use Rattle.hs_flow.specs.Pairs.{FindsOnly}
use Rattle.hs_flow.proofs.SpreadLemmas.{ForOne}
use Rattle.hs_flow.proofs.pairs.Pairs.pass_all.Given as goal

abbrev pub invariant-loop-point : goal.invariant-loop-point
invariant-loop-point l = record {
  finds : FindsOnly (PassedFor l.initial.self.rules l.base) l.initial.self l.self;
  so_far : (q : Pair) → ForOne (take l.point-index l.list) (PassedBy l.initial.self.rules l.base.base l.base.given) q → Contains l.self.found q;
  behind : (q : Pair) → Contains l.self.found q → Contains l.initial.self.found q ⊎ ForOne (take l.point-index l.list) (PassedBy l.initial.self.rules l.base.base l.base.given) q;
  few : length l.self.found ≤ l.self.max;
}
