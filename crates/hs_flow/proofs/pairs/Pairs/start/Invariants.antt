-- the points so far have passed on what they do
use Rattle.std.proofs.Common.{◌≤◌, ◌<◌, length, Contains}
use Rattle.hs_scheme.specs.declared.flow.Pair.{Pair}
use Rattle.hs_flow.specs.Passing.{PassedAtFirst}
use Rattle.hs_flow.specs.Pairs.{FindsOnly}
use Rattle.hs_flow.proofs.pairs.Pairs.start.Given as goal

abbrev pub invariant-loop-point : goal.invariant-loop-point
invariant-loop-point l = record {
  finds : FindsOnly (PassedAtFirst l.initial.self.rules) l.initial.self l.self;
  so_far : (q : Pair) (f : PassedAtFirst l.initial.self.rules q) → f.point < l.point → Contains l.self.found q;
  behind : (q : Pair) → Contains l.self.found q → (f : PassedAtFirst l.initial.self.rules q) × (f.point < l.point);
  few : length l.self.found ≤ l.self.max;
}
