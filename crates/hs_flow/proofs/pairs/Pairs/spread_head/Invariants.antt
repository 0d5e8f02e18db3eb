-- the bases of the flow pairs so far are there
use Rattle.std.proofs.Common.{take, Contains}
use Rattle.hs_scheme.specs.declared.flow.FlowPair.{FlowPair}
use Rattle.hs_flow.specs.Pairs.{HasBaseAt, IsReady, Extends}
use Rattle.hs_flow.proofs.pairs.Pairs.spread_head.Given as goal

abbrev pub invariant-loop-flow : goal.invariant-loop-flow
invariant-loop-flow l = record {
  extends : Extends l.initial.self l.self;
  ready : IsReady l.self;
  so_far : (f : FlowPair) → Contains (take l.flow-index l.flows) f → HasBaseAt l.self (record { rule = f.rule; param = f.param; base = l.head.rule; given = l.head.given });
}
