-- the bases of the head pairs so far are there
use Rattle.std.proofs.Common.{take, Contains}
use Rattle.hs_scheme.specs.declared.flow.HeadPair.{HeadPair}
use Rattle.hs_flow.specs.Pairs.{HasBaseAt, IsReady, Extends}
use Rattle.hs_flow.proofs.pairs.Pairs.spread_flow.Given as goal

abbrev pub invariant-loop-head : goal.invariant-loop-head
invariant-loop-head l = record {
  extends : Extends l.initial.self l.self;
  ready : IsReady l.self;
  so_far : (h : HeadPair) → Contains (take l.head-index l.heads) h → HasBaseAt l.self (record { rule = l.flow.rule; param = l.flow.param; base = h.rule; given = h.given });
}
