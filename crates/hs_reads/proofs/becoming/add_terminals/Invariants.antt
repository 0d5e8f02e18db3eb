-- so far those of the pairs that were taken are there, and nothing else
use Rattle.std.proofs.Common.{ℕ, List, length, take, Contains}
use Rattle.hs_scheme.specs.declared.term.Head.TheVariants.{Tm}
use Rattle.hs_scheme.specs.declared.flow.FlowPair.{FlowPair}
use Rattle.hs_weak.specs.Reads.{PointIs}
use Rattle.hs_reads.specs.Growing.{Grows, AddsOnly}
use Rattle.hs_reads.specs.Own.{IsBecoming}
use Rattle.hs_reads.specs.Becomings.{AreShort}
use Rattle.hs_reads.proofs.becoming.add_terminals.Given as goal

abbrev pub invariant-loop-pair : goal.invariant-loop-pair
invariant-loop-pair l = record {
  grows : Grows l.initial.found.keys l.found.keys;
  there : (f : FlowPair) → Contains (take l.pair-index l.pair-items) f → (rule a : ℕ) (args : List ℕ) → PointIs l.problem f.point rule (Tm a) args
      → Contains l.found.keys (record { rule = f.rule; param = f.param; terminal = a; given = length args });
  only : AddsOnly (IsBecoming l.problem) l.initial.found.keys l.found.keys;
  short : AreShort l.initial.found.keys → AreShort l.found.keys;
}
