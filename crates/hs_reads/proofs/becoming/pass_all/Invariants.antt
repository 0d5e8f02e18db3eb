-- so far what the pairs that were taken pass on is there, and nothing else
use Rattle.std.proofs.Common.{ℕ, ◌+◌, ◌*◌, ◌≤◌, List, length, take, Contains}
use Rattle.hs_scheme.specs.declared.term.Head.{Head}
use Rattle.hs_scheme.specs.declared.flow.FlowPair.{FlowPair}
use Rattle.hs_weak.specs.Reads.{PointIs}
use Rattle.hs_reads.specs.Growing.{Grows, AddsOnly}
use Rattle.hs_reads.specs.Own.{IsBecoming}
use Rattle.hs_reads.specs.Becomings.{AreShort}
use Rattle.hs_reads.proofs.becoming.pass_all.Given as goal

abbrev pub invariant-loop-pair : goal.invariant-loop-pair
invariant-loop-pair l = record {
  grows : Grows l.initial.found.keys l.found.keys;
  there : (f : FlowPair) → Contains (take l.pair-index l.pairs) f → (rule : ℕ) (h : Head) (args : List ℕ) → PointIs l.problem f.point rule h args
      → Contains l.found.keys (record { rule = f.rule; param = f.param; terminal = l.becoming.terminal; given = l.becoming.given + length args });
  few : length l.found.keys ≤ 4000000;
  given : l.becoming.given ≤ 500000 * length l.found.keys;
  only : AddsOnly (IsBecoming l.problem) l.initial.found.keys l.found.keys;
  short : AreShort l.initial.found.keys → AreShort l.found.keys;
}
