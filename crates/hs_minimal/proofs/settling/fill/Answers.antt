use Rattle.std.proofs.Common.{sym, ◌∙◌, subst}
use Rattle.hs_scheme.specs.Problem.{ProblemData}
use Rattle.hs_reads.specs.Own.{AreAllPairs}
use Rattle.hs_minimal.proofs.SettlingLemmas.{grown_then}
use Rattle.hs_minimal.proofs.settling.fill.Goals as goal

pub settle_each-requires-clause-reads : goal.settle_each-requires-clause-reads
settle_each-requires-clause-reads c = subst (λ (p : ProblemData). AreAllPairs p c.args.reads.now) (sym c.loop-growing.invariant.grown.problem) c.requires.reads

pub spread-requires-clause-reads : goal.spread-requires-clause-reads
spread-requires-clause-reads c =
    subst (λ (p : ProblemData). AreAllPairs p c.args.reads.now) (sym (c.in_ok-settle_each.ensures.grown.problem ∙ c.loop-growing.invariant.grown.problem)) c.requires.reads

pub loop-growing-preserved : goal.loop-growing-preserved
loop-growing-preserved c =
    let I = c.args.types.now in
    let f = c.args.growing.now in
    let mid = c.settle_each.new.growing in
    let first = grown_then I c.loop-growing.types c.settle_each.new.types f c.loop-growing.growing mid c.loop-growing.invariant.grown c.in_ok-settle_each.ensures.grown in
    record { growing = c.in_ok-spread.ensures.growing; grown = grown_then I c.settle_each.new.types c.spread.new.types f mid c.spread.new.growing first c.in_ok-spread.ensures.grown }
