use Rattle.std.proofs.Common.{ℕ, ◌<◌, length, get_or, arith}
use borrow.Author.Count.{below_more}
use Rattle.hs_scheme.specs.declared.flow.HeadPair.{HeadPair}
use Rattle.hs_flow_checker.proofs.StartLemmas.{start_kept}
use Rattle.hs_flow_checker.proofs.head_pairs.start_at.Goals as goal

pub loop-start-init : goal.loop-start-init
loop-start-init c = c.requires.before

pub returns-then-are_behind : goal.returns-then-are_behind
returns-then-are_behind c =
    start_kept c.args.pairs.now c.args.point c.loop-start.start c.requires.ascending (omega (arith, c.loop-start-test.true)) c.loop-start.invariant (c.are_behind.ensures.behind c.if-are_behind.true)

pub loop-start-preserved : goal.loop-start-preserved
loop-start-preserved c =
    let pairs = c.args.pairs.now in
    λ k d lt. below_more (λ (n : ℕ). (h : HeadPair) → (get_or pairs n h).point < c.args.point) c.loop-start.start (λ n l h. c.loop-start.invariant n h l)
    (λ h. c.are_behind.ensures.before c.if-are_behind.false h c.loop-start-test.true) k lt d

pub returns : goal.returns
returns c =
    start_kept c.args.pairs.now c.args.point (length c.args.pairs.now) c.requires.ascending (omega arith) (λ k d lt. c.loop-start.invariant k d (omega (arith, lt, c.loop-start-test.false))) (λ d lt. absurd (omega (arith, lt)))
