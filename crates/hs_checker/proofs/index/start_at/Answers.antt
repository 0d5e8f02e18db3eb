use Rattle.std.proofs.Common.{ℕ, ◌<◌, length, get_or, arith, Bor}
use borrow.Author.Count.{below_more}
use Rattle.hs_types.specs.Interned.{RowData}
use Rattle.hs_checker.proofs.StartLemmas.{start_kept_rows}
use Rattle.hs_checker.proofs.index.start_at.Goals as goal

pub loop-start-init : goal.loop-start-init
loop-start-init c = c.requires.before

pub returns-then-are_behind : goal.returns-then-are_behind
returns-then-are_behind c =
    start_kept_rows c.args.rows.now c.args.point c.loop-start.start c.requires.sorted (omega (arith, c.loop-start-test.true)) c.loop-start.invariant (c.are_behind.ensures.behind c.if-are_behind.true)

pub loop-start-preserved : goal.loop-start-preserved
loop-start-preserved c =
    let rows = c.args.rows.now in
    λ k d lt. below_more (λ (n : ℕ). (e : Bor RowData) → (get_or rows n e).now.point < c.args.point) c.loop-start.start (λ n l e. c.loop-start.invariant n e l)
    (λ e. c.are_behind.ensures.before c.if-are_behind.false e c.loop-start-test.true) k lt d

pub returns : goal.returns
returns c =
    start_kept_rows c.args.rows.now c.args.point (length c.args.rows.now) c.requires.sorted (omega arith) (λ k d lt. c.loop-start.invariant k d (omega (arith, lt, c.loop-start-test.false))) (λ d lt. absurd (omega (arith, lt)))
