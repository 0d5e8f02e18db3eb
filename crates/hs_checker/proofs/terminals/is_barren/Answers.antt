use Rattle.std.proofs.Common.{arith}
use Rattle.hs_checker.proofs.terminals.is_barren.Goals as goal

pub returns : goal.returns
returns c = λ _. (
  c.if-not-bare.false,
  λ q lt.
      let m = c.requires c.args.terminal (c.is_marked.ensures.0 c.if-not-is_marked.false) q lt in
      (m.0, (m.1.0, omega (arith, m.1.1, c.rank-least.ensures, c.if-count-least.false))),
)
