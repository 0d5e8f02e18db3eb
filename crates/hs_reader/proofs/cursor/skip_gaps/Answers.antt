use Rattle.std.proofs.Common.{◌∙◌, sym, arith}
use Rattle.hs_reader.proofs.Cutting.{tokens_behind, tokens_front}
use Rattle.hs_reader.proofs.cursor.skip_gaps.Goals as goal

pub loop-line_after-preserved : goal.loop-line_after-preserved
loop-line_after-preserved c = (
  c.loop-line_after.invariant.0 ∙ tokens_behind c.loop-line_after.at c.loop-line_after.rest.now (c.in-Some.line_after, c.in-Some.after.now) (sym c.in-Some.ensures.value),
  omega (arith, c.in-Some.ensures.within),
  omega (arith, c.in-Some.ensures.shorter),
)

pub returns-clause-value : goal.returns-clause-value
returns-clause-value c = c.loop-line_after.invariant.0 ∙ tokens_front c.loop-line_after.at c.loop-line_after.rest.now (sym c.in_default.ensures.value)
