use Rattle.std.proofs.Common.{◌∙◌, ap, length, arith}
use Rattle.hs_scheme.specs.flow.Points.{PointsData}
use Rattle.hs_flow.proofs.AnalysisLemmas.{analysis_none}
use Rattle.hs_flow.proofs.analysis.Analysis.new.Goals as goal

pub invariant_of-result : goal.invariant_of-result
invariant_of-result c =
    analysis_none c.args.rules.now c.args.max c.in_ok-pairs.pairs c.in_ok-flows.flows c.in_ok-heads.heads c.in_ok-pairs.ensures (omega arith)
    (c.in_ok-flows.ensures.len ∙ (c.count-count.ensures.points ∙ ap (λ (p : PointsData). length p.points) c.requires.points))
    (c.in_ok-heads.ensures.len ∙ (c.count-count.ensures.points ∙ ap (λ (p : PointsData). length p.points) c.requires.points)) c.in_ok-flows.ensures.empty c.in_ok-heads.ensures.empty
