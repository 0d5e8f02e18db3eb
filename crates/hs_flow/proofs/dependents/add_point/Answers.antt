use Rattle.std.proofs.Common.{Contains}
use Rattle.std.proofs.lemmas.Result.{on_ok_weaker}
use Rattle.hs_scheme.specs.flow.Dependents.{HeadReads, IsDependent}
use Rattle.hs_flow.proofs.DependentLemmas.{adds_then, point_reads}
use Rattle.hs_flow.proofs.dependents.add_point.Goals as goal

pub returns : goal.returns
returns c =
    let flows = c.args.flow.now.pairs in
    on_ok_weaker c.add_to_head.result
    (adds_then c.args.point (Contains c.args_of.result.now) (HeadReads c.args.points.now.bodies flows c.rule_of-rule.result c.head_of.result) (λ p. IsDependent c.args.points.now flows p c.args.point)
    c.args.lists.now c.add_to_arguments.new.lists c.add_to_head.new.lists
    (point_reads c.args.points.now flows c.args.point c.rule_of-rule.result c.head_of.result c.args_of.result.now c.requires.point c.args_of.ensures.args c.rule_of-rule.ensures.rule c.head_of.ensures.head)
    c.in_ok-add_to_arguments.ensures) c.add_to_head.ensures
