use Rattle.hs_scheme.proofs.Lists.{got_some}
use Rattle.hs_reduce.proofs.ReplacementLemmas.{unfolding_adds}
use Rattle.hs_reduce.proofs.replacement.unfold.Goals as goal

pub returns : goal.returns
returns c =
    unfolding_adds c.args.graph.now c.substitute.new.graph c.applied.new.graph c.args.rules.now c.args.number c.in-Some.rule.now c.args.args.now c.in_ok-body.body c.in_ok-applied.field-0
    (got_some c.args.rules.now c.args.number c.in-Some.rule.now c.in-Some.ensures.lookup.0 c.in-Some.ensures.lookup.1) c.if-args-params.false c.requires c.in_ok-body.ensures c.in_ok-applied.ensures
