use Rattle.hs_sorts.proofs.Measuring.{arrow_done}
use Rattle.hs_sorts.proofs.measures.step_at_arrow.Goals as goal

pub returns : goal.returns
returns c =
    arrow_done c.args.marks.now c.args.argument c.args.rest c.in-Some.first c.in-Some-measure.second c.in_ok-measure.measure
    c.in-Some.ensures c.in-Some-measure.ensures c.requires.argument c.requires.rest c.in_ok-measure.ensures
