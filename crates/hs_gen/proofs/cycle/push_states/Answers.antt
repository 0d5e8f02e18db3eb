use Rattle.std.proofs.Common.{◌+◌}
use Rattle.hs_gen.specs.Cycle.{inner_lines, branch_line, step_line, end_line}
use Rattle.hs_gen.proofs.Texts.{number-more, three-pieces}
use Rattle.hs_gen.proofs.cycle.push_states.Goals as goal

pub loop-state-preserved : goal.loop-state-preserved
loop-state-preserved c =
    let i = c.loop-state.state in
    let old = c.loop-state.text.items in
    let new = c.push_end.new.text.items in
    number-more inner_lines i c.args.text.now.items old new c.loop-state.invariant
    (three-pieces (branch_line i) (step_line i (i + 1)) (end_line i) old c.push_branch.new.text.items c.push_step.new.text.items new
    c.in_ok-push_branch.ensures c.in_ok-push_step.ensures c.in_ok-push_end.ensures)
