use Rattle.std.proofs.Common.{get_or}
use Rattle.std.proofs.lemmas.List.{get_or_default}
use Rattle.hs_heads.specs.Sources.{InState}
use Rattle.hs_heads.proofs.Gaining.{some_none, some_next, some_all}
use Rattle.hs_heads.proofs.terminals.add_terminal.Goals as goal

pub loop-q-init : goal.loop-q-init
loop-q-init c = some_none (InState c.args.problem.now c.args.terminal) c.args.states.now c.args.types.now c.args.found.now.keys

pub loop-q-preserved : goal.loop-q-preserved
loop-q-preserved c =
    let states = c.args.states.now in
    let k = c.loop-q.q-index in
    let q = get_or states k 0 in
    some_next (InState c.args.problem.now c.args.terminal) states c.args.types.now c.loop-q.types c.add_in_state.new.types k q c.args.found.now.keys c.loop-q.found.keys c.add_in_state.new.found.keys c.loop-q-test.true
    (get_or_default states k 0 q c.loop-q-test.true) c.loop-q.invariant c.in_ok-add_in_state.ensures

pub returns : goal.returns
returns c =
    some_all (InState c.args.problem.now c.args.terminal) c.args.states.now c.args.types.now c.loop-q.types c.loop-q.q-index c.args.found.now.keys c.loop-q.found.keys c.loop-q-test.false c.loop-q.invariant
