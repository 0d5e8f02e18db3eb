use Rattle.std.proofs.Common.{◌<◌, sym, arith, length}
use Rattle.hs_types.specs.Interned.{env_of_id}
use Rattle.hs_rules.specs.Heads.{GainsHeads, ChildAt, ReadIn}
use Rattle.hs_rules.proofs.Lists.{on_ok_map}
use Rattle.hs_rules.proofs.TerminalLemmas.{heads_child, heads_read}
use Rattle.hs_rules.proofs.terminals.push_reads.Goals as goal

pub returns-clause-gains : goal.returns-clause-gains
returns-clause-gains c =
    let K = c.push_child.new.replica.ids in
    let ts = c.args.terminal.now.automaton.now.transitions in
    let own = env_of_id c.args.replica.now.ids c.args.terminal.now.own in
    let to = c.in-Some.to.now in
    let moves = sym c.in-Some.ensures in
    let old = c.args.out.now.items in
    let new = c.push_child.new.out.items in
    let lt : c.args.q < c.args.terminal.now.automaton.now.states = omega (arith, c.if-q-states.false, c.states.ensures) in
    on_ok_map c.push_child.result (GainsHeads K (length c.args.terminal.now.at.now.search.args.now) (ChildAt own c.args.q to c.args.place) old new) (GainsHeads K (length c.args.terminal.now.at.now.search.args.now) (ReadIn c.args.terminal.now.automaton.now.states ts c.args.terminal.now.number own c.args.place c.args.q) old new)
    (λ g. heads_read K (length c.args.terminal.now.at.now.search.args.now) ts c.args.terminal.now.number 0 0 own c.args.q old new c.args.terminal.now.automaton.now.states c.args.place lt
    (heads_child K (length c.args.terminal.now.at.now.search.args.now) ts c.args.terminal.now.number 0 0 own c.args.q old new to c.args.place moves g)) c.push_child.ensures.gains
