use Rattle.std.proofs.Common.{subst, arith, length}
use Rattle.hs_table.specs.Entries.{Env}
use Rattle.hs_types.specs.Interned.{env_of_id}
use Rattle.hs_types.proofs.Numbers.{env_stays}
use Rattle.hs_rules.specs.Heads.{GainsHeads, InState}
use Rattle.hs_rules.proofs.KeepLemmas.{keeps_then}
use Rattle.hs_rules.proofs.TerminalLemmas.{heads_up}
use Rattle.hs_rules.proofs.terminals.push_terminal.Goals as goal

pub loop-q-preserved : goal.loop-q-preserved
loop-q-preserved c =
    let I = c.args.replica.now.ids in
    let J = c.loop-q.replica.ids in
    let K = c.push_in_state.new.replica.ids in
    let ts = c.args.terminal.now.automaton.now.transitions in
    let own = env_of_id I c.args.terminal.now.own in
    let gains = subst (λ (o : Env). GainsHeads K (length c.args.terminal.now.at.now.search.args.now) (InState ts c.args.terminal.now.number c.args.terminal.now.rank c.args.from o c.loop-q.q) c.loop-q.out.items c.push_in_state.new.out.items)
    (env_stays I J c.loop-q.invariant.kept.grows c.args.terminal.now.own c.requires.own) c.in_ok-push_in_state.ensures.gains in
    record {
      kept = keeps_then c.args.replica.now c.loop-q.replica c.push_in_state.new.replica c.loop-q.invariant.kept c.in_ok-push_in_state.ensures.kept;
      gains = heads_up J K (length c.args.terminal.now.at.now.search.args.now) (InState ts c.args.terminal.now.number c.args.terminal.now.rank c.args.from own) 0 c.loop-q.q c.args.out.now.items c.loop-q.out.items c.push_in_state.new.out.items c.in_ok-push_in_state.ensures.kept.grows
          (omega arith) c.loop-q.invariant.gains gains;
    }
