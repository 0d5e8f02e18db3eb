use Rattle.std.proofs.Common.{subst, get_or, length}
use Rattle.hs_table.specs.Entries.{Env}
use Rattle.hs_types.specs.Interned.{env_of_id}
use Rattle.hs_types.proofs.Numbers.{env_stays}
use Rattle.hs_rules.specs.Heads.{GainsHeads, ReadIn}
use Rattle.hs_rules.proofs.KeepLemmas.{keeps_then}
use Rattle.hs_rules.proofs.Lists.{read_self}
use Rattle.hs_rules.proofs.HeadLemmas.{heads_next}
use Rattle.hs_rules.proofs.terminals.push_reading.Goals as goal

pub loop-q-preserved : goal.loop-q-preserved
loop-q-preserved c =
    let I = c.args.replica.now.ids in
    let J = c.loop-q.replica.ids in
    let K = c.push_reads.new.replica.ids in
    let m = c.args.terminal.now.automaton.now in
    let own = env_of_id I c.args.terminal.now.own in
    let states = c.args.states.now in
    let k = c.loop-q.q-index in
    let q = get_or states k 0 in
    let gains = subst (λ (o : Env). GainsHeads K (length c.args.terminal.now.at.now.search.args.now) (ReadIn m.states m.transitions c.args.terminal.now.number o c.args.place q) c.loop-q.out.items c.push_reads.new.out.items)
    (env_stays I J c.loop-q.invariant.kept.grows c.args.terminal.now.own c.requires.own) c.in_ok-push_reads.ensures.gains in
    record {
      kept = keeps_then c.args.replica.now c.loop-q.replica c.push_reads.new.replica c.loop-q.invariant.kept c.in_ok-push_reads.ensures.kept;
      gains = heads_next J K (length c.args.terminal.now.at.now.search.args.now) (ReadIn m.states m.transitions c.args.terminal.now.number own c.args.place) states k q c.args.out.now.items c.loop-q.out.items c.push_reads.new.out.items c.in_ok-push_reads.ensures.kept.grows c.loop-q-test.true
          (read_self states k 0 c.loop-q-test.true) c.loop-q.invariant.gains gains;
    }
