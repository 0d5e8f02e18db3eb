use Rattle.std.proofs.Common.{subst, length}
use Rattle.hs_table.specs.Entries.{Env}
use Rattle.hs_types.specs.Interned.{env_of_id}
use Rattle.hs_types.proofs.Numbers.{env_stays}
use Rattle.hs_rules.specs.Heads.{GainsHeads, ChildAt}
use Rattle.hs_rules.proofs.KeepLemmas.{keeps_then}
use Rattle.hs_rules.proofs.TerminalLemmas.{heads_up, heads_children}
use Rattle.hs_rules.proofs.terminals.push_children.Goals as goal

pub loop-place-preserved : goal.loop-place-preserved
loop-place-preserved c =
    let I = c.args.replica.now.ids in
    let J = c.loop-place.replica.ids in
    let K = c.push_child.new.replica.ids in
    let own = env_of_id I c.args.terminal.now.own in
    let gains = subst (λ (o : Env). GainsHeads K (length c.args.terminal.now.at.now.search.args.now) (ChildAt o c.args.q c.args.to.now c.loop-place.place) c.loop-place.out.items c.push_child.new.out.items)
    (env_stays I J c.loop-place.invariant.kept.grows c.args.terminal.now.own c.requires.own) c.in_ok-push_child.ensures.gains in
    record {
      kept = keeps_then c.args.replica.now c.loop-place.replica c.push_child.new.replica c.loop-place.invariant.kept c.in_ok-push_child.ensures.kept;
      gains = heads_up J K (length c.args.terminal.now.at.now.search.args.now) (ChildAt own c.args.q c.args.to.now) c.args.from c.loop-place.place c.args.out.now.items c.loop-place.out.items c.push_child.new.out.items c.in_ok-push_child.ensures.kept.grows
          c.loop-place.auto.place c.loop-place.invariant.gains gains;
    }

pub returns-clause-gains : goal.returns-clause-gains
returns-clause-gains c =
    heads_children c.loop-place.replica.ids (length c.args.terminal.now.at.now.search.args.now) (env_of_id c.args.replica.now.ids c.args.terminal.now.own) c.args.q c.args.to.now c.args.from c.loop-place.place c.args.out.now.items c.loop-place.out.items c.loop-place-test.false c.loop-place.invariant.gains
