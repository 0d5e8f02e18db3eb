use Rattle.std.proofs.Common.{◌≡◌, sym, ◌∙◌, [], ap, length, map, replicate, None}
use Rattle.hs_table.specs.declared.support.HeadBy.TheVariants.{Terminal}
use Rattle.hs_table.specs.Types.{state, arrows}
use Rattle.hs_table.specs.Entries.{Env}
use Rattle.hs_types.specs.Interned.{set_of_id, env_of_id}
use Rattle.hs_types.proofs.Numbers.{env_within, env_stays}
use Rattle.hs_rules.specs.Heads.{GainsHeads, Just, AtRange, ChildAt, StopsIn, InState}
use Rattle.hs_rules.proofs.Lists.{on_ok_map}
use Rattle.hs_rules.proofs.HeadLemmas.{heads_same}
use Rattle.hs_rules.proofs.TerminalLemmas.{heads_lack, heads_move}
use Rattle.hs_rules.proofs.terminals.push_in_state.Goals as goal

pub push_state-requires-clause-own : goal.push_state-requires-clause-own
push_state-requires-clause-own c = env_within c.args.replica.now.ids c.empty_sets.new.replica.ids c.in_ok-full-in-None.ensures.kept.grows c.args.terminal.now.own c.requires.own

pub returns-in_ok-full-in-None-clause-gains : goal.returns-in_ok-full-in-None-clause-gains
returns-in_ok-full-in-None-clause-gains c =
    let I = c.args.replica.now.ids in
    let J = c.empty_sets.new.replica.ids in
    let K = c.push_state.new.replica.ids in
    let ts = c.args.terminal.now.automaton.now.transitions in
    let q = c.args.q in
    let own = env_of_id I c.args.terminal.now.own in
    let full = map (set_of_id J) c.as_slice.result.now in
    let old = c.args.out.now.items in
    let new = c.push_state.new.out.items in
    let own_is = env_stays I J c.in_ok-full-in-None.ensures.kept.grows c.args.terminal.now.own c.requires.own in
    let is : arrows full (state q) ≡ arrows (replicate c.args.terminal.now.rank []) (state q) = ap (λ (ss : Env). arrows ss (state q)) (ap (map (set_of_id J)) c.as_slice.ensures ∙ c.in_ok-full-in-None.ensures.are) in
    let none = sym c.in-None.ensures in
    on_ok_map c.push_state.result (GainsHeads K (length c.args.terminal.now.at.now.search.args.now) (Just (Terminal q None) (env_of_id J c.args.terminal.now.own) (arrows full (state q))) old new)
    (GainsHeads K (length c.args.terminal.now.at.now.search.args.now) (InState ts c.args.terminal.now.number c.args.terminal.now.rank c.args.from own q) old new)
    (λ g. heads_lack K (length c.args.terminal.now.at.now.search.args.now) ts c.args.terminal.now.number c.args.terminal.now.rank c.args.from own q old new none
    (heads_same K (length c.args.terminal.now.at.now.search.args.now) (Just (Terminal q None) (env_of_id J c.args.terminal.now.own) (arrows full (state q))) (StopsIn ts c.args.terminal.now.number c.args.terminal.now.rank own q) old new
    (λ b o t j. record { moves = none; just = (j.0, j.1 ∙ own_is, j.2 ∙ is) }) (λ b o t l. (l.just.0, l.just.1 ∙ sym own_is, l.just.2 ∙ sym is)) g))
    c.push_state.ensures.gains

pub returns-in-Some-clause-gains : goal.returns-in-Some-clause-gains
returns-in-Some-clause-gains c =
    let K = c.push_children.new.replica.ids in
    let ts = c.args.terminal.now.automaton.now.transitions in
    let own = env_of_id c.args.replica.now.ids c.args.terminal.now.own in
    let to = c.in-Some.to.now in
    let moves = sym c.in-Some.ensures in
    let old = c.args.out.now.items in
    let new = c.push_children.new.out.items in
    on_ok_map c.push_children.result (GainsHeads K (length c.args.terminal.now.at.now.search.args.now) (AtRange (ChildAt own c.args.q to) c.args.from (length to)) old new) (GainsHeads K (length c.args.terminal.now.at.now.search.args.now) (InState ts c.args.terminal.now.number c.args.terminal.now.rank c.args.from own c.args.q) old new)
    (heads_move K (length c.args.terminal.now.at.now.search.args.now) ts c.args.terminal.now.number c.args.terminal.now.rank c.args.from own c.args.q old new to moves (c.requires.ranks c.args.q to moves)) c.push_children.ensures.gains
