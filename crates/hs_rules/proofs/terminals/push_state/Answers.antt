use Rattle.std.proofs.Common.{subst, map, OnOk, length}
use Rattle.std.proofs.lemmas.Option.{slice_get_within, get_or_from_slice_get}
use Rattle.hs_table.specs.Types.{TypeTree, state, arrows}
use Rattle.hs_table.specs.Entries.{Env}
use Rattle.hs_types.specs.Interned.{set_of_id, env_of_id}
use Rattle.hs_types.proofs.Numbers.{env_within, env_stays}
use Rattle.hs_rules.specs.Heads.{GainsHeads, Just}
use Rattle.hs_rules.proofs.FoundLemmas.{sets_stay, sets_within}
use Rattle.hs_rules.proofs.terminals.push_state.Goals as goal

pub push_given-requires-clause-own : goal.push_given-requires-clause-own
push_given-requires-clause-own c = env_within c.args.replica.now.ids c.base.new.self.ids c.in_ok-ty.ensures.kept.grows c.args.terminal.now.own c.requires.own

pub push_given-requires-clause-full : goal.push_given-requires-clause-full
push_given-requires-clause-full c = sets_within c.args.replica.now.ids c.base.new.self.ids c.args.full.now c.in_ok-ty.ensures.kept.grows c.requires.full

pub push_given-requires-clause-ty : goal.push_given-requires-clause-ty
push_given-requires-clause-ty c = slice_get_within c.base.new.self.ids.types c.in_ok-ty.ty (state c.args.q) c.in_ok-ty.ensures.ok

pub push_given-requires-clause-state : goal.push_given-requires-clause-state
push_given-requires-clause-state c = (c.args.q, get_or_from_slice_get c.base.new.self.ids.types c.in_ok-ty.ty (state c.args.q) (state 0) c.in_ok-ty.ensures.ok)

pub returns-clause-gains : goal.returns-clause-gains
returns-clause-gains c =
    let I = c.args.replica.now.ids in
    let J = c.base.new.self.ids in
    let g = c.in_ok-ty.ensures.kept.grows in
    let own_is = env_stays I J g c.args.terminal.now.own c.requires.own in
    let sets_are = sets_stay I J c.args.full.now g c.requires.full in
    let ty_is = get_or_from_slice_get J.types c.in_ok-ty.ty (state c.args.q) (state 0) c.in_ok-ty.ensures.ok in
    subst (λ (o : Env). OnOk c.push_given.result (GainsHeads c.push_given.new.replica.ids (length c.args.terminal.now.at.now.search.args.now) (Just c.args.by o (arrows (map (set_of_id I) c.args.full.now) (state c.args.q))) c.args.out.now.items c.push_given.new.out.items)) own_is
    (subst (λ (ss : Env). OnOk c.push_given.result (GainsHeads c.push_given.new.replica.ids (length c.args.terminal.now.at.now.search.args.now) (Just c.args.by (env_of_id J c.args.terminal.now.own) (arrows ss (state c.args.q))) c.args.out.now.items c.push_given.new.out.items)) sets_are
    (subst (λ (t : TypeTree). OnOk c.push_given.result (GainsHeads c.push_given.new.replica.ids (length c.args.terminal.now.at.now.search.args.now) (Just c.args.by (env_of_id J c.args.terminal.now.own) (arrows (map (set_of_id J) c.args.full.now) t)) c.args.out.now.items c.push_given.new.out.items)) ty_is
    c.push_given.ensures.gains))
