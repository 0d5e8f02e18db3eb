use Rattle.std.proofs.Common.{◌≡◌, sym, ◌∙◌, ◌+◌, ◌∷◌, [], ap, ℕ, length, map, replicate, set, get_or, Some}
use Rattle.std.proofs.lemmas.Option.{slice_get-get_or, same_Some}
use Rattle.hs_table.specs.declared.support.HeadBy.TheVariants.{Terminal}
use Rattle.hs_table.specs.Types.{state, arrows}
use Rattle.hs_table.specs.Entries.{Env}
use Rattle.hs_types.specs.Interned.{set_of_id, env_of_id}
use Rattle.hs_types.proofs.Numbers.{env_within, env_stays}
use Rattle.hs_rules.specs.Heads.{GainsHeads, Just, ChildAt}
use Rattle.hs_rules.proofs.Lists.{on_ok_map}
use Rattle.hs_rules.proofs.HeadLemmas.{heads_same}
use Rattle.hs_rules.proofs.terminals.push_child.Goals as goal

pub push_state-requires-clause-own : goal.push_state-requires-clause-own
push_state-requires-clause-own c = env_within c.args.replica.now.ids c.child_sets.new.replica.ids c.in_ok-full.ensures.kept.grows c.args.terminal.now.own c.requires.own

pub returns-clause-gains : goal.returns-clause-gains
returns-clause-gains c =
    let I = c.args.replica.now.ids in
    let J = c.child_sets.new.replica.ids in
    let K = c.push_state.new.replica.ids in
    let to = c.args.to.now in
    let place = c.args.place in
    let q = c.args.q in
    let own = env_of_id I c.args.terminal.now.own in
    let r = get_or to place 0 in
    let at = slice_get-get_or to place 0 c.requires.place in
    let by = Terminal q (Some (place + 1)) in
    let full = map (set_of_id J) c.as_slice.result.now in
    let old = c.args.out.now.items in
    let new = c.push_state.new.out.items in
    let sets_are = ap (map (set_of_id J)) c.as_slice.ensures ∙ c.in_ok-full.ensures.are in
    let ty = arrows (set (replicate (length to) []) place (state r ∷ [])) (state q) in
    let is : arrows full (state q) ≡ ty = ap (λ (ss : Env). arrows ss (state q)) sets_are in
    let own_is = env_stays I J c.in_ok-full.ensures.kept.grows c.args.terminal.now.own c.requires.own in
    on_ok_map c.push_state.result (GainsHeads K (length c.args.terminal.now.at.now.search.args.now) (Just by (env_of_id J c.args.terminal.now.own) (arrows full (state q))) old new) (GainsHeads K (length c.args.terminal.now.at.now.search.args.now) (ChildAt own q to place) old new)
    (heads_same K (length c.args.terminal.now.at.now.search.args.now) (Just by (env_of_id J c.args.terminal.now.own) (arrows full (state q))) (ChildAt own q to place) old new
    (λ b o t j. record { r = r; at = at; just = (j.0, j.1 ∙ own_is, j.2 ∙ is) })
    (λ b o t k.
    let same = same_Some k.r r (sym k.at ∙ at) in
    (k.just.0, k.just.1 ∙ sym own_is, k.just.2 ∙ (ap (λ (x : ℕ). arrows (set (replicate (length to) []) place (state x ∷ [])) (state q)) same ∙ sym is))))
    c.push_state.ensures.gains
