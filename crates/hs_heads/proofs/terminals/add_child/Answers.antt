use Rattle.std.proofs.Common.{◌≡◌, ◌∙◌, [], ◌∷◌, ap, subst, length, get_or, replicate, set}
use Rattle.std.proofs.lemmas.Option.{slice_get_within, slice_get-get_or, get_or_from_slice_get}
use Rattle.std.proofs.lemmas.Result.{on_ok_weaker}
use Rattle.hs_table.specs.Types.{TypeTree, state, arrows}
use Rattle.hs_table.specs.Entries.{Env}
use Rattle.hs_types.specs.Interned.{type_of_id, env_of_id}
use Rattle.hs_types.proofs.Numbers.{Grows-trans, env_within, env_stays}
use Rattle.hs_heads.specs.Sources.{GainsTypes, ByChild}
use Rattle.hs_heads.proofs.Gaining.{gains_grown, gains_same}
use Rattle.hs_heads.proofs.TerminalLemmas.{child_type}
use Rattle.hs_heads.proofs.terminals.add_child.Goals as goal

pub single_env-requires-clause-ty : goal.single_env-requires-clause-ty
single_env-requires-clause-ty c = slice_get_within c.base.new.self.types c.in_ok-child.child (state (get_or c.args.to.now c.args.place 0)) c.in_ok-child.ensures.ok

pub add_arrows-requires-clause-env : goal.add_arrows-requires-clause-env
add_arrows-requires-clause-env c =
    env_within c.single_env.new.self c.base-2.new.self c.in_ok-last.ensures.grows c.in_ok-env.env
    (slice_get_within c.single_env.new.self.envs c.in_ok-env.env (set (replicate (length c.args.to.now) []) c.args.place (type_of_id c.base.new.self c.in_ok-child.child ∷ [])) c.in_ok-env.ensures.ok)

pub add_arrows-requires-clause-rest : goal.add_arrows-requires-clause-rest
add_arrows-requires-clause-rest c = slice_get_within c.base-2.new.self.types c.in_ok-last.last (state c.args.q) c.in_ok-last.ensures.ok

pub returns : goal.returns
returns c =
    let I = c.args.types.now in
    let B = c.base.new.self in
    let J = c.single_env.new.self in
    let L = c.base-2.new.self in
    let K = c.add_arrows.new.types in
    let env = c.in_ok-env.env in
    let to = c.args.to.now in
    let place = c.args.place in
    let r = get_or to place 0 in
    let child_is : type_of_id B c.in_ok-child.child ≡ state r = get_or_from_slice_get B.types c.in_ok-child.child (state r) (state 0) c.in_ok-child.ensures.ok in
    let one : Env = set (replicate (length to) []) place (type_of_id B c.in_ok-child.child ∷ []) in
    let within = slice_get_within J.envs env one c.in_ok-env.ensures.ok in
    let env_is : env_of_id L env ≡ set (replicate (length to) []) place (state r ∷ []) =
    env_stays J L c.in_ok-last.ensures.grows env within ∙ (get_or_from_slice_get J.envs env one [] c.in_ok-env.ensures.ok ∙ ap (λ (t : TypeTree). set (replicate (length to) []) place (t ∷ [])) child_is) in
    let last_is : type_of_id L c.in_ok-last.last ≡ state c.args.q = get_or_from_slice_get L.types c.in_ok-last.last (state c.args.q) (state 0) c.in_ok-last.ensures.ok in
    let ty : TypeTree = arrows (set (replicate (length to) []) place (state r ∷ [])) (state c.args.q) in
    let same : arrows (env_of_id L env) (type_of_id L c.in_ok-last.last) ≡ ty = λ i. arrows (env_is i) (last_is i) in
    let old = c.args.found.now.keys in
    let new = c.add_arrows.new.found.keys in
    let g = Grows-trans I B L c.in_ok-child.ensures.grows (Grows-trans B J L c.in_ok-env.ensures.grows c.in_ok-last.ensures.grows) in
    on_ok_weaker c.add_arrows.result (λ gains.
    gains_grown I L K (ByChild c.args.q to place) old new g
    (gains_same L K (λ (u : TypeTree). u ≡ ty) (ByChild c.args.q to place) old new (child_type c.args.q to place r (slice_get-get_or to place 0 c.requires))
    (subst (λ (t : TypeTree). GainsTypes L K old new (λ (u : TypeTree). u ≡ t)) same gains))) c.add_arrows.ensures
