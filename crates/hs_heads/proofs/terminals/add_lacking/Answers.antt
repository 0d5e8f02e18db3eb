use Rattle.std.proofs.Common.{◌≡◌, ◌∙◌, [], subst, replicate}
use Rattle.std.proofs.lemmas.Option.{slice_get_within, get_or_from_slice_get}
use Rattle.std.proofs.lemmas.Result.{on_ok_weaker}
use Rattle.hs_table.specs.Types.{TypeTree, state, arrows}
use Rattle.hs_table.specs.Entries.{Env}
use Rattle.hs_types.specs.Interned.{type_of_id, env_of_id}
use Rattle.hs_types.proofs.Numbers.{Grows-trans, env_within, env_stays}
use Rattle.hs_heads.specs.Sources.{GainsTypes}
use Rattle.hs_heads.proofs.Gaining.{gains_grown}
use Rattle.hs_heads.proofs.terminals.add_lacking.Goals as goal

pub add_arrows-requires-clause-env : goal.add_arrows-requires-clause-env
add_arrows-requires-clause-env c =
    env_within c.empty_env.new.self c.base.new.self c.in_ok-last.ensures.grows c.in_ok-env.env (slice_get_within c.empty_env.new.self.envs c.in_ok-env.env (replicate c.args.rank []) c.in_ok-env.ensures.ok)

pub add_arrows-requires-clause-rest : goal.add_arrows-requires-clause-rest
add_arrows-requires-clause-rest c = slice_get_within c.base.new.self.types c.in_ok-last.last (state c.args.q) c.in_ok-last.ensures.ok

pub returns : goal.returns
returns c =
    let I = c.args.types.now in
    let J = c.empty_env.new.self in
    let L = c.base.new.self in
    let K = c.add_arrows.new.types in
    let env = c.in_ok-env.env in
    let none : Env = replicate c.args.rank [] in
    let within = slice_get_within J.envs env none c.in_ok-env.ensures.ok in
    let env_is : env_of_id L env ≡ none = env_stays J L c.in_ok-last.ensures.grows env within ∙ get_or_from_slice_get J.envs env none [] c.in_ok-env.ensures.ok in
    let last_is : type_of_id L c.in_ok-last.last ≡ state c.args.q = get_or_from_slice_get L.types c.in_ok-last.last (state c.args.q) (state 0) c.in_ok-last.ensures.ok in
    let same : arrows (env_of_id L env) (type_of_id L c.in_ok-last.last) ≡ arrows none (state c.args.q) = λ i. arrows (env_is i) (last_is i) in
    let old = c.args.found.now.keys in
    let new = c.add_arrows.new.found.keys in
    on_ok_weaker c.add_arrows.result (λ g.
    gains_grown I L K (λ (u : TypeTree). u ≡ arrows none (state c.args.q)) old new (Grows-trans I J L c.in_ok-env.ensures.grows c.in_ok-last.ensures.grows)
    (subst (λ (t : TypeTree). GainsTypes L K old new (λ (u : TypeTree). u ≡ t)) same g)) c.add_arrows.ensures
