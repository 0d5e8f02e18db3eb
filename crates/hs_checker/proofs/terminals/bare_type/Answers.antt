use Rattle.std.proofs.Common.{◌≡◌, ◌∙◌, [], replicate}
use Rattle.std.proofs.lemmas.Option.{slice_get_within, get_or_from_slice_get}
use Rattle.std.proofs.lemmas.Result.{IfOk-weaker, on_ok_weaker}
use Rattle.hs_table.specs.Types.{state, arrows}
use Rattle.hs_table.specs.Entries.{Env}
use Rattle.hs_types.specs.Interned.{type_of_id, env_of_id}
use Rattle.hs_types.proofs.Numbers.{Grows-trans, env_within, env_stays}
use Rattle.hs_checker.proofs.terminals.bare_type.Goals as goal

pub arrows_over-requires-clause-env : goal.arrows_over-requires-clause-env
arrows_over-requires-clause-env c =
    env_within c.empty_env.new.self c.base.new.self c.base.ensures.grows c.in_ok-env.env (slice_get_within c.empty_env.new.self.envs c.in_ok-env.env (replicate c.args.rank []) c.in_ok-env.ensures.ok)

pub arrows_over-requires-clause-rest : goal.arrows_over-requires-clause-rest
arrows_over-requires-clause-rest c = slice_get_within c.base.new.self.types c.in_ok-last.last (state c.args.q) c.in_ok-last.ensures.ok

pub returns-clause-is : goal.returns-clause-is
returns-clause-is c =
    let J = c.empty_env.new.self in
    let L = c.base.new.self in
    let K = c.arrows_over.new.types in
    let env = c.in_ok-env.env in
    let none : Env = replicate c.args.rank [] in
    let within = slice_get_within J.envs env none c.in_ok-env.ensures.ok in
    let env_is : env_of_id L env ≡ none = env_stays J L c.base.ensures.grows env within ∙ get_or_from_slice_get J.envs env none [] c.in_ok-env.ensures.ok in
    let last_is : type_of_id L c.in_ok-last.last ≡ state c.args.q = get_or_from_slice_get L.types c.in_ok-last.last (state c.args.q) (state 0) c.in_ok-last.ensures.ok in
    IfOk-weaker c.arrows_over.result _ (λ id. type_of_id K id ≡ arrows none (state c.args.q)) (λ id is. is ∙ (λ i. arrows (env_is i) (last_is i))) c.arrows_over.ensures.is

pub returns-clause-grows : goal.returns-clause-grows
returns-clause-grows c =
    on_ok_weaker c.arrows_over.result (λ g. Grows-trans c.args.types.now c.base.new.self c.arrows_over.new.types (Grows-trans c.args.types.now c.empty_env.new.self c.base.new.self c.empty_env.ensures.grows c.base.ensures.grows) g) c.arrows_over.ensures.grows
