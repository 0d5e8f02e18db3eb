use Rattle.std.proofs.Common.{◌≡◌, sym, subst, [], ◌∷◌, ◌<◌, length, replicate, set, slice_get, Some}
use Rattle.std.proofs.lemmas.Option.{slice_get_within, get_or_from_slice_get}
use Rattle.std.proofs.lemmas.Result.{IfOk-weaker}
use Rattle.hs_scheme.specs.declared.term.Head.{Head}
use Rattle.hs_table.specs.Types.{TypeTree}
use Rattle.hs_table.specs.Entries.{Env}
use Rattle.hs_types.specs.Interned.{type_of_id, env_of_id}
use Rattle.hs_choices.specs.Slots.{IsHeadEnv}
use Rattle.hs_heads.specs.Splits.{IsHeadWithin}
use Rattle.hs_heads.proofs.Splitting.{nonterminal_asks, terminal_asks, parameter_asks}
use Rattle.hs_heads.proofs.splits.env_of.Goals as goal

pub returns-in-Var-clause-asks : goal.returns-in-Var-clause-asks
returns-in-Var-clause-asks c =
    let n = c.args.params in
    let J = c.single_env.new.self in
    let ty : TypeTree = type_of_id c.args.types.now c.args.ty in
    let one : Env = set (replicate n []) c.in-Var.x (ty ∷ []) in
    let lt : c.in-Var.x < n = subst (IsHeadWithin n) c.in-Var.is c.requires.head in
    IfOk-weaker c.single_env.result (λ id. slice_get J.envs id ≡ Some one) (λ id. IsHeadEnv n c.args.head ty (env_of_id J id))
    (λ id at. subst (λ (h : Head). IsHeadEnv n h ty (env_of_id J id)) (sym c.in-Var.is) (parameter_asks n c.in-Var.x ty (env_of_id J id) lt (get_or_from_slice_get J.envs id one [] at))) c.single_env.ensures.ok

pub returns-in-Nt-clause-range : goal.returns-in-Nt-clause-range
returns-in-Nt-clause-range c =
    let J = c.empty_env.new.self in
    let none : Env = replicate c.args.params [] in
    IfOk-weaker c.empty_env.result (λ id. slice_get J.envs id ≡ Some none) (λ id. id < length J.envs) (λ id at. slice_get_within J.envs id none at) c.empty_env.ensures.ok

pub returns-in-Nt-clause-asks : goal.returns-in-Nt-clause-asks
returns-in-Nt-clause-asks c =
    let n = c.args.params in
    let J = c.empty_env.new.self in
    let ty : TypeTree = type_of_id c.args.types.now c.args.ty in
    let none : Env = replicate n [] in
    IfOk-weaker c.empty_env.result (λ id. slice_get J.envs id ≡ Some none) (λ id. IsHeadEnv n c.args.head ty (env_of_id J id))
    (λ id at. subst (λ (h : Head). IsHeadEnv n h ty (env_of_id J id)) (sym c.in-Nt.is) (nonterminal_asks n c.in-Nt.field-0 ty (env_of_id J id) (get_or_from_slice_get J.envs id none [] at))) c.empty_env.ensures.ok

pub returns-in-Tm-clause-range : goal.returns-in-Tm-clause-range
returns-in-Tm-clause-range c =
    let J = c.empty_env-in-Tm.new.self in
    let none : Env = replicate c.args.params [] in
    IfOk-weaker c.empty_env-in-Tm.result (λ id. slice_get J.envs id ≡ Some none) (λ id. id < length J.envs) (λ id at. slice_get_within J.envs id none at) c.empty_env-in-Tm.ensures.ok

pub returns-in-Tm-clause-asks : goal.returns-in-Tm-clause-asks
returns-in-Tm-clause-asks c =
    let n = c.args.params in
    let J = c.empty_env-in-Tm.new.self in
    let ty : TypeTree = type_of_id c.args.types.now c.args.ty in
    let none : Env = replicate n [] in
    IfOk-weaker c.empty_env-in-Tm.result (λ id. slice_get J.envs id ≡ Some none) (λ id. IsHeadEnv n c.args.head ty (env_of_id J id))
    (λ id at. subst (λ (h : Head). IsHeadEnv n h ty (env_of_id J id)) (sym c.in-Tm.is) (terminal_asks n c.in-Tm.field-0 ty (env_of_id J id) (get_or_from_slice_get J.envs id none [] at))) c.empty_env-in-Tm.ensures.ok
