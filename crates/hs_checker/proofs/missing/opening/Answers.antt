use Rattle.std.proofs.Common.{◌≡◌, refl, sym, ◌∙◌, subst, ℕ, [], ◌∷◌, ◌<◌, ◌≤◌, List, length, replicate, set, slice_get, Some, arith}
use Rattle.std.proofs.Math.ListN.{length-replicate}
use Rattle.std.proofs.lemmas.Option.{slice_get_within, get_or_from_slice_get}
use Rattle.std.proofs.lemmas.Result.{IfOk-weaker}
use Rattle.hs_scheme.specs.declared.term.Head.{Head}
use Rattle.hs_table.specs.Types.{TypeTree}
use Rattle.hs_table.specs.Entries.{Env}
use Rattle.hs_table_plain.specs.Enumeration.{own_env}
use Rattle.hs_table_plain.proofs.UnionLemmas.{own_of_past}
use Rattle.hs_types.specs.Interned.{type_of_id, env_of_id}
use Rattle.hs_checker.proofs.missing.opening.Goals as goal

abbrev none : ℕ → Env
none n = replicate n []

pub returns-then-parameter-params-clause-range : goal.returns-then-parameter-params-clause-range
returns-then-parameter-params-clause-range c =
    let J = c.empty_env.new.self in
    IfOk-weaker c.empty_env.result (λ id. slice_get J.envs id ≡ Some (none c.args.params)) (λ id. id < length J.envs) (λ id at. slice_get_within J.envs id (none c.args.params) at) c.empty_env.ensures.ok

pub returns-then-parameter-params-clause-is : goal.returns-then-parameter-params-clause-is
returns-then-parameter-params-clause-is c =
    let J = c.empty_env.new.self in
    let n = c.args.params in
    let x = c.in-Var.parameter in
    let ty : TypeTree = type_of_id c.args.types.now c.args.ty in
    let empty : List TypeTree = [] in
    let past : length (none n) ≤ x = omega (arith, length-replicate n empty, c.if-parameter-params.true) in
    IfOk-weaker c.empty_env.result (λ id. slice_get J.envs id ≡ Some (none n)) (λ id. env_of_id J id ≡ own_env n c.args.head ty)
    (λ id at. get_or_from_slice_get J.envs id (none n) [] at ∙ own_of_past n c.args.head ty (none n) refl x c.in-Var.is past) c.empty_env.ensures.ok

pub single_env-requires-clause-x : goal.single_env-requires-clause-x
single_env-requires-clause-x c = omega (arith, c.if-parameter-params.false)

pub returns-else-parameter-params-clause-range : goal.returns-else-parameter-params-clause-range
returns-else-parameter-params-clause-range c =
    let J = c.single_env.new.self in
    let one : Env = set (none c.args.params) c.in-Var.parameter (type_of_id c.args.types.now c.args.ty ∷ []) in
    IfOk-weaker c.single_env.result (λ id. slice_get J.envs id ≡ Some one) (λ id. id < length J.envs) (λ id at. slice_get_within J.envs id one at) c.single_env.ensures.ok

pub returns-else-parameter-params-clause-is : goal.returns-else-parameter-params-clause-is
returns-else-parameter-params-clause-is c =
    let J = c.single_env.new.self in
    let n = c.args.params in
    let ty : TypeTree = type_of_id c.args.types.now c.args.ty in
    let one : Env = set (none n) c.in-Var.parameter (ty ∷ []) in
    IfOk-weaker c.single_env.result (λ id. slice_get J.envs id ≡ Some one) (λ id. env_of_id J id ≡ own_env n c.args.head ty)
    (λ id at. subst (λ (h : Head). env_of_id J id ≡ own_env n h ty) (sym c.in-Var.is) (get_or_from_slice_get J.envs id one [] at)) c.single_env.ensures.ok

pub returns-in-Nt-clause-range : goal.returns-in-Nt-clause-range
returns-in-Nt-clause-range c =
    let J = c.empty_env-in-Nt.new.self in
    IfOk-weaker c.empty_env-in-Nt.result (λ id. slice_get J.envs id ≡ Some (none c.args.params)) (λ id. id < length J.envs) (λ id at. slice_get_within J.envs id (none c.args.params) at) c.empty_env-in-Nt.ensures.ok

pub returns-in-Nt-clause-is : goal.returns-in-Nt-clause-is
returns-in-Nt-clause-is c =
    let J = c.empty_env-in-Nt.new.self in
    let n = c.args.params in
    let ty : TypeTree = type_of_id c.args.types.now c.args.ty in
    IfOk-weaker c.empty_env-in-Nt.result (λ id. slice_get J.envs id ≡ Some (none n)) (λ id. env_of_id J id ≡ own_env n c.args.head ty)
    (λ id at. subst (λ (h : Head). env_of_id J id ≡ own_env n h ty) (sym c.in-Nt.is) (get_or_from_slice_get J.envs id (none n) [] at)) c.empty_env-in-Nt.ensures.ok

pub returns-in-Tm-clause-range : goal.returns-in-Tm-clause-range
returns-in-Tm-clause-range c =
    let J = c.empty_env-in-Tm.new.self in
    IfOk-weaker c.empty_env-in-Tm.result (λ id. slice_get J.envs id ≡ Some (none c.args.params)) (λ id. id < length J.envs) (λ id at. slice_get_within J.envs id (none c.args.params) at) c.empty_env-in-Tm.ensures.ok

pub returns-in-Tm-clause-is : goal.returns-in-Tm-clause-is
returns-in-Tm-clause-is c =
    let J = c.empty_env-in-Tm.new.self in
    let n = c.args.params in
    let ty : TypeTree = type_of_id c.args.types.now c.args.ty in
    IfOk-weaker c.empty_env-in-Tm.result (λ id. slice_get J.envs id ≡ Some (none n)) (λ id. env_of_id J id ≡ own_env n c.args.head ty)
    (λ id at. subst (λ (h : Head). env_of_id J id ≡ own_env n h ty) (sym c.in-Tm.is) (get_or_from_slice_get J.envs id (none n) [] at)) c.empty_env-in-Tm.ensures.ok
