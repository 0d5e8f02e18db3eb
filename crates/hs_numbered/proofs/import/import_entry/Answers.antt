use Rattle.std.proofs.Common.{◌∙◌, sym, ap, subst, Some}
use Rattle.hs_table.specs.Types.{TypeTree}
use Rattle.hs_table.specs.Entries.{Env, EntryData}
use Rattle.hs_types.proofs.Numbers.{Grows-trans}
use Rattle.hs_numbered.specs.Trees.{IsSomeType, IsSomeEnv}
use Rattle.hs_numbered.proofs.TreeLemmas.{env_some, type_some, entry_row, row_entry}
use Rattle.hs_numbered.proofs.import.import_entry.Goals as goal

pub import_env-requires : goal.import_env-requires
import_env-requires c =
    let env = c.as_slice.ensures.value ∙ ap (λ (x : EntryData). x.env) c.entry.view_is in
    subst (λ (E : Env). IsSomeEnv E) (sym env) (env_some c.args.entry.now c.requires)

pub import_type-requires : goal.import_type-requires
import_type-requires c =
    let ty = ap (λ (x : EntryData). x.ty) c.entry.view_is in
    subst (λ (z : TypeTree). IsSomeType z) (sym ty) (type_some c.args.entry.now c.requires)

pub returns-in_err-ty-clause-grows : goal.returns-in_err-ty-clause-grows
returns-in_err-ty-clause-grows c = Grows-trans c.args.interner.now c.import_env.new.interner c.import_type.new.interner c.import_env.ensures.grows c.import_type.ensures.grows

pub returns-clause-row : goal.returns-clause-row
returns-clause-row c =
    entry_row c.import_env.new.interner c.import_type.new.interner c.import_type.ensures.grows c.in_ok-env.env c.in_ok-ty.ty c.as_slice.result.now c.in_ok-env.ensures.ok _ c.in_ok-ty.ensures.ok

pub returns-clause-entry : goal.returns-clause-entry
returns-clause-entry c =
    let env = c.as_slice.ensures.value ∙ ap (λ (x : EntryData). x.env) c.entry.view_is in
    let ty = ap (λ (x : EntryData). x.ty) c.entry.view_is in
    row_entry c.import_env.new.interner c.import_type.new.interner c.import_type.ensures.grows c.in_ok-env.env c.in_ok-ty.ty c.args.entry.now
    (c.in_ok-env.ensures.ok ∙ ap (λ (E : Env). Some E) env) (c.in_ok-ty.ensures.ok ∙ ap (λ (z : TypeTree). Some z) ty) _ (ap (λ (x : EntryData). x.point) c.entry.view_is)

pub returns-clause-grows : goal.returns-clause-grows
returns-clause-grows c = Grows-trans c.args.interner.now c.import_env.new.interner c.import_type.new.interner c.import_env.ensures.grows c.import_type.ensures.grows
