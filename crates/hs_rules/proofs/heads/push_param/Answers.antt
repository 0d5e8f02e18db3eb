use Rattle.std.proofs.Common.{◌≡◌, refl, sym, ◌∙◌, ap, subst, ◌∷◌, [], length, replicate, set, arith}
use Rattle.std.proofs.lemmas.Option.{slice_get_within, get_or_from_slice_get, same_Some}
use Rattle.hs_scheme.proofs.Lists.{match_some}
use Rattle.hs_table.specs.declared.support.HeadBy.TheVariants.{Param}
use Rattle.hs_table.specs.Types.{TypeTree, arrows}
use Rattle.hs_table.specs.Entries.{Env, EntryData}
use Rattle.hs_types.specs.Interned.{InternerData, type_of_id, entry_of}
use Rattle.hs_types.proofs.Numbers.{type_within, type_stays}
use Rattle.hs_rules.specs.Found.{HeadData}
use Rattle.hs_rules.specs.Heads.{head_type, ParamAt, IsSplit}
use Rattle.hs_rules.proofs.FoundLemmas.{sets_within, sets_stay}
use Rattle.hs_rules.proofs.Lists.{push_later}
use Rattle.hs_rules.proofs.HeadLemmas.{heads_one}
use Rattle.hs_rules.proofs.heads.push_param.Goals as goal

pub returns-clause-gains : goal.returns-clause-gains
returns-clause-gains c =
    let I = c.args.replica.now.ids in
    let log = c.args.replica.now.log in
    let K = c.single_env.new.self.ids in
    let g = c.in_ok-own.ensures.kept.grows in
    let row = c.row-row.result in
    let e = entry_of I row in
    let own = c.in_ok-own.own in
    let own_env = set (replicate c.args.at.now.params []) c.args.x (e.ty ∷ []) in
    let s : IsSplit I row.ty (length c.args.at.now.search.args.now) c.in-Some.sets.items c.in-Some.rest =
    subst (λ (J : InternerData). IsSplit J row.ty (length c.args.at.now.search.args.now) c.in-Some.sets.items c.in-Some.rest) c.interner.ensures
    (match_some c.in_ok-sets.field-0 (c.in-Some.sets, c.in-Some.rest) ((sets : Env) (rest : TypeTree) → length sets ≡ (length c.args.at.now.search.args.now) → type_of_id c.interner.result.now row.ty ≡ arrows sets rest → ⊥)
    (λ x. IsSplit c.interner.result.now row.ty (length c.args.at.now.search.args.now) x.0.items x.1) c.in-Some.is c.in_ok-sets.ensures) in
    let h : HeadData = record { by = Param c.args.x c.args.place; own = own; sets = c.in-Some.sets.items; rest = c.in-Some.rest } in
    let is : head_type K h ≡ e.ty = (λ i. arrows (sets_stay I K c.in-Some.sets.items g s.sets_within i) (type_stays I K g c.in-Some.rest s.rest_within i)) ∙ sym s.is in
    heads_one K (length c.args.at.now.search.args.now) (ParamAt log c.args.at.now.params c.args.x c.args.place) c.args.out.now.items c.push_reserved.new.self.items h (push_later c.args.out.now.items c.reserve.new.self.items c.push_reserved.new.self.items h c.reserve.ensures.items c.push_reserved.ensures.items)
    (record {
      own = slice_get_within K.envs own own_env c.in_ok-own.ensures.ok;
      sets = sets_within I K c.in-Some.sets.items g s.sets_within;
      rest = type_within I K g c.in-Some.rest s.rest_within;
      long = s.long;
    })
    (record { entry = e; at = c.row-row.ensures.entry; just = (refl, get_or_from_slice_get K.envs own own_env [] c.in_ok-own.ensures.ok, is) })
    (λ by o t p. (p.just.0, p.just.2 ∙ (ap (λ (x : EntryData). x.ty) (same_Some p.entry e (sym p.at ∙ c.row-row.ensures.entry)) ∙ sym is)))

pub push_reserved-requires : goal.push_reserved-requires
push_reserved-requires c = (omega arith, c.in_ok-reserve.ensures.ok)
