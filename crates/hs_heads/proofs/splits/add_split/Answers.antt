use Rattle.std.proofs.Common.{◌≡◌, subst, length}
use Rattle.hs_scheme.proofs.Lists.{match_some}
use Rattle.hs_table.specs.Types.{TypeTree, arrows}
use Rattle.hs_table.specs.Entries.{Env}
use Rattle.hs_types.specs.Interned.{InternerData, type_of_id}
use Rattle.hs_heads.specs.HeadTypes.{HeadTypeData}
use Rattle.hs_heads.specs.Splits.{IsSplitAt}
use Rattle.hs_heads.proofs.Splitting.{split_one, split_stays}
use Rattle.hs_heads.proofs.splits.add_split.Goals as goal

pub returns : goal.returns
returns c =
    let I = c.args.types.now in
    let J = c.env_of.new.types in
    let M = c.interner.result.now in
    let ty : TypeTree = type_of_id I c.args.ty in
    let sets = c.in-Some.sets.items in
    let s : IsSplitAt I ty c.args.count sets c.in-Some.rest =
    subst (λ (K : InternerData). IsSplitAt K (type_of_id K c.args.ty) c.args.count sets c.in-Some.rest) c.interner.ensures
    (match_some c.in_ok-sets.field-0 (c.in-Some.sets, c.in-Some.rest) ((sets : Env) (rest : TypeTree) → length sets ≡ c.args.count → type_of_id M c.args.ty ≡ arrows sets rest → ⊥)
    (λ x. IsSplitAt M (type_of_id M c.args.ty) c.args.count x.0.items x.1) c.in-Some.is c.in_ok-sets.ensures) in
    let h : HeadTypeData = record { sets = sets; ty = c.in-Some.rest; first = c.in_ok-first.first } in
    let g = c.in_ok-first.ensures.grows in
    split_one c.args.head c.args.params c.args.count I ty c.args.found.now.items J c.push.new.self.items h g c.in_ok-push.ensures.items
    (record { split = split_stays I J g ty c.args.count sets c.in-Some.rest s; env = c.in_ok-first.ensures.range; asks = c.in_ok-first.ensures.asks })
