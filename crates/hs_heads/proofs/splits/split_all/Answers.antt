use Rattle.std.proofs.Common.{subst, sym, ◌<◌, length, List, []}
use Rattle.hs_types.proofs.Numbers.{type_within}
use Rattle.hs_heads.specs.HeadTypes.{HeadTypeData}
use Rattle.hs_heads.specs.Splits.{AreSplits}
use Rattle.hs_heads.proofs.Splitting.{splits_none, splits_next, splits_all}
use Rattle.hs_heads.proofs.splits.split_all.Goals as goal

pub loop-ty-init : goal.loop-ty-init
loop-ty-init c =
    let I = c.args.types.now in
    subst (λ (hs : List HeadTypeData). AreSplits c.args.head c.args.params c.args.count I I [] hs) (sym c.new-found.ensures.items) (splits_none c.args.head c.args.params c.args.count I c.args.tys.now)

pub add_split-requires-clause-ty : goal.add_split-requires-clause-ty
add_split-requires-clause-ty c =
    type_within c.args.types.now c.loop-ty.types c.loop-ty.invariant.grows c.ty-item.result
    (subst (λ t. t < length c.args.types.now.types) (sym c.ty-item.is) (c.requires.types c.loop-ty.ty-index c.ty-item.result c.loop-ty-test.true))

pub loop-ty-preserved : goal.loop-ty-preserved
loop-ty-preserved c =
    splits_next c.args.head c.args.params c.args.count c.args.types.now c.args.tys.now c.loop-ty.types c.add_split.new.types c.loop-ty.ty-index c.ty-item.result c.loop-ty.found.items c.add_split.new.found.items
    c.loop-ty-test.true c.ty-item.is (subst (λ t. t < length c.args.types.now.types) (sym c.ty-item.is) (c.requires.types c.loop-ty.ty-index c.ty-item.result c.loop-ty-test.true)) c.loop-ty.invariant
    c.in_ok-add_split.ensures

pub returns : goal.returns
returns c =
    splits_all c.args.head c.args.params c.args.count c.args.types.now c.args.tys.now c.loop-ty.types c.loop-ty.ty-index c.loop-ty.found.items c.loop-ty-test.false c.loop-ty.invariant
