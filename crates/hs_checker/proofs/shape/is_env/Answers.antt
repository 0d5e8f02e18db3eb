use Rattle.std.proofs.Common.{◌≡◌, sym, ◌∙◌, subst, List, Contains, true, false, refl, arith}
use Rattle.std.proofs.lemmas.List.{take_all}
use Rattle.hs_table.specs.Types.{TypeTree, IsSet}
use Rattle.hs_table.specs.Entries.{Env}
use Rattle.hs_checker.specs.Shape.{AreAllTypes}
use Rattle.hs_checker.proofs.ShapeLemmas.{AreGood, good_more, set_read}
use Rattle.hs_checker.proofs.shape.is_env.Goals as goal

pub returns-then-not-is_set : goal.returns-then-not-is_set
returns-then-not-is_set c =
    let same = c.as_slice.ensures.value ∙ c.set.view_is in
    let read = set_read c.args.env.now c.loop-set.set-index c.set-item.result c.loop-set-test.true c.set-item.is in (
      λ e. let f : false ≡ true = e in absurd (cc),
      λ both. sym c.if-not-is_set.true ∙ c.is_set.ensures.1 (subst (λ (xs : List TypeTree). IsSet xs) (read ∙ sym same) (both.0.sets c.loop-set.set-index)),
    )

pub returns-then-not-are_types : goal.returns-then-not-are_types
returns-then-not-are_types c =
    let same = c.as_slice-in-loop-set.ensures.value ∙ c.set.view_is in
    let read = set_read c.args.env.now c.loop-set.set-index c.set-item.result c.loop-set-test.true c.set-item.is in (
      λ e. let f : false ≡ true = e in absurd (cc),
      λ both. sym c.if-not-are_types.true ∙ c.are_types.ensures.1 (λ a there. both.1 c.loop-set.set-index a (subst (λ (xs : List TypeTree). Contains xs a) (sym (read ∙ sym same)) there)),
    )

pub loop-set-preserved : goal.loop-set-preserved
loop-set-preserved c =
    let same = c.as_slice.ensures.value ∙ c.set.view_is in
    let same_again = c.as_slice-in-loop-set.ensures.value ∙ c.set.view_is in
    good_more c.args.states c.args.env.now c.loop-set.set-index c.set-item.result c.loop-set-test.true c.set-item.is c.loop-set.invariant
    (subst (λ (xs : List TypeTree). IsSet xs) same (c.is_set.ensures.0 c.if-not-is_set.false))
    (subst (λ (xs : List TypeTree). AreAllTypes c.args.states xs) same_again (c.are_types.ensures.0 c.if-not-are_types.false))

pub returns : goal.returns
returns c =
    let good = subst (λ (e : Env). AreGood c.args.states e) (take_all c.loop-set.set-index c.args.env.now c.loop-set-test.false) c.loop-set.invariant in
    (λ _. (record { long = omega arith; sets = good.sets }, good.types), λ _. refl)
