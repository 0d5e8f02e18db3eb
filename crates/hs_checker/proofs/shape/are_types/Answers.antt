use Rattle.std.proofs.Common.{◌≡◌, sym, ◌∙◌, subst, List, true, false, refl}
use Rattle.std.proofs.lemmas.List.{take_all}
use Rattle.hs_table.specs.Types.{TypeTree}
use Rattle.hs_checker.specs.Shape.{AreAllTypes}
use Rattle.hs_checker.proofs.ShapeLemmas.{all_more}
use Rattle.hs_checker.proofs.shape.are_types.Goals as goal

pub returns-then-not-is_type : goal.returns-then-not-is_type
returns-then-not-is_type c = (
  λ e. let f : false ≡ true = e in absurd (cc),
  λ all. sym c.if-not-is_type.true ∙ c.is_type.ensures.1 (all c.member-item.result (c.loop-member.member-index, c.loop-member-test.true, sym c.member-item.is)),
)

pub loop-member-preserved : goal.loop-member-preserved
loop-member-preserved c =
    all_more c.args.states c.args.types.now c.loop-member.member-index c.member-item.result c.loop-member-test.true c.member-item.is c.loop-member.invariant (c.is_type.ensures.0 c.if-not-is_type.false)

pub returns : goal.returns
returns c =
    (λ _. subst (λ (ts : List TypeTree). AreAllTypes c.args.states ts) (take_all c.loop-member.member-index c.args.types.now c.loop-member-test.false) c.loop-member.invariant, λ _. refl)
