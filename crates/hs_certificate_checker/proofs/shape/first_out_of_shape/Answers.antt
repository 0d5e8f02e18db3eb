use Rattle.std.proofs.Common.{◌≡◌, sym, ◌∙◌, true, false}
use Rattle.hs_certificate_checker.proofs.ShapeLemmas.{shapes_more, shapes_all, first_other}
use Rattle.hs_certificate_checker.proofs.shape.first_out_of_shape.Goals as goal

pub loop-place-preserved : goal.loop-place-preserved
loop-place-preserved c = shapes_more c.args.problem.now c.args.void.now c.loop-place.place c.index-void-place.result c.loop-place-test.true c.index-void-place.is (c.is_in_void_shape.ensures.0 c.if-not-is_in_void_shape.false) c.loop-place.invariant

pub returns-then-not-is_in_void_shape : goal.returns-then-not-is_in_void_shape
returns-then-not-is_in_void_shape c = first_other c.args.problem.now c.args.void.now c.loop-place.place c.index-void-place.result c.loop-place-test.true c.index-void-place.is
    (λ shape. let f : false ≡ true = sym c.if-not-is_in_void_shape.true ∙ c.is_in_void_shape.ensures.1 shape in absurd (cc)) c.loop-place.invariant

pub returns : goal.returns
returns c = shapes_all c.args.problem.now c.args.void.now c.loop-place.place c.loop-place-test.false c.loop-place.invariant
