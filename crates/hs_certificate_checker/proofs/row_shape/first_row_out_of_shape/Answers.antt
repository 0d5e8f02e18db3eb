use Rattle.std.proofs.Common.{◌≡◌, refl, sym, ◌∙◌, map, true, false, arith}
use Rattle.hs_numbered.specs.Certificates.{void_of}
use Rattle.hs_numbered.proofs.Mapped.{mapped_long, mapped_within, mapped_read}
use Rattle.hs_certificate_checker.proofs.ShapeLemmas.{shapes_more, shapes_all, first_other}
use Rattle.hs_certificate_checker.proofs.row_shape.first_row_out_of_shape.Goals as goal

pub loop-place-preserved : goal.loop-place-preserved
loop-place-preserved c =
    let f = void_of c.args.interner.now in
    let void = c.args.void.now in
    let k = c.loop-place.place in
    let row = c.index-void-place.result in
    shapes_more c.args.problem.now (map f void) k (f row) (mapped_within f void (map f void) refl k row c.loop-place-test.true c.index-void-place.is) (mapped_read f void (map f void) refl k row c.loop-place-test.true c.index-void-place.is)
    (c.is_void_row_in_shape.ensures.0 c.if-not-is_void_row_in_shape.false) c.loop-place.invariant

pub returns-then-not-is_void_row_in_shape : goal.returns-then-not-is_void_row_in_shape
returns-then-not-is_void_row_in_shape c =
    let f = void_of c.args.interner.now in
    let void = c.args.void.now in
    let k = c.loop-place.place in
    let row = c.index-void-place.result in
    first_other c.args.problem.now (map f void) k (f row) (mapped_within f void (map f void) refl k row c.loop-place-test.true c.index-void-place.is) (mapped_read f void (map f void) refl k row c.loop-place-test.true c.index-void-place.is)
    (λ shape. let f : false ≡ true = sym c.if-not-is_void_row_in_shape.true ∙ c.is_void_row_in_shape.ensures.1 shape in absurd (cc)) c.loop-place.invariant

pub returns : goal.returns
returns c =
    let f = void_of c.args.interner.now in
    let long = mapped_long f c.args.void.now (map f c.args.void.now) refl in
    shapes_all c.args.problem.now (map f c.args.void.now) c.loop-place.place (omega (arith, long, c.loop-place-test.false)) c.loop-place.invariant
