use Rattle.std.proofs.Common.{◌≡◌, refl, ◌+◌, min, arith}
use Rattle.hs_sorts.proofs.Measuring.{describes_first}
use Rattle.hs_sorts.proofs.measures.Measure.arrow.Goals as goal

pub returns-then-argument-eq1 : goal.returns-then-argument-eq1
returns-then-argument-eq1 c = λ a b p q.
    let sized : c.min.result ≡ min 1001 (c.args.argument.size + c.args.rest.size + 1) = omega (arith, c.saturating_add-parts.ensures, c.saturating_add.ensures, c.min.ensures) in
    describes_first c.args.argument c.args.rest (record { size = c.min.result; arity = c.in-Some.arity; first_order = c.args.rest.first_order }) a b p q sized c.in-Some.ensures.1 c.if-argument-eq1.true refl
