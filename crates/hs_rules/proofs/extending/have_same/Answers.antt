use Rattle.std.proofs.Common.{sym, ◌∙◌, ◌++◌, ◌∷◌, [], arith}
use Rattle.hs_rules.proofs.OrderLemmas.{first_more, same_there}
use Rattle.hs_rules.proofs.extending.have_same.Goals as goal

pub returns-then-one-number : goal.returns-then-one-number
returns-then-one-number c = λ same. c.if-one-number.true (same_there c.args.one.now c.args.other.now c.args.count c.loop-number.number (0, 0) c.loop-number-test.true c.requires.one c.requires.other same)

pub loop-number-preserved : goal.loop-number-preserved
loop-number-preserved c =
    let k = c.loop-number.number in
    let one = c.args.one.now in
    let other = c.args.other.now in
    first_more one k (0, 0) (omega (arith, c.loop-number-test.true, c.requires.one))
    ∙ ((λ i. c.loop-number.invariant i ++ c.if-one-number.false i ∷ []) ∙ sym (first_more other k (0, 0) (omega (arith, c.loop-number-test.true, c.requires.other))))
