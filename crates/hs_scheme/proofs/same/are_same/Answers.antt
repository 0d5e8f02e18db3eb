use Rattle.std.proofs.Common.{◌≡◌, refl, subst, false, true, IsTrue, arith}
use Rattle.std.proofs.lemmas.Fn.{says_at_two}
use Rattle.hs_scheme.proofs.SameLemmas.{same_item, same_more}
use Rattle.hs_scheme.proofs.same.are_same.Goals as goal

never : false ≡ true → ⊥
never e = (cc)

pub returns-then-not-is_same : goal.returns-then-not-is_same
returns-then-not-is_same g c = (
  λ e. absurd (never e),
  λ e. subst (λ b. IsTrue b) c.if-not-is_same.true ((c.requires.decides _ _ _ (says_at_two g.F.Fn c.is_same.ensures refl)).1
      (same_item c.args.a.now c.args.b.now c.loop-place.place c.index-a-place.result c.index-b-place.result c.index-a-place.is c.index-b-place.is c.loop-place-test.true e)),
)

pub loop-place-preserved : goal.loop-place-preserved
loop-place-preserved g c = same_more c.args.a.now c.args.b.now c.loop-place.place c.index-a-place.result c.index-b-place.result c.loop-place-test.true (omega (arith, c.loop-place-test.true, c.if-a-b.false)) c.index-a-place.is c.index-b-place.is c.loop-place.invariant
    ((c.requires.decides _ _ _ (says_at_two g.F.Fn c.is_same.ensures refl)).0 c.if-not-is_same.false)
