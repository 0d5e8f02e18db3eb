use Rattle.std.proofs.Common.{◌≡◌, sym, ◌∙◌, subst, List}
use Rattle.hs_table.specs.Types.{TypeTree}
use Rattle.hs_table.specs.Entries.{set_at}
use Rattle.hs_weak.specs.Strength.{AsStrongAs, AsksEach}
use Rattle.hs_weak.proofs.ComparingLemmas.{set_read, one_more}
use Rattle.hs_weak.proofs.comparing.asks_at_least.Goals as goal

pub loop-parameter-preserved : goal.loop-parameter-preserved
loop-parameter-preserved c =
    let env = c.args.env.now in
    let other = c.args.other.now in
    let k = c.loop-parameter.parameter in
    let read = set_read other k c.index-other-parameter.result c.loop-parameter-test.true c.index-other-parameter.is in
    let same : c.as_slice.result.now ≡ set_at other k = (c.as_slice.ensures.value ∙ c.set.view_is) ∙ sym read in
    one_more (λ j. AsksEach AsStrongAs (set_at env j) (set_at other j)) k c.loop-parameter.invariant
    (subst (λ (s : List TypeTree). AsksEach AsStrongAs (set_at env k) s) same (c.asks_at.ensures.0 c.if-not-asks_at.false))
