use Rattle.std.proofs.Common.{sym, subst, List, arith}
use Rattle.hs_table.specs.Types.{TypeTree}
use Rattle.hs_table.specs.Entries.{set_at}
use Rattle.hs_weak.specs.Strength.{AsStrongAs, AsksEach}
use Rattle.hs_weak.proofs.ComparingLemmas.{one_more}
use Rattle.hs_types.specs.Interned.{set_of_id, env_of_id}
use Rattle.hs_strength.proofs.Reading.{set_read_at, long_as}
use Rattle.hs_strength.proofs.KindBits.{all_asked}
use Rattle.hs_strength.proofs.memo.Strengths.see_env.Goals as goal

pub loop-set-preserved : goal.loop-set-preserved
loop-set-preserved c =
    let I = c.args.types.now in
    let E = env_of_id I c.args.env in
    let k = c.loop-set.set-index in
    let read = set_read_at (set_of_id I) c.sets-sets.result.now E k c.set-item.result c.sets-sets.ensures.sets c.loop-set-test.true c.set-item.is in
    record {
      memo = c.see_set.ensures.memo;
      seen = one_more (λ j. AsksEach AsStrongAs (set_at E j) (set_at E j)) k c.loop-set.invariant.seen
          (subst (λ (z : List TypeTree). AsksEach AsStrongAs z z) (sym read) c.in_ok-see_set.ensures.itself);
    }

pub returns-clause-itself : goal.returns-clause-itself
returns-clause-itself c =
    let I = c.args.types.now in
    let E = env_of_id I c.args.env in
    let long = long_as (set_of_id I) c.sets-sets.result.now E c.sets-sets.ensures.sets in
    all_asked E c.loop-set.set-index (omega (arith, long, c.loop-set-test.false)) c.loop-set.invariant.seen
