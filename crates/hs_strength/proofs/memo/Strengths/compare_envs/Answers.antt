use Rattle.std.proofs.Common.{sym, subst, List}
use Rattle.hs_table.specs.Types.{TypeTree}
use Rattle.hs_table.specs.Entries.{set_at}
use Rattle.hs_weak.specs.Strength.{AsStrongAs, AsksEach}
use Rattle.hs_weak.proofs.ComparingLemmas.{one_more}
use Rattle.hs_types.specs.Interned.{set_of_id, env_of_id}
use Rattle.hs_strength.proofs.Reading.{set_read_at}
use Rattle.hs_strength.proofs.memo.Strengths.compare_envs.Goals as goal

pub loop-parameter-preserved : goal.loop-parameter-preserved
loop-parameter-preserved c =
    let I = c.args.types.now in
    let env = env_of_id I c.args.env in
    let other = env_of_id I c.args.other in
    let k = c.loop-parameter.parameter in
    let read = set_read_at (set_of_id I) c.sets-sets.result.now other k c.index-sets-parameter.result c.sets-sets.ensures.sets c.loop-parameter-test.true c.index-sets-parameter.is in
    record {
      memo = c.asks_at.ensures.memo;
      asked = one_more (λ j. AsksEach AsStrongAs (set_at env j) (set_at other j)) k c.loop-parameter.invariant.asked
          (subst (λ (z : List TypeTree). AsksEach AsStrongAs (set_at env k) z) (sym read) (c.in_ok-asks_at.ensures.ok.0 c.if-not-branch.false));
    }
