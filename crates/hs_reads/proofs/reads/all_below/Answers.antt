use Rattle.std.proofs.Common.{subst, sym, List, ℕ, ◌<◌, Contains, ◌↔◌, arith}
use Rattle.hs_reads.proofs.BelowLemmas.{below_none, below_next, below_all}
use Rattle.hs_reads.proofs.reads.all_below.Goals as goal

pub loop-q-init : goal.loop-q-init
loop-q-init c = record { few = omega arith; each = subst (λ (xs : List ℕ). (q : ℕ) → Contains xs q ↔ q < 0) (sym c.new-every.ensures.items) below_none }

pub loop-q-preserved : goal.loop-q-preserved
loop-q-preserved c = record {
  few = omega (arith, c.loop-q-test.true);
  each = below_next c.loop-q.every.items c.push.new.self.items c.loop-q.q c.in_ok-push.ensures.items c.loop-q.invariant.each;
}

pub returns : goal.returns
returns c = below_all c.loop-q.every.items c.loop-q.q c.args.states c.loop-q.invariant.few c.loop-q-test.false c.loop-q.invariant.each
