use Rattle.std.proofs.Common.{◌≡◌, subst, List, ℕ, true, false, inr}
use Rattle.hs_front.specs.Outside.{sink_run, HasTakenOrFailed}
use Rattle.hs_check.proofs.top.refuse.Goals as goal

false_true : false ≡ true → ⊥
false_true h = (cc)

pub returns-in-Err-clause-tells : goal.returns-in-Err-clause-tells
returns-in-Err-clause-tells g c = inr (
  (λ constant. false_true (c.in-Err.ensures.fixed constant)),
  c.no_memory.ensures,
  subst (λ (text : List ℕ). HasTakenOrFailed (sink_run g.E.Sink.writing g.E.Sink.faults c.args.err.now c.tell-in-Err.new.err) text) c.as_bytes.ensures.value c.tell-in-Err.ensures.gains,
)
