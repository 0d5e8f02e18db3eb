use Rattle.std.proofs.Common.{◌≡◌, refl, subst, List, ℕ, true, false, inr}
use Rattle.hs_front.specs.Outside.{sink_run}
use Rattle.hs_front.specs.Outside.{HasTakenOrFailed}
use Rattle.hs_front.proofs.telling.refuse.Goals as goal

false_true : false ≡ true → ⊥
false_true h = (cc)

pub returns-in-Err-clause-tells : goal.returns-in-Err-clause-tells
returns-in-Err-clause-tells g c = inr (
  (λ constant. false_true (c.in-Err.ensures.fixed constant)),
  refl,
  subst (λ (text : List ℕ). HasTakenOrFailed (sink_run g.E.Sink.writing g.E.Sink.faults c.args.err.now c.tell-in-Err.new.err) text) c.as_bytes.ensures.value c.tell-in-Err.ensures.gains,
)
