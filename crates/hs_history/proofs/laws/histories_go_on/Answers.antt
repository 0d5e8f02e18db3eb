use Rattle.hs_history.proofs.Histories.{legal_push, state_push, legal_front, grown, closed_after, tickets_after}
use Rattle.hs_history.specs.CoreStep.{opening}
use Rattle.hs_history.proofs.laws.histories_go_on.Goals as goal

pub returns : goal.returns
returns c = record {
  legal = legal_push;
  leads = state_push;
  begins = λ base story more legal. legal_front base (opening base) story more legal;
  log = λ base story more. let g = grown base story more in (g.entries, g.log);
  supports = λ base story more. let g = grown base story more in (g.more, g.supports);
  closed = closed_after;
  tickets = tickets_after;
}
