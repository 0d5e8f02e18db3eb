use Rattle.std.proofs.Common.{sym, subst, Bool, List, Contains}
use Rattle.hs_numbered.specs.Certificates.{VoidRowData}
use Rattle.hs_numbered.specs.contracts.void_row.VoidRowPartialEq.TheImpl.{eq-value}
use Rattle.hs_void.proofs.Remembering.{same_pair, found_answer}
use Rattle.hs_void.proofs.void_answers.VoidAnswers.find.Goals as goal

pub returns : goal.returns
returns c =
    let void = c.in_ok-void.void.now in
    subst (λ (as_ : List (VoidRowData × Bool)). Contains as_ (c.args.pair, void)) c.self.view_is (found_answer eq-value.it same_pair c.args.pair c.self.inside.known.entries void (sym c.in_ok-void.ensures.value))
