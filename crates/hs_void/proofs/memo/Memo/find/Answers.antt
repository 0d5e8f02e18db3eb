use Rattle.std.proofs.Common.{sym, ◌∙◌, subst, Bool, List, Contains}
use Rattle.hs_void.specs.declared.memo.Question.{Question}
use Rattle.hs_void.specs.contracts.memo.QuestionPartialEq.TheImpl.{eq-value}
use Rattle.hs_void.proofs.Remembering.{same_question, found_answer}
use Rattle.hs_void.proofs.memo.Memo.find.Goals as goal

pub returns : goal.returns
returns c =
    let marks = c.in_ok-found.found.now in
    let own = subst (λ (m : List (Question × List Bool)). Contains m (c.args.question, marks)) c.self.view_is (found_answer eq-value.it same_question c.args.question c.self.inside.known.entries marks (sym c.in_ok-found.ensures.value)) in
    subst (λ (ms : List Bool). Contains c.args.self.now (c.args.question, ms)) (sym (c.as_slice.ensures.value ∙ c.found.view_is)) own
