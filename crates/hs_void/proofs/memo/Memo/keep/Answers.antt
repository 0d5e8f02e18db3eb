use Rattle.std.proofs.Common.{subst, Bool, List, Contains, inl, inr}
use Rattle.hs_void.specs.declared.memo.Question.{Question}
use Rattle.hs_void.specs.contracts.memo.QuestionPartialEq.TheImpl.{eq-value}
use Rattle.hs_void.proofs.Remembering.{same_question, inserted_answer}
use Rattle.hs_void.proofs.memo.Memo.keep.Goals as goal

pub returns : goal.returns
returns c = λ a m.
    elim (inserted_answer eq-value.it same_question c.args.question c.args.marks.items c.self.inside.known.entries a (subst (λ (es : List (Question × List Bool)). Contains es a) c.in_ok-insert.ensures.entries m)) [
      | inl was ↦ inl (c.make_room.ensures a (subst (λ (es : List (Question × List Bool)). Contains es a) c.self.view_is was))
      | inr own ↦ inr own
    ]
