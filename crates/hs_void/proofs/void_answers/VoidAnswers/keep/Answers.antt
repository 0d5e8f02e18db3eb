use Rattle.std.proofs.Common.{subst, Bool, List, Contains, inl, inr}
use Rattle.hs_numbered.specs.Certificates.{VoidRowData}
use Rattle.hs_numbered.specs.contracts.void_row.VoidRowPartialEq.TheImpl.{eq-value}
use Rattle.hs_void.proofs.Remembering.{same_pair, inserted_answer}
use Rattle.hs_void.proofs.void_answers.VoidAnswers.keep.Goals as goal

pub returns : goal.returns
returns c = λ a m.
    elim (inserted_answer eq-value.it same_pair c.args.pair c.args.void c.self.inside.known.entries a (subst (λ (es : List (VoidRowData × Bool)). Contains es a) c.in_ok-insert.ensures.entries m)) [
      | inl was ↦ inl (c.make_room.ensures a (subst (λ (es : List (VoidRowData × Bool)). Contains es a) c.self.view_is was))
      | inr own ↦ inr own
    ]
