use Rattle.std.proofs.Common.{◌≡◌, sym, ◌∙◌, ◌+◌, length, subst, List, Contains, get_or, inl, inr}
use Rattle.std.proofs.lemmas.List.{take_all}
use Rattle.std.proofs.lemmas.List.Elements.{Contains-get_or}
use Rattle.hs_scheme.specs.declared.flow.HeadPair.{HeadPair}
use Rattle.hs_flow_checker.specs.PassedOn.{base_of, PassesHead}
use Rattle.hs_flow_checker.proofs.Parts.{next_item}
use Rattle.hs_flow_checker.proofs.passing.head_gap.Goals as goal

pub head_place-requires-clause-own : goal.head_place-requires-clause-own
head_place-requires-clause-own c = λ h k. (c.at_point-own.ensures.has h).0 k

pub returns-in-Err : goal.returns-in-Err
returns-in-Err c =
    let items = c.not_in_turn-rest.result.now in
    let d : HeadPair = record { point = 0; rule = 0; given = 0 } in
    let k = c.loop-head.head-index in
    (get_or items k d, (c.not_in_turn-rest.ensures.part (get_or items k d) (Contains-get_or items k d c.loop-head-test.true), c.in-Err.ensures))

pub loop-head-preserved : goal.loop-head-preserved
loop-head-preserved c = λ b there h passes.
    let items = c.not_in_turn-rest.result.now in
    let d : HeadPair = record { point = 0; rule = 0; given = 0 } in
    let k = c.loop-head.head-index in
    let own : HeadPair = get_or items k d in
    elim (next_item items k d b c.loop-head-test.true there) [
      | inl before ↦ c.loop-head.invariant b before h passes
      | inr same ↦ c.in-Ok.ensures h (subst (λ (x : HeadPair). PassesHead c.args.problem.now c.args.point c.args.args.now (base_of x) h) same passes)
    ]

pub returns : goal.returns
returns c = λ b there h passes.
    let items = c.not_in_turn-rest.result.now in
    elim (c.not_in_turn-rest.ensures.rest b there) [
      | inl left ↦ c.loop-head.invariant b (subst (λ (hs : List HeadPair). Contains hs b) (sym (take_all c.loop-head.head-index items c.loop-head-test.false)) left) h passes
      | inr t ↦
          let own = (c.at_point-own.ensures.has t.0).0 t.1.0 in
          let x : HeadPair = record { point = c.args.point; rule = b.rule; given = b.given + length c.args.args.now } in
          let same : t.0 ≡ x = λ i. record { point = own.1 i; rule = t.1.1.0 i; given = t.1.1.1 i } in
          let held = subst (λ (y : HeadPair). Contains c.args.heads.now y) (same ∙ sym passes.0) own.0 in
          subst (λ (hs : List HeadPair). Contains hs h) c.requires held
    ]
