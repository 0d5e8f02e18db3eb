use Rattle.std.proofs.Common.{sym, ◌∙◌, ap, subst, ◌&&◌, nat_eq, filter, List, Some, Contains, get_or, inl, inr, refl, length}
use Rattle.std.proofs.lemmas.Bool.{eqb-true}
use Rattle.std.proofs.lemmas.List.{take_all}
use Rattle.hs_scheme.specs.declared.flow.FlowPair.{FlowPair}
use Rattle.hs_scheme.specs.declared.flow.HeadPair.{HeadPair}
use Rattle.hs_scheme.specs.Problem.{ProblemData}
use Rattle.hs_flow_checker.specs.declared.passing.Base.{Base}
use Rattle.hs_flow_checker.proofs.Parts.{nothing_in}
use Rattle.hs_flow_checker.proofs.GapLemmas.{Leads, leads_of, leads_on, leads_more, leads_base, gap_at_point}
use Rattle.hs_flow_checker.proofs.gaps.gap_through.Goals as goal
use Rattle.hs_flow_checker.proofs.gaps.gap_through.Goals.{then-not-is_empty+in-None, else-not-is_empty}

pub returns-in-Some : goal.returns-in-Some
returns-in-Some c =
    let p = c.args.problem.now in
    let items = c.from_first_headed-pair-items.result.now in
    let d : FlowPair = record { rule = 0; param = 0; point = 0 } in
    let own : FlowPair = get_or items c.loop-pair.pair-index d in
    let found = gap_at_point p c.args.kind c.args.point c.args.args.now c.args.heads.now c.at_point-bases.result.now own.point (Some c.in-Some.pair) c.at_point-bases.ensures.has c.in-Some.ensures in
    let b : Base = found.0 in
    let becomes = subst (λ (hs : List HeadPair). Contains hs (record { point = own.point; rule = b.rule; given = b.given })) c.requires found.1.0 in
    let l = leads_of items p.flow.heads b c.loop-pair.pair-index d c.loop-pair-test.true becomes in
    let own_pairs : List FlowPair → List FlowPair = λ fs. filter (λ f. nat_eq f.rule c.args.rule && nat_eq f.param c.args.parameter) fs in
    let pairs = c.flow_of.ensures.pairs ∙ ap (λ (q : ProblemData). own_pairs q.flow.pairs) c.problem.view_is in
    let mine = subst (λ (fs : List FlowPair). Leads fs p.flow.heads b) pairs (leads_on items c.flow_of.result.now p.flow.heads b c.from_first_headed-pair-items.ensures.part l) in
    (b, ((leads_base c.args.rule c.args.parameter p.flow.pairs p.flow.heads b).0 mine, found.1.1))

pub loop-pair-preserved : goal.loop-pair-preserved
loop-pair-preserved c = λ b l.
    let p = c.args.problem.now in
    let items = c.from_first_headed-pair-items.result.now in
    let d : FlowPair = record { rule = 0; param = 0; point = 0 } in
    let own : FlowPair = get_or items c.loop-pair.pair-index d in
    elim (leads_more items p.flow.heads c.loop-pair.pair-index d b c.loop-pair-test.true l) [
      | inl before ↦ c.loop-pair.invariant b before
      | inr becomes ↦
          let x : HeadPair = record { point = own.point; rule = b.rule; given = b.given } in
          let among = (c.at_point-bases.ensures.has x).1 (subst (λ (hs : List HeadPair). Contains hs x) (sym c.requires) becomes, refl) in
          elim c.if-not-is_empty.branch [
            | then-not-is_empty+in-None w ↦ w.in-None.ensures x among
            | else-not-is_empty w ↦ absurd (nothing_in c.at_point-bases.result.now x (eqb-true (length c.at_point-bases.result.now) 0 (sym c.is_empty.ensures ∙ w.if-not-is_empty.false)) among)
          ]
    ]

pub returns : goal.returns
returns c = λ b base.
    let p = c.args.problem.now in
    let row = c.flow_of.result.now in
    let k = c.loop-pair.pair-index in
    let own_pairs : List FlowPair → List FlowPair = λ fs. filter (λ f. nat_eq f.rule c.args.rule && nat_eq f.param c.args.parameter) fs in
    let pairs = c.flow_of.ensures.pairs ∙ ap (λ (q : ProblemData). own_pairs q.flow.pairs) c.problem.view_is in
    let l = subst (λ (fs : List FlowPair). Leads fs p.flow.heads b) (sym pairs) ((leads_base c.args.rule c.args.parameter p.flow.pairs p.flow.heads b).1 base) in
    let left = c.from_first_headed-pair-items.ensures.rest l.pair (record { point = l.pair.point; rule = b.rule; given = b.given }) l.there (subst (λ (hs : List HeadPair). Contains hs (record { point = l.pair.point; rule = b.rule; given = b.given })) (sym c.requires) l.becomes) refl in
    c.loop-pair.invariant b (record { pair = l.pair; there = subst (λ (fs : List FlowPair). Contains fs l.pair) (sym (take_all k c.from_first_headed-pair-items.result.now c.loop-pair-test.false)) left; becomes = l.becomes })
