use Rattle.std.proofs.Common.{refl, sym, ◌∙◌, ap, subst, ℕ, ◌<◌, ◌&&◌, nat_eq, filter, List, ◌∷◌, [], ◌≡◌, true, false, length, take, slice_get, OnOk, Contains, arith}
use Rattle.std.proofs.lemmas.List.Elements.{All-contains}
use Rattle.std.proofs.lemmas.Option.{same_Some}
use Rattle.hs_scheme.specs.declared.flow.FlowPair.{FlowPair}
use Rattle.hs_scheme.specs.Problem.{ProblemData}
use Rattle.hs_scheme.specs.declared.term.Head.TheVariants.{Var}
use Rattle.hs_scheme.proofs.Lists.{none_in, here, only}
use Rattle.hs_table.specs.Entries.{EntryData, InShape, params_of}
use Rattle.hs_types.specs.Interned.{entry_of}
use Rattle.hs_rules.specs.Found.{HeadData}
use Rattle.hs_rules.specs.Heads.{GainsHeads, ParamAt, AtSome, AreHeads, ComesFrom}
use Rattle.hs_rules.proofs.HeadLemmas.{heads_start}
use Rattle.hs_rules.proofs.Lists.{along, all_from, on_ok_map}
use Rattle.hs_rules.proofs.SourceLemmas.{params_from_place}
use Rattle.hs_rules.proofs.parameters.parameter_at.Goals as goal

pub returns-then-not-holds-clause-heads : goal.returns-then-not-holds-clause-heads
returns-then-not-holds-clause-heads c =
    let p = c.args.at.now.problem.now in
    let I = c.args.replica.now.ids in
    let log = c.args.replica.now.log in
    let limit = c.args.at.now.search.limit in
    let args = c.args.at.now.search.args.now in
    let rule = c.args.at.now.rule in
    let x = c.args.x in
    let shapes = λ (e : EntryData) (m : Contains (take limit log) e). All-contains (InShape p) (take limit log) e c.requires.can.shapes m in
    let flows = ap (λ (q : ProblemData). q.flow.pairs) c.problem.view_is in
    let e0 = entry_of I c.row-row.result in
    let pair : ℕ → FlowPair = λ u. record { rule = rule; param = x; point = u } in
    subst (λ (heads : List HeadData). AreHeads p (take limit log) (record { rule = rule; head = Var x; args = args }) I (ComesFrom c.args.place) heads) (sym c.requires.none)
    (params_from_place p log limit rule args shapes x (filter (λ (f : FlowPair). nat_eq f.rule rule && nat_eq f.param x) p.flow.pairs) refl I [] c.args.place []
    (λ place e there at. absurd (none_in place there))
    (λ e at flows_there.
    let e_is = same_Some e e0 (sym at ∙ c.row-row.ensures.entry) in
    let t = c.holds.ensures.1 (subst (λ (u : ℕ). Contains c.problem.inside.flow.pairs (pair u)) (ap (λ (z : EntryData). z.point) e_is) (subst (λ (fs : List FlowPair). Contains fs (pair e.point)) (sym flows) flows_there)) in
    let f : true ≡ false = sym t ∙ c.if-not-holds.true in absurd (cc))
    (heads_start I (length args) (ParamAt log (params_of p rule) x) []))

pub push_params-requires-clause-places : goal.push_params-requires-clause-places
push_params-requires-clause-places c =
    all_from (λ place. place < length c.args.replica.now.log) (c.args.place ∷ []) (λ place there.
    omega (arith, only c.args.place place there, c.requires.place, c.requires.can.search.limited))

pub returns-clause-heads : goal.returns-clause-heads
returns-clause-heads c =
    let p = c.args.at.now.problem.now in
    let I = c.args.replica.now.ids in
    let log = c.args.replica.now.log in
    let limit = c.args.at.now.search.limit in
    let args = c.args.at.now.search.args.now in
    let rule = c.args.at.now.rule in
    let x = c.args.x in
    let shapes = λ (e : EntryData) (m : Contains (take limit log) e). All-contains (InShape p) (take limit log) e c.requires.can.shapes m in
    let flows = ap (λ (q : ProblemData). q.flow.pairs) c.problem.view_is in
    let K = c.push_params.new.replica.ids in
    let heads = c.push_params.new.out.items in
    let row_at = c.row-row.ensures.entry in
    let e0 = entry_of I c.row-row.result in
    let pair : ℕ → FlowPair = λ u. record { rule = rule; param = x; point = u } in
    let gains = along (λ i. OnOk c.push_params.result (GainsHeads K (length args) (AtSome (ParamAt log (c.requires.can.params_are i) x) (c.args.place ∷ [])) (c.requires.none i) heads)) c.push_params.ensures.gains in
    on_ok_map c.push_params.result (GainsHeads K (length args) (AtSome (ParamAt log (params_of p rule) x) (c.args.place ∷ [])) [] heads)
    (AreHeads p (take limit log) (record { rule = rule; head = Var x; args = args }) K (ComesFrom c.args.place) heads)
    (params_from_place p log limit rule args shapes x (filter (λ (f : FlowPair). nat_eq f.rule rule && nat_eq f.param x) p.flow.pairs) refl K heads c.args.place (c.args.place ∷ [])
    (λ place e there at.
    let is = only c.args.place place there in
    let e_is = same_Some e e0 (sym at ∙ (ap (λ k. slice_get log k) is ∙ row_at)) in
    (is, omega (arith, is, c.requires.place), subst (λ (fs : List FlowPair). Contains fs (pair e.point)) flows (subst (λ (u : ℕ). Contains c.problem.inside.flow.pairs (pair u)) (sym (ap (λ (z : EntryData). z.point) e_is)) (c.holds.ensures.0 c.if-not-holds.false))))
    (λ e at flows_there. here c.args.place [])) gains

pub returns-clause-kept : goal.returns-clause-kept
returns-clause-kept c = c.push_params.ensures.kept
