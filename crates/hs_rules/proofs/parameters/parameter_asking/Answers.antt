use Rattle.std.proofs.Common.{◌≡◌, ◌∙◌, ap, ◌&&◌, nat_eq, filter, length, take, [], OnOk, Contains}
use Rattle.std.proofs.lemmas.List.Elements.{All-contains}
use Rattle.hs_scheme.specs.declared.flow.FlowPair.{FlowPair}
use Rattle.hs_scheme.specs.declared.term.Head.TheVariants.{Var}
use Rattle.hs_scheme.specs.Problem.{ProblemData}
use Rattle.hs_table.specs.Entries.{EntryData, InShape, params_of}
use Rattle.hs_types.specs.Interned.{type_of_id}
use Rattle.hs_replica.specs.Places.{takes}
use Rattle.hs_rules.specs.Heads.{GainsHeads, AtFlow, AreHeads, Asks}
use Rattle.hs_rules.proofs.Lists.{along, on_ok_map}
use Rattle.hs_rules.proofs.SourceLemmas.{params_taking}
use Rattle.hs_rules.proofs.parameters.parameter_asking.Goals as goal

pub returns-clause-heads : goal.returns-clause-heads
returns-clause-heads c =
    let p = c.args.at.now.problem.now in
    let I = c.args.replica.now.ids in
    let log = c.args.replica.now.log in
    let limit = c.args.at.now.search.limit in
    let args = c.args.at.now.search.args.now in
    let rule = c.args.at.now.rule in
    let x = c.args.x in
    let shapes = λ (e : EntryData) (m : Contains (take limit log) e). All-contains (InShape p) (take limit log) e c.requires.can.shapes m in
    let flows = ap (λ (q : ProblemData). q.flow.pairs) c.problem.view_is in
    let K = c.push_taking.new.replica.ids in
    let heads = c.push_taking.new.out.items in
    let pairs = c.flow_of-pairs.result.now in
    let are_pairs : pairs ≡ filter (λ (f : FlowPair). nat_eq f.rule rule && nat_eq f.param x) p.flow.pairs = c.flow_of-pairs.ensures.pairs ∙ ap (filter (λ (f : FlowPair). nat_eq f.rule rule && nat_eq f.param x)) flows in
    let gains = along (λ i. OnOk c.push_taking.result (GainsHeads K (length args) (AtFlow log (c.requires.can.params_are i) x limit (λ u. takes u c.args.asked.now.arg (type_of_id I c.args.asked.now.ty)) pairs) (c.requires.none i) heads)) c.push_taking.ensures.gains in
    on_ok_map c.push_taking.result (GainsHeads K (length args) (AtFlow log (params_of p rule) x limit (λ u. takes u c.args.asked.now.arg (type_of_id I c.args.asked.now.ty)) pairs) [] heads)
    (AreHeads p (take limit log) (record { rule = rule; head = Var x; args = args }) K (Asks c.args.asked.now.arg (type_of_id I c.args.asked.now.ty)) heads)
    (params_taking p log limit rule args shapes x pairs are_pairs K heads c.args.asked.now.arg (type_of_id I c.args.asked.now.ty) c.requires.arg) gains

pub returns-clause-kept : goal.returns-clause-kept
returns-clause-kept c = c.push_taking.ensures.kept
