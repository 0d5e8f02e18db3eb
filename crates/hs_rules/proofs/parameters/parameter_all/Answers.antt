use Rattle.std.proofs.Common.{◌≡◌, ◌∙◌, ap, ◌&&◌, nat_eq, filter, length, take, [], OnOk, Contains}
use Rattle.std.proofs.lemmas.List.Elements.{All-contains}
use Rattle.hs_scheme.specs.declared.flow.FlowPair.{FlowPair}
use Rattle.hs_scheme.specs.declared.term.Head.TheVariants.{Var}
use Rattle.hs_scheme.specs.Problem.{ProblemData}
use Rattle.hs_table.specs.Entries.{EntryData, InShape, params_of}
use Rattle.hs_replica.specs.Places.{here}
use Rattle.hs_rules.specs.Heads.{GainsHeads, AtFlow, AreHeads, AnyHead}
use Rattle.hs_rules.proofs.Lists.{along, on_ok_map}
use Rattle.hs_rules.proofs.SourceLemmas.{params_all}
use Rattle.hs_rules.proofs.parameters.parameter_all.Goals as goal

pub returns-clause-heads : goal.returns-clause-heads
returns-clause-heads c =
    let p = c.args.at.now.problem.now in
    let I = c.args.replica.now.ids in
    let log = c.args.replica.now.log in
    let limit = c.args.at.now.search.limit in
    let args = c.args.at.now.search.args.now in
    let rule = c.args.at.now.rule in
    let x = c.args.x in
    let shapes = λ (e : EntryData) (m : Contains (take limit log) e). All-contains (InShape p) (take limit log) e c.requires.can.shapes m in
    let flows = ap (λ (q : ProblemData). q.flow.pairs) c.problem.view_is in
    let K = c.push_flowing.new.replica.ids in
    let heads = c.push_flowing.new.out.items in
    let pairs = c.flow_of-pairs.result.now in
    let are_pairs : pairs ≡ filter (λ (f : FlowPair). nat_eq f.rule rule && nat_eq f.param x) p.flow.pairs = c.flow_of-pairs.ensures.pairs ∙ ap (filter (λ (f : FlowPair). nat_eq f.rule rule && nat_eq f.param x)) flows in
    let gains = along (λ i. OnOk c.push_flowing.result (GainsHeads K (length args) (AtFlow log (c.requires.can.params_are i) x limit here pairs) (c.requires.none i) heads)) c.push_flowing.ensures.gains in
    on_ok_map c.push_flowing.result (GainsHeads K (length args) (AtFlow log (params_of p rule) x limit here pairs) [] heads)
    (AreHeads p (take limit log) (record { rule = rule; head = Var x; args = args }) K AnyHead heads)
    (params_all p log limit rule args shapes x pairs are_pairs K heads) gains

pub returns-clause-kept : goal.returns-clause-kept
returns-clause-kept c = c.push_flowing.ensures.kept
