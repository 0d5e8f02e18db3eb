use Rattle.std.proofs.Common.{sym, subst, ℕ, List, Contains, ◌↔◌}
use Rattle.std.specs.List.{flat_map}
use Rattle.std.proofs.lemmas.Result.{IfOk-weaker}
use Rattle.hs_table.specs.Types.{TypeTree}
use Rattle.hs_table_plain.specs.Enumeration as plain
use Rattle.hs_checker.specs.Slots.{FitsSets}
use Rattle.hs_checker.specs.Numbers.{entries_of, trees_of, AreTypes}
use Rattle.hs_checker.proofs.RowLemmas.{flow_trees, flow_range}
use Rattle.hs_checker.proofs.instances.parameter_instances.Goals as goal

pub fitting-requires-clause-all : goal.fitting-requires-clause-all
fitting-requires-clause-all c =
    let p = c.args.problem.now in
    subst (λ (ts : List ℕ). AreTypes c.args.types.now ts) (sym c.as_slice.ensures.value)
    (flow_range c.args.types.now c.args.index.now p.flow.pairs c.args.rule c.args.parameter c.in_ok-all.all.items c.in_ok-all.ensures c.requires)

pub returns-clause-each : goal.returns-clause-each
returns-clause-each c =
    let p = c.args.problem.now in
    let I = c.args.types.now in
    let E = entries_of I c.args.index.now in
    let us = c.args.args.now in
    let said = flow_trees I c.args.index.now p.flow.pairs c.args.rule c.args.parameter c.in_ok-all.all.items c.in_ok-all.ensures in
    IfOk-weaker c.fitting.result _ (λ found. (t : TypeTree) → Contains (trees_of I found.items) t ↔ (Contains (flat_map (plain.flow_type p.flow.pairs c.args.rule c.args.parameter) E) t × FitsSets E us t))
    (λ found each t.
    let own = subst (λ (ts : List ℕ). Contains (trees_of I found.items) t ↔ (Contains (trees_of I ts) t × FitsSets E us t)) c.as_slice.ensures.value (each t) in
    (λ k. let b = own.0 k in ((said t).0 b.0, b.1), λ b. own.1 ((said t).1 b.0, b.1))) c.fitting.ensures.each
