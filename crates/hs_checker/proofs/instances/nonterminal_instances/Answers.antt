use Rattle.std.proofs.Common.{◌≡◌, sym, ap, subst, ℕ, List, slice_index, Contains, ◌↔◌}
use Rattle.std.specs.List.{flat_map}
use Rattle.std.proofs.lemmas.Result.{IfOk-weaker}
use Rattle.hs_scheme.specs.flow.Points.{PointsData}
use Rattle.hs_scheme.specs.Problem.{ProblemData}
use Rattle.hs_table.specs.Types.{TypeTree}
use Rattle.hs_table.specs.Entries.{EntryData}
use Rattle.hs_table_plain.specs.Enumeration as plain
use Rattle.hs_checker.specs.Slots.{FitsSets}
use Rattle.hs_checker.specs.Numbers.{entries_of, trees_of, AreTypes}
use Rattle.hs_checker.proofs.NumberLemmas.{rows_grow, entries_stay}
use Rattle.hs_checker.proofs.instances.nonterminal_instances.Goals as goal

pub fitting-requires-clause-rows : goal.fitting-requires-clause-rows
fitting-requires-clause-rows c = rows_grow c.args.types.now c.body_types.new.types c.in_ok-all.ensures.grows c.args.index.now c.requires.rows

pub fitting-requires-clause-all : goal.fitting-requires-clause-all
fitting-requires-clause-all c = subst (λ (ts : List ℕ). AreTypes c.body_types.new.types ts) (sym c.as_slice.ensures.value) c.in_ok-all.ensures.range

pub returns-clause-each : goal.returns-clause-each
returns-clause-each c =
    let p = c.args.problem.now in
    let I = c.args.types.now in
    let J = c.body_types.new.types in
    let R = c.args.index.now in
    let E = entries_of I R in
    let us = c.args.args.now in
    let f = c.args.nonterminal in
    let stay = entries_stay I J c.in_ok-all.ensures.grows R c.requires.rows in
    let points = ap (λ (q : ProblemData). q.points) c.problem.view_is in
    let body = subst (λ (x : PointsData). c.body_of.result ≡ slice_index x.bodies f) points c.body_of.ensures.body in
    let all = c.in_ok-all.all.items in
    let said = λ (t : TypeTree). subst (λ (n : ℕ). Contains (trees_of J all) t ↔ Contains (flat_map (plain.body_type n) E) t) body (c.in_ok-all.ensures.each t) in
    IfOk-weaker c.fitting.result _ (λ found. (t : TypeTree) (rule : ℕ) → Contains (trees_of J found.items) t ↔ (Contains (flat_map (plain.body_type (plain.body_at p f)) E) t × FitsSets E us t))
    (λ found each t rule.
    let own = subst (λ (F : List EntryData). Contains (trees_of J found.items) t ↔ (Contains (trees_of J all) t × FitsSets F us t)) stay
    (subst (λ (ts : List ℕ). Contains (trees_of J found.items) t ↔ (Contains (trees_of J ts) t × FitsSets (entries_of J R) us t)) c.as_slice.ensures.value (each t)) in
    (λ k. let b = own.0 k in ((said t).0 b.0, b.1), λ b. own.1 ((said t).1 b.0, b.1))) c.fitting.ensures.each
