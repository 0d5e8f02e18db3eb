use Rattle.std.proofs.Common.{◌≡◌, sym, ◌∙◌, ap, subst, ◌<◌, length, map, take, get_or, All, arith}
use Rattle.std.specs.Bool.{OnFalse}
use Rattle.std.proofs.lemmas.Bool.{OnFalse_from, OnFalse_at}
use Rattle.std.proofs.lemmas.List.{length-map, length-take-le, take-map}
use Rattle.std.proofs.lemmas.Option.{same_Some, slice_get-get_or}
use Rattle.std.proofs.lemmas.List.Elements.{All-take}
use Rattle.hs_scheme.specs.flow.Points.{PointsData}
use Rattle.hs_scheme.specs.Problem.{ProblemData}
use Rattle.hs_table.specs.Types.{state, arrows}
use Rattle.hs_table.specs.Entries.{Env, EntryData}
use Rattle.hs_table_laws.proofs.Places.{to_take}
use Rattle.hs_types.specs.Interned.{InternerData, set_of_id, env_of_id, entry_of}
use Rattle.hs_replica.specs.Replica.{ReplicaData}
use Rattle.hs_rules.specs.Slots.{SlotData, slots, IsCandidate, Picked}
use Rattle.hs_rules.specs.Filling.{fixed_of}
use Rattle.hs_rules.specs.Shut.{AreShut, IsBodyShut}
use Rattle.hs_rules.proofs.KeepLemmas.{as_before, lists_keep}
use Rattle.hs_rules.proofs.PartLemmas.{can_search_later}
use Rattle.hs_rules.proofs.ArrowLemmas.{arrows_short, arrows_first}
use Rattle.hs_rules.proofs.nonterminals.is_body_open.Goals as goal

pub returns-then-row-body_of-clause-shut : goal.returns-then-row-body_of-clause-shut
returns-then-row-body_of-clause-shut c = λ sets rest from long args es picked.
    let p = c.args.at.now.problem.now in
    let f = c.args.nonterminal in
    let e0 = entry_of c.args.replica.now.ids c.row-row.result in
    let same : from.entry ≡ e0 = same_Some from.entry e0 (sym from.holds.at ∙ to_take c.args.at.now.search.limit c.args.replica.now.log c.args.place e0 c.requires.place c.row-row.ensures.entry) in
    let points = ap (λ (q : ProblemData). q.points) c.problem.view_is in
    let at = same_Some from.entry.point (get_or p.points.bodies f 0) (sym from.body ∙ slice_get-get_or p.points.bodies f 0 c.requires.head) in
    c.if-row-body_of.true (ap (λ (e : EntryData). e.point) (sym same) ∙ (at ∙ sym (c.body_of.ensures.body ∙ ap (λ (x : PointsData). get_or x.bodies f 0) points)))

pub returns-then-sets-count-clause-shut : goal.returns-then-sets-count-clause-shut
returns-then-sets-count-clause-shut c = λ sets rest from long args es picked.
    let ids = c.args.replica.now.ids in
    let limit = c.args.at.now.search.limit in
    let log = c.args.replica.now.log in
    let e0 = entry_of ids c.row-row.result in
    let full = c.sets-sets.result.now in
    let same : from.entry ≡ e0 = same_Some from.entry e0 (sym from.holds.at ∙ to_take limit log c.args.place e0 c.requires.place c.row-row.ensures.entry) in
    let env_is : map (set_of_id ids) full ≡ e0.env = subst (λ (I : InternerData). map (set_of_id I) full ≡ env_of_id I c.row-row.result.env) (c.interner.ensures ∙ ap (λ (q : ReplicaData). q.ids) c.in_ok-list_args.ensures.kept.same) c.sets-sets.ensures.sets in
    let is : arrows (map (set_of_id ids) full) (state from.q) ≡ arrows sets rest = ap (λ (e : Env). arrows e (state from.q)) env_is ∙ (ap (λ (e : EntryData). arrows e.env (state from.q)) (sym same) ∙ sym from.is) in
    arrows_short (map (set_of_id ids) full) sets from.q rest (length full) (length c.args.at.now.search.args.now) is (length-map full (set_of_id ids)) long c.if-sets-count.true

pub returns-clause-shut : goal.returns-clause-shut
returns-clause-shut c = OnFalse_from c.is_open.result (IsBodyShut c.args.at.now.problem.now (take c.args.at.now.search.limit c.args.replica.now.log) (fixed_of c.args.replica.now.log c.args.at.now.search.fixed) c.args.at.now.search.args.now c.args.nonterminal c.args.place) (λ no sets rest from long args es picked.
    let ids = c.args.replica.now.ids in
    let limit = c.args.at.now.search.limit in
    let log = c.args.replica.now.log in
    let us = c.args.at.now.search.args.now in
    let e0 = entry_of ids c.row-row.result in
    let full = c.sets-sets.result.now in
    let same : from.entry ≡ e0 = same_Some from.entry e0 (sym from.holds.at ∙ to_take limit log c.args.place e0 c.requires.place c.row-row.ensures.entry) in
    let env_is : map (set_of_id ids) full ≡ e0.env = subst (λ (I : InternerData). map (set_of_id I) full ≡ env_of_id I c.row-row.result.env) (c.interner.ensures ∙ ap (λ (q : ReplicaData). q.ids) c.in_ok-list_args.ensures.kept.same) c.sets-sets.ensures.sets in
    let is : arrows (map (set_of_id ids) full) (state from.q) ≡ arrows sets rest = ap (λ (e : Env). arrows e (state from.q)) env_is ∙ (ap (λ (e : EntryData). arrows e.env (state from.q)) (sym same) ∙ sym from.is) in
    let first = arrows_first (length us) (map (set_of_id ids) full) sets (state from.q) rest (omega (arith, c.if-sets-count.false, length-map full (set_of_id ids))) long is in
    let sets_are : sets ≡ map (set_of_id ids) (take (length us) full) = sym first.0 ∙ take-map (set_of_id ids) (length us) full in
    let shut = as_before c.args.replica.now c.list_args.new.replica c.in_ok-list_args.ensures.kept
    (λ I es. OnFalse c.is_open.result (AreShut (take limit es) (fixed_of es c.args.at.now.search.fixed) (slots 0 us (map (set_of_id I) (take (length us) full))))) c.is_open.ensures in
    OnFalse_at no shut args es (subst (λ (ss : Env). Picked (λ (s : SlotData). s.arg) (IsCandidate (take limit log) (fixed_of log c.args.at.now.search.fixed)) (slots 0 us ss) args es) sets_are picked))

pub is_open-requires-clause-search : goal.is_open-requires-clause-search
is_open-requires-clause-search c =
    can_search_later c.args.replica.now c.list_args.new.replica c.args.at.now.search.args.now c.args.at.now.search.limit c.args.at.now.search.fixed (lists_keep c.args.replica.now c.list_args.new.replica c.in_ok-list_args.ensures.kept) c.requires.can.search

pub is_open-requires-clause-sets : goal.is_open-requires-clause-sets
is_open-requires-clause-sets c =
    subst (λ (I : InternerData). All (λ s. s < length I.sets) (take (length c.args.at.now.search.args.now) c.sets-sets.result.now)) c.interner.ensures
    (All-take (λ s. s < length c.interner.result.now.sets) (length c.args.at.now.search.args.now) c.sets-sets.result.now c.sets-sets.ensures.range)

pub is_open-requires-clause-listed : goal.is_open-requires-clause-listed
is_open-requires-clause-listed c = λ k d lt. omega (arith, c.in_ok-list_args.ensures.listed k d lt, c.requires.can.search.limited, c.requires.can.search.indexed)

pub is_open-requires-clause-long : goal.is_open-requires-clause-long
is_open-requires-clause-long c = length-take-le (length c.args.at.now.search.args.now) c.sets-sets.result.now c.if-sets-count.false

pub returns-then-sets-count-clause-kept : goal.returns-then-sets-count-clause-kept
returns-then-sets-count-clause-kept c = c.in_ok-list_args.ensures.kept

pub returns-clause-kept : goal.returns-clause-kept
returns-clause-kept c = c.in_ok-list_args.ensures.kept
