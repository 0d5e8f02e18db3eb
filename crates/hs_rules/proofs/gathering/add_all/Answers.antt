use Rattle.std.proofs.Common.{◌≡◌, refl, sym, ap, subst, ℕ, ◌≤◌, List, length, take, Option, None, OnOk, Contains, ◌⊎◌}
use Rattle.std.proofs.lemmas.List.Elements.{All-contains}
use Rattle.hs_scheme.specs.flow.Points.{PointData}
use Rattle.hs_table.specs.Entries.{Env, EntryData, InShape}
use Rattle.hs_types.specs.Interned.{env_of_id}
use Rattle.hs_rules.specs.Conclusions.{DeducedData, AnySupport}
use Rattle.hs_rules.specs.Slots.{SlotData, slots, FixedData, IsCandidate, Picked}
use Rattle.hs_rules.specs.Filling.{fixed_of}
use Rattle.hs_rules.specs.Found.{SearchData, seek, HeadData, HaveEnvs, RowsAre, HeadLeadsTo, IsDeducedBy, HasEnvFound}
use Rattle.hs_rules.specs.Heads.{AnyHead}
use Rattle.hs_rules.specs.Parts.{ArePart, HasAll}
use Rattle.hs_rules.proofs.Lists.{along, on_ok_map, on_ok_both}
use Rattle.hs_rules.proofs.ConcludeLemmas.{part_more, all_reached, heads_envs}
use Rattle.hs_rules.proofs.PartLemmas.{can_search_later}
use Rattle.hs_rules.proofs.gathering.add_all.Goals as goal

pub conclude_all-requires-clause-search : goal.conclude_all-requires-clause-search
conclude_all-requires-clause-search c = can_search_later c.args.replica.now c.heads_all.new.replica c.args.at.now.search.args.now c.args.at.now.search.limit c.args.at.now.search.fixed c.in_ok-heads_all.ensures.kept c.requires.can.heads.search

pub conclude_all-requires-clause-heads : goal.conclude_all-requires-clause-heads
conclude_all-requires-clause-heads c = λ h there. (c.in_ok-heads_all.ensures.heads.sound h (subst (λ (hs : List HeadData). Contains hs h) c.as_mut_slice.ensures.value there)).0.known

pub conclude_all-requires-clause-envs : goal.conclude_all-requires-clause-envs
conclude_all-requires-clause-envs c = λ h there.
    let p = c.args.at.now.problem.now in
    let I = c.args.replica.now.ids in
    let J = c.heads_all.new.replica.ids in
    let log = c.args.replica.now.log in
    let s : SearchData = seek c.args.at.now.search in
    let E = take s.limit log in
    let of : PointData = record { rule = c.args.at.now.rule; head = c.args.at.now.head; args = s.args } in
    let same = c.in_ok-heads_all.ensures.kept.log in
    let heads = c.heads_all.new.out.items in
    let are = c.in_ok-heads_all.ensures.heads in
    let shapes = λ (e : EntryData) (m : Contains E e). All-contains (InShape p) E e c.requires.can.heads.shapes m in
    subst (λ (l : List EntryData). HaveEnvs (take s.limit l) s.args (length (env_of_id J h.own))) (sym same)
    (heads_envs p E of J (AnyHead) heads s.args c.args.at.now.params c.requires.can.heads.params_are are c.requires.can.envs h (subst (λ (hs : List HeadData). Contains hs h) c.as_mut_slice.ensures.value there))

pub returns-clause-part : goal.returns-clause-part
returns-clause-part c =
    let p = c.args.at.now.problem.now in
    let I = c.args.replica.now.ids in
    let J = c.heads_all.new.replica.ids in
    let K = c.conclude_all.new.replica.ids in
    let log = c.args.replica.now.log in
    let s : SearchData = seek c.args.at.now.search in
    let E = take s.limit log in
    let of : PointData = record { rule = c.args.at.now.rule; head = c.args.at.now.head; args = s.args } in
    let same = c.in_ok-heads_all.ensures.kept.log in
    let heads = c.heads_all.new.out.items in
    let are = c.in_ok-heads_all.ensures.heads in
    let new = c.conclude_all.new.found.list.items in
    let shapes = λ (e : EntryData) (m : Contains E e). All-contains (InShape p) E e c.requires.can.heads.shapes m in
    let some = along (λ i. OnOk c.conclude_all.result ((d : DeducedData) → Contains new d → Contains c.args.found.now.list.items d ⊎ ((h : HeadData) × Contains (c.as_mut_slice.ensures.value i) h × IsDeducedBy J K (same i) s h d))) c.conclude_all.ensures.only in
    on_ok_both c.conclude_all.result (RowsAre c.conclude_all.new.found.rows.keys new) ((d : DeducedData) → Contains new d → Contains c.args.found.now.list.items d ⊎ ((h : HeadData) × Contains heads h × IsDeducedBy J K log s h d))
    (ArePart p K E s.point (AnySupport) c.conclude_all.new.found.rows.keys new)
    (λ rows only_these. part_more p log s of c.requires.can.is_point refl shapes J K c.conclude_all.ensures.kept.grows I c.in_ok-heads_all.ensures.kept.grows (AnySupport) (AnyHead) heads c.args.found.now.rows.keys c.conclude_all.new.found.rows.keys c.args.found.now.list.items new are
    (λ h d among wanted is. tt) c.requires.part rows only_these) c.conclude_all.ensures.rows some

pub returns-clause-all : goal.returns-clause-all
returns-clause-all c =
    let p = c.args.at.now.problem.now in
    let I = c.args.replica.now.ids in
    let J = c.heads_all.new.replica.ids in
    let K = c.conclude_all.new.replica.ids in
    let log = c.args.replica.now.log in
    let s : SearchData = seek c.args.at.now.search in
    let E = take s.limit log in
    let of : PointData = record { rule = c.args.at.now.rule; head = c.args.at.now.head; args = s.args } in
    let same = c.in_ok-heads_all.ensures.kept.log in
    let heads = c.heads_all.new.out.items in
    let are = c.in_ok-heads_all.ensures.heads in
    let new = c.conclude_all.new.found.list.items in
    let shapes = λ (e : EntryData) (m : Contains E e). All-contains (InShape p) E e c.requires.can.heads.shapes m in
    let all = along (λ i. OnOk c.conclude_all.result (length new ≤ c.args.at.now.search.most → (h : HeadData) → Contains (c.as_mut_slice.ensures.value i) h → (args : List (ℕ × ℕ)) (env : Env) → HeadLeadsTo J (same i) s h args env → HasEnvFound K s h args env new)) c.conclude_all.ensures.all in
    let free : fixed_of log s.fixed ≡ None = ap (fixed_of log) c.requires.can.free in
    on_ok_map c.conclude_all.result (length new ≤ c.args.at.now.search.most → (h : HeadData) → Contains heads h → (args : List (ℕ × ℕ)) (env : Env) → HeadLeadsTo J log s h args env → HasEnvFound K s h args env new) (length new ≤ c.args.at.now.search.most → HasAll p K E s.point (AnySupport) new)
    (λ each few. all_reached p log s of c.requires.can.is_point refl shapes J K c.conclude_all.ensures.kept.grows (AnyHead) (AnySupport) heads new are (each few)
    (λ sup e f here_is k. (tt, λ ids is picked. subst (λ (x : Option FixedData). Picked (λ (y : SlotData). y.arg) (IsCandidate E x) (slots 0 f.of.args f.sets) sup.args f.chosen) (sym free) picked))) all

pub heads_all-requires-clause-can : goal.heads_all-requires-clause-can
heads_all-requires-clause-can c = c.requires.can.heads
