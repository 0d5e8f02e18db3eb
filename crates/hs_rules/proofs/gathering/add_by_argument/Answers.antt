use Rattle.std.proofs.Common.{refl, sym, ◌∙◌, ap, subst, ℕ, ◌<◌, ◌≤◌, List, [], length, map, take, Option, Some, OnOk, Contains, ◌⊎◌}
use Rattle.std.proofs.lemmas.List.Elements.{All-contains}
use Rattle.std.proofs.lemmas.Option.{get_or_from_slice_get}
use Rattle.hs_scheme.specs.flow.Points.{PointData, PointsData, IsArgument}
use Rattle.hs_scheme.specs.Problem.{ProblemData}
use Rattle.hs_scheme.proofs.Lists.{Contains-at}
use Rattle.hs_table.specs.Types.{state}
use Rattle.hs_table.specs.Entries.{Env, EntryData, InShape}
use Rattle.hs_table_laws.proofs.Places.{within_from, to_take}
use Rattle.hs_types.specs.Interned.{InternerData, type_of_id, set_of_id, env_of_id, entry_of, IsInterner}
use Rattle.hs_rules.specs.Conclusions.{DeducedData, Uses}
use Rattle.hs_rules.specs.Found.{SearchData, HeadData, HaveEnvs, RowsAre, HeadLeadsTo, IsDeducedBy, HasEnvFound}
use Rattle.hs_rules.specs.Heads.{Asks}
use Rattle.hs_rules.specs.Parts.{ArePart, HasAll, UsesArgument, IsOnlyPlaceOf}
use Rattle.hs_rules.proofs.Lists.{along, on_ok_map, on_ok_both}
use Rattle.hs_rules.proofs.ConcludeLemmas.{part_more, all_reached, heads_envs, argument_used, used_argument, there, fixed_uses, argument_kind}
use Rattle.hs_rules.proofs.PartLemmas.{can_search_later}
use Rattle.hs_rules.proofs.FoundLemmas.{lowers_none}
use Rattle.hs_rules.proofs.gathering.add_by_argument.Goals as goal

pub place_of-requires : goal.place_of-requires
place_of-requires c =
    let p = c.args.at.now.problem.now in
    let log = c.args.replica.now.log in
    let E = take c.args.at.now.search.limit log in
    let e0 = entry_of c.args.replica.now.ids c.row-row.result in
    let s = All-contains (InShape p) E e0 c.requires.can.heads.shapes (Contains-at E c.args.place e0 (to_take c.args.at.now.search.limit log c.args.place e0 c.requires.place c.row-row.ensures.entry)) in
    subst (λ (x : PointsData). c.row-row.result.point < length x.points) (sym (ap (λ (q : ProblemData). q.points) c.problem.view_is)) (within_from p.points.points e0.point s.of s.at)

pub heads_asking-requires-clause-can : goal.heads_asking-requires-clause-can
heads_asking-requires-clause-can c =
    let p = c.args.at.now.problem.now in
    let log = c.args.replica.now.log in
    let arg = c.in-Some.arg in
    let row = c.row-row.result in
    let e0 = entry_of c.args.replica.now.ids row in
    let point = c.args.at.now.search.point in
    let of : PointData = record { rule = c.args.at.now.rule; head = c.args.at.now.head; args = c.args.at.now.search.args.now } in
    let is_place = subst (λ (x : PointsData). IsOnlyPlaceOf x point e0.point arg) (ap (λ (q : ProblemData). q.points) c.problem.view_is) c.in-Some.ensures in
    let e0_is = get_or_from_slice_get log c.args.place e0 (record { point = 0; env = []; ty = state 0 }) c.row-row.ensures.entry in
    record {
      search = record {
        indexed = c.requires.can.heads.search.indexed;
        limited = c.requires.can.heads.search.limited;
        few = c.requires.can.heads.search.few;
        fixed_within = (c.requires.place, there p log c.args.at.now.search.limit point arg c.args.place of c.requires.can.is_point e0 c.row-row.ensures.entry c.requires.place is_place ∙ ap (λ (y : EntryData). let o : Option ℕ = Some y.point in o) (sym e0_is));
      };
      params_are = c.requires.can.heads.params_are;
      shapes = c.requires.can.heads.shapes;
      head = c.requires.can.heads.head;
    }

pub heads_asking-requires-clause-arg : goal.heads_asking-requires-clause-arg
heads_asking-requires-clause-arg c =
    let p = c.args.at.now.problem.now in
    let e0 = entry_of c.args.replica.now.ids c.row-row.result in
    let point = c.args.at.now.search.point in
    let of : PointData = record { rule = c.args.at.now.rule; head = c.args.at.now.head; args = c.args.at.now.search.args.now } in
    let is_place = subst (λ (x : PointsData). IsOnlyPlaceOf x point e0.point c.in-Some.arg) (ap (λ (q : ProblemData). q.points) c.problem.view_is) c.in-Some.ensures in
    within_from c.args.at.now.search.args.now c.in-Some.arg e0.point (there p c.args.replica.now.log c.args.at.now.search.limit point c.in-Some.arg c.args.place of c.requires.can.is_point e0 c.row-row.ensures.entry c.requires.place is_place)

pub conclude_all-requires-clause-search : goal.conclude_all-requires-clause-search
conclude_all-requires-clause-search c =
    let p = c.args.at.now.problem.now in
    let log = c.args.replica.now.log in
    let arg = c.in-Some.arg in
    let row = c.row-row.result in
    let e0 = entry_of c.args.replica.now.ids row in
    let point = c.args.at.now.search.point in
    let of : PointData = record { rule = c.args.at.now.rule; head = c.args.at.now.head; args = c.args.at.now.search.args.now } in
    let is_place = subst (λ (x : PointsData). IsOnlyPlaceOf x point e0.point arg) (ap (λ (q : ProblemData). q.points) c.problem.view_is) c.in-Some.ensures in
    let e0_is = get_or_from_slice_get log c.args.place e0 (record { point = 0; env = []; ty = state 0 }) c.row-row.ensures.entry in
    can_search_later c.args.replica.now c.heads_asking.new.replica c.args.at.now.search.args.now c.args.at.now.search.limit (Some (record { arg = c.in-Some.arg; place = c.args.place })) c.in_ok-heads_asking.ensures.kept
    (record {
      indexed = c.requires.can.heads.search.indexed;
      limited = c.requires.can.heads.search.limited;
      few = c.requires.can.heads.search.few;
      fixed_within = (c.requires.place, there p log c.args.at.now.search.limit point arg c.args.place of c.requires.can.is_point e0 c.row-row.ensures.entry c.requires.place is_place ∙ ap (λ (y : EntryData). let o : Option ℕ = Some y.point in o) (sym e0_is));
    })

pub conclude_all-requires-clause-heads : goal.conclude_all-requires-clause-heads
conclude_all-requires-clause-heads c = λ h there_. (c.in_ok-heads_asking.ensures.heads.sound h (subst (λ (hs : List HeadData). Contains hs h) c.as_mut_slice.ensures.value there_)).0.known

pub conclude_all-requires-clause-envs : goal.conclude_all-requires-clause-envs
conclude_all-requires-clause-envs c = λ h there_.
    let p = c.args.at.now.problem.now in
    let I = c.args.replica.now.ids in
    let J = c.heads_asking.new.replica.ids in
    let log = c.args.replica.now.log in
    let arg = c.in-Some.arg in
    let place = c.args.place in
    let row = c.row-row.result in
    let e0 = entry_of I row in
    let point = c.args.at.now.search.point in
    let limit = c.args.at.now.search.limit in
    let s : SearchData = record { point = point; args = c.args.at.now.search.args.now; limit = limit; fixed = Some (record { arg = arg; place = place }) } in
    let E = take s.limit log in
    let of : PointData = record { rule = c.args.at.now.rule; head = c.args.at.now.head; args = s.args } in
    let is_place = subst (λ (x : PointsData). IsOnlyPlaceOf x point e0.point arg) (ap (λ (q : ProblemData). q.points) c.problem.view_is) c.in-Some.ensures in
    let same = c.in_ok-heads_asking.ensures.kept.log in
    let heads = c.heads_asking.new.out.items in
    let are = c.in_ok-heads_asking.ensures.heads in
    let wanted = Asks arg (type_of_id I row.ty) in
    let shapes = λ (e : EntryData) (m : Contains E e). All-contains (InShape p) E e c.requires.can.heads.shapes m in
    subst (λ (l : List EntryData). HaveEnvs (take s.limit l) s.args (length (env_of_id J h.own))) (sym same)
    (heads_envs p E of J wanted heads s.args c.args.at.now.params c.requires.can.heads.params_are are c.requires.can.envs h (subst (λ (hs : List HeadData). Contains hs h) c.as_mut_slice.ensures.value there_))

pub returns-clause-part : goal.returns-clause-part
returns-clause-part c =
    let p = c.args.at.now.problem.now in
    let I = c.args.replica.now.ids in
    let J = c.heads_asking.new.replica.ids in
    let K = c.conclude_all.new.replica.ids in
    let log = c.args.replica.now.log in
    let arg = c.in-Some.arg in
    let place = c.args.place in
    let row = c.row-row.result in
    let e0 = entry_of I row in
    let point = c.args.at.now.search.point in
    let limit = c.args.at.now.search.limit in
    let s : SearchData = record { point = point; args = c.args.at.now.search.args.now; limit = limit; fixed = Some (record { arg = arg; place = place }) } in
    let E = take s.limit log in
    let of : PointData = record { rule = c.args.at.now.rule; head = c.args.at.now.head; args = s.args } in
    let is_place = subst (λ (x : PointsData). IsOnlyPlaceOf x point e0.point arg) (ap (λ (q : ProblemData). q.points) c.problem.view_is) c.in-Some.ensures in
    let same = c.in_ok-heads_asking.ensures.kept.log in
    let heads = c.heads_asking.new.out.items in
    let are = c.in_ok-heads_asking.ensures.heads in
    let new = c.conclude_all.new.found.list.items in
    let wanted = Asks arg (type_of_id I row.ty) in
    let shapes = λ (e : EntryData) (m : Contains E e). All-contains (InShape p) E e c.requires.can.heads.shapes m in
    let some = along (λ i. OnOk c.conclude_all.result ((d : DeducedData) → Contains new d → Contains c.args.found.now.list.items d ⊎ ((h : HeadData) × Contains (c.as_mut_slice.ensures.value i) h × IsDeducedBy J K (same i) s h d))) c.conclude_all.ensures.only in
    on_ok_both c.conclude_all.result (RowsAre c.conclude_all.new.found.rows.keys new) ((d : DeducedData) → Contains new d → Contains c.args.found.now.list.items d ⊎ ((h : HeadData) × Contains heads h × IsDeducedBy J K log s h d))
    (ArePart p K E s.point (Uses place) c.conclude_all.new.found.rows.keys new)
    (λ rows only_these. part_more p log s of c.requires.can.is_point refl shapes J K c.conclude_all.ensures.kept.grows I c.in_ok-heads_asking.ensures.kept.grows (Uses place) wanted heads c.args.found.now.rows.keys c.conclude_all.new.found.rows.keys c.args.found.now.list.items new are
    (λ h d among asks is. argument_used d.support.head d.support.args place
    (fixed_uses p log limit point arg place of c.requires.can.is_point e0 c.row-row.ensures.entry c.requires.place is_place (map (set_of_id J) h.sets) d.support.args is.leads.chosen asks is.leads.picked)) c.requires.part rows only_these) c.conclude_all.ensures.rows some

pub returns-clause-all : goal.returns-clause-all
returns-clause-all c =
    let p = c.args.at.now.problem.now in
    let I = c.args.replica.now.ids in
    let J = c.heads_asking.new.replica.ids in
    let K = c.conclude_all.new.replica.ids in
    let log = c.args.replica.now.log in
    let arg = c.in-Some.arg in
    let place = c.args.place in
    let row = c.row-row.result in
    let e0 = entry_of I row in
    let point = c.args.at.now.search.point in
    let limit = c.args.at.now.search.limit in
    let s : SearchData = record { point = point; args = c.args.at.now.search.args.now; limit = limit; fixed = Some (record { arg = arg; place = place }) } in
    let E = take s.limit log in
    let of : PointData = record { rule = c.args.at.now.rule; head = c.args.at.now.head; args = s.args } in
    let is_place = subst (λ (x : PointsData). IsOnlyPlaceOf x point e0.point arg) (ap (λ (q : ProblemData). q.points) c.problem.view_is) c.in-Some.ensures in
    let same = c.in_ok-heads_asking.ensures.kept.log in
    let heads = c.heads_asking.new.out.items in
    let are = c.in_ok-heads_asking.ensures.heads in
    let new = c.conclude_all.new.found.list.items in
    let wanted = Asks arg (type_of_id I row.ty) in
    let shapes = λ (e : EntryData) (m : Contains E e). All-contains (InShape p) E e c.requires.can.heads.shapes m in
    let all = along (λ i. OnOk c.conclude_all.result (length new ≤ c.args.at.now.search.most → (h : HeadData) → Contains (c.as_mut_slice.ensures.value i) h → (args : List (ℕ × ℕ)) (env : Env) → HeadLeadsTo J (same i) s h args env → HasEnvFound K s h args env new)) c.conclude_all.ensures.all in
    let numbers = subst (λ (ids : InternerData). IsInterner ids) c.interner.ensures c.know_numbers.ensures in
    on_ok_map c.conclude_all.result (length new ≤ c.args.at.now.search.most → (h : HeadData) → Contains heads h → (args : List (ℕ × ℕ)) (env : Env) → HeadLeadsTo J log s h args env → HasEnvFound K s h args env new) (length new ≤ c.args.at.now.search.most → HasAll p K E s.point (UsesArgument place) new)
    (λ each few. all_reached p log s of c.requires.can.is_point refl shapes J K c.conclude_all.ensures.kept.grows wanted (UsesArgument place) heads new are (each few)
    (λ sup e f here_is used. argument_kind p log limit point arg place of c.requires.can.is_point e0 c.row-row.ensures.entry c.requires.place is_place J numbers sup e f here_is used)) all

pub returns-in_default-clause-all : goal.returns-in_default-clause-all
returns-in_default-clause-all c = λ few sup e here_is f used.
    let p = c.args.at.now.problem.now in
    let e0 = entry_of c.args.replica.now.ids c.row-row.result in
    let u = used_argument p c.args.replica.now.log c.args.at.now.search.limit c.args.at.now.search.point c.args.place e0 c.row-row.ensures.entry sup e f here_is used in
    absurd (c.in_default.ensures u.0 (subst (λ (x : PointsData). IsArgument x c.args.at.now.search.point u.0 e0.point) (sym (ap (λ (q : ProblemData). q.points) c.problem.view_is)) u.1))

pub returns-in_default-clause-lowers : goal.returns-in_default-clause-lowers
returns-in_default-clause-lowers c = lowers_none c.args.found.now.list.items
