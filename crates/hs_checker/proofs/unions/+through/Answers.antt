use Rattle.std.proofs.Common.{◌≡◌, sym, ap, subst, ℕ, ◌-◌, List, [], length, map, drop, take, Contains, ◌↔◌, arith, length-drop}
use Rattle.std.proofs.lemmas.List.{take_all}
use Rattle.std.proofs.lemmas.Option.{slice_get_within}
use Rattle.std.proofs.lemmas.Result.{IfOk-weaker}
use Rattle.hs_table.specs.Entries.{EntryData}
use Rattle.hs_table_plain.specs.Enumeration as plain
use Rattle.hs_types.specs.Interned.{type_of_id, set_of_id, IsView}
use Rattle.hs_types.proofs.Numbers.{type_stays, type_within}
use Rattle.hs_checker.specs.Numbers.{entries_of, opened_by, AreLong}
use Rattle.hs_checker.proofs.EnvLemmas.{through_rest, through_none, through_state}
use Rattle.hs_checker.proofs.NumberLemmas.{rows_grow, entries_stay}
use Rattle.hs_checker.proofs.UnionSteps.{at_first, behind_first}
use Rattle.hs_checker.proofs.unions.+through.Goals as goal

pub returns-in_default-clause-each : goal.returns-in_default-clause-each
returns-in_default-clause-each t c = λ u e.
    let I = c.args.types.now in
    let es = opened_by I u c.args.kept.items in
    let all = through_none (entries_of I c.args.index.now) c.args.args.now (type_of_id I c.args.ty) es (sym c.in_default.ensures.value) in
    subst (λ (xs : List EntryData). Contains (map (plain.retyped (type_of_id I c.args.ty)) es) e ↔ Contains xs e) (sym all) (λ k. k, λ k. k)

pub returns-in-State-clause-each : goal.returns-in-State-clause-each
returns-in-State-clause-each t c = λ u e.
    let I = c.args.types.now in
    let seen : type_of_id I c.args.ty ≡ _ = subst (IsView I c.args.ty) c.in-State.is c.view.ensures in
    let none = through_state (entries_of I c.args.index.now) c.args.args.now c.in-Some.arg.now c.in-State.field-0 (type_of_id I c.args.ty) (opened_by I u c.args.kept.items) (sym c.in-Some.ensures.value) seen in
    subst (λ (xs : List EntryData). Contains (map (plain.retyped (type_of_id I c.args.ty)) (opened_by I u c.new.result.items)) e ↔ Contains xs e) (sym none)
    (subst (λ (ks : List ℕ). Contains (map (plain.retyped (type_of_id I c.args.ty)) (opened_by I u ks)) e ↔ Contains {X = EntryData} [] e) (sym c.new.ensures.items) (λ k. k, λ k. k))

pub returns-in_ok-chosen-in-Arrow-clause-each : goal.returns-in_ok-chosen-in-Arrow-clause-each
returns-in_ok-chosen-in-Arrow-clause-each t c =
    let I = c.args.types.now in
    let J = c.picks.new.types in
    let K = c.through.new.types in
    let R = c.args.index.now in
    let E = entries_of I R in
    let us = c.args.args.now in
    let set = c.in-Arrow.set in
    let rest = c.in-Arrow.rest in
    let seen = subst (IsView I c.args.ty) c.in-Arrow.is c.view.ensures in
    let g = c.in_ok-chosen-in-Arrow.ensures.grows in
    let stay = entries_stay I J g R c.requires.rows in
    let ty_is = type_stays I J g rest seen.1 in
    let chosen = c.in_ok-chosen-in-Arrow.chosen.items in
    let front : take (length us - 1) (drop 1 us) ≡ drop 1 us = take_all _ (drop 1 us) (omega (arith, length-drop 1 us)) in
    IfOk-weaker c.through.result _ (λ found. (u : ℕ) (e : EntryData) → Contains (map (plain.retyped (type_of_id K found.ty)) (opened_by K u found.envs.items)) e ↔ Contains (plain.through E us (type_of_id I c.args.ty) (opened_by I u c.args.kept.items)) e)
    (λ found all u e.
    let behind = through_rest E us c.in-Some.arg.now (set_of_id I set) (type_of_id I rest) (type_of_id I c.args.ty) (opened_by I u c.args.kept.items) (opened_by J u chosen) (sym c.in-Some.ensures.value) seen.2 (c.in_ok-chosen-in-Arrow.ensures.each u) in
    let made = map (plain.retyped (type_of_id K found.ty)) (opened_by K u found.envs.items) in
    let mine = subst (λ (xs : List EntryData). Contains made e ↔ Contains xs e) (λ i. plain.through (stay i) (front i) (ty_is i) (opened_by J u chosen)) (all u e) in
    let step = behind e in
    (λ k. step.0 (mine.0 k), λ k. mine.1 (step.1 k))) c.through.ensures.each

pub picks-requires-clause-set : goal.picks-requires-clause-set
picks-requires-clause-set t c = (subst (IsView c.args.types.now c.args.ty) c.in-Arrow.is c.view.ensures).0

pub picks-requires-clause-long : goal.picks-requires-clause-long
picks-requires-clause-long t c =
    let us = c.args.args.now in
    let n = c.requires.long.0 in
    (n, (c.requires.long.1.0, c.requires.long.1.1 c.in-Some.arg.now (at_first us c.in-Some.arg.now (sym c.in-Some.ensures.value))))

pub through-requires : goal.through-requires
through-requires t c =
    let I = c.args.types.now in
    let J = c.picks.new.types in
    let us = c.args.args.now in
    let n = c.requires.long.0 in
    let g = c.in_ok-chosen-in-Arrow.ensures.grows in
    let long = c.requires.long.1.1 c.in-Some.arg.now (at_first us c.in-Some.arg.now (sym c.in-Some.ensures.value)) in
    let stay = entries_stay I J g c.args.index.now c.requires.rows in
    let front : take (length us - 1) (drop 1 us) ≡ drop 1 us = take_all _ (drop 1 us) (omega (arith, length-drop 1 us)) in
    let some = slice_get_within us 0 c.in-Some.arg.now (sym c.in-Some.ensures.value) in (
      omega (arith, c.decreases, ap length front, length-drop 1 us, some),
      (
        rows_grow I J g c.args.index.now c.requires.rows,
        (
          type_within I J g c.in-Arrow.rest (subst (IsView I c.args.ty) c.in-Arrow.is c.view.ensures).1,
          (
            n,
            (
              c.in_ok-chosen-in-Arrow.ensures.range n c.requires.long.1.0 long,
              λ u k. subst (λ (F : List EntryData). AreLong n F u) (sym stay) (c.requires.long.1.1 u (behind_first us u k)),
            ),
          ),
        ),
      ),
    )
