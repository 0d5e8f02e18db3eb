use Rattle.std.proofs.Common.{◌≡◌, sym, ap, subst, ℕ, ◌<◌, List, length, get_or, Contains, ◌↔◌, arith}
use Rattle.std.specs.List.{flat_map}
use Rattle.hs_table.specs.Types.{TypeTree}
use Rattle.hs_table.specs.Entries.{EntryData}
use Rattle.hs_table_plain.specs.Enumeration as plain
use Rattle.hs_types.specs.Interned.{type_of_id, set_of_id}
use Rattle.hs_types.proofs.Numbers.{Grows-refl, Grows-trans, set_stays, set_within}
use Rattle.hs_checker.specs.Numbers.{entries_of, opened_by, AreEnvs, AreLong}
use Rattle.hs_checker.proofs.EnvLemmas.{picks_step, picks_done}
use Rattle.hs_checker.proofs.NumberLemmas.{rows_grow, entries_stay}
use Rattle.hs_checker.proofs.unions.picks.Goals as goal

pub loop-place-init : goal.loop-place-init
loop-place-init c = record {
  grows = Grows-refl c.args.types.now;
  range = λ n all long. all;
  each = λ u e. (λ k. k, λ k. k);
}

pub member-ty-requires-clause-set : goal.member-ty-requires-clause-set
member-ty-requires-clause-set c = set_within c.args.types.now c.loop-place.types c.loop-place.invariant.grows c.args.set c.requires.set

pub member-ty-requires-clause-place : goal.member-ty-requires-clause-place
member-ty-requires-clause-place c =
    omega (arith, c.loop-place-test.true, c.size-place-end.ensures, ap length (set_stays c.args.types.now c.loop-place.types c.loop-place.invariant.grows c.args.set c.requires.set))

pub extended-requires-clause-rows : goal.extended-requires-clause-rows
extended-requires-clause-rows c = rows_grow c.args.types.now c.loop-place.types c.loop-place.invariant.grows c.args.index.now c.requires.rows

pub extended-requires-clause-long : goal.extended-requires-clause-long
extended-requires-clause-long c =
    let I = c.args.types.now in
    let J = c.loop-place.types in
    let h = c.loop-place.invariant in
    let n = c.requires.long.0 in
    let stay = entries_stay I J h.grows c.args.index.now c.requires.rows in (
      n,
      (
        subst (λ (ks : List ℕ). AreEnvs n J ks) (sym c.as_slice.ensures.value) (h.range n c.requires.long.1.0 c.requires.long.1.1),
        subst (λ (F : List EntryData). AreLong n F c.args.arg) (sym stay) c.requires.long.1.1,
      ),
    )

pub loop-place-preserved : goal.loop-place-preserved
loop-place-preserved c =
    let I = c.args.types.now in
    let J = c.loop-place.types in
    let K = c.extended.new.types in
    let h = c.loop-place.invariant in
    let E = entries_of I c.args.index.now in
    let S = set_of_id I c.args.set in
    let k = c.loop-place.place in
    let a : TypeTree = type_of_id J c.member-ty.result in
    let stay = entries_stay I J h.grows c.args.index.now c.requires.rows in
    let set_is = set_stays I J h.grows c.args.set c.requires.set in
    let lt : k < length S = omega (arith, c.loop-place-test.true, c.size-place-end.ensures) in
    let read : a ≡ get_or S k a = subst (λ (s : List TypeTree). a ≡ get_or s k a) set_is c.member-ty.ensures.is in
    let olds = c.loop-place.found.items in
    let news = c.in_ok-found.found.items in
    let slice = c.as_slice.ensures.value in
    record {
      grows = Grows-trans I J K h.grows c.in_ok-found.ensures.grows;
      range = λ n all long. c.in_ok-found.ensures.range n (subst (λ (ks : List ℕ). AreEnvs n J ks) (sym slice) (h.range n all long)) (subst (λ (F : List EntryData). AreLong n F c.args.arg) (sym stay) long);
      each = λ u e.
          let made = λ (e : EntryData).
          subst (λ (F : List EntryData). Contains (opened_by K u news) e ↔ Contains (flat_map (λ x. flat_map (plain.extended c.args.arg a x) F) (opened_by J u olds)) e) stay
          (subst (λ (ks : List ℕ). Contains (opened_by K u news) e ↔ Contains (flat_map (λ x. flat_map (plain.extended c.args.arg a x) (entries_of J c.args.index.now)) (opened_by J u ks)) e) slice (c.in_ok-found.ensures.each u e)) in
          let step = picks_step E c.args.arg S k a (opened_by J u olds) (opened_by K u news) lt read made e in
          let before = h.each u e in
          (λ m. before.0 (step.0 m), λ m. step.1 (before.1 m));
    }

pub returns-clause-each : goal.returns-clause-each
returns-clause-each c = λ u.
    let I = c.args.types.now in
    picks_done (entries_of I c.args.index.now) c.args.arg (set_of_id I c.args.set) c.loop-place.place (opened_by c.loop-place.types u c.loop-place.found.items) (opened_by I u c.args.kept.items)
    (omega (arith, c.loop-place-test.false, c.size-place-end.ensures)) (c.loop-place.invariant.each u)
