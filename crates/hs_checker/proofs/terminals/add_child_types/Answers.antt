use Rattle.std.proofs.Common.{◌≡◌, subst, ℕ, ◌+◌, List, length, Contains, arith}
use Rattle.hs_scheme.proofs.Lists.{none_in}
use Rattle.hs_table.specs.Types.{TypeTree}
use Rattle.hs_table.specs.Entries.{EntryData}
use Rattle.hs_table_plain.specs.Enumeration.{child_type, child_types}
use Rattle.hs_types.proofs.Numbers.{Grows-refl}
use Rattle.hs_checker.specs.Slots.{FitsSets}
use Rattle.hs_checker.specs.Numbers.{entries_of, GainsTypes}
use Rattle.hs_checker.proofs.NumberLemmas.{rows_grow, entries_stay, gains_nothing, gains_more}
use Rattle.hs_checker.proofs.TypeLemmas.{both_parts, child_types_more}
use Rattle.hs_checker.proofs.terminals.add_child_types.Goals as goal

pub loop-place-init : goal.loop-place-init
loop-place-init c =
    gains_nothing c.args.types.now c.args.types.now (Grows-refl c.args.types.now) c.args.found.now.items c.requires.found
    (λ (t : TypeTree). Contains (child_types c.args.to.now c.args.q 0) t × FitsSets (entries_of c.args.types.now c.args.index.now) c.args.args.now t) (λ t both. none_in t both.0)

pub add_child_type-requires-clause-place : goal.add_child_type-requires-clause-place
add_child_type-requires-clause-place c = omega (arith, c.loop-place-test.true, c.requires.rank)

pub add_child_type-requires-clause-rows : goal.add_child_type-requires-clause-rows
add_child_type-requires-clause-rows c = rows_grow c.args.types.now c.loop-place.types c.loop-place.invariant.grows c.args.index.now c.requires.rows

pub add_child_type-requires-clause-found : goal.add_child_type-requires-clause-found
add_child_type-requires-clause-found c = c.loop-place.invariant.range

pub loop-place-preserved : goal.loop-place-preserved
loop-place-preserved c =
    let I = c.args.types.now in
    let J = c.loop-place.types in
    let K = c.add_child_type.new.types in
    let R = c.args.index.now in
    let us = c.args.args.now in
    let to = c.args.to.now in
    let E = entries_of I R in
    let stay = entries_stay I J c.loop-place.invariant.grows R c.requires.rows in
    let news = c.add_child_type.new.found.items in
    let own = subst (λ (F : List EntryData). GainsTypes J K c.loop-place.found.items news (λ (t : TypeTree). (t ≡ child_type to c.args.q c.loop-place.place) × FitsSets F us t)) stay c.in_ok-add_child_type.ensures in
    gains_more I J K c.args.found.now.items c.loop-place.found.items news (λ (t : TypeTree). Contains (child_types to c.args.q c.loop-place.place) t × FitsSets E us t)
    (λ (t : TypeTree). (t ≡ child_type to c.args.q c.loop-place.place) × FitsSets E us t) (λ (t : TypeTree). Contains (child_types to c.args.q (c.loop-place.place + 1)) t × FitsSets E us t)
    (λ t. both_parts _ _ _ (FitsSets E us t) (child_types_more to c.args.q c.loop-place.place t)) c.loop-place.invariant own

pub returns : goal.returns
returns c =
    let I = c.args.types.now in
    let e : c.loop-place.place ≡ length c.args.to.now = omega (arith, c.loop-place-test.false, c.requires.rank) in
    subst (λ (n : ℕ). GainsTypes I c.loop-place.types c.args.found.now.items c.loop-place.found.items (λ (t : TypeTree). Contains (child_types c.args.to.now c.args.q n) t × FitsSets (entries_of I c.args.index.now) c.args.args.now t)) e c.loop-place.invariant
