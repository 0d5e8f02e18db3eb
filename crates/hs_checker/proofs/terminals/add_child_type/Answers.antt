use Rattle.std.proofs.Common.{◌≡◌, sym, ◌∙◌, ap, subst, ◌∷◌, [], List, length, replicate, set, slice_index}
use Rattle.std.proofs.lemmas.Option.{slice_get_within, get_or_from_slice_get}
use Rattle.std.proofs.lemmas.Result.{on_ok_weaker}
use Rattle.hs_table.specs.Types.{TypeTree, state, arrows}
use Rattle.hs_table.specs.Entries.{EntryData}
use Rattle.hs_table_plain.specs.Enumeration as plain
use Rattle.hs_types.specs.Interned.{type_of_id}
use Rattle.hs_types.proofs.Numbers.{Grows-trans}
use Rattle.hs_checker.specs.Slots.{HasTypeAt, FitsSets}
use Rattle.hs_checker.specs.Numbers.{entries_of, GainsTypes}
use Rattle.hs_checker.proofs.InstanceLemmas.{unfit_child}
use Rattle.hs_checker.proofs.NumberLemmas.{rows_grow, entries_stay, types_grow, gains_nothing, gains_later}
use Rattle.hs_checker.proofs.terminals.add_child_type.Goals as goal

pub asks_in_vain-requires-clause-rows : goal.asks_in_vain-requires-clause-rows
asks_in_vain-requires-clause-rows c = rows_grow c.args.types.now c.base.new.self c.base.ensures.grows c.args.index.now c.requires.rows

pub asks_in_vain-requires-clause-ty : goal.asks_in_vain-requires-clause-ty
asks_in_vain-requires-clause-ty c = slice_get_within c.base.new.self.types c.in_ok-child.child (state (slice_index c.args.to.now c.args.place)) c.in_ok-child.ensures.ok

pub child_type-requires-clause-child : goal.child_type-requires-clause-child
child_type-requires-clause-child c = slice_get_within c.base.new.self.types c.in_ok-child.child (state (slice_index c.args.to.now c.args.place)) c.in_ok-child.ensures.ok

pub add_fitting-requires-clause-rows : goal.add_fitting-requires-clause-rows
add_fitting-requires-clause-rows c =
    let g = Grows-trans c.args.types.now c.base.new.self c.child_type.new.types c.base.ensures.grows c.in_ok-ty.ensures.grows in
    rows_grow c.args.types.now c.child_type.new.types g c.args.index.now c.requires.rows

pub add_fitting-requires-clause-found : goal.add_fitting-requires-clause-found
add_fitting-requires-clause-found c =
    let g = Grows-trans c.args.types.now c.base.new.self c.child_type.new.types c.base.ensures.grows c.in_ok-ty.ensures.grows in
    types_grow c.args.types.now c.child_type.new.types g c.args.found.now.items c.requires.found

pub returns-then-asks_in_vain : goal.returns-then-asks_in_vain
returns-then-asks_in_vain c =
    let I = c.args.types.now in
    let J = c.base.new.self in
    let g = c.base.ensures.grows in
    let R = c.args.index.now in
    let r : TypeTree = state (slice_index c.args.to.now c.args.place) in
    let is : type_of_id J c.in_ok-child.child ≡ r = get_or_from_slice_get J.types c.in_ok-child.child r (state 0) c.in_ok-child.ensures.ok in
    let vain = c.asks_in_vain.ensures c.if-asks_in_vain.true in
    let stay = entries_stay I J g R c.requires.rows in
    let never = λ (h : HasTypeAt (entries_of I R) vain.0 r). vain.1.1 (subst (λ (F : List EntryData). HasTypeAt F vain.0 (type_of_id J c.in_ok-child.child)) (sym stay) (subst (λ z. HasTypeAt (entries_of I R) vain.0 z) (sym is) h)) in
    gains_nothing I J g c.args.found.now.items c.requires.found (λ t. (t ≡ plain.child_type c.args.to.now c.args.q c.args.place) × FitsSets (entries_of I R) c.args.args.now t)
    (λ t both. unfit_child (entries_of I R) c.args.args.now c.args.to.now c.args.q c.args.place vain.0 c.requires.place vain.1.0 never (subst (λ (z : TypeTree). FitsSets (entries_of I R) c.args.args.now z) both.0 both.1))

pub returns : goal.returns
returns c =
    let I = c.args.types.now in
    let J = c.base.new.self in
    let K = c.child_type.new.types in
    let g = Grows-trans I J K c.base.ensures.grows c.in_ok-ty.ensures.grows in
    let R = c.args.index.now in
    let olds = c.args.found.now.items in
    let news = c.add_fitting.new.found.items in
    let r : TypeTree = state (slice_index c.args.to.now c.args.place) in
    let child_is : type_of_id J c.in_ok-child.child ≡ r = get_or_from_slice_get J.types c.in_ok-child.child r (state 0) c.in_ok-child.ensures.ok in
    let is : type_of_id K c.in_ok-ty.ty ≡ plain.child_type c.args.to.now c.args.q c.args.place =
    c.in_ok-ty.ensures.is ∙ ap (λ (t : TypeTree). arrows (set (replicate (length c.args.to.now) []) c.args.place (t ∷ [])) (state c.args.q)) child_is in
    let stay = entries_stay I K g R c.requires.rows in
    on_ok_weaker c.add_fitting.result (λ gained.
    gains_later I K K g olds news c.requires.found (λ t. (t ≡ plain.child_type c.args.to.now c.args.q c.args.place) × FitsSets (entries_of I R) c.args.args.now t)
    (subst (λ (F : List EntryData). GainsTypes K K olds news (λ t. (t ≡ plain.child_type c.args.to.now c.args.q c.args.place) × FitsSets F c.args.args.now t)) stay
    (subst (λ (z : TypeTree). GainsTypes K K olds news (λ t. (t ≡ z) × FitsSets (entries_of K R) c.args.args.now t)) is gained))) c.add_fitting.ensures
