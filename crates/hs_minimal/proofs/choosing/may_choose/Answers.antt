use Rattle.std.proofs.Common.{refl, sym, ◌∙◌, subst, ℕ, ◌<◌, List, Contains, All, length, map, get_or, arith}
use Rattle.std.proofs.lemmas.Bool.{false≢true}
use Rattle.std.proofs.lemmas.Option.{slice_get-get_or}
use Rattle.hs_table.specs.Types.{TypeTree}
use Rattle.hs_types.specs.Interned.{InternerData, IsRow, set_of_id}
use Rattle.hs_strength.proofs.Reading.{set_read_at}
use Rattle.hs_choices.proofs.Choosing.{part_within}
use Rattle.hs_minimal.specs.Following.{HasStrong}
use Rattle.hs_minimal.proofs.choosing.may_choose.Goals as goal

pub has_each-requires-clause-rows : goal.has_each-requires-clause-rows
has_each-requires-clause-rows c =
    subst (λ (I : InternerData). All (IsRow I) c.rows_at-at.result.now) (sym c.loop-place.invariant) (part_within c.args.types.now c.args.rows.now _ c.rows_at-at.result.now c.requires.rows c.rows_at-at.ensures)

pub has_each-requires-clause-set : goal.has_each-requires-clause-set
has_each-requires-clause-set c =
    let I = c.args.types.now in
    let k = c.loop-place.place in
    let within : k < length c.args.sets.now = omega (arith, c.loop-place-test.true, c.requires.long) in
    subst (λ (K : InternerData). c.index-sets-place.result < length K.sets) (sym c.loop-place.invariant)
    (subst (λ z. z < length I.sets) (sym c.index-sets-place.is) (c.requires.sets k c.index-sets-place.result within))

pub returns-then-not-branch-clause-ok : goal.returns-then-not-branch-clause-ok
returns-then-not-branch-clause-ok c = λ each.
    let I = c.args.types.now in
    let k = c.loop-place.place in
    let args = c.args.args.now in
    let ids = c.args.sets.now in
    let id = c.index-sets-place.result in
    let u : ℕ = get_or args k 0 in
    let at = c.rows_at-at.result.now in
    let within : k < length ids = omega (arith, c.loop-place-test.true, c.requires.long) in
    let read = set_read_at (set_of_id I) ids (map (set_of_id I) ids) k id refl within c.index-sets-place.is in
    let has : (a : TypeTree) → Contains (set_of_id I id) a → HasStrong I at a =
    λ a m.
    let r = each k u a (slice_get-get_or args k 0 c.loop-place-test.true) (subst (λ (z : List TypeTree). Contains z a) (sym read) m) in
    (r.0, ((c.rows_at-at.ensures r.0).1 (r.1.0, r.1.1), r.1.2)) in
    absurd (false≢true (sym c.if-not-branch.true ∙ c.in_ok-has_each.ensures.ok (subst (λ (K : InternerData). (a : TypeTree) → Contains (set_of_id K id) a → HasStrong K at a) (sym c.loop-place.invariant) has)))

pub returns-then-not-branch-clause-same : goal.returns-then-not-branch-clause-same
returns-then-not-branch-clause-same c = c.has_each.ensures.same ∙ c.loop-place.invariant

pub returns-in_err-has_each-clause-same : goal.returns-in_err-has_each-clause-same
returns-in_err-has_each-clause-same c = c.has_each.ensures.same ∙ c.loop-place.invariant

pub loop-place-preserved : goal.loop-place-preserved
loop-place-preserved c = c.has_each.ensures.same ∙ c.loop-place.invariant
