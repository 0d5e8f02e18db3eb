use Rattle.std.proofs.Common.{◌≡◌, sym, ◌∙◌, subst, ◌<◌, length, slice_get, Some, All}
use Rattle.std.proofs.lemmas.Bool.{false≢true}
use Rattle.hs_scheme.proofs.Lists.{Contains-at}
use Rattle.hs_types.specs.Interned.{InternerData, IsRow, type_of_id, set_of_id}
use Rattle.hs_minimal.specs.Following.{HasStrong}
use Rattle.hs_minimal.proofs.choosing.has_each.Goals as goal

pub member-ty-requires-clause-set : goal.member-ty-requires-clause-set
member-ty-requires-clause-set c = subst (λ (I : InternerData). c.args.set < length I.sets) (sym c.loop-place.invariant) c.requires.set

pub member-ty-requires-clause-place : goal.member-ty-requires-clause-place
member-ty-requires-clause-place c =
    subst (λ (I : InternerData). c.loop-place.place < length (set_of_id I c.args.set)) (sym c.loop-place.invariant) (subst (λ n. c.loop-place.place < n) c.count-count.ensures c.loop-place-test.true)

pub has_strong-requires-clause-rows : goal.has_strong-requires-clause-rows
has_strong-requires-clause-rows c = subst (λ (I : InternerData). All (IsRow I) c.args.rows.now) (sym c.loop-place.invariant) c.requires.rows

pub returns-then-not-branch-clause-ok : goal.returns-then-not-branch-clause-ok
returns-then-not-branch-clause-ok c = λ each.
    let I = c.args.types.now in
    let rows = c.args.rows.now in
    let ty = c.member-ty.result in
    let at : slice_get (set_of_id I c.args.set) c.loop-place.place ≡ Some (type_of_id I ty) =
    subst (λ (K : InternerData). slice_get (set_of_id K c.args.set) c.loop-place.place ≡ Some (type_of_id K ty)) c.loop-place.invariant c.member-ty.ensures.is in
    let has = each (type_of_id I ty) (Contains-at (set_of_id I c.args.set) c.loop-place.place (type_of_id I ty) at) in
    absurd (false≢true (sym c.if-not-branch.true ∙ c.in_ok-has_strong.ensures.ok (subst (λ (K : InternerData). HasStrong K rows (type_of_id K ty)) (sym c.loop-place.invariant) has)))

pub returns-then-not-branch-clause-same : goal.returns-then-not-branch-clause-same
returns-then-not-branch-clause-same c = c.has_strong.ensures.same ∙ c.loop-place.invariant

pub returns-in_err-has_strong-clause-same : goal.returns-in_err-has_strong-clause-same
returns-in_err-has_strong-clause-same c = c.has_strong.ensures.same ∙ c.loop-place.invariant

pub loop-place-preserved : goal.loop-place-preserved
loop-place-preserved c = c.has_strong.ensures.same ∙ c.loop-place.invariant
