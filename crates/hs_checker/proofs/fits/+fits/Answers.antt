use Rattle.std.proofs.Common.{◌≡◌, sym, ◌∙◌, ap, subst, ℕ, ◌-◌, true, false, List, length, take, drop, arith, length-drop}
use Rattle.std.proofs.lemmas.List.{take_all}
use Rattle.std.proofs.lemmas.Option.{slice_get_within}
use Rattle.hs_types.specs.Interned.{type_of_id, set_of_id, IsView}
use Rattle.hs_checker.specs.Slots.{FitsSets}
use Rattle.hs_checker.specs.Numbers.{entries_of}
use Rattle.hs_checker.proofs.InstanceLemmas.{fits_arrow}
use Rattle.hs_checker.proofs.fits.+fits.Goals as goal

pub have_entries-requires-clause-set : goal.have_entries-requires-clause-set
have_entries-requires-clause-set t c = (subst (IsView c.args.types.now c.args.ty) c.in-Arrow.is c.view.ensures).0

pub fits-requires : goal.fits-requires
fits-requires t c =
    let us = c.args.args.now in
    let front : take (length us - 1) (drop 1 us) ≡ drop 1 us = take_all _ (drop 1 us) (omega (arith, length-drop 1 us)) in
    let some = slice_get_within us 0 c.in-Some.arg.now (sym c.in-Some.ensures.value) in (
      omega (arith, c.decreases, ap length front, length-drop 1 us, some),
      (c.requires.rows, (subst (IsView c.args.types.now c.args.ty) c.in-Arrow.is c.view.ensures).1),
    )

pub returns-then-have_entries : goal.returns-then-have_entries
returns-then-have_entries t c =
    let I = c.args.types.now in
    let E = entries_of I c.args.index.now in
    let us = c.args.args.now in
    let seen = subst (IsView I c.args.ty) c.in-Arrow.is c.view.ensures in
    let exact = fits_arrow E us c.in-Some.arg.now (set_of_id I c.in-Arrow.set) (type_of_id I c.in-Arrow.rest) (type_of_id I c.args.ty) (sym c.in-Some.ensures.value) seen.2 in
    let front : take (length us - 1) (drop 1 us) ≡ drop 1 us = take_all _ (drop 1 us) (omega (arith, length-drop 1 us)) in
    let has = c.have_entries.ensures.0 c.if-have_entries.true in (
      λ h. exact.0 (has, subst (λ (vs : List ℕ). FitsSets E vs (type_of_id I c.in-Arrow.rest)) front (c.fits.ensures.0 h)),
      λ h. c.fits.ensures.1 (subst (λ (vs : List ℕ). FitsSets E vs (type_of_id I c.in-Arrow.rest)) (sym front) (exact.1 h).1),
    )

pub returns-else-have_entries : goal.returns-else-have_entries
returns-else-have_entries t c =
    let I = c.args.types.now in
    let E = entries_of I c.args.index.now in
    let us = c.args.args.now in
    let seen = subst (IsView I c.args.ty) c.in-Arrow.is c.view.ensures in
    let exact = fits_arrow E us c.in-Some.arg.now (set_of_id I c.in-Arrow.set) (type_of_id I c.in-Arrow.rest) (type_of_id I c.args.ty) (sym c.in-Some.ensures.value) seen.2 in (
      λ h. let f : true ≡ false = sym h ∙ c.if-have_entries.false in absurd (cc),
      λ h. c.have_entries.ensures.1 (exact.1 h).0,
    )
