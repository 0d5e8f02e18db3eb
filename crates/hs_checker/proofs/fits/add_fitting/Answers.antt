use Rattle.std.proofs.Common.{◌≡◌, sym, ◌∙◌, subst, true, false}
use Rattle.hs_table.specs.Types.{TypeTree}
use Rattle.hs_types.specs.Interned.{type_of_id}
use Rattle.hs_types.proofs.Numbers.{Grows-refl}
use Rattle.hs_checker.specs.Slots.{FitsSets}
use Rattle.hs_checker.specs.Numbers.{entries_of}
use Rattle.hs_checker.proofs.NumberLemmas.{gains_pushed, gains_nothing}
use Rattle.hs_checker.proofs.fits.add_fitting.Goals as goal

pub returns-then-not-fits : goal.returns-then-not-fits
returns-then-not-fits c =
    let I = c.args.types.now in
    let E = entries_of I c.args.index.now in
    let us = c.args.args.now in
    gains_nothing I I (Grows-refl I) c.args.found.now.items c.requires.found (λ (t : TypeTree). (t ≡ type_of_id I c.args.ty) × FitsSets E us t)
    (λ t both. let f : false ≡ true = sym c.if-not-fits.true ∙ c.fits.ensures.1 (subst (λ (z : TypeTree). FitsSets E us z) both.0 both.1) in absurd (cc))

pub returns : goal.returns
returns c =
    let I = c.args.types.now in
    let E = entries_of I c.args.index.now in
    let us = c.args.args.now in
    gains_pushed I I (Grows-refl I) c.args.found.now.items c.push.new.self.items c.args.ty c.requires.found c.in_ok-push.ensures.items c.requires.ty (λ (t : TypeTree). (t ≡ type_of_id I c.args.ty) × FitsSets E us t)
    (λ t. (λ e. (e, subst (λ (z : TypeTree). FitsSets E us z) (sym e) (c.fits.ensures.0 c.if-not-fits.false)), λ both. both.0))
