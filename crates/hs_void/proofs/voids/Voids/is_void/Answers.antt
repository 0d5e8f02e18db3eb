use Rattle.std.proofs.Common.{◌≡◌, sym, ◌∙◌, ap, subst, Contains}
use Rattle.hs_numbered.specs.Certificates.{VoidRowData}
use Rattle.hs_void.specs.Voids.{BasisData, VoidsData, IsVoidAnswer}
use Rattle.hs_void.proofs.Remembering.{fits_answered}
use Rattle.hs_void.proofs.voids.Voids.is_void.Goals as goal

pub returns-in-Some-clause-ok : goal.returns-in-Some-clause-ok
returns-in-Some-clause-ok c =
    let own = subst (λ (v : VoidsData). Contains v.answers (c.pair_of.result, c.in-Some.void)) c.self.view_is c.in-Some.ensures in
    let is = c.requires.fits.answers c.pair_of.result c.in-Some.void own in
    (subst (λ (p : VoidRowData). IsVoidAnswer c.args.types.now c.args.self.now.basis p c.in-Some.void) c.pair_of.ensures is).1

pub returns-in_err-keep-clause-fits : goal.returns-in_err-keep-clause-fits
returns-in_err-keep-clause-fits c =
    let I = c.args.types.now in
    let b = c.self-2.inside.basis in
    let void = c.in_ok-void.void in
    let same : b ≡ c.args.self.now.basis = ap (λ (v : VoidsData). v.basis) c.self-2.view_is ∙ c.is_void_by_rows.ensures.basis in
    let is : IsVoidAnswer I b c.pair_of-2.result void =
    subst (λ (k : BasisData). IsVoidAnswer I k c.pair_of-2.result void) (sym same) (subst (λ (p : VoidRowData). IsVoidAnswer I c.args.self.now.basis p void) (sym c.pair_of-2.ensures) (c.requires.env, c.in_ok-void.ensures.ok)) in
    fits_answered I c.is_void_by_rows.new.types c.is_void_by_rows.ensures.same c.is_void_by_rows.new.self b c.self-2.inside.memo c.self-2.inside.answers c.keep.new.self c.self-2.view_is c.is_void_by_rows.ensures.fits c.pair_of-2.result void is c.keep.ensures

pub returns-clause-fits : goal.returns-clause-fits
returns-clause-fits c =
    let I = c.args.types.now in
    let b = c.self-2.inside.basis in
    let void = c.in_ok-void.void in
    let same : b ≡ c.args.self.now.basis = ap (λ (v : VoidsData). v.basis) c.self-2.view_is ∙ c.is_void_by_rows.ensures.basis in
    let is : IsVoidAnswer I b c.pair_of-2.result void =
    subst (λ (k : BasisData). IsVoidAnswer I k c.pair_of-2.result void) (sym same) (subst (λ (p : VoidRowData). IsVoidAnswer I c.args.self.now.basis p void) (sym c.pair_of-2.ensures) (c.requires.env, c.in_ok-void.ensures.ok)) in
    fits_answered I c.is_void_by_rows.new.types c.is_void_by_rows.ensures.same c.is_void_by_rows.new.self b c.self-2.inside.memo c.self-2.inside.answers c.keep.new.self c.self-2.view_is c.is_void_by_rows.ensures.fits c.pair_of-2.result void is c.keep.ensures
