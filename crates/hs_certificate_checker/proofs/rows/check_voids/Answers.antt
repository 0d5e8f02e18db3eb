use Rattle.std.proofs.Common.{sym, ◌∙◌, ap, map}
use Rattle.hs_types.specs.Interned.{entry_of}
use Rattle.hs_numbered.specs.Certificates.{void_of}
use Rattle.hs_void.specs.Voids.{BasisData}
use Rattle.hs_certificate_checker.proofs.FlawLemmas.{own_stand, first_flaw, open_flaw, row_used, no_flaw, told_missing}
use Rattle.hs_certificate_checker.proofs.rows.check_voids.Goals as goal

pub returns-in-Some-clause-flaw : goal.returns-in-Some-clause-flaw
returns-in-Some-clause-flaw c = first_flaw c.args.voids.now.basis c.args.problem.now c.requires.problem c.args.reads.now c.args.types.now c.in_ok-place.field-0 c.in_ok-place.ensures.first c.in-Some.place c.in-Some.is

pub first_missing-requires-clause-problem : goal.first_missing-requires-clause-problem
first_missing-requires-clause-problem c = c.requires.problem ∙ ap (λ (b : BasisData). b.problem) (sym c.first_not_void.ensures.basis)

pub first_missing-requires-clause-table : goal.first_missing-requires-clause-table
first_missing-requires-clause-table c = c.requires.table ∙ ap (λ (b : BasisData). b.table) (sym c.first_not_void.ensures.basis)

pub missing-requires : goal.missing-requires
missing-requires c =
    let b = c.args.voids.now.basis in
    let p = c.args.problem.now in
    let R = c.args.reads.now in
    let I = c.args.types.now in
    let J = c.first_not_void.new.types in
    let K = c.first_missing.new.types in
    let told = told_missing b c.first_not_void.new.self.basis p R J K c.in_ok-row.field-0 c.first_not_void.ensures.basis c.in_ok-row.ensures.missing in
    row_used b p c.requires.problem R I J K c.first_not_void.ensures.grows c.in_ok-place.field-0 c.in_ok-row.field-0 c.in_ok-place.ensures.first told c.in-Some-2.row c.in-Some-2.is (map (entry_of I) b.table) (map (void_of I) b.void)
    (own_stand c.args.voids.now I c.requires.fits)

pub returns-in-Some-2-clause-flaw : goal.returns-in-Some-2-clause-flaw
returns-in-Some-2-clause-flaw c =
    let b = c.args.voids.now.basis in
    let p = c.args.problem.now in
    let R = c.args.reads.now in
    let I = c.args.types.now in
    let J = c.first_not_void.new.types in
    let K = c.first_missing.new.types in
    let told = told_missing b c.first_not_void.new.self.basis p R J K c.in_ok-row.field-0 c.first_not_void.ensures.basis c.in_ok-row.ensures.missing in
    open_flaw b p c.requires.problem R I J K c.first_not_void.ensures.grows c.in_ok-place.field-0 c.in_ok-row.field-0 c.in_ok-place.ensures.first told c.in_default.not-Some c.in-Some-2.row c.in-Some-2.is c.missing.result c.missing.ensures

pub returns-in-None-clause-whole : goal.returns-in-None-clause-whole
returns-in-None-clause-whole c =
    let b = c.args.voids.now.basis in
    let p = c.args.problem.now in
    let R = c.args.reads.now in
    let I = c.args.types.now in
    let J = c.first_not_void.new.types in
    let K = c.first_missing.new.types in
    let told = told_missing b c.first_not_void.new.self.basis p R J K c.in_ok-row.field-0 c.first_not_void.ensures.basis c.in_ok-row.ensures.missing in
    no_flaw b p c.requires.problem R I J K c.first_not_void.ensures.grows c.in_ok-place.field-0 c.in_ok-row.field-0 c.in_ok-place.ensures.first told c.in_default.not-Some c.in-None.is
