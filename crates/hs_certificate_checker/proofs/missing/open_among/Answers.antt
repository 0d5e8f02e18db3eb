use Rattle.std.proofs.Common.{refl, sym, ◌∙◌, ap, subst}
use Rattle.hs_types.proofs.Numbers.{Grows-refl, Grows-trans}
use Rattle.hs_void.specs.Voids.{BasisData}
use Rattle.hs_certificate_checker.proofs.AmongLemmas.{ToldOfHead, no_head, head_more, head_open, heads_all, split_stays}
use Rattle.hs_certificate_checker.proofs.missing.open_among.Goals as goal

pub loop-head-init : goal.loop-head-init
loop-head-init c = record {
  grows = Grows-refl c.args.types.now;
  fits = c.requires.fits;
  basis = refl;
  settled = no_head c.args.voids.now.basis c.args.problem.now c.args.point c.args.types.now c.args.heads.now;
}

pub open_by-requires-clause-problem : goal.open_by-requires-clause-problem
open_by-requires-clause-problem c = c.requires.problem ∙ ap (λ (b : BasisData). b.problem) (sym c.loop-head.invariant.basis)

pub open_by-requires-clause-table : goal.open_by-requires-clause-table
open_by-requires-clause-table c = c.requires.table ∙ ap (λ (b : BasisData). b.table) (sym c.loop-head.invariant.basis)

pub open_by-requires-clause-head : goal.open_by-requires-clause-head
open_by-requires-clause-head c =
    split_stays c.args.problem.now c.args.point c.args.types.now c.loop-head.types c.loop-head.invariant.grows c.head-item.result (c.requires.heads c.head-item.result (c.loop-head.head-index, c.loop-head-test.true, sym c.head-item.is))

pub loop-head-preserved : goal.loop-head-preserved
loop-head-preserved c =
    let b = c.args.voids.now.basis in
    let J = c.loop-head.types in
    let K = c.open_by.new.types in
    let told = subst (λ (d : BasisData). ToldOfHead d c.args.problem.now c.args.point J K c.head-item.result c.in_ok-row.field-0) c.loop-head.invariant.basis c.in_ok-row.ensures.opened in
    record {
      grows = Grows-trans c.args.types.now J K c.loop-head.invariant.grows c.open_by.ensures.grows;
      fits = c.open_by.ensures.fits;
      basis = c.open_by.ensures.basis ∙ c.loop-head.invariant.basis;
      settled = head_more b c.args.problem.now c.args.point c.args.types.now c.args.heads.now J K c.loop-head.invariant.grows c.loop-head.head-index c.head-item.result c.loop-head-test.true c.head-item.is c.in_ok-row.field-0 told
          c.in_default.not-Some c.loop-head.invariant.settled;
    }

pub returns-in-Some-clause-opened : goal.returns-in-Some-clause-opened
returns-in-Some-clause-opened c =
    let b = c.args.voids.now.basis in
    let J = c.loop-head.types in
    let K = c.open_by.new.types in
    let told = subst (λ (d : BasisData). ToldOfHead d c.args.problem.now c.args.point J K c.head-item.result c.in_ok-row.field-0) c.loop-head.invariant.basis c.in_ok-row.ensures.opened in
    head_open b c.args.problem.now c.args.point c.args.types.now c.args.heads.now J K c.loop-head.invariant.grows c.loop-head.head-index c.head-item.result c.loop-head-test.true c.head-item.is c.in_ok-row.field-0 told c.in-Some.row
    c.in-Some.is

pub returns-in-Some-clause-grows : goal.returns-in-Some-clause-grows
returns-in-Some-clause-grows c = Grows-trans c.args.types.now c.loop-head.types c.open_by.new.types c.loop-head.invariant.grows c.open_by.ensures.grows

pub returns-in-Some-clause-basis : goal.returns-in-Some-clause-basis
returns-in-Some-clause-basis c = c.open_by.ensures.basis ∙ c.loop-head.invariant.basis

pub returns-in_err-row-clause-grows : goal.returns-in_err-row-clause-grows
returns-in_err-row-clause-grows c = Grows-trans c.args.types.now c.loop-head.types c.open_by.new.types c.loop-head.invariant.grows c.open_by.ensures.grows

pub returns-in_err-row-clause-basis : goal.returns-in_err-row-clause-basis
returns-in_err-row-clause-basis c = c.open_by.ensures.basis ∙ c.loop-head.invariant.basis

pub returns-clause-opened : goal.returns-clause-opened
returns-clause-opened c =
    heads_all c.args.voids.now.basis c.args.problem.now c.args.point c.args.types.now c.args.heads.now c.loop-head.head-index c.loop-head-test.false c.loop-head.invariant.settled
