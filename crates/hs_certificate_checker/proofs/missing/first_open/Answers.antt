use Rattle.std.proofs.Common.{refl, sym, ◌∙◌, ap, subst, ◌<◌, length}
use Rattle.hs_types.specs.Interned.{InternerData, RowData}
use Rattle.hs_void.specs.Voids.{BasisData}
use Rattle.hs_certificate_checker.proofs.SettledLemmas.{tells_so, none_yet, one_more, all_of, is_other}
use Rattle.hs_certificate_checker.proofs.missing.first_open.Goals as goal

pub loop-env-init : goal.loop-env-init
loop-env-init c = record { same = refl; fits = c.requires.fits; basis = refl; settled = none_yet c.args.voids.now.basis c.args.types.now c.args.point c.args.rule c.args.ty c.args.kept.now }

pub is_settled-requires-clause-table : goal.is_settled-requires-clause-table
is_settled-requires-clause-table c = c.requires.table ∙ ap (λ (b : BasisData). b.table) (sym c.loop-env.invariant.basis)

pub is_settled-requires-clause-row : goal.is_settled-requires-clause-row
is_settled-requires-clause-row c = (
  subst (λ (I : InternerData). c.env-item.result < length I.envs) (sym c.loop-env.invariant.same)
      (subst (λ k. k < length c.args.types.now.envs) (sym c.env-item.is) (c.requires.kept c.loop-env.env-index c.env-item.result c.loop-env-test.true)),
  subst (λ (I : InternerData). c.args.ty < length I.types) (sym c.loop-env.invariant.same) c.requires.ty,
)

pub loop-env-preserved : goal.loop-env-preserved
loop-env-preserved c =
    let I = c.args.types.now in
    let b = c.args.voids.now.basis in
    let row : RowData = record { point = c.args.point; env = c.env-item.result; ty = c.args.ty } in
    let tells = tells_so b c.loop-env.voids.basis I c.loop-env.types c.loop-env.invariant.basis c.loop-env.invariant.same c.in_ok-is_settled.field-0 c.args.rule row c.in_ok-is_settled.ensures.ok in
    record {
      same = c.is_settled.ensures.same ∙ c.loop-env.invariant.same;
      fits = c.is_settled.ensures.fits;
      basis = c.is_settled.ensures.basis ∙ c.loop-env.invariant.basis;
      settled = one_more b I c.args.point c.args.rule c.args.ty c.args.kept.now c.loop-env.env-index c.env-item.result c.loop-env-test.true c.env-item.is c.in_ok-is_settled.field-0 c.if-not-branch.false tells c.loop-env.invariant.settled;
    }

pub returns-then-not-branch-clause-opened : goal.returns-then-not-branch-clause-opened
returns-then-not-branch-clause-opened c =
    let I = c.args.types.now in
    let b = c.args.voids.now.basis in
    let row : RowData = record { point = c.args.point; env = c.env-item.result; ty = c.args.ty } in
    let tells = tells_so b c.loop-env.voids.basis I c.loop-env.types c.loop-env.invariant.basis c.loop-env.invariant.same c.in_ok-is_settled.field-0 c.args.rule row c.in_ok-is_settled.ensures.ok in
    is_other b I c.args.point c.args.rule c.args.ty c.args.kept.now c.loop-env.env-index c.env-item.result c.loop-env-test.true c.env-item.is c.in_ok-is_settled.field-0 c.if-not-branch.true tells

pub returns-then-not-branch-clause-same : goal.returns-then-not-branch-clause-same
returns-then-not-branch-clause-same c = c.is_settled.ensures.same ∙ c.loop-env.invariant.same

pub returns-then-not-branch-clause-basis : goal.returns-then-not-branch-clause-basis
returns-then-not-branch-clause-basis c = c.is_settled.ensures.basis ∙ c.loop-env.invariant.basis

pub returns-in_err-is_settled-clause-same : goal.returns-in_err-is_settled-clause-same
returns-in_err-is_settled-clause-same c = c.is_settled.ensures.same ∙ c.loop-env.invariant.same

pub returns-in_err-is_settled-clause-basis : goal.returns-in_err-is_settled-clause-basis
returns-in_err-is_settled-clause-basis c = c.is_settled.ensures.basis ∙ c.loop-env.invariant.basis

pub returns-clause-opened : goal.returns-clause-opened
returns-clause-opened c = all_of c.args.voids.now.basis c.args.types.now c.args.point c.args.rule c.args.ty c.args.kept.now c.loop-env.env-index c.loop-env-test.false c.loop-env.invariant.settled
