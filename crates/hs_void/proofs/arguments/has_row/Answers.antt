use Rattle.std.proofs.Common.{refl, sym, ◌∙◌, subst, ◌<◌, length}
use Rattle.hs_types.specs.Interned.{InternerData, type_of_id}
use Rattle.hs_choices.proofs.Choosing.{row_within, strong_so, not_strong_so}
use Rattle.hs_void.proofs.AtArguments.{found_strong, none_more, none_strong, none_of_all}
use Rattle.hs_void.proofs.arguments.has_row.Goals as goal

pub is_as_strong-requires-clause-ty : goal.is_as_strong-requires-clause-ty
is_as_strong-requires-clause-ty c = row_within c.args.types.now c.loop-row.types c.loop-row.invariant.same c.args.rows.now c.loop-row.row-index c.row-item.result c.loop-row-test.true c.row-item.is c.requires.rows

pub is_as_strong-requires-clause-other : goal.is_as_strong-requires-clause-other
is_as_strong-requires-clause-other c = subst (λ (I : InternerData). c.args.ty < length I.types) (sym c.loop-row.invariant.same) c.requires.ty

pub loop-row-init : goal.loop-row-init
loop-row-init c = record { same = refl; none = none_strong c.args.types.now c.args.rows.now (type_of_id c.args.types.now c.args.ty) }

pub loop-row-preserved : goal.loop-row-preserved
loop-row-preserved c =
    let I = c.args.types.now in
    record {
      same = c.is_as_strong.ensures.same ∙ c.loop-row.invariant.same;
      none = none_more I c.args.rows.now (type_of_id I c.args.ty) c.loop-row.row-index c.row-item.result c.loop-row-test.true c.row-item.is c.loop-row.invariant.none
          (not_strong_so I c.loop-row.types c.loop-row.invariant.same c.row-item.result.ty c.args.ty c.in_ok-is_as_strong.field-0 c.if-branch.false c.in_ok-is_as_strong.ensures.ok);
    }

pub returns-then-branch-clause-ok : goal.returns-then-branch-clause-ok
returns-then-branch-clause-ok c =
    let I = c.args.types.now in
    found_strong I c.args.rows.now (type_of_id I c.args.ty) c.loop-row.row-index c.row-item.result c.loop-row-test.true c.row-item.is
    (strong_so I c.loop-row.types c.loop-row.invariant.same c.row-item.result.ty c.args.ty c.in_ok-is_as_strong.field-0 c.if-branch.true c.in_ok-is_as_strong.ensures.ok)

pub returns-then-branch-clause-same : goal.returns-then-branch-clause-same
returns-then-branch-clause-same c = c.is_as_strong.ensures.same ∙ c.loop-row.invariant.same

pub returns-in_err-is_as_strong-clause-same : goal.returns-in_err-is_as_strong-clause-same
returns-in_err-is_as_strong-clause-same c = c.is_as_strong.ensures.same ∙ c.loop-row.invariant.same

pub returns-clause-ok : goal.returns-clause-ok
returns-clause-ok c = none_of_all c.args.types.now c.args.rows.now (type_of_id c.args.types.now c.args.ty) c.loop-row.row-index c.loop-row-test.false c.loop-row.invariant.none
