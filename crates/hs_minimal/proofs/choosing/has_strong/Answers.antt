use Rattle.std.proofs.Common.{refl, sym, ◌∙◌, subst, IsTrue, ◌↔◌, length, ◌<◌}
use Rattle.hs_scheme.proofs.Lists.{none_in}
use Rattle.hs_weak.specs.Strength.{AsStrongAs}
use Rattle.hs_types.specs.Interned.{InternerData, RowData, IsRow, type_of_id}
use Rattle.hs_strength.proofs.Rows.{each_more, each_all}
use Rattle.hs_minimal.proofs.CoverLemmas.{row_in, at_index, not_so}
use Rattle.hs_minimal.proofs.choosing.has_strong.Goals as goal

pub loop-row-init : goal.loop-row-init
loop-row-init c = record { same = refl; none = λ r there h. none_in r there }

pub is_as_strong-requires-clause-ty : goal.is_as_strong-requires-clause-ty
is_as_strong-requires-clause-ty c =
    (row_in c.args.types.now c.loop-row.types c.loop-row.invariant.same c.row-item.result (at_index (IsRow c.args.types.now) c.args.rows.now c.loop-row.row-index c.row-item.result c.requires.rows c.loop-row-test.true c.row-item.is)).1

pub is_as_strong-requires-clause-other : goal.is_as_strong-requires-clause-other
is_as_strong-requires-clause-other c = subst (λ (K : InternerData). c.args.ty < length K.types) (sym c.loop-row.invariant.same) c.requires.ty

pub loop-row-preserved : goal.loop-row-preserved
loop-row-preserved c =
    let I = c.args.types.now in
    let a = type_of_id I c.args.ty in
    let tells = subst (λ (K : InternerData). IsTrue c.in_ok-is_as_strong.field-0 ↔ AsStrongAs (type_of_id K c.row-item.result.ty) (type_of_id K c.args.ty)) c.loop-row.invariant.same c.in_ok-is_as_strong.ensures.ok in
    record {
      same = c.is_as_strong.ensures.same ∙ c.loop-row.invariant.same;
      none = each_more (λ (r : RowData). AsStrongAs (type_of_id I r.ty) a → ⊥) c.args.rows.now c.loop-row.row-index c.row-item.result c.loop-row-test.true c.row-item.is c.loop-row.invariant.none (not_so c.in_ok-is_as_strong.field-0 _ c.if-branch.false tells);
    }

pub returns-then-branch-clause-same : goal.returns-then-branch-clause-same
returns-then-branch-clause-same c = c.is_as_strong.ensures.same ∙ c.loop-row.invariant.same

pub returns-in_err-is_as_strong-clause-same : goal.returns-in_err-is_as_strong-clause-same
returns-in_err-is_as_strong-clause-same c = c.is_as_strong.ensures.same ∙ c.loop-row.invariant.same

pub returns-clause-ok : goal.returns-clause-ok
returns-clause-ok c = λ has.
    let I = c.args.types.now in
    absurd (each_all (λ (r : RowData). AsStrongAs (type_of_id I r.ty) (type_of_id I c.args.ty) → ⊥) c.args.rows.now c.loop-row.row-index c.loop-row-test.false c.loop-row.invariant.none has.0 has.1.0 has.1.1)
