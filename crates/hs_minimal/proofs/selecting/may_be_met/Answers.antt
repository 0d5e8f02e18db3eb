use Rattle.std.proofs.Common.{sym, ◌∙◌, subst, All}
use Rattle.hs_types.specs.Interned.{InternerData, IsRow}
use Rattle.hs_minimal.proofs.CoverLemmas.{row_in}
use Rattle.hs_minimal.proofs.GrowingLemmas.{kept_rows}
use Rattle.hs_minimal.proofs.selecting.may_be_met.Goals as goal

pub asked_of-requires : goal.asked_of-requires
asked_of-requires c = row_in c.args.types.now c.interner.result.now (c.interner.ensures ∙ c.loop-place.invariant) c.args.said.now c.requires.said

pub has_each-requires-clause-rows : goal.has_each-requires-clause-rows
has_each-requires-clause-rows c = subst (λ (K : InternerData). All (IsRow K) c.rows_at.result.now) (sym c.loop-place.invariant) (kept_rows c.args.types.now c.args.growing.now c.requires.growing _ c.rows_at.result.now c.rows_at.ensures)

pub loop-place-preserved : goal.loop-place-preserved
loop-place-preserved c = c.has_each.ensures.same ∙ c.loop-place.invariant
