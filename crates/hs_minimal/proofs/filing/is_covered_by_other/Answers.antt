use Rattle.std.proofs.Common.{◌≡◌, ◌∙◌, ap, subst, ◌<◌, List, length, Contains}
use Rattle.hs_scheme.proofs.Lists.{none_in}
use Rattle.hs_table.specs.Types.{TypeTree}
use Rattle.hs_types.specs.Interned.{RowData, set_of_id, env_of_id}
use Rattle.hs_weak.specs.Reads.{last_state}
use Rattle.hs_reads.specs.Lists.{list_of}
use Rattle.hs_strength.proofs.Rows.{each_more, each_all}
use Rattle.hs_minimal.specs.Ends.{rows_ending}
use Rattle.hs_minimal.specs.Strongest.{IsCoveredByOther, end_of_row}
use Rattle.hs_minimal.proofs.CoverLemmas.{at_index, not_so}
use Rattle.hs_minimal.proofs.FilingLemmas.{among, rows_in_use, found_by, each_asked}
use Rattle.hs_minimal.proofs.filing.is_covered_by_other.Goals as goal

pub loop-set-init : goal.loop-set-init
loop-set-init c = record { memo = c.has_covering.ensures.memo; none = λ s m. absurd (none_in s m) }

pub has_covering-requires-clause-rows : goal.has_covering-requires-clause-rows
has_covering-requires-clause-rows c = rows_in_use c.args.types.now c.args.filed.now c.requires.filed c.args.row.now.point c.last_state-end.result c.last_state-end.result c.filed_at-free.result.now c.filed_at-free.ensures

pub has_covering_for-requires-clause-set : goal.has_covering_for-requires-clause-set
has_covering_for-requires-clause-set c = at_index (λ s. s < length c.args.types.now.sets) c.sets-sets.result.now c.loop-set.set-index c.set-item.result c.sets-sets.ensures.range c.loop-set-test.true c.set-item.is

pub loop-set-preserved : goal.loop-set-preserved
loop-set-preserved c =
    let I = c.args.types.now in
    let row = c.args.row.now in
    record {
      memo = c.has_covering_for.ensures.memo;
      none = each_more (λ s. (a : TypeTree) → Contains (set_of_id I s) a → IsCoveredByOther I (rows_ending (list_of c.args.filed.now row.point) (end_of_row I row) (last_state a)) row → ⊥) c.sets-sets.result.now c.loop-set.set-index c.set-item.result c.loop-set-test.true c.set-item.is
          c.loop-set.invariant.none (c.in_ok-has_covering_for.ensures.none c.if-branch-2.false);
    }

pub returns-then-branch-clause-some : goal.returns-then-branch-clause-some
returns-then-branch-clause-some c = λ _.
    among c.args.types.now c.args.filed.now c.args.row.now c.last_state-end.result c.last_state-end.result c.filed_at-free.result.now c.filed_at-free.ensures (c.in_ok-has_covering.ensures.ok.0 c.if-branch.true)

pub returns-clause-none : goal.returns-clause-none
returns-clause-none c = λ _.
    let I = c.args.types.now in
    let row = c.args.row.now in
    let env = env_of_id I row.env in
    let ids = c.sets-sets.result.now in
    let free = c.filed_at-free.result.now in
    let read : free ≡ rows_ending (list_of c.args.filed.now row.point) (end_of_row I row) (end_of_row I row) =
    c.filed_at-free.ensures ∙ ap (λ e. rows_ending (list_of c.args.filed.now row.point) e e) c.last_state-end.ensures in
    found_by I c.args.filed.now row (subst (λ (z : List RowData). IsCoveredByOther I z row → ⊥) read (not_so c.in_ok-has_covering.field-0 _ c.if-branch.false c.in_ok-has_covering.ensures.ok))
    (each_asked I ids env c.sets-sets.ensures.sets (λ (a : TypeTree). IsCoveredByOther I (rows_ending (list_of c.args.filed.now row.point) (end_of_row I row) (last_state a)) row → ⊥)
    (each_all (λ s. (a : TypeTree) → Contains (set_of_id I s) a → IsCoveredByOther I (rows_ending (list_of c.args.filed.now row.point) (end_of_row I row) (last_state a)) row → ⊥) ids c.loop-set.set-index c.loop-set-test.false c.loop-set.invariant.none))
