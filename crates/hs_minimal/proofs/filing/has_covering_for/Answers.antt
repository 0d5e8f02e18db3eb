use Rattle.std.proofs.Common.{◌≡◌, ◌∙◌, ap, subst, ◌<◌, List, length}
use Rattle.hs_scheme.proofs.Lists.{none_in}
use Rattle.hs_table.specs.Types.{TypeTree}
use Rattle.hs_types.specs.Interned.{RowData, type_of_id, set_of_id}
use Rattle.hs_weak.specs.Reads.{last_state}
use Rattle.hs_reads.specs.Lists.{list_of}
use Rattle.hs_strength.proofs.Rows.{each_more, each_all, each_mapped}
use Rattle.hs_minimal.specs.Ends.{rows_ending}
use Rattle.hs_minimal.specs.Strongest.{IsCoveredByOther, end_of_row}
use Rattle.hs_minimal.proofs.CoverLemmas.{at_index, not_so}
use Rattle.hs_minimal.proofs.FilingLemmas.{among, rows_in_use}
use Rattle.hs_minimal.proofs.filing.has_covering_for.Goals as goal

pub loop-member-init : goal.loop-member-init
loop-member-init c = record { memo = c.requires.memo; none = λ t m. absurd (none_in t m) }

pub last_state-requires : goal.last_state-requires
last_state-requires c = at_index (λ t. t < length c.args.types.now.types) c.members-members.result.now c.loop-member.member-index c.member-item.result c.members-members.ensures.range c.loop-member-test.true c.member-item.is

pub has_covering-requires-clause-rows : goal.has_covering-requires-clause-rows
has_covering-requires-clause-rows c = rows_in_use c.args.types.now c.args.filed.now c.requires.filed c.args.row.now.point c.last_state-end.result c.last_state.result c.filed_at-rows.result.now c.filed_at-rows.ensures

pub loop-member-preserved : goal.loop-member-preserved
loop-member-preserved c =
    let I = c.args.types.now in
    let row = c.args.row.now in
    let rows = c.filed_at-rows.result.now in
    let read : rows ≡ rows_ending (list_of c.args.filed.now row.point) (end_of_row I row) (last_state (type_of_id I c.member-item.result)) =
    c.filed_at-rows.ensures ∙ (ap (λ e. rows_ending (list_of c.args.filed.now row.point) e c.last_state.result) c.last_state-end.ensures
    ∙ ap (λ q. rows_ending (list_of c.args.filed.now row.point) (end_of_row I row) q) c.last_state.ensures) in
    record {
      memo = c.has_covering.ensures.memo;
      none = each_more (λ t. IsCoveredByOther I (rows_ending (list_of c.args.filed.now row.point) (end_of_row I row) (last_state (type_of_id I t))) row → ⊥) c.members-members.result.now c.loop-member.member-index c.member-item.result c.loop-member-test.true c.member-item.is
          c.loop-member.invariant.none (subst (λ (z : List RowData). IsCoveredByOther I z row → ⊥) read (not_so c.in_ok-has_covering.field-0 _ c.if-branch.false c.in_ok-has_covering.ensures.ok));
    }

pub returns-then-branch-clause-some : goal.returns-then-branch-clause-some
returns-then-branch-clause-some c = λ _.
    among c.args.types.now c.args.filed.now c.args.row.now c.last_state-end.result c.last_state.result c.filed_at-rows.result.now c.filed_at-rows.ensures (c.in_ok-has_covering.ensures.ok.0 c.if-branch.true)

pub returns-clause-none : goal.returns-clause-none
returns-clause-none c = λ _.
    let I = c.args.types.now in
    let row = c.args.row.now in
    let members = c.members-members.result.now in
    each_mapped (type_of_id I) (λ (a : TypeTree). IsCoveredByOther I (rows_ending (list_of c.args.filed.now row.point) (end_of_row I row) (last_state a)) row → ⊥) members (set_of_id I c.args.set) c.members-members.ensures.members
    (each_all (λ t. IsCoveredByOther I (rows_ending (list_of c.args.filed.now row.point) (end_of_row I row) (last_state (type_of_id I t))) row → ⊥) members c.loop-member.member-index c.loop-member-test.false c.loop-member.invariant.none)
