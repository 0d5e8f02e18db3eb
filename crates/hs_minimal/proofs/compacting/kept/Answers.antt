use Rattle.std.proofs.Common.{◌≡◌, sym, ◌∙◌, ap, subst, ◌<◌, List, length, get_or, Contains}
use Rattle.hs_scheme.specs.Problem.{ProblemData}
use Rattle.hs_verdict.specs.Premises.{IsSortedProblem}
use Rattle.hs_types.specs.Interned.{InternerData, RowData, IsRow, type_of_id, entry_of}
use Rattle.hs_weak.specs.Reads.{last_state}
use Rattle.hs_reads.specs.Lists.{list_of}
use Rattle.hs_minimal.specs.Ends.{rows_ending}
use Rattle.hs_minimal.proofs.CoverLemmas.{not_so}
use Rattle.hs_minimal.proofs.GrowingLemmas.{added_in_use, alike_kept}
use Rattle.hs_minimal.proofs.CompactingLemmas.{not_kept, one_kept}
use Rattle.hs_minimal.proofs.compacting.kept.Goals as goal

pub alike-requires : goal.alike-requires
alike-requires c =
    let g = c.args.growing.now in
    let row = c.row-item.result in
    let k = c.loop-row.row-index in
    let lt : k < length g.history = subst (λ (z : List RowData). k < length z) c.history-row-items.ensures c.loop-row-test.true in
    let is : row ≡ get_or g.history k row = subst (λ (z : List RowData). row ≡ get_or z k row) c.history-row-items.ensures c.row-item.is in
    subst (λ (J : InternerData). IsRow J row) (sym c.interner.ensures) (added_in_use c.args.types.now g c.requires row (k, lt, sym is))

pub loop-row-preserved-then-not-has_row : goal.loop-row-preserved-then-not-has_row
loop-row-preserved-then-not-has_row c =
    let g = c.args.growing.now in
    let row = c.row-item.result in
    let k = c.loop-row.row-index in
    let given : IsSortedProblem g.problem = subst (λ (p : ProblemData). IsSortedProblem p) c.problem.ensures c.know_sorted_problem.ensures in
    let lt : k < length g.history = subst (λ (z : List RowData). k < length z) c.history-row-items.ensures c.loop-row-test.true in
    let is : row ≡ get_or g.history k row = subst (λ (z : List RowData). row ≡ get_or z k row) c.history-row-items.ensures c.row-item.is in
    let alike_is = c.alike.ensures ∙ ap (λ (J : InternerData). rows_ending g.ends row.point (last_state (type_of_id J row.ty))) c.interner.ensures in
    not_kept c.args.types.now g given c.requires k row lt is c.loop-row.kept.items c.loop-row.invariant
    (λ there. not_so c.has_row.result _ c.if-not-has_row.true c.has_row.ensures ((alike_kept c.args.types.now g c.requires row c.alike.result.now alike_is).1 there))

pub loop-row-preserved : goal.loop-row-preserved
loop-row-preserved c =
    let g = c.args.growing.now in
    let row = c.row-item.result in
    let k = c.loop-row.row-index in
    let given : IsSortedProblem g.problem = subst (λ (p : ProblemData). IsSortedProblem p) c.problem.ensures c.know_sorted_problem.ensures in
    let lt : k < length g.history = subst (λ (z : List RowData). k < length z) c.history-row-items.ensures c.loop-row-test.true in
    let is : row ≡ get_or g.history k row = subst (λ (z : List RowData). row ≡ get_or z k row) c.history-row-items.ensures c.row-item.is in
    let alike_is = c.alike.ensures ∙ ap (λ (J : InternerData). rows_ending g.ends row.point (last_state (type_of_id J row.ty))) c.interner.ensures in
    let there : Contains (list_of g.rows row.point) row = (alike_kept c.args.types.now g c.requires row c.alike.result.now alike_is).0 (c.has_row.ensures.0 c.if-not-has_row.false) in
    one_kept c.args.types.now g given c.requires k row lt is c.loop-row.kept.items c.loop-row.invariant there c.push.new.self.items c.in_ok-tree.field-0
    (c.in_ok-tree.ensures ∙ ap (λ (J : InternerData). entry_of J row) c.interner-in-loop-row.ensures) c.in_ok-push.ensures.items
