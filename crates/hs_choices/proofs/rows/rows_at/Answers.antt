use Rattle.std.proofs.Common.{rules}
use Rattle.hs_types.specs.Interned.{RowData}
use Rattle.hs_flow_checker.proofs.StartLemmas.{between_starts, starts_up}
use Rattle.hs_choices.proofs.rows.rows_at.Goals as goal

pub slice_bounds-result-count : goal.slice_bounds-result-count
slice_bounds-result-count c = starts_up (λ (r : RowData). r.point) c.args.rows.now c.args.point c.start_of-from.result c.end_from-to.result c.start_of-from.ensures c.end_from-to.ensures

pub slice_bounds-result-start : goal.slice_bounds-result-start
slice_bounds-result-start c =
    let up = starts_up (λ (r : RowData). r.point) c.args.rows.now c.args.point c.start_of-from.result c.end_from-to.result c.start_of-from.ensures c.end_from-to.ensures in
    let within = c.end_from-to.ensures.within in
    search rules

pub returns : goal.returns
returns c = between_starts (λ (r : RowData). r.point) c.args.rows.now c.args.point c.start_of-from.result c.end_from-to.result c.start_of-from.ensures c.end_from-to.ensures
