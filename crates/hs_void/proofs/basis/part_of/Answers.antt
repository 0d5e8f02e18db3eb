use Rattle.std.proofs.Common.{rules}
use Rattle.hs_numbered.specs.Certificates.{VoidRowData}
use Rattle.hs_flow_checker.proofs.StartLemmas.{between_starts, starts_up}
use Rattle.hs_void.proofs.basis.part_of.Goals as goal

pub slice_bounds-result-count : goal.slice_bounds-result-count
slice_bounds-result-count c = starts_up (λ (v : VoidRowData). v.rule) c.args.rows.now c.args.rule c.start_of-from.result c.end_of-to.result c.start_of-from.ensures c.end_of-to.ensures

pub slice_bounds-result-start : goal.slice_bounds-result-start
slice_bounds-result-start c =
    let up = starts_up (λ (v : VoidRowData). v.rule) c.args.rows.now c.args.rule c.start_of-from.result c.end_of-to.result c.start_of-from.ensures c.end_of-to.ensures in
    let within = c.end_of-to.ensures.within in
    search rules

pub returns : goal.returns
returns c = between_starts (λ (v : VoidRowData). v.rule) c.args.rows.now c.args.rule c.start_of-from.result c.end_of-to.result c.start_of-from.ensures c.end_of-to.ensures
