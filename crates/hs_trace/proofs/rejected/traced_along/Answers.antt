use Rattle.std.proofs.Common.{ap, subst, Option}
use Rattle.hs_scheme.specs.sorting.Sorted.{SortedData}
use Rattle.hs_reduce.specs.declared.answers.Trace.{Trace}
use Rattle.hs_reduce.specs.Trace.{IsTraceAlong}
use Rattle.hs_trace.proofs.Joined.{is_traced}
use Rattle.hs_trace.proofs.rejected.traced_along.Goals as goal

pub returns-in-Ok-Some : goal.returns-in-Ok-Some
returns-in-Ok-Some c =
    let s = c.args.sorted.now in
    is_traced (λ t. t.items) s c.args.lines.now c.args.report.now c.sorted.inside.names c.args.numbers.now 4000000 c.in-Ok-Some.trace c.told.result
    (ap (λ (x : SortedData). x.names) c.sorted.view_is)
    (subst (λ (o : Option Trace). IsTraceAlong s c.args.numbers.now 4000000 9999 o) c.in-Ok-Some.field-0-is c.in-Ok-Some.ensures)
    c.told.ensures.printed c.told.ensures.text
