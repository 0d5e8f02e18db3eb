use Rattle.std.proofs.Common.{subst}
use Rattle.hs_scheme.specs.sorting.Unsorted.{UnsortedData, IsUnsorted}
use Rattle.hs_sorts.specs.Inference.{IsInferred}
use Rattle.hs_front.proofs.OneScheme.{reads_of}
use Rattle.hs_app.proofs.VerdictLemmas.{refused, decided}
use Rattle.hs_app.proofs.verdict.decide.Goals as goal

pub returns-in-Ok : goal.returns-in-Ok
returns-in-Ok g c =
    let h = c.in-Ok.ensures.sorted in
    let s = h.of_bytes in
    decided _ c.args.bytes.now s.of.file (reads_of _ _ s) s.of.faultless c.in-Ok.sorted
    (subst (λ (u : UnsortedData). IsInferred u c.in-Ok.sorted) s.of.is h.form.inferred)
    (subst (λ (u : UnsortedData). IsUnsorted u) s.of.is h.form.unsorted) c.decide_scheme.result c.decide_scheme.ensures

pub returns-in-Err : goal.returns-in-Err
returns-in-Err g c = refused _ c.args.bytes.now c.in-Err.refusal c.in-Err.ensures.refused
