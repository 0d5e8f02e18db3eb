use Rattle.std.proofs.Common.{◌∙◌, ap, ℕ, List, [], ◌∷◌, ◌++◌}
use Rattle.hs_reads.specs.ByPoint.{pairs_by_point}
use Rattle.hs_reads.proofs.RowLemmas.{reached}
use Rattle.hs_reads.proofs.found.reach.Goals as goal

pub loop-alloc-preserved : goal.loop-alloc-preserved
loop-alloc-preserved c =
    let rows = c.loop-alloc.rows.items in
    ap (λ (rs : List (List ℕ)). pairs_by_point rs) c.in_ok-push.ensures.items ∙ (ap (λ (row : List ℕ). pairs_by_point (rows ++ row ∷ [])) c.empty.ensures ∙ (reached rows ∙ c.loop-alloc.invariant))
