use Rattle.std.proofs.Common.{◌∙◌, ap, List, ◌++◌}
use Rattle.hs_types.specs.Interned.{RowData}
use Rattle.hs_minimal.proofs.GatheringLemmas.{adds_at}
use Rattle.hs_minimal.proofs.gathering.add_rows.Goals as goal

pub returns : goal.returns
returns c =
    adds_at c.args.growing.now c.args.point c.args.rows.now.items c.extend_from_slice.new.self.items
    (c.in_ok-extend_from_slice.ensures.items ∙ ap (λ (z : List RowData). c.args.rows.now.items ++ z) c.rows_at.ensures)
