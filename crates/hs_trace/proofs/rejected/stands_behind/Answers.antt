use Rattle.std.proofs.Common.{sym, ◌∙◌}
use Rattle.hs_trace.proofs.Joined.{stands}
use Rattle.hs_trace.proofs.rejected.stands_behind.Goals as goal

pub returns : goal.returns
returns c = λ yes.
    stands c.args.text.now c.split_at.result.0.now c.split_at.result.1.now c.args.piece.now c.split_at.ensures.by_index.0 (sym c.starts_with.ensures.value ∙ yes)
