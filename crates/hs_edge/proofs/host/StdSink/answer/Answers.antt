use Rattle.std.proofs.Common.{ap, ◌∙◌}
use Rattle.hs_edge.specs.StdSink.{StreamState}
use Rattle.hs_edge.specs.Writing.{Writing, written}
use Rattle.hs_edge.proofs.Counted.{stream}
use Rattle.hs_edge.proofs.host.StdSink.answer.Goals as goal

pub returns-in-Ok-clause-ok_state : goal.returns-in-Ok-clause-ok_state
returns-in-Ok-clause-ok_state c =
    ap (λ (w : Writing). stream w c.self.inside.failures) c.note_write.ensures
    ∙ ap (λ (s : StreamState). stream (written c.args.piece.now c.in-Ok.count s.writing) s.failures) c.self.view_is
