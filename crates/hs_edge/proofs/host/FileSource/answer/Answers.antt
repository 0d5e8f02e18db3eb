use Rattle.std.proofs.Common.{ap, refl, ◌∙◌, length, take}
use Rattle.hs_edge.specs.FileSource.{ReaderState}
use Rattle.hs_edge.specs.Reading.{Reading, handed}
use Rattle.hs_edge.proofs.Counted.{reader}
use Rattle.hs_edge.proofs.host.FileSource.answer.Goals as goal

pub returns-in-Ok-clause-ok : goal.returns-in-Ok-clause-ok
returns-in-Ok-clause-ok c = rw c.in-Ok.is refl

pub returns-in-Ok-clause-ok_state : goal.returns-in-Ok-clause-ok_state
returns-in-Ok-clause-ok_state c =
    let buf = c.args.buf.now in
    rw c.in-Ok.is (ap (λ (r : Reading). reader r c.self.inside.failures) c.note_read.ensures
    ∙ ap (λ (s : ReaderState). reader (handed (length buf) (take c.in-Ok.count buf) s.reading) s.failures) c.self.view_is)
