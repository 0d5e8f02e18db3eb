use Rattle.std.proofs.Common.{◌≡◌, ◌∙◌, ap, length, vec_len, arith}
use Rattle.hs_core.specs.Journal.{JournalData, opened}
use Rattle.hs_core.proofs.Keeping.{steps_length}
use Rattle.hs_core.proofs.journal.Journal.len.Goals as goal

pub returns-clause-len : goal.returns-clause-len
returns-clause-len c =
    let a = c.self.inside in
    let same : vec_len a.marks ≡ length c.args.self.now.steps =
    omega (arith, a.marks.ok.0, steps_length (opened a.actors.items a.dues.items) a.marks.items, ap (λ (v : JournalData). length v.steps) c.self.view_is) in
    c.len.ensures ∙ same
