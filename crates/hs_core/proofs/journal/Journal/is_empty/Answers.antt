use Rattle.std.proofs.Common.{◌≡◌, ◌==◌, ◌∙◌, ap, ℕ, length, vec_len, arith}
use Rattle.hs_core.specs.Journal.{JournalData, opened}
use Rattle.hs_core.proofs.Keeping.{steps_length}
use Rattle.hs_core.proofs.journal.Journal.is_empty.Goals as goal

pub returns : goal.returns
returns c =
    let a = c.self.inside in
    let same : vec_len a.marks ≡ length c.args.self.now.steps =
    omega (arith, a.marks.ok.0, steps_length (opened a.actors.items a.dues.items) a.marks.items, ap (λ (v : JournalData). length v.steps) c.self.view_is) in
    c.is_empty.ensures ∙ ap (λ (n : ℕ). n == 0) same
