use Rattle.std.proofs.Common.{ap, subst, ℕ, Option}
use Rattle.hs_scheme.specs.acceptance.FailingPath.{FailingPathData}
use Rattle.hs_words.specs.Settings.{SettingsData}
use Rattle.hs_reduce.specs.Replays.{IsFailureAlong}
use Rattle.hs_app.proofs.EvidenceLemmas.{path_decides}
use Rattle.hs_app.proofs.evidence.by_path.Goals as goal

pub returns-in-Ok-Some : goal.returns-in-Ok-Some
returns-in-Ok-Some c =
    let before = c.args.before.now in let path = c.args.path.now in
    let followed = subst (λ (n : ℕ). IsFailureAlong before path n c.in-Ok-Some.field-0) (ap (λ (s : SettingsData). s.steps) c.settings.view_is) c.in-Ok-Some.ensures in
    let fails = subst (λ (o : Option FailingPathData). IsFailureAlong before path c.args.settings.steps o) c.in-Ok-Some.field-0-is followed in
    path_decides c.args.settings before c.args.problem.now c.args.removed path _ c.rejected_along.result c.requires.quick fails c.rejected_along.ensures
