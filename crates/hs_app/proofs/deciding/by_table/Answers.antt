use Rattle.std.proofs.Common.{subst}
use Rattle.hs_words.specs.Settings.{SettingsData}
use Rattle.hs_workers.specs.Answers.{IsSharedDone}
use Rattle.hs_app.proofs.deciding.by_table.Goals as goal

pub of_done-requires-clause-sorted : goal.of_done-requires-clause-sorted
of_done-requires-clause-sorted g c = c.know_sorted_problem.ensures

pub of_done-requires-clause-done : goal.of_done-requires-clause-done
of_done-requires-clause-done g c =
    subst (λ (s : SettingsData). IsSharedDone (record { problem = c.args.problem.now; budget = s.entries; first = s.first }) s.workers c.in_ok-done.done)
    c.settings.view_is c.in_ok-done.ensures.done

pub of_done-requires-clause-verdict : goal.of_done-requires-clause-verdict
of_done-requires-clause-verdict g c = c.in_ok-done.ensures.verdict c.requires.flow

pub returns : goal.returns
returns g c = c.of_done.ensures
