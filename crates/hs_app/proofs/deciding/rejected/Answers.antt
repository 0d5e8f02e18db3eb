use Rattle.std.proofs.Common.{sym, ap, subst, ℕ, List}
use Rattle.hs_scheme.specs.declared.term.Rule.{Rule}
use Rattle.hs_scheme.specs.Problem.{ProblemData}
use Rattle.hs_table.specs.Tables.{HasSupports}
use Rattle.hs_scheme.specs.acceptance.Failing.{IsFailingPath}
use Rattle.hs_scheme.specs.acceptance.Run.{start}
use Rattle.hs_scheme.specs.acceptance.Steps.{Reaches}
use Rattle.hs_text.specs.declared.verdict.Verdict.TheVariants.{Rejected, Long}
use Rattle.hs_core.specs.Core.{state_of, log_of}
use Rattle.hs_core.proofs.Tables.{core_supports}
use Rattle.hs_words.specs.Settings.{SettingsData}
use Rattle.hs_path.specs.declared.answer.Walk.{Walk}
use Rattle.hs_path.specs.declared.answer.Walk.TheVariants as walk
use Rattle.hs_path.specs.Walked.{IsWalk}
use Rattle.hs_app.specs.Verdict.{IsShown}
use Rattle.hs_app.proofs.DecidingLemmas.{either_way}
use Rattle.hs_app.proofs.deciding.rejected.Goals as goal

pub returns-in_ok-report-in-Found : goal.returns-in_ok-report-in-Found
returns-in_ok-report-in-Found c =
    let log = log_of c.args.core.now in
    let supports = (state_of c.args.core.now).supports in
    let p = c.args.problem.now in
    let steps = ap (λ (s : SettingsData). s.steps) c.settings.view_is in
    let found = subst (λ (n : ℕ). IsWalk p log supports n (walk.Found c.in-Found.path)) steps
    (subst (λ (w : Walk). IsWalk p log supports c.settings.inside.steps w) c.in-Found.is c.in_ok-path.ensures) in
    let supported = subst (λ (q : ProblemData). HasSupports q log supports) (sym c.requires.problem) (core_supports c.args.core.now c.know_core.ensures) in
    record {
      rejects = c.requires.rejects;
      table = log;
      reported = c.requires.reported;
      within = c.requires.few;
      path = c.in-Found.path;
      fails = (c.in-Found.path.used, found.fails);
      walked = either_way c.args.settings.simplify (λ (rules : List Rule). IsFailingPath rules p.sorted.automaton.transitions c.in-Found.path) p.sorted.scheme.rules found.fails;
      few = found.few;
      supports = supports;
      supported = supported;
      canonical = c.requires.canonical;
      names = found.names;
      tells =
          subst (λ (n : ℕ). IsShown c.args.settings p (Rejected n c.in-Found.path) log c.args.removed c.in_ok-report-in-Found.report.items)
          c.len-entries.ensures (c.in_ok-report-in-Found.ensures);
    }

pub returns-in_ok-report-in-StepLimit : goal.returns-in_ok-report-in-StepLimit
returns-in_ok-report-in-StepLimit c =
    let log = log_of c.args.core.now in
    let supports = (state_of c.args.core.now).supports in
    let p = c.args.problem.now in
    let steps = ap (λ (s : SettingsData). s.steps) c.settings.view_is in
    let cut = subst (λ (n : ℕ). IsWalk p log supports n (walk.StepLimit c.in-StepLimit._prefix)) steps
    (subst (λ (w : Walk). IsWalk p log supports c.settings.inside.steps w) c.in-StepLimit.is c.in_ok-path.ensures) in
    let supported = subst (λ (q : ProblemData). HasSupports q log supports) (sym c.requires.problem) (core_supports c.args.core.now c.know_core.ensures) in
    record {
      rejects = c.requires.rejects;
      table = log;
      reported = c.requires.reported;
      within = c.requires.few;
      prefix = c.in-StepLimit._prefix.items;
      state = cut.state;
      term = cut.term;
      reaches =
          either_way c.args.settings.simplify (λ (rules : List Rule). Reaches rules p.sorted.automaton.transitions c.args.settings.steps 0 start c.in-StepLimit._prefix.items cut.state cut.term)
          p.sorted.scheme.rules cut.reaches;
      goes_on = cut.goes_on;
      supports = supports;
      supported = supported;
      canonical = c.requires.canonical;
      need = cut.need;
      whole = cut.path;
      names = cut.names;
      longer = cut.longer;
      rest = cut.rest;
      begins = cut.begins;
      fails = (cut.need, c.namings_end_and_fail.ensures.fails p log supports c.know_sorted_problem.ensures supported cut.need cut.path cut.names);
      tells =
          subst (λ (n : ℕ). IsShown c.args.settings p (Long n c.args.settings.steps) log c.args.removed c.in_ok-report-in-StepLimit.report.items)
          c.len-entries.ensures
          (subst (λ (n : ℕ). IsShown c.args.settings p (Long c.len-entries.result n) log c.args.removed c.in_ok-report-in-StepLimit.report.items) steps c.in_ok-report-in-StepLimit.ensures);
    }
