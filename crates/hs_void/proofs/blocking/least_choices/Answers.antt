use Rattle.std.proofs.Common.{◌≡◌, sym, ◌∙◌, ap, subst, ◌<◌, List, length, All}
use Rattle.std.proofs.lemmas.List.Elements.{All-weaker}
use Rattle.std.proofs.lemmas.Option.{slice_get_within}
use Rattle.std.proofs.lemmas.Result.{IfOk-weaker}
use Rattle.hs_scheme.specs.flow.Points.{PointsData, point_at}
use Rattle.hs_scheme.specs.Problem.{ProblemData}
use Rattle.hs_table.specs.Entries.{params_of}
use Rattle.hs_verdict.specs.Premises.{IsSortedProblem}
use Rattle.hs_types.specs.Interned.{InternerData, RowData, IsRow}
use Rattle.hs_types.proofs.Numbers.{set_within}
use Rattle.hs_void.specs.Voids.{Fits}
use Rattle.hs_void.specs.Dropped.{fits_stays}
use Rattle.hs_void.proofs.Chosen.{slots_fit, choices_told}
use Rattle.hs_void.proofs.blocking.least_choices.Goals as goal

pub returns-in_err-first-clause-fits : goal.returns-in_err-first-clause-fits
returns-in_err-first-clause-fits c = fits_stays c.args.voids.now c.args.types.now c.empty_env.new.self c.empty_env.ensures.grows c.requires.fits

pub slots_for-requires-clause-table : goal.slots_for-requires-clause-table
slots_for-requires-clause-table c =
    subst (λ (rows : List RowData). All (IsRow c.empty_env.new.self) rows) (sym c.table.ensures) (fits_stays c.args.voids.now c.args.types.now c.empty_env.new.self c.empty_env.ensures.grows c.requires.fits).rows.in_use

pub slots_for-requires-clause-sets : goal.slots_for-requires-clause-sets
slots_for-requires-clause-sets c =
    let I = c.args.types.now in
    let J = c.empty_env.new.self in
    All-weaker (λ s. s < length I.sets) (λ s. s < length J.sets) (λ s lt. set_within I J c.empty_env.ensures.grows s lt) c.args.sets.now c.requires.sets

pub returns-in_err-slots-clause-fits : goal.returns-in_err-slots-clause-fits
returns-in_err-slots-clause-fits c =
    subst (λ (K : InternerData). Fits K c.args.voids.now) (sym c.slots_for.ensures.same) (fits_stays c.args.voids.now c.args.types.now c.empty_env.new.self c.empty_env.ensures.grows c.requires.fits)

pub least_unions-requires-clause-fits : goal.least_unions-requires-clause-fits
least_unions-requires-clause-fits c =
    subst (λ (K : InternerData). Fits K c.args.voids.now) (sym c.slots_for.ensures.same) (fits_stays c.args.voids.now c.args.types.now c.empty_env.new.self c.empty_env.ensures.grows c.requires.fits)

pub least_unions-requires-clause-first : goal.least_unions-requires-clause-first
least_unions-requires-clause-first c =
    subst (λ (K : InternerData). c.in_ok-first.first < length K.envs) (sym c.slots_for.ensures.same) (slice_get_within c.empty_env.new.self.envs c.in_ok-first.first _ c.in_ok-first.ensures.ok)

pub least_unions-requires-clause-slots : goal.least_unions-requires-clause-slots
least_unions-requires-clause-slots c =
    let b = c.args.voids.now.basis in
    let I = c.args.types.now in
    let J = c.empty_env.new.self in
    let sorted = subst (λ (q : ProblemData). IsSortedProblem q) c.problem-problem.ensures c.know_sorted_problem.ensures in
    let rows = (fits_stays c.args.voids.now I J c.empty_env.ensures.grows c.requires.fits).rows in
    let points : c.problem.inside.points ≡ b.problem.points = ap (λ (q : ProblemData). q.points) (c.problem.view_is ∙ c.problem-problem.ensures) in
    let rule = c.rule_of-rule.result in
    let rule_is = c.rule_of-rule.ensures.rule ∙ ap (λ (ps : PointsData). (point_at ps c.args.point).rule) points in
    let n_is = c.parameters_of.ensures ∙ ap (λ (q : ProblemData). params_of q rule) c.problem-problem.ensures in
    let args_is = c.args_of-args.ensures.args ∙ ap (λ (ps : PointsData). (point_at ps c.args.point).args) points in
    slots_fit b I J c.empty_env.ensures.grows sorted rows c.args.point c.requires.point c.args.sets.now c.requires.sets rule c.parameters_of.result c.in_ok-first.first rule_is n_is c.in_ok-first.ensures.ok c.args_of-args.result.now args_is c.table.result.now c.table.ensures
    c.in_ok-slots.slots.items c.as_slice.result.now c.as_slice.ensures.value c.in_ok-slots.ensures.slots c.slots_for.new.types c.slots_for.ensures.same

pub returns-clause-least : goal.returns-clause-least
returns-clause-least c =
    let b = c.args.voids.now.basis in
    let I = c.args.types.now in
    let J = c.empty_env.new.self in
    let sorted = subst (λ (q : ProblemData). IsSortedProblem q) c.problem-problem.ensures c.know_sorted_problem.ensures in
    let rows = (fits_stays c.args.voids.now I J c.empty_env.ensures.grows c.requires.fits).rows in
    let points : c.problem.inside.points ≡ b.problem.points = ap (λ (q : ProblemData). q.points) (c.problem.view_is ∙ c.problem-problem.ensures) in
    let rule = c.rule_of-rule.result in
    let rule_is = c.rule_of-rule.ensures.rule ∙ ap (λ (ps : PointsData). (point_at ps c.args.point).rule) points in
    let n_is = c.parameters_of.ensures ∙ ap (λ (q : ProblemData). params_of q rule) c.problem-problem.ensures in
    let args_is = c.args_of-args.ensures.args ∙ ap (λ (ps : PointsData). (point_at ps c.args.point).args) points in
    IfOk-weaker c.least_unions.result _ _
    (λ kept least. choices_told b I J c.empty_env.ensures.grows sorted rows c.args.point c.requires.point c.args.sets.now c.requires.sets rule c.parameters_of.result c.in_ok-first.first rule_is n_is c.in_ok-first.ensures.ok c.args_of-args.result.now args_is c.table.result.now c.table.ensures
    c.in_ok-slots.slots.items c.as_slice.result.now c.as_slice.ensures.value c.in_ok-slots.ensures.slots c.slots_for.new.types c.slots_for.ensures.same c.least_unions.new.types kept.items least)
    c.least_unions.ensures.least
