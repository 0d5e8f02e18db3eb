use Rattle.std.proofs.Common.{◌≡◌, sym, ◌∙◌, ap, subst, length, map}
use Rattle.std.proofs.lemmas.List.{length-map}
use Rattle.std.proofs.lemmas.Result.{IfOk-weaker}
use Rattle.hs_scheme.specs.flow.Points.{PointsData, point_at}
use Rattle.hs_scheme.specs.Problem.{ProblemData}
use Rattle.hs_table.specs.Entries.{Env}
use Rattle.hs_verdict.specs.Premises.{IsSortedProblem}
use Rattle.hs_weak.specs.Void.{sets_for}
use Rattle.hs_types.specs.Interned.{set_of_id, env_of_id}
use Rattle.hs_sites.specs.Listed.{data_of}
use Rattle.hs_void.proofs.Chosen.{blocked_by, void_told_of, sets_long}
use Rattle.hs_void.proofs.blocking.is_blocked.Goals as goal

pub returns-in_err-sets-clause-fits : goal.returns-in_err-sets-clause-fits
returns-in_err-sets-clause-fits c = c.what_fits_stays.ensures c.args.types.now c.sets_of.new.types c.args.voids.now c.sets_of.ensures.grows c.requires.fits

pub least_choices-requires-clause-fits : goal.least_choices-requires-clause-fits
least_choices-requires-clause-fits c = c.what_fits_stays.ensures c.args.types.now c.sets_of.new.types c.args.voids.now c.sets_of.ensures.grows c.requires.fits

pub least_choices-requires-clause-long : goal.least_choices-requires-clause-long
least_choices-requires-clause-long c =
    let b = c.args.voids.now.basis in
    let J = c.sets_of.new.types in
    let E : Env = env_of_id c.args.types.now c.args.env in
    let points : c.problem.inside.points ≡ b.problem.points = ap (λ (q : ProblemData). q.points) (c.problem.view_is ∙ c.problem-problem.ensures) in
    let args_is = c.args_of-args.ensures.args ∙ ap (λ (ps : PointsData). (point_at ps c.args.site.now.point).args) points in
    let own = c.args_of-args.result.now in
    ap length c.as_slice.ensures.value
    ∙ (sym (length-map c.in_ok-sets.sets.items (set_of_id J)) ∙ (ap length c.in_ok-sets.ensures.sets ∙ (sets_long E c.args.site.now.given own ∙ ap length args_is)))

pub returns-clause-ok : goal.returns-clause-ok
returns-clause-ok c =
    let b = c.args.voids.now.basis in
    let I = c.args.types.now in
    let J = c.sets_of.new.types in
    let K = c.least_choices.new.types in
    let s = data_of c.args.site.now in
    let E : Env = env_of_id I c.args.env in
    let sorted = subst (λ (q : ProblemData). IsSortedProblem q) c.problem-problem.ensures c.know_sorted_problem.ensures in
    let points : c.problem.inside.points ≡ b.problem.points = ap (λ (q : ProblemData). q.points) (c.problem.view_is ∙ c.problem-problem.ensures) in
    let args_is = c.args_of-args.ensures.args ∙ ap (λ (ps : PointsData). (point_at ps s.point).args) points in
    let rule_is = c.rule_of.ensures.rule ∙ ap (λ (ps : PointsData). (point_at ps s.point).rule) points in
    let rule = (point_at b.problem.points s.point).rule in
    let sets = c.as_slice.result.now in
    let kept = c.in_ok-kept.kept.items in
    let sets_are = ap (map (set_of_id J)) c.as_slice.ensures.value ∙ (c.in_ok-sets.ensures.sets ∙ ap (sets_for E s.given) args_is) in
    IfOk-weaker c.are_void.result _ _
    (λ void tells. blocked_by b I J K c.sets_of.ensures.grows c.least_choices.ensures.grows sorted s c.requires.site E sets kept sets_are c.in_ok-kept.ensures.least c.in_ok-kept.ensures.ascend void
    (void_told_of b c.least_choices.new.voids.basis c.least_choices.ensures.basis K rule c.rule_of.result rule_is kept c.as_slice-2.result.now c.as_slice-2.ensures.value void tells))
    c.are_void.ensures.ok
