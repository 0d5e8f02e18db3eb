use Rattle.std.proofs.Common.{◌≡◌, sym, ◌∙◌, ap, subst, ℕ, List}
use Rattle.std.proofs.lemmas.Result.{on_ok_weaker}
use Rattle.hs_scheme.specs.flow.Points.{point_at}
use Rattle.hs_scheme.specs.Problem.{ProblemData}
use Rattle.hs_sites.specs.declared.bases.Base.{Base}
use Rattle.hs_sites.specs.declared.sites.Site.{Site}
use Rattle.hs_sites.specs.Collecting.{AreBases, IsFrom, IsSiteAt}
use Rattle.hs_sites.proofs.Adding.{adds_as}
use Rattle.hs_sites.proofs.Collected.{sites_of_parameter}
use Rattle.hs_sites.proofs.collecting.add_by_parameter.Goals as goal

pub returns-clause-sites : goal.returns-clause-sites
returns-clause-sites c =
    let p = c.args.problem.now in
    let w = c.args.point in
    let known = c.turn_to.new.self in
    let bases = c.bases.result.now in
    let rule : known.rule ≡ (point_at p.points w).rule = c.in_ok-turn_to.ensures.rule ∙ (c.rule_of.ensures.rule ∙ ap (λ (q : ProblemData). (point_at q.points w).rule) c.problem.view_is) in
    let param : known.param ≡ c.args.param = c.in_ok-turn_to.ensures.param in
    let keys : known.bases.keys ≡ bases = sym c.bases.ensures in
    let are : AreBases p (point_at p.points w).rule c.args.param bases = subst (λ (t : ℕ × (ℕ × List Base)). AreBases p t.0 t.1.0 t.1.1) (λ i. (rule i, (param i, keys i))) c.in_ok-turn_to.ensures.bases in
    on_ok_weaker c.add_by_bases.result (adds_as (λ (s : Site). IsFrom bases w s) (IsSiteAt p w) c.args.sites.now.items c.add_by_bases.new.sites.items
    (sites_of_parameter p w c.requires.point c.args.param c.requires.head c.requires.args bases are)) c.add_by_bases.ensures
