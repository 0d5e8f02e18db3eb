use Rattle.std.proofs.Common.{◌≡◌, sym, ◌∙◌, ap, subst, true, false, IsTrue, ◌↔◌, ◌≤◌, length, arith}
use Rattle.std.proofs.lemmas.Result.{IfOk-weaker}
use Rattle.hs_scheme.specs.Problem.{ProblemData}
use Rattle.hs_types.specs.Interned.{env_of_id}
use Rattle.hs_weak.specs.Sites.{SiteData}
use Rattle.hs_weak.specs.Void.{IsBlocked}
use Rattle.hs_sites.specs.Listed.{AreSitesOf}
use Rattle.hs_sites.specs.Walks.{EachChainHas, IsMarked}
use Rattle.hs_void.specs.Voids.{BasisData}
use Rattle.hs_void.proofs.Marked.{no_rule, chains_by}
use Rattle.hs_void.proofs.pairs.has_blocked.Goals as goal

pub returns-in-None-clause-ok : goal.returns-in-None-clause-ok
returns-in-None-clause-ok c = λ C V are.
    let I = c.args.types.now in
    let b = c.args.voids.now.basis in
    let past : length b.problem.sorted.scheme.rules ≤ c.args.pair.rule = omega (arith, c.in-None.ensures, c.requires.fits.sites.rules) in (
      λ no. let f : false ≡ true = no in cc,
      λ each. absurd (no_rule b.problem c.args.pair.rule past (λ (s : SiteData). IsBlocked b.problem C V s (env_of_id I c.args.pair.env)) each),
    )

pub blocked_marks-requires-clause-sites : goal.blocked_marks-requires-clause-sites
blocked_marks-requires-clause-sites c = c.requires.fits.sites.each c.args.pair.rule c.in-Some.sites.now c.in-Some.ensures

pub each_chain_has_marked-requires : goal.each_chain_has_marked-requires
each_chain_has_marked-requires c =
    let is = c.problem.ensures ∙ ap (λ (b : BasisData). b.problem) c.blocked_marks.ensures.basis in
    subst (λ (p : ProblemData). AreSitesOf p c.args.pair.rule c.in-Some.sites.now) (sym is) (c.requires.fits.sites.each c.args.pair.rule c.in-Some.sites.now c.in-Some.ensures)

pub returns-in_ok-marks-in-Some-clause-ok : goal.returns-in_ok-marks-in-Some-clause-ok
returns-in_ok-marks-in-Some-clause-ok c =
    let I = c.args.types.now in
    let b = c.args.voids.now.basis in
    let rule = c.args.pair.rule in
    let sites = c.in-Some.sites.now in
    let is = c.problem.ensures ∙ ap (λ (k : BasisData). k.problem) c.blocked_marks.ensures.basis in
    IfOk-weaker c.each_chain_has_marked.result (λ all. IsTrue all ↔ EachChainHas c.problem.result.now rule (IsMarked rule sites c.as_slice.result.now)) _
    (λ all tells C V are. chains_by b.problem c.problem.result.now is rule sites (c.requires.fits.sites.each rule sites c.in-Some.ensures) (λ (s : SiteData). IsBlocked b.problem C V s (env_of_id I c.args.pair.env)) c.in_ok-marks-in-Some.marks.items c.as_slice.result.now
    (c.in_ok-marks-in-Some.ensures.marks C V are) c.as_slice.ensures.value all tells)
    c.each_chain_has_marked.ensures
