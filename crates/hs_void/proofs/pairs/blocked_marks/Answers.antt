use Rattle.std.proofs.Common.{sym, ◌∙◌, ap, subst, ◌<◌, [], ◌∷◌, length, length-append, get_or, arith}
use Rattle.std.proofs.lemmas.Option.{slice_get-get_or}
use Rattle.std.proofs.lemmas.List.Elements.{Contains-get_or}
use Rattle.hs_scheme.specs.Problem.{ProblemData}
use Rattle.hs_table.specs.Entries.{Env}
use Rattle.hs_table_laws.proofs.Places.{within_from}
use Rattle.hs_types.specs.Interned.{env_of_id}
use Rattle.hs_types.proofs.Numbers.{Grows-trans, env_within}
use Rattle.hs_weak.specs.Sites.{SiteData}
use Rattle.hs_weak.specs.Void.{IsBlocked}
use Rattle.hs_sites.specs.declared.sites.Site.{Site}
use Rattle.hs_sites.specs.Listed.{data_of}
use Rattle.hs_void.specs.Voids.{BasisData}
use Rattle.hs_void.proofs.AtArguments.{marked_more, marked_all}
use Rattle.hs_void.proofs.Chosen.{numbered_later, told_later}
use Rattle.hs_void.proofs.pairs.blocked_marks.Goals as goal

abbrev none : Site
none = record { nonterminal = 0; given = 0; point = 0 }

pub is_blocked-requires-clause-site : goal.is_blocked-requires-clause-site
is_blocked-requires-clause-site c =
    let x : Site = get_or c.args.sites.now c.loop-site.site-index none in
    let own = ((c.requires.sites.exact x).0 (Contains-get_or c.args.sites.now c.loop-site.site-index none c.loop-site-test.true)).1 in
    subst (λ (b : BasisData). x.point < length b.problem.points.points) (sym c.loop-site.invariant.basis) (within_from c.args.voids.now.basis.problem.points.points x.point own.0 own.1.at)

pub is_blocked-requires-clause-env : goal.is_blocked-requires-clause-env
is_blocked-requires-clause-env c = env_within c.args.types.now c.loop-site.types c.loop-site.invariant.grows c.args.env c.requires.env

pub loop-site-preserved : goal.loop-site-preserved
loop-site-preserved c =
    let I = c.args.types.now in
    let J = c.loop-site.types in
    let b = c.args.voids.now.basis in
    let sites = c.args.sites.now in
    let i = c.loop-site.site-index in
    let h = c.loop-site.invariant in
    let x : Site = get_or sites i none in
    let mark = c.in_ok-mark.mark in
    let old = c.loop-site.marks.items in
    record {
      grows = Grows-trans I J c.is_blocked.new.types h.grows c.is_blocked.ensures.grows;
      fits = c.is_blocked.ensures.fits;
      basis = c.is_blocked.ensures.basis ∙ h.basis;
      long = omega (arith, h.long, ap length c.push_reserved.ensures.items, length-append old (mark ∷ []));
      room = omega (arith, c.push_reserved.ensures.capacity, h.room);
      marks = λ C V are.
          let tells = told_later b I c.loop-site.voids.basis h.basis J h.grows (λ (p : ProblemData) (E : Env). IsBlocked p C V (data_of x) E) c.args.env c.requires.env mark (c.in_ok-mark.ensures.ok C V (numbered_later b I c.loop-site.voids.basis h.basis J h.grows C V are)) in
          marked_more (λ (s : SiteData). IsBlocked b.problem C V s (env_of_id I c.args.env)) sites i x (slice_get-get_or sites i none c.loop-site-test.true) mark tells old c.push_reserved.new.self.items c.push_reserved.ensures.items h.long (h.marks C V are);
    }

pub returns-in_err-mark-clause-grows : goal.returns-in_err-mark-clause-grows
returns-in_err-mark-clause-grows c = Grows-trans c.args.types.now c.loop-site.types c.is_blocked.new.types c.loop-site.invariant.grows c.is_blocked.ensures.grows

pub returns-in_err-mark-clause-basis : goal.returns-in_err-mark-clause-basis
returns-in_err-mark-clause-basis c = c.is_blocked.ensures.basis ∙ c.loop-site.invariant.basis

pub returns-clause-marks : goal.returns-clause-marks
returns-clause-marks c = λ C V are.
    marked_all (λ (s : SiteData). IsBlocked c.args.voids.now.basis.problem C V s (env_of_id c.args.types.now c.args.env)) c.args.sites.now c.loop-site.marks.items c.loop-site.site-index c.loop-site-test.false (c.loop-site.invariant.marks C V are)
