use Rattle.std.proofs.Common.{◌∙◌, ap, subst, ◌↔◌, IsTrue, [], ◌∷◌, length, length-append, get_or, arith}
use Rattle.std.proofs.lemmas.Option.{slice_get-get_or}
use Rattle.std.proofs.lemmas.List.Elements.{Contains-get_or}
use Rattle.hs_types.specs.Interned.{InternerData, type_of_id}
use Rattle.hs_weak.specs.Sites.{SiteData}
use Rattle.hs_sites.specs.declared.sites.Site.{Site}
use Rattle.hs_sites.specs.Listed.{data_of}
use Rattle.hs_void.specs.Rows.{LacksAt}
use Rattle.hs_void.proofs.AtArguments.{marked_more, marked_all}
use Rattle.hs_void.proofs.arguments.marks_of.Goals as goal

abbrev none : Site
none = record { nonterminal = 0; given = 0; point = 0 }

pub lacks-requires-clause-site : goal.lacks-requires-clause-site
lacks-requires-clause-site c = c.requires.sites (get_or c.args.sites.now c.loop-site.site-index none) (Contains-get_or c.args.sites.now c.loop-site.site-index none c.loop-site-test.true)

pub loop-site-preserved : goal.loop-site-preserved
loop-site-preserved c =
    let I = c.args.types.now in
    let p = c.args.problem.now in
    let table = c.args.table.now in
    let sites = c.args.sites.now in
    let i = c.loop-site.site-index in
    let h = c.loop-site.invariant in
    let x : Site = get_or sites i none in
    let b = c.in_ok-mark.mark in
    let tells = subst (λ (J : InternerData). IsTrue b ↔ LacksAt p J table c.args.parameter (type_of_id J c.args.ty) (data_of x)) h.same c.in_ok-mark.ensures.ok in
    let old = c.loop-site.marks.items in
    record {
      same = c.lacks.ensures.same ∙ h.same;
      long = omega (arith, h.long, ap length c.push_reserved.ensures.items, length-append old (b ∷ []));
      room = omega (arith, c.push_reserved.ensures.capacity, h.room);
      marks = marked_more (λ (s : SiteData). LacksAt p I table c.args.parameter (type_of_id I c.args.ty) s) sites i x (slice_get-get_or sites i none c.loop-site-test.true) b tells old c.push_reserved.new.self.items c.push_reserved.ensures.items h.long h.marks;
    }

pub returns-clause-marks : goal.returns-clause-marks
returns-clause-marks c =
    let I = c.args.types.now in
    marked_all (λ (s : SiteData). LacksAt c.args.problem.now I c.args.table.now c.args.parameter (type_of_id I c.args.ty) s) c.args.sites.now c.loop-site.marks.items c.loop-site.site-index c.loop-site-test.false c.loop-site.invariant.marks
