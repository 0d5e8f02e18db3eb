use Rattle.std.proofs.Common.{◌≡◌, sym, ◌∙◌, ap, subst, ◌+◌, Bool, List, Vec, Global, length, get_or}
use Rattle.std.proofs.lemmas.Option.{slice_get-get_or}
use Rattle.std.proofs.lemmas.List.Elements.{Contains-get_or}
use Rattle.hs_sites.specs.declared.sites.Site.{Site}
use Rattle.hs_sites.specs.Reaching.{IsOn, IsWalk}
use Rattle.hs_sites.proofs.Walking.{walk_past, walk_on}
use Rattle.hs_sites.proofs.walks.walk.Goals as goal
use Rattle.hs_sites.proofs.walks.walk.Goals.{then-not-is_marked, else-not-is_marked}

abbrev none : Site
none = record { nonterminal = 0; given = 0; point = 0 }

pub go_on-requires : goal.go_on-requires
go_on-requires c = c.requires (get_or c.args.sites.now c.loop-place.place none) (Contains-get_or c.args.sites.now c.loop-place.place none c.loop-place-test.true)

pub loop-place-preserved : goal.loop-place-preserved
loop-place-preserved c =
    let p = c.args.problem.now in
    let sites = c.args.sites.now in
    let marks = c.args.marks.now in
    let k = c.loop-place.place in
    let old = c.loop-place.reached.items in
    let x : Site = get_or sites k none in
    let at = slice_get-get_or sites k none c.loop-place-test.true in
    elim c.if-not-is_marked.branch [
      | then-not-is_marked w ↦
          let new : c.if-not-is_marked.reached.items ≡ w.go_on.new.reached.items = ap (λ (v : Vec Bool Global). v.items) w.reached-is in
          let off : IsOn marks k → ⊥ = λ on. let yes = c.is_marked.ensures.1 on in let no = w.if-not-is_marked.true in absurd (cc) in
          record {
            len = ap length new ∙ (w.go_on.ensures.len ∙ c.loop-place.invariant.len);
            kept = λ g on. subst (λ (xs : List Bool). IsOn xs g) (sym new) (w.go_on.ensures.kept g (c.loop-place.invariant.kept g on));
            walk = λ G are start. subst (IsWalk p G sites marks (k + 1)) (sym new) (walk_on p G sites are marks k x at old (c.loop-place.invariant.walk G are start) w.go_on.new.reached.items off w.go_on.ensures);
          }
      | else-not-is_marked w ↦
          let same : c.if-not-is_marked.reached.items ≡ old = ap (λ (v : Vec Bool Global). v.items) w.reached-is in
          record {
            len = ap length same ∙ c.loop-place.invariant.len;
            kept = λ g on. subst (λ (xs : List Bool). IsOn xs g) (sym same) (c.loop-place.invariant.kept g on);
            walk = λ G are start. subst (IsWalk p G sites marks (k + 1)) (sym same) (walk_past p G sites are marks k x at old (c.loop-place.invariant.walk G are start) (c.is_marked.ensures.0 w.if-not-is_marked.false));
          }
    ]
