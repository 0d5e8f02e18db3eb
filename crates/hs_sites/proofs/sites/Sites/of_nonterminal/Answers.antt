use Rattle.std.proofs.Common.{◌≡◌, sym, ◌∙◌, subst, ℕ, ◌+◌, ◌≤◌, List, rules}
use Rattle.std.specs.List.Sorted.{IsSorted}
use Rattle.hs_flow_checker.specs.Starts.{IsStartBy}
use Rattle.hs_flow_checker.proofs.StartLemmas.{starts_up}
use Rattle.hs_sites.specs.declared.sites.Site.{Site}
use Rattle.hs_sites.specs.Listed.{AreSites, site_cmp}
use Rattle.hs_sites.proofs.Ordered.{part_of}
use Rattle.hs_sites.proofs.sites.Sites.of_nonterminal.Goals as goal

-- what is known of one slice of the field is known of another
moved : (G n : ℕ) (xs ys zs : List Site) → xs ≡ ys → zs ≡ ys → IsStartBy (λ (s : Site). s.nonterminal) xs G n → IsStartBy (λ (s : Site). s.nonterminal) zs G n
moved G n xs ys zs d e h = subst (λ (ss : List Site). IsStartBy (λ (s : Site). s.nonterminal) ss G n) (d ∙ sym e) h

rises : (G n m : ℕ) (xs ys zs : List Site) → xs ≡ ys → zs ≡ ys → IsStartBy (λ (s : Site). s.nonterminal) xs G n → IsStartBy (λ (s : Site). s.nonterminal) zs (G + 1) m → n ≤ m
rises G n m xs ys zs d e low high = starts_up (λ (s : Site). s.nonterminal) zs G n m (moved G n xs ys zs d e low) high

pub slice_bounds-result-count : goal.slice_bounds-result-count
slice_bounds-result-count c =
    rises c.args.nonterminal c.start_of-from.result c.end_of-to.result c.as_slice.result.now c.self.inside.sites.items c.as_slice-2.result.now c.as_slice.ensures.value c.as_slice-2.ensures.value c.start_of-from.ensures c.end_of-to.ensures

pub slice_bounds-result-start : goal.slice_bounds-result-start
slice_bounds-result-start c =
    let h = rises c.args.nonterminal c.start_of-from.result c.end_of-to.result c.as_slice.result.now c.self.inside.sites.items c.as_slice-2.result.now c.as_slice.ensures.value c.as_slice-2.ensures.value c.start_of-from.ensures c.end_of-to.ensures in
    let high = moved (c.args.nonterminal + 1) c.end_of-to.result c.as_slice-2.result.now c.self.inside.sites.items c.deref.result.now c.as_slice-2.ensures.value c.deref.ensures.value c.end_of-to.ensures in
    let k = high.within in
    search rules

pub returns : goal.returns
returns c = λ p are.
    let G = c.args.nonterminal in
    let sites = c.deref.result.now in
    let low = moved G c.start_of-from.result c.as_slice.result.now c.self.inside.sites.items sites c.as_slice.ensures.value c.deref.ensures.value c.start_of-from.ensures in
    let high = moved (G + 1) c.end_of-to.result c.as_slice-2.result.now c.self.inside.sites.items sites c.as_slice-2.ensures.value c.deref.ensures.value c.end_of-to.ensures in
    let sorted = subst (IsSorted site_cmp) (sym c.deref.ensures.value) c.self.invariant in
    part_of sites sorted G c.start_of-from.result c.end_of-to.result low high p (subst (AreSites p) (sym (c.deref.ensures.value ∙ c.self.view_is)) are)
