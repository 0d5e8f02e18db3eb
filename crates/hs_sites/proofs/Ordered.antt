-- Sites in order, and those of one nonterminal among them.
use Rattle.std.proofs.Common.{◌≡◌, sym, ◌∙◌, ℕ, ◌+◌, ◌-◌, ◌<◌, ◌≤◌, true, false, ltb, leb, List, length, get_or, take, drop, arith, Contains, ◌↔◌}
use Rattle.std.specs.Cmp.{IsTotalOrder}
use Rattle.std.specs.Ordering.{is_lt}
use Rattle.std.specs.List.Sorted.{IsSorted, IsNonDecreasingBy, IsPartitionPoint}
use Rattle.std.proofs.lemmas.Bool.{ltb-true, ltb-false, leb-true, leb-false}
use Rattle.std.proofs.lemmas.Bool.Decides.{nat_tests}
use Rattle.std.proofs.lemmas.Cmp.{then_total, on_total, nat_cmp_total}
use Rattle.std.proofs.lemmas.List.{get_or-take, get_or-drop, length-drop, length-take}
use Rattle.std.proofs.lemmas.List.Elements.{Contains-get_or}
use Rattle.std.proofs.lemmas.List.Sorted.{sorted_far, ranks_by}
use Rattle.hs_scheme.specs.Problem.{ProblemData}
use Rattle.hs_flow_checker.specs.Starts.{IsStartBy}
use Rattle.hs_flow_checker.proofs.StartLemmas.{between_starts}
use Rattle.hs_sites.specs.declared.sites.Site.{Site}
use Rattle.hs_sites.specs.Listed.{AreSites, AreSitesOf, site_cmp}

site_cmp_total : IsTotalOrder site_cmp
site_cmp_total = then_total (on_total (λ (s : Site). s.nonterminal) nat_cmp_total) (then_total (on_total (λ (s : Site). s.given) nat_cmp_total) (on_total (λ (s : Site). s.point) nat_cmp_total))

nonterminal_up : (a b : Site) → is_lt (site_cmp b a) ≡ false → a.nonterminal ≤ b.nonterminal
nonterminal_up a b h = grind (arith, nat_tests)

given_up : (a b : Site) → a.nonterminal ≡ b.nonterminal → is_lt (site_cmp b a) ≡ false → a.given ≤ b.given
given_up a b e h = grind (arith, nat_tests)

module _ (sites : List Site) (sorted : IsSorted site_cmp sites) where
  in_order : (i j : ℕ) (d : Site) → i ≤ j → j < length sites → is_lt (site_cmp (get_or sites j d) (get_or sites i d)) ≡ false
  in_order = sorted_far (λ a b. is_lt (site_cmp a b)) (ranks_by site_cmp_total (λ a. a)) sites sorted

  pub nonterminals_rise : IsNonDecreasingBy (λ (s : Site). s.nonterminal) sites
  nonterminals_rise = λ i j d le lt. nonterminal_up (get_or sites i d) (get_or sites j d) (in_order i j d le lt)

  -- the part between two starts
  module _ (G n m : ℕ) (low : IsStartBy (λ (s : Site). s.nonterminal) sites G n) (high : IsStartBy (λ (s : Site). s.nonterminal) sites (G + 1) m) where
    abbrev part : List Site
    part = take (m - n) (drop n sites)

    part_has : (s : Site) → Contains part s ↔ (Contains sites s × (s.nonterminal ≡ G))
    part_has = between_starts (λ (s : Site). s.nonterminal) sites G n m low high

    read : (i : ℕ) (d : Site) → i < length part → get_or part i d ≡ get_or sites (n + i) d
    read i d lt = get_or-take (m - n) (drop n sites) i d (omega (arith, lt, length-take (m - n) (drop n sites))) ∙ get_or-drop n sites i d

    own : (i : ℕ) (d : Site) → i < length part → (get_or part i d).nonterminal ≡ G
    own i d lt = ((part_has (get_or part i d)).0 (Contains-get_or part i d lt)).1

    rising : IsNonDecreasingBy (λ (s : Site). s.given) part
    rising i j d le lt =
        let first : i < length part = omega (arith, le, lt) in
        let within : n + j < length sites = omega (arith, lt, length-take (m - n) (drop n sites), length-drop n sites) in
        let up = in_order (n + i) (n + j) d (omega (arith, le)) within in
        let same : is_lt (site_cmp (get_or part j d) (get_or part i d)) ≡ false = (λ k. is_lt (site_cmp (read j d lt k) (read i d first k))) ∙ up in
        given_up (get_or part i d) (get_or part j d) (own i d first ∙ sym (own j d lt)) same

    pub part_of : (p : ProblemData) → AreSites p sites → AreSitesOf p G part
    part_of p are = record {
      exact = λ s. (
        λ m. let both = (part_has s).0 m in (both.1, (are s).0 both.0),
        λ both. (part_has s).1 ((are s).1 both.1, both.0),
      );
      ascending = rising;
    }

-- where a search by the order parts a list
pub start_below : (sites : List Site) (G n : ℕ) → n ≤ length sites → IsPartitionPoint (λ (s : Site). ltb s.nonterminal G ≡ true) (λ (s : Site). ltb s.nonterminal G ≡ false) sites n → IsStartBy (λ (s : Site). s.nonterminal) sites G n
start_below sites G n within point = record {
  within = within;
  before = λ k d lt. ltb-true (get_or sites k d).nonterminal G (point.0 k d (omega arith) lt);
  behind = λ k d le lt. ltb-false (get_or sites k d).nonterminal G (point.1 k d le lt);
}

pub start_behind : (sites : List Site) (G n : ℕ) → n ≤ length sites → IsPartitionPoint (λ (s : Site). leb s.nonterminal G ≡ true) (λ (s : Site). leb s.nonterminal G ≡ false) sites n → IsStartBy (λ (s : Site). s.nonterminal) sites (G + 1) n
start_behind sites G n within point = record {
  within = within;
  before = λ k d lt. let le = leb-true (get_or sites k d).nonterminal G (point.0 k d (omega arith) lt) in omega (arith, le);
  behind = λ k d le lt. let above = leb-false (get_or sites k d).nonterminal G (point.1 k d le lt) in omega (arith, above);
}
