-- The sites at a point, by its head, and those of all points.
use Rattle.std.proofs.Common.{◌≡◌, refl, sym, ◌∙◌, ap, subst, ℕ, ◌<◌, ◌&&◌, nat_eq, filter, List, [], ◌∷◌, ◌++◌, ◌+◌, length, slice_get, Some, arith, Contains, inl, inr, ◌↔◌}
use Rattle.std.specs.List.Sorted.{IsPermutation}
use Rattle.std.proofs.lemmas.Bool.{cases_lt}
use Rattle.std.proofs.lemmas.Option.{slice_get-get_or, same_Some}
use Rattle.std.proofs.lemmas.List.Elements.{Contains-append_left, Contains-push}
use Rattle.std.proofs.lemmas.List.Sorted.{Contains-permutation, IsPermutation-sym}
use Rattle.hs_scheme.specs.declared.term.Head.{Head}
use Rattle.hs_scheme.specs.declared.term.Head.TheVariants.{Var, Nt, Tm}
use Rattle.hs_scheme.specs.declared.flow.FlowPair.{FlowPair}
use Rattle.hs_scheme.specs.declared.flow.HeadPair.{HeadPair}
use Rattle.hs_scheme.specs.flow.Points.{PointData, point_at}
use Rattle.hs_scheme.specs.flow.Flow.{IsBase, pairs_of}
use Rattle.hs_scheme.specs.Problem.{ProblemData}
use Rattle.hs_table_laws.proofs.Places.{within_from}
use Rattle.hs_table_laws.proofs.Members.{pushed_cases}
use Rattle.hs_flow_checker.proofs.Parts.{nothing_in}
use Rattle.hs_flow_checker.proofs.GapLemmas.{leads_base}
use Rattle.hs_sites.specs.declared.sites.Site.{Site}
use Rattle.hs_sites.specs.declared.bases.Base.{Base}
use Rattle.hs_sites.specs.declared.collecting.CollectingOrder.{CollectingOrder}
use Rattle.hs_sites.specs.Listed.{AreSites}
use Rattle.hs_sites.specs.Collecting.{AddsTo, AreBases, IsFrom, IsSiteAt, AreOrders}
use Rattle.hs_sites.proofs.Adding.{ByAny}

abbrev IsHeadBase : ProblemData → PointData → Site → Type 0
IsHeadBase p of s = IsBase (pairs_of p.flow.pairs p.flow.heads) of.rule of.head s.nonterminal s.given

module _ (p : ProblemData) (point : ℕ) (lt : point < length p.points.points) where
  there : slice_get p.points.points point ≡ Some (point_at p.points point)
  there = slice_get-get_or p.points.points point (record { rule = 0; head = Tm 0; args = [] }) lt

  site_made : (s : Site) → s.point ≡ point → IsHeadBase p (point_at p.points point) s → 0 < length (point_at p.points point).args → IsSiteAt p point s
  site_made s is base some = (is, (point_at p.points point, record { at = ap (λ n. slice_get p.points.points n) is ∙ there; base = base; some = some }))

  site_of : (s : Site) → IsSiteAt p point s → IsHeadBase p (point_at p.points point) s × (0 < length (point_at p.points point).args)
  site_of s (is, (of, site)) =
      let same : of ≡ point_at p.points point = same_Some of (point_at p.points point) (sym site.at ∙ (ap (λ n. slice_get p.points.points n) is ∙ there)) in
      (subst (λ (d : PointData). IsHeadBase p d s) same site.base, subst (λ (d : PointData). 0 < length d.args) same site.some)

  pub no_site_alone : length (point_at p.points point).args ≡ 0 → (s : Site) → IsSiteAt p point s → ⊥
  no_site_alone none s at = let both = site_of s at in omega (arith, none, both.1)

  module _ (head : Head) (is_head : head ≡ (point_at p.points point).head) where
    pub no_site_of_terminal : (a : ℕ) → head ≡ Tm a → (s : Site) → IsSiteAt p point s → ⊥
    no_site_of_terminal a e s at = subst (λ (h : Head). IsBase (pairs_of p.flow.pairs p.flow.heads) (point_at p.points point).rule h s.nonterminal s.given) (sym is_head ∙ e) (site_of s at).0

    pub site_of_nonterminal : (f : ℕ) → head ≡ Nt f → 0 < length (point_at p.points point).args → (s : Site) → IsSiteAt p point s ↔ (s ≡ record { nonterminal = f; given = 0; point = point })
    site_of_nonterminal f e some s = (
      λ at.
          let both = subst (λ (h : Head). IsBase (pairs_of p.flow.pairs p.flow.heads) (point_at p.points point).rule h s.nonterminal s.given) (sym is_head ∙ e) (site_of s at).0 in
          λ i. record { nonterminal = both.0 i; given = both.1 i; point = at.0 i },
      λ same.
          let both : IsBase (pairs_of p.flow.pairs p.flow.heads) (point_at p.points point).rule (Nt f) s.nonterminal s.given = (ap (λ (t : Site). t.nonterminal) same, ap (λ (t : Site). t.given) same) in
          site_made s (ap (λ (t : Site). t.point) same) (subst (λ (h : Head). IsBase (pairs_of p.flow.pairs p.flow.heads) (point_at p.points point).rule h s.nonterminal s.given) (sym e ∙ is_head) both) some,
    )

  pub sites_of_parameter : (x : ℕ) → (point_at p.points point).head ≡ Var x → 0 < length (point_at p.points point).args → (bases : List Base) → AreBases p (point_at p.points point).rule x bases
      → (s : Site) → IsFrom bases point s ↔ IsSiteAt p point s
  sites_of_parameter x e some bases are s = (
    λ from.
        let b = from.0 in
        let by = (are b).0 from.1.0 in
        let own = subst (λ (t : Site). IsBase (pairs_of p.flow.pairs p.flow.heads) (point_at p.points point).rule (Var x) t.nonterminal t.given) (sym from.1.1) by in
        site_made s (ap (λ (t : Site). t.point) from.1.1) (subst (λ (h : Head). IsBase (pairs_of p.flow.pairs p.flow.heads) (point_at p.points point).rule h s.nonterminal s.given) (sym e) own) some,
    λ at.
        let own = subst (λ (h : Head). IsBase (pairs_of p.flow.pairs p.flow.heads) (point_at p.points point).rule h s.nonterminal s.given) e (site_of s at).0 in
        let b : Base = record { nonterminal = s.nonterminal; given = s.given } in
        (b, ((are b).1 own, λ i. record { nonterminal = s.nonterminal; given = s.given; point = at.0 i })),
  )

-- those of all points
pub all_sites : (p : ProblemData) (orders : List CollectingOrder) (old new : List Site) → length old ≡ 0 → AreOrders p orders → AddsTo (ByAny orders (λ (t : CollectingOrder) (s : Site). IsSiteAt p t.point s)) old new → AreSites p new
all_sites p orders old new none are adds s = (
  λ m. elim ((adds s).0 m) [ inl before ↦ absurd (nothing_in old s none before) | inr by ↦ by.1.1.1 ],
  λ own. let order = are.all s.point (within_from p.points.points s.point own.0 own.1.at) in (adds s).1 (inr (order.0, (order.1.0, (sym order.1.1, own)))),
)

-- the point of the flow pair may become it
abbrev pub IsBaseBy : List HeadPair → FlowPair → Base → Type 0
IsBaseBy heads f b = Contains heads (record { point = f.point; rule = b.nonterminal; given = b.given })

-- by the head pairs of one point
pub of_point : (heads own : List HeadPair) (f : FlowPair) → ((h : HeadPair) → Contains own h ↔ (Contains heads h × (h.point ≡ f.point)))
    → (b : Base) → ByAny own (λ (h : HeadPair) (c : Base). c ≡ record { nonterminal = h.rule; given = h.given }) b ↔ IsBaseBy heads f b
of_point heads own f has b = (
  λ by.
      let h = by.0 in
      let both = (has h).0 by.1.0 in
      let e = by.1.1 in
      let same : h ≡ record { point = f.point; rule = b.nonterminal; given = b.given } = λ i. record { point = both.1 i; rule = ap (λ (c : Base). c.nonterminal) (sym e) i; given = ap (λ (c : Base). c.given) (sym e) i } in
      subst (λ (x : HeadPair). Contains heads x) same both.0,
  λ becomes. (record { point = f.point; rule = b.nonterminal; given = b.given }, ((has (record { point = f.point; rule = b.nonterminal; given = b.given })).1 (becomes, refl), refl)),
)

-- by all flow pairs of the parameter
pub of_parameter : (p : ProblemData) (rule x : ℕ) (row : List FlowPair) (old new : List Base) → row ≡ filter (λ f. nat_eq f.rule rule && nat_eq f.param x) p.flow.pairs → length old ≡ 0
    → AddsTo (ByAny row (λ (f : FlowPair) (b : Base). IsBaseBy p.flow.heads f b)) old new → AreBases p rule x new
of_parameter p rule x row old new is none adds b =
    let leads = leads_base rule x p.flow.pairs p.flow.heads (record { rule = b.nonterminal; given = b.given }) in (
      λ m. elim ((adds b).0 m) [
        | inl before ↦ absurd (nothing_in old b none before)
        | inr by ↦ leads.0 (record { pair = by.0; there = subst (λ (fs : List FlowPair). Contains fs by.0) is by.1.0; becomes = by.1.1 })
      ],
      λ base. let l = leads.1 base in (adds b).1 (inr (l.pair, (subst (λ (fs : List FlowPair). Contains fs l.pair) (sym is) l.there, l.becomes))),
    )

-- ---- the orders

pub orders_more : (orders new : List CollectingOrder) (n : ℕ) (t : CollectingOrder) → new ≡ orders ++ t ∷ [] → t.point ≡ n → ((u : CollectingOrder) → Contains orders u → u.point < n) → (u : CollectingOrder) → Contains new u → u.point < n + 1
orders_more orders new n t is own below u m = elim (pushed_cases orders t u (subst (λ (ts : List CollectingOrder). Contains ts u) is m)) [
  | inl was ↦ let lt = below u was in omega (arith, lt)
  | inr last ↦ omega (arith, own, ap (λ (v : CollectingOrder). v.point) last)
]

pub orders_all : (orders new : List CollectingOrder) (n : ℕ) (t : CollectingOrder) → new ≡ orders ++ t ∷ [] → t.point ≡ n → ((k : ℕ) → k < n → (u : CollectingOrder) × (Contains orders u × (u.point ≡ k))) → (k : ℕ) → k < n + 1 → (u : CollectingOrder) × (Contains new u × (u.point ≡ k))
orders_all orders new n t is own all k lt = elim (cases_lt k n) [
  | inl before ↦ let u = all k before in (u.0, (subst (λ (ts : List CollectingOrder). Contains ts u.0) (sym is) (Contains-append_left orders (t ∷ []) u.0 u.1.0), u.1.1))
  | inr after ↦ (t, (subst (λ (ts : List CollectingOrder). Contains ts t) (sym is) (Contains-push orders t), omega (arith, own, lt, after)))
]

pub orders_moved : (p : ProblemData) (old new : List CollectingOrder) → IsPermutation old new → AreOrders p old → AreOrders p new
orders_moved p old new moved are = record {
  points = λ t m. are.points t (Contains-permutation new old t (IsPermutation-sym old new moved) m);
  all = λ point lt. let t = are.all point lt in (t.0, (Contains-permutation old new t.0 moved t.1.0, t.1.1));
}
