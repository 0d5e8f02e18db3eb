-- A scheme has one sorted form at most, and this one problem.
use Rattle.std.proofs.Common.{◌≡◌, sym, ◌∙◌, ap, subst, ℕ, ◌+◌, ◌<◌, ◌≤◌, List, [], ◌∷◌, length, map, length-append, slice_get, unwrap_or, Contains, inl, inr, arith}
use Rattle.std.proofs.lemmas.Option.{unwrap_or-slice_get}
use Rattle.std.proofs.lemmas.List.{ext_get_or, length-map}
use Rattle.std.proofs.lemmas.List.Elements.{Contains-append_left, Contains-append_right, Contains-append_cases}
use Rattle.hs_flow.proofs.TableLemmas.{mapped}
use Rattle.hs_scheme.specs.declared.flow.FlowPair.{FlowPair}
use Rattle.hs_scheme.specs.declared.flow.HeadPair.{HeadPair}
use Rattle.hs_scheme.specs.declared.flow.Pair.{Pair}
use Rattle.hs_scheme.specs.declared.flow.Pair.TheVariants.{OfFlow, OfHead}
use Rattle.hs_scheme.specs.declared.term.Rule.{Rule}
use Rattle.hs_scheme.specs.Names.{NamesData}
use Rattle.hs_scheme.specs.flow.Points.{PointsData, points_of}
use Rattle.hs_scheme.specs.sorting.Sorting.{SortTree, o, ranked, arguments, AreEqual}
use Rattle.hs_scheme.specs.sorting.Unsorted.{UnsortedData}
use Rattle.hs_scheme.specs.sorting.Sorted.{SortedData, sorts_of}
use Rattle.hs_scheme.specs.sorting.Lengthening.{lengthening}
use Rattle.hs_scheme.specs.flow.Flow.{FlowData, pairs_of, IsFlow, IsFlowTable, flow_cmp, head_cmp}
use Rattle.hs_scheme.specs.Problem.{ProblemData}
use Rattle.hs_scheme.proofs.DemandLemmas.{flow_unique, fewer, same_flow, same_head, no_head}
use Rattle.hs_scheme.proofs.FlowLemmas.{flow_cmp-equal, head_cmp-equal, flow_cmp_total, head_cmp_total}
use Rattle.hs_scheme.proofs.Sortings.{least_unique, length-ranked, length-lengthening}
use Rattle.hs_scheme.proofs.Lists.{none_in, here, later, uncons}
use Rattle.hs_sorts.specs.Naming.{lengthened_names}
use Rattle.hs_table_laws.proofs.Sets.{ascending_same}
use Rattle.hs_front.specs.Problems.{IsSortedFormOf, IsProblemOf, HasManyPoints, HasMuchFlow}

same_rank : (m n : ℕ) → ranked m ≡ ranked n → m ≡ n
same_rank m n e = sym (length-ranked m) ∙ (ap (λ (k : SortTree). length (arguments k)) e ∙ length-ranked n)

module _ (u : UnsortedData) (s t : SortedData) (is : IsSortedFormOf u s) (other : IsSortedFormOf u t) where
  equal : AreEqual u.rules u.ranks (sorts_of s.sorts s.scheme.ranks) (sorts_of t.sorts t.scheme.ranks)
  equal = least_unique u.rules u.ranks (sorts_of s.sorts s.scheme.ranks) (sorts_of t.sorts t.scheme.ranks) is.inferred.least other.inferred.least

  as_many : (r : SortedData) → IsSortedFormOf u r → length r.sorts ≡ length u.rules
  as_many r ir = ir.is_sorted.each_rule ∙ (ap (λ (rules : List Rule). length rules) ir.inferred.rules ∙ length-lengthening u.rules r.sorts)

  ranks_many : (r : SortedData) → IsSortedFormOf u r → length r.scheme.ranks ≡ length u.ranks
  ranks_many r ir =
      sym ir.is_sorted.names.each_terminal ∙ (ap (λ (n : NamesData). length n.terminals) ir.inferred.names ∙ ir.unsorted.names.each_terminal)

  same_sorts : s.sorts ≡ t.sorts
  same_sorts =
      ext_get_or o s.sorts t.sorts (as_many s is ∙ sym (as_many t other))
      (λ f below.
      sym (unwrap_or-slice_get s.sorts f o) ∙ (equal.nonterminals f (omega (arith, below, as_many s is)) ∙ unwrap_or-slice_get t.sorts f o))

  same_ranks : s.scheme.ranks ≡ t.scheme.ranks
  same_ranks =
      ext_get_or 0 s.scheme.ranks t.scheme.ranks (ranks_many s is ∙ sym (ranks_many t other))
      (λ a below.
      sym (unwrap_or-slice_get s.scheme.ranks a 0)
      ∙ (same_rank (unwrap_or (slice_get s.scheme.ranks a) 0) (unwrap_or (slice_get t.scheme.ranks a) 0) (equal.terminals a (omega (arith, below, ranks_many s is)))
      ∙ unwrap_or-slice_get t.scheme.ranks a 0))

  same_rules : s.scheme.rules ≡ t.scheme.rules
  same_rules = is.inferred.rules ∙ (ap (lengthening u.rules) same_sorts ∙ sym other.inferred.rules)

  same_names : s.names ≡ t.names
  same_names = is.inferred.names ∙ (ap (lengthened_names u.names) same_sorts ∙ sym other.inferred.names)

  pub one_form : s ≡ t
  one_form =
      let rules = same_rules in
      let ranks = same_ranks in
      let automaton : s.automaton ≡ t.automaton = is.inferred.automaton ∙ sym other.inferred.automaton in
      let names = same_names in
      let sorts = same_sorts in
      λ i. record { scheme = record { rules = rules i; ranks = ranks i }; automaton = automaton i; names = names i; sorts = sorts i }

-- ---- flow pairs and head pairs in one list

unwrapped : {X : Type 0} (wrap : X → Pair) (same : (x y : X) → wrap x ≡ wrap y → x ≡ y) (xs : List X) (x : X) → Contains (map wrap xs) (wrap x) → Contains xs x
unwrapped wrap same [] x h = absurd (none_in (wrap x) h)
unwrapped wrap same (y ∷ xs) x h = elim (uncons (wrap y) (wrap x) (map wrap xs) h) [
  | inl e ↦ subst (λ z. Contains (z ∷ xs) x) (same x y e) (here x xs)
  | inr there ↦ later y x xs (unwrapped wrap same xs x there)
]

none_wrapped : {X : Type 0} (wrap : X → Pair) (q : Pair) (other : (x : X) → q ≡ wrap x → ⊥) (xs : List X) → Contains (map wrap xs) q → ⊥
none_wrapped wrap q other [] h = none_in q h
none_wrapped wrap q other (x ∷ xs) h = elim (uncons (wrap x) q (map wrap xs) h) [
  | inl e ↦ other x e
  | inr there ↦ none_wrapped wrap q other xs there
]

no_flow : (h : HeadPair) (f : FlowPair) → OfHead h ≡ OfFlow f → ⊥
no_flow h f e = (cc)

module _ (flows : List FlowPair) (heads : List HeadPair) where
  abbrev as_flows : List Pair
  as_flows = map (λ (f : FlowPair). OfFlow f) flows

  abbrev as_heads : List Pair
  as_heads = map (λ (h : HeadPair). OfHead h) heads

  flow_there : (f : FlowPair) → Contains flows f → Contains (pairs_of flows heads) (OfFlow f)
  flow_there f h = Contains-append_left as_flows as_heads (OfFlow f) (mapped (λ (g : FlowPair). OfFlow g) flows f h)

  flow_back : (f : FlowPair) → Contains (pairs_of flows heads) (OfFlow f) → Contains flows f
  flow_back f h = elim (Contains-append_cases as_flows as_heads (OfFlow f) h) [
    | inl own ↦ unwrapped (λ (g : FlowPair). OfFlow g) same_flow flows f own
    | inr other ↦ absurd (none_wrapped (λ (g : HeadPair). OfHead g) (OfFlow f) (no_head f) heads other)
  ]

  head_there : (h : HeadPair) → Contains heads h → Contains (pairs_of flows heads) (OfHead h)
  head_there h c = Contains-append_right as_flows as_heads (OfHead h) (mapped (λ (g : HeadPair). OfHead g) heads h c)

  head_back : (h : HeadPair) → Contains (pairs_of flows heads) (OfHead h) → Contains heads h
  head_back h c = elim (Contains-append_cases as_flows as_heads (OfHead h) c) [
    | inl other ↦ absurd (none_wrapped (λ (g : FlowPair). OfFlow g) (OfHead h) (no_flow h) flows other)
    | inr own ↦ unwrapped (λ (g : HeadPair). OfHead g) same_head heads h own
  ]

module _ (rules : List Rule) (a b : FlowData) (of_a : IsFlow rules a.pairs a.heads) (of_b : IsFlow rules b.pairs b.heads) where
  there : (q : Pair) → Contains (pairs_of a.pairs a.heads) q → Contains (pairs_of b.pairs b.heads) q
  there q h = flow_unique rules a.pairs b.pairs a.heads b.heads of_a of_b q h

  back : (q : Pair) → Contains (pairs_of b.pairs b.heads) q → Contains (pairs_of a.pairs a.heads) q
  back q h = flow_unique rules b.pairs a.pairs b.heads a.heads of_b of_a q h

  one_flow : IsFlowTable a → IsFlowTable b → a ≡ b
  one_flow up_a up_b =
      let pairs : a.pairs ≡ b.pairs =
      ascending_same flow_cmp flow_cmp_total flow_cmp-equal a.pairs b.pairs up_a.pairs up_b.pairs
      (λ f. (
        (λ h. flow_back b.pairs b.heads f (there (OfFlow f) (flow_there a.pairs a.heads f h))),
        (λ h. flow_back a.pairs a.heads f (back (OfFlow f) (flow_there b.pairs b.heads f h))),
      )) in
      let heads : a.heads ≡ b.heads =
      ascending_same head_cmp head_cmp_total head_cmp-equal a.heads b.heads up_a.heads up_b.heads
      (λ f. (
        (λ h. head_back b.pairs b.heads f (there (OfHead f) (head_there a.pairs a.heads f h))),
        (λ h. head_back a.pairs a.heads f (back (OfHead f) (head_there b.pairs b.heads f h))),
      )) in
      λ i. record { pairs = pairs i; heads = heads i }

pub problem_is : (s t : SortedData) (p q : ProblemData) → s ≡ t → IsProblemOf s p → IsProblemOf t q → p ≡ q
problem_is s t p q forms is other =
    let sorted : p.sorted ≡ q.sorted = is.same ∙ (forms ∙ sym other.same) in
    let points : p.points ≡ q.points = is.points ∙ (ap (λ (x : SortedData). points_of x.scheme.rules) forms ∙ sym other.points) in
    let flow : p.flow ≡ q.flow =
    one_flow t.scheme.rules p.flow q.flow (subst (λ (x : SortedData). IsFlow x.scheme.rules p.flow.pairs p.flow.heads) forms is.flow) other.flow is.ascending other.ascending in
    λ i. record { sorted = sorted i; points = points i; flow = flow i }

-- ---- a problem keeps the limits

many_pairs : (flows : List FlowPair) (heads : List HeadPair) → length (pairs_of flows heads) ≡ length flows + length heads
many_pairs flows heads =
    let fs : List Pair = map (λ (f : FlowPair). OfFlow f) flows in
    let hs : List Pair = map (λ (h : HeadPair). OfHead h) heads in
    omega (arith, length-append fs hs, length-map flows (λ (f : FlowPair). OfFlow f), length-map heads (λ (h : HeadPair). OfHead h))

-- of a scheme with as many points there is no problem
pub few_points : (s : SortedData) (p : ProblemData) → IsProblemOf s p → HasManyPoints s → ⊥
few_points s p is many = omega (arith, subst (λ (d : PointsData). 500000 < length d.points) (sym is.points) many, is.few_points)

pub little_flow : (s : SortedData) (p : ProblemData) → IsProblemOf s p → HasMuchFlow s → ⊥
little_flow s p is h =
    let within : length h.order ≤ length (pairs_of p.flow.pairs p.flow.heads) =
    fewer s.scheme.rules h.order (pairs_of p.flow.pairs p.flow.heads) h.supported is.flow.closed in
    omega (arith, within, many_pairs p.flow.pairs p.flow.heads, h.many, is.few_pairs)

pub one_limit : (s : SortedData) → HasManyPoints s → HasMuchFlow s → ⊥
one_limit s many much = omega (arith, many, much.few)
