-- What points demand, pair by pair.
use Rattle.std.proofs.Common.{◌≡◌, refl, sym, ◌∙◌, ap, subst, ℕ, ◌+◌, ◌<◌, ◌≤◌, Bool, ◌&&◌, nat_eq, filter, take, List, [], ◌∷◌, length, map, get_or, slice_get, Option, Some, None, MatchOption, arith, inl, inr, Contains, ◌↔◌, ◌⊎◌}
use Rattle.std.proofs.Math.Nat.{eq-or-lt_of_le}
use Rattle.std.proofs.lemmas.List.Elements.{Contains-append_left, Contains-append_right, Contains-append_cases, Contains-get_or}
use Rattle.std.proofs.lemmas.Bool.{eqb-true, eq-eqb, and_parts, and_from}
use Rattle.std.proofs.lemmas.Option.{slice_get-get_or, same_Some}
use Rattle.hs_scheme.specs.declared.flow.FlowPair.{FlowPair}
use Rattle.hs_scheme.specs.declared.flow.HeadPair.{HeadPair}
use Rattle.hs_scheme.specs.declared.flow.Pair.{Pair}
use Rattle.hs_scheme.specs.declared.flow.Pair.TheVariants.{OfFlow, OfHead}
use Rattle.hs_scheme.specs.flow.Flow.{pairs_of, HasParameter, IsBase}
use Rattle.hs_scheme.specs.Problem.{ProblemData}
use Rattle.hs_scheme.specs.declared.term.Head.TheVariants.{Var, Nt, Tm}
use Rattle.hs_scheme.specs.declared.term.Head.{Head}
use Rattle.hs_scheme.specs.flow.Points.{PointData, PointsData, point_at, points_of}
use Rattle.hs_scheme.proofs.Lists.{none_in, here, uncons, filter_keeps, filter_has, filter_passes}
use Rattle.hs_table_laws.proofs.Places.{within_from}
use Rattle.hs_table_laws.proofs.Members.{from_map, into_map}
use Rattle.hs_flow_checker.specs.declared.passing.Base.{Base}
use Rattle.hs_flow_checker.specs.declared.gaps.Kind.{Kind}
use Rattle.hs_flow_checker.specs.declared.gaps.Kind.TheVariants.{Flow, Heads}
use Rattle.hs_flow_checker.specs.Gaps.{held, IsDemanded, IsOfKind, HoldsAll, Lacks, IsFirstLacking}
use Rattle.hs_flow_checker.specs.PassedOn.{base_of, PassesArgument, PassesFlow, PassesHead, PassesBy, HoldsBy, LacksBy, DemandsAt}
use Rattle.hs_flow_checker.proofs.Parts.{next_item}

-- membership in the list of both kinds
pub flow_held : (flows : List FlowPair) (heads : List HeadPair) (f : FlowPair) → Contains (pairs_of flows heads) (OfFlow f) ↔ Contains flows f
flow_held flows heads f = (
  λ c. elim (Contains-append_cases (map (λ f. OfFlow f) flows) (map (λ h. OfHead h) heads) (OfFlow f) c) [
    | inl l ↦ let s = from_map (λ (f : FlowPair). OfFlow f) flows (OfFlow f) l in
        let is = s.is in
        let same : f ≡ s.item = cc in
        subst (λ (g : FlowPair). Contains flows g) (sym same) s.there
    | inr r ↦ let s = from_map (λ (h : HeadPair). OfHead h) heads (OfFlow f) r in
        let is = s.is in
        absurd (cc)
  ],
  λ c. Contains-append_left (map (λ f. OfFlow f) flows) (map (λ h. OfHead h) heads) (OfFlow f) (into_map (λ (f : FlowPair). OfFlow f) flows f c),
)

pub head_held : (flows : List FlowPair) (heads : List HeadPair) (h : HeadPair) → Contains (pairs_of flows heads) (OfHead h) ↔ Contains heads h
head_held flows heads h = (
  λ c. elim (Contains-append_cases (map (λ f. OfFlow f) flows) (map (λ h. OfHead h) heads) (OfHead h) c) [
    | inl l ↦ let s = from_map (λ (f : FlowPair). OfFlow f) flows (OfHead h) l in
        let is = s.is in
        absurd (cc)
    | inr r ↦ let s = from_map (λ (h : HeadPair). OfHead h) heads (OfHead h) r in
        let is = s.is in
        let same : h ≡ s.item = cc in
        subst (λ (g : HeadPair). Contains heads g) (sym same) s.there
  ],
  λ c. Contains-append_right (map (λ f. OfFlow f) flows) (map (λ h. OfHead h) heads) (OfHead h) (into_map (λ (h : HeadPair). OfHead h) heads h c),
)

-- a row has the pairs of its parameter
pub row_has : (rule x : ℕ) (pairs : List FlowPair) (f : FlowPair) → Contains (filter (λ f. nat_eq f.rule rule && nat_eq f.param x) pairs) f ↔ (Contains pairs f × ((f.rule ≡ rule) × (f.param ≡ x)))
row_has rule x pairs f = (
  λ c.
      let m : FlowPair → Bool = λ f. nat_eq f.rule rule && nat_eq f.param x in
      let parts = and_parts (nat_eq f.rule rule) (nat_eq f.param x) (filter_passes m pairs f c) in
      (filter_has m pairs f c, (eqb-true f.rule rule parts.0, eqb-true f.param x parts.1)),
  λ h.
      let m : FlowPair → Bool = λ f. nat_eq f.rule rule && nat_eq f.param x in
      filter_keeps m pairs f (and_from (nat_eq f.rule rule) (nat_eq f.param x) (eq-eqb f.rule rule h.1.0) (eq-eqb f.param x h.1.1)) h.0,
)

-- a parameter's pairs lead to its bases
pub record Leads (pairs : List FlowPair) (heads : List HeadPair) (b : Base) : Type 0 where
  pub pair : FlowPair
  pub there : Contains pairs pair
  pub becomes : Contains heads (record { point = pair.point; rule = b.rule; given = b.given })

pub leads_of : (items : List FlowPair) (heads : List HeadPair) (b : Base) (k : ℕ) (d : FlowPair) → k < length items → Contains heads (record { point = (get_or items k d).point; rule = b.rule; given = b.given }) → Leads items heads b
leads_of items heads b k d lt becomes = record { pair = get_or items k d; there = Contains-get_or items k d lt; becomes = becomes }

-- more pairs lead to no less
pub leads_on : (items row : List FlowPair) (heads : List HeadPair) (b : Base) → ((f : FlowPair) → Contains items f → Contains row f) → Leads items heads b → Leads row heads b
leads_on items row heads b part l = record { pair = l.pair; there = part l.pair l.there; becomes = l.becomes }

pub leads_more : (items : List FlowPair) (heads : List HeadPair) (k : ℕ) (d : FlowPair) (b : Base) → k < length items → Leads (take (k + 1) items) heads b
    → Leads (take k items) heads b ⊎ Contains heads (record { point = (get_or items k d).point; rule = b.rule; given = b.given })
leads_more items heads k d b lt l =
    elim (next_item items k d l.pair lt l.there) [
      | inl t ↦ inl (record { pair = l.pair; there = t; becomes = l.becomes })
      | inr same ↦ inr (subst (λ (f : FlowPair). Contains heads (record { point = f.point; rule = b.rule; given = b.given })) same l.becomes)
    ]

pub leads_base : (rule x : ℕ) (pairs : List FlowPair) (heads : List HeadPair) (b : Base) → Leads (filter (λ f. nat_eq f.rule rule && nat_eq f.param x) pairs) heads b ↔ IsBase (pairs_of pairs heads) rule (Var x) b.rule b.given
leads_base rule x pairs heads b = (
  λ l.
      let m : FlowPair → Bool = λ f. nat_eq f.rule rule && nat_eq f.param x in
      let parts = and_parts (nat_eq l.pair.rule rule) (nat_eq l.pair.param x) (filter_passes m pairs l.pair l.there) in
      let same : l.pair ≡ record { rule = rule; param = x; point = l.pair.point } = λ i. record { rule = eqb-true l.pair.rule rule parts.0 i; param = eqb-true l.pair.param x parts.1 i; point = l.pair.point } in (
        l.pair.point,
        (
          (flow_held pairs heads (record { rule = rule; param = x; point = l.pair.point })).1 (subst (λ (f : FlowPair). Contains pairs f) same (filter_has m pairs l.pair l.there)),
          (head_held pairs heads (record { point = l.pair.point; rule = b.rule; given = b.given })).1 l.becomes,
        ),
      ),
  λ h.
      let m : FlowPair → Bool = λ f. nat_eq f.rule rule && nat_eq f.param x in
      let f : FlowPair = record { rule = rule; param = x; point = h.0 } in
      record {
        pair = f;
        there = filter_keeps m pairs f (and_from (nat_eq rule rule) (nat_eq x x) (eq-eqb rule rule refl) (eq-eqb x x refl)) ((flow_held pairs heads f).0 h.1.0);
        becomes = (head_held pairs heads (record { point = h.0; rule = b.rule; given = b.given })).0 h.1.1;
      },
)

-- what the first n arguments demand by the bases is held
abbrev pub HoldsArguments : ProblemData → List HeadPair → List ℕ → ℕ → Type 0
HoldsArguments p bases args n = (h : HeadPair) → Contains bases h → (i u : ℕ) → i < n → slice_get args i ≡ Some u → HasParameter p.sorted.scheme.rules h.rule (h.given + i)
    → Contains p.flow.pairs (record { rule = h.rule; param = h.given + i; point = u })

pub next_argument : (p : ProblemData) (bases : List HeadPair) (args : List ℕ) (n u : ℕ) → slice_get args n ≡ Some u → HoldsArguments p bases args n
    → ((h : HeadPair) → Contains bases h → (f : FlowPair) → PassesArgument p (base_of h) n u f → Contains p.flow.pairs f) → HoldsArguments p bases args (n + 1)
next_argument p bases args n u at before own h there i v lt is has = elim (let le : i ≤ n = omega (arith, lt) in eq-or-lt_of_le le) [
  | inr below ↦ before h there i v below is has
  | inl same ↦
      let same_point : u ≡ v = same_Some u v (sym at ∙ (ap (λ k. slice_get args k) (sym same) ∙ is)) in
      let f : FlowPair = record { rule = h.rule; param = h.given + n; point = u } in
      let g : FlowPair = record { rule = h.rule; param = h.given + i; point = v } in
      let e : f ≡ g = λ j. record { rule = h.rule; param = h.given + (sym same) j; point = same_point j } in
      subst (λ (x : FlowPair). Contains p.flow.pairs x) e (own h there f (refl, subst (λ k. HasParameter p.sorted.scheme.rules h.rule (h.given + k)) same has))
]

pub all_arguments : (p : ProblemData) (bases : List HeadPair) (args : List ℕ) → HoldsArguments p bases args (length args)
    → (h : HeadPair) → Contains bases h → (f : FlowPair) → PassesFlow p args (base_of h) f → Contains p.flow.pairs f
all_arguments p bases args all h there f passes =
    let i = passes.0 in
    let e : record { rule = h.rule; param = h.given + i; point = f.point } ≡ f = λ j. record { rule = (sym passes.1.1) j; param = (sym passes.1.2) j; point = f.point } in
    subst (λ (x : FlowPair). Contains p.flow.pairs x) e (all h there i f.point (within_from args i f.point passes.1.0) passes.1.0 passes.1.3)

pub argument_passes : (p : ProblemData) (args : List ℕ) (b : Base) (n u : ℕ) (f : FlowPair) → slice_get args n ≡ Some u → PassesArgument p b n u f → PassesFlow p args b f
argument_passes p args b n u f at passes =
    (n, (at ∙ ap (λ (x : FlowPair). Some x.point) (sym passes.0), ap (λ (x : FlowPair). x.rule) passes.0, ap (λ (x : FlowPair). x.param) passes.0, passes.1))

pub after_none : (p : ProblemData) (point : ℕ) (args : List ℕ) (b : Base) (kind : Kind) → kind ≡ Flow → ((f : FlowPair) → PassesFlow p args b f → Contains p.flow.pairs f)
    → (pair : Pair) → IsOfKind kind pair → PassesBy p point args b pair → Contains (held p) pair
after_none p point args b kind is all (OfFlow f) of passes = (flow_held p.flow.pairs p.flow.heads f).1 (all f passes)
after_none p point args b kind is all (OfHead h) of passes = absurd (subst (λ k. IsOfKind k (OfHead h)) is of)

pub after_no_head : (p : ProblemData) (point : ℕ) (args : List ℕ) (b : Base) (kind : Kind) → kind ≡ Heads → ((h : HeadPair) → PassesHead p point args b h → Contains p.flow.heads h)
    → (pair : Pair) → IsOfKind kind pair → PassesBy p point args b pair → Contains (held p) pair
after_no_head p point args b kind is all (OfFlow f) of passes = absurd (subst (λ k. IsOfKind k (OfFlow f)) is of)
after_no_head p point args b kind is all (OfHead h) of passes = (head_held p.flow.pairs p.flow.heads h).1 (all h passes)

pub after_flow : (p : ProblemData) (point : ℕ) (args : List ℕ) (b : Base) (kind : Kind) (f : FlowPair) → kind ≡ Flow → PassesFlow p args b f × (Contains p.flow.pairs f → ⊥)
    → IsOfKind kind (OfFlow f) × (PassesBy p point args b (OfFlow f) × (Contains (held p) (OfFlow f) → ⊥))
after_flow p point args b kind f is both = (subst (λ k. IsOfKind k (OfFlow f)) (sym is) tt, (both.0, λ c. both.1 ((flow_held p.flow.pairs p.flow.heads f).0 c)))

pub after_head : (p : ProblemData) (point : ℕ) (args : List ℕ) (b : Base) (kind : Kind) (h : HeadPair) → kind ≡ Heads → PassesHead p point args b h × (Contains p.flow.heads h → ⊥)
    → IsOfKind kind (OfHead h) × (PassesBy p point args b (OfHead h) × (Contains (held p) (OfHead h) → ⊥))
after_head p point args b kind h is both = (subst (λ k. IsOfKind k (OfHead h)) (sym is) tt, (both.0, λ c. both.1 ((head_held p.flow.pairs p.flow.heads h).0 c)))

-- by the head pairs of a point, and by one alone
pub gap_at_point : (p : ProblemData) (kind : Kind) (point : ℕ) (args : List ℕ) (heads bases : List HeadPair) (from : ℕ) (o : Option Pair)
    → ((h : HeadPair) → Contains bases h ↔ (Contains heads h × (h.point ≡ from)))
    → MatchOption o ((h : HeadPair) → Contains bases h → HoldsBy p kind point args (base_of h)) (λ pair. (h : HeadPair) × (Contains bases h × LacksBy p kind point args (base_of h) pair))
    → MatchOption o ((b : Base) → Contains heads (record { point = from; rule = b.rule; given = b.given }) → HoldsBy p kind point args b)
    (λ pair. (b : Base) × (Contains heads (record { point = from; rule = b.rule; given = b.given }) × LacksBy p kind point args b pair))
gap_at_point p kind point args heads bases from None has h = λ b there. h (record { point = from; rule = b.rule; given = b.given }) ((has (record { point = from; rule = b.rule; given = b.given })).1 (there, refl))
gap_at_point p kind point args heads bases from (Some pair) has h =
    let x = h.0 in
    let both = (has x).0 h.1.0 in
    (base_of x, (subst (λ (n : ℕ). Contains heads (record { point = n; rule = x.rule; given = x.given })) both.1 both.0, h.1.1))

pub gap_by_one : (p : ProblemData) (kind : Kind) (point : ℕ) (args : List ℕ) (own : HeadPair) (o : Option Pair)
    → MatchOption o ((h : HeadPair) → Contains (own ∷ []) h → HoldsBy p kind point args (base_of h)) (λ pair. (h : HeadPair) × (Contains (own ∷ []) h × LacksBy p kind point args (base_of h) pair))
    → MatchOption o (HoldsBy p kind point args (base_of own)) (LacksBy p kind point args (base_of own))
gap_by_one p kind point args own None h = h own (here own [])
gap_by_one p kind point args own (Some pair) h = elim (uncons own h.0 [] h.1.0) [
  | inl same ↦ subst (λ (x : HeadPair). LacksBy p kind point args (base_of x) pair) same h.1.1
  | inr none ↦ absurd (none_in h.0 none)
]

-- a nonterminal may become itself, without arguments, and nothing else
pub gap_at_rule : (p : ProblemData) (point rule : ℕ) (head : Head) (args : List ℕ) (kind : Kind) (f : ℕ) (o : Option Pair) → head ≡ Nt f
    → MatchOption o (HoldsBy p kind point args (record { rule = f; given = 0 })) (LacksBy p kind point args (record { rule = f; given = 0 }))
    → MatchOption o ((b : Base) → IsBase (held p) rule head b.rule b.given → HoldsBy p kind point args b) (λ pair. (b : Base) × (IsBase (held p) rule head b.rule b.given × LacksBy p kind point args b pair))
gap_at_rule p point rule head args kind f None is h = λ b base.
    let own = subst (λ (x : Head). IsBase (held p) rule x b.rule b.given) is base in
    let same : record { rule = f; given = 0 } ≡ b = λ i. record { rule = (sym own.0) i; given = (sym own.1) i } in
    subst (λ (x : Base). HoldsBy p kind point args x) same h
gap_at_rule p point rule head args kind f (Some pair) is h =
    let b : Base = record { rule = f; given = 0 } in
    (b, (subst (λ (x : Head). IsBase (held p) rule x f 0) (sym is) (refl, refl), h))

-- what a point demands, from the parts of it
module _ (p : ProblemData) (point rule : ℕ) (head : Head) (args : List ℕ) (lt : point < length p.points.points)
    (rule_is : rule ≡ (point_at p.points point).rule) (head_is : head ≡ (point_at p.points point).head) (args_is : args ≡ (point_at p.points point).args) where
  there : slice_get p.points.points point ≡ Some (point_at p.points point)
  there = slice_get-get_or p.points.points point (record { rule = 0; head = Tm 0; args = [] }) lt

  pub demand_made : (b : Base) (pair : Pair) → IsBase (held p) rule head b.rule b.given → PassesBy p point args b pair → DemandsAt p point pair
  demand_made b pair base passes = record {
    of = point_at p.points point;
    by = b;
    at = there;
    is_base = subst (λ h. IsBase (held p) (point_at p.points point).rule h b.rule b.given) head_is (subst (λ r. IsBase (held p) r head b.rule b.given) rule_is base);
    passes = subst (λ (us : List ℕ). PassesBy p point us b pair) args_is passes;
  }

  pub demand_by : (pair : Pair) → DemandsAt p point pair → (b : Base) × (IsBase (held p) rule head b.rule b.given × PassesBy p point args b pair)
  demand_by pair d =
      let same : d.of ≡ point_at p.points point = same_Some d.of (point_at p.points point) (sym d.at ∙ there) in
      let b = d.by in (
        b,
        (
          subst (λ r. IsBase (held p) r head b.rule b.given) (ap (λ (q : PointData). q.rule) same ∙ sym rule_is) (subst (λ h. IsBase (held p) d.of.rule h b.rule b.given) (ap (λ (q : PointData). q.head) same ∙ sym head_is) d.is_base),
          subst (λ (us : List ℕ). PassesBy p point us b pair) (ap (λ (q : PointData). q.args) same ∙ sym args_is) d.passes,
        ),
      )

  pub gap_by_demands : (kind : Kind) (o : Option Pair)
      → MatchOption o ((b : Base) → IsBase (held p) rule head b.rule b.given → HoldsBy p kind point args b) (λ pair. (b : Base) × (IsBase (held p) rule head b.rule b.given × LacksBy p kind point args b pair))
      → MatchOption o ((pair : Pair) → IsOfKind kind pair → DemandsAt p point pair → Contains (held p) pair) (λ pair. IsOfKind kind pair × (DemandsAt p point pair × (Contains (held p) pair → ⊥)))
  gap_by_demands kind None h = λ pair of d. let by = demand_by pair d in h by.0 by.1.0 pair of by.1.1
  gap_by_demands kind (Some pair) h = let l = h.1.1 in (l.0, (demand_made h.0 pair h.1.0 l.1.0, l.1.1))

-- demands at some point are demands
pub at_some_point : (p : ProblemData) (pair : Pair) → p.points ≡ points_of p.sorted.scheme.rules → IsDemanded p pair → (point : ℕ) × ((point < length p.points.points) × DemandsAt p point pair)
at_some_point p pair are d =
    let at : slice_get p.points.points d.point ≡ Some d.of = ap (λ (x : PointsData). slice_get x.points d.point) are ∙ d.at in
    (d.point, (within_from p.points.points d.point d.of at, record { of = d.of; by = record { rule = d.base; given = d.given }; at = at; is_base = d.is_base; passes = d.passes }))

-- where no flow pair is lacking, the first head pair that is lacking is the first of all
pub first_lacking : (p : ProblemData) (found o : Option Pair) → ((pair : Pair) → found ≡ Some pair → ⊥) → MatchOption found (HoldsAll p Flow) (λ pair. IsOfKind Flow pair × Lacks p pair)
    → MatchOption o (HoldsAll p Heads) (λ pair. IsOfKind Heads pair × Lacks p pair) → MatchOption o (HoldsAll p Flow × HoldsAll p Heads) (IsFirstLacking p)
first_lacking p None None not_some flows heads = (flows, heads)
first_lacking p None (Some (OfFlow f)) not_some flows heads = absurd heads.0
first_lacking p None (Some (OfHead h)) not_some flows heads = (flows, heads.1)
first_lacking p (Some pair) o not_some flows heads = absurd (not_some pair refl)
