-- The pairs taken, by their points, and what parameters may become by them.
use Rattle.std.proofs.Common.{◌≡◌, refl, sym, ◌∙◌, ap, subst, ℕ, ◌+◌, ◌^◌, ◌<◌, ◌≤◌, Bool, true, false, nat_eq, List, [], ◌∷◌, ◌++◌, length, get_or, take, slice_get, Some, None, Option, ◌⊎◌, inl, inr, Contains, ◌↔◌, cond, All, arith, length-append}
use Rattle.std.specs.Prelude.{IfSome, IfNone}
use Rattle.std.proofs.lemmas.Bool.{eqb-true, eq-eqb, cases_lt}
use Rattle.std.proofs.lemmas.Option.{slice_get-get_or}
use Rattle.std.proofs.lemmas.List.{take_more, take_all, take-append-le, get_or_default, get_or_append_left}
use Rattle.std.proofs.lemmas.List.Elements.{Contains-append_left, Contains-append_right, Contains-append_cases}
use Rattle.hs_scheme.specs.declared.term.Rule.{Rule}
use Rattle.hs_scheme.specs.declared.flow.FlowPair.{FlowPair}
use Rattle.hs_scheme.specs.declared.flow.HeadPair.{HeadPair}
use Rattle.hs_scheme.specs.declared.flow.Pair.{Pair}
use Rattle.hs_scheme.specs.declared.flow.Pair.TheVariants.{OfFlow, OfHead}
use Rattle.hs_scheme.specs.flow.Points.{points_of}
use Rattle.hs_scheme.specs.flow.Flow.{IsClosed, IsSupported}
use Rattle.hs_scheme.proofs.Lists.{slice_get-read, read-slice_get, none_in, only, here as first_in}
use Rattle.hs_scheme.proofs.DemandLemmas.{same_flow, same_head, no_head}
use Rattle.hs_flow.specs.declared.bases.Base.{Base}
use Rattle.hs_flow.specs.Lists.{list_of, IsPushed}
use Rattle.hs_flow.specs.Users.{IsUser}
use Rattle.hs_flow.specs.Passing.{PassedAtFirst, MayBecome}
use Rattle.hs_flow.specs.Pairs.{PairsData, HasBaseAt, AreNone, IsReady, FindsOnly, Extends}
use Rattle.hs_flow.specs.Analysis.{point_of, IsByPoint, HasBases, IsAnalysis}
use Rattle.hs_flow.proofs.PassingLemmas.{demand_cases}
use Rattle.hs_flow.proofs.SupportLemmas.{in_take, point_within}

-- the lists with one more item, and those of the other kind
module _ {X : Type 0} (wrap : X → Pair) (inj : (x y : X) → wrap x ≡ wrap y → x ≡ y) (point : X → ℕ) (taken : List Pair) (was : ℕ → List X) (so_far : (u : ℕ) (x : X) → Contains (was u) x ↔ ((point x ≡ u) × Contains taken (wrap x))) where
  abbrev grown : Bool → ℕ → X → List X
  grown b u x = cond b (was u ++ x ∷ []) (was u)

  list_only : (new : X) (u : ℕ) (x : X) (b : Bool) → nat_eq u (point new) ≡ b → Contains (grown b u new) x → (point x ≡ u) × Contains (taken ++ wrap new ∷ []) (wrap x)
  list_only new u x true here h = elim (Contains-append_cases (was u) (new ∷ []) x h) [
    | inl old ↦ let w = (so_far u x).0 old in (w.0, Contains-append_left taken (wrap new ∷ []) (wrap x) w.1)
    | inr last ↦
        let same : x ≡ new = only new x last in
        (ap point same ∙ sym (eqb-true u (point new) here), subst (λ (y : X). Contains (taken ++ wrap new ∷ []) (wrap y)) (sym same) (Contains-append_right taken (wrap new ∷ []) (wrap new) (first_in (wrap new) [])))
  ]
  list_only new u x false elsewhere h = let w = (so_far u x).0 h in (w.0, Contains-append_left taken (wrap new ∷ []) (wrap x) w.1)

  list_all : (new : X) (u : ℕ) (x : X) (b : Bool) → nat_eq u (point new) ≡ b → point x ≡ u → Contains (taken ++ wrap new ∷ []) (wrap x) → Contains (grown b u new) x
  list_all new u x b here same h = elim (Contains-append_cases taken (wrap new ∷ []) (wrap x) h) [
    | inl old ↦ old_stays b ((so_far u x).1 (same, old))
    | inr last ↦
        let is : x ≡ new = inj x new (only (wrap new) (wrap x) last) in
        let yes : b ≡ true = sym here ∙ eq-eqb u (point new) (sym same ∙ ap point is) in
        subst (λ t. Contains (grown t u new) x) (sym yes) (subst (λ (y : X). Contains (was u ++ new ∷ []) y) (sym is) (Contains-append_right (was u) (new ∷ []) new (first_in new [])))
  ]
    where
      old_stays : (t : Bool) → Contains (was u) x → Contains (grown t u new) x
      old_stays true k = Contains-append_left (was u) (new ∷ []) x k
      old_stays false k = k

  list_more : (now : ℕ → List X) (new : X) → ((u : ℕ) → now u ≡ grown (nat_eq u (point new)) u new) → (u : ℕ) (x : X) → Contains (now u) x ↔ ((point x ≡ u) × Contains (taken ++ wrap new ∷ []) (wrap x))
  list_more now new is u x = (
    λ h. list_only new u x (nat_eq u (point new)) refl (subst (λ (xs : List X). Contains xs x) (is u) h),
    λ h. subst (λ (xs : List X). Contains xs x) (sym (is u)) (list_all new u x (nat_eq u (point new)) refl h.0 h.1),
  )

  list_same : (other : Pair) → ((x : X) → wrap x ≡ other → ⊥) → (u : ℕ) (x : X) → Contains (was u) x ↔ ((point x ≡ u) × Contains (taken ++ other ∷ []) (wrap x))
  list_same other never u x = (
    λ h. let w = (so_far u x).0 h in (w.0, Contains-append_left taken (other ∷ []) (wrap x) w.1),
    λ h. elim (Contains-append_cases taken (other ∷ []) (wrap x) h.1) [ inl old ↦ (so_far u x).1 (h.0, old) | inr last ↦ absurd (never x (only other (wrap x) last)) ],
  )

-- before any pair is taken
pub by_point_none : (rules : List Rule) (flows : List (List FlowPair)) (heads : List (List HeadPair)) → ((u : ℕ) → list_of flows u ≡ []) → ((u : ℕ) → list_of heads u ≡ []) → IsByPoint rules [] flows heads
by_point_none rules flows heads no_flows no_heads = record {
  flows = λ u f h. absurd (none_in f (subst (λ (fs : List FlowPair). Contains fs f) (no_flows u) h));
  used = λ f p h k. absurd (none_in (OfFlow f) h);
  heads = λ u k. (λ h. absurd (none_in k (subst (λ (ks : List HeadPair). Contains ks k) (no_heads u) h)), λ h. absurd (none_in (OfHead k) h.1));
}

module _ (rules : List Rule) (taken : List Pair) (flows : List (List FlowPair)) (heads : List (List HeadPair)) (is : IsByPoint rules taken flows heads) where
  module _ (f : FlowPair) where
    later_heads : (u : ℕ) (h : HeadPair) → Contains (list_of heads u) h ↔ ((h.point ≡ u) × Contains (taken ++ OfFlow f ∷ []) (OfHead h))
    later_heads = list_same (λ h. OfHead h) same_head (λ h. h.point) taken (list_of heads) is.heads (OfFlow f) (λ h e. no_head f h (sym e))

    earlier : (g : FlowPair) → Contains (taken ++ OfFlow f ∷ []) (OfFlow g) → Contains taken (OfFlow g) ⊎ (g ≡ f)
    earlier g h = elim (Contains-append_cases taken (OfFlow f ∷ []) (OfFlow g) h) [ inl old ↦ inl old | inr last ↦ inr (same_flow g f (only (OfFlow f) (OfFlow g) last)) ]

    -- the parameter is at no head
    pub flow_unused : ((p : ℕ) → IsUser (points_of rules).points f.rule f.param p → ⊥) → IsByPoint rules (taken ++ OfFlow f ∷ []) flows heads
    flow_unused nobody = record {
      flows = λ u g h. let w = is.flows u g h in (w.0, Contains-append_left taken (OfFlow f ∷ []) (OfFlow g) w.1);
      used = λ g p h k. elim (earlier g h) [
        | inl old ↦ is.used g p old k
        | inr same ↦ absurd (nobody p (subst (λ (e : FlowPair). IsUser (points_of rules).points e.rule e.param p) same k))
      ];
      heads = later_heads;
    }

    -- the pair goes into the list of its point
    module _ (new : List (List FlowPair)) (pushed : IsPushed f.point f flows new) where
      list_from : (u : ℕ) (g : FlowPair) (b : Bool) → nat_eq u f.point ≡ b → Contains (cond b (list_of flows u ++ f ∷ []) (list_of flows u)) g → (g.point ≡ u) × Contains (taken ++ OfFlow f ∷ []) (OfFlow g)
      list_from u g true here h = elim (Contains-append_cases (list_of flows u) (f ∷ []) g h) [
        | inl old ↦ let w = is.flows u g old in (w.0, Contains-append_left taken (OfFlow f ∷ []) (OfFlow g) w.1)
        | inr last ↦
            let same : g ≡ f = only f g last in (
              ap (λ (e : FlowPair). e.point) same ∙ sym (eqb-true u f.point here),
              subst (λ (e : FlowPair). Contains (taken ++ OfFlow f ∷ []) (OfFlow e)) (sym same) (Contains-append_right taken (OfFlow f ∷ []) (OfFlow f) (first_in (OfFlow f) [])),
            )
      ]
      list_from u g false elsewhere h = let w = is.flows u g h in (w.0, Contains-append_left taken (OfFlow f ∷ []) (OfFlow g) w.1)

      list_kept : (u : ℕ) (g : FlowPair) (b : Bool) → Contains (list_of flows u) g → Contains (cond b (list_of flows u ++ f ∷ []) (list_of flows u)) g
      list_kept u g true h = Contains-append_left (list_of flows u) (f ∷ []) g h
      list_kept u g false h = h

      list_own : Contains (list_of new f.point) f
      list_own = subst (λ (fs : List FlowPair). Contains fs f) (sym (pushed.each f.point ∙ ap (λ b. cond b (list_of flows f.point ++ f ∷ []) (list_of flows f.point)) (eq-eqb f.point f.point refl)))
          (Contains-append_right (list_of flows f.point) (f ∷ []) f (first_in f []))

      pub flow_taken : IsByPoint rules (taken ++ OfFlow f ∷ []) new heads
      flow_taken = record {
        flows = λ u g h. list_from u g (nat_eq u f.point) refl (subst (λ (fs : List FlowPair). Contains fs g) (pushed.each u) h);
        used = λ g p h k. elim (earlier g h) [
          | inl old ↦ subst (λ (fs : List FlowPair). Contains fs g) (sym (pushed.each g.point)) (list_kept g.point g (nat_eq g.point f.point) (is.used g p old k))
          | inr same ↦ subst (λ (e : FlowPair). Contains (list_of new e.point) e) (sym same) list_own
        ];
        heads = later_heads;
      }

  pub head_taken : (h : HeadPair) (new : List (List HeadPair)) → IsPushed h.point h heads new → IsByPoint rules (taken ++ OfHead h ∷ []) flows new
  head_taken h new pushed = record {
    flows = λ u f k. let w = is.flows u f k in (w.0, Contains-append_left taken (OfHead h ∷ []) (OfFlow f) w.1);
    used = λ f p k user. elim (Contains-append_cases taken (OfHead h ∷ []) (OfFlow f) k) [ inl old ↦ is.used f p old user | inr other ↦ absurd (no_head f h (only (OfHead h) (OfFlow f) other)) ];
    heads = list_more (λ k. OfHead k) same_head (λ k. k.point) taken (list_of heads) is.heads (list_of new) h pushed.each;
  }

  -- what parameters may become by one more pair
  module _ (Known : Base → Type 0) (before : (c : Base) (p : ℕ) → MayBecome taken c → IsUser (points_of rules).points c.rule c.param p → Known c) where
    pub flow_bases : (f : FlowPair) → ((h : HeadPair) (p : ℕ) → Contains (list_of heads f.point) h → IsUser (points_of rules).points f.rule f.param p → Known (record { rule = f.rule; param = f.param; base = h.rule; given = h.given }))
        → (c : Base) (p : ℕ) → MayBecome (taken ++ OfFlow f ∷ []) c → IsUser (points_of rules).points c.rule c.param p → Known c
    flow_bases f now c p may user = elim (Contains-append_cases taken (OfFlow f ∷ []) _ may.head) [
      | inr other ↦ absurd (no_head f _ (sym (only (OfFlow f) _ other)))
      | inl old_head ↦ elim (Contains-append_cases taken (OfFlow f ∷ []) _ may.flow) [
        | inl old_flow ↦ before c p (record { point = may.point; flow = old_flow; head = old_head }) user
        | inr last ↦
            let same : record { rule = c.rule; param = c.param; point = may.point } ≡ f = same_flow _ f (only (OfFlow f) _ last) in
            let rule : c.rule ≡ f.rule = ap (λ (g : FlowPair). g.rule) same in
            let param : c.param ≡ f.param = ap (λ (g : FlowPair). g.param) same in
            let there : Contains (list_of heads f.point) (record { point = may.point; rule = c.base; given = c.given }) = (is.heads f.point _).1 (ap (λ (g : FlowPair). g.point) same, old_head) in
            subst Known (λ i. record { rule = sym rule i; param = sym param i; base = c.base; given = c.given })
            (now _ p there (subst (λ (g : FlowPair). IsUser (points_of rules).points g.rule g.param p) same user))
      ]
    ]

    pub head_bases : (h : HeadPair) → ((f : FlowPair) → Contains (list_of flows h.point) f → Known (record { rule = f.rule; param = f.param; base = h.rule; given = h.given }))
        → (c : Base) (p : ℕ) → MayBecome (taken ++ OfHead h ∷ []) c → IsUser (points_of rules).points c.rule c.param p → Known c
    head_bases h now c p may user = elim (Contains-append_cases taken (OfHead h ∷ []) _ may.flow) [
      | inr other ↦ absurd (no_head _ h (only (OfHead h) _ other))
      | inl old_flow ↦ elim (Contains-append_cases taken (OfHead h ∷ []) _ may.head) [
        | inl old_head ↦ before c p (record { point = may.point; flow = old_flow; head = old_head }) user
        | inr last ↦
            let same : record { point = may.point; rule = c.base; given = c.given } ≡ h = same_head _ h (only (OfHead h) _ last) in
            let there : Contains (list_of flows h.point) (record { rule = c.rule; param = c.param; point = may.point }) =
            subst (λ u. Contains (list_of flows u) (record { rule = c.rule; param = c.param; point = may.point })) (ap (λ (k : HeadPair). k.point) same) (is.used _ p old_flow user) in
            subst (λ (k : HeadPair). Known (record { rule = c.rule; param = c.param; base = k.rule; given = k.given })) (sym same) (now _ there)
      ]
    ]

-- further pairs are found
pub extended : (a b : PairsData) (n : ℕ) (flows : List (List FlowPair)) (heads : List (List HeadPair)) → Extends a b → IsAnalysis flows heads (record { pairs = a; taken = n }) → IsAnalysis flows heads (record { pairs = b; taken = n })
extended a b n flows heads e is = subst (λ (x : PairsData). IsAnalysis flows heads (record { pairs = x; taken = n })) (sym e.is) (record {
  few = omega (arith, is.few, length-append a.found e.added);
  max_fits = is.max_fits;
  flows_len = is.flows_len;
  heads_len = is.heads_len;
  by_point = subst (λ (ps : List Pair). IsByPoint a.rules ps flows heads) (sym (take-append-le n a.found e.added is.few)) is.by_point;
  bases = λ c p may user. e.keeps c (is.bases c p (subst (λ (ps : List Pair). MayBecome ps c) (take-append-le n a.found e.added is.few) may) user);
})

pub extended_at : (a b : PairsData) (n : ℕ) (q : Pair) → Extends a b → slice_get a.found n ≡ Some q → slice_get b.found n ≡ Some q
extended_at a b n q e at =
    let r = read-slice_get a.found n q at in
    subst (λ (x : PairsData). slice_get x.found n ≡ Some q) (sym e.is)
    (slice_get-read (a.found ++ e.added) n q (omega (arith, r.0, length-append a.found e.added)) (get_or_append_left a.found e.added q n r.0 ∙ r.1))

-- one more pair is taken
module _ (a : PairsData) (n : ℕ) (flows : List (List FlowPair)) (heads : List (List HeadPair)) (is : IsAnalysis flows heads (record { pairs = a; taken = n })) where
  taken_more : (q : Pair) → slice_get a.found n ≡ Some q → take (n + 1) a.found ≡ take n a.found ++ q ∷ []
  taken_more q at = let r = read-slice_get a.found n q at in take_more a.found n q r.0 ∙ ap (λ p. take n a.found ++ p ∷ []) r.1

  taken_one : (q : Pair) (new_flows : List (List FlowPair)) (new_heads : List (List HeadPair)) → slice_get a.found n ≡ Some q → length new_flows ≡ length flows → length new_heads ≡ length heads
      → IsByPoint a.rules (take n a.found ++ q ∷ []) new_flows new_heads → HasBases a (take n a.found ++ q ∷ []) → IsAnalysis new_flows new_heads (record { pairs = a; taken = n + 1 })
  taken_one q new_flows new_heads at flows_len heads_len by_point bases = record {
    few = let r = read-slice_get a.found n q at in omega (arith, r.0);
    max_fits = is.max_fits;
    flows_len = flows_len ∙ is.flows_len;
    heads_len = heads_len ∙ is.heads_len;
    by_point = subst (λ (ps : List Pair). IsByPoint a.rules ps new_flows new_heads) (sym (taken_more q at)) by_point;
    bases = subst (λ (ps : List Pair). HasBases a ps) (sym (taken_more q at)) bases;
  }

  pub step_unused : (f : FlowPair) → slice_get a.found n ≡ Some (OfFlow f) → ((p : ℕ) → IsUser (points_of a.rules).points f.rule f.param p → ⊥) → IsAnalysis flows heads (record { pairs = a; taken = n + 1 })
  step_unused f at nobody = taken_one (OfFlow f) flows heads at refl refl (flow_unused a.rules (take n a.found) flows heads is.by_point f nobody)
      (flow_bases a.rules (take n a.found) flows heads is.by_point (HasBaseAt a) is.bases f (λ h p there user. absurd (nobody p user)))

  pub step_flow : (f : FlowPair) (new : List (List FlowPair)) → slice_get a.found n ≡ Some (OfFlow f) → IsPushed f.point f flows new
      → ((h : HeadPair) → Contains (list_of heads f.point) h → HasBaseAt a (record { rule = f.rule; param = f.param; base = h.rule; given = h.given })) → IsAnalysis new heads (record { pairs = a; taken = n + 1 })
  step_flow f new at pushed now = taken_one (OfFlow f) new heads at pushed.len refl (flow_taken a.rules (take n a.found) flows heads is.by_point f new pushed)
      (flow_bases a.rules (take n a.found) flows heads is.by_point (HasBaseAt a) is.bases f (λ h p there user. now h there))

  pub step_head : (h : HeadPair) (new : List (List HeadPair)) → slice_get a.found n ≡ Some (OfHead h) → IsPushed h.point h heads new
      → ((f : FlowPair) → Contains (list_of flows h.point) f → HasBaseAt a (record { rule = f.rule; param = f.param; base = h.rule; given = h.given })) → IsAnalysis flows new (record { pairs = a; taken = n + 1 })
  step_head h new at pushed now = taken_one (OfHead h) flows new at refl pushed.len (head_taken a.rules (take n a.found) flows heads is.by_point h new pushed)
      (head_bases a.rules (take n a.found) flows heads is.by_point (HasBaseAt a) is.bases h now)

  -- the pairs of the list of a point are found
  pub heads_found : (u : ℕ) → All (λ (h : HeadPair). (h.point ≡ u) × Contains a.found (OfHead h)) (list_of heads u)
  heads_found u k d lt =
      let h = get_or (list_of heads u) k d in
      let w = (is.by_point.heads u h).0 (k, lt, get_or_default (list_of heads u) k h d lt) in (w.0, in_take n a.found (OfHead h) w.1)

  pub flows_found : (u : ℕ) → All (λ (f : FlowPair). (f.point ≡ u) × Contains a.found (OfFlow f)) (list_of flows u)
  flows_found u k d lt =
      let f = get_or (list_of flows u) k d in
      let w = is.by_point.flows u f (k, lt, get_or_default (list_of flows u) k f d lt) in (w.0, in_take n a.found (OfFlow f) w.1)

-- nothing is found or taken yet
pub analysis_none : (rules : List Rule) (max : ℕ) (a : PairsData) (flows : List (List FlowPair)) (heads : List (List HeadPair)) → AreNone rules max a → max < 2 ^ 32 → length flows ≡ length (points_of rules).points → length heads ≡ length (points_of rules).points
    → ((u : ℕ) → list_of flows u ≡ []) → ((u : ℕ) → list_of heads u ≡ []) → IsAnalysis flows heads (record { pairs = a; taken = 0 })
analysis_none rules max a flows heads none fits flows_len heads_len no_flows no_heads = record {
  few = omega arith;
  max_fits = subst (λ m. m < 2 ^ 32) (sym none.max_is) fits;
  flows_len = flows_len ∙ ap (λ (rs : List Rule). length (points_of rs).points) (sym none.rules_are);
  heads_len = heads_len ∙ ap (λ (rs : List Rule). length (points_of rs).points) (sym none.rules_are);
  by_point = by_point_none a.rules flows heads no_flows no_heads;
  bases = λ c p may user. absurd (none_in _ may.flow);
}

-- all that is demanded is found
pub closed_of : (a : PairsData) → IsReady a → ((q : Pair) → PassedAtFirst a.rules q → Contains a.found q) → HasBases a a.found → IsClosed a.rules a.found
closed_of a ready first has q d = elim (demand_cases a.rules a.found q d) [ inl f ↦ first q f | inr (b, (may, for)) ↦ ready.passed b (has b for.user may for.is_user) q for ]

-- where no pair is left, all were taken
pub all_taken : (a : PairsData) (n : ℕ) (flows : List (List FlowPair)) (heads : List (List HeadPair)) → IsAnalysis flows heads (record { pairs = a; taken = n }) → (o : Option Pair) → o ≡ slice_get a.found n → IfNone o (HasBases a a.found)
all_taken a n flows heads is (Some q) e = tt
all_taken a n flows heads is None e = elim (cases_lt n (length a.found)) [
  | inl less ↦ absurd (some_none (get_or a.found n (OfFlow (record { rule = 0; param = 0; point = 0 }))) (sym (slice_get-get_or a.found n (OfFlow (record { rule = 0; param = 0; point = 0 })) less) ∙ sym e))
  | inr more ↦ subst (λ (ps : List Pair). HasBases a ps) (take_all n a.found more) is.bases
]
  where
    some_none : (q : Pair) → Some q ≡ None → ⊥
    some_none q e = (cc)

pub next_within : (rules : List Rule) (found : List Pair) (n : ℕ) → IsSupported rules found → (o : Option Pair) → o ≡ slice_get found n → IfSome o (λ q. point_of q < length (points_of rules).points)
next_within rules found n supported None e = tt
next_within rules found n supported (Some q) e = point_within rules (take n found) q (supported.demanded n q (sym e))

-- where there are no bases, all is passed on for each
pub ready_first : (P : Pair → Type 0) (a b : PairsData) → FindsOnly P a b → ((c : Base) → HasBaseAt a c → ⊥) → length b.found ≤ b.max → IsReady b
ready_first P a b finds none = subst (λ (x : PairsData). length x.found ≤ x.max → IsReady x) (sym finds.is) (λ few. record { within = few; passed = λ c had. absurd (none c had) })

pub never_some : {X : Type 0} (o : Option X) (P : Type 0) → ((x : X) → o ≡ Some x → ⊥) → IfNone o P → P
never_some None P never h = h
never_some (Some x) P never h = absurd (never x refl)
