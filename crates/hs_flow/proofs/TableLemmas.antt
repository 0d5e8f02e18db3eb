-- The pairs found, apart by kind and in ascending order.
use Rattle.std.proofs.Common.{◌≡◌, ◌≢◌, refl, sym, ◌∙◌, ap, subst, ℕ, zero, suc, ◌+◌, ◌<◌, List, [], ◌∷◌, ◌++◌, length, map, get_or, take, arith, inl, inr, Contains, All, AllPairs, ◌↔◌}
use Rattle.std.specs.Cmp.{IsTotalOrder}
use Rattle.std.specs.declared.cmp.Ordering.{Ordering}
use Rattle.std.specs.declared.cmp.Ordering.TheVariants.{Less, Equal}
use Rattle.std.specs.List.Sorted.{IsPermutation}
use Rattle.std.proofs.lemmas.List.{take_more, get_or_default, get_or-map}
use Rattle.std.proofs.lemmas.List.Elements.{Contains-append_left, Contains-append_right, Contains-append_cases}
use Rattle.std.proofs.lemmas.List.Sorted.{Contains-permutation, IsPermutation-sym}
use Rattle.std.proofs.lemmas.Cmp.{tied_itself}
use Rattle.hs_scheme.specs.declared.flow.FlowPair.{FlowPair}
use Rattle.hs_scheme.specs.declared.flow.HeadPair.{HeadPair}
use Rattle.hs_scheme.specs.declared.flow.Pair.{Pair}
use Rattle.hs_scheme.specs.declared.flow.Pair.TheVariants.{OfFlow, OfHead}
use Rattle.hs_scheme.specs.declared.term.Rule.{Rule}
use Rattle.hs_scheme.specs.sorting.Parameters.{IsParameter, counts_of}
use Rattle.hs_scheme.specs.flow.FlowRows.{AreOfParameters}
use Rattle.hs_scheme.specs.flow.Flow.{HasParameter, pairs_of, IsAscending, flow_cmp, head_cmp, IsClosed, Demands, IsSupported, IsFlow, IsFlowTable}
use Rattle.hs_scheme.specs.flow.Points.{points_of}
use Rattle.hs_scheme.specs.Problem.{FlowWithin, HeadWithin}
use Rattle.hs_scheme.proofs.FlowLemmas.{flow_cmp_total, head_cmp_total}
use Rattle.hs_scheme.proofs.DemandLemmas.{Demands-more}
use Rattle.hs_scheme.proofs.Lists.{slice_get-read, read-slice_get, none_in, here, later as skip}
use Rattle.hs_flow.specs.Tables.{flows_in, heads_in}
use Rattle.hs_flow.proofs.SupportLemmas.{flow_within, head_within}

flows_in-push : (ps : List Pair) (q : Pair) → flows_in (ps ++ q ∷ []) ≡ flows_in ps ++ flows_in (q ∷ [])
flows_in-push [] q = refl
flows_in-push (OfFlow f ∷ ps) q = ap (λ fs. f ∷ fs) (flows_in-push ps q)
flows_in-push (OfHead h ∷ ps) q = flows_in-push ps q

heads_in-push : (ps : List Pair) (q : Pair) → heads_in (ps ++ q ∷ []) ≡ heads_in ps ++ heads_in (q ∷ [])
heads_in-push [] q = refl
heads_in-push (OfFlow f ∷ ps) q = heads_in-push ps q
heads_in-push (OfHead h ∷ ps) q = ap (λ hs. h ∷ hs) (heads_in-push ps q)

-- one more pair
module _ (ps : List Pair) (i : ℕ) (d : Pair) (lt : i < length ps) where
  pub flows_more : flows_in (take (i + 1) ps) ≡ flows_in (take i ps) ++ flows_in (get_or ps i d ∷ [])
  flows_more = ap flows_in (take_more ps i d lt) ∙ flows_in-push (take i ps) (get_or ps i d)

  pub heads_more : heads_in (take (i + 1) ps) ≡ heads_in (take i ps) ++ heads_in (get_or ps i d ∷ [])
  heads_more = ap heads_in (take_more ps i d lt) ∙ heads_in-push (take i ps) (get_or ps i d)

pub length-split : (ps : List Pair) → length (flows_in ps) + length (heads_in ps) ≡ length ps
length-split [] = refl
length-split (OfFlow f ∷ ps) = omega (arith, length-split ps)
length-split (OfHead h ∷ ps) = omega (arith, length-split ps)

flow_in : (ps : List Pair) (f : FlowPair) → Contains ps (OfFlow f) → Contains (flows_in ps) f
flow_in [] f h = absurd (none_in (OfFlow f) h)
flow_in (OfFlow g ∷ ps) f (zero, within, is) = let e : g ≡ f = cc in subst (λ (x : FlowPair). Contains (g ∷ flows_in ps) x) e (here g (flows_in ps))
flow_in (OfFlow g ∷ ps) f (suc k, within, is) = skip g f (flows_in ps) (flow_in ps f (k, omega arith, is))
flow_in (OfHead h ∷ ps) f (zero, within, is) = absurd (cc)
flow_in (OfHead h ∷ ps) f (suc k, within, is) = flow_in ps f (k, omega arith, is)

pub flow_back : (ps : List Pair) (f : FlowPair) → Contains (flows_in ps) f → Contains ps (OfFlow f)
flow_back [] f h = absurd (none_in f h)
flow_back (OfFlow g ∷ ps) f (zero, within, is) = (0, omega arith, ap (λ x. OfFlow x) is)
flow_back (OfFlow g ∷ ps) f (suc k, within, is) = skip (OfFlow g) (OfFlow f) ps (flow_back ps f (k, omega arith, is))
flow_back (OfHead h ∷ ps) f there = skip (OfHead h) (OfFlow f) ps (flow_back ps f there)

head_in : (ps : List Pair) (h : HeadPair) → Contains ps (OfHead h) → Contains (heads_in ps) h
head_in [] h there = absurd (none_in (OfHead h) there)
head_in (OfFlow g ∷ ps) h (zero, within, is) = absurd (cc)
head_in (OfFlow g ∷ ps) h (suc k, within, is) = head_in ps h (k, omega arith, is)
head_in (OfHead g ∷ ps) h (zero, within, is) = let e : g ≡ h = cc in subst (λ (x : HeadPair). Contains (g ∷ heads_in ps) x) e (here g (heads_in ps))
head_in (OfHead g ∷ ps) h (suc k, within, is) = skip g h (heads_in ps) (head_in ps h (k, omega arith, is))

head_back : (ps : List Pair) (h : HeadPair) → Contains (heads_in ps) h → Contains ps (OfHead h)
head_back [] h there = absurd (none_in h there)
head_back (OfFlow g ∷ ps) h there = skip (OfFlow g) (OfHead h) ps (head_back ps h there)
head_back (OfHead g ∷ ps) h (zero, within, is) = (0, omega arith, ap (λ x. OfHead x) is)
head_back (OfHead g ∷ ps) h (suc k, within, is) = skip (OfHead g) (OfHead h) ps (head_back ps h (k, omega arith, is))

-- a list of one kind and the pairs that it stands for
pub mapped : {X : Type 0} (wrap : X → Pair) (xs : List X) (x : X) → Contains xs x → Contains (map wrap xs) (wrap x)
mapped wrap [] x h = absurd (none_in x h)
mapped wrap (y ∷ ys) x (zero, within, is) = (0, omega arith, ap wrap is)
mapped wrap (y ∷ ys) x (suc k, within, is) = skip (wrap y) (wrap x) (map wrap ys) (mapped wrap ys x (k, omega arith, is))

of_flows : (fs : List FlowPair) (q : Pair) → Contains (map (λ f. OfFlow f) fs) q → (f : FlowPair) × ((OfFlow f ≡ q) × Contains fs f)
of_flows [] q h = absurd (none_in q h)
of_flows (f ∷ fs) q (zero, within, is) = (f, (is, here f fs))
of_flows (f ∷ fs) q (suc k, within, is) = let r = of_flows fs q (k, omega arith, is) in (r.0, (r.1.0, skip f r.0 fs r.1.1))

of_heads : (hs : List HeadPair) (q : Pair) → Contains (map (λ h. OfHead h) hs) q → (h : HeadPair) × ((OfHead h ≡ q) × Contains hs h)
of_heads [] q there = absurd (none_in q there)
of_heads (h ∷ hs) q (zero, within, is) = (h, (is, here h hs))
of_heads (h ∷ hs) q (suc k, within, is) = let r = of_heads hs q (k, omega arith, is) in (r.0, (r.1.0, skip h r.0 hs r.1.1))

module _ (ps : List Pair) (fs : List FlowPair) (hs : List HeadPair) (flows : IsPermutation (flows_in ps) fs) (heads : IsPermutation (heads_in ps) hs) where
  into : (q : Pair) → Contains ps q → Contains (pairs_of fs hs) q
  into (OfFlow f) h = Contains-append_left (map (λ x. OfFlow x) fs) (map (λ x. OfHead x) hs) (OfFlow f) (mapped (λ x. OfFlow x) fs f (Contains-permutation (flows_in ps) fs f flows (flow_in ps f h)))
  into (OfHead k) h = Contains-append_right (map (λ x. OfFlow x) fs) (map (λ x. OfHead x) hs) (OfHead k) (mapped (λ x. OfHead x) hs k (Contains-permutation (heads_in ps) hs k heads (head_in ps k h)))

  from : (q : Pair) → Contains (pairs_of fs hs) q → Contains ps q
  from q h = elim (Contains-append_cases (map (λ x. OfFlow x) fs) (map (λ x. OfHead x) hs) q h) [
    | inl f ↦ let r = of_flows fs q f in
        subst (λ (p : Pair). Contains ps p) r.1.0 (flow_back ps r.0 (Contains-permutation fs (flows_in ps) r.0 (IsPermutation-sym (flows_in ps) fs flows) r.1.1))
    | inr k ↦ let r = of_heads hs q k in
        subst (λ (p : Pair). Contains ps p) r.1.0 (head_back ps r.0 (Contains-permutation hs (heads_in ps) r.0 (IsPermutation-sym (heads_in ps) hs heads) r.1.1))
  ]

  pub same_pairs : (q : Pair) → Contains ps q ↔ Contains (pairs_of fs hs) q
  same_pairs q = (into q, from q)

-- neither kind has a pair twice
later : {X : Type 0} (x : X) (xs : List X) → AllPairs (λ a b. a ≢ b) (x ∷ xs) → AllPairs (λ a b. a ≢ b) xs
later x xs h i j d less within = h (suc i) (suc j) d (omega arith) (omega arith)

not_twice : {X : Type 0} (x : X) (xs : List X) → AllPairs (λ a b. a ≢ b) (x ∷ xs) → Contains xs x → ⊥
not_twice x xs h (k, within, is) = h 0 (suc k) x (omega arith) (omega arith) (sym is)

one_more : {X : Type 0} (x : X) (xs : List X) → (Contains xs x → ⊥) → AllPairs (λ a b. a ≢ b) xs → AllPairs (λ a b. a ≢ b) (x ∷ xs)
one_more x xs new h zero zero d less within = absurd (omega arith)
one_more x xs new h zero (suc j) d less within = λ e. new (j, omega arith, get_or_default xs j x d (omega arith) ∙ sym e)
one_more x xs new h (suc i) zero d less within = absurd (omega arith)
one_more x xs new h (suc i) (suc j) d less within = h i j d (omega arith) (omega arith)

pub flows_once : (ps : List Pair) → AllPairs (λ a b. a ≢ b) ps → AllPairs (λ a b. a ≢ b) (flows_in ps)
flows_once [] h = λ i j d less within. absurd (omega arith)
flows_once (OfFlow f ∷ ps) h = one_more f (flows_in ps) (λ there. not_twice (OfFlow f) ps h (flow_back ps f there)) (flows_once ps (later (OfFlow f) ps h))
flows_once (OfHead k ∷ ps) h = flows_once ps (later (OfHead k) ps h)

pub heads_once : (ps : List Pair) → AllPairs (λ a b. a ≢ b) ps → AllPairs (λ a b. a ≢ b) (heads_in ps)
heads_once [] h = λ i j d less within. absurd (omega arith)
heads_once (OfFlow f ∷ ps) h = heads_once ps (later (OfFlow f) ps h)
heads_once (OfHead k ∷ ps) h = one_more k (heads_in ps) (λ there. not_twice (OfHead k) ps h (head_back ps k there)) (heads_once ps (later (OfHead k) ps h))

-- an ascending list has no repeats
module _ {X : Type 0} (cmp : X → X → Ordering) (total : IsTotalOrder cmp) where
  pub ascending_once : (xs : List X) → IsAscending cmp xs → AllPairs (λ a b. a ≢ b) xs
  ascending_once xs up i j d less within e =
      let same : cmp (get_or xs i d) (get_or xs j d) ≡ Equal = ap (cmp (get_or xs i d)) (sym e) ∙ tied_itself total (get_or xs i d) in
      let low : cmp (get_or xs i d) (get_or xs j d) ≡ Less = up i j d less within in absurd (cc)

-- the flow, from the pairs found
pub is_flow : (rules : List Rule) (found : List Pair) (fs : List FlowPair) (hs : List HeadPair) → IsSupported rules found → IsClosed rules found
    → ((q : Pair) → Contains found q ↔ Contains (pairs_of fs hs) q) → IsFlowTable (record { pairs = fs; heads = hs }) → IsFlow rules fs hs
is_flow rules found fs hs supported closed same table = record {
  closed = λ q d. (same q).0 (closed q (Demands-more rules (pairs_of fs hs) found (λ p h. (same p).1 h) q d));
  order = found;
  supported = supported;
  same = same;
  flows_once = ascending_once flow_cmp flow_cmp_total fs table.pairs;
  heads_once = ascending_once head_cmp head_cmp_total hs table.heads;
}

-- its pairs are in range
module _ (rules : List Rule) (found : List Pair) (fs : List FlowPair) (hs : List HeadPair) (supported : IsSupported rules found) (same : (q : Pair) → Contains found q ↔ Contains (pairs_of fs hs) q) where
  was_demanded : (q : Pair) → Contains (pairs_of fs hs) q → (i : ℕ) × Demands rules (take i found) q
  was_demanded q h = let r = (same q).1 h in (r.0, supported.demanded r.0 q (slice_get-read found r.0 q r.1 r.2))

  pub all_flows_within : All (FlowWithin rules (length (points_of rules).points)) fs
  all_flows_within k d lt =
      let f = get_or fs k d in
      let there = Contains-append_left (map (λ x. OfFlow x) fs) (map (λ x. OfHead x) hs) (OfFlow f) (mapped (λ x. OfFlow x) fs f (k, lt, get_or_default fs k f d lt)) in
      let w = was_demanded (OfFlow f) there in flow_within rules (take w.0 found) f w.1

  pub all_heads_within : All (HeadWithin rules (length (points_of rules).points)) hs
  all_heads_within k d lt =
      let h = get_or hs k d in
      let there = Contains-append_right (map (λ x. OfFlow x) fs) (map (λ x. OfHead x) hs) (OfHead h) (mapped (λ x. OfHead x) hs h (k, lt, get_or_default hs k h d lt)) in
      let w = was_demanded (OfHead h) there in head_within rules (take w.0 found) h w.1

-- the flow pairs found are of parameters that the rules have
pub all_parameters : (found : List Pair) (fs : List FlowPair) (hs : List HeadPair) (counts : List ℕ) → ((q : Pair) → Contains found q ↔ Contains (pairs_of fs hs) q)
    → ((f : FlowPair) → Contains found (OfFlow f) → IsParameter counts f.rule f.param) → AreOfParameters counts fs
all_parameters found fs hs counts same of k d lt =
    let f = get_or fs k d in
    of f ((same (OfFlow f)).1 (Contains-append_left (map (λ x. OfFlow x) fs) (map (λ x. OfHead x) hs) (OfFlow f) (mapped (λ x. OfFlow x) fs f (k, lt, get_or_default fs k f d lt))))

-- a parameter of a rule, by the rules' numbers of parameters
pub has_parameter : (rules : List Rule) (rule x : ℕ) → HasParameter rules rule x → IsParameter (counts_of rules) rule x
has_parameter rules rule x (r, (at, lt)) =
    let p = read-slice_get rules rule r at in
    omega (arith, get_or-map (λ (q : Rule). q.params) rules rule r 0 p.0, ap (λ (q : Rule). q.params) p.1)

pub supported_parameters : (rules : List Rule) (found : List Pair) → IsSupported rules found → (f : FlowPair) → Contains found (OfFlow f) → IsParameter (counts_of rules) f.rule f.param
supported_parameters rules found supported f (k, lt, is) =
    has_parameter rules f.rule f.param (flow_within rules (take k found) f (supported.demanded k (OfFlow f) (slice_get-read found k (OfFlow f) lt is))).parameter
