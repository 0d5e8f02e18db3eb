-- What is found stays supported as it grows, and its points are in range.
use Rattle.std.proofs.Common.{◌≡◌, sym, ◌∙◌, ap, subst, ℕ, ◌<◌, List, [], ◌∷◌, ◌++◌, ◌⊎◌, length, take, slice_get, Some, length-append, arith, inl, inr, Contains, All, Ok}
use Rattle.std.proofs.lemmas.Bool.{cases_lt}
use Rattle.std.proofs.lemmas.List.Elements.{Contains-append_cases, Contains-append_right}
use Rattle.std.proofs.lemmas.Option.{slice_get_within}
use Rattle.std.proofs.lemmas.List.{take_all, take-append-le, length-take, get_or-take, get_or_append_left, get_or_push}
use Rattle.hs_scheme.specs.declared.term.Rule.{Rule}
use Rattle.hs_scheme.specs.declared.flow.FlowPair.{FlowPair}
use Rattle.hs_scheme.specs.declared.flow.HeadPair.{HeadPair}
use Rattle.hs_scheme.specs.declared.flow.Pair.{Pair}
use Rattle.hs_scheme.specs.declared.flow.Pair.TheVariants.{OfFlow, OfHead}
use Rattle.hs_scheme.specs.flow.Points.{PointData, PointsData, points_of}
use Rattle.hs_scheme.specs.Problem.{FlowWithin, HeadWithin}
use Rattle.hs_scheme.specs.flow.Flow.{HasParameter, Demands, IsSupported}
use Rattle.hs_scheme.proofs.PointLemmas.{args_within}
use Rattle.hs_scheme.proofs.Lists.{slice_get-read, read-slice_get, only, here}
use Rattle.hs_flow.specs.declared.bases.Base.{Base}
use Rattle.hs_flow.specs.Users.{UserMap}
use Rattle.hs_flow.specs.Passing.{PassedAtFirst, PassedFor}
use Rattle.hs_flow.specs.Pairs.{PairsData, HasBaseAt, IsAddable, ArePairs, FindsOnly}
use Rattle.hs_flow.specs.Analysis.{point_of}
use Rattle.hs_flow.proofs.PairLemmas.{append_once, grown, finds_nothing, finds_one}
use Rattle.hs_flow.proofs.PassingLemmas.{addable_demanded}
use Rattle.std.specs.Prelude.{IsErrOf}

pub in_take : {X : Type 0} (n : ℕ) (xs : List X) (x : X) → Contains (take n xs) x → Contains xs x
in_take n xs x (k, within, is) = (k, omega (arith, length-take n xs), sym (get_or-take n xs k x (omega (arith, length-take n xs))) ∙ is)

-- a demanded pair that isn't there is put at the end
module _ (rules : List Rule) (old : List Pair) (k : Pair) (absent : Contains old k → ⊥) (demanded : Demands rules old k) (s : IsSupported rules old) where
  by_place : (i : ℕ) (q : Pair) → slice_get (old ++ k ∷ []) i ≡ Some q → Demands rules (take i (old ++ k ∷ [])) q
  by_place i q at = let r = read-slice_get (old ++ k ∷ []) i q at in elim (cases_lt i (length old)) [
    | inl less ↦
        let here : slice_get old i ≡ Some q = slice_get-read old i q less (sym (get_or_append_left old (k ∷ []) q i less) ∙ r.1) in
        subst (λ (ps : List Pair). Demands rules ps q) (sym (take-append-le i old (k ∷ []) (omega arith))) (s.demanded i q here)
    | inr more ↦
        let last : length old ≡ i = omega (arith, r.0, length-append old (k ∷ [])) in
        subst (λ (ps : List Pair). Demands rules ps q) (sym (take-append-le i old (k ∷ []) (omega arith) ∙ take_all i old more))
        (subst (λ (p : Pair). Demands rules old p) (sym (get_or_push old k q i last) ∙ r.1) demanded)
  ]

  pub supported_push : IsSupported rules (old ++ k ∷ [])
  supported_push = record {
    distinct = append_once old (k ∷ []) s.distinct (λ i j d less within. absurd (omega arith)) (λ q was h. absent (subst (Contains old) (only k q h) was));
    demanded = by_place;
  }

-- what is demanded names points, rules and parameters in range
pub flow_within : (rules : List Rule) (found : List Pair) (f : FlowPair) → Demands rules found (OfFlow f) → FlowWithin rules (length (points_of rules).points) f
flow_within rules found f d =
    let at = read-slice_get (points_of rules).points d.point d.of d.at in
    let args : All (λ a. a < length (points_of rules).points) d.of.args =
    subst (λ (e : PointData). All (λ a. a < length (points_of rules).points) e.args) at.1 (args_within rules d.point d.of at.0) in
    let i = read-slice_get d.of.args d.passes.0 f.point d.passes.1.0 in
    record {
      parameter = subst (λ r. HasParameter rules r f.param) (sym d.passes.1.1) (subst (λ x. HasParameter rules d.base x) (sym d.passes.1.2) d.passes.1.3);
      point = subst (λ a. a < length (points_of rules).points) i.1 (args d.passes.0 f.point i.0);
    }

pub head_within : (rules : List Rule) (found : List Pair) (h : HeadPair) → Demands rules found (OfHead h) → HeadWithin rules (length (points_of rules).points) h
head_within rules found h d = record {
  point = subst (λ (k : HeadPair). k.point < length (points_of rules).points) (sym d.passes.0) (slice_get_within (points_of rules).points d.point d.of d.at);
  missing = subst (λ (k : HeadPair). HasParameter rules k.rule k.given) (sym d.passes.0) d.passes.1;
}

pub point_within : (rules : List Rule) (found : List Pair) (q : Pair) → Demands rules found q → point_of q < length (points_of rules).points
point_within rules found (OfFlow f) d = (flow_within rules found f d).point
point_within rules found (OfHead h) d = (head_within rules found h d).point

-- a pair that can be added is put at the end
pub are_push : (points : PointsData) (users : UserMap) (a : PairsData) (q : Pair) → ArePairs points users a → IsAddable a q → ArePairs points users (grown a (q ∷ []))
are_push points users a q are can = record {
  points_are = are.points_are;
  users_are = are.users_are;
  supported = supported_push a.rules a.found q can.absent (addable_demanded a q can) are.supported;
  passed = λ p h. elim (Contains-append_cases a.found (q ∷ []) p h) [
    | inl was ↦ are.passed p was
    | inr last ↦ subst (λ (x : Pair). PassedAtFirst a.rules x ⊎ ((b : Base) × (HasBaseAt a b × PassedFor a.rules b x))) (sym (only q p last))
        (elim can.passed [ inl first ↦ inl first | inr (b, (had, (may, for))) ↦ inr (b, (had, for)) ])
  ];
}

-- the same, as the fields are after a push
module _ (points : PointsData) (users : UserMap) (a old : PairsData) (q : Pair) (items : List Pair) (view : a ≡ old) (are : ArePairs points users a) (can : IsAddable old q) (pushed : items ≡ a.found ++ q ∷ []) where
  pub pushed_are : ArePairs points users (record { rules = a.rules; max = a.max; found = items; bases = a.bases })
  pushed_are = subst (λ (ps : List Pair). ArePairs points users (record { rules = a.rules; max = a.max; found = ps; bases = a.bases })) (sym pushed)
      (are_push points users a q are (subst (λ (x : PairsData). IsAddable x q) (sym view) can))

  pushed_is : record { rules = a.rules; max = a.max; found = items; bases = a.bases } ≡ grown old (q ∷ [])
  pushed_is = (λ i. record { rules = a.rules; max = a.max; found = pushed i; bases = a.bases }) ∙ ap (λ (x : PairsData). grown x (q ∷ [])) view

  pub pushed_finds : FindsOnly (λ p. p ≡ q) old (record { rules = a.rules; max = a.max; found = items; bases = a.bases })
  pushed_finds = finds_one old (record { rules = a.rules; max = a.max; found = items; bases = a.bases }) q pushed_is

  pub pushed_there : Contains items q
  pushed_there = subst (λ (ps : List Pair). Contains ps q) (sym pushed) (Contains-append_right a.found (q ∷ []) q (here q []))

-- the same, where nothing was pushed
pub kept_finds : (P : Pair → Type 0) (a old : PairsData) (items : List Pair) → a ≡ old → items ≡ a.found → FindsOnly P old (record { rules = a.rules; max = a.max; found = items; bases = a.bases })
kept_finds P a old items view same =
    subst (λ (x : PairsData). FindsOnly P x (record { rules = a.rules; max = a.max; found = items; bases = a.bases })) view
    (subst (λ (ps : List Pair). FindsOnly P a (record { rules = a.rules; max = a.max; found = ps; bases = a.bases })) (sym same) (finds_nothing P a))

-- what is there is no refusal
pub no_refusal : {T E : Type 0} (x : T) (e : E) → IsErrOf (Ok x) e → ⊥
no_refusal x e refused = (cc)
