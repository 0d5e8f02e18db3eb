-- Places of images, and members of lists of pairs.
use Rattle.std.proofs.Common.{◌≡◌, refl, subst, ℕ, zero, suc, List, [], ◌∷◌, map, slice_get, Some, Contains, inl, inr}
use Rattle.std.proofs.lemmas.List.Elements.{Contains-append_cases}
use Rattle.std.proofs.lemmas.Option.{same_Some}
use Rattle.hs_scheme.specs.declared.flow.FlowPair.{FlowPair}
use Rattle.hs_scheme.specs.declared.flow.HeadPair.{HeadPair}
use Rattle.hs_scheme.specs.declared.flow.Pair.TheVariants.{OfFlow, OfHead}
use Rattle.hs_scheme.specs.flow.Flow.{pairs_of}
use Rattle.hs_scheme.proofs.Lists.{none_in, here, later, uncons}
use Rattle.hs_scheme.proofs.DemandLemmas.{same_flow, no_head}

pub record PreimageAt {A B : Type 0} (f : A → B) (xs : List A) (i : ℕ) (y : B) : Type 0 where
  pub item : A
  pub at : slice_get xs i ≡ Some item
  pub is : f item ≡ y

pub place-map : {A B : Type 0} (f : A → B) (xs : List A) (i : ℕ) (y : B) → slice_get (map f xs) i ≡ Some y → PreimageAt f xs i y
place-map f [] i y e = absurd (cc)
place-map f (x ∷ xs) zero y e = record { item = x; at = refl; is = same_Some (f x) y e }
place-map f (x ∷ xs) (suc i) y e = let r = place-map f xs i y e in record { item = r.item; at = r.at; is = r.is }

in_flows : (flows : List FlowPair) (f : FlowPair) → Contains (map (λ f. OfFlow f) flows) (OfFlow f) → Contains flows f
in_flows [] f h = absurd (none_in (OfFlow f) h)
in_flows (g ∷ flows) f h = elim (uncons (OfFlow g) (OfFlow f) (map (λ f. OfFlow f) flows) h) [
  | inl e ↦ subst (λ k. Contains (k ∷ flows) f) (same_flow f g e) (here f flows)
  | inr there ↦ later g f flows (in_flows flows f there)
]

not_in_heads : (heads : List HeadPair) (f : FlowPair) → Contains (map (λ h. OfHead h) heads) (OfFlow f) → ⊥
not_in_heads [] f h = none_in (OfFlow f) h
not_in_heads (g ∷ heads) f h = elim (uncons (OfHead g) (OfFlow f) (map (λ h. OfHead h) heads) h) [
  | inl e ↦ no_head f g e
  | inr there ↦ not_in_heads heads f there
]

pub flow_pair : (flows : List FlowPair) (heads : List HeadPair) (f : FlowPair) → Contains (pairs_of flows heads) (OfFlow f) → Contains flows f
flow_pair flows heads f h = elim (Contains-append_cases (map (λ f. OfFlow f) flows) (map (λ h. OfHead h) heads) (OfFlow f) h) [
  | inl own ↦ in_flows flows f own
  | inr other ↦ absurd (not_in_heads heads f other)
]
