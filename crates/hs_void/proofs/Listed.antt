-- The sites of one nonterminal more.
use Rattle.std.proofs.Common.{◌≡◌, refl, sym, ◌∙◌, ap, subst, ℕ, zero, suc, List, [], ◌∷◌, ◌++◌, length, map, slice_get, Some, Bor, ◌⊎◌, inl, inr}
use Rattle.std.proofs.lemmas.List.{map_push, length-map}
use Rattle.std.proofs.lemmas.Option.{same_Some}
use Rattle.hs_scheme.specs.Problem.{ProblemData}
use Rattle.hs_sites.specs.declared.sites.Site.{Site}
use Rattle.hs_sites.specs.Listed.{AreSitesOf}

pushed_get : {X : Type 0} (xs : List X) (x : X) (k : ℕ) (y : X) → slice_get (xs ++ x ∷ []) k ≡ Some y → (slice_get xs k ≡ Some y) ⊎ ((k ≡ length xs) × (x ≡ y))
pushed_get [] x zero y e = inr (refl, same_Some x y e)
pushed_get [] x (suc k) y e = absurd (cc)
pushed_get (z ∷ xs) x zero y e = inl e
pushed_get (z ∷ xs) x (suc k) y e = elim (pushed_get xs x k y e) [ inl was ↦ inl was | inr own ↦ inr (ap suc own.0, own.1) ]

abbrev lists : List (Bor (List Site)) → List (List Site)
lists rs = map (λ (r : Bor (List Site)). r.now) rs

pub sites_more : (p : ProblemData) (old new : List (Bor (List Site))) (r : Bor (List Site)) (n : ℕ) → new ≡ old ++ r ∷ [] → length old ≡ n → AreSitesOf p n r.now
    → ((G : ℕ) (of : List Site) → slice_get (lists old) G ≡ Some of → AreSitesOf p G of) → (G : ℕ) (of : List Site) → slice_get (lists new) G ≡ Some of → AreSitesOf p G of
sites_more p old new r n made long are each G of at =
    let pushed : lists new ≡ lists old ++ r.now ∷ [] = ap lists made ∙ map_push (λ (b : Bor (List Site)). b.now) old r in
    elim (pushed_get (lists old) r.now G of (ap (λ (ls : List (List Site)). slice_get ls G) (sym pushed) ∙ at)) [
      | inl was ↦ each G of was
      | inr own ↦
          let place : n ≡ G = sym long ∙ (sym (length-map old (λ (b : Bor (List Site)). b.now)) ∙ sym own.0) in
          subst (λ k. AreSitesOf p k of) place (subst (λ (ss : List Site). AreSitesOf p n ss) own.1 are)
    ]
