-- Terms in which only parameters that stay are needed: what is left of a replacement is the replacement in what is left.
use Rattle.std.proofs.Common.{◌≡◌, refl, sym, ◌∙◌, ap, ℕ, zero, suc, ◌<◌, ◌≤◌, Bool, true, false, cond, List, length, map, get_or, slice_get, option_map, Option, Some, unwrap_or, arith}
use Rattle.std.proofs.Common.{subst as along}
use Rattle.std.proofs.lemmas.Option.{slice_get-map, slice_get-get_or}
use Rattle.hs_scheme.specs.declared.term.Head.{Head}
use Rattle.hs_scheme.specs.declared.term.Head.TheVariants.{Var, Nt, Tm}
use Rattle.hs_scheme.specs.Tree.{Tree, Trees, node, none, more, join, children}
use Rattle.hs_scheme.specs.acceptance.Replacement.{subst, substs, replaced, applied}
use Rattle.hs_scheme.specs.Scheme.{TermInRange, TermsInRange}
use Rattle.hs_passes.specs.Selection.{place, chosen}
use Rattle.hs_passes.specs.Leaving.{Keep, keeps, chosen_trees, head_left, term_left, terms_left}
use Rattle.hs_passes.proofs.Choosing.{chosen-at}
use Rattle.hs_passes.proofs.Remaining.{chosen_trees-all, chosen_trees-join, length-terms_left, terms_left-join}

-- outside of rules no parameter goes
abbrev pub ground : ℕ → Bool
ground j = true

module _ (keep : Keep) where
  -- so does a head with this many arguments
  abbrev pub HeadFits : (ℕ → Bool) → Head → ℕ → Type 0
  HeadFits own (Var j) n = own j ≡ true
  HeadFits own (Nt g) n = (i : ℕ) → n ≤ i → keep g i ≡ true
  HeadFits own (Tm a) n = Unit {0}

  abbrev mutual
    pub Fits : (ℕ → Bool) → Tree Head → Type 0
    Fits own (node h ts) = HeadFits own h (length (children ts)) × FitsIn own (keeps keep h) ts

    -- those that stay
    pub FitsIn : (ℕ → Bool) → (ℕ → Bool) → Trees Head → Type 0
    FitsIn own stays none = Unit {0}
    FitsIn own stays (more t ts) = (stays 0 ≡ true → Fits own t) × FitsIn own (λ i. stays (suc i)) ts

  open_kept : (h : Head) (us : Trees Head) → HeadFits ground h (length (children us)) → (i : ℕ) → length (children (terms_left keep ground us)) ≤ i → keeps keep h i ≡ true
  open_kept (Var j) us p i le = refl
  open_kept (Nt g) us p i le = p i (omega (arith, le, length-terms_left keep ground us))
  open_kept (Tm a) us p i le = refl

  left-applied : (t : Tree Head) (vs : Trees Head) → Fits ground t → term_left keep ground (applied t vs) ≡ applied (term_left keep ground t) (terms_left keep ground vs)
  left-applied (node h us) vs p =
      ap (node (head_left ground h))
      (ap (chosen_trees (keeps keep h)) (terms_left-join keep ground us vs)
      ∙ chosen_trees-join (keeps keep h) (terms_left keep ground us) (terms_left keep ground vs) (open_kept h us p.0))

  length-join : (us vs : Trees Head) → length (children us) ≤ length (children (join us vs))
  length-join none vs = omega arith
  length-join (more u us) vs = omega (arith, length-join us vs)

  more_fit : (h : Head) (n m : ℕ) → n ≤ m → HeadFits ground h n → HeadFits ground h m
  more_fit (Var j) n m le p = p
  more_fit (Nt g) n m le p = λ i l. p i (omega (arith, l, le))
  more_fit (Tm a) n m le p = p

  some_fit : (stays : ℕ → Bool) (us : Trees Head) → FitsIn ground (λ _. true) us → FitsIn ground stays us
  some_fit stays none p = tt
  some_fit stays (more u us) p = (λ e. p.0 refl, some_fit (λ i. stays (suc i)) us p.1)

  fits-join : (stays : ℕ → Bool) (us vs : Trees Head) → FitsIn ground stays us → FitsIn ground (λ _. true) vs → FitsIn ground stays (join us vs)
  fits-join stays none vs p q = some_fit stays vs q
  fits-join stays (more u us) vs p q = (p.0, fits-join (λ i. stays (suc i)) us vs p.1 q)

  fits-applied : (t : Tree Head) (vs : Trees Head) → Fits ground t → FitsIn ground (λ _. true) vs → Fits ground (applied t vs)
  fits-applied (node h us) vs p q =
      (more_fit h (length (children us)) (length (children (join us vs))) (length-join us vs) p.0, fits-join (keeps keep h) us vs p.1 q)

  pub fits-at : (stays : ℕ → Bool) (us : Trees Head) (j : ℕ) (u : Tree Head) → FitsIn ground stays us → stays j ≡ true → slice_get (children us) j ≡ Some u → Fits ground u
  fits-at stays none j u p e at = absurd (cc)
  fits-at stays (more t us) zero u p e at = let is : t ≡ u = (cc) in along (Fits ground) is (p.0 e)
  fits-at stays (more t us) (suc j) u p e at = fits-at (λ i. stays (suc i)) us j u p.1 e at

  length-substs : (us : Trees Head) (ts : List (Tree Head)) → length (children (substs us ts)) ≡ length (children us)
  length-substs none ts = refl
  length-substs (more u us) ts = ap suc (length-substs us ts)

  -- in a rule of whose parameters these stay, with the terms for all of them
  module _ (own : ℕ → Bool) (params rules terminals : ℕ) (ts : List (Tree Head)) (long : length ts ≡ params)
      (fit : (j : ℕ) (u : Tree Head) → own j ≡ true → slice_get ts j ≡ Some u → Fits ground u) where
    abbrev new : List (Tree Head)
    new = chosen own (map (term_left keep ground) ts)

    its_term : (j : ℕ) → j < params → slice_get ts j ≡ Some (get_or ts j (node (Var j) none))
    its_term j lt = slice_get-get_or ts j (node (Var j) none) (omega (arith, lt, long))

    its_fit : (j : ℕ) → j < params → own j ≡ true → Fits ground (replaced (Var j) ts)
    its_fit j lt e =
        along (λ (o : Option (Tree Head)). Fits ground (unwrap_or o (node (Var j) none))) (sym (its_term j lt)) (fit j (get_or ts j (node (Var j) none)) e (its_term j lt))

    its_left : (j : ℕ) → j < params → own j ≡ true → replaced (Var (place own j)) new ≡ term_left keep ground (replaced (Var j) ts)
    its_left j lt e =
        let u = get_or ts j (node (Var j) none) in
        ap (λ o. unwrap_or o (node (Var (place own j)) none))
        (chosen-at own (map (term_left keep ground) ts) j (term_left keep ground u) e (slice_get-map (term_left keep ground) ts j ∙ ap (option_map (term_left keep ground)) (its_term j lt)))
        ∙ sym (ap (λ o. term_left keep ground (unwrap_or o (node (Var j) none))) (its_term j lt))

    mutual
      pub left-subst : (t : Tree Head) → TermInRange params rules terminals t → Fits own t → term_left keep ground (subst t ts) ≡ subst (term_left keep own t) new
      left-subst (node (Var j) us) r p =
          left-applied (replaced (Var j) ts) (substs us ts) (its_fit j r.0 p.0)
          ∙ λ i. applied (sym (its_left j r.0 p.0) i) ((sym (chosen_trees-all (terms_left keep ground (substs us ts))) ∙ left-substs (λ _. true) us r.2 p.1) i)
      left-subst (node (Nt g) us) r p = ap (node (Nt g)) (left-substs (keep g) us r.2 p.1)
      left-subst (node (Tm a) us) r p = ap (node (Tm a)) (left-substs (λ _. true) us r.2 p.1)

      left-substs : (stays : ℕ → Bool) (us : Trees Head) → TermsInRange params rules terminals us → FitsIn own stays us
          → chosen_trees stays (terms_left keep ground (substs us ts)) ≡ substs (chosen_trees stays (terms_left keep own us)) new
      left-substs stays none r p = refl
      left-substs stays (more u us) r p = by (stays 0) refl (λ e. left-subst u r.0 (p.0 e)) (left-substs (λ i. stays (suc i)) us r.1 p.1)
        where
          by : (b : Bool) → stays 0 ≡ b → (stays 0 ≡ true → term_left keep ground (subst u ts) ≡ subst (term_left keep own u) new)
              → chosen_trees (λ i. stays (suc i)) (terms_left keep ground (substs us ts)) ≡ substs (chosen_trees (λ i. stays (suc i)) (terms_left keep own us)) new
              → cond b (more (term_left keep ground (subst u ts)) (chosen_trees (λ i. stays (suc i)) (terms_left keep ground (substs us ts)))) (chosen_trees (λ i. stays (suc i)) (terms_left keep ground (substs us ts)))
              ≡ substs (cond b (more (term_left keep own u) (chosen_trees (λ i. stays (suc i)) (terms_left keep own us))) (chosen_trees (λ i. stays (suc i)) (terms_left keep own us))) new
          by true e here below = λ i. more (here e i) (below i)
          by false e here below = below

    mutual
      pub fits-subst : (t : Tree Head) → TermInRange params rules terminals t → Fits own t → Fits ground (subst t ts)
      fits-subst (node (Var j) us) r p = fits-applied (replaced (Var j) ts) (substs us ts) (its_fit j r.0 p.0) (fits-substs (λ _. true) us r.2 p.1)
      fits-subst (node (Nt g) us) r p = (λ i le. p.0 i (omega (arith, le, length-substs us ts)), fits-substs (keep g) us r.2 p.1)
      fits-subst (node (Tm a) us) r p = (tt, fits-substs (λ _. true) us r.2 p.1)

      fits-substs : (stays : ℕ → Bool) (us : Trees Head) → TermsInRange params rules terminals us → FitsIn own stays us → FitsIn ground stays (substs us ts)
      fits-substs stays none r p = tt
      fits-substs stays (more u us) r p = (λ e. fits-subst u r.0 (p.0 e), fits-substs (λ i. stays (suc i)) us r.1 p.1)
