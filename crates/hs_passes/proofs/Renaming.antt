-- Terms under new names of their nonterminals: replacements, sorts and steps.
use Rattle.std.proofs.Common.{◌≡◌, refl, sym, ◌∙◌, ap, ℕ, zero, suc, ◌<◌, ◌≤◌, Bool, true, false, cond, nat_le, List, [], ◌∷◌, length, map, take, drop, slice_get, option_map, Option, Some, None, unwrap_or, inl, inr, arith}
use Rattle.std.proofs.Common.{subst as along}
use Rattle.std.proofs.lemmas.Bool.{or_left, or_right, eq-eqb, eqb-true, or_cases}
use Rattle.std.proofs.lemmas.Option.{slice_get-map}
use Rattle.std.proofs.lemmas.List.{take-map, drop-map, length-map}
use Rattle.hs_scheme.specs.declared.term.Head.{Head}
use Rattle.hs_scheme.specs.declared.term.Head.TheVariants.{Var, Nt, Tm}
use Rattle.hs_scheme.specs.declared.term.Rule.{Rule}
use Rattle.hs_scheme.specs.Tree.{Tree, Trees, node, none, more, join, children, forest}
use Rattle.hs_scheme.specs.acceptance.Replacement.{subst, substs, replaced, applied}
use Rattle.hs_scheme.specs.acceptance.Cut.{body_of, body_with}
use Rattle.hs_scheme.specs.Scheme.{HeadInRange, TermInRange, TermsInRange}
use Rattle.hs_scheme.specs.sorting.Sorting.{SortTree, HasSort, Applied}
use Rattle.hs_passes.specs.Occurrences.{is_nonterminal, mentions, mentioned_in}
use Rattle.hs_passes.specs.Selection.{renamed_head, renamed, renamed_all, renamed_rule}

-- each nonterminal of the term has this property
module _ (K : ℕ → Type 0) where
  abbrev pub HeadIn : Head → Type 0
  HeadIn (Var j) = Unit {0}
  HeadIn (Nt f) = K f
  HeadIn (Tm a) = Unit {0}

  abbrev mutual
    pub NamesIn : Tree Head → Type 0
    NamesIn (node h ts) = HeadIn h × NamesAllIn ts

    pub NamesAllIn : Trees Head → Type 0
    NamesAllIn none = Unit {0}
    NamesAllIn (more t ts) = NamesIn t × NamesAllIn ts

  head_of_mentions : (h : Head) → ((f : ℕ) → is_nonterminal f h ≡ true → K f) → HeadIn h
  head_of_mentions (Var j) each = tt
  head_of_mentions (Nt f) each = each f (eq-eqb f f refl)
  head_of_mentions (Tm a) each = tt

  mutual
    pub of_mentions : (t : Tree Head) → ((f : ℕ) → mentions f t ≡ true → K f) → NamesIn t
    of_mentions (node h ts) each =
        (head_of_mentions h (λ f e. each f (or_left (is_nonterminal f h) (mentioned_in f ts) e)), of_mentioned ts (λ f e. each f (or_right (is_nonterminal f h) (mentioned_in f ts) e)))

    of_mentioned : (ts : Trees Head) → ((f : ℕ) → mentioned_in f ts ≡ true → K f) → NamesAllIn ts
    of_mentioned none each = tt
    of_mentioned (more t ts) each =
        (of_mentions t (λ f e. each f (or_left (mentions f t) (mentioned_in f ts) e)), of_mentioned ts (λ f e. each f (or_right (mentions f t) (mentioned_in f ts) e)))

  names-join : (us vs : Trees Head) → NamesAllIn us → NamesAllIn vs → NamesAllIn (join us vs)
  names-join none vs p q = q
  names-join (more u us) vs p q = (p.0, names-join us vs p.1 q)

  names-applied : (t : Tree Head) (us : Trees Head) → NamesIn t → NamesAllIn us → NamesIn (applied t us)
  names-applied (node h ts) us p q = (p.0, names-join ts us p.1 q)

  abbrev AllIn : List (Tree Head) → Type 0
  AllIn ts = NamesAllIn (forest ts)

  pub names-at : (ts : List (Tree Head)) (j : ℕ) (u : Tree Head) → AllIn ts → slice_get ts j ≡ Some u → NamesIn u
  names-at [] j u p at = absurd (cc)
  names-at (t ∷ ts) zero u p at = let e : t ≡ u = (cc) in along NamesIn e p.0
  names-at (t ∷ ts) (suc j) u p at = names-at ts j u p.1 at

  names-take : (n : ℕ) (ts : List (Tree Head)) → AllIn ts → AllIn (take n ts)
  names-take zero ts p = tt
  names-take (suc n) [] p = tt
  names-take (suc n) (t ∷ ts) p = (p.0, names-take n ts p.1)

  names-drop : (n : ℕ) (ts : List (Tree Head)) → AllIn ts → AllIn (drop n ts)
  names-drop zero ts p = p
  names-drop (suc n) [] p = tt
  names-drop (suc n) (t ∷ ts) p = names-drop n ts p.1

  pub names-children : (ts : Trees Head) → NamesAllIn ts → AllIn (children ts)
  names-children none p = tt
  names-children (more t ts) p = (p.0, names-children ts p.1)

  names-replaced : (h : Head) (ts : List (Tree Head)) → HeadIn h → AllIn ts → NamesIn (replaced h ts)
  names-replaced (Var j) ts p q = by (slice_get ts j) refl
    where
      by : (o : Option (Tree Head)) → slice_get ts j ≡ o → NamesIn (unwrap_or o (node (Var j) none))
      by None at = (tt, tt)
      by (Some u) at = names-at ts j u q at
  names-replaced (Nt f) ts p q = (p, tt)
  names-replaced (Tm a) ts p q = (tt, tt)

  mutual
    names-subst : (t : Tree Head) (ts : List (Tree Head)) → NamesIn t → AllIn ts → NamesIn (subst t ts)
    names-subst (node h us) ts p q = names-applied (replaced h ts) (substs us ts) (names-replaced h ts p.0 q) (names-substs us ts p.1 q)

    names-substs : (us : Trees Head) (ts : List (Tree Head)) → NamesAllIn us → AllIn ts → NamesAllIn (substs us ts)
    names-substs none ts p q = tt
    names-substs (more u us) ts p q = (names-subst u ts p.0 q, names-substs us ts p.1 q)

  pub names-body : (r : Rule) (ts : List (Tree Head)) → NamesIn r.body → AllIn ts → NamesIn (body_of r ts)
  names-body r ts p q =
      names-applied (subst r.body (take r.params ts)) (forest (drop r.params ts)) (names-subst r.body (take r.params ts) p (names-take r.params ts q)) (names-drop r.params ts q)

-- a nonterminal that occurs in a term in range is in range
head_below : (f params n terminals : ℕ) (h : Head) → HeadInRange params n terminals h → is_nonterminal f h ≡ true → f < n
head_below f params n terminals (Var j) r e = absurd (cc)
head_below f params n terminals (Nt g) r e = let is : g ≡ f = eqb-true g f e in omega arith
head_below f params n terminals (Tm a) r e = absurd (cc)

mutual
  pub mention_below : (f params n terminals : ℕ) (t : Tree Head) → TermInRange params n terminals t → mentions f t ≡ true → f < n
  mention_below f params n terminals (node h ts) r e = elim (or_cases (is_nonterminal f h) (mentioned_in f ts) e) [
    | inl p ↦ head_below f params n terminals h r.0 p
    | inr p ↦ mentioned_below f params n terminals ts r.2 p
  ]

  mentioned_below : (f params n terminals : ℕ) (ts : Trees Head) → TermsInRange params n terminals ts → mentioned_in f ts ≡ true → f < n
  mentioned_below f params n terminals none r e = absurd (cc)
  mentioned_below f params n terminals (more t ts) r e = elim (or_cases (mentions f t) (mentioned_in f ts) e) [
    | inl p ↦ mention_below f params n terminals t r.0 p
    | inr p ↦ mentioned_below f params n terminals ts r.1 p
  ]

-- two ways to rename that agree on the nonterminals of a term
module _ (to other : ℕ → ℕ) where
  same_head : (h : Head) → HeadIn (λ f. to f ≡ other f) h → renamed_head to h ≡ renamed_head other h
  same_head (Var j) p = refl
  same_head (Nt f) p = ap Nt p
  same_head (Tm a) p = refl

  mutual
    pub renamed-same : (t : Tree Head) → NamesIn (λ f. to f ≡ other f) t → renamed to t ≡ renamed other t
    renamed-same (node h ts) p = λ i. node (same_head h p.0 i) (renamed_all-same ts p.1 i)

    renamed_all-same : (ts : Trees Head) → NamesAllIn (λ f. to f ≡ other f) ts → renamed_all to ts ≡ renamed_all other ts
    renamed_all-same none p = refl
    renamed_all-same (more t ts) p = λ i. more (renamed-same t p.0 i) (renamed_all-same ts p.1 i)

module _ (to : ℕ → ℕ) where
  renamed-join : (us vs : Trees Head) → renamed_all to (join us vs) ≡ join (renamed_all to us) (renamed_all to vs)
  renamed-join none vs = refl
  renamed-join (more u us) vs = ap (more (renamed to u)) (renamed-join us vs)

  renamed-applied : (t : Tree Head) (us : Trees Head) → renamed to (applied t us) ≡ applied (renamed to t) (renamed_all to us)
  renamed-applied (node h ts) us = ap (node (renamed_head to h)) (renamed-join ts us)

  pub children-renamed : (us : Trees Head) → children (renamed_all to us) ≡ map (renamed to) (children us)
  children-renamed none = refl
  children-renamed (more u us) = ap (λ vs. renamed to u ∷ vs) (children-renamed us)

  pub forest-renamed : (us : List (Tree Head)) → renamed_all to (forest us) ≡ forest (map (renamed to) us)
  forest-renamed [] = refl
  forest-renamed (u ∷ us) = ap (more (renamed to u)) (forest-renamed us)

  renamed-replaced : (h : Head) (ts : List (Tree Head)) → renamed to (replaced h ts) ≡ replaced (renamed_head to h) (map (renamed to) ts)
  renamed-replaced (Var j) ts = by (slice_get ts j) ∙ ap (λ o. unwrap_or o (node (Var j) none)) (sym (slice_get-map (renamed to) ts j))
    where
      by : (o : Option (Tree Head)) → renamed to (unwrap_or o (node (Var j) none)) ≡ unwrap_or (option_map (renamed to) o) (node (Var j) none)
      by None = refl
      by (Some u) = refl
  renamed-replaced (Nt f) ts = refl
  renamed-replaced (Tm a) ts = refl

  mutual
    renamed-subst : (t : Tree Head) (ts : List (Tree Head)) → renamed to (subst t ts) ≡ subst (renamed to t) (map (renamed to) ts)
    renamed-subst (node h us) ts =
        renamed-applied (replaced h ts) (substs us ts) ∙ (λ i. applied (renamed-replaced h ts i) (renamed-substs us ts i))

    renamed-substs : (us : Trees Head) (ts : List (Tree Head)) → renamed_all to (substs us ts) ≡ substs (renamed_all to us) (map (renamed to) ts)
    renamed-substs none ts = refl
    renamed-substs (more u us) ts = λ i. more (renamed-subst u ts i) (renamed-substs us ts i)

  renamed-body : (r : Rule) (ts : List (Tree Head)) → body_of (renamed_rule to r) (map (renamed to) ts) ≡ renamed to (body_of r ts)
  renamed-body r ts = sym (
      renamed-applied (subst r.body (take r.params ts)) (forest (drop r.params ts))
      ∙ (λ i. applied ((renamed-subst r.body (take r.params ts) ∙ ap (subst (renamed to r.body)) (sym (take-map (renamed to) r.params ts))) i)
      ((forest-renamed (drop r.params ts) ∙ ap forest (sym (drop-map (renamed to) r.params ts))) i)))

  pub renamed-body_with : (o : Option Rule) (ts : List (Tree Head)) → body_with (option_map (renamed_rule to) o) (map (renamed to) ts) ≡ option_map (renamed to) (body_with o ts)
  renamed-body_with None ts = refl
  renamed-body_with (Some r) ts =
      ap (λ n. cond (nat_le r.params n) (Some (body_of (renamed_rule to r) (map (renamed to) ts))) None) (length-map ts (renamed to))
      ∙ (ap (λ u. cond (nat_le r.params (length ts)) (Some u) None) (renamed-body r ts) ∙ by (nat_le r.params (length ts)))
    where
      by : (b : Bool) → cond b (Some (renamed to (body_of r ts))) None ≡ option_map (renamed to) (cond b (Some (body_of r ts)) None)
      by true = refl
      by false = refl

  -- the sort of a term in which the new names have the sorts of the old
  module _ (e other : Head → SortTree) where
    same_sort : (h : Head) → HeadIn (λ f. other (Nt (to f)) ≡ e (Nt f)) h → ((j : ℕ) → other (Var j) ≡ e (Var j)) → ((a : ℕ) → other (Tm a) ≡ e (Tm a)) → other (renamed_head to h) ≡ e h
    same_sort (Var j) p vars tms = vars j
    same_sort (Nt f) p vars tms = p
    same_sort (Tm a) p vars tms = tms a

    mutual
      pub renamed_sort : (t : Tree Head) (k : SortTree) → NamesIn (λ f. other (Nt (to f)) ≡ e (Nt f)) t
          → ((j : ℕ) → other (Var j) ≡ e (Var j)) → ((a : ℕ) → other (Tm a) ≡ e (Tm a)) → HasSort e t k → HasSort other (renamed to t) k
      renamed_sort (node h ts) k p vars tms has =
          along (λ (f : SortTree). Applied other (renamed_all to ts) f k) (sym (same_sort h p.0 vars tms)) (renamed_sorts ts (e h) k p.1 vars tms has)

      renamed_sorts : (ts : Trees Head) (f k : SortTree) → NamesAllIn (λ f. other (Nt (to f)) ≡ e (Nt f)) ts
          → ((j : ℕ) → other (Var j) ≡ e (Var j)) → ((a : ℕ) → other (Tm a) ≡ e (Tm a)) → Applied e ts f k → Applied other (renamed_all to ts) f k
      renamed_sorts none f k p vars tms has = has
      renamed_sorts (more t ts) f k p vars tms (a, b, is, of, others) = (a, b, is, renamed_sort t a p.0 vars tms of, renamed_sorts ts b k p.1 vars tms others)

-- a term in range whose nonterminals get names in range is in range
module _ (to : ℕ → ℕ) (params n m terminals : ℕ) where
  renamed_head_in_range : (h : Head) → HeadIn (λ f. to f < m) h → HeadInRange params n terminals h → HeadInRange params m terminals (renamed_head to h)
  renamed_head_in_range (Var j) p r = r
  renamed_head_in_range (Nt f) p r = p
  renamed_head_in_range (Tm a) p r = r

  mutual
    pub renamed_in_range : (t : Tree Head) → NamesIn (λ f. to f < m) t → TermInRange params n terminals t → TermInRange params m terminals (renamed to t)
    renamed_in_range (node h ts) p r =
        (renamed_head_in_range h p.0 r.0, along (λ (k : ℕ). k ≤ 64) (sym (ap (λ us. length us) (children-renamed to ts) ∙ length-map (children ts) (renamed to))) r.1, renamed_all_in_range ts p.1 r.2)

    renamed_all_in_range : (ts : Trees Head) → NamesAllIn (λ f. to f < m) ts → TermsInRange params n terminals ts → TermsInRange params m terminals (renamed_all to ts)
    renamed_all_in_range none p r = tt
    renamed_all_in_range (more t ts) p r = (renamed_in_range t p.0 r.0, renamed_all_in_range ts p.1 r.1)
