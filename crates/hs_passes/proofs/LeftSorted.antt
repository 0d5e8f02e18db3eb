-- With the parameters that stay, a scheme is sorted, and no heavier.
use Rattle.std.proofs.Common.{◌≡◌, refl, sym, ◌∙◌, ap, subst, ℕ, zero, suc, ◌<◌, ◌≤◌, Bool, true, false, cond, List, [], ◌∷◌, length, map, get_or, slice_get, option_map, Option, Some, None, unwrap_or, inl, inr, arith}
use Rattle.std.specs.Prelude.{sum_by}
use Rattle.std.proofs.lemmas.Option.{slice_get_within, slice_get_cases, slice_get_past, slice_get-get_or, get_or_from_slice_get}
use Rattle.std.proofs.lemmas.List.Sums.{sum_by-cons}
use Rattle.hs_scheme.specs.declared.term.Head.{Head}
use Rattle.hs_scheme.specs.declared.term.Head.TheVariants.{Var, Nt, Tm}
use Rattle.hs_scheme.specs.declared.term.Rule.{Rule}
use Rattle.hs_scheme.specs.Tree.{Tree, Trees, node, none, more, children}
use Rattle.hs_scheme.specs.Scheme.{IsScheme, HeadInRange, TermInRange, TermsInRange}
use Rattle.hs_scheme.specs.sorting.Sorting.{SortTree, o, arrow, arrows, behind, without, arguments, Sorts, heads, HasSort, Applied, IsSorting}
use Rattle.hs_scheme.specs.sorting.Sorted.{SortedData, IsSorted, sort_at, sorts_of, known}
use Rattle.hs_passes.specs.Selection.{place, chosen}
use Rattle.hs_passes.specs.Weight.{params_of, weight}
use Rattle.hs_passes.specs.Leaving.{Keep, keeps, chosen_trees, head_left, term_left, terms_left, rule_left, sort_left, by_number, with_parameters}
use Rattle.hs_passes.proofs.Choosing.{length-chosen, place-le, place-lt, chosen-at}
use Rattle.hs_passes.proofs.Remaining.{children-chosen, length-left, at_number, length-by_number, sort_left-all}
use Rattle.hs_passes.proofs.Places.{place-mono, place-less}
use Rattle.hs_passes.proofs.Fitting.{Fits, FitsIn}
use Rattle.hs_passes.proofs.Simulation.{Before, before}

module _ (keep : Keep) (own : ℕ → Bool) (params rules terminals : ℕ) where
  own_in_range : (h : Head) (ts : Trees Head) → Fits keep own (node h ts) → HeadInRange params rules terminals h → HeadInRange (place own params) rules terminals (head_left own h)
  own_in_range (Var j) ts p r = place-lt own j params p.0 r
  own_in_range (Nt f) ts p r = r
  own_in_range (Tm a) ts p r = r

  mutual
    pub left_in_range : (t : Tree Head) → Fits keep own t → TermInRange params rules terminals t → TermInRange (place own params) rules terminals (term_left keep own t)
    left_in_range (node h ts) p r = (
      own_in_range h ts p r.0,
      omega (arith, r.1, length-left keep own (keeps keep h) ts, place-le (keeps keep h) (length (children ts))),
      those_in_range (keeps keep h) ts p.1 r.2,
    )

    those_in_range : (stays : ℕ → Bool) (ts : Trees Head) → FitsIn keep own stays ts → TermsInRange params rules terminals ts → TermsInRange (place own params) rules terminals (chosen_trees stays (terms_left keep own ts))
    those_in_range stays none p r = tt
    those_in_range stays (more t ts) p r = by (stays 0) refl (λ e. left_in_range t (p.0 e) r.0) (those_in_range (λ i. stays (suc i)) ts p.1 r.1)
      where
        by : (b : Bool) → stays 0 ≡ b → (stays 0 ≡ true → TermInRange (place own params) rules terminals (term_left keep own t))
            → TermsInRange (place own params) rules terminals (chosen_trees (λ i. stays (suc i)) (terms_left keep own ts))
            → TermsInRange (place own params) rules terminals (cond b (more (term_left keep own t) (chosen_trees (λ i. stays (suc i)) (terms_left keep own ts))) (chosen_trees (λ i. stays (suc i)) (terms_left keep own ts)))
        by true e here below = (here e, below)
        by false e here below = below

sort_left-arrow : (p : ℕ → Bool) (a b : SortTree) → sort_left p (arrow a b) ≡ cond (p 0) (arrow a (sort_left (λ i. p (suc i)) b)) (sort_left (λ i. p (suc i)) b)
sort_left-arrow p a (node u ks) = by (p 0)
  where
    by : (c : Bool) → node u (cond c (more a (chosen_trees (λ i. p (suc i)) ks)) (chosen_trees (λ i. p (suc i)) ks))
        ≡ cond c (node u (more a (chosen_trees (λ i. p (suc i)) ks))) (node u (chosen_trees (λ i. p (suc i)) ks))
    by true = refl
    by false = refl

pub arguments-left : (p : ℕ → Bool) (k : SortTree) → arguments (sort_left p k) ≡ chosen p (arguments k)
arguments-left p (node u ks) = children-chosen p ks

pub length-arguments : (p : ℕ → Bool) (k : SortTree) → length (arguments (sort_left p k)) ≡ place p (length (arguments k))
length-arguments p k = ap length (arguments-left p k) ∙ length-chosen p (arguments k)

-- a sort as the row of its arguments
as_arrows : (u : Unit {0}) (ks : Trees (Unit {0})) → node u ks ≡ arrows (length (children ks)) (λ j. sort_at (children ks) j) (behind (length (children ks)) (node u ks))
as_arrows u none = refl
as_arrows u (more k ks) = ap (arrow k) (as_arrows u ks)

pub in_arrows : (k : SortTree) → k ≡ arrows (length (arguments k)) (λ j. sort_at (arguments k) j) (behind (length (arguments k)) k)
in_arrows (node u ks) = as_arrows u ks

all_gone : (ks : Trees (Unit {0})) → without (length (children ks)) ks ≡ none
all_gone none = refl
all_gone (more k ks) = all_gone ks

pub nothing_behind : (k : SortTree) → behind (length (arguments k)) k ≡ o
nothing_behind (node tt ks) = ap (node tt) (all_gone ks)

-- the sort of what is left of a term
module _ (keep : Keep) (own : ℕ → Bool) (e other : Head → SortTree)
    (vars : (j : ℕ) → own j ≡ true → other (Var (place own j)) ≡ e (Var j))
    (names : (g : ℕ) → other (Nt g) ≡ sort_left (keep g) (e (Nt g)))
    (tms : (a : ℕ) → other (Tm a) ≡ e (Tm a)) where
  head_sort : (h : Head) (ts : Trees Head) → Fits keep own (node h ts) → other (head_left own h) ≡ sort_left (keeps keep h) (e h)
  head_sort (Var j) ts p = vars j p.0 ∙ sym (sort_left-all (e (Var j)))
  head_sort (Nt g) ts p = names g
  head_sort (Tm a) ts p = tms a ∙ sym (sort_left-all (e (Tm a)))

  open_head : (h : Head) (ts : Trees Head) → Fits keep own (node h ts) → (i : ℕ) → length (children ts) ≤ i → keeps keep h i ≡ true
  open_head (Var j) ts p i le = refl
  open_head (Nt g) ts p i le = p.0 i le
  open_head (Tm a) ts p i le = refl

  mutual
    pub left_sort : (t : Tree Head) (k : SortTree) → Fits keep own t → HasSort e t k → HasSort other (term_left keep own t) k
    left_sort (node h ts) k p has =
        subst (λ (f : SortTree). Applied other (chosen_trees (keeps keep h) (terms_left keep own ts)) f k) (sym (head_sort h ts p))
        (left_sorts (keeps keep h) ts (e h) k (open_head h ts p) p.1 has)

    left_sorts : (stays : ℕ → Bool) (ts : Trees Head) (f k : SortTree) → ((i : ℕ) → length (children ts) ≤ i → stays i ≡ true) → FitsIn keep own stays ts → Applied e ts f k
        → Applied other (chosen_trees stays (terms_left keep own ts)) (sort_left stays f) k
    left_sorts stays none f k all p has =
        (λ i. sort_left (λ j. all j (omega arith) i) f) ∙ (sort_left-all f ∙ has)
    left_sorts stays (more t ts) f k all p (a, b, is, of, rest) =
        subst (λ (g : SortTree). Applied other (chosen_trees stays (terms_left keep own (more t ts))) g k) (sym (ap (sort_left stays) is ∙ sort_left-arrow stays a b))
        (by (stays 0) refl (λ on. left_sort t a (p.0 on) of) (left_sorts (λ i. stays (suc i)) ts b k (λ i le. all (suc i) (omega (arith, le))) p.1 rest))
      where
        by : (c : Bool) → stays 0 ≡ c → (stays 0 ≡ true → HasSort other (term_left keep own t) a)
            → Applied other (chosen_trees (λ i. stays (suc i)) (terms_left keep own ts)) (sort_left (λ i. stays (suc i)) b) k
            → Applied other (cond c (more (term_left keep own t) (chosen_trees (λ i. stays (suc i)) (terms_left keep own ts))) (chosen_trees (λ i. stays (suc i)) (terms_left keep own ts)))
            (cond c (arrow a (sort_left (λ i. stays (suc i)) b)) (sort_left (λ i. stays (suc i)) b)) k
        by true on here below = (a, sort_left (λ i. stays (suc i)) b, refl, here on, below)
        by false on here below = below

module _ (keep : Keep) (s : SortedData) (scheme : IsScheme s.scheme) (sorted : IsSorted s)
    (fit : (f : ℕ) (r : Rule) → slice_get s.scheme.rules f ≡ Some r → Fits keep (keep f) r.body) where
  abbrev rules : List Rule
  rules = s.scheme.rules

  abbrev new : List Rule
  new = by_number (λ f. rule_left keep (keep f)) rules

  abbrev sorts : List SortTree
  sorts = by_number (λ f. sort_left (keep f)) s.sorts

  long : length new ≡ length rules
  long = length-by_number (λ f. rule_left keep (keep f)) rules

  abbrev From : ℕ → Rule → Type 0
  From f r = Before (rule_left keep (keep f)) (slice_get rules f) r

  from : (f : ℕ) (r : Rule) → slice_get new f ≡ Some r → From f r
  from f r at = before (rule_left keep (keep f)) (slice_get rules f) r (sym (at_number (λ g. rule_left keep (keep g)) rules f) ∙ at)

  rule_in_range : (f : ℕ) (r : Rule) → slice_get rules f ≡ Some r → TermInRange r.params (length rules) (length s.scheme.ranks) r.body
  rule_in_range f r at =
      subst (λ (k : Rule). TermInRange k.params (length rules) (length s.scheme.ranks) k.body) (get_or_from_slice_get rules f r r at) (scheme.bodies f r (slice_get_within rules f r at))

  few_in : (f : ℕ) (r : Rule) → slice_get rules f ≡ Some r → r.params ≤ 64
  few_in f r at = subst (λ (k : Rule). k.params ≤ 64) (get_or_from_slice_get rules f r r at) (scheme.few_params f r (slice_get_within rules f r at))

  start_place : place (keep 0) scheme.start.0.params ≡ 0
  start_place = ap (place (keep 0)) scheme.start.1.1

  pub left_is_scheme : IsScheme (with_parameters keep s).scheme
  left_is_scheme = record {
    start = (rule_left keep (keep 0) scheme.start.0, (at_number (λ g. rule_left keep (keep g)) rules 0 ∙ ap (option_map (rule_left keep (keep 0))) scheme.start.1.0, start_place));
    bodies = λ f d lt. in_range f (get_or new f d) (slice_get-get_or new f d lt);
    few_rules = omega (arith, long, scheme.few_rules);
    few_params = λ f d lt. few f (get_or new f d) (slice_get-get_or new f d lt);
  }
    where
      in_range : (f : ℕ) (r : Rule) → slice_get new f ≡ Some r → TermInRange r.params (length new) (length s.scheme.ranks) r.body
      in_range f r at =
          let b = from f r at in
          subst (λ (k : Rule). TermInRange k.params (length new) (length s.scheme.ranks) k.body) b.is
          (subst (λ n. TermInRange (place (keep f) b.item.params) n (length s.scheme.ranks) (term_left keep (keep f) b.item.body)) (sym long)
          (left_in_range keep (keep f) b.item.params (length rules) (length s.scheme.ranks) b.item.body (fit f b.item b.at) (rule_in_range f b.item b.at)))

      few : (f : ℕ) (r : Rule) → slice_get new f ≡ Some r → r.params ≤ 64
      few f r at =
          let b = from f r at in
          subst (λ (k : Rule). k.params ≤ 64) b.is (omega (arith, place-le (keep f) b.item.params, few_in f b.item b.at))

  abbrev old_sorts : Sorts
  old_sorts = sorts_of s.sorts s.scheme.ranks

  abbrev new_sorts : Sorts
  new_sorts = sorts_of sorts s.scheme.ranks

  sort_of : (g : ℕ) → sort_at sorts g ≡ sort_left (keep g) (sort_at s.sorts g)
  sort_of g = ap (λ x. unwrap_or x o) (at_number (λ f. sort_left (keep f)) s.sorts g) ∙ by (slice_get s.sorts g)
    where
      by : (x : Option SortTree) → unwrap_or (option_map (sort_left (keep g)) x) o ≡ sort_left (keep g) (unwrap_or x o)
      by None = refl
      by (Some k) = refl

  new_full : (f : ℕ) (r : Rule) → slice_get new f ≡ Some r → length (arguments (sort_at sorts f)) ≡ r.params
  new_full f r at =
      let b = from f r at in
      ap (λ k. length (arguments k)) (sort_of f)
      ∙ (length-arguments (keep f) (sort_at s.sorts f) ∙ (ap (place (keep f)) (sorted.full f b.item b.at) ∙ ap (λ (q : Rule). q.params) b.is))

  -- behind the arguments of a sort there is none, whichever of them stay
  no_sort : (p : ℕ → Bool) (ks : List SortTree) (j : ℕ) → length ks ≤ j → sort_at (chosen p ks) (place p j) ≡ sort_at ks j
  no_sort p ks j le =
      ap (λ x. unwrap_or x o) (slice_get_past (chosen p ks) (place p j) (omega (arith, length-chosen p ks, place-mono p (length ks) j le)))
      ∙ sym (ap (λ x. unwrap_or x o) (slice_get_past ks j le))

  sort_there : (p : ℕ → Bool) (ks : List SortTree) (j : ℕ) → p j ≡ true → sort_at (chosen p ks) (place p j) ≡ sort_at ks j
  sort_there p ks j on = elim (slice_get_cases ks j).1 [
    | inl (k, lt, at, _) ↦ ap (λ x. unwrap_or x o) (chosen-at p ks j k on at) ∙ sym (ap (λ x. unwrap_or x o) at)
    | inr (past, _) ↦ no_sort p ks j past
  ]

  own_sort : (f j : ℕ) → keep f j ≡ true → new_sorts.parameter f (place (keep f) j) ≡ old_sorts.parameter f j
  own_sort f j on =
      ap (λ k. sort_at (arguments k) (place (keep f) j)) (sort_of f)
      ∙ (ap (λ ks. sort_at ks (place (keep f) j)) (arguments-left (keep f) (sort_at s.sorts f)) ∙ sort_there (keep f) (arguments (sort_at s.sorts f)) j on)

  -- all of a full rule's sort are its parameters' sorts
  body_sort : (k : SortTree) (n : ℕ) → length (arguments k) ≡ n → behind n k ≡ o
  body_sort k n e = ap (λ m. behind m k) (sym e) ∙ nothing_behind k

  new_sorting : IsSorting new (known s.scheme.ranks) (length new) new_sorts
  new_sorting = record {
    nonterminals = λ f r at.
        let k = sort_at sorts f in
        subst (λ n. k ≡ arrows n (new_sorts.parameter f) (behind n k)) (new_full f r at) (in_arrows k);
    bodies = λ f r lt at.
        let b = from f r at in
        subst (λ (q : Rule). HasSort (heads new_sorts f) q.body (behind r.params (sort_at sorts f))) b.is
        (subst (λ (k : SortTree). HasSort (heads new_sorts f) (term_left keep (keep f) b.item.body) k)
        (body_sort (sort_at s.sorts f) b.item.params (sorted.full f b.item b.at) ∙ sym (body_sort (sort_at sorts f) r.params (new_full f r at)))
        (left_sort keep (keep f) (heads old_sorts f) (heads new_sorts f) (own_sort f) sort_of (λ a. refl) b.item.body (behind b.item.params (sort_at s.sorts f)) (fit f b.item b.at)
        (sorted.sorting.bodies f b.item (slice_get_within rules f b.item b.at) b.at)));
    start = sort_of 0 ∙ ap (sort_left (keep 0)) sorted.sorting.start;
    terminals = sorted.sorting.terminals;
  }

  -- as many names as parameters
  named : (g : ℕ → ℕ → Bool) (names : List (List (List ℕ))) (rs : List Rule) → map (λ ns. length ns) names ≡ map (λ (r : Rule). r.params) rs
      → map (λ ns. length ns) (by_number (λ f. chosen (g f)) names) ≡ map (λ (r : Rule). r.params) (by_number (λ f. rule_left keep (g f)) rs)
  named g [] [] e = refl
  named g [] (r ∷ rs) e = absurd (cc)
  named g (ns ∷ names) [] e = absurd (cc)
  named g (ns ∷ names) (r ∷ rs) e =
      let here : length ns ≡ r.params = (cc) in
      let rest : map (λ ns. length ns) names ≡ map (λ (r : Rule). r.params) rs = (cc) in
      λ i. (length-chosen (g 0) ns ∙ ap (place (g 0)) here) i ∷ named (λ f. g (suc f)) names rs rest i

  pub left_is_sorted : IsSorted (with_parameters keep s)
  left_is_sorted = record {
    each_rule = length-by_number (λ f. sort_left (keep f)) s.sorts ∙ (sorted.each_rule ∙ sym long);
    sorting = new_sorting;
    full = new_full;
    ranks = sorted.ranks;
    names = record {
      each_rule = sorted.names.each_rule ∙ sym long;
      each_param = named keep s.names.params rules sorted.names.each_param;
      each_terminal = sorted.names.each_terminal;
      each_state = sorted.names.each_state;
    };
  }

-- fewer parameters are no heavier
params_left : (keep : Keep) (g : ℕ → ℕ → Bool) (rules : List Rule) → sum_by params_of (by_number (λ f. rule_left keep (g f)) rules) ≤ sum_by params_of rules
params_left keep g [] = omega arith
params_left keep g (r ∷ rules) =
    let below = params_left keep (λ f. g (suc f)) rules in
    omega (arith, below, place-le (g 0) r.params, sum_by-cons params_of r rules, sum_by-cons params_of (rule_left keep (g 0) r) (by_number (λ f. rule_left keep (g (suc f))) rules))

pub left_lighter : (keep : Keep) (s : SortedData) → weight (with_parameters keep s) ≤ weight s
left_lighter keep s = omega (arith, params_left keep keep s.scheme.rules, length-by_number (λ f. rule_left keep (keep f)) s.scheme.rules)

-- and where one goes, there are fewer
fewer : (keep : Keep) (g : ℕ → ℕ → Bool) (rules : List Rule) (f j : ℕ) (r : Rule) → slice_get rules f ≡ Some r → j < r.params → g f j ≡ false
    → sum_by params_of (by_number (λ h. rule_left keep (g h)) rules) < sum_by params_of rules
fewer keep g [] f j r at lt gone = absurd (cc)
fewer keep g (q ∷ rules) zero j r at lt gone =
    let is : q ≡ r = (cc) in
    let less = place-less (g 0) j q.params gone (subst (λ (x : Rule). j < x.params) (sym is) lt) in
    omega (arith, less, params_left keep (λ h. g (suc h)) rules, sum_by-cons params_of q rules, sum_by-cons params_of (rule_left keep (g 0) q) (by_number (λ h. rule_left keep (g (suc h))) rules))
fewer keep g (q ∷ rules) (suc f) j r at lt gone =
    let below = fewer keep (λ h. g (suc h)) rules f j r at lt gone in
    omega (arith, below, place-le (g 0) q.params, sum_by-cons params_of q rules, sum_by-cons params_of (rule_left keep (g 0) q) (by_number (λ h. rule_left keep (g (suc h))) rules))

pub left_fewer : (keep : Keep) (s : SortedData) (f j : ℕ) (r : Rule) → slice_get s.scheme.rules f ≡ Some r → j < r.params → keep f j ≡ false
    → sum_by params_of (with_parameters keep s).scheme.rules < sum_by params_of s.scheme.rules
left_fewer keep s f j r at lt gone = fewer keep keep s.scheme.rules f j r at lt gone
