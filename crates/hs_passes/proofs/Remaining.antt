-- Trees that stay in rows of trees, and lists made by number.
use Rattle.std.proofs.Common.{◌≡◌, refl, sym, ◌∙◌, ap, ℕ, zero, suc, ◌+◌, ◌<◌, ◌≤◌, Bool, true, false, cond, List, [], ◌∷◌, ◌++◌, length, map, take, get_or, slice_get, option_map, Some, arith, add-one}
use Rattle.std.proofs.lemmas.List.{length-map}
use Rattle.std.proofs.Math.Seq.{take-suc}
use Rattle.std.specs.Prelude.{◌&&◌}
use Rattle.std.proofs.Math.Numerals.{one-add}
use Rattle.hs_scheme.specs.declared.term.Head.{Head}
use Rattle.hs_scheme.specs.declared.term.Head.TheVariants.{Var, Nt, Tm}
use Rattle.hs_scheme.specs.declared.term.Rule.{Rule}
use Rattle.hs_scheme.specs.Tree.{Tree, Trees, node, none, more, join, children, forest, forest-children}
use Rattle.hs_scheme.specs.sorting.Sorting.{SortTree}
use Rattle.hs_scheme.specs.sorting.Sorted.{SortedData}
use Rattle.hs_passes.specs.Selection.{place, chosen}
use Rattle.hs_passes.specs.Leaving.{Keep, keeps, chosen_trees, head_left, term_left, terms_left, rule_left, sort_left, by_number, with_parameters}
use Rattle.hs_passes.proofs.Choosing.{length-chosen, chosen-chosen, place-place}

pub children-chosen : {A : Type 0} (stays : ℕ → Bool) (ts : Trees A) → children (chosen_trees stays ts) ≡ chosen stays (children ts)
children-chosen stays none = refl
children-chosen stays (more t ts) = by (stays 0) (children-chosen (λ i. stays (suc i)) ts)
  where
    by : (b : Bool) → children (chosen_trees (λ i. stays (suc i)) ts) ≡ chosen (λ i. stays (suc i)) (children ts)
        → children (cond b (more t (chosen_trees (λ i. stays (suc i)) ts)) (chosen_trees (λ i. stays (suc i)) ts))
        ≡ cond b (t ∷ chosen (λ i. stays (suc i)) (children ts)) (chosen (λ i. stays (suc i)) (children ts))
    by true e = ap (λ us. t ∷ us) e
    by false e = e

pub forest-chosen : {A : Type 0} (stays : ℕ → Bool) (ts : List (Tree A)) → forest (chosen stays ts) ≡ chosen_trees stays (forest ts)
forest-chosen stays [] = refl
forest-chosen stays (t ∷ ts) = by (stays 0) (forest-chosen (λ i. stays (suc i)) ts)
  where
    by : (b : Bool) → forest (chosen (λ i. stays (suc i)) ts) ≡ chosen_trees (λ i. stays (suc i)) (forest ts)
        → forest (cond b (t ∷ chosen (λ i. stays (suc i)) ts) (chosen (λ i. stays (suc i)) ts))
        ≡ cond b (more t (chosen_trees (λ i. stays (suc i)) (forest ts))) (chosen_trees (λ i. stays (suc i)) (forest ts))
    by true e = ap (more t) e
    by false e = e

pub chosen_trees-all : {A : Type 0} (ts : Trees A) → chosen_trees (λ _. true) ts ≡ ts
chosen_trees-all none = refl
chosen_trees-all (more t ts) = ap (more t) (chosen_trees-all ts)

pub length-chosen_trees : {A : Type 0} (stays : ℕ → Bool) (ts : Trees A) → length (children (chosen_trees stays ts)) ≡ place stays (length (children ts))
length-chosen_trees stays ts = ap length (children-chosen stays ts) ∙ length-chosen stays (children ts)

-- where all behind the first row stay
pub chosen_trees-join : {A : Type 0} (stays : ℕ → Bool) (us vs : Trees A) → ((i : ℕ) → length (children us) ≤ i → stays i ≡ true) → chosen_trees stays (join us vs) ≡ join (chosen_trees stays us) vs
chosen_trees-join stays none vs all = (λ k. chosen_trees (λ i. all i (omega arith) k) vs) ∙ chosen_trees-all vs
chosen_trees-join stays (more u us) vs all = by (stays 0) (chosen_trees-join (λ i. stays (suc i)) us vs (λ i le. all (suc i) (omega (arith, le))))
  where
    by : (b : Bool) → chosen_trees (λ i. stays (suc i)) (join us vs) ≡ join (chosen_trees (λ i. stays (suc i)) us) vs
        → cond b (more u (chosen_trees (λ i. stays (suc i)) (join us vs))) (chosen_trees (λ i. stays (suc i)) (join us vs))
        ≡ join (cond b (more u (chosen_trees (λ i. stays (suc i)) us)) (chosen_trees (λ i. stays (suc i)) us)) vs
    by true e = ap (more u) e
    by false e = e

module _ (keep : Keep) (own : ℕ → Bool) where
  pub children-terms_left : (us : Trees Head) → children (terms_left keep own us) ≡ map (term_left keep own) (children us)
  children-terms_left none = refl
  children-terms_left (more u us) = ap (λ vs. term_left keep own u ∷ vs) (children-terms_left us)

  pub forest-terms_left : (us : List (Tree Head)) → terms_left keep own (forest us) ≡ forest (map (term_left keep own) us)
  forest-terms_left [] = refl
  forest-terms_left (u ∷ us) = ap (more (term_left keep own u)) (forest-terms_left us)

  pub terms_left-join : (us vs : Trees Head) → terms_left keep own (join us vs) ≡ join (terms_left keep own us) (terms_left keep own vs)
  terms_left-join none vs = refl
  terms_left-join (more u us) vs = ap (more (term_left keep own u)) (terms_left-join us vs)

  pub length-terms_left : (us : Trees Head) → length (children (terms_left keep own us)) ≡ length (children us)
  length-terms_left us = ap length (children-terms_left us) ∙ length-map (children us) (term_left keep own)

  pub children-left : (stays : ℕ → Bool) (us : Trees Head) → children (chosen_trees stays (terms_left keep own us)) ≡ chosen stays (map (term_left keep own) (children us))
  children-left stays us = children-chosen stays (terms_left keep own us) ∙ ap (chosen stays) (children-terms_left us)

  pub length-left : (stays : ℕ → Bool) (us : Trees Head) → length (children (chosen_trees stays (terms_left keep own us))) ≡ place stays (length (children us))
  length-left stays us = length-chosen_trees stays (terms_left keep own us) ∙ ap (place stays) (length-terms_left us)

pub at_number : {A B : Type 0} (g : ℕ → A → B) (xs : List A) (f : ℕ) → slice_get (by_number g xs) f ≡ option_map (g f) (slice_get xs f)
at_number g [] f = refl
at_number g (x ∷ xs) zero = refl
at_number g (x ∷ xs) (suc f) = at_number (λ i. g (suc i)) xs f

pub length-by_number : {A B : Type 0} (g : ℕ → A → B) (xs : List A) → length (by_number g xs) ≡ length xs
length-by_number g [] = refl
length-by_number g (x ∷ xs) = ap suc (length-by_number (λ i. g (suc i)) xs)

pub by_number-twice : {A B C : Type 0} (h : ℕ → B → C) (g : ℕ → A → B) (xs : List A) → by_number h (by_number g xs) ≡ by_number (λ f x. h f (g f x)) xs
by_number-twice h g [] = refl
by_number-twice h g (x ∷ xs) = ap (λ ys. h 0 (g 0 x) ∷ ys) (by_number-twice (λ f. h (suc f)) (λ f. g (suc f)) xs)

pub by_number-same : {A B : Type 0} (g h : ℕ → A → B) (xs : List A) → ((f : ℕ) (x : A) → slice_get xs f ≡ Some x → g f x ≡ h f x) → by_number g xs ≡ by_number h xs
by_number-same g h [] same = refl
by_number-same g h (x ∷ xs) same = λ i. same 0 x refl i ∷ by_number-same (λ f. g (suc f)) (λ f. h (suc f)) xs (λ f y at. same (suc f) y at) i

by_number-append : {A B : Type 0} (g : ℕ → A → B) (xs : List A) (x : A) → by_number g (xs ++ x ∷ []) ≡ by_number g xs ++ g (length xs) x ∷ []
by_number-append g [] x = refl
by_number-append g (y ∷ xs) x = ap (λ ys. g 0 y ∷ ys) (by_number-append (λ f. g (suc f)) xs x)

-- one element more
pub numbered_more : {A B : Type 0} (g : ℕ → A → B) (xs : List A) (i : ℕ) (d : A) → i < length xs → length (take i xs) ≡ i
    → by_number g (take (i + 1) xs) ≡ by_number g (take i xs) ++ g i (get_or xs i d) ∷ []
numbered_more g xs i d lt long =
    ap (λ n. by_number g (take n xs)) (add-one i)
    ∙ (ap (by_number g) (take-suc xs i d lt)
    ∙ (by_number-append g (take i xs) (get_or xs i d) ∙ ap (λ n. by_number g (take i xs) ++ g n (get_or xs i d) ∷ []) long))

-- parameters that go after others
module _ (keep other : Keep) where
  abbrev pub then : Keep
  then f j = keep f j && other f (place (keep f) j)

  head_left-twice : (own next : ℕ → Bool) (h : Head) → head_left next (head_left own h) ≡ head_left (λ j. own j && next (place own j)) h
  head_left-twice own next (Var j) = ap Var (place-place own next j)
  head_left-twice own next (Nt f) = refl
  head_left-twice own next (Tm a) = refl

  chosen_trees-twice : (p q : ℕ → Bool) (ts : Trees Head) → chosen_trees q (chosen_trees p ts) ≡ chosen_trees (λ i. p i && q (place p i)) ts
  chosen_trees-twice p q ts =
      let both : ℕ → Bool = λ i. p i && q (place p i) in
      sym (forest-children (chosen_trees q (chosen_trees p ts)))
      ∙ (ap forest (children-chosen q (chosen_trees p ts) ∙ (ap (chosen q) (children-chosen p ts) ∙ (chosen-chosen p q (children ts) ∙ sym (children-chosen both ts))))
      ∙ forest-children (chosen_trees both ts))

  terms_left-chosen : (next p : ℕ → Bool) (ts : Trees Head) → terms_left other next (chosen_trees p ts) ≡ chosen_trees p (terms_left other next ts)
  terms_left-chosen next p none = refl
  terms_left-chosen next p (more t ts) = by (p 0) (terms_left-chosen next (λ i. p (suc i)) ts)
    where
      by : (b : Bool) → terms_left other next (chosen_trees (λ i. p (suc i)) ts) ≡ chosen_trees (λ i. p (suc i)) (terms_left other next ts)
          → terms_left other next (cond b (more t (chosen_trees (λ i. p (suc i)) ts)) (chosen_trees (λ i. p (suc i)) ts))
          ≡ cond b (more (term_left other next t) (chosen_trees (λ i. p (suc i)) (terms_left other next ts))) (chosen_trees (λ i. p (suc i)) (terms_left other next ts))
      by true e = ap (more (term_left other next t)) e
      by false e = e

  kept_twice : (own : ℕ → Bool) (h : Head) (ts : Trees Head) → chosen_trees (keeps other (head_left own h)) (chosen_trees (keeps keep h) ts) ≡ chosen_trees (keeps then h) ts
  kept_twice own (Var j) ts = chosen_trees-twice (λ _. true) (λ _. true) ts
  kept_twice own (Nt f) ts = chosen_trees-twice (keep f) (other f) ts
  kept_twice own (Tm a) ts = chosen_trees-twice (λ _. true) (λ _. true) ts

  module _ (own next : ℕ → Bool) where
    mutual
      pub term_left-twice : (t : Tree Head) → term_left other next (term_left keep own t) ≡ term_left then (λ j. own j && next (place own j)) t
      term_left-twice (node h ts) =
          let left = terms_left keep own ts in
          (λ i. node (head_left-twice own next h i) (chosen_trees (keeps other (head_left own h)) (terms_left-chosen next (keeps keep h) left i)))
          ∙ ap (node (head_left (λ j. own j && next (place own j)) h)) (kept_twice own h (terms_left other next left) ∙ ap (chosen_trees (keeps then h)) (terms_left-twice ts))

      terms_left-twice : (ts : Trees Head) → terms_left other next (terms_left keep own ts) ≡ terms_left then (λ j. own j && next (place own j)) ts
      terms_left-twice none = refl
      terms_left-twice (more t ts) = λ i. more (term_left-twice t i) (terms_left-twice ts i)

  sort_left-twice : (p q : ℕ → Bool) (k : SortTree) → sort_left q (sort_left p k) ≡ sort_left (λ i. p i && q (place p i)) k
  sort_left-twice p q (node u ks) =
      let both : ℕ → Bool = λ i. p i && q (place p i) in
      ap (node u)
      (sym (forest-children (chosen_trees q (chosen_trees p ks)))
      ∙ (ap forest (children-chosen q (chosen_trees p ks) ∙ (ap (chosen q) (children-chosen p ks) ∙ (chosen-chosen p q (children ks) ∙ sym (children-chosen both ks))))
      ∙ forest-children (chosen_trees both ks)))

  rule_left-twice : (f : ℕ) (r : Rule) → rule_left other (other f) (rule_left keep (keep f) r) ≡ rule_left then (then f) r
  rule_left-twice f r = λ i. record { params = place-place (keep f) (other f) r.params i; body = term_left-twice (keep f) (other f) r.body i }

  pub left-twice : (s : SortedData) → with_parameters other (with_parameters keep s) ≡ with_parameters then s
  left-twice s = λ i. record {
    scheme = record {
      rules = (by_number-twice (λ f. rule_left other (other f)) (λ f. rule_left keep (keep f)) s.scheme.rules
          ∙ by_number-same (λ f r. rule_left other (other f) (rule_left keep (keep f) r)) (λ f. rule_left then (then f)) s.scheme.rules (λ f r at. rule_left-twice f r)) i;
      ranks = s.scheme.ranks;
    };
    automaton = s.automaton;
    names = record {
      rules = s.names.rules;
      params = (by_number-twice (λ f. chosen (other f)) (λ f. chosen (keep f)) s.names.params
          ∙ by_number-same (λ f ns. chosen (other f) (chosen (keep f) ns)) (λ f. chosen (then f)) s.names.params (λ f ns at. chosen-chosen (keep f) (other f) ns)) i;
      terminals = s.names.terminals;
      states = s.names.states;
    };
    sorts = (by_number-twice (λ f. sort_left (other f)) (λ f. sort_left (keep f)) s.sorts
        ∙ by_number-same (λ f k. sort_left (other f) (sort_left (keep f) k)) (λ f. sort_left (then f)) s.sorts (λ f k at. sort_left-twice (keep f) (other f) k)) i;
  }

-- where all parameters stay
abbrev pub all : Keep
all f j = true

pub place-all : (n : ℕ) → place (λ _. true) n ≡ n
place-all zero = refl
place-all (suc n) = ap (λ k. 1 + k) (place-all n) ∙ one-add n

pub chosen-all : {A : Type 0} (xs : List A) → chosen (λ _. true) xs ≡ xs
chosen-all [] = refl
chosen-all (x ∷ xs) = ap (λ ys. x ∷ ys) (chosen-all xs)

head_left-all : (h : Head) → head_left (λ _. true) h ≡ h
head_left-all (Var j) = ap Var (place-all j)
head_left-all (Nt f) = refl
head_left-all (Tm a) = refl

keeps_all : (h : Head) (ts : Trees Head) → chosen_trees (keeps all h) ts ≡ ts
keeps_all (Var j) ts = chosen_trees-all ts
keeps_all (Nt f) ts = chosen_trees-all ts
keeps_all (Tm a) ts = chosen_trees-all ts

mutual
  term_left-all : (t : Tree Head) → term_left all (λ _. true) t ≡ t
  term_left-all (node h ts) = (λ i. node (head_left-all h i) (keeps_all h (terms_left all (λ _. true) ts) i)) ∙ ap (node h) (terms_left-all ts)

  terms_left-all : (ts : Trees Head) → terms_left all (λ _. true) ts ≡ ts
  terms_left-all none = refl
  terms_left-all (more t ts) = λ i. more (term_left-all t i) (terms_left-all ts i)

pub sort_left-all : (k : SortTree) → sort_left (λ _. true) k ≡ k
sort_left-all (node u ks) = ap (node u) (chosen_trees-all ks)

by_number-own : {A : Type 0} (xs : List A) → by_number (λ f x. x) xs ≡ xs
by_number-own [] = refl
by_number-own (x ∷ xs) = ap (λ ys. x ∷ ys) (by_number-own xs)

pub left-all : (s : SortedData) → with_parameters all s ≡ s
left-all s = λ i. record {
  scheme = record {
    rules = (by_number-same (λ f. rule_left all (all f)) (λ f r. r) s.scheme.rules (λ f r at. λ j. record { params = place-all r.params j; body = term_left-all r.body j })
        ∙ by_number-own s.scheme.rules) i;
    ranks = s.scheme.ranks;
  };
  automaton = s.automaton;
  names = record {
    rules = s.names.rules;
    params = (by_number-same (λ f. chosen (all f)) (λ f ns. ns) s.names.params (λ f ns at. chosen-all ns) ∙ by_number-own s.names.params) i;
    terminals = s.names.terminals;
    states = s.names.states;
  };
  sorts = (by_number-same (λ f. sort_left (all f)) (λ f k. k) s.sorts (λ f k at. sort_left-all k) ∙ by_number-own s.sorts) i;
}
