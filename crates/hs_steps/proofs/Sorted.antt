-- A term of sort o keeps it under a step.
use Rattle.std.proofs.Common.{◌≡◌, refl, sym, ◌∙◌, ap, ℕ, zero, suc, ◌≤◌, List, [], ◌∷◌, length, take, drop, get_or, slice_get, find, option_map, Option, Some, unwrap_or, true, false, cond, arith}
use Rattle.std.proofs.Common.{subst as along}
use Rattle.std.proofs.lemmas.Option.{slice_get_within, slice_get-get_or, get_or_from_slice_get, same_Some}
use Rattle.std.proofs.lemmas.List.{length-take-le, take_all}
use Rattle.std.proofs.lemmas.List.Elements.{All-head, All-tail}
use Rattle.hs_scheme.specs.declared.term.Head.{Head}
use Rattle.hs_scheme.specs.declared.term.Head.TheVariants.{Var, Nt, Tm}
use Rattle.hs_scheme.specs.declared.term.Rule.{Rule}
use Rattle.hs_scheme.specs.acceptance.Transition.{TransitionData}
use Rattle.hs_scheme.specs.acceptance.Automaton.{is_of, next}
use Rattle.hs_scheme.specs.Tree.{Tree, Trees, node, none, more, join, children, forest, forest-children}
use Rattle.hs_scheme.specs.acceptance.Replacement.{subst, substs, replaced, applied}
use Rattle.hs_scheme.specs.acceptance.Run.{start}
use Rattle.hs_scheme.specs.Scheme.{HeadInRange, TermInRange, TermsInRange}
use Rattle.hs_scheme.specs.sorting.Sorting.{SortTree, o, arrow, arrows, behind, ranked, arguments, Sorts, heads, HasSort, Applied}
use Rattle.hs_scheme.specs.acceptance.Steps.{Path, StepsTo}
use Rattle.hs_scheme.specs.TreeTerms.{ground, IsTreeTerm, AreSortedBy}
use Rattle.hs_scheme.specs.sorting.Unsorted.{AgreesWithRanks}
use Rattle.hs_scheme.proofs.TransitionIndex.{is_of-true}
use Rattle.hs_scheme.proofs.Sortings.{length-arrow, length-ranked}
use Rattle.hs_steps.proofs.Terms.{Unfolding, unfolding_of}

first : SortTree → SortTree
first (node u none) = o
first (node u (more a ks)) = a

rest : SortTree → SortTree
rest (node u none) = o
rest (node u (more a ks)) = node u ks

first-arrow : (a b : SortTree) → first (arrow a b) ≡ a
unfolding first
first-arrow a (node u ks) = refl

rest-arrow : (a b : SortTree) → rest (arrow a b) ≡ b
unfolding rest
rest-arrow a (node u ks) = refl

arrow_first : (a b c d : SortTree) → arrow a b ≡ arrow c d → a ≡ c
arrow_first a b c d e = sym (first-arrow a b) ∙ (ap first e ∙ first-arrow c d)

arrow_rest : (a b c d : SortTree) → arrow a b ≡ arrow c d → b ≡ d
arrow_rest a b c d e = sym (rest-arrow a b) ∙ (ap rest e ∙ rest-arrow c d)

arrow_not_o : (a b : SortTree) → arrow a b ≡ o → ⊥
arrow_not_o a (node u ks) e = (cc)

-- the first arguments of a term of sort o, and those behind them
record Split (e : Head → SortTree) (n : ℕ) (p : ℕ → SortTree) (us : List (Tree Head)) (k : SortTree) : Type 0 where
  pub enough : n ≤ length us
  pub typed : (j : ℕ) (u : Tree Head) → slice_get (take n us) j ≡ Some u → HasSort e u (p j)
  pub behind_them : Applied e (forest (drop n us)) k o

module _ (e : Head → SortTree) where
  join_sort : (ts us : Trees Head) (f g k : SortTree) → Applied e ts f g → Applied e us g k → Applied e (join ts us) f k
  join_sort none us f g k p q = along (λ (x : SortTree). Applied e us x k) (sym p) q
  join_sort (more t ts) us f g k (a, b, is, of, others) q = (a, b, is, of, join_sort ts us b g k others q)

  applied_sort : (t : Tree Head) (us : Trees Head) (g k : SortTree) → HasSort e t g → Applied e us g k → HasSort e (applied t us) k
  applied_sort (node h ts) us g k p q = join_sort ts us (e h) g k p q

  split : (n : ℕ) (p : ℕ → SortTree) (us : Trees Head) (k : SortTree) → Applied e us (arrows n p k) o → Split e n p (children us) k
  split zero p us k a = record {
    enough = omega arith;
    typed = λ j u at. absurd (cc);
    behind_them = along (λ (x : Trees Head). Applied e x k o) (sym (forest-children us)) a;
  }
  split (suc n) p none k a = absurd (arrow_not_o (p 0) (arrows n (λ i. p (suc i)) k) a)
  split (suc n) p (more t ts) k (a, b, is, of, others) =
      let r = split n (λ i. p (suc i)) ts k (along (λ (x : SortTree). Applied e ts x o) (sym (arrow_rest (p 0) (arrows n (λ i. p (suc i)) k) a b is)) others) in
      record { enough = omega (arith, r.enough); typed = typed_more r.typed; behind_them = r.behind_them }
    where
      typed_more : ((j : ℕ) (u : Tree Head) → slice_get (take n (children ts)) j ≡ Some u → HasSort e u (p (suc j)))
          → (j : ℕ) (u : Tree Head) → slice_get (t ∷ take n (children ts)) j ≡ Some u → HasSort e u (p j)
      typed_more below zero u at =
          along (λ (v : Tree Head). HasSort e v (p 0)) (same_Some t u at) (along (λ (x : SortTree). HasSort e t x) (sym (arrow_first (p 0) (arrows n (λ i. p (suc i)) k) a b is)) of)
      typed_more below (suc j) u at = below j u at

  -- a term of sort o has as many arguments as its head's sort
  pub count : (us : Trees Head) (f : SortTree) → Applied e us f o → length (children us) ≡ length (arguments f)
  count none f a = sym (ap (λ k. length (arguments k)) a)
  count (more t ts) f (a, b, is, of, others) = ap suc (count ts b others) ∙ (sym (length-arrow a b) ∙ sym (ap (λ k. length (arguments k)) is))

module _ (s : Sorts) (f params rules terminals : ℕ) (ws : List (Tree Head)) (long : length ws ≡ params)
    (typed : (j : ℕ) (u : Tree Head) → slice_get ws j ≡ Some u → HasSort (ground s) u (s.parameter f j)) where
  head_sort : (h : Head) → HeadInRange params rules terminals h → HasSort (ground s) (replaced h ws) (heads s f h)
  head_sort (Var j) lt =
      let at : slice_get ws j ≡ Some (get_or ws j (node (Var j) none)) = slice_get-get_or ws j (node (Var j) none) (omega arith) in
      along (λ (x : Option (Tree Head)). HasSort (ground s) (unwrap_or x (node (Var j) none)) (s.parameter f j)) (sym at) (typed j (get_or ws j (node (Var j) none)) at)
  head_sort (Nt g) lt = refl
  head_sort (Tm a) lt = refl

  mutual
    subst_sort : (t : Tree Head) (k : SortTree) → TermInRange params rules terminals t → HasSort (heads s f) t k → HasSort (ground s) (subst t ws) k
    subst_sort (node h us) k r p = applied_sort (ground s) (replaced h ws) (substs us ws) (heads s f h) k (head_sort h r.0) (substs_sort us (heads s f h) k r.2 p)

    substs_sort : (us : Trees Head) (g k : SortTree) → TermsInRange params rules terminals us → Applied (heads s f) us g k → Applied (ground s) (substs us ws) g k
    substs_sort none g k r p = p
    substs_sort (more u us) g k r (a, b, is, of, others) = (a, b, is, subst_sort u a r.0 of, substs_sort us b k r.1 others)

-- where transitions agree with ranks, the terminal of one has the rank of its number of states
pub next_rank : (ranks : List (Option ℕ)) (ts : List TransitionData) (q a : ℕ) (qs : List ℕ) → AgreesWithRanks ranks ts → next ts q a ≡ Some qs → slice_get ranks a ≡ Some (Some (length qs))
next_rank ranks [] q a qs all e = absurd (cc)
next_rank ranks (t ∷ ts) q a qs all e =
    elim (is_of q a t) as (λ b. is_of q a t ≡ b → option_map (λ (u : TransitionData). u.to) (cond b (Some t) (find (is_of q a) ts)) ≡ Some qs → slice_get ranks a ≡ Some (Some (length qs))) [
      | true ↦ λ is f.
          let own = is_of-true q a t is in
          along (λ (k : ℕ). slice_get ranks k ≡ Some (Some (length qs))) own.1
          (along (λ (k : List ℕ). slice_get ranks t.terminal ≡ Some (Some (length k))) (same_Some t.to qs f) (All-head (λ (u : TransitionData). slice_get ranks u.terminal ≡ Some (Some (length u.to))) t ts all))
      | false ↦ λ is f. next_rank ranks ts q a qs (All-tail (λ (u : TransitionData). slice_get ranks u.terminal ≡ Some (Some (length u.to))) t ts all) f
    ] refl e

module _ (rules : List Rule) (terminals : ℕ) (ranks : List (Option ℕ)) (ts : List TransitionData) (s : Sorts) (sorted : AreSortedBy rules terminals ranks ts s) where
  pub body_in_range : (f : ℕ) (r : Rule) → slice_get rules f ≡ Some r → TermInRange r.params (length rules) terminals r.body
  body_in_range f r at =
      along (λ (k : Rule). TermInRange k.params (length rules) terminals k.body) (get_or_from_slice_get rules f r r at) (sorted.are_rules.bodies f r (slice_get_within rules f r at))

  pub start_sorted : IsTreeTerm s start
  start_sorted = sorted.sorting.start

  terminal_sort : (q a : ℕ) (qs : List ℕ) → next ts q a ≡ Some qs → s.terminal a ≡ ranked (length qs)
  terminal_sort q a qs e = sorted.sorting.terminals a (length qs) (next_rank ranks ts q a qs sorted.agree e)

  -- a terminal with a transition has as many arguments as that has states
  pub as_many : (q a : ℕ) (qs : List ℕ) (us : Trees Head) → next ts q a ≡ Some qs → IsTreeTerm s (node (Tm a) us) → length (children us) ≡ length qs
  as_many q a qs us e p =
      count (ground s) us (s.terminal a) p ∙ (ap (λ k. length (arguments k)) (terminal_sort q a qs e) ∙ length-ranked (length qs))

  -- a nonterminal has its parameters' terms, and those behind them
  at_nonterminal : (f : ℕ) (r : Rule) (us : Trees Head) → slice_get rules f ≡ Some r → IsTreeTerm s (node (Nt f) us)
      → Split (ground s) r.params (s.parameter f) (children us) (behind r.params (s.nonterminal f))
  at_nonterminal f r us at p =
      split (ground s) r.params (s.parameter f) us (behind r.params (s.nonterminal f)) (along (λ (x : SortTree). Applied (ground s) us x o) (sorted.sorting.nonterminals f r at) p)

  pub has_enough : (f : ℕ) (r : Rule) (us : Trees Head) → slice_get rules f ≡ Some r → IsTreeTerm s (node (Nt f) us) → r.params ≤ length (children us)
  has_enough f r us at p = (at_nonterminal f r us at p).enough

  pub step_sorted : (q p : ℕ) (t u : Tree Head) (label : Path) → StepsTo rules ts q t label p u → IsTreeTerm s t → IsTreeTerm s u
  step_sorted q p (node (Var j) us) u label step k = absurd step
  step_sorted q p (node (Nt f) us) u label (silent, is, goes) k =
      let un : Unfolding rules f (children us) u = unfolding_of rules f (children us) u goes in
      let parts = at_nonterminal f un.rule us un.at k in
      let own = take un.rule.params (children us) in
      let left : SortTree = behind un.rule.params (s.nonterminal f) in
      along (λ (v : Tree Head). IsTreeTerm s v) un.is
      (applied_sort (ground s) (subst un.rule.body own) (forest (drop un.rule.params (children us))) left o
      (subst_sort s f un.rule.params (length rules) terminals own (length-take-le un.rule.params (children us) parts.enough) parts.typed un.rule.body left
      (body_in_range f un.rule un.at) (sorted.sorting.bodies f un.rule (slice_get_within rules f un.rule un.at) un.at))
      parts.behind_them)
  step_sorted q p (node (Tm a) us) u label (qs, e, child) k =
      let parts = split (ground s) (length qs) (λ _. o) us o (along (λ (x : SortTree). Applied (ground s) us x o) (terminal_sort q a qs e) k) in
      parts.typed child.place u (all_there (children us) child.place u (as_many q a qs us e k) child.term)
    where
      all_there : (xs : List (Tree Head)) (j : ℕ) (x : Tree Head) → length xs ≡ length qs → slice_get xs j ≡ Some x → slice_get (take (length qs) xs) j ≡ Some x
      all_there xs j x long at = ap (λ ys. slice_get ys j) (take_all (length qs) xs (omega arith)) ∙ at
