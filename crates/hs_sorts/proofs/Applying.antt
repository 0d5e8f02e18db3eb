-- What a function that takes an argument adds to a store, and what the arguments of a term add.
use Rattle.std.proofs.Common.{◌≡◌, refl, sym, ◌∙◌, ap, subst, ℕ, ◌+◌, ◌^◌, ◌<◌, ◌≤◌, List, [], ◌∷◌, ◌++◌, length, slice_get, Some, arith, length-append, length-set}
use Rattle.std.proofs.lemmas.Option.{same_Some, slice_get_within}
use Rattle.hs_scheme.specs.Tree.{node}
use Rattle.hs_scheme.specs.sorting.Sorting.{SortTree, o, arrow}
use Rattle.hs_scheme.proofs.Lists.{at_append}
use Rattle.hs_sorts.specs.declared.store.Shape.TheVariants.{Open, Base, Arrow}
use Rattle.hs_sorts.specs.declared.store.Node.{Node}
use Rattle.hs_sorts.specs.declared.store.Node.TheVariants.{Root}
use Rattle.hs_sorts.specs.Nodes.{Valuation, IsValuationOf, FitsNode, IsStore, IsRootOf, Equates, with_arrow}
use Rattle.hs_sorts.specs.Constraints.{Agree, AddsNode, Refutes, TakesArgument}
use Rattle.hs_sorts.proofs.Lists.{get_set_same}
use Rattle.hs_sorts.proofs.Joining.{arrow_parts}
use Rattle.hs_sorts.proofs.NodeLemmas.{over, over_agrees, over_later, respects_more, respects_fewer, respects_set, respects_unset, one_place}

-- no arrow is o
pub no_arrow : (a b : SortTree) → o ≡ arrow a b → ⊥
no_arrow a (node u ks) h = cc

-- a function of which nothing is known
module _ (old mid : List Node) (function argument root : ℕ) (found : IsRootOf old mid function root Open) (is : IsStore mid) (within : argument < length mid) where
  -- the node of what is left
  abbrev with_rest : List Node
  with_rest = mid ++ Root Open ∷ []

  abbrev top : Node
  top = Root (Arrow argument (length mid))

  one_more : length with_rest ≡ length mid + 1
  one_more = length-append mid (Root Open ∷ [])

  in_mid : root < length mid
  in_mid = slice_get_within mid root (Root Open) found.at

  in_wide : root < length with_rest
  in_wide = omega (arith, in_mid, one_more)

  was_open : slice_get with_rest root ≡ Some (Root Open)
  was_open = at_append mid (Root Open ∷ []) root (Root Open) found.at

  module _ (v : Valuation) (k : SortTree) (was : IsValuationOf v old) (takes : TakesArgument function argument v k) where
    abbrev later : Valuation
    later = over (length mid) v (λ _. k)

    at_rest : later (length mid) ≡ k
    at_rest = ap later (omega arith) ∙ over_later (length mid) 0 v (λ _. k)

    agrees : Agree (length mid) v later
    agrees = over_agrees (length mid) v (λ _. k)

    respects_rest : IsValuationOf later with_rest
    respects_rest = respects_more mid (Root Open ∷ []) v later is agrees (found.same.onward v was) (λ j n h.
        subst (λ (m : Node). FitsNode later (later (length mid + j)) m) (one_place (Root Open) n j h).1 tt)

    fit : later root ≡ arrow (later argument) (later (length mid))
    fit = agrees.at root in_mid ∙ (sym (found.equal v was) ∙ (takes ∙ (λ i. arrow (sym (agrees.at argument within) i) (sym at_rest i))))

  pub open_applied : length mid < 2 ^ 32 → AddsNode old (with_arrow mid root argument) (length mid) (TakesArgument function argument)
  open_applied few = record {
    longer = omega (arith, found.same.as_long, length-set with_rest root top, one_more);
    few = omega (arith, few, length-set with_rest root top, one_more);
    within = omega (arith, length-set with_rest root top, one_more);
    sound = λ v r.
        let unset : IsValuationOf v with_rest = respects_unset with_rest root top v in_wide r (λ x h. subst (λ (n : Node). FitsNode v (v root) n) (same_Some (Root Open) x (sym was_open ∙ h)) tt) in
        let before : IsValuationOf v old = found.same.back v (respects_fewer mid (Root Open ∷ []) v unset) in
        (before, found.equal v before ∙ r.fits root top (get_set_same with_rest root top in_wide));
    complete = λ v k r t. record {
      valuation = later v k r t;
      agrees = record { at = λ i h. (agrees v k r t).at i (omega (arith, found.same.as_long)) };
      respects = respects_set with_rest root top (later v k r t) in_wide (respects_rest v k r t) (fit v k r t);
      gives = at_rest v k r t;
    };
  }

-- the same, as the call gives it
pub open_given : (old mid new : List Node) (function argument root rest : ℕ) → IsRootOf old mid function root Open → IsStore mid → argument < length mid → length mid < 2 ^ 32 → rest ≡ length mid
    → new ≡ with_arrow mid root argument → AddsNode old new rest (TakesArgument function argument)
open_given old mid new function argument root rest found is within few at widened =
    subst (λ (j : ℕ). AddsNode old new j (TakesArgument function argument)) (sym at)
    (subst (λ (xs : List Node). AddsNode old xs (length mid) (TakesArgument function argument)) (sym widened) (open_applied old mid function argument root found is within few))

-- o takes no argument
pub base_not_applied : (old mid : List Node) (function argument root : ℕ) → IsRootOf old mid function root Base → Refutes old (TakesArgument function argument)
base_not_applied old mid function argument root found v k r t =
    no_arrow (v argument) k (sym ((found.same.onward v r).fits root (Root Base) found.at) ∙ (sym (found.equal v r) ∙ t))

-- a function that is known to take an argument
module _ (old mid : List Node) (function argument root expected rest : ℕ) (found : IsRootOf old mid function root (Arrow expected rest)) where
  taken_apart : (v : Valuation) → IsValuationOf v mid → v function ≡ arrow (v expected) (v rest)
  taken_apart v r = found.equal v (found.same.back v r) ∙ r.fits root (Root (Arrow expected rest)) found.at

  pub known_applied : (new : List Node) → Equates expected argument mid new → length old ≤ 2 ^ 32 → AddsNode old new rest (TakesArgument function argument)
  known_applied new e few = record {
    longer = omega (arith, e.as_long, found.same.as_long);
    few = omega (arith, e.as_long, found.same.as_long);
    within = omega (arith, e.as_long, found.same.as_long, found.in_range);
    sound = λ v r.
        let b = e.back v r in
        (found.same.back v b.0, taken_apart v b.0 ∙ (λ i. arrow (b.1 i) (v rest)));
    complete = λ v k r t.
        let was = found.same.onward v r in
        let parts = arrow_parts (v expected) (v rest) (v argument) k (sym (taken_apart v was) ∙ t) in
        record { valuation = v; agrees = record { at = λ i h. refl }; respects = e.onward v was parts.0; gives = parts.1 };
  }

  pub known_not_applied : ((v : Valuation) → IsValuationOf v mid → v expected ≡ v argument → ⊥) → Refutes old (TakesArgument function argument)
  known_not_applied never v k r t =
      let was = found.same.onward v r in
      never v was (arrow_parts (v expected) (v rest) (v argument) k (sym (taken_apart v was) ∙ t)).0
