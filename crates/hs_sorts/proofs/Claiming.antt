-- Claims on the sorts of nodes, one after another.
use Rattle.std.proofs.Common.{◌≡◌, sym, ◌∙◌, ap, subst, ℕ, suc, ◌+◌, ◌^◌, ◌<◌, ◌≤◌, List, [], ◌∷◌, ◌++◌, length, slice_get, replicate, length-append, Some, Bool, true, false, arith}
use Rattle.std.proofs.lemmas.List.{length-replicate}
use Rattle.hs_scheme.specs.sorting.Sorting.{SortTree, o, arrow, arrows}
use Rattle.hs_scheme.proofs.Lists.{back_at}
use Rattle.hs_sorts.specs.declared.store.Shape.TheVariants.{Base}
use Rattle.hs_sorts.specs.declared.store.Node.{Node}
use Rattle.hs_sorts.specs.declared.store.Node.TheVariants.{Root}
use Rattle.hs_sorts.specs.Nodes.{Valuation, IsValuationOf, FitsNode, IsStore, Equates, IsEquation}
use Rattle.hs_sorts.specs.Constraints.{Agree, Extension, AddsNode, Refutes, Claims, IsClaim, IsBaseSort, LeavesSort, IsRanked, TakesArgument}
use Rattle.hs_sorts.proofs.Arrows.{arrows_more, arrows_split, arrows_same}
use Rattle.hs_sorts.proofs.Lists.{get_replicate, get_of_replicate}
use Rattle.hs_sorts.proofs.NodeLemmas.{agree_trans, over, over_agrees, over_later, respects_more, respects_fewer, one_place}

-- a node is made o by a new node that is
module _ (old : List Node) (i : ℕ) (is : IsStore old) (few : length old < 2 ^ 32) (below : i < length old) where
  abbrev with_base : List Node
  with_base = old ++ Root Base ∷ []

  one_more : length with_base ≡ length old + 1
  one_more = length-append old (Root Base ∷ [])

  module _ (v : Valuation) (was : IsValuationOf v old) (base : IsBaseSort i v) where
    abbrev later : Valuation
    later = over (length old) v (λ _. o)

    at_base : later (length old) ≡ o
    at_base = ap later (omega arith) ∙ over_later (length old) 0 v (λ _. o)

    respects_base : IsValuationOf later with_base
    respects_base = respects_more old (Root Base ∷ []) v later is (over_agrees (length old) v (λ _. o)) was (λ j n h.
        subst (λ (m : Node). FitsNode later (later (length old + j)) m) (one_place (Root Base) n j h).1 (over_later (length old) j v (λ _. o)))

    equal : later i ≡ later (length old)
    equal = (over_agrees (length old) v (λ _. o)).at i below ∙ (base ∙ sym at_base)

  pub based : (new : List Node) → Equates i (length old) with_base new → Claims old new (IsBaseSort i)
  based new e = record {
    longer = omega (arith, e.as_long, one_more);
    few = omega (arith, e.as_long, one_more);
    sound = λ v r.
        let b = e.back v r in
        let fit : v (length old) ≡ o = b.0.fits (length old) (Root Base) (subst (λ (j : ℕ). slice_get with_base j ≡ Some (Root Base)) (omega arith) (back_at old (Root Base ∷ []) 0)) in
        (respects_fewer old (Root Base ∷ []) v b.0, b.1 ∙ fit);
    complete = λ v r b. record { valuation = later v r b; agrees = over_agrees (length old) v (λ _. o); respects = e.onward (later v r b) (respects_base v r b) (equal v r b) };
  }

  pub not_based : ((v : Valuation) → IsValuationOf v with_base → v i ≡ v (length old) → ⊥) → (v : Valuation) → IsValuationOf v old → IsBaseSort i v → ⊥
  not_based never v r b = never (later v r b) (respects_base v r b) (equal v r b)

  pub is_based : (wide new : List Node) (node : ℕ) (answer : Bool) → node ≡ length old → wide ≡ old ++ Root Base ∷ [] → IsEquation i node wide new answer → IsClaim old new (IsBaseSort i) answer
  is_based wide new node true at widened e =
      based new (subst (λ (j : ℕ). Equates i j with_base new) at (subst (λ (xs : List Node). Equates i node xs new) widened e))
  is_based wide new node false at widened e =
      not_based (subst (λ (j : ℕ). (v : Valuation) → IsValuationOf v with_base → v i ≡ v j → ⊥) at (subst (λ (xs : List Node). (v : Valuation) → IsValuationOf v xs → v i ≡ v node → ⊥) widened e))

-- a node for a sort is made o
pub ended : (old mid new : List Node) (sort : ℕ) (P : Valuation → SortTree → Type 0) (answer : Bool) → AddsNode old mid sort P → IsClaim mid new (IsBaseSort sort) answer → IsClaim old new (λ v. P v o) answer
ended old mid new sort P true a b = record {
  longer = omega (arith, a.longer, b.longer);
  few = b.few;
  sound = λ v r. let m = b.sound v r in let p = a.sound v m.0 in (p.0, subst (P v) m.1 p.1);
  complete = λ v r p.
      let w = a.complete v o r p in
      let z = b.complete w.valuation w.respects w.gives in
      record { valuation = z.valuation; agrees = agree_trans (length old) (length mid) v w.valuation z.valuation a.longer w.agrees z.agrees; respects = z.respects };
}
ended old mid new sort P false a b = λ v r p. let w = a.complete v o r p in b w.valuation w.respects w.gives

-- two nodes for a sort, made one
module _ (old mid wide : List Node) (a b : ℕ) (P Q : Valuation → SortTree → Type 0) (first : AddsNode old mid a P) (second : AddsNode mid wide b Q)
    (stable : (v w : Valuation) (k : SortTree) → Agree (length old) v w → Q v k → Q w k) where
  module _ (v : Valuation) (k : SortTree) (was : IsValuationOf v old) (p : P v k) (q : Q v k) where
    abbrev one : Extension old mid a v k
    one = first.complete v k was p

    abbrev other : Extension mid wide b one.valuation k
    other = second.complete one.valuation k one.respects (stable v one.valuation k one.agrees q)

    agree : other.valuation a ≡ other.valuation b
    agree = other.agrees.at a first.within ∙ (one.gives ∙ sym other.gives)

  pub same_sort : (new : List Node) (answer : Bool) → IsEquation a b wide new answer → IsClaim old new (λ v. (k : SortTree) × P v k × Q v k) answer
  same_sort new true e = record {
    longer = omega (arith, e.as_long, first.longer, second.longer);
    few = omega (arith, e.as_long, second.few);
    sound = λ v r.
        let x = e.back v r in
        let y = second.sound v x.0 in
        let z = first.sound v y.0 in
        (z.0, (v a, z.1, subst (Q v) (sym x.1) y.1));
    complete = λ v r (k, p, q).
        let z = other v k r p q in
        record {
          valuation = z.valuation;
          agrees = agree_trans (length old) (length mid) v (one v k r p q).valuation z.valuation first.longer (one v k r p q).agrees z.agrees;
          respects = e.onward z.valuation z.respects (agree v k r p q);
        };
  }
  same_sort new false e = λ v r (k, p, q). let z = other v k r p q in e z.valuation z.respects (agree v k r p q)

-- no node for the second sort
pub no_second : (old mid : List Node) (a : ℕ) (P Q : Valuation → SortTree → Type 0) → AddsNode old mid a P → ((v w : Valuation) (k : SortTree) → Agree (length old) v w → Q v k → Q w k) → Refutes mid Q
    → (v : Valuation) → IsValuationOf v old → ((k : SortTree) × P v k × Q v k) → ⊥
no_second old mid a P Q first stable never v r (k, p, q) = let w = first.complete v k r p in never w.valuation k w.respects (stable v w.valuation k w.agrees q)

-- a node's sort takes the first arguments of a row, and a node has what is left
module _ (old : List Node) (i first count : ℕ) (within : first + count ≤ length old) where
  pub taken_all : (new : List Node) (sort : ℕ) (n : ℕ) → n ≡ count → AddsNode old new sort (LeavesSort i first n) → AddsNode old new sort (LeavesSort i first count)
  taken_all new sort n e a = subst (λ (m : ℕ). AddsNode old new sort (LeavesSort i first m)) e a

  module _ (now next : List Node) (n sort rest : ℕ) (below : n < count) (so_far : AddsNode old now sort (LeavesSort i first n)) where
    pub taken_more : AddsNode now next rest (TakesArgument sort (first + n)) → AddsNode old next rest (LeavesSort i first (n + 1))
    taken_more t = record {
      longer = omega (arith, so_far.longer, t.longer);
      few = t.few;
      within = t.within;
      sound = λ v r.
          let s = t.sound v r in
          let p = so_far.sound v s.0 in
          let e : suc n ≡ n + 1 = omega arith in
          (p.0, p.1 ∙ (ap (arrows n (λ j. v (first + j))) s.1 ∙ (arrows_more n (λ j. v (first + j)) (v rest) ∙ ap (λ m. arrows m (λ j. v (first + j)) (v rest)) e)));
      complete = λ v k r p.
          let e : n + 1 ≡ suc n = omega arith in
          let w = so_far.complete v (arrow (v (first + n)) k) r
          (p ∙ (ap (λ m. arrows m (λ j. v (first + j)) k) e ∙ sym (arrows_more n (λ j. v (first + j)) k))) in
          let z = t.complete w.valuation k w.respects (w.gives ∙ (λ j. arrow (sym (w.agrees.at (first + n) (omega arith)) j) k)) in
          record { valuation = z.valuation; agrees = agree_trans (length old) (length now) v w.valuation z.valuation so_far.longer w.agrees z.agrees; respects = z.respects; gives = z.gives };
    }

    pub taken_no_more : Refutes now (TakesArgument sort (first + n)) → Refutes old (LeavesSort i first count)
    taken_no_more never v k r p =
        let x = arrows_split n count (λ j. v (first + j)) k below in
        let w = so_far.complete v (arrow (v (first + n)) x.0) r (p ∙ x.1) in
        never w.valuation x.0 w.respects (w.gives ∙ (λ j. arrow (sym (w.agrees.at (first + n) (omega arith)) j) x.0))

-- a row of nodes that are o, and then the arguments
module _ (old : List Node) (i n : ℕ) (is : IsStore old) (below : i < length old) where
  abbrev with_row : List Node
  with_row = old ++ replicate n (Root Base)

  row_long : length with_row ≡ length old + n
  row_long = length-append old (replicate n (Root Base)) ∙ ap (λ m. length old + m) (length-replicate n (Root Base))

  row_is_base : (v : Valuation) (j : ℕ) → IsValuationOf v with_row → j < n → v (length old + j) ≡ o
  row_is_base v j r l = r.fits (length old + j) (Root Base) (back_at old (replicate n (Root Base)) j ∙ get_of_replicate n j (Root Base) l)

  row_respects : (v : Valuation) → IsValuationOf v old → IsValuationOf (over (length old) v (λ _. o)) with_row
  row_respects v r = respects_more old (replicate n (Root Base)) v (over (length old) v (λ _. o)) is (over_agrees (length old) v (λ _. o)) r (λ j m h.
      subst (λ (x : Node). FitsNode (over (length old) v (λ _. o)) (over (length old) v (λ _. o) (length old + j)) x) (sym (get_replicate n j (Root Base) m h)) (over_later (length old) j v (λ _. o)))

  pub ranked_by : (wide new : List Node) (first : ℕ) (answer : Bool) → first ≡ length old → wide ≡ with_row → IsClaim wide new (λ v. LeavesSort i first n v o) answer → IsClaim old new (IsRanked i n) answer
  ranked_by wide new first answer at widened e = by_answer answer
      (subst (λ (j : ℕ). IsClaim with_row new (λ v. LeavesSort i j n v o) answer) at (subst (λ (xs : List Node). IsClaim xs new (λ v. LeavesSort i first n v o) answer) widened e))
    where
      by_answer : (b : Bool) → IsClaim with_row new (λ v. LeavesSort i (length old) n v o) b → IsClaim old new (IsRanked i n) b
      by_answer true b = record {
        longer = omega (arith, b.longer, row_long);
        few = b.few;
        sound = λ v r.
            let w = b.sound v r in
            (respects_fewer old (replicate n (Root Base)) v w.0, w.1 ∙ arrows_same n (λ j. v (length old + j)) (λ _. o) o (λ j l. row_is_base v j w.0 l));
        complete = λ v r p.
            let u = over (length old) v (λ _. o) in
            let was = row_respects v r in
            let z = b.complete u was ((over_agrees (length old) v (λ _. o)).at i below ∙ (p ∙ sym (arrows_same n (λ j. u (length old + j)) (λ _. o) o (λ j l. row_is_base u j was l)))) in
            record { valuation = z.valuation; agrees = agree_trans (length old) (length with_row) v u z.valuation (omega (arith, row_long)) (over_agrees (length old) v (λ _. o)) z.agrees; respects = z.respects };
      }
      by_answer false b = λ v r p.
          let u = over (length old) v (λ _. o) in
          let was = row_respects v r in
          b u was ((over_agrees (length old) v (λ _. o)).at i below ∙ (p ∙ sym (arrows_same n (λ j. u (length old + j)) (λ _. o) o (λ j l. row_is_base u j was l))))
