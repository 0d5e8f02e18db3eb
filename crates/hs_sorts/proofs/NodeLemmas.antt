-- Stores that grow, and valuations that grow with them.
use Rattle.std.proofs.Common.{◌≡◌, ◌≢◌, refl, sym, ◌∙◌, ap, subst, cond, ℕ, zero, suc, ◌+◌, ◌-◌, ◌^◌, ◌<◌, ◌≤◌, List, [], ◌∷◌, ◌++◌, length, set, slice_get, Some, ◌⊎◌, inl, inr, arith, length-append, length-set, true, false, nat_eq, nat_lt}
use Rattle.std.proofs.lemmas.Option.{same_Some, slice_get_within, get_or_from_slice_get}
use Rattle.std.proofs.lemmas.Bool.{eqb-true, eqb-false, lt-ltb, le-ltb}
use Rattle.std.proofs.lemmas.List.Sums.{sum_by-set}
use Rattle.hs_scheme.specs.sorting.Sorting.{SortTree, arrow}
use Rattle.hs_scheme.proofs.Lists.{at_append, place-append}
use Rattle.hs_sorts.specs.declared.store.Shape.{Shape}
use Rattle.hs_sorts.specs.declared.store.Shape.TheVariants.{Open, Base, Arrow}
use Rattle.hs_sorts.specs.declared.store.Node.{Node}
use Rattle.hs_sorts.specs.declared.store.Node.TheVariants.{Root, Link}
use Rattle.hs_sorts.specs.Nodes.{Valuation, FitsShape, FitsNode, IsValuationOf, ShapeInRange, NodeInRange, IsStore, IsSameStore, unlinked, root_count}
use Rattle.hs_sorts.specs.Constraints.{Agree}
use Rattle.hs_sorts.proofs.Lists.{get_set_same, get_set_other}

pub shape_wider : (n m : ℕ) (s : Shape) → n ≤ m → ShapeInRange n s → ShapeInRange m s
shape_wider n m Open h r = tt
shape_wider n m Base h r = tt
shape_wider n m (Arrow a b) h r = (omega (arith, r.0), omega (arith, r.1))

node_wider : (n m i : ℕ) (x : Node) → n ≤ m → NodeInRange n i x → NodeInRange m i x
node_wider n m i (Root s) h r = shape_wider n m s h r
node_wider n m i (Link up) h r = r

pub one_place : {A : Type 0} (x y : A) (j : ℕ) → slice_get (x ∷ []) j ≡ Some y → (j ≡ 0) × (x ≡ y)
one_place x y zero h = (refl, cc)
one_place x y (suc j) h = absurd (cc)

pub store_more : (nodes : List Node) (s : Shape) → length nodes < 2 ^ 32 → IsStore nodes → ShapeInRange (length nodes) s → IsStore (nodes ++ Root s ∷ [])
store_more nodes s few is r = record {
  few = omega (arith, length-append nodes (Root s ∷ []));
  in_range = λ i n h. elim (place-append nodes (Root s ∷ []) i n h) [
    | inl e ↦ node_wider (length nodes) (length (nodes ++ Root s ∷ [])) i n (omega (arith, length-append nodes (Root s ∷ []))) (is.in_range i n e)
    | inr l ↦
        let e = one_place (Root s) n l.place l.at in
        subst (λ (x : Node). NodeInRange (length (nodes ++ Root s ∷ [])) i x) e.1
        (shape_wider (length nodes) (length (nodes ++ Root s ∷ [])) s (omega (arith, length-append nodes (Root s ∷ []))) r)
  ];
}

pub agree_trans : (n m : ℕ) (u v w : Valuation) → n ≤ m → Agree n u v → Agree m v w → Agree n u w
agree_trans n m u v w h p q = record { at = λ i below. q.at i (omega arith) ∙ p.at i below }

fits_same : (n : ℕ) (v w : Valuation) (s : SortTree) (x : Shape) → Agree n v w → ShapeInRange n x → FitsShape v s x → FitsShape w s x
fits_same n v w s Open a r h = tt
fits_same n v w s Base a r h = h
fits_same n v w s (Arrow x y) a r h = h ∙ (λ i. arrow (sym (a.at x r.0) i) (sym (a.at y r.1) i))

node_same : (n i : ℕ) (v w : Valuation) (s : SortTree) (x : Node) → i ≤ n → Agree n v w → NodeInRange n i x → FitsNode v s x → FitsNode w s x
node_same n i v w s (Root shape) l a r h = fits_same n v w s shape a r h
node_same n i v w s (Link up) l a r h = h ∙ sym (a.at up (omega (arith, r)))

-- the first n nodes as v has them, and then the sorts that x counts from 0
abbrev pub over : ℕ → Valuation → Valuation → Valuation
over n v x i = cond (nat_lt i n) (v i) (x (i - n))

pub over_agrees : (n : ℕ) (v x : Valuation) → Agree n v (over n v x)
over_agrees n v x = record { at = λ i below. ap (λ b. cond b (v i) (x (i - n))) (lt-ltb i n below) }

pub over_later : (n j : ℕ) (v x : Valuation) → over n v x (n + j) ≡ x j
over_later n j v x =
    ap (λ b. cond b (v (n + j)) (x (n + j - n))) (le-ltb (n + j) n (omega arith))
    ∙ ap x (omega arith)

-- a valuation that agrees on the nodes there are, and fits those that are added
pub respects_more : (nodes added : List Node) (v w : Valuation) → IsStore nodes → Agree (length nodes) v w → IsValuationOf v nodes
    → ((j : ℕ) (n : Node) → slice_get added j ≡ Some n → FitsNode w (w (length nodes + j)) n) → IsValuationOf w (nodes ++ added)
respects_more nodes added v w is same was fit = record {
  fits = λ i n h. elim (place-append nodes added i n h) [
    | inl e ↦
        let below = slice_get_within nodes i n e in
        node_same (length nodes) i v w (w i) n (omega (arith, below)) same (is.in_range i n e) (subst (λ (s : SortTree). FitsNode v s n) (sym (same.at i below)) (was.fits i n e))
    | inr l ↦ subst (λ (k : ℕ). FitsNode w (w k) n) (sym l.is) (fit l.place n l.at)
  ];
}

pub respects_fewer : (nodes added : List Node) (v : Valuation) → IsValuationOf v (nodes ++ added) → IsValuationOf v nodes
respects_fewer nodes added v r = record { fits = λ i n h. r.fits i n (at_append nodes added i n h) }

pub same_trans : (xs ys zs : List Node) → IsSameStore xs ys → IsSameStore ys zs → IsSameStore xs zs
same_trans xs ys zs p q = record {
  as_long = q.as_long ∙ p.as_long;
  roots = q.roots ∙ p.roots;
  kept = λ i s h. q.kept i s (p.kept i s h);
  onward = λ v r. q.onward v (p.onward v r);
  back = λ v r. p.back v (q.back v r);
}

-- what stands at a place after a write
pub record Written {A : Type 0} (xs : List A) (i j : ℕ) (y x : A) : Type 0 where
  pub elsewhere : j ≢ i → slice_get xs j ≡ Some x
  pub there : j ≡ i → x ≡ y

pub written : {A : Type 0} (xs : List A) (i j : ℕ) (y x : A) → i < length xs → slice_get (set xs i y) j ≡ Some x → Written xs i j y x
written xs i j y x within h = record {
  elsewhere = λ other. sym (get_set_other xs i j y other) ∙ h;
  there = λ same. same_Some x y (sym h ∙ (ap (slice_get (set xs i y)) same ∙ get_set_same xs i y within));
}

-- each place is the one that is written, or another
pub here_or_not : (i j : ℕ) → (j ≡ i) ⊎ (j ≢ i)
here_or_not i j = elim (nat_eq j i) as (λ b. nat_eq j i ≡ b → (j ≡ i) ⊎ (j ≢ i)) [
  | true ↦ λ e. inl (eqb-true j i e)
  | false ↦ λ e. inr (eqb-false j i e)
] refl

-- a node is changed to one that the same sorts fit
pub respects_set : (nodes : List Node) (i : ℕ) (y : Node) (v : Valuation) → i < length nodes → IsValuationOf v nodes → FitsNode v (v i) y → IsValuationOf v (set nodes i y)
respects_set nodes i y v within r fit = record {
  fits = λ j n h.
      let w = written nodes i j y n within h in
      elim (here_or_not i j) [
        | inl same ↦ subst (λ (m : Node). FitsNode v (v j) m) (sym (w.there same)) (subst (λ (k : ℕ). FitsNode v (v k) y) (sym same) fit)
        | inr other ↦ r.fits j n (w.elsewhere other)
      ];
}

-- the other way round, where the old node is fitted too
pub respects_unset : (nodes : List Node) (i : ℕ) (y : Node) (v : Valuation) → i < length nodes → IsValuationOf v (set nodes i y) → ((x : Node) → slice_get nodes i ≡ Some x → FitsNode v (v i) x) → IsValuationOf v nodes
respects_unset nodes i y v within r fit = record {
  fits = λ j n h. elim (here_or_not i j) [
    | inl same ↦ subst (λ (k : ℕ). FitsNode v (v k) n) (sym same) (fit n (ap (slice_get nodes) (sym same) ∙ h))
    | inr other ↦ r.fits j n (get_set_other nodes i j y other ∙ h)
  ];
}

pub store_set : (nodes : List Node) (i : ℕ) (y : Node) → i < length nodes → IsStore nodes → NodeInRange (length nodes) i y → IsStore (set nodes i y)
store_set nodes i y within is r = record {
  few = omega (arith, length-set nodes i y, is.few);
  in_range = λ j n h.
      let w = written nodes i j y n within h in
      subst (λ (k : ℕ). NodeInRange k j n) (sym (length-set nodes i y)) (elim (here_or_not i j) [
        | inl same ↦ subst (λ (m : Node). NodeInRange (length nodes) j m) (sym (w.there same)) (subst (λ (k : ℕ). NodeInRange (length nodes) k y) (sym same) r)
        | inr other ↦ is.in_range j n (w.elsewhere other)
      ]);
}

pub roots_set : (nodes : List Node) (i : ℕ) (x y : Node) → slice_get nodes i ≡ Some x → root_count (set nodes i y) + unlinked x ≡ root_count nodes + unlinked y
roots_set nodes i x y h =
    let e = sum_by-set unlinked nodes i y x (slice_get_within nodes i x h) in
    subst (λ (z : Node). root_count (set nodes i y) + unlinked z ≡ root_count nodes + unlinked y) (get_or_from_slice_get nodes i x x h) e

root_is_no_link : (s : Shape) (n : ℕ) → Root s ≡ Link n → ⊥
root_is_no_link s n h = cc

module _ (nodes : List Node) (at up top : ℕ) (is : IsStore nodes) (first : slice_get nodes at ≡ Some (Link up)) (second : slice_get nodes up ≡ Some (Link top)) where
  shorter_fits : (v : Valuation) → IsValuationOf v nodes → v at ≡ v top
  shorter_fits v r = r.fits at (Link up) first ∙ r.fits up (Link top) second

  -- the link from `up` still stands
  still : slice_get (set nodes at (Link top)) up ≡ Some (Link top)
  still = get_set_other nodes at up (Link top) (λ e. let below : up < at = is.in_range at (Link up) first in omega arith) ∙ second

  pub shortened : IsSameStore nodes (set nodes at (Link top))
  shortened =
      let within = slice_get_within nodes at (Link up) first in
      record {
        as_long = length-set nodes at (Link top);
        roots = omega (arith, roots_set nodes at (Link up) (Link top) first);
        kept = λ i s h.
            get_set_other nodes at i (Link top) (λ e. root_is_no_link s up (same_Some (Root s) (Link up) (sym h ∙ (ap (slice_get nodes) e ∙ first))))
            ∙ h;
        onward = λ v r. respects_set nodes at (Link top) v within r (shorter_fits v r);
        back = λ v r. respects_unset nodes at (Link top) v within r (λ x h.
            subst (λ (n : Node). FitsNode v (v at) n) (same_Some (Link up) x (sym first ∙ h))
            (r.fits at (Link top) (get_set_same nodes at (Link top) within) ∙ sym (r.fits up (Link top) still)));
      }

pub link_below : (nodes : List Node) (at up : ℕ) → IsStore nodes → slice_get nodes at ≡ Some (Link up) → (up < at) × (at < length nodes)
link_below nodes at up is h = (is.in_range at (Link up) h, slice_get_within nodes at (Link up) h)
