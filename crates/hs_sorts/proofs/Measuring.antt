-- Sizes of sorts, and what a measure says of an arrow.
use Rattle.std.proofs.Common.{◌≡◌, refl, sym, ◌∙◌, ap, subst, ℕ, ◌+◌, ◌<◌, List, length, slice_get, get_or, min, Option, Some, None, inl, inr, arith}
use Rattle.std.proofs.lemmas.List.Elements.{All-cons, All-tail}
use Rattle.std.specs.Prelude.{unwrap_or}
use Rattle.std.specs.Option.{option_map}
use Rattle.std.proofs.lemmas.List.{length-map}
use Rattle.hs_scheme.specs.Tree.{node, none, more, children}
use Rattle.hs_scheme.specs.sorting.Sorting.{SortTree, o, arrow, size, arguments, IsFirstOrder}
use Rattle.hs_sorts.specs.declared.measures.Measure.{Measure}
use Rattle.hs_sorts.specs.declared.measures.Mark.{Mark}
use Rattle.hs_sorts.specs.declared.measures.Mark.TheVariants.{New, Entered, Measured}
use Rattle.hs_sorts.specs.declared.measures.Step.TheVariants.{Done, Child}
use Rattle.hs_sorts.specs.declared.store.Node.{Node}
use Rattle.hs_sorts.specs.declared.store.Node.TheVariants.{Root, Link}
use Rattle.hs_sorts.specs.declared.store.Shape.TheVariants.{Arrow}
use Rattle.hs_sorts.specs.Measures.{Describes, measured, unmeasured, measure_in, measures_in, IsMeasureIn, IsMeasuringStep}
use Rattle.std.proofs.lemmas.Option.{get_or_from_slice_get, slice_get-get_or, slice_get-map, slice_get_read}

pub size-arrow : (a b : SortTree) → size (arrow a b) ≡ 1 + size a + size b
size-arrow a (node u ks) = omega arith

pub size_positive : (a : SortTree) → 0 < size a
size_positive (node u ks) = omega arith

-- only o has size 1
pub size_one : (a : SortTree) → size a ≡ 1 → a ≡ o
size_one (node u none) h = refl
size_one (node u (more k ks)) h = absurd (omega (arith, size_positive k))

arity-arrow : (a b : SortTree) → length (arguments (arrow a b)) ≡ length (arguments b) + 1
arity-arrow a (node u ks) = omega arith

pub first_order_more : (a b : SortTree) → a ≡ o → IsFirstOrder b → IsFirstOrder (arrow a b)
first_order_more a (node u ks) e h = All-cons (λ k. k ≡ o) a (children ks) e h

pub first_order_tail : (a b : SortTree) → IsFirstOrder (arrow a b) → IsFirstOrder b
first_order_tail a (node u ks) h = All-tail (λ k. k ≡ o) a (children ks) h

module _ (x y w : Measure) (a b : SortTree) (p : Describes x a) (q : Describes y b) where
  measures_arrow : w.size ≡ min 1001 (x.size + y.size + 1) → w.size ≡ min 1001 (size (arrow a b))
  measures_arrow h = omega (arith, h, p.sized, q.sized, size-arrow a b)

  pub describes_first : w.size ≡ min 1001 (x.size + y.size + 1) → w.arity ≡ y.arity + 1 → x.size ≡ 1 → w.first_order ≡ y.first_order → Describes w (arrow a b)
  describes_first h l one same =
      let is_o : a ≡ o = size_one a (omega (arith, one, p.sized)) in
      record {
        sized = measures_arrow h;
        arity = l ∙ (ap (λ n. n + 1) q.arity ∙ sym (arity-arrow a b));
        first_order = λ e. first_order_more a b is_o (q.first_order (sym same ∙ e));
        higher_order = λ e f. q.higher_order (sym same ∙ e) (first_order_tail a b f);
      }

-- a link to a node that is measured, and to one that isn't
pub link_done : (marks : List Mark) (n : Node) (up : ℕ) (w : Measure) → n ≡ Link up → slice_get marks up ≡ Some (measured w) → IsMeasuringStep marks n (Done w)
link_done marks n up w is at =
    subst (λ (m : Node). IsMeasuringStep marks m (Done w)) (sym is)
    ((λ c e. (w, subst (λ (j : ℕ). slice_get marks j ≡ Some (measured w)) (sym e) at)), λ v s d r. subst (Describes w) (sym r) (d up w at))

pub link_child : (marks : List Mark) (n : Node) (up : ℕ) → n ≡ Link up → ((w : Measure) → get_or marks up New ≡ measured w → ⊥) → IsMeasuringStep marks n (Child up)
link_child marks n up is never =
    subst (λ (m : Node). IsMeasuringStep marks m (Child up)) (sym is) (refl, λ w h. never w (get_or_from_slice_get marks up (measured w) New h))

-- an arrow both of whose parts are measured
pub arrow_done : (marks : List Mark) (a b : ℕ) (x y w : Measure) → get_or marks a New ≡ measured x → get_or marks b New ≡ measured y → a < length marks → b < length marks
    → ((s t : SortTree) → Describes x s → Describes y t → Describes w (arrow s t)) → IsMeasuringStep marks (Root (Arrow a b)) (Done w)
arrow_done marks a b x y w p q below under all =
    let first : slice_get marks a ≡ Some (measured x) = slice_get-get_or marks a New below ∙ ap (λ m. Some m) p in
    let second : slice_get marks b ≡ Some (measured y) = slice_get-get_or marks b New under ∙ ap (λ m. Some m) q in (
      λ c e. elim e [
        | inl f ↦ (x, subst (λ (j : ℕ). slice_get marks j ≡ Some (measured x)) (sym f) first)
        | inr f ↦ (y, subst (λ (j : ℕ). slice_get marks j ≡ Some (measured y)) (sym f) second)
      ],
      λ v s d r. subst (Describes w) (sym r) (all (v a) (v b) (d a x first) (d b y second)),
    )

-- the measure of a mark, or what stands for it
pub measure_or : (m : Mark) (found : Option Measure) → IsMeasureIn m found → unwrap_or found unmeasured ≡ measure_in m
measure_or m (Some w) e = sym (ap measure_in e)
measure_or New None never = refl
measure_or Entered None never = refl
measure_or (Measured first_order size arity) None never = absurd (never (record { size = size; arity = arity; first_order = first_order }) refl)

pub measure_at : (marks : List Mark) (measures : List Measure) (i : ℕ) (m : Mark) (found : Option Measure) → measures_in marks ≡ measures → i < length measures → m ≡ get_or marks i m → IsMeasureIn m found
    → slice_get measures i ≡ Some (unwrap_or found unmeasured)
measure_at marks measures i m found is within h e =
    let inside : i < length marks = omega (arith, within, ap length is, length-map marks measure_in) in
    subst (λ (ws : List Measure). slice_get ws i ≡ Some (unwrap_or found unmeasured)) is
    (slice_get-map measure_in marks i ∙ (ap (option_map measure_in) (slice_get_read marks (length marks) i m refl inside h) ∙ ap (λ w. Some w) (sym (measure_or m found e))))
