-- Sorts read from nodes: the least that respect them, argument by argument.
use Rattle.std.proofs.Common.{◌≡◌, refl, sym, ◌∙◌, ap, subst, ℕ, zero, suc, ◌+◌, ◌*◌, ◌<◌, ◌≤◌, List, [], ◌∷◌, ◌++◌, length, slice_get, get_or, min, Option, Some, None, ◌⊎◌, inl, inr, arith}
use Rattle.std.specs.Option.{option_map}
use Rattle.std.specs.Prelude.{unwrap_or}
use Rattle.std.proofs.lemmas.Option.{slice_get-get_or, slice_get_within}
use Rattle.hs_scheme.specs.Tree.{node, forest}
use Rattle.hs_scheme.specs.sorting.Sorting.{SortTree, o, arrow, arrows, size}
use Rattle.hs_sorts.specs.declared.store.Shape.{Shape}
use Rattle.hs_sorts.specs.declared.store.Shape.TheVariants.{Open, Base, Arrow}
use Rattle.hs_sorts.specs.declared.store.Node.{Node}
use Rattle.hs_sorts.specs.declared.store.Node.TheVariants.{Root, Link}
use Rattle.hs_sorts.specs.declared.measures.Measure.{Measure}
use Rattle.hs_sorts.specs.Nodes.{Valuation, FitsNode, IsValuationOf, IsStore, IsFlat}
use Rattle.hs_sorts.specs.Measures.{ReadsNode, IsReading}
use Rattle.hs_sorts.specs.Search.{rank, Measuring}
use Rattle.hs_sorts.specs.Reading.{size_at, parts, IsArrowAt, IsSplitAt}
use Rattle.hs_sorts.proofs.Applying.{no_arrow}
use Rattle.hs_sorts.proofs.Joining.{arrow_parts}
use Rattle.hs_sorts.proofs.Measuring.{size-arrow, size_positive}
use Rattle.hs_sorts.proofs.Searching.{child_lower, child_below}

read_fits : (v : Valuation) (s : SortTree) (n : Node) → ReadsNode v s n → FitsNode v s n
read_fits v s (Root Open) h = tt
read_fits v s (Root Base) h = h
read_fits v s (Root (Arrow a b)) h = h
read_fits v s (Link up) h = h

-- what is read from the nodes respects them
pub reading_respects : (v : Valuation) (nodes : List Node) → IsReading v nodes → IsValuationOf v nodes
reading_respects v nodes r = record { fits = λ i n h. read_fits v (v i) n (r.reads i n h) }

-- no sort that is read is larger than one that respects the nodes
module _ (nodes : List Node) (is : IsStore nodes) (low v : Valuation) (reading : IsReading low nodes) (respects : IsValuationOf v nodes) where
  smaller_at : (i : ℕ) (n : Node) → slice_get nodes i ≡ Some n → ((j : ℕ) → j < length nodes → rank low (length nodes) j < rank low (length nodes) i → size (low j) ≤ size (v j)) → size (low i) ≤ size (v i)
  smaller_at i (Root Open) at below = let e : low i ≡ o = reading.reads i (Root Open) at in omega (arith, ap size e, size_positive (v i))
  smaller_at i (Root Base) at below = let e : low i ≡ o = reading.reads i (Root Base) at in omega (arith, ap size e, size_positive (v i))
  smaller_at i (Root (Arrow a b)) at below =
      let e : low i ≡ arrow (low a) (low b) = reading.reads i (Root (Arrow a b)) at in
      let f : v i ≡ arrow (v a) (v b) = respects.fits i (Root (Arrow a b)) at in
      let was = reading_respects low nodes reading in
      let left = below a (child_below nodes i (Root (Arrow a b)) is at a (inl refl)) (child_lower nodes low i a (Root (Arrow a b)) is was at (inl refl)) in
      let right = below b (child_below nodes i (Root (Arrow a b)) is at b (inr refl)) (child_lower nodes low i b (Root (Arrow a b)) is was at (inr refl)) in
      omega (arith, ap size e, ap size f, size-arrow (low a) (low b), size-arrow (v a) (v b), left, right)
  smaller_at i (Link up) at below =
      let e : low i ≡ low up = reading.reads i (Link up) at in
      let f : v i ≡ v up = respects.fits i (Link up) at in
      let was = reading_respects low nodes reading in
      let h = below up (child_below nodes i (Link up) is at up refl) (child_lower nodes low i up (Link up) is was at refl) in
      omega (arith, ap size e, ap size f, h)

  smaller_by : (fuel i : ℕ) → i < length nodes → rank low (length nodes) i < fuel → size (low i) ≤ size (v i)
  smaller_by zero i within h = absurd (omega arith)
  smaller_by (suc fuel) i within h =
      smaller_at i (get_or nodes i (Root Open)) (slice_get-get_or nodes i (Root Open) within) (λ j inside lower. smaller_by fuel j inside (omega (arith, lower, h)))

  pub reading_least : (i : ℕ) → i < length nodes → size (low i) ≤ size (v i)
  reading_least i within = smaller_by (suc (rank low (length nodes) i)) i within (omega arith)

  -- the nodes of an arrow's parts
  record Parts (i : ℕ) : Type 0 where
    argument : ℕ
    rest : ℕ
    argument_within : argument < length nodes
    rest_within : rest < length nodes
    reads : low i ≡ arrow (low argument) (low rest)
    fits : v i ≡ arrow (v argument) (v rest)

  root_parts : (i : ℕ) (s : Shape) (a b : SortTree) → slice_get nodes i ≡ Some (Root s) → low i ≡ arrow a b → Parts i
  root_parts i Open a b at e = absurd (no_arrow a b (sym (reading.reads i (Root Open) at) ∙ e))
  root_parts i Base a b at e = absurd (no_arrow a b (sym (reading.reads i (Root Base) at) ∙ e))
  root_parts i (Arrow x y) a b at e =
      let range = is.in_range i (Root (Arrow x y)) at in
      record { argument = x; rest = y; argument_within = range.0; rest_within = range.1; reads = reading.reads i (Root (Arrow x y)) at; fits = respects.fits i (Root (Arrow x y)) at }

  parts_at : (flat : IsFlat nodes) (i : ℕ) (n : Node) (a b : SortTree) → slice_get nodes i ≡ Some n → low i ≡ arrow a b → Parts i
  parts_at flat i (Root s) a b at e = root_parts i s a b at e
  parts_at flat i (Link up) a b at e =
      let top = flat.all i up (slice_get_within nodes i (Link up) at) at in
      let reads : low i ≡ low up = reading.reads i (Link up) at in
      let fits : v i ≡ v up = respects.fits i (Link up) at in
      let p = root_parts up top.0 a b top.1 (sym reads ∙ e) in
      record { argument = p.argument; rest = p.rest; argument_within = p.argument_within; rest_within = p.rest_within; reads = reads ∙ p.reads; fits = fits ∙ p.fits }

  -- nor is one of its arguments
  pub least_argument : (flat : IsFlat nodes) (n i : ℕ) (p q : ℕ → SortTree) (k l : SortTree) → i < length nodes → low i ≡ arrows n p k → v i ≡ arrows n q l → (j : ℕ) → j < n → size (p j) ≤ size (q j)
  least_argument flat zero i p q k l within e f j h = absurd (omega arith)
  least_argument flat (suc n) i p q k l within e f zero h =
      let s = parts_at flat i (get_or nodes i (Root Open)) (p 0) (arrows n (λ m. p (suc m)) k) (slice_get-get_or nodes i (Root Open) within) e in
      let x = arrow_parts (low s.argument) (low s.rest) (p 0) (arrows n (λ m. p (suc m)) k) (sym s.reads ∙ e) in
      let y = arrow_parts (v s.argument) (v s.rest) (q 0) (arrows n (λ m. q (suc m)) l) (sym s.fits ∙ f) in
      omega (arith, reading_least s.argument s.argument_within, ap size x.0, ap size y.0)
  least_argument flat (suc n) i p q k l within e f (suc j) h =
      let s = parts_at flat i (get_or nodes i (Root Open)) (p 0) (arrows n (λ m. p (suc m)) k) (slice_get-get_or nodes i (Root Open) within) e in
      let x = arrow_parts (low s.argument) (low s.rest) (p 0) (arrows n (λ m. p (suc m)) k) (sym s.reads ∙ e) in
      let y = arrow_parts (v s.argument) (v s.rest) (q 0) (arrows n (λ m. q (suc m)) l) (sym s.fits ∙ f) in
      least_argument flat n s.rest (λ m. p (suc m)) (λ m. q (suc m)) k l s.rest_within x.1 y.1 j (omega arith)

-- the sort with these arguments before those of k
abbrev pub with_arguments : List SortTree → SortTree → SortTree
with_arguments [] k = k
with_arguments (a ∷ args) k = arrow a (with_arguments args k)

pub with_arguments_more : (args : List SortTree) (a k : SortTree) → with_arguments args (arrow a k) ≡ with_arguments (args ++ a ∷ []) k
with_arguments_more [] a k = refl
with_arguments_more (b ∷ args) a k = ap (arrow b) (with_arguments_more args a k)

pub with_arguments-o : (args : List SortTree) → with_arguments args o ≡ node tt (forest args)
with_arguments-o [] = refl
with_arguments-o (a ∷ args) = ap (arrow a) (with_arguments-o args)

-- the counted size of a sort that was measured
pub counted : (nodes : List Node) (measures : List Measure) (w : Measuring nodes measures) (i : ℕ) → i < length nodes → size_at measures i ≡ min 1001 (size (w.valuation i))
counted nodes measures w i within = by_get (slice_get measures i) refl
  where
    by_get : (found : Option Measure) → slice_get measures i ≡ found → size_at measures i ≡ min 1001 (size (w.valuation i))
    by_get None e = absurd (let at = slice_get-get_or measures i (record { size = 0; arity = 0; first_order = Rattle.std.proofs.Common.false }) (omega (arith, w.as_long)) in cc)
    by_get (Some x) e = ap (λ f. unwrap_or (option_map (λ y. y.size) f) 0) e ∙ (w.describes i x e).sized

-- the parts of a small arrow are smaller
pub parts_smaller : (nodes : List Node) (measures : List Measure) (w : Measuring nodes measures) (i a b : ℕ) → i < length nodes → IsArrowAt nodes i a b → size_at measures i ≤ 1000
    → (size_at measures a < size_at measures i) × (size_at measures b < size_at measures i)
parts_smaller nodes measures w i a b within s small =
    let e = s.reads w.valuation w.reading in
    let whole = counted nodes measures w i within in
    let left = counted nodes measures w a s.argument in
    let right = counted nodes measures w b s.rest in
    let sum = ap size e ∙ size-arrow (w.valuation a) (w.valuation b) in
    (omega (arith, whole, left, right, sum, small, size_positive (w.valuation b)), omega (arith, whole, left, right, sum, small, size_positive (w.valuation a)))

-- one more argument is read
pub argument_read : (whole : SortTree) (args longer : List SortTree) (a k l m : SortTree) → whole ≡ with_arguments args k → k ≡ arrow l m → a ≡ l → longer ≡ args ++ a ∷ [] → whole ≡ with_arguments longer m
argument_read whole args longer a k l m was split same pushed =
    was ∙ (ap (with_arguments args) (split ∙ ap (λ b. arrow b m) (sym same)) ∙ (with_arguments_more args a m ∙ ap (λ (xs : List SortTree). with_arguments xs m) (sym pushed)))

-- the sort of a node whose root is known
pub split_at : (nodes : List Node) (i root : ℕ) (shape : Shape) (answer : Option (ℕ × ℕ)) → IsStore nodes → slice_get nodes root ≡ Some (Root shape) → ((v : Valuation) → IsReading v nodes → v i ≡ v root)
    → answer ≡ parts shape → IsSplitAt nodes i answer
split_at nodes i root shape answer is at same e = subst (IsSplitAt nodes i) (sym e) (by_shape shape at)
  where
    by_shape : (s : Shape) → slice_get nodes root ≡ Some (Root s) → IsSplitAt nodes i (parts s)
    by_shape Open at = λ v r. same v r ∙ r.reads root (Root Open) at
    by_shape Base at = λ v r. same v r ∙ r.reads root (Root Base) at
    by_shape (Arrow a b) at =
        let range = is.in_range root (Root (Arrow a b)) at in
        record { argument = range.0; rest = range.1; reads = λ v r. same v r ∙ r.reads root (Root (Arrow a b)) at }
