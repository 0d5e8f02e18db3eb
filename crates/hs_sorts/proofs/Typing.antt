-- The sort of a term, argument by argument, as nodes are added for it.
use Rattle.std.proofs.Common.{◌≡◌, refl, sym, ◌∙◌, ap, subst, ℕ, zero, suc, ◌+◌, ◌^◌, ◌<◌, ◌≤◌, List, [], ◌∷◌, ◌++◌, length, take, get_or, Bool, true, nat_eq, arith}
use Rattle.std.proofs.lemmas.Bool.{eqb-true}
use Rattle.std.proofs.lemmas.List.{take_more, take_all}
use Rattle.hs_scheme.specs.declared.term.Head.{Head}
use Rattle.hs_scheme.specs.Tree.{Tree, Trees, node, none, more, forest, height, heights}
use Rattle.hs_scheme.specs.sorting.Sorting.{SortTree, arrow, HasSort, Applied}
use Rattle.hs_sorts.specs.declared.store.Node.{Node}
use Rattle.hs_sorts.specs.Nodes.{Valuation}
use Rattle.hs_sorts.specs.Constraints.{NodesBelow, AllNodesBelow, Agree, AddsNode, Refutes, TakesArgument, HasSortAt}
use Rattle.hs_sorts.proofs.NodeLemmas.{agree_trans}

module _ (at : Head → ℕ) where
  mutual
    pub nodes_wider : (n m : ℕ) (t : Tree Head) → n ≤ m → NodesBelow at n t → NodesBelow at m t
    nodes_wider n m (node h ts) l b = (omega (arith, b.0), all_wider n m ts l b.1)

    all_wider : (n m : ℕ) (ts : Trees Head) → n ≤ m → AllNodesBelow at n ts → AllNodesBelow at m ts
    all_wider n m none l b = tt
    all_wider n m (more t ts) l b = (nodes_wider n m t l b.0, all_wider n m ts l b.1)

  pub all_below_at : (n i : ℕ) (ts : List (Tree Head)) (d : Tree Head) → i < length ts → AllNodesBelow at n (forest ts) → NodesBelow at n (get_or ts i d)
  all_below_at n i [] d h b = absurd (omega arith)
  all_below_at n zero (t ∷ ts) d h b = b.0
  all_below_at n (suc i) (t ∷ ts) d h b = all_below_at n i ts d (omega arith) b.1

  -- the sort depends on the nodes of the term's heads alone
  module _ (n : ℕ) (v w : Valuation) (same : Agree n v w) where
    mutual
      pub has_same : (t : Tree Head) (k : SortTree) → NodesBelow at n t → HasSort (λ h. v (at h)) t k → HasSort (λ h. w (at h)) t k
      has_same (node h ts) k b p = subst (λ (s : SortTree). Applied (λ g. w (at g)) ts s k) (sym (same.at (at h) b.0)) (applied_same ts (v (at h)) k b.1 p)

      applied_same : (ts : Trees Head) (f k : SortTree) → AllNodesBelow at n ts → Applied (λ h. v (at h)) ts f k → Applied (λ h. w (at h)) ts f k
      applied_same none f k b p = p
      applied_same (more t ts) f k b (a, r, is, of, rest) = (a, r, is, has_same t a b.0 of, applied_same ts r k b.1 rest)

module _ (e : Head → SortTree) where
  -- one more argument
  pub applied_push : (ts : List (Tree Head)) (t : Tree Head) (f a k : SortTree) → Applied e (forest ts) f (arrow a k) → HasSort e t a → Applied e (forest (ts ++ t ∷ [])) f k
  applied_push [] t f a k p q = (a, k, p, q, refl)
  applied_push (u ∷ ts) t f a k (b, r, is, of, rest) q = (b, r, is, of, applied_push ts t r a k rest q)

  -- what the argument at a place takes, and what is left there
  pub record Argument (ts : List (Tree Head)) (i : ℕ) (f : SortTree) (t : Tree Head) : Type 0 where
    pub given : SortTree
    pub left : SortTree
    pub before : Applied e (forest (take i ts)) f (arrow given left)
    pub has : HasSort e t given

  pub argument_at : (ts : List (Tree Head)) (i : ℕ) (f k : SortTree) (d : Tree Head) → i < length ts → Applied e (forest ts) f k → Argument ts i f (get_or ts i d)
  argument_at [] i f k d h p = absurd (omega arith)
  argument_at (t ∷ ts) zero f k d h (a, r, is, of, rest) = record { given = a; left = r; before = is; has = of }
  argument_at (t ∷ ts) (suc i) f k d h (a, r, is, of, rest) =
      let x = argument_at ts i r k d (omega arith) rest in
      record { given = x.given; left = x.left; before = (a, r, is, of, x.before); has = x.has }

  -- so it is with the last of the first i + 1
  pub applied_pop : (ts : List (Tree Head)) (i : ℕ) (f k : SortTree) (d : Tree Head) → i < length ts → Applied e (forest (take (i + 1) ts)) f k
      → (a : SortTree) × Applied e (forest (take i ts)) f (arrow a k) × HasSort e (get_or ts i d) a
  applied_pop ts i f k d h p = unpushed (take i ts) (get_or ts i d) f (subst (λ (us : List (Tree Head)). Applied e (forest us) f k) (take_more ts i d h) p)
    where
      unpushed : (us : List (Tree Head)) (t : Tree Head) (g : SortTree) → Applied e (forest (us ++ t ∷ [])) g k → (a : SortTree) × Applied e (forest us) g (arrow a k) × HasSort e t a
      unpushed [] t g (a, r, is, of, rest) = (a, is ∙ ap (arrow a) rest, of)
      unpushed (u ∷ us) t g (b, r, is, of, rest) = let x = unpushed us t r rest in (x.0, (b, r, is, of, x.1), x.2)

-- a store that was lengthened for the first i arguments
module _ (at : Head → ℕ) (old : List Node) (top : ℕ) (ts : List (Tree Head)) (top_below : top < length old) (all_below : AllNodesBelow at (length old) (forest ts)) where
  abbrev pub Given : ℕ → Valuation → SortTree → Type 0
  Given i v k = Applied (λ h. v (at h)) (forest (take i ts)) (v top) k

  pub given_all : (new : List Node) (i sort : ℕ) → length ts ≤ i → AddsNode old new sort (Given i) → AddsNode old new sort (λ v k. Applied (λ h. v (at h)) (forest ts) (v top) k)
  given_all new i sort all a = subst (λ (us : List (Tree Head)). AddsNode old new sort (λ v k. Applied (λ h. v (at h)) (forest us) (v top) k)) (take_all i ts all) a

  module _ (now mid next : List Node) (i sort taken rest : ℕ) (arg : Tree Head) (within : i < length ts) (is : arg ≡ get_or ts i arg) (so_far : AddsNode old now sort (Given i)) where
    arg_below : NodesBelow at (length old) arg
    arg_below = subst (NodesBelow at (length old)) (sym is) (all_below_at at (length old) i ts arg within all_below)

    has_arg : (v w : Valuation) (a : SortTree) → Agree (length old) v w → HasSort (λ h. v (at h)) (get_or ts i arg) a → HasSort (λ h. w (at h)) arg a
    has_arg v w a same h = has_same at (length old) v w same arg a arg_below (subst (λ (t : Tree Head). HasSort (λ g. v (at g)) t a) (sym is) h)

    pub no_argument : Refutes now (HasSortAt at arg) → Refutes old (λ v k. Applied (λ h. v (at h)) (forest ts) (v top) k)
    no_argument never v k r p =
        let x = argument_at (λ h. v (at h)) ts i (v top) k arg within p in
        let w = so_far.complete v (arrow x.given x.left) r x.before in
        never w.valuation x.given w.respects (has_arg v w.valuation x.given w.agrees x.has)

    module _ (taken_for : AddsNode now mid taken (HasSortAt at arg)) where
      pub not_taken : Refutes mid (TakesArgument sort taken) → Refutes old (λ v k. Applied (λ h. v (at h)) (forest ts) (v top) k)
      not_taken never v k r p =
          let x = argument_at (λ h. v (at h)) ts i (v top) k arg within p in
          let w = so_far.complete v (arrow x.given x.left) r x.before in
          let u = taken_for.complete w.valuation x.given w.respects (has_arg v w.valuation x.given w.agrees x.has) in
          never u.valuation x.left u.respects (u.agrees.at sort so_far.within ∙ (w.gives ∙ (λ j. arrow (sym u.gives j) x.left)))

      pub one_more : AddsNode mid next rest (TakesArgument sort taken) → AddsNode old next rest (Given (i + 1))
      one_more takes = record {
        longer = omega (arith, so_far.longer, taken_for.longer, takes.longer);
        few = takes.few;
        within = takes.within;
        sound = λ v r.
            let t = takes.sound v r in
            let a = taken_for.sound v t.0 in
            let p = so_far.sound v a.0 in (
              p.0,
              subst (λ (us : List (Tree Head)). Applied (λ h. v (at h)) (forest us) (v top) (v rest)) (sym (take_more ts i arg within ∙ ap (λ (t : Tree Head). take i ts ++ t ∷ []) (sym is)))
                  (applied_push (λ h. v (at h)) (take i ts) arg (v top) (v taken) (v rest) (subst (λ (s : SortTree). Applied (λ h. v (at h)) (forest (take i ts)) (v top) s) t.1 p.1) a.1),
            );
        complete = λ v k r p.
            let x = applied_pop (λ h. v (at h)) ts i (v top) k arg within p in
            let w = so_far.complete v (arrow x.0 k) r x.1 in
            let u = taken_for.complete w.valuation x.0 w.respects (has_arg v w.valuation x.0 w.agrees x.2) in
            let z = takes.complete u.valuation k u.respects (u.agrees.at sort so_far.within ∙ (w.gives ∙ (λ j. arrow (sym u.gives j) k))) in
            record {
              valuation = z.valuation;
              agrees = agree_trans (length old) (length now) v w.valuation z.valuation so_far.longer w.agrees (agree_trans (length now) (length mid) w.valuation u.valuation z.valuation taken_for.longer u.agrees z.agrees);
              respects = z.respects;
              gives = z.gives;
            };
      }

-- a term is its head and its arguments
module _ (at : Head → ℕ) (term : Tree Head) (head : Head) (ts : List (Tree Head)) (top : ℕ) (whole : node head (forest ts) ≡ term) (is : top ≡ at head) where
  pub parts_below : (n : ℕ) → NodesBelow at n term → (top < n) × AllNodesBelow at n (forest ts)
  parts_below n b = let p : NodesBelow at n (node head (forest ts)) = subst (NodesBelow at n) (sym whole) b in (omega (arith, p.0), p.1)

  pub adds_term : (old new : List Node) (sort : ℕ) → AddsNode old new sort (λ v k. Applied (λ h. v (at h)) (forest ts) (v top) k) → AddsNode old new sort (HasSortAt at term)
  adds_term old new sort a =
      subst (λ (t : Tree Head). AddsNode old new sort (HasSortAt at t)) whole (subst (λ (j : ℕ). AddsNode old new sort (λ v k. Applied (λ h. v (at h)) (forest ts) (v j) k)) is a)

  pub refutes_term : (old : List Node) → Refutes old (λ v k. Applied (λ h. v (at h)) (forest ts) (v top) k) → Refutes old (HasSortAt at term)
  refutes_term old a =
      subst (λ (t : Tree Head). Refutes old (HasSortAt at t)) whole (subst (λ (j : ℕ). Refutes old (λ v k. Applied (λ h. v (at h)) (forest ts) (v j) k)) is a)

-- a list whose length is said to be 0
pub no_items : {A : Type 0} (xs : List A) (len : ℕ) (empty : Bool) → len ≡ length xs → empty ≡ nat_eq len 0 → empty ≡ true → xs ≡ []
no_items [] len empty long is h = refl
no_items (x ∷ xs) len empty long is h = absurd (omega (arith, long, eqb-true len 0 (sym is ∙ h)))

-- a term without arguments has its head's node, and nothing is added
pub leaf_node : (at : Head → ℕ) (store : List Node) (t : Tree Head) (head : Head) (us : List (Tree Head)) (top : ℕ) → length store ≤ 2 ^ 32 → node head (forest us) ≡ t → us ≡ [] → top ≡ at head
    → NodesBelow at (length store) t → AddsNode store store top (HasSortAt at t)
leaf_node at store t head us top few whole none_there is below =
    let parts = parts_below at t head us top whole is (length store) below in
    adds_term at t head us top whole is store store top (subst (λ (vs : List (Tree Head)). AddsNode store store top (λ v k. Applied (λ h. v (at h)) (forest vs) (v top) k)) (sym none_there) (record {
      longer = omega arith;
      few = few;
      within = parts.0;
      sound = λ v r. (r, refl);
      complete = λ v k r p. record { valuation = v; agrees = record { at = λ i h. refl }; respects = r; gives = p };
    }))

pub height_at : (i : ℕ) (ts : List (Tree Head)) (d : Tree Head) → i < length ts → height (get_or ts i d) + 1 ≤ heights (forest ts)
height_at i [] d h = absurd (omega arith)
height_at zero (t ∷ ts) d h = omega arith
height_at (suc i) (t ∷ ts) d h = omega (arith, height_at i ts d (omega arith))
