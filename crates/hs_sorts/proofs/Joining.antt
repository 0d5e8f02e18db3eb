-- What it does to a store that two of its nodes are made one.
use Rattle.std.proofs.Common.{◌≡◌, ◌≢◌, sym, ◌∙◌, ap, subst, ℕ, ◌+◌, ◌<◌, List, [], ◌∷◌, ◌++◌, length, set, slice_get, min, max, Some, Bool, true, false, inl, inr, arith, length-append, length-set, All}
use Rattle.std.proofs.lemmas.Option.{same_Some, slice_get_within}
use Rattle.std.proofs.lemmas.List.Elements.{All-push, All-nil, All-cons, All-head, All-tail}
use Rattle.std.proofs.lemmas.Bool.{cases_lt}
use Rattle.hs_scheme.specs.Tree.{node}
use Rattle.hs_scheme.specs.sorting.Sorting.{SortTree, arrow}
use Rattle.hs_sorts.specs.declared.store.Shape.{Shape}
use Rattle.hs_sorts.specs.declared.store.Shape.TheVariants.{Arrow}
use Rattle.hs_sorts.specs.declared.store.Node.{Node}
use Rattle.hs_sorts.specs.declared.store.Node.TheVariants.{Root, Link}
use Rattle.hs_sorts.specs.Nodes.{Valuation, FitsShape, FitsNode, IsValuationOf, ShapeInRange, IsRootOf, root_count, linked, AreOne, PairsInRange, Merges, Joins, Equates, IsEquation}
use Rattle.hs_sorts.proofs.Lists.{get_set_same, get_set_other}
use Rattle.hs_sorts.proofs.NodeLemmas.{respects_set, respects_unset, roots_set}

pub arrow_parts : (a b c d : SortTree) → arrow a b ≡ arrow c d → (a ≡ c) × (b ≡ d)
arrow_parts a (node u ks) c (node w ls) h = (cc, cc)

All-left : {A : Type 0} (P : A → Type 0) (xs ys : List A) → All P (xs ++ ys) → All P xs
All-left P [] ys h = All-nil P
All-left P (x ∷ xs) ys h = All-cons P x xs (All-head P x (xs ++ ys) h) (All-left P xs ys (All-tail P x (xs ++ ys) h))

All-right : {A : Type 0} (P : A → Type 0) (xs ys : List A) → All P (xs ++ ys) → All P ys
All-right P [] ys h = h
All-right P (x ∷ xs) ys h = All-right P xs ys (All-tail P x (xs ++ ys) h)

All-last : {A : Type 0} (P : A → Type 0) (xs : List A) (y : A) → All P (xs ++ y ∷ []) → P y
All-last P xs y h = All-head P y [] (All-right P xs (y ∷ []) h)

-- two arrows are one where their parts are
pub arrows_merge : (a b c d : ℕ) (old mid new : List (ℕ × ℕ)) → mid ≡ old ++ (a, c) ∷ [] → new ≡ mid ++ (b, d) ∷ [] → Merges (Arrow a b) (Arrow c d) (Arrow a b) old new
arrows_merge a b c d old mid new first second = record {
  few = omega (arith, ap length first, ap length second, length-append old ((a, c) ∷ []), length-append mid ((b, d) ∷ []));
  in_range = λ count l r. l;
  pairs_in_range = λ count l r h. push_pairs (λ p. (p.0 < count) × (p.1 < count)) h (l.0, r.0) (l.1, r.1);
  onward = λ v s l r h.
      let parts = arrow_parts (v a) (v b) (v c) (v d) (sym l ∙ r) in
      (l, push_pairs (λ p. v p.0 ≡ v p.1) h parts.0 parts.1);
  back = λ v s l h.
      let whole : AreOne v (mid ++ (b, d) ∷ []) = subst (AreOne v) second h in
      let before : AreOne v (old ++ (a, c) ∷ []) = subst (AreOne v) first (All-left (λ p. v p.0 ≡ v p.1) mid ((b, d) ∷ []) whole) in
      let low : v a ≡ v c = All-last (λ p. v p.0 ≡ v p.1) old (a, c) before in
      let high : v b ≡ v d = All-last (λ p. v p.0 ≡ v p.1) mid (b, d) whole in
      (l, l ∙ (λ i. arrow (low i) (high i)), All-left (λ p. v p.0 ≡ v p.1) old ((a, c) ∷ []) before);
}
  where
    push_pairs : (P : ℕ × ℕ → Type 0) → All P old → P (a, c) → P (b, d) → All P new
    push_pairs P h p q = subst (All P) (sym second) (All-push P mid (b, d) (subst (All P) (sym first) (All-push P old (a, c) h p)) q)

-- the store after two roots were made one
pub record Linked (old new : List Node) (a b : ℕ) (left right shape : Shape) : Type 0 where
  pub as_long : length new ≡ length old
  pub roots : root_count new + 1 ≡ root_count old
  pub onward : (v : Valuation) → IsValuationOf v old → v a ≡ v b → FitsShape v (v a) shape → IsValuationOf v new
  pub back : (v : Valuation) → IsValuationOf v new → (v a ≡ v b) × FitsShape v (v a) shape
  pub restores : (v : Valuation) → IsValuationOf v new → FitsShape v (v a) left → FitsShape v (v b) right → IsValuationOf v old

module _ (old : List Node) (a b : ℕ) (left right shape : Shape) (apart : a ≢ b) (at_a : slice_get old a ≡ Some (Root left)) (at_b : slice_get old b ≡ Some (Root right)) where
  in_a : a < length old
  in_a = slice_get_within old a (Root left) at_a

  in_b : b < length (set old a (Root shape))
  in_b = omega (arith, slice_get_within old b (Root right) at_b, length-set old a (Root shape))

  -- the second is as it was when the first is changed
  still_b : slice_get (set old a (Root shape)) b ≡ Some (Root right)
  still_b = get_set_other old a b (Root shape) (λ e. apart (sym e)) ∙ at_b

  new_b : slice_get (linked old a b shape) b ≡ Some (Link a)
  new_b = get_set_same (set old a (Root shape)) b (Link a) in_b

  new_a : slice_get (linked old a b shape) a ≡ Some (Root shape)
  new_a = get_set_other (set old a (Root shape)) b a (Link a) apart ∙ get_set_same old a (Root shape) in_a

  pub linked_up : Linked old (linked old a b shape) a b left right shape
  linked_up = record {
    as_long = length-set (set old a (Root shape)) b (Link a) ∙ length-set old a (Root shape);
    roots = omega (arith, roots_set old a (Root left) (Root shape) at_a, roots_set (set old a (Root shape)) b (Root right) (Link a) still_b);
    onward = λ v r e fit. respects_set (set old a (Root shape)) b (Link a) v in_b (respects_set old a (Root shape) v in_a r fit) (sym e);
    back = λ v r. (sym (r.fits b (Link a) new_b), r.fits a (Root shape) new_a);
    restores = λ v r fit_a fit_b.
        respects_unset old a (Root shape) v in_a
        (respects_unset (set old a (Root shape)) b (Link a) v in_b r (λ x h. subst (λ (n : Node). FitsNode v (v b) n) (same_Some (Root right) x (sym still_b ∙ h)) fit_b))
        (λ x h. subst (λ (n : Node). FitsNode v (v a) n) (same_Some (Root left) x (sym at_a ∙ h)) fit_a);
  }

turned : (old new : List Node) (a b : ℕ) (left right shape : Shape) → Linked old new b a right left shape → Linked old new a b left right shape
turned old new a b left right shape l = record {
  as_long = l.as_long;
  roots = l.roots;
  onward = λ v r e fit. l.onward v r (sym e) (subst (λ (s : SortTree). FitsShape v s shape) e fit);
  back = λ v r. let h = l.back v r in (sym h.0, subst (λ (s : SortTree). FitsShape v s shape) h.0 h.1);
  restores = λ v r fit_a fit_b. l.restores v r fit_b fit_a;
}

-- the link leads from the greater number to the smaller
pub linked_either : (old : List Node) (a b : ℕ) (left right shape : Shape) → a ≢ b → slice_get old a ≡ Some (Root left) → slice_get old b ≡ Some (Root right)
    → Linked old (linked old (min a b) (max a b) shape) a b left right shape
linked_either old a b left right shape apart at_a at_b = elim (cases_lt b a) [
  | inr le ↦
      let low : min a b ≡ a = omega arith in
      let high : max a b ≡ b = omega arith in
      subst (λ (j : ℕ). Linked old (linked old j (max a b) shape) a b left right shape) (sym low)
      (subst (λ (j : ℕ). Linked old (linked old a j shape) a b left right shape) (sym high) (linked_up old a b left right shape apart at_a at_b))
  | inl lt ↦
      let low : min a b ≡ b = omega arith in
      let high : max a b ≡ a = omega arith in
      subst (λ (j : ℕ). Linked old (linked old j (max a b) shape) a b left right shape) (sym low)
      (subst (λ (j : ℕ). Linked old (linked old b j shape) a b left right shape) (sym high)
      (turned old (linked old b a shape) a b left right shape (linked_up old b a right left shape (λ e. apart (sym e)) at_b at_a)))
]

-- the roots of two nodes
module _ (old mid now : List Node) (a b root_a root_b : ℕ) (left right : Shape) (find_a : IsRootOf old mid a root_a left) (find_b : IsRootOf mid now b root_b right) where
  same_value : (v : Valuation) → IsValuationOf v old → v a ≡ v b → v root_a ≡ v root_b
  same_value v r e = sym (find_a.equal v r) ∙ (e ∙ find_b.equal v (find_a.same.onward v r))

  same_node : (v : Valuation) → IsValuationOf v old → v root_a ≡ v root_b → v a ≡ v b
  same_node v r e = find_a.equal v r ∙ (e ∙ sym (find_b.equal v (find_a.same.onward v r)))

  both_onward : (v : Valuation) → IsValuationOf v old → IsValuationOf v now
  both_onward v r = find_b.same.onward v (find_a.same.onward v r)

  both_back : (v : Valuation) → IsValuationOf v now → IsValuationOf v old
  both_back v r = find_a.same.back v (find_b.same.back v r)

  at_a : slice_get now root_a ≡ Some (Root left)
  at_a = find_b.same.kept root_a left find_a.at

  -- they are one already
  pub one_root : root_a ≡ root_b → Equates a b old now
  one_root same = record {
    as_long = find_b.same.as_long ∙ find_a.same.as_long;
    onward = λ v r e. both_onward v r;
    back = λ v r. let was = both_back v r in (was, same_node v was (ap v same));
  }

  -- they are made one where their roots are
  pub equates_roots : (new : List Node) (answer : Bool) → IsEquation root_a root_b now new answer → IsEquation a b old new answer
  equates_roots new true e = record {
    as_long = e.as_long ∙ (find_b.same.as_long ∙ find_a.same.as_long);
    onward = λ v r h. e.onward v (both_onward v r) (same_value v r h);
    back = λ v r. let k = e.back v r in let was = both_back v k.0 in (was, same_node v was k.1);
  }
  equates_roots new false e = λ v r h. e v (both_onward v r) (same_value v r h)

  pub not_joined : ((v : Valuation) (s : SortTree) → FitsShape v s left → FitsShape v s right → ⊥) → (v : Valuation) → IsValuationOf v old → v a ≡ v b → ⊥
  not_joined clash v r e =
      let now_r = both_onward v r in
      clash v (v root_a) (now_r.fits root_a (Root left) at_a)
      (subst (λ (s : SortTree). FitsShape v s right) (sym (same_value v r e)) (now_r.fits root_b (Root right) find_b.at))

  pub joined : (shape : Shape) (before after : List (ℕ × ℕ)) → root_a ≢ root_b → Merges left right shape before after
      → Joins a b old (linked now (min root_a root_b) (max root_a root_b) shape) before after
  joined shape before after apart m =
      let l = linked_either now root_a root_b left right shape apart at_a find_b.at in
      record {
        as_long = l.as_long ∙ (find_b.same.as_long ∙ find_a.same.as_long);
        smaller = omega (arith, l.roots, find_b.same.roots, find_a.same.roots, m.few);
        in_range = λ h.
            let range_b = subst (λ (n : ℕ). ShapeInRange n right) find_a.same.as_long find_b.in_range in
            subst (λ (n : ℕ). PairsInRange n after) (sym (l.as_long ∙ (find_b.same.as_long ∙ find_a.same.as_long))) (m.pairs_in_range (length old) find_a.in_range range_b h);
        onward = λ v r e h.
            let now_r = both_onward v r in
            let one = same_value v r e in
            let fit = m.onward v (v root_a) (now_r.fits root_a (Root left) at_a) (subst (λ (s : SortTree). FitsShape v s right) (sym one) (now_r.fits root_b (Root right) find_b.at)) h in
            (l.onward v now_r one fit.0, fit.1);
        back = λ v r h.
            let b = l.back v r in
            let fit = m.back v (v root_a) b.1 h in
            let now_r = l.restores v r fit.0 (subst (λ (s : SortTree). FitsShape v s right) b.0 fit.1) in
            (both_back v now_r, same_node v (both_back v now_r) b.0, fit.2);
      }

  pub joined_shape : (shape : Shape) (before after : List (ℕ × ℕ)) → Merges left right shape before after → ShapeInRange (length now) shape
  joined_shape shape before after m =
      let range_b = subst (λ (n : ℕ). ShapeInRange n right) find_a.same.as_long find_b.in_range in
      subst (λ (n : ℕ). ShapeInRange n shape) (sym (find_b.same.as_long ∙ find_a.same.as_long)) (m.in_range (length old) find_a.in_range range_b)

-- the two nodes are one in the first store exactly where the pairs are one in this one
pub record Pending (start now : List Node) (a b : ℕ) (pairs : List (ℕ × ℕ)) : Type 0 where
  pub as_long : length now ≡ length start
  pub in_range : PairsInRange (length now) pairs
  pub onward : (v : Valuation) → IsValuationOf v start → v a ≡ v b → IsValuationOf v now × AreOne v pairs
  pub back : (v : Valuation) → IsValuationOf v now → AreOne v pairs → IsValuationOf v start × (v a ≡ v b)

pub pending_less : (start now next : List Node) (a b x y : ℕ) (pairs rest after : List (ℕ × ℕ)) → pairs ≡ rest ++ (x, y) ∷ [] → Pending start now a b pairs → Joins x y now next rest after
    → Pending start next a b after
pending_less start now next a b x y pairs rest after is p j = record {
  as_long = j.as_long ∙ p.as_long;
  in_range = j.in_range (All-left (λ q. (q.0 < length now) × (q.1 < length now)) rest ((x, y) ∷ []) (subst (PairsInRange (length now)) is p.in_range));
  onward = λ v r e.
      let h = p.onward v r e in
      let all : AreOne v (rest ++ (x, y) ∷ []) = subst (AreOne v) is h.1 in
      j.onward v h.0 (All-last (λ q. v q.0 ≡ v q.1) rest (x, y) all) (All-left (λ q. v q.0 ≡ v q.1) rest ((x, y) ∷ []) all);
  back = λ v r h.
      let k = j.back v r h in
      p.back v k.0 (subst (AreOne v) (sym is) (All-push (λ q. v q.0 ≡ v q.1) rest (x, y) k.2 k.1));
}
