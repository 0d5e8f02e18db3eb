-- What a step of each loop adds.
use Rattle.std.proofs.Common.{◌≡◌, refl, sym, ◌∙◌, ap, subst, ℕ, zero, suc, ◌+◌, ◌<◌, Bool, true, false, ◌&&◌, nat_eq, cond, List, [], ◌∷◌, ◌++◌, length, get_or, take, drop, slice_get, Some, arith, Contains, ◌⊎◌, inl, inr, ◌↔◌, IsTrue, add-one, append-nil}
use Rattle.std.specs.Bool.{◌==◌}
use Rattle.std.specs.List.{flat_map, list_any}
use Rattle.std.specs.Ordering.{ordering_index, is_eq}
use Rattle.std.specs.declared.cmp.Ordering.{Ordering}
use Rattle.std.specs.declared.cmp.Ordering.TheVariants.{Less, Equal, Greater}
use Rattle.std.proofs.lemmas.Bool.{eqb-true, eq-eqb, and_parts, and_from, or_left, or_right, or_cases}
use Rattle.std.proofs.lemmas.Cmp.{tied_itself}
use Rattle.std.proofs.lemmas.List.{drop_more}
use Rattle.std.proofs.lemmas.Option.{same_Some}
use Rattle.hs_scheme.specs.declared.flow.FlowPair.{FlowPair}
use Rattle.hs_scheme.specs.Tree.{children-forest}
use Rattle.hs_scheme.proofs.Lists.{none_in, here, later, uncons}
use Rattle.hs_table.specs.Types.{TypeTree, arrow, type_cmp}
use Rattle.hs_table.specs.Entries.{Env, EntryData, set_at, entry_cmp}
use Rattle.hs_table_laws.proofs.Orders.{entry_cmp_total}
use Rattle.hs_table_plain.specs.Enumeration.{union, union_from, is_pair, flow_type, joined, extended, picks, through}

pub is_equal : (o : Ordering) → true ≡ (ordering_index o == 1) → o ≡ Equal
is_equal Less e = (cc)
is_equal Equal e = refl
is_equal Greater e = (cc)

pub not_equal : (o : Ordering) → false ≡ (ordering_index o == 1) → o ≡ Equal → ⊥
not_equal Less e f = (cc)
not_equal Equal e f = (cc)
not_equal Greater e f = (cc)

-- a member of one more element
pub in_next : {X : Type 0} (xs : List X) (k : ℕ) (x d : X) → k < length xs → Contains (take (suc k) xs) x → Contains (take k xs) x ⊎ (x ≡ get_or xs k d)
in_next [] k x d h c = absurd (omega arith)
in_next (y ∷ ys) zero x d h c = elim (uncons y x [] c) [
  | inl e ↦ inr e
  | inr nowhere ↦ absurd (none_in x nowhere)
]
in_next (y ∷ ys) (suc k) x d h c = elim (uncons y x (take (suc k) ys) c) [
  | inl e ↦ inl (subst (λ z. Contains (y ∷ take k ys) z) (sym e) (here y (take k ys)))
  | inr there ↦ elim (in_next ys k x d (omega arith) there) [
    | inl before ↦ inl (later y x (take k ys) before)
    | inr e ↦ inr e
  ]
]

union_step : (n k : ℕ) (e r : Env) (s : List TypeTree) → k < length e → s ≡ get_or e k s → union_from n (take (suc k) e) r ≡ union_from n (take k e) r ++ union s (set_at r (n + k)) ∷ []
union_step n k [] r s lt is = absurd (omega arith)
union_step n zero (x ∷ e) r s lt is = let z : n ≡ n + 0 = omega arith in let back = sym is in λ i. union (back i) (set_at r (z i)) ∷ []
union_step n (suc k) (x ∷ e) r s lt is =
    let z : suc n + k ≡ n + suc k = omega arith in
    λ i. union x (set_at r n) ∷ (union_step (suc n) k e r s (omega arith) is ∙ ap (λ m. union_from (suc n) (take k e) r ++ union s (set_at r m) ∷ []) z) i

pub joined_step : (k : ℕ) (e r : Env) (s : List TypeTree) → k < length e → s ≡ get_or e k s → union_from 0 (take k e) r ++ union s (set_at r k) ∷ [] ≡ union_from 0 (take (k + 1) e) r
joined_step k e r s lt is =
    let z : k ≡ 0 + k = omega arith in
    let m : suc k ≡ k + 1 = omega arith in
    ap (λ j. union_from 0 (take k e) r ++ union s (set_at r j) ∷ []) z ∙ (sym (union_step 0 k e r s lt is) ∙ ap (λ j. union_from 0 (take j e) r) m)

pair_of : (rule x u : ℕ) (f : FlowPair) → is_pair rule x u f ≡ true → f ≡ record { rule = rule; param = x; point = u }
pair_of rule x u f e =
    let p = and_parts (nat_eq f.rule rule) (nat_eq f.param x && nat_eq f.point u) e in
    let q = and_parts (nat_eq f.param x) (nat_eq f.point u) p.1 in
    λ i. record { rule = eqb-true f.rule rule p.0 i; param = eqb-true f.param x q.0 i; point = eqb-true f.point u q.1 i }

itself : (rule x u : ℕ) → is_pair rule x u (record { rule = rule; param = x; point = u }) ≡ true
itself rule x u = and_from (nat_eq rule rule) (nat_eq x x && nat_eq u u) (eq-eqb rule rule refl) (and_from (nat_eq x x) (nat_eq u u) (eq-eqb x x refl) (eq-eqb u u refl))

-- the test finds the pair where it is there
pub pair_there : (pairs : List FlowPair) (rule x u : ℕ) → Contains pairs (record { rule = rule; param = x; point = u }) → list_any (is_pair rule x u) pairs ≡ true
pair_there [] rule x u c = absurd (none_in (let q : FlowPair = record { rule = rule; param = x; point = u } in q) c)
pair_there (f ∷ fs) rule x u c = elim (uncons f (let q : FlowPair = record { rule = rule; param = x; point = u } in q) fs c) [
  | inl e ↦ or_left (is_pair rule x u f) (list_any (is_pair rule x u) fs) (subst (λ g. is_pair rule x u g ≡ true) e (itself rule x u))
  | inr there ↦ or_right (is_pair rule x u f) (list_any (is_pair rule x u) fs) (pair_there fs rule x u there)
]

pub pair_found : (pairs : List FlowPair) (rule x u : ℕ) → list_any (is_pair rule x u) pairs ≡ true → Contains pairs (record { rule = rule; param = x; point = u })
pair_found [] rule x u e = absurd (cc)
pair_found (f ∷ fs) rule x u e = elim (or_cases (is_pair rule x u f) (list_any (is_pair rule x u) fs) e) [
  | inl is ↦ subst (λ g. Contains (f ∷ fs) g) (pair_of rule x u f is) (here f fs)
  | inr there ↦ later f (record { rule = rule; param = x; point = u }) fs (pair_found fs rule x u there)
]

pub test_false : (pairs : List FlowPair) (rule x u : ℕ) (b : Bool) → IsTrue b ↔ Contains pairs (record { rule = rule; param = x; point = u }) → b ≡ false → list_any (is_pair rule x u) pairs ≡ false
test_false pairs rule x u b h e = elim (list_any (is_pair rule x u) pairs) as (λ v. list_any (is_pair rule x u) pairs ≡ v → v ≡ false) [
  | true ↦ λ f. let g : b ≡ true = h.1 (pair_found pairs rule x u f) in let c : true ≡ false = sym g ∙ e in absurd (cc)
  | false ↦ λ f. refl
] refl

-- behind one type of the set
pub picks_step : (E : List EntryData) (u : ℕ) (set : List TypeTree) (k : ℕ) (a : TypeTree) (es fs : List EntryData) → k < length set → a ≡ get_or set k a
    → fs ≡ flat_map (λ e. flat_map (extended u a e) E) es → picks E u (drop (k + 1) set) fs ≡ picks E u (drop k set) es
picks_step E u set k a es fs lt is e =
    let split : drop k set ≡ a ∷ drop (k + 1) set = drop_more set k a lt ∙ ap (λ x. x ∷ drop (k + 1) set) (sym is) in
    ap (picks E u (drop (k + 1) set)) e ∙ sym (ap (λ s. picks E u s es) split)

-- behind the first argument
pub through_step : (E : List EntryData) (us : List ℕ) (u : ℕ) (set : List TypeTree) (t ty : TypeTree) (es chosen : List EntryData) → slice_get us 0 ≡ Some u → ty ≡ arrow set t → chosen ≡ picks E u set es
    → through E (drop 1 us) t chosen ≡ through E us ty es
through_step E [] u set t ty es chosen at is e = absurd (cc)
through_step E (v ∷ us) u set t ty es chosen at is e =
    let same : u ≡ v = sym (same_Some v u at) in
    let kids = sym (children-forest set) in
    (λ i. through E us t (e i)) ∙ ((λ i. through E us t (picks E (same i) (kids i) es)) ∙ ap (λ x. through E (v ∷ us) x es) (sym is))

-- nothing is added where the point may not stand for the parameter
pub flow_none : (pairs : List FlowPair) (rule x : ℕ) (e : EntryData) (out : List TypeTree) (b : Bool) → IsTrue b ↔ Contains pairs (record { rule = rule; param = x; point = e.point }) → b ≡ false
    → out ≡ out ++ flow_type pairs rule x e
flow_none pairs rule x e out b h f =
    sym (append-nil out) ∙ ap (λ v. out ++ cond v (e.ty ∷ []) []) (sym (test_false pairs rule x e.point b h f))

pub flow_one : (pairs : List FlowPair) (rule x : ℕ) (e : EntryData) (b : Bool) → IsTrue b ↔ Contains pairs (record { rule = rule; param = x; point = e.point }) → b ≡ true
    → (e.ty ∷ []) ≡ flow_type pairs rule x e
flow_one pairs rule x e b h f = ap (λ v. cond v (e.ty ∷ []) []) (sym (pair_there pairs rule x e.point (h.0 f)))

-- the entry is joined with one at the argument of the type
pub extended_one : (u : ℕ) (a : TypeTree) (e x : EntryData) → x.point ≡ u → type_cmp x.ty a ≡ Equal → (joined e x ∷ []) ≡ extended u a e x
extended_one u a e x at is = ap (λ v. cond v (joined e x ∷ []) []) (sym (and_from (nat_eq x.point u) (is_eq (type_cmp x.ty a)) (eq-eqb x.point u at) (ap is_eq is)))

pub at_item : {X : Type 0} (xs : List X) (k : ℕ) (y x : X) → k < length xs → y ≡ get_or xs k y → y ≡ x → Contains xs x
at_item xs k y x lt is same = subst (λ z. Contains xs z) same (k, lt, sym is)

pub none_equal : (xs : List EntryData) (k : ℕ) (y x : EntryData) → k < length xs → y ≡ get_or xs k y → (entry_cmp y x ≡ Equal → ⊥) → (Contains (take k xs) x → ⊥) → Contains (take (k + 1) xs) x → ⊥
none_equal xs k y x lt is differ before c = elim (in_next xs k x y lt (rw add-one at c)) [
  | inl h ↦ before h
  | inr e ↦ differ (ap (λ z. entry_cmp z x) (is ∙ sym e) ∙ tied_itself entry_cmp_total x)
]
