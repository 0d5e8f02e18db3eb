-- What is joined does not depend on the order of the entries, nor on repeats.
use Rattle.std.proofs.Common.{◌≡◌, refl, sym, ◌∙◌, ap, subst, ℕ, zero, suc, ◌+◌, ◌<◌, ◌≤◌, Bool, true, false, ◌&&◌, nat_eq, cond, Some, None, List, [], ◌∷◌, ◌++◌, length, get_or, set, slice_get, map, drop, arith, Contains, ◌↔◌}
use Rattle.std.specs.List.{flat_map}
use Rattle.std.specs.Ordering.{is_eq}
use Rattle.std.proofs.lemmas.Bool.{eqb-true, eq-eqb, and_parts, and_from}
use Rattle.std.proofs.lemmas.Cmp.{tied_itself}
use Rattle.hs_scheme.specs.Tree.{node, none, more, children}
use Rattle.hs_scheme.proofs.Orderings.{equal_of}
use Rattle.hs_table.specs.Types.{TypeTree, state, arrow, type_cmp}
use Rattle.hs_table.specs.Entries.{EntryData}
use Rattle.hs_table_laws.proofs.Orders.{type_cmp_total, type_same}
use Rattle.hs_table_laws.proofs.Members.{from_map, into_map}
use Rattle.hs_table_plain.specs.Enumeration.{joined, extended, picks, retyped, through}
use Rattle.hs_table_plain.proofs.Loops.{through_step}
use Rattle.hs_table_plain.proofs.Members.{from_flat_map, into_flat_map}
use Rattle.hs_table_plain.proofs.ChoiceLemmas.{from_cond, into_cond}
use Rattle.hs_checker.specs.Any.{AnyOf}

-- each item joined with each row for the type at the point
pub extended_by : {X : Type 0} (value : X → EntryData) (E : List EntryData) (rows : List X) (u : ℕ) (a : TypeTree) (es : List EntryData)
    → ((e : EntryData) → Contains (map value rows) e ↔ (Contains E e × ((e.point ≡ u) × (e.ty ≡ a))))
    → (y : EntryData) → AnyOf (λ (r : X) (y : EntryData). AnyOf (λ (x y : EntryData). y ≡ joined x (value r)) es y) rows y ↔ Contains (flat_map (λ x. flat_map (extended u a x) E) es) y
extended_by {X} value E rows u a es exact y = (
  λ h.
      let x = value h.item in
      let both = (exact x).0 (into_map value rows h.item h.there) in
      let e = h.holds.item in
      let test = and_from (nat_eq x.point u) (is_eq (type_cmp x.ty a)) (eq-eqb x.point u both.1.0) (ap is_eq (ap (type_cmp x.ty) (sym both.1.1) ∙ tied_itself type_cmp_total x.ty)) in
      subst (λ z. Contains (flat_map (λ x. flat_map (extended u a x) E) es) z) (sym h.holds.holds)
      (into_flat_map (λ x. flat_map (extended u a x) E) es e (joined e x) h.holds.there
      (into_flat_map (extended u a e) E x (joined e x) both.0 (into_cond (nat_eq x.point u && is_eq (type_cmp x.ty a)) (joined e x) test))),
  λ c.
      let first = from_flat_map (λ x. flat_map (extended u a x) E) es y c in
      let second = from_flat_map (extended u a first.item) E y first.gives in
      let x = second.item in
      let test = from_cond (nat_eq x.point u && is_eq (type_cmp x.ty a)) (joined first.item x) y second.gives in
      let parts = and_parts (nat_eq x.point u) (is_eq (type_cmp x.ty a)) test.0 in
      let row = from_map value rows x ((exact x).1 (second.there, (eqb-true x.point u parts.0, type_same x.ty a (equal_of (type_cmp x.ty a) parts.1)))) in
      record { item = row.item; there = row.there; holds = record { item = first.item; there = first.there; holds = test.1 ∙ ap (joined first.item) row.is } },
)

pub flat_same : {X Y : Type 0} (f : X → List Y) (xs ys : List X) → ((x : X) → Contains xs x ↔ Contains ys x) → (y : Y) → Contains (flat_map f xs) y ↔ Contains (flat_map f ys) y
flat_same f xs ys h y = (
  λ c. let s = from_flat_map f xs y c in into_flat_map f ys s.item y ((h s.item).0 s.there) s.gives,
  λ c. let s = from_flat_map f ys y c in into_flat_map f xs s.item y ((h s.item).1 s.there) s.gives,
)

pub picks_same : (E : List EntryData) (u : ℕ) (s : List TypeTree) (es fs : List EntryData) → ((e : EntryData) → Contains es e ↔ Contains fs e) → (e : EntryData) → Contains (picks E u s es) e ↔ Contains (picks E u s fs) e
picks_same E u [] es fs h e = h e
picks_same E u (a ∷ s) es fs h e =
    picks_same E u s (flat_map (λ x. flat_map (extended u a x) E) es) (flat_map (λ x. flat_map (extended u a x) E) fs) (flat_same (λ x. flat_map (extended u a x) E) es fs h) e

-- one type less to choose for
pub picks_step : (E : List EntryData) (u : ℕ) (set : List TypeTree) (k : ℕ) (a : TypeTree) (es fs : List EntryData) → k < length set → a ≡ get_or set k a
    → ((e : EntryData) → Contains fs e ↔ Contains (flat_map (λ x. flat_map (extended u a x) E) es) e) → (e : EntryData) → Contains (picks E u (drop (k + 1) set) fs) e ↔ Contains (picks E u (drop k set) es) e
picks_step E u set k a es fs lt read h e =
    let split = front set k lt read in
    subst (λ (s : List TypeTree). Contains (picks E u (drop (k + 1) set) fs) e ↔ Contains (picks E u s es) e) (sym split)
    (picks_same E u (drop (k + 1) set) fs (flat_map (λ x. flat_map (extended u a x) E) es) h e)
  where
    front : (set : List TypeTree) (k : ℕ) → k < length set → a ≡ get_or set k a → drop k set ≡ a ∷ drop (k + 1) set
    front [] k lt read = absurd (omega arith)
    front (b ∷ set) zero lt read = ap (λ z. z ∷ set) (sym read)
    front (b ∷ set) (suc k) lt read = front set k (omega arith) read ∙ ap (λ n. a ∷ drop n (b ∷ set)) (plus k)
      where
        plus : (k : ℕ) → suc (k + 1) ≡ suc k + 1
        plus k = omega arith

pub map_same : {X Y : Type 0} (f : X → Y) (xs ys : List X) → ((x : X) → Contains xs x ↔ Contains ys x) → (y : Y) → Contains (map f xs) y ↔ Contains (map f ys) y
map_same f xs ys h y = (
  λ c. let s = from_map f xs y c in subst (λ z. Contains (map f ys) z) (sym s.is) (into_map f ys s.item ((h s.item).0 s.there)),
  λ c. let s = from_map f ys y c in subst (λ z. Contains (map f xs) z) (sym s.is) (into_map f xs s.item ((h s.item).1 s.there)),
)

pub through_same : (E : List EntryData) (us : List ℕ) (ty : TypeTree) (es fs : List EntryData) → ((e : EntryData) → Contains es e ↔ Contains fs e) → (e : EntryData) → Contains (through E us ty es) e ↔ Contains (through E us ty fs) e
through_same E [] ty es fs h e = map_same (retyped ty) es fs h e
through_same E (u ∷ us) (node (Some q) ts) es fs h e = (λ c. c, λ c. c)
through_same E (u ∷ us) (node None none) es fs h e = (λ c. c, λ c. c)
through_same E (u ∷ us) (node None (more t ts)) es fs h e = through_same E us t (picks E u (children ts) es) (picks E u (children ts) fs) (picks_same E u (children ts) es fs h) e

-- with no argument, and at a state
pub through_none : (E : List EntryData) (us : List ℕ) (ty : TypeTree) (es : List EntryData) → slice_get us 0 ≡ None → through E us ty es ≡ map (retyped ty) es
through_none E [] ty es at = refl
through_none E (u ∷ us) ty es at = let f : Some u ≡ None = at in absurd (cc)

pub through_state : (E : List EntryData) (us : List ℕ) (u q : ℕ) (ty : TypeTree) (es : List EntryData) → slice_get us 0 ≡ Some u → ty ≡ state q → through E us ty es ≡ []
through_state E [] u q ty es at is = let f : None ≡ Some u = at in absurd (cc)
through_state E (v ∷ us) u q ty es at is = ap (λ z. through E (v ∷ us) z es) is

-- behind the first argument
pub through_rest : (E : List EntryData) (us : List ℕ) (u : ℕ) (set : List TypeTree) (t ty : TypeTree) (es chosen : List EntryData) → slice_get us 0 ≡ Some u → ty ≡ arrow set t
    → ((e : EntryData) → Contains chosen e ↔ Contains (picks E u set es) e) → (e : EntryData) → Contains (through E (drop 1 us) t chosen) e ↔ Contains (through E us ty es) e
through_rest E us u set t ty es chosen at is h e =
    subst (λ xs. Contains (through E (drop 1 us) t chosen) e ↔ Contains xs e) (through_step E us u set t ty es (picks E u set es) at is refl)
    (through_same E (drop 1 us) t chosen (picks E u set es) h e)

drop_none : {X : Type 0} (k : ℕ) (xs : List X) → length xs ≤ k → drop k xs ≡ []
drop_none zero [] le = refl
drop_none zero (x ∷ xs) le = absurd (omega arith)
drop_none (suc k) [] le = refl
drop_none (suc k) (x ∷ xs) le = drop_none k xs (omega arith)

front : {X : Type 0} (xs : List X) (k : ℕ) (x : X) → k < length xs → x ≡ get_or xs k x → drop k xs ≡ x ∷ drop (k + 1) xs
front [] k x lt read = absurd (omega arith)
front (y ∷ xs) zero x lt read = ap (λ z. z ∷ xs) (sym read)
front (y ∷ xs) (suc k) x lt read =
    let plus : suc (k + 1) ≡ suc k + 1 = omega arith in
    front xs k x (omega arith) read ∙ ap (λ n. x ∷ drop n (y ∷ xs)) plus

-- nothing left to choose for
pub picks_done : (E : List EntryData) (u : ℕ) (set : List TypeTree) (k : ℕ) (es start : List EntryData) → length set ≤ k
    → ((e : EntryData) → Contains (picks E u (drop k set) es) e ↔ Contains (picks E u set start) e) → (e : EntryData) → Contains es e ↔ Contains (picks E u set start) e
picks_done E u set k es start le h e = subst (λ (s : List TypeTree). Contains (picks E u s es) e ↔ Contains (picks E u set start) e) (drop_none k set le) (h e)

-- the type of what is begun with doesn't matter
pub map_append : {X Y : Type 0} (f : X → Y) (xs ys : List X) → map f (xs ++ ys) ≡ map f xs ++ map f ys
map_append f [] ys = refl
map_append f (x ∷ xs) ys = ap (λ zs. f x ∷ zs) (map_append f xs ys)

module _ (t : TypeTree) (u : ℕ) (a : TypeTree) where
  one_extended : (e x : EntryData) (b : Bool) → cond b (joined (retyped t e) x ∷ []) [] ≡ map (retyped t) (cond b (joined e x ∷ []) [])
  one_extended e x true = refl
  one_extended e x false = refl

  all_extended : (E : List EntryData) (e : EntryData) → flat_map (extended u a (retyped t e)) E ≡ map (retyped t) (flat_map (extended u a e) E)
  all_extended [] e = refl
  all_extended (x ∷ E) e =
      (λ i. one_extended e x (nat_eq x.point u && is_eq (type_cmp x.ty a)) i ++ all_extended E e i)
      ∙ sym (map_append (retyped t) (extended u a e x) (flat_map (extended u a e) E))

  each_extended : (E es : List EntryData) → flat_map (λ e. flat_map (extended u a e) E) (map (retyped t) es) ≡ map (retyped t) (flat_map (λ e. flat_map (extended u a e) E) es)
  each_extended E [] = refl
  each_extended E (e ∷ es) =
      (λ i. all_extended E e i ++ each_extended E es i)
      ∙ sym (map_append (retyped t) (flat_map (extended u a e) E) (flat_map (λ e. flat_map (extended u a e) E) es))

picks_retyped : (E : List EntryData) (t : TypeTree) (u : ℕ) (s : List TypeTree) (es : List EntryData) → picks E u s (map (retyped t) es) ≡ map (retyped t) (picks E u s es)
picks_retyped E t u [] es = refl
picks_retyped E t u (a ∷ s) es = ap (picks E u s) (each_extended t u a E es) ∙ picks_retyped E t u s (flat_map (λ e. flat_map (extended u a e) E) es)

twice_retyped : (t s : TypeTree) (es : List EntryData) → map (retyped t) (map (retyped s) es) ≡ map (retyped t) es
twice_retyped t s [] = refl
twice_retyped t s (e ∷ es) = ap (λ ys. retyped t e ∷ ys) (twice_retyped t s es)

pub through_retyped : (E : List EntryData) (us : List ℕ) (ty t : TypeTree) (es : List EntryData) → through E us ty (map (retyped t) es) ≡ through E us ty es
through_retyped E [] ty t es = twice_retyped ty t es
through_retyped E (u ∷ us) (node (Some q) ts) t es = refl
through_retyped E (u ∷ us) (node None none) t es = refl
through_retyped E (u ∷ us) (node None (more r ts)) t es = ap (through E us r) (picks_retyped E t u (children ts) es) ∙ through_retyped E us r t (picks E u (children ts) es)
