-- The order of an index, and what is found in it.
use Rattle.std.proofs.Common.{◌≡◌, refl, sym, ◌∙◌, ap, subst, ℕ, zero, suc, ◌+◌, ◌<◌, true, false, List, [], ◌∷◌, length, map, get_or, arith, inl, inr, Contains, ◌↔◌, Result, Ok, Err, is_ok, Bor}
use Rattle.std.specs.Cmp.{IsTotalOrder, nat_cmp_is}
use Rattle.std.specs.Ordering.{nat_cmp, ordering_then, is_lt, ordering_index}
use Rattle.std.specs.declared.cmp.Ordering.{Ordering}
use Rattle.std.specs.declared.cmp.Ordering.TheVariants.{Less, Equal, Greater}
use Rattle.std.specs.List.Sorted.{IsSortedBy, IsSearchInRange, IsBinarySearchResult, IsNonDecreasingBy}
use Rattle.std.proofs.lemmas.Cmp.{tied_itself, then_total, on_total, nat_cmp_total}
use Rattle.std.proofs.lemmas.Bool.{cases_lt}
use Rattle.std.proofs.lemmas.List.Elements.{Contains-get_or}
use Rattle.std.proofs.lemmas.List.Sorted.{searchable_from_sorted}
use Rattle.std.proofs.lemmas.List.{get_or_default}
use Rattle.hs_scheme.proofs.Orderings.{then_equal, nat_equal}
use Rattle.hs_types.specs.Interned.{RowData}
use Rattle.hs_table_laws.proofs.Members.{from_map, into_map}
use Rattle.hs_checker.specs.Order.{key_cmp, row_cmp, IsInRowOrder}

pub index_total : IsTotalOrder row_cmp
index_total = then_total (then_total (on_total (λ (e : RowData). e.point) nat_cmp_total) (on_total (λ (e : RowData). e.ty) nat_cmp_total)) (on_total (λ (r : RowData). r.env) nat_cmp_total)

both_equal : (a b : Ordering) → a ≡ Equal → b ≡ Equal → ordering_then a b ≡ Equal
both_equal a b e f = ap (λ o. ordering_then o b) e ∙ f

then_not_less : (a b : Ordering) → is_lt (ordering_then a b) ≡ false → is_lt a ≡ false
then_not_less Less b h = h
then_not_less Equal b h = refl
then_not_less Greater b h = refl

pub index_same : (a b : RowData) → row_cmp a b ≡ Equal → a ≡ b
index_same a b h =
    let by_key = then_equal (key_cmp b.point b.ty a) (nat_cmp a.env b.env) h in
    let by_point = then_equal (nat_cmp a.point b.point) (nat_cmp a.ty b.ty) by_key.0 in
    let point = nat_equal a.point b.point by_point.0 in
    let env = nat_equal a.env b.env by_key.1 in
    let ty = nat_equal a.ty b.ty by_point.1 in
    λ i. record { point = point i; env = env i; ty = ty i }

pub key_equal : (point : ℕ) (ty : ℕ) (e : RowData) → (key_cmp point ty e ≡ Equal) ↔ ((e.point ≡ point) × (e.ty ≡ ty))
key_equal point ty e = (
  λ h. let r = then_equal (nat_cmp e.point point) (nat_cmp e.ty ty) h in (nat_equal e.point point r.0, nat_equal e.ty ty r.1),
  λ both. both_equal (nat_cmp e.point point) (nat_cmp e.ty ty) (sym (nat_cmp_is e.point point Equal both.0)) (ap (nat_cmp e.ty) (sym both.1) ∙ tied_itself nat_cmp_total e.ty),
)

pub get_or-map : {X Y : Type 0} (f : X → Y) (xs : List X) (k : ℕ) (d : X) → get_or (map f xs) k (f d) ≡ f (get_or xs k d)
get_or-map f [] k d = refl
get_or-map f (x ∷ xs) zero d = refl
get_or-map f (x ∷ xs) (suc k) d = get_or-map f xs k d

pub length-map : {X Y : Type 0} (f : X → Y) (xs : List X) → length (map f xs) ≡ length xs
length-map f [] = refl
length-map f (x ∷ xs) = ap suc (length-map f xs)

-- a list of references and what they refer to are in order together
pub rows_sorted : (rows : List (Bor RowData)) → IsInRowOrder (map (λ (r : Bor RowData). r.now) rows) → IsSortedBy (λ (a b : Bor RowData). is_lt (row_cmp a.now b.now)) rows
rows_sorted rows h k d low high =
    let f : Bor RowData → RowData = λ r. r.now in
    (λ i. is_lt (row_cmp (sym (get_or-map f rows (k + 1) d) i) (sym (get_or-map f rows k d) i))) ∙ h k d.now low (omega (arith, length-map f rows))

pub index_sorted : (rows : List (Bor RowData)) → IsSortedBy (λ (a b : Bor RowData). is_lt (row_cmp a.now b.now)) rows → IsInRowOrder (map (λ (r : Bor RowData). r.now) rows)
index_sorted [] h k d low high = absurd (omega arith)
index_sorted (r ∷ rs) h k d low high =
    let f : Bor RowData → RowData = λ x. x.now in
    let long = length-map f (r ∷ rs) in
    let at : (n : ℕ) → n < length (r ∷ rs) → get_or (map f (r ∷ rs)) n d ≡ (get_or (r ∷ rs) n r).now = λ n lt. get_or_default (map f (r ∷ rs)) n d r.now (omega (arith, long)) ∙ get_or-map f (r ∷ rs) n r in
    let left = at (k + 1) (omega (arith, long)) in
    let right = at k (omega (arith, long)) in
    (λ i. is_lt (row_cmp (left i) (right i))) ∙ h k r low (omega (arith, long))

abbrev pair_cmp : ℕ × ℕ → ℕ × ℕ → Ordering
pair_cmp a b = ordering_then (nat_cmp a.0 b.0) (nat_cmp a.1 b.1)

pair_total : IsTotalOrder pair_cmp
pair_total = then_total (on_total (λ (a : ℕ × ℕ). a.0) nat_cmp_total) (on_total (λ (a : ℕ × ℕ). a.1) nat_cmp_total)

module _ (rows : List (Bor RowData)) (up : IsInRowOrder (map (λ (r : Bor RowData). r.now) rows)) where
  pub points_up : (t : ℕ) → IsNonDecreasingBy (λ (r : Bor RowData). ordering_index (nat_cmp r.now.point t)) rows
  points_up t = searchable_from_sorted nat_cmp_total (λ (r : Bor RowData). r.now.point) rows t (λ k d low high.
      let a = (get_or rows (k + 1) d).now in
      let b = (get_or rows k d).now in
      then_not_less (nat_cmp a.point b.point) (nat_cmp a.ty b.ty) (then_not_less (key_cmp b.point b.ty a) (nat_cmp a.env b.env) (rows_sorted rows up k d low high)))

  pub keys_up : (t : ℕ) (ty : ℕ) → IsNonDecreasingBy (λ (r : Bor RowData). ordering_index (key_cmp t ty r.now)) rows
  keys_up t ty = searchable_from_sorted pair_total (λ (r : Bor RowData). (r.now.point, r.now.ty)) rows (t, ty) (λ k d low high.
      let a = (get_or rows (k + 1) d).now in
      let b = (get_or rows k d).now in
      then_not_less (key_cmp b.point b.ty a) (nat_cmp a.env b.env) (rows_sorted rows up k d low high))

  entries_up : (x : RowData) → IsNonDecreasingBy (λ (r : Bor RowData). ordering_index (row_cmp r.now x)) rows
  entries_up x = searchable_from_sorted index_total (λ (r : Bor RowData). r.now) rows x (rows_sorted rows up)

  pub search_found : (x : RowData) (r : Result ℕ ℕ) → IsSearchInRange r (length rows) → IsBinarySearchResult (λ (y : Bor RowData). row_cmp y.now x) rows r → is_ok r ≡ true → Contains (map (λ (r : Bor RowData). r.now) rows) x
  search_found x (Ok i) within there h = go rows within there
    where
      go : (xs : List (Bor RowData)) → i < length xs → ((d : Bor RowData) → row_cmp (get_or xs i d).now x ≡ Equal) → Contains (map (λ (r : Bor RowData). r.now) xs) x
      go [] lt at = absurd (omega arith)
      go (r ∷ rs) lt at = subst (λ e. Contains (map (λ (r : Bor RowData). r.now) (r ∷ rs)) e) (index_same (get_or (r ∷ rs) i r).now x (at r))
          (into_map (λ (r : Bor RowData). r.now) (r ∷ rs) (get_or (r ∷ rs) i r) (Contains-get_or (r ∷ rs) i r lt))
  search_found x (Err i) within there h = absurd (cc)

  pub found_search : (x : RowData) (r : Result ℕ ℕ) → IsBinarySearchResult (λ (y : Bor RowData). row_cmp y.now x) rows r → Contains (map (λ (r : Bor RowData). r.now) rows) x → is_ok r ≡ true
  found_search x (Ok i) there c = refl
  found_search x (Err i) there c =
      let sides = there (entries_up x) in
      let s = from_map (λ (r : Bor RowData). r.now) rows x c in
      let k = s.there.0 in
      let lt = s.there.1 in
      let read : get_or rows k s.item ≡ s.item = s.there.2 in
      let tied : row_cmp (get_or rows k s.item).now x ≡ Equal = (λ i. row_cmp (read i).now (s.is i)) ∙ tied_itself index_total s.item.now in
      elim (cases_lt k i) [
        | inl low ↦ let e : row_cmp (get_or rows k s.item).now x ≡ Less = sides.0 k s.item (omega arith) low in absurd (cc)
        | inr high ↦ let e : row_cmp (get_or rows k s.item).now x ≡ Greater = sides.1 k s.item high lt in absurd (cc)
      ]

  pub key_found : (t : ℕ) (ty : ℕ) (r : Result ℕ ℕ) → IsSearchInRange r (length rows) → IsBinarySearchResult (λ (y : Bor RowData). key_cmp t ty y.now) rows r → is_ok r ≡ true
      → (x : RowData) × (Contains (map (λ (r : Bor RowData). r.now) rows) x × ((x.point ≡ t) × (x.ty ≡ ty)))
  key_found t ty (Ok i) within there h = go rows within there
    where
      go : (xs : List (Bor RowData)) → i < length xs → ((d : Bor RowData) → key_cmp t ty (get_or xs i d).now ≡ Equal) → (x : RowData) × (Contains (map (λ (r : Bor RowData). r.now) xs) x × ((x.point ≡ t) × (x.ty ≡ ty)))
      go [] lt at = absurd (omega arith)
      go (r ∷ rs) lt at =
          let x = get_or (r ∷ rs) i r in
          (x.now, (into_map (λ (r : Bor RowData). r.now) (r ∷ rs) x (Contains-get_or (r ∷ rs) i r lt), (key_equal t ty x.now).0 (at r)))
  key_found t ty (Err i) within there h = absurd (cc)

  pub found_key : (t : ℕ) (ty : ℕ) (r : Result ℕ ℕ) → IsBinarySearchResult (λ (y : Bor RowData). key_cmp t ty y.now) rows r → (x : RowData) → Contains (map (λ (r : Bor RowData). r.now) rows) x → (x.point ≡ t) × (x.ty ≡ ty) → is_ok r ≡ true
  found_key t ty (Ok i) there x c at = refl
  found_key t ty (Err i) there x c at =
      let sides = there (keys_up t ty) in
      let s = from_map (λ (r : Bor RowData). r.now) rows x c in
      let k = s.there.0 in
      let lt = s.there.1 in
      let read : get_or rows k s.item ≡ s.item = s.there.2 in
      let tied : key_cmp t ty (get_or rows k s.item).now ≡ Equal = ap (λ (r : Bor RowData). key_cmp t ty r.now) read ∙ (ap (key_cmp t ty) (sym s.is) ∙ (key_equal t ty x).1 at) in
      elim (cases_lt k i) [
        | inl low ↦ let e : key_cmp t ty (get_or rows k s.item).now ≡ Less = sides.0 k s.item (omega arith) low in absurd (cc)
        | inr high ↦ let e : key_cmp t ty (get_or rows k s.item).now ≡ Greater = sides.1 k s.item high lt in absurd (cc)
      ]

-- a part that a fact picks out, behind references
pub picked : (xs ys : List (Bor RowData)) (P : Bor RowData → Type 0) (Q : RowData → Type 0) → ((r : Bor RowData) → Contains ys r ↔ (Contains xs r × P r)) → ((r : Bor RowData) → P r ↔ Q r.now)
    → (e : RowData) → Contains (map (λ (r : Bor RowData). r.now) ys) e ↔ (Contains (map (λ (r : Bor RowData). r.now) xs) e × Q e)
picked xs ys P Q part means e = (
  λ c. let s = from_map (λ (r : Bor RowData). r.now) ys e c in
      let both = (part s.item).0 s.there in
      (subst (λ x. Contains (map (λ (r : Bor RowData). r.now) xs) x) (sym s.is) (into_map (λ (r : Bor RowData). r.now) xs s.item both.0), subst Q (sym s.is) ((means s.item).0 both.1)),
  λ both. let s = from_map (λ (r : Bor RowData). r.now) xs e both.0 in
      subst (λ x. Contains (map (λ (r : Bor RowData). r.now) ys) x) (sym s.is) (into_map (λ (r : Bor RowData). r.now) ys s.item ((part s.item).1 (s.there, (means s.item).1 (subst Q s.is both.1)))),
)
