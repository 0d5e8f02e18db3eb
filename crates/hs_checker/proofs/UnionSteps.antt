-- Unions of environments by number, one after another.
use Rattle.std.proofs.Common.{◌≡◌, sym, ◌∙◌, ap, subst, ℕ, ◌<◌, List, [], ◌∷◌, ◌++◌, length, map, take, drop, ◌-◌, slice_get, Some, None, arith, get_or, All, Contains, ◌↔◌, ◌⊎◌, Bor}
use Rattle.std.proofs.lemmas.List.Elements.{All-contains, All-contains_itself, All-push, All-weaker}
use Rattle.std.proofs.lemmas.List.{take_all}
use Rattle.std.proofs.lemmas.Option.{same_Some}
use Rattle.hs_scheme.proofs.Lists.{later}
use Rattle.hs_table.specs.Entries.{Env, EntryData}
use Rattle.hs_table_laws.proofs.Members.{from_map, into_map}
use Rattle.hs_table_plain.specs.Enumeration.{joined}
use Rattle.hs_types.specs.Interned.{InternerData, type_of_id, env_of_id, RowData, IsRow, entry_of, IsInterner, Grows, IsUnionEnv}
use Rattle.hs_types.proofs.Numbers.{env_stays, row_stays, same_type}
use Rattle.hs_checker.specs.Any.{AnyOf}
use Rattle.hs_checker.specs.Numbers.{entries_of, opened, opened_by, AreEnvs, AreLong, AreRowsFor, IsJoined}
use Rattle.hs_checker.proofs.EnvLemmas.{map_append}
use Rattle.hs_checker.proofs.NumberLemmas.{envs_grow, opened_stay, union_joined, env_is}
use Rattle.hs_checker.proofs.TypeLemmas.{pushed_is}

-- the union with the environment of a row is what the row asks beside
pub joined_one : (I J K : InternerData) → Grows I J → IsInterner I → (row : RowData) → IsRow I row → (k id n : ℕ) → k < length I.envs → length (env_of_id I k) ≡ n
    → (id < length K.envs) × IsUnionEnv (env_of_id J k) (env_of_id J row.env) (env_of_id K id) → (u : ℕ) → opened u (env_of_id K id) ≡ joined (opened u (env_of_id I k)) (entry_of I row)
joined_one I J K g is row own k id n lt long made u =
    let first = env_stays I J g k lt in
    let second = env_stays I J g row.env own.0 in
    let union = subst (λ (e : Env). IsUnionEnv e (env_of_id I row.env) (env_of_id K id)) first (subst (λ (f : Env). IsUnionEnv (env_of_id J k) f (env_of_id K id)) second made.1) in
    ap (opened u) (union_joined n (env_of_id I k) (env_of_id I row.env) (env_of_id K id) (env_is I k n is long) union)

-- one environment more
pub opened_more : (J K : InternerData) → Grows J K → (n : ℕ) (ks news : List ℕ) (id : ℕ) → AreEnvs n J ks → news ≡ ks ++ id ∷ [] → (u : ℕ) (e : EntryData)
    → Contains (opened_by K u news) e ↔ (Contains (opened_by J u ks) e ⊎ (e ≡ opened u (env_of_id K id)))
opened_more J K g n ks news id all made u e =
    let f : ℕ → EntryData = λ k. opened u (env_of_id K k) in
    let is : opened_by K u news ≡ opened_by J u ks ++ f id ∷ [] = ap (map f) made ∙ (map_append f ks (id ∷ []) ∙ ap (λ es. es ++ f id ∷ []) (opened_stay J K g n u ks all)) in
    pushed_is (opened_by J u ks) (opened_by K u news) (f id) e is

pub envs_more : (J K : InternerData) → Grows J K → (n : ℕ) (ks news : List ℕ) (id : ℕ) → AreEnvs n J ks → (id < length K.envs) × (length (env_of_id K id) ≡ n) → news ≡ ks ++ id ∷ [] → AreEnvs n K news
envs_more J K g n ks news id all own made =
    subst (λ (xs : List ℕ). AreEnvs n K xs) (sym made) (All-push (λ k. (k < length K.envs) × (length (env_of_id K k) ≡ n)) ks id (envs_grow J K g n ks all) own)

-- the same numbers open the same
pub opened_same : (I : InternerData) (u : ℕ) (ks ls : List ℕ) → ((k : ℕ) → Contains ks k ↔ Contains ls k) → (e : EntryData) → Contains (opened_by I u ks) e ↔ Contains (opened_by I u ls) e
opened_same I u ks ls h e =
    let f : ℕ → EntryData = λ k. opened u (env_of_id I k) in (
      λ c. let s = from_map f ks e c in subst (λ z. Contains (map f ls) z) (sym s.is) (into_map f ls s.item ((h s.item).0 s.there)),
      λ c. let s = from_map f ls e c in subst (λ z. Contains (map f ks) z) (sym s.is) (into_map f ks s.item ((h s.item).1 s.there)),
    )

-- told of the entries that the environments open
pub joined_opened : (I : InternerData) (u : ℕ) (ks : List ℕ) (r : RowData) (e : EntryData) → IsJoined I u ks r e ↔ AnyOf (λ (x y : EntryData). y ≡ joined x (entry_of I r)) (opened_by I u ks) e
joined_opened I u ks r e =
    let f : ℕ → EntryData = λ k. opened u (env_of_id I k) in (
      λ a. record { item = f a.item; there = into_map f ks a.item a.there; holds = a.holds },
      λ a. let s = from_map f ks a.item a.there in record { item = s.item; there = s.there; holds = a.holds ∙ ap (λ x. joined x (entry_of I r)) s.is },
    )

pub any_same : {X Y : Type 0} (P Q : X → Y → Type 0) (xs : List X) (y : Y) → ((x : X) → P x y ↔ Q x y) → AnyOf P xs y ↔ AnyOf Q xs y
any_same P Q xs y h = (λ a. record { item = a.item; there = a.there; holds = (h a.item).0 a.holds }, λ a. record { item = a.item; there = a.there; holds = (h a.item).1 a.holds })

pub env_at : (n : ℕ) (I : InternerData) (ks : List ℕ) (i x : ℕ) → i < length ks → x ≡ get_or ks i x → AreEnvs n I ks → (x < length I.envs) × (length (env_of_id I x) ≡ n)
env_at n I ks i x lt is all = subst (λ k. (k < length I.envs) × (length (env_of_id I k) ≡ n)) (sym is) (all i x lt)

-- in a grown interner the same is joined
pub joined_stays : (I J : InternerData) → Grows I J → (n u : ℕ) (ks : List ℕ) (r : RowData) → AreEnvs n I ks → IsRow I r → (e : EntryData) → IsJoined J u ks r e ↔ IsJoined I u ks r e
joined_stays I J g n u ks r all own e =
    let row = row_stays I J g r own in
    let one : (k : ℕ) → Contains ks k → joined (opened u (env_of_id J k)) (entry_of J r) ≡ joined (opened u (env_of_id I k)) (entry_of I r) =
    λ k c. let same = env_stays I J g k (All-contains (λ k. (k < length I.envs) × (length (env_of_id I k) ≡ n)) ks k all c).0 in λ i. joined (opened u (same i)) (row i) in (
      λ a. record { item = a.item; there = a.there; holds = a.holds ∙ one a.item a.there },
      λ a. record { item = a.item; there = a.there; holds = a.holds ∙ sym (one a.item a.there) },
    )

-- a list of rows behind references
pub row_of : (I : InternerData) (rows : List (Bor RowData)) (k : ℕ) (r : Bor RowData) → k < length rows → r ≡ get_or rows k r → All (IsRow I) (map (λ (r : Bor RowData). r.now) rows) → IsRow I r.now
row_of I rows k r lt read all = All-contains (IsRow I) (map (λ (r : Bor RowData). r.now) rows) r.now all (into_map (λ (r : Bor RowData). r.now) rows r (k, lt, sym read))

-- the entries of rows at a point
pub rows_entries : (I : InternerData) (R : List RowData) (rows : List (Bor RowData)) (u t : ℕ) → IsInterner I → All (IsRow I) R → t < length I.types
    → ((r : RowData) → Contains (map (λ (r : Bor RowData). r.now) rows) r ↔ (Contains R r × ((r.point ≡ u) × (r.ty ≡ t))))
    → (e : EntryData) → Contains (map (λ (r : Bor RowData). entry_of I r.now) rows) e ↔ (Contains (entries_of I R) e × ((e.point ≡ u) × (e.ty ≡ type_of_id I t)))
rows_entries I R rows u t is all lt exact e =
    let f : Bor RowData → EntryData = λ r. entry_of I r.now in
    let g : Bor RowData → RowData = λ r. r.now in (
      λ c.
          let s = from_map f rows e c in
          let b = (exact s.item.now).0 (into_map g rows s.item s.there) in (
            subst (λ z. Contains (entries_of I R) z) (sym s.is) (into_map (entry_of I) R s.item.now b.0),
            (ap (λ (z : EntryData). z.point) s.is ∙ b.1.0, ap (λ (z : EntryData). z.ty) s.is ∙ ap (type_of_id I) b.1.1),
          ),
      λ b.
          let s = from_map (entry_of I) R e b.0 in
          let point = sym (ap (λ (z : EntryData). z.point) s.is) ∙ b.1.0 in
          let ty = same_type I is s.item.ty t (All-contains (IsRow I) R s.item all s.there).1 lt (sym (ap (λ (z : EntryData). z.ty) s.is) ∙ b.1.1) in
          let r = from_map g rows s.item ((exact s.item).1 (s.there, (point, ty))) in
          subst (λ z. Contains (map f rows) z) (sym (s.is ∙ ap (entry_of I) r.is)) (into_map f rows r.item r.there),
    )

pub rows_in : (I : InternerData) (R : List RowData) (rows : List (Bor RowData)) → All (IsRow I) R → ((r : RowData) → Contains (map (λ (r : Bor RowData). r.now) rows) r → Contains R r)
    → All (IsRow I) (map (λ (r : Bor RowData). r.now) rows)
rows_in I R rows all there = All-weaker (Contains (map (λ (r : Bor RowData). r.now) rows)) (IsRow I) (λ r c. All-contains (IsRow I) R r all (there r c)) (map (λ (r : Bor RowData). r.now) rows) (All-contains_itself (map (λ (r : Bor RowData). r.now) rows))

-- the environments of rows at a point are for as many parameters
pub rows_for : (I : InternerData) (R : List RowData) (rows : List (Bor RowData)) (u n : ℕ) → AreLong n (entries_of I R) u
    → ((r : RowData) → Contains (map (λ (r : Bor RowData). r.now) rows) r → Contains R r × (r.point ≡ u)) → AreRowsFor n I rows
rows_for I R rows u n long there r c =
    let b = there r.now (into_map (λ (r : Bor RowData). r.now) rows r c) in
    long (entry_of I r.now) (into_map (entry_of I) R r.now b.0) b.1

pub envs_same_numbers : (n : ℕ) (I : InternerData) (ks ls : List ℕ) → ((k : ℕ) → Contains ks k → Contains ls k) → AreEnvs n I ls → AreEnvs n I ks
envs_same_numbers n I ks ls h all =
    All-weaker (Contains ks) (λ k. (k < length I.envs) × (length (env_of_id I k) ≡ n)) (λ k c. All-contains (λ k. (k < length I.envs) × (length (env_of_id I k) ≡ n)) ls k all (h k c)) ks (All-contains_itself ks)

-- the first argument, and those behind it
pub at_first : (us : List ℕ) (u : ℕ) → slice_get us 0 ≡ Some u → Contains us u
at_first [] u at = let f : None ≡ Some u = at in absurd (cc)
at_first (v ∷ us) u at = (0, omega arith, same_Some v u at)

pub behind_first : (us : List ℕ) (u : ℕ) → Contains (take (length us - 1) (drop 1 us)) u → Contains us u
behind_first [] u c = c
behind_first (v ∷ us) u c = let z : take (length (v ∷ us) - 1) us ≡ us = take_all (length (v ∷ us) - 1) us (omega arith) in later v u us (subst (λ vs. Contains vs u) z c)
