-- Entries, types and environments by number: they stay while the interner grows, and two are the same exactly where their numbers are.
use Rattle.std.proofs.Common.{◌≡◌, ◌≢◌, refl, sym, ◌∙◌, ap, subst, ℕ, zero, suc, ◌+◌, ◌<◌, drop, slice_get, Some, List, [], ◌∷◌, ◌++◌, length, map, take, get_or, AllPairs, Contains, ◌↔◌, ◌⊎◌, arith}
use Rattle.std.specs.Ordering.{nat_cmp}
use Rattle.std.specs.declared.cmp.Ordering.TheVariants.{Less, Equal}
use Rattle.std.proofs.lemmas.Cmp.{tied_itself, nat_cmp_total}
use Rattle.std.proofs.lemmas.List.{get_or_default}
use Rattle.std.proofs.lemmas.List.Elements.{All-contains, All-contains_itself, All-push, All-weaker}
use Rattle.hs_scheme.specs.flow.Flow.{IsAscending}
use Rattle.std.proofs.lemmas.Option.{same_Some, slice_get-get_or}
use Rattle.hs_scheme.specs.declared.term.Head.TheVariants.{Tm}
use Rattle.hs_scheme.specs.flow.Points.{PointData, PointsData, point_at}
use Rattle.hs_scheme.specs.Problem.{ProblemData}
use Rattle.hs_scheme.proofs.Lists.{here, later, slice_get-read}
use Rattle.hs_table.specs.Types.{TypeTree}
use Rattle.hs_table.specs.Entries.{Env, EntryData, set_at, IsEnv, params_of}
use Rattle.hs_table_laws.proofs.Members.{from_map, into_map, taken_next}
use Rattle.hs_table_laws.proofs.Sets.{envs_same}
use Rattle.hs_table_plain.specs.Enumeration.{union_from}
use Rattle.hs_table_plain.proofs.UnionLemmas.{joined_has, joins_env}
use Rattle.hs_table_plain.proofs.Members.{two_steps_beside}
use Rattle.hs_types.specs.Interned.{InternerData, type_of_id, env_of_id, RowData, IsRow, entry_of, IsInterner, Grows, IsUnionEnv}
use Rattle.hs_types.proofs.Numbers.{type_within, type_stays, env_within, env_stays, row_within, row_stays, same_type, same_env, Grows-trans}
use Rattle.hs_checker.proofs.IndexLemmas.{get_or-map, length-map}
use Rattle.hs_checker.specs.Order.{HasRowAt}
use Rattle.hs_verdict.specs.Premises.{IsSortedProblem}
use Rattle.hs_verdict.proofs.TermLemmas.{are_terms}
use Rattle.hs_checker.specs.Slots.{HasTypeAt, AreInShape}
use Rattle.hs_checker.proofs.EnvLemmas.{map_append, map_same}
use Rattle.hs_checker.proofs.TypeLemmas.{or_same, or_nothing, pushed_is}
use Rattle.hs_checker.specs.Numbers.{entries_of, trees_of, opened, opened_by, AreRows, AreTypes, AreEnvs, AreLong, GainsTypes}

map_stays : {X Y : Type 0} (f g : X → Y) (xs : List X) → ((x : X) → Contains xs x → f x ≡ g x) → map f xs ≡ map g xs
map_stays f g [] h = refl
map_stays f g (x ∷ xs) h = λ i. h x (here x xs) i ∷ map_stays f g xs (λ y c. h y (later x y xs c)) i

module _ (I J : InternerData) (g : Grows I J) where
  pub rows_grow : (rows : List RowData) → AreRows I rows → AreRows J rows
  rows_grow rows h = All-weaker (IsRow I) (IsRow J) (row_within I J g) rows h

  pub entries_stay : (rows : List RowData) → AreRows I rows → entries_of J rows ≡ entries_of I rows
  entries_stay rows h = map_stays (entry_of J) (entry_of I) rows (λ r c. row_stays I J g r (All-contains (IsRow I) rows r h c))

  pub types_grow : (ts : List ℕ) → AreTypes I ts → AreTypes J ts
  types_grow ts h = All-weaker (λ t. t < length I.types) (λ t. t < length J.types) (type_within I J g) ts h

  pub trees_stay : (ts : List ℕ) → AreTypes I ts → trees_of J ts ≡ trees_of I ts
  trees_stay ts h = map_stays (type_of_id J) (type_of_id I) ts (λ t c. type_stays I J g t (All-contains (λ t. t < length I.types) ts t h c))

  pub envs_grow : (n : ℕ) (ks : List ℕ) → AreEnvs n I ks → AreEnvs n J ks
  envs_grow n ks h =
      All-weaker (λ k. (k < length I.envs) × (length (env_of_id I k) ≡ n)) (λ k. (k < length J.envs) × (length (env_of_id J k) ≡ n)) (λ k q. (env_within I J g k q.0, ap length (env_stays I J g k q.0) ∙ q.1)) ks h

  pub opened_stay : (n u : ℕ) (ks : List ℕ) → AreEnvs n I ks → opened_by J u ks ≡ opened_by I u ks
  opened_stay n u ks h =
      map_stays (λ k. opened u (env_of_id J k)) (λ k. opened u (env_of_id I k)) ks
      (λ k c. ap (opened u) (env_stays I J g k (All-contains (λ k. (k < length I.envs) × (length (env_of_id I k) ≡ n)) ks k h c).0))

module _ (I : InternerData) (is : IsInterner I) where
  row_same : (a b : RowData) → IsRow I a → IsRow I b → entry_of I a ≡ entry_of I b → a ≡ b
  row_same a b x y e =
      let point = ap (λ (z : EntryData). z.point) e in
      let env = same_env I is a.env b.env x.0 y.0 (ap (λ (z : EntryData). z.env) e) in
      let ty = same_type I is a.ty b.ty x.1 y.1 (ap (λ (z : EntryData). z.ty) e) in
      λ i. record { point = point i; env = env i; ty = ty i }

  pub row_there : (rows : List RowData) (r : RowData) → AreRows I rows → IsRow I r → Contains (entries_of I rows) (entry_of I r) ↔ Contains rows r
  row_there rows r all own = (
    λ c. let s = from_map (entry_of I) rows (entry_of I r) c in subst (λ z. Contains rows z) (sym (row_same r s.item own (All-contains (IsRow I) rows s.item all s.there) s.is)) s.there,
    λ c. into_map (entry_of I) rows r c,
  )

  pub has_exact : (rows : List RowData) (u t : ℕ) → AreRows I rows → t < length I.types → HasRowAt rows u t ↔ HasTypeAt (entries_of I rows) u (type_of_id I t)
  has_exact rows u t all lt = (
    λ h. record { entry = entry_of I h.row; there = into_map (entry_of I) rows h.row h.there; at = h.at; typed = ap (type_of_id I) h.typed },
    λ h.
        let s = from_map (entry_of I) rows h.entry h.there in
        let ty = sym (ap (λ (z : EntryData). z.ty) s.is) ∙ h.typed in
        record {
          row = s.item;
          there = s.there;
          at = sym (ap (λ (z : EntryData). z.point) s.is) ∙ h.at;
          typed = same_type I is s.item.ty t (All-contains (IsRow I) rows s.item all s.there).1 lt ty;
        },
  )

  -- numbers that ascend stand for different types
  pub types_apart : (ts : List ℕ) → AreTypes I ts → IsAscending nat_cmp ts → AllPairs (λ a b. a ≢ b) (trees_of I ts)
  types_apart ts all up i j d low high same =
      let long : length (trees_of I ts) ≡ length ts = length-map (type_of_id I) ts in
      let a = get_or ts i 0 in
      let b = get_or ts j 0 in
      let lti : i < length ts = omega (arith, low, high, long) in
      let ltj : j < length ts = omega (arith, high, long) in
      let left : get_or (trees_of I ts) i d ≡ type_of_id I a = get_or_default (trees_of I ts) i d (type_of_id I 0) (omega (arith, lti, long)) ∙ get_or-map (type_of_id I) ts i 0 in
      let right : get_or (trees_of I ts) j d ≡ type_of_id I b = get_or_default (trees_of I ts) j d (type_of_id I 0) (omega (arith, ltj, long)) ∙ get_or-map (type_of_id I) ts j 0 in
      let one : a ≡ b = same_type I is a b (all i 0 lti) (all j 0 ltj) (sym left ∙ (same ∙ right)) in
      let less : nat_cmp a b ≡ Less = up i j 0 low ltj in
      let tie : Less ≡ Equal = sym less ∙ (ap (nat_cmp a) (sym one) ∙ tied_itself nat_cmp_total a) in
      absurd (cc)

-- a type that some row has
pub typed_rows : (I : InternerData) (rows : List RowData) (u : ℕ) (t : TypeTree) → HasTypeAt (entries_of I rows) u t → (k : ℕ) × (HasRowAt rows u k × (type_of_id I k ≡ t))
typed_rows I rows u t h =
    let s = from_map (entry_of I) rows h.entry h.there in
    (s.item.ty, (record { row = s.item; there = s.there; at = sym (ap (λ (z : EntryData). z.point) s.is) ∙ h.at; typed = refl }, sym (ap (λ (z : EntryData). z.ty) s.is) ∙ h.typed))

-- the union of two environments is what the second asks beside the first
pub union_joined : (n : ℕ) (e f v : Env) → IsEnv n e → IsUnionEnv e f v → v ≡ union_from 0 e f
union_joined n e f v own h =
    let x = opened 0 e in
    let y = opened 0 f in
    envs_same n v (union_from 0 e f) (record { long = h.long ∙ own.long; sets = λ j. (h.sets j).ascends }) (joins_env n x (y ∷ []) own)
    (λ j a lt.
    let one = (h.sets j).exact a in
    let two = joined_has x y j a (omega (arith, lt, own.long)) in
    (λ c. two.1 (one.0 c), λ c. one.1 (two.0 c)))

pub env_is : (I : InternerData) (k n : ℕ) → IsInterner I → length (env_of_id I k) ≡ n → IsEnv n (env_of_id I k)
env_is I k n is long = record { long = long; sets = λ j. is.env_ascends k j }

-- what is read of an image
pub mapped_read : {X Y : Type 0} (f : X → Y) (xs : List X) (ys : List Y) (k : ℕ) (x : X) → map f xs ≡ ys → x ≡ get_or xs k x → f x ≡ get_or ys k (f x)
mapped_read f xs ys k x is read = ap f read ∙ (sym (get_or-map f xs k x) ∙ ap (λ zs. get_or zs k (f x)) is)

pub mapped_long : {X Y : Type 0} (f : X → Y) (xs : List X) (ys : List Y) → map f xs ≡ ys → length ys ≡ length xs
mapped_long f xs ys is = sym (ap length is) ∙ length-map f xs

pub mapped_next : {X Y : Type 0} (f : X → Y) (xs : List X) (k : ℕ) (x : X) → k < length xs → x ≡ get_or xs k x → map f (take (k + 1) xs) ≡ map f (take k xs) ++ f x ∷ []
mapped_next f xs k x lt read = ap (map f) (taken_next xs k x lt read) ∙ map_append f (take k xs) (x ∷ [])

-- a type that was added
module _ (I J : InternerData) (g : Grows I J) (olds news : List ℕ) (id : ℕ) (all : AreTypes I olds) (made : news ≡ olds ++ id ∷ []) (lt : id < length J.types) where
  pub types_pushed : AreTypes J news
  types_pushed = subst (AreTypes J) (sym made) (All-push (λ t. t < length J.types) olds id (types_grow I J g olds all) lt)

  pub trees_pushed : (t : TypeTree) → Contains (trees_of J news) t ↔ (Contains (trees_of I olds) t ⊎ (t ≡ type_of_id J id))
  trees_pushed t =
      let is : trees_of J news ≡ trees_of I olds ++ type_of_id J id ∷ [] =
      ap (trees_of J) made ∙ (map_append (type_of_id J) olds (id ∷ []) ∙ ap (λ ts. ts ++ type_of_id J id ∷ []) (trees_stay I J g olds all)) in
      pushed_is (trees_of I olds) (trees_of J news) (type_of_id J id) t is

  pub gains_pushed : (From : TypeTree → Type 0) → ((t : TypeTree) → (t ≡ type_of_id J id) ↔ From t) → GainsTypes I J olds news From
  gains_pushed From same = record { grows = g; range = types_pushed; exact = λ t. or_same _ _ _ _ (trees_pushed t) (same t) }

-- nothing was added
pub gains_nothing : (I J : InternerData) → Grows I J → (ts : List ℕ) → AreTypes I ts → (From : TypeTree → Type 0) → ((t : TypeTree) → From t → ⊥) → GainsTypes I J ts ts From
gains_nothing I J g ts all From never = record {
  grows = g;
  range = types_grow I J g ts all;
  exact = λ t. subst (λ xs. Contains xs t ↔ (Contains (trees_of I ts) t ⊎ From t)) (sym (trees_stay I J g ts all)) (or_nothing _ _ (never t));
}

-- what the interner gained before
pub gains_later : (I J K : InternerData) → Grows I J → (olds news : List ℕ) → AreTypes I olds → (From : TypeTree → Type 0) → GainsTypes J K olds news From → GainsTypes I K olds news From
gains_later I J K g olds news all From h = record {
  grows = Grows-trans I J K g h.grows;
  range = h.range;
  exact = λ t. subst (λ xs. Contains (trees_of K news) t ↔ (Contains xs t ⊎ From t)) (trees_stay I J g olds all) (h.exact t);
}

-- told in other words
pub gains_same : (I J : InternerData) (olds news : List ℕ) (P Q : TypeTree → Type 0) → ((t : TypeTree) → P t ↔ Q t) → GainsTypes I J olds news P → GainsTypes I J olds news Q
gains_same I J olds news P Q same h = record { grows = h.grows; range = h.range; exact = λ t. or_same _ _ _ _ (h.exact t) (same t) }

pub same_there : (I : InternerData) (ts us : List ℕ) → ((t : ℕ) → Contains ts t ↔ Contains us t) → (t : TypeTree) → Contains (trees_of I ts) t ↔ Contains (trees_of I us) t
same_there I ts us h t = map_same (type_of_id I) ts us h t

pub types_among : (I : InternerData) (ts us : List ℕ) → ((t : ℕ) → Contains ts t → Contains us t) → AreTypes I us → AreTypes I ts
types_among I ts us h all = All-weaker (Contains ts) (λ t. t < length I.types) (λ t c. All-contains (λ t. t < length I.types) us t all (h t c)) ts (All-contains_itself ts)

-- and more
pub gains_more : (I J K : InternerData) (olds mids news : List ℕ) (P Q S : TypeTree → Type 0) → ((t : TypeTree) → S t ↔ (P t ⊎ Q t)) → GainsTypes I J olds mids P → GainsTypes J K mids news Q → GainsTypes I K olds news S
gains_more I J K olds mids news P Q S both first second = record {
  grows = Grows-trans I J K first.grows second.grows;
  range = second.range;
  exact = λ t. two_steps_beside _ _ _ _ _ _ (second.exact t) (first.exact t) (both t);
}

-- the sets of an environment from one more on
pub one_before : (E : Env) (n : ℕ) → n < length E → drop n E ≡ set_at E n ∷ drop (suc n) E
one_before [] n lt = absurd (omega (arith, lt))
one_before (s ∷ E) zero lt = refl
one_before (s ∷ E) (suc n) lt = one_before E n (omega (arith, lt))

-- the entries at the arguments of a point are for the parameters of its rule
pub arguments_long : (p : ProblemData) → IsSortedProblem p → (E : List EntryData) → AreInShape p E → (point : ℕ) → point < length p.points.points
    → (u : ℕ) → Contains (point_at p.points point).args u → AreLong (params_of p (point_at p.points point).rule) E u
arguments_long p given E shapes point lt u arg e there is =
    let of = point_at p.points point in
    let at : slice_get p.points.points point ≡ Some of = slice_get-get_or p.points.points point (record { rule = 0; head = Tm 0; args = [] }) lt in
    let shape = shapes e there in
    let own = subst (λ v. Contains of.args v) (sym is) arg in
    let moved = λ (k : ℕ) (d : PointData) (e : slice_get p.points.points k ≡ Some d). sym (ap (λ (all : PointsData). slice_get all.points k) given.problem.points) ∙ e in
    let a = (are_terms p.sorted.scheme.rules).arguments point of own.0 e.point (moved point of at) (slice_get-read of.args own.0 e.point own.1 own.2) in
    let same : a.0 ≡ shape.of = same_Some a.0 shape.of (sym a.1 ∙ moved e.point shape.of shape.at) in
    shape.env.long ∙ (ap (λ (d : PointData). params_of p d.rule) (sym same) ∙ ap (params_of p) a.2)
