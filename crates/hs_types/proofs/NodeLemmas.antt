-- What the stored lists stand for, when one more node, set or environment is stored.
use Rattle.std.proofs.Common.{◌≡◌, refl, sym, ◌∙◌, ap, subst, ℕ, zero, suc, ◌<◌, List, [], ◌∷◌, ◌++◌, length, map, get_or, slice_get, Option, option_map, Some, arith, Contains, All, ◌⊎◌, inl, inr}
use Rattle.std.proofs.lemmas.List.{length-map, get_or_append_left, get_or_push, length_push, map_push}
use Rattle.std.proofs.lemmas.List.Elements.{All-nil, All-get_or, Contains-get_or}
use Rattle.std.proofs.lemmas.Option.{slice_get-get_or, slice_get-map, get_or_from_slice_get}
use Rattle.std.proofs.Math.ListN.{get_or-map}
use Rattle.hs_scheme.specs.Tree.{node, none, more, children}
use Rattle.hs_scheme.proofs.Lists.{push_cases}
use Rattle.hs_table.specs.Types.{TypeTree, state, arrow, IsSet}
use Rattle.hs_table.specs.Entries.{Env, set_at}
use Rattle.hs_table_laws.proofs.Sets.{no_set}
use Rattle.hs_table_laws.proofs.Places.{within_from, place_of}
use Rattle.hs_table_laws.proofs.Arrows.{arrow_same, state_no_arrow}
use Rattle.hs_types.specs.declared.ids.View.{View}
use Rattle.hs_types.specs.declared.ids.View.TheVariants.{State, Arrow}
use Rattle.hs_types.specs.Interned.{InternerData, type_of_id, set_of_id, env_of_id, IsView, IsInterner, Grows}
use Rattle.hs_types.specs.Nodes.{node_type, IsInRange, items_at, types_behind, sets_over, data_of, AreNodes, Adds}
use Rattle.hs_types.proofs.Numbers.{IsInterner-empty, Grows-refl, same_type, same_set, type_stays, type_within, set_stays, set_within}
use Rattle.hs_types.proofs.ListLemmas.{Begins-push, IsWithoutRepeats-push, items_at-begun, all_at-append, AllBelow-more, AllBelow-push, same_places}

abbrev pub with_type : InternerData → TypeTree → InternerData
with_type I t = record { types = I.types ++ t ∷ []; sets = I.sets; envs = I.envs }

abbrev pub with_set : InternerData → List TypeTree → InternerData
with_set I s = record { types = I.types; sets = I.sets ++ s ∷ []; envs = I.envs }

abbrev pub with_env : InternerData → Env → InternerData
with_env I e = record { types = I.types; sets = I.sets; envs = I.envs ++ e ∷ [] }

pub Grows-with_type : (I : InternerData) (t : TypeTree) → Grows I (with_type I t)
Grows-with_type I t = record { types = Begins-push I.types t; sets = λ i x h. h; envs = λ i x h. h }

pub Grows-with_set : (I : InternerData) (s : List TypeTree) → Grows I (with_set I s)
Grows-with_set I s = record { types = λ i x h. h; sets = Begins-push I.sets s; envs = λ i x h. h }

pub Grows-with_env : (I : InternerData) (e : Env) → Grows I (with_env I e)
Grows-with_env I e = record { types = λ i x h. h; sets = λ i x h. h; envs = Begins-push I.envs e }

-- the set and the result of an arrow
abbrev arrow_parts : TypeTree → List TypeTree × TypeTree
arrow_parts (node q none) = ([], state 0)
arrow_parts (node q (more t us)) = (children us, t)

arrow_eq : {s r : List TypeTree} {t u : TypeTree} → s ≡ r → t ≡ u → arrow s t ≡ arrow r u
arrow_eq p q = λ i. arrow (p i) (q i)

pub state_same : (q p : ℕ) → state q ≡ state p → q ≡ p
state_same q p e = let f : Some q ≡ Some p = ap state_in e in cc
  where
    state_in : TypeTree → Option ℕ
    state_in (node q ts) = q

-- a view keeps in an interner that grows
pub IsView-grows : (I J : InternerData) (t : ℕ) (n : View) → Grows I J → t < length I.types → IsView I t n → IsView J t n
IsView-grows I J t (State q) g h v = type_stays I J g t h ∙ v
IsView-grows I J t (Arrow s r) g h v = (
  set_within I J g s v.0,
  type_within I J g r v.1,
  type_stays I J g t h ∙ (v.2 ∙ arrow_eq (sym (set_stays I J g s v.0)) (sym (type_stays I J g r v.1))),
)

-- a node that is in range: what it stands for is a view at that place
pub IsView-node : (I J : InternerData) (t : ℕ) (n : View) → Grows I J → IsInRange I n → type_of_id J t ≡ node_type I n → IsView J t n
IsView-node I J t (State q) g h e = e
IsView-node I J t (Arrow s r) g h e = (
  set_within I J g s h.0,
  type_within I J g r h.1,
  e ∙ arrow_eq (sym (set_stays I J g s h.0)) (sym (type_stays I J g r h.1)),
)

pub node_type-view : (I : InternerData) (t : ℕ) (n : View) → IsView I t n → type_of_id I t ≡ node_type I n
node_type-view I t (State q) v = v
node_type-view I t (Arrow s r) v = v.2

-- what two nodes stand for is one thing only where they are one
pub node_same : (I : InternerData) (n m : View) → IsInterner I → IsInRange I n → (t : ℕ) → IsView I t m → node_type I n ≡ type_of_id I t → m ≡ n
node_same I (State q) (State p) is h t v e = ap State (sym (state_same q p (e ∙ v)))
node_same I (State q) (Arrow s r) is h t v e = absurd (state_no_arrow q (set_of_id I s) (type_of_id I r) (e ∙ v.2))
node_same I (Arrow s r) (State p) is h t v e = absurd (state_no_arrow p (set_of_id I s) (type_of_id I r) (sym (e ∙ v)))
node_same I (Arrow s r) (Arrow s' r') is h t v e =
    let p = arrow_same (set_of_id I s) (set_of_id I s') (type_of_id I r) (type_of_id I r') (e ∙ v.2) in
    let a = same_set I is s' s v.0 h.0 (sym p.0) in
    let b = same_type I is r' r v.1 h.1 (sym p.1) in
    λ i. Arrow (a i) (b i)

-- what stands in a longer list stood there before, or is the new item
pub place_cases : {X : Type 0} (xs : List X) (y d : X) (k : ℕ) → (get_or (xs ++ y ∷ []) k d ≡ get_or xs k d) ⊎ (get_or (xs ++ y ∷ []) k d ≡ y)
place_cases [] y d zero = inr refl
place_cases [] y d (suc k) = inl refl
place_cases (x ∷ xs) y d zero = inl refl
place_cases (x ∷ xs) y d (suc k) = place_cases xs y d k

-- the items of the set at a place, by those of the list of numbers there
pub set_read : (types : List TypeTree) (sets : List (List ℕ)) (s : ℕ) → get_or (sets_over types sets) s [] ≡ items_at types (state 0) (get_or sets s [])
set_read types sets s = get_or-map (items_at types (state 0)) sets s []

pub types_behind-push : (sets : List (List ℕ)) (ts : List TypeTree) (ns : List View) (n : View)
    → types_behind sets ts (ns ++ n ∷ []) ≡ types_behind sets (types_behind sets ts ns) (n ∷ [])
types_behind-push sets ts [] n = refl
types_behind-push sets ts (State q ∷ ns) n = types_behind-push sets (ts ++ state q ∷ []) ns n
types_behind-push sets ts (Arrow s r ∷ ns) n =
    types_behind-push sets (ts ++ arrow (items_at ts (state 0) (get_or sets s [])) (get_or ts r (state 0)) ∷ []) ns n

-- the list of types, one more
types_behind-one : (I : InternerData) (sets : List (List ℕ)) (n : View) → I.sets ≡ sets_over I.types sets → types_behind sets I.types (n ∷ []) ≡ I.types ++ node_type I n ∷ []
types_behind-one I sets (State q) e = refl
types_behind-one I sets (Arrow s r) e =
    let is : set_of_id I s ≡ items_at I.types (state 0) (get_or sets s []) = ap (λ ss. get_or ss s []) e ∙ set_read I.types sets s in
    sym (ap (λ s. I.types ++ arrow s (type_of_id I r) ∷ []) is)

module _ (nodes : List View) (sets envs : List (List ℕ)) (I : InternerData) (are : AreNodes nodes sets envs I) where
  -- a type for one more node
  module _ (n : View) (range : IsInRange I n) (new : Contains nodes n → ⊥) where
    fresh_type : Contains I.types (node_type I n) → ⊥
    fresh_type c =
        let p = place_of I.types (node_type I n) c in
        let k : p.0 < length nodes = omega (arith, within_from I.types p.0 (node_type I n) p.1, are.long) in
        let m = get_or nodes p.0 n in
        let v = are.reads p.0 m (slice_get-get_or nodes p.0 n k) in
        new (p.0, k, node_same I n m are.exact range p.0 v (sym (get_or_from_slice_get I.types p.0 (node_type I n) (state 0) p.1)))

    -- an arrow at the new place, or at an old one
    type_ascends : (t : ℕ) (s : List TypeTree) (r : TypeTree) → type_of_id (with_type I (node_type I n)) t ≡ arrow s r → IsSet s
    type_ascends t s r e = elim (place_cases I.types (node_type I n) (state 0) t) [
      | inl was ↦ are.exact.type_ascends t s r (sym was ∙ e)
      | inr is ↦ new_ascends n (sym is ∙ e)
    ]
      where
        new_ascends : (n : View) → node_type I n ≡ arrow s r → IsSet s
        new_ascends (State q) e = absurd (state_no_arrow q s r e)
        new_ascends (Arrow a b) e = subst IsSet (arrow_same (set_of_id I a) s (type_of_id I b) r e).0 (are.exact.set_ascends a)

    pub AreNodes-type : AreNodes (nodes ++ n ∷ []) sets envs (with_type I (node_type I n))
    AreNodes-type = record {
      exact = record {
        types = IsWithoutRepeats-push I.types (node_type I n) are.exact.types fresh_type;
        sets = are.exact.sets;
        envs = are.exact.envs;
        set_ascends = are.exact.set_ascends;
        env_ascends = are.exact.env_ascends;
        type_ascends = type_ascends;
      };
      long = omega (arith, length_push I.types (node_type I n), length_push nodes n, are.long);
      of_sets = are.of_sets ∙ sym (all_at-append I.types (node_type I n ∷ []) (state 0) sets are.set_range);
      of_envs = are.of_envs;
      reads = λ t m h. elim (push_cases nodes n m t h) [
        | inl was ↦ IsView-grows I (with_type I (node_type I n)) t m (Grows-with_type I (node_type I n)) (omega (arith, within_from nodes t m was, are.long)) (are.reads t m was)
        | inr (e, is) ↦ subst (IsView (with_type I (node_type I n)) t) is
            (IsView-node I (with_type I (node_type I n)) t n (Grows-with_type I (node_type I n)) range (get_or_push I.types (node_type I n) (state 0) t (are.long ∙ sym e)))
      ];
      set_range = AllBelow-more (length I.types) (length (I.types ++ node_type I n ∷ [])) sets (omega (arith, length_push I.types (node_type I n))) are.set_range;
      env_range = are.env_range;
    }

  -- a set for one more list
  module _ (ids : List ℕ) (range : All (λ i. i < length I.types) ids) (up : IsSet (items_at I.types (state 0) ids)) (new : Contains sets ids → ⊥) where
    abbrev the_set : List TypeTree
    the_set = items_at I.types (state 0) ids

    fresh_set : Contains I.sets the_set → ⊥
    fresh_set c =
        let p = place_of I.sets the_set c in
        let k : p.0 < length sets = omega (arith, within_from I.sets p.0 the_set p.1, ap (λ (ss : List (List TypeTree)). length ss) are.of_sets, length-map sets (items_at I.types (state 0))) in
        let at : items_at I.types (state 0) (get_or sets p.0 []) ≡ the_set =
        sym (set_read I.types sets p.0) ∙ ap (λ (ss : List (List TypeTree)). get_or ss p.0 []) (sym are.of_sets) ∙ get_or_from_slice_get I.sets p.0 the_set [] p.1 in
        let P : List ℕ → Type 0 = λ ids. All (λ i. i < length I.types) ids in
        let is = same_places I.types (state 0) (get_or sets p.0 []) ids (same_type I are.exact) (All-get_or P sets p.0 [] k are.set_range) range at in
        new (subst (λ (x : List ℕ). Contains sets x) is (Contains-get_or sets p.0 [] k))

    set_ascends : (s : ℕ) → IsSet (get_or (I.sets ++ the_set ∷ []) s [])
    set_ascends s = elim (place_cases I.sets the_set [] s) [
      | inl was ↦ subst IsSet (sym was) (are.exact.set_ascends s)
      | inr is ↦ subst IsSet (sym is) up
    ]

    pub AreNodes-set : AreNodes nodes (sets ++ ids ∷ []) envs (with_set I the_set)
    AreNodes-set = record {
      exact = record {
        types = are.exact.types;
        sets = IsWithoutRepeats-push I.sets the_set are.exact.sets fresh_set;
        envs = are.exact.envs;
        set_ascends = set_ascends;
        env_ascends = are.exact.env_ascends;
        type_ascends = are.exact.type_ascends;
      };
      long = are.long;
      of_sets = ap (λ ss. ss ++ the_set ∷ []) are.of_sets ∙ sym (map_push (items_at I.types (state 0)) sets ids);
      of_envs = are.of_envs ∙ sym (all_at-append I.sets (the_set ∷ []) [] envs are.env_range);
      reads = λ t m h. IsView-grows I (with_set I the_set) t m (Grows-with_set I the_set) (omega (arith, within_from nodes t m h, are.long)) (are.reads t m h);
      set_range = AllBelow-push (length I.types) sets ids are.set_range range;
      env_range = AllBelow-more (length I.sets) (length (I.sets ++ the_set ∷ [])) envs (omega (arith, length_push I.sets the_set)) are.env_range;
    }

  -- an environment for one more list
  module _ (ids : List ℕ) (range : All (λ i. i < length I.sets) ids) (new : Contains envs ids → ⊥) where
    abbrev the_env : Env
    the_env = items_at I.sets [] ids

    fresh_env : Contains I.envs the_env → ⊥
    fresh_env c =
        let p = place_of I.envs the_env c in
        let k : p.0 < length envs = omega (arith, within_from I.envs p.0 the_env p.1, ap (λ (es : List Env). length es) are.of_envs, length-map envs (items_at I.sets [])) in
        let at : items_at I.sets [] (get_or envs p.0 []) ≡ the_env =
        sym (get_or-map (items_at I.sets []) envs p.0 []) ∙ ap (λ (es : List Env). get_or es p.0 []) (sym are.of_envs) ∙ get_or_from_slice_get I.envs p.0 the_env [] p.1 in
        let P : List ℕ → Type 0 = λ ids. All (λ i. i < length I.sets) ids in
        let is = same_places I.sets [] (get_or envs p.0 []) ids (same_set I are.exact) (All-get_or P envs p.0 [] k are.env_range) range at in
        new (subst (λ (x : List ℕ). Contains envs x) is (Contains-get_or envs p.0 [] k))

    each_ascends : (ids : List ℕ) (j : ℕ) → IsSet (get_or (items_at I.sets [] ids) j [])
    each_ascends [] j = no_set
    each_ascends (i ∷ ids) zero = are.exact.set_ascends i
    each_ascends (i ∷ ids) (suc j) = each_ascends ids j

    env_ascends : (e j : ℕ) → IsSet (set_at (get_or (I.envs ++ the_env ∷ []) e []) j)
    env_ascends e j = elim (place_cases I.envs the_env [] e) [
      | inl was ↦ subst (λ (f : Env). IsSet (set_at f j)) (sym was) (are.exact.env_ascends e j)
      | inr is ↦ subst (λ (f : Env). IsSet (set_at f j)) (sym is) (each_ascends ids j)
    ]

    pub AreNodes-env : AreNodes nodes sets (envs ++ ids ∷ []) (with_env I the_env)
    AreNodes-env = record {
      exact = record {
        types = are.exact.types;
        sets = are.exact.sets;
        envs = IsWithoutRepeats-push I.envs the_env are.exact.envs fresh_env;
        set_ascends = are.exact.set_ascends;
        env_ascends = env_ascends;
        type_ascends = are.exact.type_ascends;
      };
      long = are.long;
      of_sets = are.of_sets;
      of_envs = ap (λ es. es ++ the_env ∷ []) are.of_envs ∙ sym (map_push (items_at I.sets []) envs ids);
      reads = are.reads;
      set_range = are.set_range;
      env_range = AllBelow-push (length I.sets) envs ids are.env_range range;
    }

-- the lists stand for what is stored
abbrev data_by : List TypeTree → List (List ℕ) → List (List ℕ) → InternerData
data_by types sets envs = record { types = types; sets = sets_over types sets; envs = map (items_at (sets_over types sets) []) envs }

data_by-AreNodes : (nodes : List View) (sets envs : List (List ℕ)) (K : InternerData) → AreNodes nodes sets envs K → data_by K.types sets envs ≡ K
data_by-AreNodes nodes sets envs K are =
    let e : map (items_at (sets_over K.types sets) []) envs ≡ K.envs = ap (λ ss. map (items_at ss []) envs) (sym are.of_sets) ∙ sym are.of_envs in
    let s = sym are.of_sets in
    λ i. record { types = K.types; sets = s i; envs = e i }

types_behind-more : (sets : List (List ℕ)) (ids : List ℕ) (ts : List TypeTree) (ns : List View) → ((t s r : ℕ) → slice_get ns t ≡ Some (Arrow s r) → s < length sets)
    → types_behind (sets ++ ids ∷ []) ts ns ≡ types_behind sets ts ns
types_behind-more sets ids ts [] h = refl
types_behind-more sets ids ts (State q ∷ ns) h = types_behind-more sets ids (ts ++ state q ∷ []) ns (λ t s r e. h (suc t) s r e)
types_behind-more sets ids ts (Arrow s r ∷ ns) h =
    let e : get_or (sets ++ ids ∷ []) s [] ≡ get_or sets s [] = get_or_append_left sets (ids ∷ []) [] s (h 0 s r refl) in
    ap (λ x. types_behind (sets ++ ids ∷ []) (ts ++ arrow (items_at ts (state 0) x) (get_or ts r (state 0)) ∷ []) ns) e
    ∙ types_behind-more sets ids (ts ++ arrow (items_at ts (state 0) (get_or sets s [])) (get_or ts r (state 0)) ∷ []) ns (λ t s r e. h (suc t) s r e)

-- the lists stand for more than before
pub record AreMore (I : InternerData) (nodes : List View) (sets envs : List (List ℕ)) : Type 0 where
  pub are : AreNodes nodes sets envs (data_of nodes sets envs)
  pub grows : Grows I (data_of nodes sets envs)

more_by : (I J : InternerData) (nodes : List View) (sets envs : List (List ℕ)) → data_of nodes sets envs ≡ J → AreNodes nodes sets envs J → Grows I J → AreMore I nodes sets envs
more_by I J nodes sets envs e are g = record { are = subst (AreNodes nodes sets envs) (sym e) are; grows = subst (Grows I) (sym e) g }

module _ (nodes : List View) (sets envs : List (List ℕ)) (are : AreNodes nodes sets envs (data_of nodes sets envs)) where
  abbrev I : InternerData
  I = data_of nodes sets envs

  pub AreMore-same : AreMore I nodes sets envs
  AreMore-same = record { are = are; grows = Grows-refl I }

  pub AreMore-type : (nodes' : List View) (n : View) → IsInRange I n → Adds nodes nodes' n → AreMore I nodes' sets envs
  AreMore-type nodes' n range (inl same) = subst (λ (ns : List View). AreMore I ns sets envs) (sym same) AreMore-same
  AreMore-type nodes' n range (inr (new, is)) =
      let K = with_type I (node_type I n) in
      let k = AreNodes-type nodes sets envs I are n range new in
      let e : types_behind sets [] (nodes ++ n ∷ []) ≡ K.types = types_behind-push sets [] nodes n ∙ types_behind-one I sets n are.of_sets in
      subst (λ (ns : List View). AreMore I ns sets envs) (sym is)
      (more_by I K (nodes ++ n ∷ []) sets envs (ap (λ ts. data_by ts sets envs) e ∙ data_by-AreNodes (nodes ++ n ∷ []) sets envs K k) k (Grows-with_type I (node_type I n)))

  set_numbers : (t s r : ℕ) → slice_get nodes t ≡ Some (Arrow s r) → s < length sets
  set_numbers t s r h = let v = are.reads t (Arrow s r) h in omega (arith, v.0, length-map sets (items_at I.types (state 0)))

  pub AreMore-set : (sets' : List (List ℕ)) (ids : List ℕ) → All (λ i. i < length I.types) ids → IsSet (items_at I.types (state 0) ids) → Adds sets sets' ids → AreMore I nodes sets' envs
  AreMore-set sets' ids range up (inl same) = subst (λ (ss : List (List ℕ)). AreMore I nodes ss envs) (sym same) AreMore-same
  AreMore-set sets' ids range up (inr (new, is)) =
      let K = with_set I (items_at I.types (state 0) ids) in
      let k = AreNodes-set nodes sets envs I are ids range up new in
      let e : types_behind (sets ++ ids ∷ []) [] nodes ≡ K.types = types_behind-more sets ids [] nodes set_numbers in
      subst (λ (ss : List (List ℕ)). AreMore I nodes ss envs) (sym is)
      (more_by I K nodes (sets ++ ids ∷ []) envs (ap (λ ts. data_by ts (sets ++ ids ∷ []) envs) e ∙ data_by-AreNodes nodes (sets ++ ids ∷ []) envs K k) k (Grows-with_set I (items_at I.types (state 0) ids)))

  pub AreMore-env : (envs' : List (List ℕ)) (ids : List ℕ) → All (λ i. i < length I.sets) ids → Adds envs envs' ids → AreMore I nodes sets envs'
  AreMore-env envs' ids range (inl same) = subst (λ (es : List (List ℕ)). AreMore I nodes sets es) (sym same) AreMore-same
  AreMore-env envs' ids range (inr (new, is)) =
      let K = with_env I (items_at I.sets [] ids) in
      let k = AreNodes-env nodes sets envs I are ids range new in
      subst (λ (es : List (List ℕ)). AreMore I nodes sets es) (sym is)
      (more_by I K nodes sets (envs ++ ids ∷ []) (data_by-AreNodes nodes sets (envs ++ ids ∷ []) K k) k (Grows-with_env I (items_at I.sets [] ids)))

-- what a stored node stands for is numbered by its place
pub read_type : (I : InternerData) (nodes : List View) (sets envs : List (List ℕ)) (more : AreMore I nodes sets envs) (t : ℕ) (n : View) → IsInRange I n
    → slice_get nodes t ≡ Some n → slice_get (data_of nodes sets envs).types t ≡ Some (node_type I n)
read_type I nodes sets envs m t n range h =
    let J = data_of nodes sets envs in
    slice_get-get_or J.types t (state 0) (omega (arith, within_from nodes t n h, m.are.long)) ∙ ap (λ (x : TypeTree). Some x) (node_type-view J t n (m.are.reads t n h) ∙ stays n range)
  where
    stays : (n : View) → IsInRange I n → node_type (data_of nodes sets envs) n ≡ node_type I n
    stays (State q) r = refl
    stays (Arrow s r) k = arrow_eq (set_stays I (data_of nodes sets envs) m.grows s k.0) (type_stays I (data_of nodes sets envs) m.grows r k.1)

pub read_set : (I : InternerData) (nodes : List View) (sets envs : List (List ℕ)) (more : AreMore I nodes sets envs) (s : ℕ) (ids : List ℕ) → All (λ t. t < length I.types) ids
    → slice_get sets s ≡ Some ids → slice_get (data_of nodes sets envs).sets s ≡ Some (items_at I.types (state 0) ids)
read_set I nodes sets envs m s ids range h =
    let J = data_of nodes sets envs in
    slice_get-map (items_at J.types (state 0)) sets s ∙ ap (λ o. option_map (items_at J.types (state 0)) o) h
    ∙ ap (λ (x : List TypeTree). Some x) (items_at-begun I.types J.types (state 0) ids m.grows.types range)

pub read_env : (I : InternerData) (nodes : List View) (sets envs : List (List ℕ)) (more : AreMore I nodes sets envs) (e : ℕ) (ids : List ℕ) → All (λ s. s < length I.sets) ids
    → slice_get envs e ≡ Some ids → slice_get (data_of nodes sets envs).envs e ≡ Some (items_at I.sets [] ids)
read_env I nodes sets envs m e ids range h =
    let J = data_of nodes sets envs in
    slice_get-map (items_at J.sets []) envs e ∙ ap (λ o. option_map (items_at J.sets []) o) h
    ∙ ap (λ (x : Env). Some x) (items_at-begun I.sets J.sets [] ids m.grows.sets range)

-- the same, where the lists stand for K
module _ (nodes : List View) (sets envs : List (List ℕ)) (are : AreNodes nodes sets envs (data_of nodes sets envs)) (K : InternerData) (is : data_of nodes sets envs ≡ K) where
  pub types_more : (nodes' : List View) (n : View) → IsInRange K n → Adds nodes nodes' n → AreMore K nodes' sets envs
  types_more nodes' n range a =
      subst (λ (J : InternerData). AreMore J nodes' sets envs) is (AreMore-type nodes sets envs are nodes' n (subst (λ (J : InternerData). IsInRange J n) (sym is) range) a)

  pub sets_more : (sets' : List (List ℕ)) (ids : List ℕ) → All (λ t. t < length K.types) ids → IsSet (map (type_of_id K) ids) → Adds sets sets' ids → AreMore K nodes sets' envs
  sets_more sets' ids range up a =
      subst (λ (J : InternerData). AreMore J nodes sets' envs) is
      (AreMore-set nodes sets envs are sets' ids (subst (λ (J : InternerData). All (λ t. t < length J.types) ids) (sym is) range) (subst (λ (J : InternerData). IsSet (map (type_of_id J) ids)) (sym is) up) a)

  pub envs_more : (envs' : List (List ℕ)) (ids : List ℕ) → All (λ s. s < length K.sets) ids → Adds envs envs' ids → AreMore K nodes sets envs'
  envs_more envs' ids range a =
      subst (λ (J : InternerData). AreMore J nodes sets envs') is (AreMore-env nodes sets envs are envs' ids (subst (λ (J : InternerData). All (λ s. s < length J.sets) ids) (sym is) range) a)

  pub set_stored : (s : ℕ) → s < length K.sets → s < length sets
  set_stored s h = omega (arith, h, ap (λ (J : InternerData). length J.sets) is, length-map sets (items_at (data_of nodes sets envs).types (state 0)))

  pub env_stored : (e : ℕ) → e < length K.envs → e < length envs
  env_stored e h = omega (arith, h, ap (λ (J : InternerData). length J.envs) is, length-map envs (items_at (data_of nodes sets envs).sets []))

  -- the types of a set, and the sets of an environment
  pub set_members : (s : ℕ) → s < length K.sets → map (type_of_id K) (get_or sets s []) ≡ set_of_id K s
  set_members s h = subst (λ (J : InternerData). map (type_of_id J) (get_or sets s []) ≡ set_of_id J s) is (sym (set_read (data_of nodes sets envs).types sets s))

  pub members_range : (s : ℕ) → s < length K.sets → All (λ t. t < length K.types) (get_or sets s [])
  members_range s h =
      let I = data_of nodes sets envs in
      subst (λ (J : InternerData). All (λ t. t < length J.types) (get_or sets s [])) is (All-get_or (λ (ids : List ℕ). All (λ t. t < length I.types) ids) sets s [] (set_stored s h) are.set_range)

  pub env_sets : (e : ℕ) → e < length K.envs → map (set_of_id K) (get_or envs e []) ≡ env_of_id K e
  env_sets e h =
      let I = data_of nodes sets envs in
      subst (λ (J : InternerData). map (set_of_id J) (get_or envs e []) ≡ env_of_id J e) is (sym (get_or-map (items_at I.sets []) envs e []))

  pub sets_range : (e : ℕ) → e < length K.envs → All (λ s. s < length K.sets) (get_or envs e [])
  sets_range e h =
      let I = data_of nodes sets envs in
      subst (λ (J : InternerData). All (λ s. s < length J.sets) (get_or envs e [])) is (All-get_or (λ (ids : List ℕ). All (λ s. s < length I.sets) ids) envs e [] (env_stored e h) are.env_range)

-- nothing is stored
pub no_nodes : (nodes : List View) (sets envs : List (List ℕ)) → nodes ≡ [] → sets ≡ [] → envs ≡ [] → AreNodes nodes sets envs (data_of nodes sets envs)
no_nodes nodes sets envs e f g =
    subst (λ (z : List View × (List (List ℕ) × List (List ℕ))). AreNodes z.0 z.1.0 z.1.1 (data_of z.0 z.1.0 z.1.1)) (λ i. (sym e i, (sym f i, sym g i)))
    record {
      exact = IsInterner-empty;
      long = refl;
      of_sets = refl;
      of_envs = refl;
      reads = λ t n e. absurd (cc);
      set_range = All-nil (λ (ids : List ℕ). All (λ i. i < 0) ids);
      env_range = All-nil (λ (ids : List ℕ). All (λ i. i < 0) ids);
    }
