-- Unions that are known.
use Rattle.std.proofs.Common.{◌≡◌, sym, ◌∙◌, ap, subst, ℕ, ◌<◌, List, [], ◌∷◌, length, map, Some, Contains, inl, inr, replicate, slice_get, arith}
use Rattle.std.proofs.lemmas.List.{length-map, length-replicate}
use Rattle.std.proofs.lemmas.Option.{get_or_from_slice_get}
use Rattle.hs_table_laws.proofs.Arrows.{empties}
use Rattle.hs_scheme.proofs.Lists.{none_in}
use Rattle.hs_table.specs.Types.{TypeTree, IsSet}
use Rattle.hs_table.specs.Entries.{Env, set_at}
use Rattle.hs_types.specs.declared.unions.Operands.{Operands}
use Rattle.hs_types.specs.Interned.{InternerData, type_of_id, set_of_id, env_of_id, IsUnion, IsUnionEnv, IsInterner, Grows}
use Rattle.hs_types.specs.Unions.{KnownUnions, KeepsUnion, AreOperands, KnowsUnion, KnowsMore, IsSetUnion, IsEnvUnion, AreUnions}
use Rattle.hs_types.proofs.MergeLemmas.{union_swap}
use Rattle.hs_types.proofs.Numbers.{set_within, set_stays, env_within, env_stays}

-- nothing is known
pub no_unions : (I : InternerData) (sets envs : KnownUnions) → sets ≡ [] → envs ≡ [] → AreUnions I sets envs
no_unions I sets envs e f = record {
  sets = λ p u c. absurd (none_in (Some (record { operands = p; union = u })) (subst (λ (es : KnownUnions). KeepsUnion es p u) e c));
  envs = λ p u c. absurd (none_in (Some (record { operands = p; union = u })) (subst (λ (es : KnownUnions). KeepsUnion es p u) f c));
}

-- what is known stays so while the interner grows
pub unions_grow : (I J : InternerData) (sets envs : KnownUnions) → Grows I J → AreUnions I sets envs → AreUnions J sets envs
unions_grow I J sets envs g h = record {
  sets = λ p u c. let k = h.sets p u c in record {
    first = set_within I J g p.first k.first;
    second = set_within I J g p.second k.second;
    within = set_within I J g u k.within;
    is = subst (λ s. IsUnion s (set_of_id J p.second) (set_of_id J u)) (sym (set_stays I J g p.first k.first))
        (subst (λ s. IsUnion (set_of_id I p.first) s (set_of_id J u)) (sym (set_stays I J g p.second k.second))
        (subst (λ s. IsUnion (set_of_id I p.first) (set_of_id I p.second) s) (sym (set_stays I J g u k.within)) k.is));
  };
  envs = λ p u c. let k = h.envs p u c in record {
    first = env_within I J g p.first k.first;
    second = env_within I J g p.second k.second;
    within = env_within I J g u k.within;
    long = ap length (env_stays I J g p.first k.first) ∙ k.long ∙ ap length (sym (env_stays I J g p.second k.second));
    is = subst (λ e. IsUnionEnv e (env_of_id J p.second) (env_of_id J u)) (sym (env_stays I J g p.first k.first))
        (subst (λ e. IsUnionEnv (env_of_id I p.first) e (env_of_id J u)) (sym (env_stays I J g p.second k.second))
        (subst (λ e. IsUnionEnv (env_of_id I p.first) (env_of_id I p.second) e) (sym (env_stays I J g u k.within)) k.is));
  };
}

pub union_same : (s : List TypeTree) → IsSet s → IsUnion s s s
union_same s h = record { ascends = h; exact = λ a. (λ c. inl c, λ c. elim c [ inl there ↦ there | inr there ↦ there ]) }

pub union_second : (s r : List TypeTree) → s ≡ [] → IsSet r → IsUnion s r r
union_second s r e h = record {
  ascends = h;
  exact = λ a. (λ c. inr c, λ c. elim c [ inl there ↦ absurd (none_in a (subst (λ (z : List TypeTree). Contains z a) e there)) | inr there ↦ there ]);
}

-- a union that is known
module _ (I : InternerData) (sets envs : KnownUnions) (are : AreUnions I sets envs) where
  pub known_set : (a b u : ℕ) → KnowsUnion sets a b u → IsSetUnion I a b u
  known_set a b u (p, (inl is, c)) =
      let k = are.sets p u c in
      subst (λ x. IsSetUnion I x b u) is.0 (subst (λ x. IsSetUnion I p.first x u) is.1 k)
  known_set a b u (p, (inr is, c)) =
      let k = are.sets p u c in
      let m : IsSetUnion I b a u = subst (λ x. IsSetUnion I x a u) is.0 (subst (λ x. IsSetUnion I p.first x u) is.1 k) in
      record { first = m.second; second = m.first; within = m.within; is = union_swap (set_of_id I b) (set_of_id I a) (set_of_id I u) m.is }

  pub known_env : (a b u : ℕ) → KnowsUnion envs a b u → IsEnvUnion I a b u
  known_env a b u (p, (inl is, c)) =
      let k = are.envs p u c in
      subst (λ x. IsEnvUnion I x b u) is.0 (subst (λ x. IsEnvUnion I p.first x u) is.1 k)
  known_env a b u (p, (inr is, c)) =
      let k = are.envs p u c in
      let m : IsEnvUnion I b a u = subst (λ x. IsEnvUnion I x a u) is.0 (subst (λ x. IsEnvUnion I p.first x u) is.1 k) in
      record {
        first = m.second;
        second = m.first;
        within = m.within;
        long = sym m.long;
        is = record {
          long = m.is.long ∙ m.long;
          sets = λ j. union_swap (set_at (env_of_id I b) j) (set_at (env_of_id I a) j) (set_at (env_of_id I u) j) (m.is.sets j);
        };
      }

  set_by_pair : (p : Operands) (a b u : ℕ) → AreOperands p a b → IsSetUnion I a b u → IsSetUnion I p.first p.second u
  set_by_pair p a b u (inl is) k = subst (λ x. IsSetUnion I x p.second u) (sym is.0) (subst (λ x. IsSetUnion I a x u) (sym is.1) k)
  set_by_pair p a b u (inr is) k =
      let m : IsSetUnion I b a u = record { first = k.second; second = k.first; within = k.within; is = union_swap (set_of_id I a) (set_of_id I b) (set_of_id I u) k.is } in
      subst (λ x. IsSetUnion I x p.second u) (sym is.0) (subst (λ x. IsSetUnion I b x u) (sym is.1) m)

  env_by_pair : (p : Operands) (a b u : ℕ) → AreOperands p a b → IsEnvUnion I a b u → IsEnvUnion I p.first p.second u
  env_by_pair p a b u (inl is) k = subst (λ x. IsEnvUnion I x p.second u) (sym is.0) (subst (λ x. IsEnvUnion I a x u) (sym is.1) k)
  env_by_pair p a b u (inr is) k =
      let m : IsEnvUnion I b a u = record {
        first = k.second;
        second = k.first;
        within = k.within;
        long = sym k.long;
        is = record {
          long = k.is.long ∙ k.long;
          sets = λ j. union_swap (set_at (env_of_id I a) j) (set_at (env_of_id I b) j) (set_at (env_of_id I u) j) (k.is.sets j);
        };
      } in
      subst (λ x. IsEnvUnion I x p.second u) (sym is.0) (subst (λ x. IsEnvUnion I b x u) (sym is.1) m)

  pub keep_set : (new : KnownUnions) (a b u : ℕ) → KnowsMore sets new a b u → IsSetUnion I a b u → AreUnions I new envs
  keep_set new a b u more k = record {
    sets = λ p v c. elim (more p v c) [
      | inl was ↦ are.sets p v was
      | inr (is, same) ↦ subst (λ w. IsSetUnion I p.first p.second w) (sym same) (set_by_pair p a b u is k)
    ];
    envs = are.envs;
  }

  pub keep_env : (new : KnownUnions) (a b u : ℕ) → KnowsMore envs new a b u → IsEnvUnion I a b u → AreUnions I sets new
  keep_env new a b u more k = record {
    sets = are.sets;
    envs = λ p v c. elim (more p v c) [
      | inl was ↦ are.envs p v was
      | inr (is, same) ↦ subst (λ w. IsEnvUnion I p.first p.second w) (sym same) (env_by_pair p a b u is k)
    ];
  }

-- the same, as code finds it: by numbers that are equal to those that were asked for
pub known_set_at : (I K : InternerData) (sets envs : KnownUnions) → AreUnions I sets envs → I ≡ K → (a b u m n r : ℕ) → m ≡ a → n ≡ b → r ≡ u → KnowsUnion sets m n u → IsSetUnion K a b r
known_set_at I K sets envs are is a b u m n r e f g k =
    let h : IsSetUnion K m n u = subst (λ (J : InternerData). IsSetUnion J m n u) is (known_set I sets envs are m n u k) in
    subst (λ (x : ℕ). IsSetUnion K a b x) (sym g) (subst (λ (x : ℕ). IsSetUnion K a x u) f (subst (λ (x : ℕ). IsSetUnion K x n u) e h))

pub known_env_at : (I K : InternerData) (sets envs : KnownUnions) → AreUnions I sets envs → I ≡ K → (a b u m n r : ℕ) → m ≡ a → n ≡ b → r ≡ u → KnowsUnion envs m n u → IsEnvUnion K a b r
known_env_at I K sets envs are is a b u m n r e f g k =
    let h : IsEnvUnion K m n u = subst (λ (J : InternerData). IsEnvUnion J m n u) is (known_env I sets envs are m n u k) in
    subst (λ (x : ℕ). IsEnvUnion K a b x) (sym g) (subst (λ (x : ℕ). IsEnvUnion K a x u) f (subst (λ (x : ℕ). IsEnvUnion K x n u) e h))

more_at : (old new : KnownUnions) (a b u m n r : ℕ) → m ≡ a → n ≡ b → r ≡ u → KnowsMore old new m n r → KnowsMore old new a b u
more_at old new a b u m n r e f g k =
    subst (λ (x : ℕ). KnowsMore old new a b x) g (subst (λ (x : ℕ). KnowsMore old new a x r) f (subst (λ (x : ℕ). KnowsMore old new x n r) e k))

-- a union of sets that was just made is kept
pub kept_set : (I J K : InternerData) (sets envs new : KnownUnions) → AreUnions I sets envs → I ≡ K → Grows I J → (a b u m n r : ℕ) → m ≡ a → n ≡ b → r ≡ u → a < length K.sets → b < length K.sets
    → (u < length J.sets) × IsUnion (set_of_id I a) (set_of_id I b) (set_of_id J u) → KnowsMore sets new m n r → AreUnions J new envs
kept_set I J K sets envs new are is g a b u m n r e f q h k ok more =
    let a_in : a < length I.sets = subst (λ (L : InternerData). a < length L.sets) (sym is) h in
    let b_in : b < length I.sets = subst (λ (L : InternerData). b < length L.sets) (sym is) k in
    keep_set J sets envs (unions_grow I J sets envs g are) new a b u (more_at sets new a b u m n r e f q more) (record {
      first = set_within I J g a a_in;
      second = set_within I J g b b_in;
      within = ok.0;
      is = subst (λ s. IsUnion s (set_of_id J b) (set_of_id J u)) (sym (set_stays I J g a a_in)) (subst (λ s. IsUnion (set_of_id I a) s (set_of_id J u)) (sym (set_stays I J g b b_in)) ok.1);
    })

-- a union of environments that was just made is kept
pub kept_env : (I J K : InternerData) (sets envs new : KnownUnions) → AreUnions J sets envs → J ≡ K → Grows I K → (a b u m n r : ℕ) → m ≡ a → n ≡ b → r ≡ u → a < length I.envs → b < length I.envs
    → length (env_of_id I a) ≡ length (env_of_id I b) → (u < length K.envs) × IsUnionEnv (env_of_id I a) (env_of_id I b) (env_of_id K u) → KnowsMore envs new m n r → AreUnions J sets new
kept_env I J K sets envs new are is g a b u m n r e f q h k long ok more =
    let made : IsEnvUnion K a b u = record {
      first = env_within I K g a h;
      second = env_within I K g b k;
      within = ok.0;
      long = ap length (env_stays I K g a h) ∙ long ∙ ap length (sym (env_stays I K g b k));
      is = subst (λ x. IsUnionEnv x (env_of_id K b) (env_of_id K u)) (sym (env_stays I K g a h)) (subst (λ x. IsUnionEnv (env_of_id I a) x (env_of_id K u)) (sym (env_stays I K g b k)) ok.1);
    } in
    keep_env J sets envs are new a b u (more_at envs new a b u m n r e f q more) (subst (λ (L : InternerData). IsEnvUnion L a b u) (sym is) made)

pub union_of_empty : (I K : InternerData) (n a b : ℕ) (sets : List ℕ) → I ≡ K → IsInterner I → slice_get I.envs a ≡ Some (replicate n []) → map (set_of_id I) sets ≡ env_of_id I b → n ≡ length sets
    → a < length K.envs → b < length K.envs → IsEnvUnion K a b b
union_of_empty I K n a b sets same exact at is long first second =
    let e : env_of_id I a ≡ replicate n [] = get_or_from_slice_get I.envs a (replicate n []) [] at in
    let a_long : length (env_of_id I a) ≡ n = ap (λ (z : Env). length z) e ∙ length-replicate n [] in
    let b_long : length (env_of_id I b) ≡ length sets = ap (λ (z : Env). length z) (sym is) ∙ length-map sets (set_of_id I) in
    let one : length (env_of_id I a) ≡ length (env_of_id I b) = a_long ∙ (long ∙ sym b_long) in
    subst (λ (J : InternerData). IsEnvUnion J a b b) same
    (record {
      first = subst (λ (J : InternerData). a < length J.envs) (sym same) first;
      second = subst (λ (J : InternerData). b < length J.envs) (sym same) second;
      within = subst (λ (J : InternerData). b < length J.envs) (sym same) second;
      long = one;
      is = record {
        long = sym one;
        sets = λ j. union_second (set_at (env_of_id I a) j) (set_at (env_of_id I b) j) (ap (λ (z : Env). set_at z j) e ∙ empties n j) (exact.env_ascends b j);
      };
    })

-- unions that need no look: of equal sets, and where one is empty
module _ (N I : InternerData) (same : N ≡ I) (is : IsInterner N) (a b : ℕ) (a_in : a < length I.sets) (b_in : b < length I.sets) where
  up : (s : ℕ) → IsSet (set_of_id I s)
  up s = (subst (λ (J : InternerData). IsInterner J) same is).set_ascends s

  no_types : (s : ℕ) (xs : List ℕ) → map (type_of_id N) xs ≡ set_of_id N s → length xs ≡ 0 → set_of_id I s ≡ []
  no_types s [] e none = sym (e ∙ ap (λ (J : InternerData). set_of_id J s) same)
  no_types s (x ∷ xs) e none = absurd (omega arith)

  pub union_equal : a ≡ b → IsSetUnion I a b a
  union_equal e = record {
    first = a_in;
    second = b_in;
    within = a_in;
    is = subst (λ k. IsUnion (set_of_id I a) (set_of_id I k) (set_of_id I a)) e (union_same (set_of_id I a) (up a));
  }

  pub union_none_first : (xs : List ℕ) → map (type_of_id N) xs ≡ set_of_id N a → length xs ≡ 0 → IsSetUnion I a b b
  union_none_first xs e none = record { first = a_in; second = b_in; within = b_in; is = union_second (set_of_id I a) (set_of_id I b) (no_types a xs e none) (up b) }

  pub union_none_second : (xs : List ℕ) → map (type_of_id N) xs ≡ set_of_id N b → length xs ≡ 0 → IsSetUnion I a b a
  union_none_second xs e none = record {
    first = a_in;
    second = b_in;
    within = a_in;
    is = union_swap (set_of_id I b) (set_of_id I a) (set_of_id I a) (union_second (set_of_id I b) (set_of_id I a) (no_types b xs e none) (up a));
  }
