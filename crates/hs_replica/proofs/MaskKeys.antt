-- Environments by their masks.
use Rattle.std.proofs.Common.{◌≡◌, refl, sym, ◌∙◌, ap, subst, ℕ, Bool, true, false, cond, nat_eq, List, [], ◌∷◌, Some, Contains, ◌⊎◌, inl, inr, ◌<◌, length}
use Rattle.std.specs.Map.{lookup}
use Rattle.std.proofs.lemmas.Bool.{eqb-true, and_parts}
use Rattle.hs_scheme.proofs.Lists.{none_in, here, later, uncons}
use Rattle.indexmap.specs.IndexMap.{insert_entry}
use Rattle.hs_types.specs.Interned.{InternerData, env_of_id}
use Rattle.hs_replica.specs.declared.masks.MaskKey.{MaskKey}
use Rattle.hs_replica.specs.contracts.masks.MaskKeyPartialEq.TheImpl.{eq-value}
use Rattle.hs_replica.specs.Masks.{IsMask, AreMasks}

abbrev Envs : Type 0
Envs = List (MaskKey × ℕ)

same_key : (p q : MaskKey) → eq-value.it p q ≡ true → p ≡ q
same_key p q h = let e = and_parts (nat_eq p.mask q.mask) (nat_eq p.count q.count) h in λ i. record { mask = eqb-true p.mask q.mask e.0 i; count = eqb-true p.count q.count e.1 i }

-- what a look-up finds is there
pub found_env : (p : MaskKey) (es : Envs) (u : ℕ) → lookup (eq-value.it p) es ≡ Some u → Contains es (p, u)
found_env p [] u e = absurd (cc)
found_env p ((q, v) ∷ es) u e = by (eq-value.it p q) refl (found_env p es u)
  where
    by : (b : Bool) → eq-value.it p q ≡ b → (lookup (eq-value.it p) es ≡ Some u → Contains es (p, u)) → Contains ((q, v) ∷ es) (p, u)
    by true t rest =
        let f : Some v ≡ Some u = sym (ap (λ b. cond b (Some v) (lookup (eq-value.it p) es)) t) ∙ e in
        let is : v ≡ u = (cc) in
        let same = sym (same_key p q t) in
        subst (λ (x : MaskKey × ℕ). Contains ((q, v) ∷ es) x) (λ i. (same i, is i)) (here (q, v) es)
    by false t rest = later (q, v) (p, u) es (rest (sym (ap (λ b. cond b (Some v) (lookup (eq-value.it p) es)) t) ∙ e))

-- an insert leaves what was there, and its own
inserted_env : (p : MaskKey) (v : ℕ) (es : Envs) (x : MaskKey × ℕ) → Contains (insert_entry eq-value.it es p v) x → Contains es x ⊎ (x ≡ (p, v))
inserted_env p v [] x h = elim (uncons (p, v) x [] h) [ inl is ↦ inr is | inr there ↦ absurd (none_in x there) ]
inserted_env p v ((q, w) ∷ es) x h = by (eq-value.it p q) refl (inserted_env p v es x)
  where
    by : (b : Bool) → eq-value.it p q ≡ b → (Contains (insert_entry eq-value.it es p v) x → Contains es x ⊎ (x ≡ (p, v))) → Contains ((q, w) ∷ es) x ⊎ (x ≡ (p, v))
    by true t rest =
        let k : Contains ((q, v) ∷ es) x = subst (λ (l : Envs). Contains l x) (ap (λ b. cond b ((q, v) ∷ es) ((q, w) ∷ insert_entry eq-value.it es p v)) t) h in
        elim (uncons (q, v) x es k) [
          | inl is ↦ let same = sym (same_key p q t) in inr (is ∙ (λ i. (same i, v)))
          | inr there ↦ inl (later (q, w) x es there)
        ]
    by false t rest =
        let k : Contains ((q, w) ∷ insert_entry eq-value.it es p v) x = subst (λ (l : Envs). Contains l x) (ap (λ b. cond b ((q, v) ∷ es) ((q, w) ∷ insert_entry eq-value.it es p v)) t) h in
        elim (uncons (q, w) x (insert_entry eq-value.it es p v) k) [
          | inl is ↦ inl (subst (λ (y : MaskKey × ℕ). Contains ((q, w) ∷ es) y) (sym is) (here (q, w) es))
          | inr there ↦ elim (rest there) [
            | inl was ↦ inl (later (q, w) x es was)
            | inr own ↦ inr own
          ]
        ]

-- one more mask is remembered
module _ (I : InternerData) (envs : Envs) (are : AreMasks I envs) (env count mask : ℕ) (known : env < length I.envs) (m : IsMask I count (env_of_id I env) mask) where
  pub noted_env : (more : Envs) → (let key : MaskKey = record { mask = mask; count = count } in more ≡ insert_entry eq-value.it envs key env) → AreMasks I more
  noted_env more is = record {
    found = λ k e there. elim (inserted_env (record { mask = mask; count = count }) env envs (k, e) (subst (λ (l : Envs). Contains l (k, e)) is there)) [
      | inl was ↦ are.found k e was
      | inr same ↦ subst (λ (x : MaskKey × ℕ). (x.1 < length I.envs) × IsMask I x.0.count (env_of_id I x.1) x.0.mask) (sym same) (known, m)
    ];
  }
