-- What follows at a point, by number, and what of it is missing.
use Rattle.std.proofs.Common.{◌≡◌, sym, ◌∙◌, ap, subst, ℕ, ◌<◌, List, [], ◌∷◌, length, map, Contains, ◌↔◌}
use Rattle.std.proofs.lemmas.List.Elements.{All-cons, All-nil}
use Rattle.hs_scheme.specs.declared.term.Head.{Head}
use Rattle.hs_table.specs.Types.{TypeTree, state}
use Rattle.hs_table.specs.Entries.{EntryData}
use Rattle.hs_table_laws.proofs.Members.{from_map, into_map}
use Rattle.hs_table_plain.specs.Enumeration.{retyped, own_env, opening, through}
use Rattle.hs_table_plain.proofs.UnionLemmas.{own_is_env}
use Rattle.hs_types.specs.Interned.{InternerData, type_of_id, env_of_id, RowData, IsRow, entry_of, IsInterner, Grows}
use Rattle.hs_checker.specs.Numbers.{entries_of, opened, opened_by, AreRows, AreEnvs}
use Rattle.hs_checker.proofs.EnvLemmas.{through_retyped}
use Rattle.hs_checker.proofs.NumberLemmas.{rows_grow, entries_stay, row_there}

module _ (I K : InternerData) (g : Grows I K) (is : IsInterner K) (R : List RowData) (rows : AreRows I R) (point ty : ℕ) (ks : List ℕ) (Out : List EntryData)
    (each : (e : EntryData) → Contains (map (retyped (type_of_id K ty)) (opened_by K point ks)) e ↔ Contains Out e) (lt : ty < length K.types) (range : (k : ℕ) → Contains ks k → k < length K.envs) where
  abbrev row : ℕ → RowData
  row k = record { point = point; env = k; ty = ty }

  pub all_there : ((k : ℕ) → Contains ks k → Contains R (record { point = point; env = k; ty = ty })) → (e : EntryData) → Contains Out e → Contains (entries_of I R) e
  all_there all e c =
      let s = from_map (retyped (type_of_id K ty)) (opened_by K point ks) e ((each e).1 c) in
      let k = from_map (λ k. opened point (env_of_id K k)) ks s.item s.there in
      let same : e ≡ entry_of K (row k.item) = s.is ∙ ap (retyped (type_of_id K ty)) k.is in
      subst (λ F. Contains F e) (entries_stay I K g R rows) (subst (λ z. Contains (entries_of K R) z) (sym same) (into_map (entry_of K) R (row k.item) (all k.item k.there)))

  pub one_missing : (r : RowData) → (r.point ≡ point) × ((r.ty ≡ ty) × (Contains ks r.env × (Contains R r → ⊥)))
      → IsRow K r × (Contains Out (entry_of K r) × (Contains (entries_of I R) (entry_of K r) → ⊥))
  one_missing r h =
      let own : IsRow K r = (range r.env h.1.1.0, subst (λ n. n < length K.types) (sym h.1.0) lt) in
      let there : Contains (map (retyped (type_of_id K ty)) (opened_by K point ks)) (entry_of K (row r.env)) =
      into_map (retyped (type_of_id K ty)) (opened_by K point ks) (opened point (env_of_id K r.env)) (into_map (λ k. opened point (env_of_id K k)) ks r.env h.1.1.0) in
      let same : entry_of K (row r.env) ≡ entry_of K r = λ i. record { point = sym h.0 i; env = env_of_id K r.env; ty = ap (type_of_id K) (sym h.1.0) i } in (
        own,
        (
          subst (λ z. Contains Out z) same ((each (entry_of K (row r.env))).0 there),
          λ c. h.1.1.1 ((row_there K is R r (rows_grow I K g R rows) own).0 (subst (λ F. Contains F (entry_of K r)) (sym (entries_stay I K g R rows)) c)),
        ),
      )

-- the environment that a head asks, by number
module _ (J : InternerData) (params start : ℕ) (head : Head) (ty : TypeTree) (envs : List ℕ) (lt : start < length J.envs) (is : env_of_id J start ≡ own_env params head ty) (alone : envs ≡ start ∷ []) where
  pub start_long : AreEnvs params J envs
  start_long =
      let long : length (env_of_id J start) ≡ params = ap length is ∙ (own_is_env params head ty).long in
      subst (λ ks. AreEnvs params J ks) (sym alone) (All-cons (λ k. (k < length J.envs) × (length (env_of_id J k) ≡ params)) start [] (lt, long) (All-nil (λ k. (k < length J.envs) × (length (env_of_id J k) ≡ params))))

  pub starts_open : (E : List EntryData) (us : List ℕ) (point : ℕ) → through E us ty (opened_by J point envs) ≡ through E us ty (opening point params head ty ∷ [])
  starts_open E us point =
      ap (λ ks. through E us ty (opened_by J point ks)) alone
      ∙ (ap (λ env. through E us ty (opened point env ∷ [])) is
      ∙ through_retyped E us ty (state 0) (opening point params head ty ∷ []))
