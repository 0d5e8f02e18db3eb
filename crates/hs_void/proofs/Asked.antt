-- Whether one of the void rows of a rule is asked.
use Rattle.std.proofs.Common.{◌≡◌, refl, sym, subst, ℕ, ◌+◌, ◌<◌, ◌≤◌, true, false, IsTrue, List, length, get_or, take, Contains, ◌↔◌, inl, inr}
use Rattle.std.proofs.lemmas.List.{take_all}
use Rattle.hs_scheme.proofs.Lists.{none_in}
use Rattle.hs_table.specs.Entries.{Env}
use Rattle.hs_table_laws.proofs.Members.{taken_next, pushed_cases}
use Rattle.hs_types.specs.Interned.{InternerData, env_of_id}
use Rattle.hs_weak.specs.Strength.{AsStrongAs, AsksAtLeast}
use Rattle.hs_numbered.specs.Certificates.{VoidRowData}
use Rattle.hs_void.specs.Voids.{BasisData}
use Rattle.hs_void.proofs.ByRows.{AsksVoid}

module _ (b : BasisData) (I : InternerData) (G : ℕ) (E : Env) (rows : List VoidRowData) (own : (v : VoidRowData) → Contains rows v ↔ (Contains b.void v × (v.rule ≡ G))) where
  abbrev pub NoneAsked : List VoidRowData → Type 0
  NoneAsked vs = (v : VoidRowData) → Contains vs v → AsksAtLeast AsStrongAs E (env_of_id I v.env) → ⊥

  module _ (i : ℕ) (row : VoidRowData) (lt : i < length rows) (is : row ≡ get_or rows i row) where
    pub asked_row : AsksAtLeast AsStrongAs E (env_of_id I row.env) → IsTrue true ↔ AsksVoid b I G E
    asked_row asks = (λ yes. let m = (own row).0 (i, lt, sym is) in (row, (m.0, m.1, asks)), λ h. refl)

    pub none_more : NoneAsked (take i rows) → (AsksAtLeast AsStrongAs E (env_of_id I row.env) → ⊥) → NoneAsked (take (i + 1) rows)
    none_more none not v m = elim (pushed_cases (take i rows) row v (subst (λ (vs : List VoidRowData). Contains vs v) (taken_next rows i row lt is) m)) [
      | inl was ↦ none v was
      | inr same ↦ subst (λ (w : VoidRowData). AsksAtLeast AsStrongAs E (env_of_id I w.env) → ⊥) (sym same) not
    ]

  pub none_before : NoneAsked (take 0 rows)
  none_before v m = absurd (none_in v m)

  pub none_asked : (i : ℕ) → length rows ≤ i → NoneAsked (take i rows) → IsTrue false ↔ AsksVoid b I G E
  none_asked i past none = (
    λ no. let f : false ≡ true = no in cc,
    λ h. absurd (none h.0 (subst (λ (vs : List VoidRowData). Contains vs h.0) (sym (take_all i rows past)) ((own h.0).1 (h.1.0, h.1.1))) h.1.2),
  )
