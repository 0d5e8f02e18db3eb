-- Numbers of another interner with those that were found for them here.
use Rattle.std.proofs.Common.{◌≡◌, sym, ◌∙◌, ap, subst, ℕ, List, [], ◌∷◌, ◌++◌, Contains, slice_get, Some, inl, inr}
use Rattle.std.proofs.lemmas.List.Elements.{Contains-append_cases}
use Rattle.hs_scheme.proofs.Lists.{only}
use Rattle.hs_types.specs.declared.translations.Translation.{Translation}
use Rattle.hs_types.specs.Interned.{InternerData, type_of_id, set_of_id, env_of_id, Begins, Grows}
use Rattle.hs_types.specs.Translations.{ImportedData, AreFound}

-- each pair leads from a number of the other's to a place where the same stands here
abbrev pub Lead : {X : Type 0} → List X → (ℕ → X) → List Translation → Type 0
Lead xs F pairs = (p : Translation) → Contains pairs p → slice_get xs p.own ≡ Some (F p.other)

pub lead_found : {X : Type 0} (xs : List X) (F : ℕ → X) (pairs : List Translation) (other id own n : ℕ) → Lead xs F pairs → other ≡ id → n ≡ own → Contains pairs (record { other = other; own = own }) → slice_get xs n ≡ Some (F id)
lead_found xs F pairs other id own n lead o e k =
    ap (λ (j : ℕ). slice_get xs j) e ∙ lead (record { other = other; own = own }) k ∙ ap (λ (j : ℕ). Some (F j)) o

pub lead_more : {X : Type 0} (xs ys : List X) (F : ℕ → X) (pairs new : List Translation) (other id own n : ℕ) → Begins xs ys → Lead xs F pairs → other ≡ id → own ≡ n → slice_get ys n ≡ Some (F id)
    → new ≡ pairs ++ record { other = other; own = own } ∷ [] → Lead ys F new
lead_more xs ys F pairs new other id own n g lead o e at is p k =
    let x : Translation = record { other = other; own = own } in
    elim (Contains-append_cases pairs (x ∷ []) p (subst (λ (ps : List Translation). Contains ps p) is k)) [
      | inl was ↦ g p.own (F p.other) (lead p was)
      | inr one ↦
          let q : p ≡ x = only x p one in
          ap (λ (t : Translation). slice_get ys t.own) q ∙ ap (λ (j : ℕ). slice_get ys j) e ∙ at ∙ sym (ap (λ (t : Translation). Some (F t.other)) q ∙ ap (λ (j : ℕ). Some (F j)) o)
    ]

pub more_types : (from K : InternerData) (f : ImportedData) (new : List Translation) (other id own n : ℕ) → AreFound from K f → other ≡ id → own ≡ n → slice_get K.types n ≡ Some (type_of_id from id)
    → new ≡ f.types ++ record { other = other; own = own } ∷ [] → AreFound from K (record { types = new; sets = f.sets; envs = f.envs })
more_types from K f new other id own n h o e at is = record {
  types_are = lead_more K.types K.types (type_of_id from) f.types new other id own n (λ i x p. p) h.types_are o e at is;
  sets_are = h.sets_are;
  envs_are = h.envs_are;
}

pub more_sets : (from K : InternerData) (f : ImportedData) (new : List Translation) (other id own n : ℕ) → AreFound from K f → other ≡ id → own ≡ n → slice_get K.sets n ≡ Some (set_of_id from id)
    → new ≡ f.sets ++ record { other = other; own = own } ∷ [] → AreFound from K (record { types = f.types; sets = new; envs = f.envs })
more_sets from K f new other id own n h o e at is = record {
  types_are = h.types_are;
  sets_are = lead_more K.sets K.sets (set_of_id from) f.sets new other id own n (λ i x p. p) h.sets_are o e at is;
  envs_are = h.envs_are;
}

pub more_envs : (from K : InternerData) (f : ImportedData) (new : List Translation) (other id own n : ℕ) → AreFound from K f → other ≡ id → own ≡ n → slice_get K.envs n ≡ Some (env_of_id from id)
    → new ≡ f.envs ++ record { other = other; own = own } ∷ [] → AreFound from K (record { types = f.types; sets = f.sets; envs = new })
more_envs from K f new other id own n h o e at is = record {
  types_are = h.types_are;
  sets_are = h.sets_are;
  envs_are = lead_more K.envs K.envs (env_of_id from) f.envs new other id own n (λ i x p. p) h.envs_are o e at is;
}

pub found_grow : (from J K : InternerData) (f : ImportedData) → Grows J K → AreFound from J f → AreFound from K f
found_grow from J K f g h = record {
  types_are = λ p k. g.types p.own (type_of_id from p.other) (h.types_are p k);
  sets_are = λ p k. g.sets p.own (set_of_id from p.other) (h.sets_are p k);
  envs_are = λ p k. g.envs p.own (env_of_id from p.other) (h.envs_are p k);
}
