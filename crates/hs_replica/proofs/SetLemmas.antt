-- A place in the lists of the types of a set, one type after another.
use Rattle.std.proofs.Common.{◌≡◌, refl, sym, ◌∙◌, ap, subst, ℕ, ◌+◌, ◌<◌, ◌≤◌, List, length, get_or, map, arith, inl, inr, Contains, All}
use Rattle.std.proofs.lemmas.Bool.{cases_lt}
use Rattle.std.proofs.lemmas.List.{get_or-map, get_or_default, length-map}
use Rattle.hs_table.specs.Types.{TypeTree}
use Rattle.hs_types.specs.Interned.{InternerData, type_of_id}
use Rattle.hs_replica.specs.declared.key.Key.{Key}
use Rattle.hs_replica.specs.declared.key.Key.TheVariants.{Asking, Taking}
use Rattle.hs_replica.specs.Places.{Question, here, typed, asks, takes}
use Rattle.hs_replica.specs.Index.{question, IsKey, IsListed, AddsAt, Gains, ListsAll, AsksAt, TakesAt}

pub gains_nothing : (ids : InternerData) (P : Question → Type 0) (place : ℕ) (old : Key → List ℕ) → Gains ids P place old old
gains_nothing ids P place old = record { only = λ k i h. inl h; keeps = λ k i h. h; rises = λ k n h r. r }

pub gains_then : (ids : InternerData) (P Q R : Question → Type 0) (place : ℕ) (a b c : Key → List ℕ) → ((q : Question) → P q → R q) → ((q : Question) → Q q → R q)
    → Gains ids P place a b → Gains ids Q place b c → Gains ids R place a c
gains_then ids P Q R place a b c early late f g = record {
  only = λ k i h. elim (g.only k i h) [
    | inr new ↦ inr (new.0, (new.1.0, late (question ids k) new.1.1))
    | inl mid ↦ elim (f.only k i mid) [ inl was ↦ inl was | inr new ↦ inr (new.0, (new.1.0, early (question ids k) new.1.1)) ]
  ];
  keeps = λ k i h. g.keeps k i (f.keeps k i h);
  rises = λ k n h r. g.rises k n (λ q. h (late (question ids k) q)) (f.rises k n (λ p. h (early (question ids k) p)) r);
}

pub gains_weaker : (ids : InternerData) (P Q : Question → Type 0) (place : ℕ) (a b : Key → List ℕ) → ((q : Question) → P q → Q q) → Gains ids P place a b → Gains ids Q place a b
gains_weaker ids P Q place a b weaker f = record {
  only = λ k i h. elim (f.only k i h) [ inl was ↦ inl was | inr new ↦ inr (new.0, (new.1.0, weaker (question ids k) new.1.1)) ];
  keeps = f.keeps;
  rises = λ k n h r. f.rises k n (λ p. h (weaker (question ids k) p)) r;
}

-- one key
pub gains_one : (ids : InternerData) (P : Question → Type 0) (key : Key) (place : ℕ) (a b : Key → List ℕ) → IsKey ids key → P (question ids key) → AddsAt key place a b → Gains ids P place a b
gains_one ids P key place a b known holds f = record {
  only = λ k i h. elim (f.only k i h) [
    | inl was ↦ inl was
    | inr new ↦ inr (new.0, (subst (λ (j : Key). IsKey ids j) (sym new.1) known, subst (λ (j : Key). P (question ids j)) (sym new.1) holds))
  ];
  keeps = f.keeps;
  rises = λ k n h r. f.rises k n (λ e. h (subst (λ (j : Key). P (question ids j)) (sym e) holds)) r;
}

-- what is listed stays listed
pub still_listed : (ids : InternerData) (P : Question → Type 0) (place i : ℕ) (a b : Key → List ℕ) (q : Question) → Gains ids P place a b → IsListed ids a i q → IsListed ids b i q
still_listed ids P place i a b q f h = record { key = h.key; known = h.known; for = h.for; among = f.keeps h.key i h.among }

-- the keys of the first n types of a set have the place
pub record SoFar (ids : InternerData) (key : ℕ → Key) (P : Question → Type 0) (members : List ℕ) (place n : ℕ) (old new : Key → List ℕ) : Type 0 where
  pub gains : Gains ids P place old new
  pub there : (k : ℕ) → k < n → Contains (new (key (get_or members k 0))) place

pub set_none : (ids : InternerData) (key : ℕ → Key) (P : Question → Type 0) (members : List ℕ) (place : ℕ) (old : Key → List ℕ) → SoFar ids key P members place 0 old old
set_none ids key P members place old = record { gains = gains_nothing ids P place old; there = λ k lt. absurd (omega arith) }

module _ (ids : InternerData) (key : ℕ → Key) (known : (t : ℕ) → t < length ids.types → IsKey ids (key t)) (P : Question → Type 0) (members : List ℕ)
    (range : All (λ t. t < length ids.types) members) (place : ℕ) where
  module _ (holds : (t : ℕ) → Contains members t → P (question ids (key t))) (n t : ℕ) (lt : n < length members) (is : t ≡ get_or members n t) (old mid new : Key → List ℕ)
      (was : SoFar ids key P members place n old mid) (adds : AddsAt (key t) place mid new) where
    pub set_stopped : Gains ids P place old new
    set_stopped = gains_then ids P P P place old mid new (λ q h. h) (λ q h. h) was.gains
        (gains_one ids P (key t) place mid new (known t (subst (λ s. s < length ids.types) (sym is) (range n t lt))) (holds t (n, lt, sym is)) adds)

    pub set_more : Contains (new (key t)) place → SoFar ids key P members place (n + 1) old new
    set_more there = record {
      gains = set_stopped;
      there = λ k less. elim (cases_lt k n) [
        | inl before ↦ adds.keeps (key (get_or members k 0)) place (was.there k before)
        | inr last ↦
            let same : k ≡ n = omega arith in
            let e : t ≡ get_or members k 0 = is ∙ (get_or_default members n t 0 lt ∙ ap (λ j. get_or members j 0) (sym same)) in
            subst (λ s. Contains (new (key s)) place) e there
      ];
    }

  pub set_all : (n : ℕ) (old new : Key → List ℕ) → length members ≤ n → SoFar ids key P members place n old new → (t : ℕ) → Contains members t → IsListed ids new place (question ids (key t))
  set_all n old new long f t h = record {
    key = key t;
    known = subst (λ s. IsKey ids (key s)) h.2 (known (get_or members h.0 t) (range h.0 t h.1));
    for = refl;
    among = subst (λ s. Contains (new (key s)) place) (get_or_default members h.0 0 t h.1 ∙ h.2) (f.there h.0 (omega (arith, h.1)));
  }

-- a type of a set has a number among the members
pub member_of : (ids : InternerData) (members : List ℕ) (s : List TypeTree) → map (type_of_id ids) members ≡ s → (a : TypeTree) → Contains s a → (t : ℕ) × (Contains members t × (type_of_id ids t ≡ a))
member_of ids members s is a h =
    let g = subst (λ (xs : List TypeTree). Contains xs a) (sym is) h in
    let lt : g.0 < length members = omega (arith, length-map members (type_of_id ids), g.1) in
    let t = get_or members g.0 0 in
    (t, ((g.0, lt, get_or_default members g.0 t 0 lt), sym (get_or-map (type_of_id ids) members g.0 0 a lt) ∙ g.2))

pub member_in : (ids : InternerData) (members : List ℕ) (s : List TypeTree) → map (type_of_id ids) members ≡ s → (t : ℕ) → Contains members t → Contains s (type_of_id ids t)
member_in ids members s is t h =
    subst (λ (xs : List TypeTree). Contains xs (type_of_id ids t)) is
    (h.0, omega (arith, length-map members (type_of_id ids), h.1), get_or-map (type_of_id ids) members h.0 t (type_of_id ids t) h.1 ∙ ap (type_of_id ids) h.2)

pub asked_all : (ids : InternerData) (members : List ℕ) (s : List TypeTree) → map (type_of_id ids) members ≡ s → (point j place : ℕ) (new : Key → List ℕ)
    → ((t : ℕ) → Contains members t → IsListed ids new place (question ids (Asking point j t))) → ListsAll ids (AsksAt point j s) place new
asked_all ids members s is point j place new all (asks p i a) h =
    let m = member_of ids members s is a h.1.1 in
    subst (λ (q : Question). IsListed ids new place q) (λ k. asks (sym h.0 k) (sym h.1.0 k) (m.1.1 k)) (all m.0 m.1.0)
asked_all ids members s is point j place new all (here p) h = absurd h
asked_all ids members s is point j place new all (typed p a) h = absurd h
asked_all ids members s is point j place new all (takes p i a) h = absurd h

pub taken_all : (ids : InternerData) (members : List ℕ) (s : List TypeTree) → map (type_of_id ids) members ≡ s → (point j place : ℕ) (new : Key → List ℕ)
    → ((t : ℕ) → Contains members t → IsListed ids new place (question ids (Taking point j t))) → ListsAll ids (TakesAt point j s) place new
taken_all ids members s is point j place new all (takes p i a) h =
    let m = member_of ids members s is a h.1.1 in
    subst (λ (q : Question). IsListed ids new place q) (λ k. takes (sym h.0 k) (sym h.1.0 k) (m.1.1 k)) (all m.0 m.1.0)
taken_all ids members s is point j place new all (here p) h = absurd h
taken_all ids members s is point j place new all (typed p a) h = absurd h
taken_all ids members s is point j place new all (asks p i a) h = absurd h
