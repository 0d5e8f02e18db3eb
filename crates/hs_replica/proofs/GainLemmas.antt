-- Lists of places that gain a place.
use Rattle.std.proofs.Common.{◌≡◌, refl, sym, ◌∙◌, ap, subst, ℕ, zero, suc, ◌<◌, Bool, true, false, nat_eq, ◌&&◌, List, [], ◌∷◌, length, get_or, set, Some, None, Option, unwrap_or, arith, ◌⊎◌, inl, inr, Contains, cond}
use Rattle.std.specs.Bool.{Decides}
use Rattle.std.specs.Map.{lookup}
use Rattle.std.specs.Option.{option_map_or}
use Rattle.std.proofs.lemmas.Bool.{eqb-true, eq-eqb, and_parts}
use Rattle.hs_scheme.proofs.Lists.{slice_get-read}
use Rattle.indexmap.specs.IndexMap.{IndexMap, get}
use Rattle.smallvec.specs.SmallVec.{SmallVec}
use Rattle.hs_replica.specs.declared.lists.Lists.{Lists}
use Rattle.hs_replica.specs.declared.key.Key.{Key}
use Rattle.hs_replica.specs.declared.key.Key.TheVariants.{At, Typed, Asking, Taking}
use Rattle.hs_replica.specs.contracts.key.KeyPartialEq.TheImpl.{eq-value}
use Rattle.hs_replica.specs.Index.{RisesTo, AddsTo, AddsAt, row_at, keyed_at, list_at}

key_true : (a b : Key) → eq-value.it a b ≡ true → a ≡ b
key_true (At p) (At q) h = ap At (eqb-true p q h)
key_true (Typed p t) (Typed q u) h = let e = and_parts (nat_eq p q) (nat_eq t u) h in λ i. Typed (eqb-true p q e.0 i) (eqb-true t u e.1 i)
key_true (Asking p j t) (Asking q k u) h =
    let e = and_parts (nat_eq p q) (nat_eq j k && nat_eq t u) h in
    let f = and_parts (nat_eq j k) (nat_eq t u) e.1 in
    λ i. Asking (eqb-true p q e.0 i) (eqb-true j k f.0 i) (eqb-true t u f.1 i)
key_true (Taking p j t) (Taking q k u) h =
    let e = and_parts (nat_eq p q) (nat_eq j k && nat_eq t u) h in
    let f = and_parts (nat_eq j k) (nat_eq t u) e.1 in
    λ i. Taking (eqb-true p q e.0 i) (eqb-true j k f.0 i) (eqb-true t u f.1 i)
key_true (At p) (Typed q u) h = absurd (cc)
key_true (At p) (Asking q k u) h = absurd (cc)
key_true (At p) (Taking q k u) h = absurd (cc)
key_true (Typed p t) (At q) h = absurd (cc)
key_true (Typed p t) (Asking q k u) h = absurd (cc)
key_true (Typed p t) (Taking q k u) h = absurd (cc)
key_true (Asking p j t) (At q) h = absurd (cc)
key_true (Asking p j t) (Typed q u) h = absurd (cc)
key_true (Asking p j t) (Taking q k u) h = absurd (cc)
key_true (Taking p j t) (At q) h = absurd (cc)
key_true (Taking p j t) (Typed q u) h = absurd (cc)
key_true (Taking p j t) (Asking q k u) h = absurd (cc)

key_own : (a : Key) → eq-value.it a a ≡ true
key_own (At p) = eq-eqb p p refl
key_own (Typed p t) = rw (eq-eqb p p refl, eq-eqb t t refl)
key_own (Asking p j t) = rw (eq-eqb p p refl, eq-eqb j j refl, eq-eqb t t refl)
key_own (Taking p j t) = rw (eq-eqb p p refl, eq-eqb j j refl, eq-eqb t t refl)

key_same : (a b : Key) → Decides (eq-value.it a b) (a ≡ b)
key_same a b = (key_true a b, λ e. subst (λ (c : Key). eq-value.it a c ≡ true) e (key_own a))

adds_same : {K : Type 0} (key : K) (place : ℕ) (old new : K → List ℕ) → ((k : K) → new k ≡ old k) → AddsAt key place old new
adds_same {K} key place old new same = record {
  only = λ k i h. inl (subst (λ (xs : List ℕ). Contains xs i) (same k) h);
  keeps = λ k i h. subst (λ (xs : List ℕ). Contains xs i) (sym (same k)) h;
  rises = λ k n h r. subst (λ (xs : List ℕ). RisesTo n xs) (sym (same k)) r;
}

-- one list gains the place, and all others stay
module _ {K : Type 0} (key : K) (place : ℕ) (old new : K → List ℕ) (to : AddsTo place (old key) (new key)) (same : (k : K) → (new k ≡ old k) ⊎ (k ≡ key)) where
  adds_in : AddsAt key place old new
  adds_in = record {
    only = λ k i h. elim (same k) [
      | inl e ↦ inl (subst (λ (xs : List ℕ). Contains xs i) e h)
      | inr e ↦ elim (to.only i (subst (λ (j : K). Contains (new j) i) e h)) [
        | inl was ↦ inl (subst (λ (j : K). Contains (old j) i) (sym e) was)
        | inr last ↦ inr (last, e)
      ]
    ];
    keeps = λ k i h. elim (same k) [
      | inl e ↦ subst (λ (xs : List ℕ). Contains xs i) (sym e) h
      | inr e ↦ subst (λ (j : K). Contains (new j) i) (sym e) (to.keeps i (subst (λ (j : K). Contains (old j) i) e h))
    ];
    rises = λ k n h r. elim (same k) [
      | inl e ↦ subst (λ (xs : List ℕ). RisesTo n xs) (sym e) r
      | inr e ↦
          let there = subst (λ (m : ℕ). RisesTo m (old key)) (h e) (subst (λ (j : K). RisesTo n (old j)) e r) in
          subst (λ (m : ℕ). RisesTo m (new k)) (sym (h e)) (subst (λ (j : K). RisesTo place (new j)) (sym e) (to.rises there))
    ];
  }

adds_between : (place : ℕ) (a b c d : List ℕ) → a ≡ b → c ≡ d → AddsTo place a c → AddsTo place b d
adds_between place a b c d e f to = subst (λ (xs : List ℕ). AddsTo place b xs) f (subst (λ (xs : List ℕ). AddsTo place xs c) e to)

-- the list of a point is written
row_written : (rows : List (SmallVec ℕ)) (n : ℕ) (w : SmallVec ℕ) → n < length rows → row_at (set rows n w) n ≡ w.items
row_written [] n w lt = absurd (omega arith)
row_written (r ∷ rows) zero w lt = refl
row_written (r ∷ rows) (suc n) w lt = row_written rows n w (omega arith)

row_other : (rows : List (SmallVec ℕ)) (n k : ℕ) (w : SmallVec ℕ) → (k ≡ n → ⊥) → row_at (set rows n w) k ≡ row_at rows k
row_other [] n k w apart = refl
row_other (r ∷ rows) zero zero w apart = absurd (apart refl)
row_other (r ∷ rows) zero (suc k) w apart = refl
row_other (r ∷ rows) (suc n) zero w apart = refl
row_other (r ∷ rows) (suc n) (suc k) w apart = row_other rows n k w (λ e. apart (ap suc e))

module _ (old mid : List (SmallVec ℕ)) (point place : ℕ) (v w : SmallVec ℕ) (same : (p : ℕ) → row_at mid p ≡ row_at old p) (lt : point < length mid) (is : v ≡ get_or mid point v) where
  pub point_added : AddsTo place v.items w.items → AddsAt point place (row_at old) (row_at (set mid point w))
  point_added to = adds_in point place (row_at old) (row_at (set mid point w))
      (adds_between place v.items (row_at old point) w.items (row_at (set mid point w) point) (sym had ∙ same point) (sym (row_written mid point w lt)) to)
      (λ p. by p (nat_eq p point) refl)
    where
      had : row_at mid point ≡ v.items
      had = ap (λ (o : Option (SmallVec ℕ)). option_map_or (λ (x : SmallVec ℕ). x.items) o []) (slice_get-read mid point v lt (sym is))

      by : (p : ℕ) (b : Bool) → nat_eq p point ≡ b → (row_at (set mid point w) p ≡ row_at old p) ⊎ (p ≡ point)
      by p true e = inr (eqb-true p point e)
      by p false e = inl (row_other mid point p w (λ f. let yes = eq-eqb p point f in absurd (cc)) ∙ same p)

  pub point_written : w.items ≡ row_at (set mid point w) point
  point_written = sym (row_written mid point w lt)

-- what a key has, or an empty list
pub had_items : (o : Option (SmallVec ℕ)) (v : SmallVec ℕ) → v.items ≡ [] → (unwrap_or o v).items ≡ option_map_or (λ (x : SmallVec ℕ). x.items) o []
had_items None v none = none
had_items (Some x) v none = refl

-- the list of a key is written
module _ {S : Type 0} (old : IndexMap Key (SmallVec ℕ) S) (new : List (Key × SmallVec ℕ)) (key : Key) (place : ℕ) (v w : SmallVec ℕ) (had : v.items ≡ keyed_at old key)
    (updates : (k : Key) → lookup (eq-value.it k) new ≡ cond (eq-value.it key k) (Some w) (get eq-value.it old k)) where
  abbrev items : Option (SmallVec ℕ) → List ℕ
  items o = option_map_or (λ (x : SmallVec ℕ). x.items) o []

  abbrev now_at : Key → List ℕ
  now_at k = items (lookup (eq-value.it k) new)

  pub key_written : w.items ≡ now_at key
  key_written = sym (ap items (updates key ∙ ap (λ b. cond b (Some w) (get eq-value.it old key)) ((key_same key key).1 refl)))

  pub key_added : AddsTo place v.items w.items → AddsAt key place (keyed_at old) now_at
  key_added to = adds_in key place (keyed_at old) now_at
      (adds_between place v.items (keyed_at old key) w.items (now_at key) had key_written to)
      (λ k. by k (eq-value.it key k) refl)
    where
      by : (k : Key) (b : Bool) → eq-value.it key k ≡ b → (now_at k ≡ keyed_at old k) ⊎ (k ≡ key)
      by k true e = inr (sym ((key_same key k).0 e))
      by k false e = inl (ap items (updates k ∙ ap (λ b. cond b (Some w) (get eq-value.it old k)) e))

-- all lists, of which those of points or the table gain the place
module _ (old new : Lists) (place : ℕ) where
  pub at_adds : (point : ℕ) → new.keyed ≡ old.keyed → AddsAt point place (row_at old.at.items) (row_at new.at.items) → AddsAt (At point) place (list_at old) (list_at new)
  at_adds point same f = record { only = only; keeps = keeps; rises = rises }
    where
      stays : (k : Key) → keyed_at new.keyed k ≡ keyed_at old.keyed k
      stays k = ap (λ m. keyed_at m k) same

      only : (k : Key) (i : ℕ) → Contains (list_at new k) i → Contains (list_at old k) i ⊎ ((i ≡ place) × (k ≡ At point))
      only (At p) i h = elim (f.only p i h) [ inl was ↦ inl was | inr last ↦ inr (last.0, ap At last.1) ]
      only (Typed p t) i h = inl (subst (λ (xs : List ℕ). Contains xs i) (stays (Typed p t)) h)
      only (Asking p j t) i h = inl (subst (λ (xs : List ℕ). Contains xs i) (stays (Asking p j t)) h)
      only (Taking p j t) i h = inl (subst (λ (xs : List ℕ). Contains xs i) (stays (Taking p j t)) h)

      keeps : (k : Key) (i : ℕ) → Contains (list_at old k) i → Contains (list_at new k) i
      keeps (At p) i h = f.keeps p i h
      keeps (Typed p t) i h = subst (λ (xs : List ℕ). Contains xs i) (sym (stays (Typed p t))) h
      keeps (Asking p j t) i h = subst (λ (xs : List ℕ). Contains xs i) (sym (stays (Asking p j t))) h
      keeps (Taking p j t) i h = subst (λ (xs : List ℕ). Contains xs i) (sym (stays (Taking p j t))) h

      rises : (k : Key) (n : ℕ) → (k ≡ At point → n ≡ place) → RisesTo n (list_at old k) → RisesTo n (list_at new k)
      rises (At p) n h r = f.rises p n (λ e. h (ap At e)) r
      rises (Typed p t) n h r = subst (λ (xs : List ℕ). RisesTo n xs) (sym (stays (Typed p t))) r
      rises (Asking p j t) n h r = subst (λ (xs : List ℕ). RisesTo n xs) (sym (stays (Asking p j t))) r
      rises (Taking p j t) n h r = subst (λ (xs : List ℕ). RisesTo n xs) (sym (stays (Taking p j t))) r

  pub keyed_adds : (key : Key) → new.at.items ≡ old.at.items → AddsAt key place (keyed_at old.keyed) (keyed_at new.keyed) → AddsAt key place (list_at old) (list_at new)
  keyed_adds key same f = record { only = only; keeps = keeps; rises = rises }
    where
      stays : (p : ℕ) → row_at new.at.items p ≡ row_at old.at.items p
      stays p = ap (λ rows. row_at rows p) same

      only : (k : Key) (i : ℕ) → Contains (list_at new k) i → Contains (list_at old k) i ⊎ ((i ≡ place) × (k ≡ key))
      only (At p) i h = inl (subst (λ (xs : List ℕ). Contains xs i) (stays p) h)
      only (Typed p t) i h = f.only (Typed p t) i h
      only (Asking p j t) i h = f.only (Asking p j t) i h
      only (Taking p j t) i h = f.only (Taking p j t) i h

      keeps : (k : Key) (i : ℕ) → Contains (list_at old k) i → Contains (list_at new k) i
      keeps (At p) i h = subst (λ (xs : List ℕ). Contains xs i) (sym (stays p)) h
      keeps (Typed p t) i h = f.keeps (Typed p t) i h
      keeps (Asking p j t) i h = f.keeps (Asking p j t) i h
      keeps (Taking p j t) i h = f.keeps (Taking p j t) i h

      rises : (k : Key) (n : ℕ) → (k ≡ key → n ≡ place) → RisesTo n (list_at old k) → RisesTo n (list_at new k)
      rises (At p) n h r = subst (λ (xs : List ℕ). RisesTo n xs) (sym (stays p)) r
      rises (Typed p t) n h r = f.rises (Typed p t) n h r
      rises (Asking p j t) n h r = f.rises (Asking p j t) n h r
      rises (Taking p j t) n h r = f.rises (Taking p j t) n h r

-- the list of a key that is not a point's stands in the table
pub in_table : (lists : Lists) (key : Key) → ((p : ℕ) → key ≡ At p → ⊥) → keyed_at lists.keyed key ≡ list_at lists key
in_table lists (At p) apart = absurd (apart p refl)
in_table lists (Typed p t) apart = refl
in_table lists (Asking p j t) apart = refl
in_table lists (Taking p j t) apart = refl

-- no list has a place
pub nothing_listed : (lists : Lists) → lists.at.items ≡ [] → lists.keyed.entries ≡ [] → (k : Key) → list_at lists k ≡ []
nothing_listed lists at keyed (At p) = ap (λ rows. row_at rows p) at
nothing_listed lists at keyed (Typed p t) = ap (λ es. option_map_or (λ (x : SmallVec ℕ). x.items) (lookup (eq-value.it (Typed p t)) es) []) keyed
nothing_listed lists at keyed (Asking p j t) = ap (λ es. option_map_or (λ (x : SmallVec ℕ). x.items) (lookup (eq-value.it (Asking p j t)) es) []) keyed
nothing_listed lists at keyed (Taking p j t) = ap (λ es. option_map_or (λ (x : SmallVec ℕ). x.items) (lookup (eq-value.it (Taking p j t)) es) []) keyed
