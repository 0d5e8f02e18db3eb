-- How far the places of one point are reached, as to questions of one kind about it.
use Rattle.std.proofs.Common.{◌≡◌, refl, sym, ◌∙◌, ap, subst, ℕ, ◌+◌, ◌<◌, ◌≤◌, Bool, true, false, nat_eq, List, length, get_or, set, slice_get, Some, arith, ◌⊎◌, inl, inr, Contains}
use Rattle.std.proofs.lemmas.Bool.{eqb-true, eq-eqb}
use Rattle.std.proofs.lemmas.List.{get_or-set_same, get_or-set_other, get_or_default}
use Rattle.hs_table.specs.Entries.{EntryData}
use Rattle.hs_types.specs.Interned.{InternerData, IsInterner}
use Rattle.hs_replica.specs.declared.key.Key.{Key}
use Rattle.hs_replica.specs.declared.key.Key.TheVariants.{At}
use Rattle.hs_replica.specs.Places.{Question, here, typed, asks, takes, Meets, Answers}
use Rattle.hs_replica.specs.Index.{reach, IsIndex, HasAsked, Gains, ListsAll}
use Rattle.hs_replica.proofs.RowLemmas.{same_key, index_to, index_more}

-- questions about the types of entries at the point, and about what they ask for
abbrev pub TypesOf : ℕ → Question → Type 0
TypesOf point (here p) = ⊥
TypesOf point (typed p a) = p ≡ point
TypesOf point (asks p j a) = ⊥
TypesOf point (takes p j a) = p ≡ point

abbrev pub AsksOf : ℕ → Question → Type 0
AsksOf point (here p) = ⊥
AsksOf point (typed p a) = ⊥
AsksOf point (asks p j a) = p ≡ point
AsksOf point (takes p j a) = ⊥

-- an entry that answers one stands at the point
abbrev pub Stand : List EntryData → ℕ → (Question → Type 0) → Type 0
Stand log point K = (i : ℕ) (q : Question) → K q → Answers log i q → Answers log i (here point)

pub types_stand : (log : List EntryData) (point : ℕ) → Stand log point (TypesOf point)
types_stand log point i (typed p a) of h = record { entry = h.entry; at = h.at; meets = h.meets.0 ∙ of }
types_stand log point i (takes p j a) of h = record { entry = h.entry; at = h.at; meets = h.meets.0 ∙ of }
types_stand log point i (here p) of h = absurd of
types_stand log point i (asks p j a) of h = absurd of

pub asks_stand : (log : List EntryData) (point : ℕ) → Stand log point (AsksOf point)
asks_stand log point i (asks p j a) of h = record { entry = h.entry; at = h.at; meets = h.meets.0 ∙ of }
asks_stand log point i (here p) of h = absurd of
asks_stand log point i (typed p a) of h = absurd of
asks_stand log point i (takes p j a) of h = absurd of

-- questions of this kind move from one number to another, and the others stay
abbrev pub Moves : (Question → Type 0) → ℕ → ℕ → (Question → ℕ) → (Question → ℕ) → Type 0
Moves K from m reached later = (q : Question) → (later q ≡ reached q) ⊎ (K q × ((reached q ≡ from) × (later q ≡ m)))

-- a number that is read
pub number_read : (xs : List ℕ) (point from : ℕ) → point < length xs → from ≡ get_or xs point from → get_or xs point 0 ≡ from
number_read xs point from lt read = sym (read ∙ get_or_default xs point from 0 lt)

-- the number of one point is written
module _ (xs : List ℕ) (point from m : ℕ) (lt : point < length xs) (read : from ≡ get_or xs point from) where
  number_moves : (p : ℕ) → (get_or (set xs point m) p 0 ≡ get_or xs p 0) ⊎ ((p ≡ point) × ((get_or xs p 0 ≡ from) × (get_or (set xs point m) p 0 ≡ m)))
  number_moves p = by (nat_eq p point) refl
    where
      by : (b : Bool) → nat_eq p point ≡ b → (get_or (set xs point m) p 0 ≡ get_or xs p 0) ⊎ ((p ≡ point) × ((get_or xs p 0 ≡ from) × (get_or (set xs point m) p 0 ≡ m)))
      by true e =
          let is = eqb-true p point e in
          inr (is, (ap (λ k. get_or xs k 0) is ∙ number_read xs point from lt read, ap (λ k. get_or (set xs point m) k 0) is ∙ get_or-set_same xs point m 0 lt))
      by false e = inl (get_or-set_other xs point p m 0 (λ f. let yes = eq-eqb p point f in absurd (cc)))

  pub number_grows : from ≤ m → (p : ℕ) → get_or xs p 0 ≤ get_or (set xs point m) p 0
  number_grows le p = elim (number_moves p) [ inl e ↦ omega (arith, e) | inr w ↦ omega (arith, w.1.0, w.1.1, le) ]

  pub types_move : (asked : List ℕ) (n : ℕ) → Moves (TypesOf point) from m (reach xs asked n) (reach (set xs point m) asked n)
  types_move asked n (here p) = inl refl
  types_move asked n (typed p a) = number_moves p
  types_move asked n (asks p j a) = inl refl
  types_move asked n (takes p j a) = number_moves p

  pub asks_move : (by_type : List ℕ) (n : ℕ) → Moves (AsksOf point) from m (reach by_type xs n) (reach by_type (set xs point m) n)
  asks_move by_type n (here p) = inl refl
  asks_move by_type n (typed p a) = inl refl
  asks_move by_type n (asks p j a) = number_moves p
  asks_move by_type n (takes p j a) = inl refl

-- what was written is read
pub number_written : (xs : List ℕ) (point m : ℕ) → point < length xs → m ≡ get_or (set xs point m) point m
number_written xs point m lt = sym (get_or-set_same xs point m m lt)

module _ (ids : InternerData) (log : List EntryData) (by_type asked : List ℕ) (n : ℕ) (list : Key → List ℕ) (was : IsIndex ids log (reach by_type asked n) list) where
  -- numbers that say the same
  pub index_same : (types later : List ℕ) → ((p : ℕ) → get_or types p 0 ≡ get_or by_type p 0) → ((p : ℕ) → get_or later p 0 ≡ get_or asked p 0) → IsIndex ids log (reach types later n) list
  index_same types later first second = index_to ids log (reach by_type asked n) (reach types later n) list (λ q. omega (arith, equal q)) (λ q p. omega (arith, equal q, was.within q p))
      (λ i q after lt a. absurd (omega (arith, equal q, after, lt))) was
    where
      equal : (q : Question) → reach types later n q ≡ reach by_type asked n q
      equal (here p) = refl
      equal (typed p a) = first p
      equal (asks p j a) = second p
      equal (takes p j a) = first p

  -- no entry of the point stands between
  pub index_skip : (K : Question → Type 0) (point from m : ℕ) (types later : List ℕ) → Stand log point K → Moves K from m (reach by_type asked n) (reach types later n) → from ≤ m → m ≤ n
      → ((i : ℕ) → from ≤ i → i < m → Answers log i (here point) → ⊥) → IsIndex ids log (reach types later n) list
  index_skip K point from m types later stand moves le within none = index_to ids log (reach by_type asked n) (reach types later n) list
      (λ q. elim (moves q) [ inl e ↦ omega (arith, e) | inr w ↦ omega (arith, w.1.0, w.1.1, le) ])
      (λ q p. elim (moves q) [ inl e ↦ omega (arith, e, was.within q p) | inr w ↦ omega (arith, w.1.1, within) ])
      (λ i q after less a. elim (moves q) [
        | inl e ↦ absurd (omega (arith, e, after, less))
        | inr w ↦
            let low : from ≤ i = omega (arith, w.1.0, after) in
            let high : i < m = omega (arith, w.1.1, less) in
            absurd (none i low high (stand i q w.0 a))
      ])
      was

  -- what is asked about the place that comes next is listed
  pub index_next : (K P : Question → Type 0) (place : ℕ) (e : EntryData) (types later : List ℕ) → slice_get log place ≡ Some e → ((q : Question) → P q → Meets log place e q)
      → ((q : Question) → P q → reach by_type asked n q ≡ place) → ((q : Question) → K q → Meets log place e q → P q) → Moves K place (place + 1) (reach by_type asked n) (reach types later n) → place < n
      → (new : Key → List ℕ) → Gains ids P place list new → ListsAll ids P place new → IsIndex ids log (reach types later n) new
  index_next K P place e types later at meets due each moves lt new gains all = index_more ids log place e at (reach by_type asked n) P meets due list new was gains all (reach types later n)
      (λ q p. elim (moves q) [ inl same ↦ omega (arith, same, was.within q p) | inr w ↦ omega (arith, w.1.1, lt) ])
      (λ q. elim (moves q) [ inl same ↦ inl same | inr w ↦ inr (w.1.0, (w.1.1, each q w.0)) ])

  module _ (is : IsInterner ids) (point : ℕ) where
    here_has : (i : ℕ) → i < n → Answers log i (here point) → Contains (list (At point)) i
    here_has i lt a = let l = was.complete i (here point) lt a in subst (λ (k : Key). Contains (list k) i) (same_key ids is l.key (At point) l.known tt l.for) l.among

    -- from a number on, the first place of the point and none before it, or none at all
    pub none_before : (from place : ℕ) → place < n → ((i : ℕ) → Contains (list (At point)) i → from ≤ i → i < n → place ≤ i) → (i : ℕ) → from ≤ i → i < place → Answers log i (here point) → ⊥
    none_before from place lt first i low before a =
        let less : i < n = omega (arith, lt, before) in
        absurd (omega (arith, first i (here_has i less a) low less, before))

    pub none_behind : (from : ℕ) → ((i : ℕ) → Contains (list (At point)) i → i < n → i < from) → (i : ℕ) → from ≤ i → i < n → Answers log i (here point) → ⊥
    none_behind from none i low lt a = absurd (omega (arith, none i (here_has i lt a) lt, low))

    -- all places are reached
    pub all_asked : ((i : ℕ) → Contains (list (At point)) i → i < n → i < get_or asked point 0) → HasAsked ids log n point list
    all_asked none i j a lt h = was.complete i (asks point j a) (none i (here_has i lt (asks_stand log point i (asks point j a) refl h)) lt) h

    -- the place that comes next is reached
    pub next_reached : (from place : ℕ) → (from ≤ place) × ((place < n) × Contains (list (At point)) place) → ((i : ℕ) → Contains (list (At point)) i → from ≤ i → i < n → place ≤ i) → (K : Question → Type 0) → Stand log point K
        → (types later : List ℕ) → Moves K from place (reach by_type asked n) (reach types later n) → IsIndex ids log (reach types later n) list
    next_reached from place there first K stand types later moves = index_skip K point from place types later stand moves there.0 (omega (arith, there.1.0)) (none_before from place there.1.0 first)
