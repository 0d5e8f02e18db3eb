-- A place in the lists of all that its entry answers.
use Rattle.std.proofs.Common.{◌≡◌, refl, sym, ◌∙◌, ap, subst, ℕ, zero, suc, ◌+◌, ◌<◌, ◌≤◌, List, length, get_or, slice_get, Some, option_map, arith, inl, inr, Contains, All, ◌⊎◌}
use Rattle.std.specs.List.Sorted.{IsStrictlyIncreasing}
use Rattle.std.proofs.lemmas.Bool.{cases_lt}
use Rattle.std.proofs.lemmas.List.Elements.{Contains-get_or}
use Rattle.std.proofs.lemmas.List.Kept.{AllPairs-from_increasing}
use Rattle.std.proofs.lemmas.Option.{slice_get-get_or, get_or_from_slice_get, slice_get-map, same_Some}
use Rattle.hs_scheme.proofs.Lists.{slice_get-read}
use Rattle.hs_table.specs.Types.{TypeTree}
use Rattle.hs_table.specs.Entries.{EntryData}
use Rattle.hs_types.specs.Interned.{InternerData, RowData, type_of_id, IsRow, entry_of, IsInterner}
use Rattle.hs_types.proofs.Numbers.{same_type}
use Rattle.hs_replica.specs.declared.key.Key.{Key}
use Rattle.hs_replica.specs.declared.key.Key.TheVariants.{At, Typed, Asking, Taking}
use Rattle.hs_replica.specs.Places.{Question, here, typed, asks, takes, IsFirst, Meets, Answers}
use Rattle.hs_replica.specs.Index.{log_of, question, reach, IsKey, RisesTo, IsListed, IsIndex, IsNextTyped, AddsAt, Gains, ListsAll, OfTypes, TakesBy, TakesFirst}
use Rattle.hs_replica.proofs.SetLemmas.{gains_then, gains_weaker, gains_one, still_listed}

-- the first of an ascending list is the least
pub first_least : (xs : List ℕ) (x y : ℕ) → IsStrictlyIncreasing xs → slice_get xs 0 ≡ Some x → Contains xs y → x ≤ y
first_least xs x y up first (zero, lt, e) = omega (arith, sym (get_or_from_slice_get xs 0 x y first) ∙ e)
first_least xs x y up first (suc k, lt, e) =
    let below : get_or xs 0 y < get_or xs (suc k) y = AllPairs-from_increasing xs up 0 (suc k) y (omega arith) lt in
    omega (arith, below, e, get_or_from_slice_get xs 0 x y first)

-- what begins a list that isn't empty
pub begins_by : (xs : List ℕ) (y : ℕ) → Contains xs y → (x : ℕ) × ((slice_get xs 0 ≡ Some x) × Contains xs x)
begins_by xs y (k, lt, e) = (get_or xs 0 0, (slice_get-get_or xs 0 0 (omega arith), Contains-get_or xs 0 0 (omega arith)))

-- what a row's type takes, where it is the first
module _ (ids : InternerData) (row : RowData) (list : Key → List ℕ) (place : ℕ) (new : Key → List ℕ) where
  pub first_gains : slice_get (list (Typed row.point row.ty)) 0 ≡ Some place → (old : Key → List ℕ) → Gains ids (TakesBy row.point (type_of_id ids row.ty)) place old new
      → Gains ids (TakesFirst ids row list place) place old new
  first_gains first old = gains_weaker ids (TakesBy row.point (type_of_id ids row.ty)) (TakesFirst ids row list place) place old new (λ q h. (first, h))

  pub first_all : ListsAll ids (TakesBy row.point (type_of_id ids row.ty)) place new → ListsAll ids (TakesFirst ids row list place) place new
  first_all all q h = all q h.1

  pub later_all : (slice_get (list (Typed row.point row.ty)) 0 ≡ Some place → ⊥) → ListsAll ids (TakesFirst ids row list place) place new
  later_all later q h = absurd (later h.0)

-- a question has one key
pub same_key : (ids : InternerData) → IsInterner ids → (k l : Key) → IsKey ids k → IsKey ids l → question ids k ≡ question ids l → k ≡ l
same_key ids is (At p) (At q) h g e = let point : p ≡ q = (cc) in ap At point
same_key ids is (Typed p t) (Typed q u) h g e =
    let point : p ≡ q = (cc) in
    let same : type_of_id ids t ≡ type_of_id ids u = (cc) in
    λ i. Typed (point i) (same_type ids is t u h g same i)
same_key ids is (Asking p j t) (Asking q k u) h g e =
    let point : p ≡ q = (cc) in
    let number : j ≡ k = (cc) in
    let same : type_of_id ids t ≡ type_of_id ids u = (cc) in
    λ i. Asking (point i) (number i) (same_type ids is t u h g same i)
same_key ids is (Taking p j t) (Taking q k u) h g e =
    let point : p ≡ q = (cc) in
    let number : j ≡ k = (cc) in
    let same : type_of_id ids t ≡ type_of_id ids u = (cc) in
    λ i. Taking (point i) (number i) (same_type ids is t u h g same i)
same_key ids is (At p) (Typed q u) h g e = absurd (cc)
same_key ids is (At p) (Asking q k u) h g e = absurd (cc)
same_key ids is (At p) (Taking q k u) h g e = absurd (cc)
same_key ids is (Typed p t) (At q) h g e = absurd (cc)
same_key ids is (Typed p t) (Asking q k u) h g e = absurd (cc)
same_key ids is (Typed p t) (Taking q k u) h g e = absurd (cc)
same_key ids is (Asking p j t) (At q) h g e = absurd (cc)
same_key ids is (Asking p j t) (Typed q u) h g e = absurd (cc)
same_key ids is (Asking p j t) (Taking q k u) h g e = absurd (cc)
same_key ids is (Taking p j t) (At q) h g e = absurd (cc)
same_key ids is (Taking p j t) (Typed q u) h g e = absurd (cc)
same_key ids is (Taking p j t) (Asking q k u) h g e = absurd (cc)

-- the row of a place and its entry
pub row_known : (ids : InternerData) (rows : List RowData) (place : ℕ) (row : RowData) → place < length rows → row ≡ get_or rows place row → All (IsRow ids) rows → IsRow ids row
row_known ids rows place row lt is all = subst (λ (r : RowData). IsRow ids r) (sym is) (all place row lt)

pub entry_at : (ids : InternerData) (rows : List RowData) (place : ℕ) (row : RowData) → place < length rows → row ≡ get_or rows place row → slice_get (log_of ids rows) place ≡ Some (entry_of ids row)
entry_at ids rows place row lt is = slice_get-map (entry_of ids) rows place ∙ ap (option_map (entry_of ids)) (slice_get-read rows place row lt (sym is))

-- lists reach further over places that they have
pub index_to : (ids : InternerData) (log : List EntryData) (reached later : Question → ℕ) (list : Key → List ℕ) → ((q : Question) → reached q ≤ later q) → ((q : Question) (p : ℕ) → later q ≤ later (here p))
    → ((i : ℕ) (q : Question) → reached q ≤ i → i < later q → Answers log i q → IsListed ids list i q) → IsIndex ids log reached list → IsIndex ids log later list
index_to ids log reached later list le within between was = record {
  known = was.known;
  sound = was.sound;
  complete = λ i q lt a. elim (cases_lt i (reached q)) [ inl before ↦ was.complete i q before a | inr after ↦ between i q after lt a ];
  within = within;
  rises = λ k. let r = was.rises k in let more = le (question ids k) in record { ascending = r.ascending; below = λ j d lt. omega (arith, r.below j d lt, more) };
}

-- An entry's place comes into the lists of the questions of P, which reach up to it.
module _ (ids : InternerData) (log : List EntryData) (place : ℕ) (e : EntryData) (at : slice_get log place ≡ Some e) (reached : Question → ℕ) (P : Question → Type 0)
    (meets : (q : Question) → P q → Meets log place e q) (due : (q : Question) → P q → reached q ≡ place)
    (old new : Key → List ℕ) (was : IsIndex ids log reached old) (gains : Gains ids P place old new) where
  pub index_kept : IsIndex ids log reached new
  index_kept = record {
    known = λ k i h. elim (gains.only k i h) [ inl before ↦ was.known k i before | inr now ↦ now.1.0 ];
    sound = λ k i h. elim (gains.only k i h) [
      | inl before ↦ was.sound k i before
      | inr now ↦ subst (λ j. Answers log j (question ids k)) (sym now.0) (record { entry = e; at = at; meets = meets (question ids k) now.1.1 })
    ];
    complete = λ i q lt a. still_listed ids P place i old new q gains (was.complete i q lt a);
    within = was.within;
    rises = λ k. gains.rises k (reached (question ids k)) (due (question ids k)) (was.rises k);
  }

  answered : ListsAll ids P place new → (i : ℕ) (q : Question) → i ≡ place → (Meets log place e q → P q) → Answers log i q → IsListed ids new i q
  answered all i q same holds a =
      let is : a.entry ≡ e = same_Some a.entry e (sym a.at ∙ (ap (slice_get log) same ∙ at)) in
      subst (λ j. IsListed ids new j q) (sym same)
      (all q (holds (subst (λ j. Meets log j e q) same (subst (λ (d : EntryData). Meets log i d q) is a.meets))))

  -- these then reach beyond it, and all others stay
  pub index_more : ListsAll ids P place new → (later : Question → ℕ) → ((q : Question) (p : ℕ) → later q ≤ later (here p))
      → ((q : Question) → (later q ≡ reached q) ⊎ ((reached q ≡ place) × ((later q ≡ place + 1) × (Meets log place e q → P q)))) → IsIndex ids log later new
  index_more all later within moves = index_to ids log reached later new
      (λ q. elim (moves q) [ inl e ↦ omega (arith, e) | inr m ↦ omega (arith, m.0, m.1.0) ])
      within
      (λ i q after lt a. elim (moves q) [ inl e ↦ absurd (omega (arith, e, after, lt)) | inr m ↦ answered all i q (omega (arith, m.0, m.1.0, after, lt)) m.1.1 a ])
      index_kept

-- the entry stands at this point
abbrev pub IsHere : List EntryData → ℕ → EntryData → Question → Type 0
IsHere log place e (here p) = Meets log place e (here p)
IsHere log place e (typed p a) = ⊥
IsHere log place e (asks p j a) = ⊥
IsHere log place e (takes p j a) = ⊥

module _ (ids : InternerData) (log : List EntryData) (by_type asked : List ℕ) (place : ℕ) (e : EntryData) (at : slice_get log place ≡ Some e)
    (old new : Key → List ℕ) (was : IsIndex ids log (reach by_type asked place) old) (adds : AddsAt (At e.point) place old new) where
  gains : Gains ids (IsHere log place e) place old new
  gains = gains_one ids (IsHere log place e) (At e.point) place old new tt refl adds

  meets : (q : Question) → IsHere log place e q → Meets log place e q
  meets (here p) h = h
  meets (typed p a) h = absurd h
  meets (asks p j a) h = absurd h
  meets (takes p j a) h = absurd h

  due : (q : Question) → IsHere log place e q → reach by_type asked place q ≡ place
  due (here p) h = refl
  due (typed p a) h = absurd h
  due (asks p j a) h = absurd h
  due (takes p j a) h = absurd h

  moves : (q : Question) → (reach by_type asked (place + 1) q ≡ reach by_type asked place q)
      ⊎ ((reach by_type asked place q ≡ place) × ((reach by_type asked (place + 1) q ≡ place + 1) × (Meets log place e q → IsHere log place e q)))
  moves (here p) = inr (refl, (refl, λ m. m))
  moves (typed p a) = inl refl
  moves (asks p j a) = inl refl
  moves (takes p j a) = inl refl

  within : (q : Question) (p : ℕ) → reach by_type asked (place + 1) q ≤ place + 1
  within (here k) p = omega arith
  within (typed k a) p = omega (arith, was.within (typed k a) p)
  within (asks k j a) p = omega (arith, was.within (asks k j a) p)
  within (takes k j a) p = omega (arith, was.within (takes k j a) p)

  all_here : Contains (new (At e.point)) place → ListsAll ids (IsHere log place e) place new
  all_here there (here p) h = record { key = At e.point; known = tt; for = ap here h; among = there }
  all_here there (typed p a) h = absurd h
  all_here there (asks p j a) h = absurd h
  all_here there (takes p j a) h = absurd h

  pub place_kept : IsIndex ids log (reach by_type asked place) new
  place_kept = index_kept ids log place e at (reach by_type asked place) (IsHere log place e) meets due old new was gains

  pub place_more : Contains (new (At e.point)) place → IsIndex ids log (reach by_type asked (place + 1)) new
  place_more there = index_more ids log place e at (reach by_type asked place) (IsHere log place e) meets due old new was gains (all_here there) (reach by_type asked (place + 1)) within moves

-- the entry of a place answers what it meets, and meets what it answers
module _ (log : List EntryData) (place : ℕ) (e : EntryData) (at : slice_get log place ≡ Some e) where
  pub answers : (q : Question) → Meets log place e q → Answers log place q
  answers q m = record { entry = e; at = at; meets = m }

  pub answered_by : (q : Question) → Answers log place q → Meets log place e q
  answered_by q a = subst (λ (d : EntryData). Meets log place d q) (same_Some a.entry e (sym a.at ∙ at)) a.meets

-- the keys of a row's type, one after another
module _ (ids : InternerData) (is : IsInterner ids) (log : List EntryData) (place : ℕ) (row : RowData) (at : slice_get log place ≡ Some (entry_of ids row)) (known : row.ty < length ids.types)
    (old : Key → List ℕ) (was : IsNextTyped ids log place old) where
  abbrev e : EntryData
  e = entry_of ids row

  abbrev ty : TypeTree
  ty = type_of_id ids row.ty

  abbrev Met : Question → Type 0
  Met = OfTypes log place

  upto : was.reached (typed row.point ty) ≡ place
  upto = was.upto e at ty

  module _ (list : Key → List ℕ) (adds : AddsAt (Typed row.point row.ty) place old list) where
    pub typed_gains : Gains ids Met place old list
    typed_gains = gains_one ids Met (Typed row.point row.ty) place old list known (answers log place e at (typed row.point ty) (refl, refl)) adds

    module _ (there : Contains (list (Typed row.point row.ty)) place) where
      abbrev own : List ℕ
      own = list (Typed row.point row.ty)

      own_rises : RisesTo place own
      own_rises = typed_gains.rises (Typed row.point row.ty) place (λ h. refl) (subst (λ (n : ℕ). RisesTo n (old (Typed row.point row.ty))) upto (was.index.rises (Typed row.point row.ty)))

      -- the list of its point and its type begins with it where it is the first
      is_first : slice_get own 0 ≡ Some place → IsFirst log place e
      is_first begins j d lt stands point ty_is =
          let l = was.index.complete j (typed row.point ty) (omega (arith, upto, lt)) (record { entry = d; at = stands; meets = (point, ty_is) }) in
          let k = same_key ids is l.key (Typed row.point row.ty) l.known known l.for in
          let among : Contains own j = typed_gains.keeps (Typed row.point row.ty) j (subst (λ (m : Key). Contains (old m) j) k l.among) in
          omega (arith, first_least own place j own_rises.ascending begins among)

      earlier : (x : ℕ) → IsFirst log place e → x ≤ place → Contains (old (Typed row.point row.ty)) x → x ≡ place
      earlier x first_of_all le h =
          let a = was.index.sound (Typed row.point row.ty) x h in
          elim (cases_lt x place) [
            | inl lt ↦ absurd (first_of_all x a.entry lt a.at a.meets.0 a.meets.1)
            | inr ge ↦ omega arith
          ]

      begins_own : IsFirst log place e → slice_get own 0 ≡ Some place
      begins_own first_of_all =
          let b = begins_by own place there in
          let le : b.0 ≤ place = first_least own b.0 place own_rises.ascending b.1.0 there in
          let same : b.0 ≡ place = elim (typed_gains.only (Typed row.point row.ty) b.0 b.1.1) [ inl before ↦ earlier b.0 first_of_all le before | inr now ↦ now.0 ] in
          b.1.0 ∙ ap (λ x. Some x) same

      takes_met : (q : Question) → TakesFirst ids row list place q → Met q
      takes_met (takes p j a) h = answers log place e at (takes p j a) (sym h.1.0, (h.1.1, is_first h.0))
      takes_met (here p) h = absurd h.1
      takes_met (typed p a) h = absurd h.1
      takes_met (asks p j a) h = absurd h.1

      module _ (new : Key → List ℕ) (firsts : Gains ids (TakesFirst ids row list place) place list new) where
        pub all_gains : Gains ids Met place old new
        all_gains = gains_then ids Met (TakesFirst ids row list place) Met place old list new (λ q h. h) takes_met typed_gains firsts

        pub all_met : ListsAll ids (TakesFirst ids row list place) place new → ListsAll ids Met place new
        all_met all (typed p a) h =
            let m = answered_by log place e at (typed p a) h in
            record {
              key = Typed row.point row.ty;
              known = known;
              for = λ i. typed (m.0 i) (m.1 i);
              among = firsts.keeps (Typed row.point row.ty) place there;
            }
        all_met all (takes p j a) h =
            let m = answered_by log place e at (takes p j a) h in
            all (takes p j a) (begins_own m.1.1, (sym m.0, m.1.0))
        all_met all (here p) h = absurd h
        all_met all (asks p j a) h = absurd h
