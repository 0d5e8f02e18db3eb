-- The candidates for slots, found in a log.
use Rattle.std.proofs.Common.{◌≡◌, refl, sym, ◌∙◌, ap, subst, ℕ, zero, suc, ◌+◌, ◌<◌, ◌≤◌, List, [], ◌∷◌, ◌++◌, length, map, take, get_or, slice_get, Option, Some, None, true, false, arith, append_assoc, Contains, inl, inr, ltb, ◌↔◌}
use Rattle.std.specs.List.Sorted.{IsStrictlyIncreasing, IsPartitionPoint}
use Rattle.std.proofs.lemmas.List.Kept.{AllPairs-from_increasing}
use Rattle.std.proofs.lemmas.List.{map-append, append-nil, length-take-le, length-map, get_or-map}
use Rattle.std.proofs.lemmas.Bool.{cases_lt, cases_order, ltb-true, ltb-false}
use Rattle.std.proofs.lemmas.Option.{get_or_from_slice_get, slice_get-get_or, same_Some}
use Rattle.hs_scheme.proofs.Lists.{none_in, here, later, uncons, Contains-at, only}
use Rattle.hs_table.specs.Types.{TypeTree, state}
use Rattle.hs_table.specs.Entries.{Env, EntryData, set_at, entry_at}
use Rattle.hs_table_laws.proofs.Places.{place_of, at_take, to_take, within_from}
use Rattle.hs_table_laws.proofs.Members.{taken_next}
use Rattle.hs_types.specs.Interned.{InternerData, type_of_id, set_of_id}
use Rattle.hs_replica.specs.Places.{typed, ArePlaces}
use Rattle.hs_rules.specs.declared.search.Fixed.{Fixed}
use Rattle.hs_rules.specs.Slots.{SlotData, slots_of, slots, FixedData, FilledData, Respects, IsCandidate, Picked, none_left, pick}
use Rattle.hs_rules.specs.Filling.{fixed_of, IsFilled, AreFilled, GainsFilled, LacksCandidate, LacksSlot, IsWithin}
use Rattle.hs_rules.specs.Shut.{AreShut}
use Rattle.hs_rules.proofs.Lists.{read_other}
use Rattle.hs_rules.proofs.SlotLemmas.{into_slots}

-- the places below the limit begin the list
module _ (places : List ℕ) (limit k : ℕ) (point : IsPartitionPoint (λ y. ltb y limit ≡ true) (λ y. ltb y limit ≡ false) places k) where
  from_begin : (place : ℕ) → Contains (take k places) place → Contains places place × (place < limit)
  from_begin place c =
      let p = place_of (take k places) place c in
      let q = at_take k places p.0 place p.1 in
      let low = ltb-true (get_or places p.0 0) limit (point.0 p.0 0 (omega arith) q.0) in
      (Contains-at places p.0 place q.1, subst (λ (n : ℕ). n < limit) (get_or_from_slice_get places p.0 place 0 q.1) low)

  into_begin : (place : ℕ) → Contains places place × (place < limit) → Contains (take k places) place
  into_begin place h =
      let p = place_of places place h.0 in
      let before : p.0 < k = elim (cases_lt p.0 k) [
        | inl less ↦ less
        | inr more ↦ absurd (let high = ltb-false (get_or places p.0 0) limit (point.1 p.0 0 more (within_from places p.0 place p.1)) in omega (arith, high, get_or_from_slice_get places p.0 place 0 p.1, h.1))
      ] in
      Contains-at (take k places) p.0 place (to_take k places p.0 place before p.1)

  pub begin_is : (place : ℕ) → Contains (take k places) place ↔ (Contains places place × (place < limit))
  begin_is place = (from_begin place, into_begin place)

-- a list that begins an ascending one ascends, and so does a list of one
pub begin_ascends : (k : ℕ) (xs : List ℕ) → IsStrictlyIncreasing xs → IsStrictlyIncreasing (take k xs)
begin_ascends k xs rises = λ i lt.
    let a = slice_get-get_or (take k xs) i 0 (omega (arith, lt)) in
    let b = slice_get-get_or (take k xs) (i + 1) 0 lt in
    let p = at_take k xs i (get_or (take k xs) i 0) a in
    let q = at_take k xs (i + 1) (get_or (take k xs) (i + 1) 0) b in
    let x = get_or_from_slice_get xs i (get_or (take k xs) i 0) 0 p.1 in
    let y = get_or_from_slice_get xs (i + 1) (get_or (take k xs) (i + 1) 0) 0 q.1 in
    let up = rises i (within_from xs (i + 1) (get_or (take k xs) (i + 1) 0) q.1) in
    omega (arith, x, y, up)

pub one_ascends : (x : ℕ) → IsStrictlyIncreasing (x ∷ [])
one_ascends x i lt = absurd (omega (arith, lt))

-- nothing fixed stands in the way
module _ (log : List EntryData) (o : Option Fixed) (arg point : ℕ) (ty : TypeTree) (place : ℕ) where
  abbrev Free : Type 0
  Free = Respects (fixed_of log o) (record { arg = arg; point = point; ty = ty }) place

  pub free_none : o ≡ None → Free
  free_none e = subst (λ (x : Option Fixed). Respects (fixed_of log x) (record { arg = arg; point = point; ty = ty }) place) (sym e) tt

  pub free_arg : (f : Fixed) → o ≡ Some f → (f.arg ≡ arg → ⊥) → Free
  free_arg f e ne = subst (λ (x : Option Fixed). Respects (fixed_of log x) (record { arg = arg; point = point; ty = ty }) place) (sym e) (λ a t. absurd (ne (sym a)))

  pub free_type : (f : Fixed) → o ≡ Some f → ((entry_at log f.place).ty ≡ ty → ⊥) → Free
  free_type f e ne = subst (λ (x : Option Fixed). Respects (fixed_of log x) (record { arg = arg; point = point; ty = ty }) place) (sym e) (λ a t. absurd (ne (sym t)))

-- the places of a look-up below the limit are the candidates
pub free_candidates : (log : List EntryData) (n limit arg point : ℕ) (ty : TypeTree) (fixed : Option FixedData) (places out : List ℕ) → n ≡ length log → limit ≤ length log
    → ((place : ℕ) → Respects fixed (record { arg = arg; point = point; ty = ty }) place) → ArePlaces log n (typed point ty) places
    → ((place : ℕ) → Contains out place ↔ (Contains places place × (place < limit)))
    → (place : ℕ) → Contains out place ↔ ((e : EntryData) × IsCandidate (take limit log) fixed (record { arg = arg; point = point; ty = ty }) place e)
free_candidates log n limit arg point ty fixed places out indexed limited free are below place = (
  λ c.
      let b = (below place).0 c in
      let a = ((are.exact place).0 b.0).1 in
      (a.entry, record { at = to_take limit log place a.entry b.1 a.at; point = a.meets.0; ty = a.meets.1; respects = free place }),
  λ (e, c).
      let t = at_take limit log place e c.at in
      let w = within_from log place e t.1 in
      let lt : place < n = omega (arith, w, indexed) in
      (below place).1 ((are.exact place).1 (lt, record { entry = e; at = t.1; meets = (c.point, c.ty) }), t.0),
)

-- slots that are filled one after another
pub filled_append : (E : List EntryData) (fixed : Option FixedData) (ss ts : List SlotData) (fs gs : List FilledData) → AreFilled E fixed ss fs → AreFilled E fixed ts gs → AreFilled E fixed (ss ++ ts) (fs ++ gs)
filled_append E fixed [] ts [] gs h k = k
filled_append E fixed [] ts (f ∷ fs) gs h k = absurd h
filled_append E fixed (s ∷ ss) ts [] gs h k = absurd h
filled_append E fixed (s ∷ ss) ts (f ∷ fs) gs h k = (h.0, filled_append E fixed ss ts fs gs h.1 k)

pub gains_then : (E : List EntryData) (fixed : Option FixedData) (ss ts : List SlotData) (old mid new : List FilledData) → GainsFilled E fixed ss old mid → GainsFilled E fixed ts mid new → GainsFilled E fixed (ss ++ ts) old new
gains_then E fixed ss ts old mid new g h = record {
  added = g.added ++ h.added;
  is = h.is ∙ (ap (λ (xs : List FilledData). xs ++ h.added) g.is ∙ append_assoc old g.added h.added);
  filled = filled_append E fixed ss ts g.added h.added g.filled h.filled;
}

pub gains_one : (E : List EntryData) (fixed : Option FixedData) (s : SlotData) (old new : List FilledData) (f : FilledData) → new ≡ old ++ f ∷ [] → IsFilled E fixed s f → GainsFilled E fixed (s ∷ []) old new
gains_one E fixed s old new f is h = record { added = f ∷ []; is = is; filled = (h, tt) }

slots_of-append : (i u : ℕ) (xs ys : List TypeTree) → slots_of i u (xs ++ ys) ≡ slots_of i u xs ++ slots_of i u ys
slots_of-append i u [] ys = refl
slots_of-append i u (x ∷ xs) ys = ap (λ (ss : List SlotData). (let s : SlotData = record { arg = i; point = u; ty = x } in s) ∷ ss) (slots_of-append i u xs ys)

-- one more type of a set
pub next_of_types : (i u k : ℕ) (s : List TypeTree) (a : TypeTree) → k < length s → a ≡ get_or s k a → slots_of i u (take (k + 1) s) ≡ slots_of i u (take k s) ++ (record { arg = i; point = u; ty = a }) ∷ []
next_of_types i u k s a lt is = ap (slots_of i u) (taken_next s k a lt is) ∙ slots_of-append i u (take k s) (a ∷ [])

-- a member of a set by its place
module _ (I : InternerData) (members : List ℕ) (s : List TypeTree) (are : map (type_of_id I) members ≡ s) where
  pub members_long : length members ≡ length s
  members_long = sym (length-map members (type_of_id I)) ∙ ap (λ (xs : List TypeTree). length xs) are

  pub member_is : (k t : ℕ) → k < length members → t ≡ get_or members k t → type_of_id I t ≡ get_or s k (type_of_id I t)
  member_is k t lt is = ap (type_of_id I) is ∙ (sym (get_or-map (type_of_id I) members k t (type_of_id I t) lt) ∙ ap (λ (xs : List TypeTree). get_or xs k (type_of_id I t)) are)

slots-append : (i : ℕ) (us : List ℕ) (ss : Env) (u : ℕ) (s : List TypeTree) → length us ≡ length ss → slots i (us ++ u ∷ []) (ss ++ s ∷ []) ≡ slots i us ss ++ slots_of (i + length us) u s
slots-append i [] [] u s long = let z : i ≡ i + 0 = omega arith in append-nil (slots_of i u s) ∙ ap (λ n. slots_of n u s) z
slots-append i [] (t ∷ ss) u s long = absurd (omega arith)
slots-append i (v ∷ us) [] u s long = absurd (omega arith)
slots-append i (v ∷ us) (t ∷ ss) u s long =
    let z : suc i + length us ≡ i + length (v ∷ us) = omega arith in
    ap (λ (xs : List SlotData). slots_of i v t ++ xs) (slots-append (suc i) us ss u s (omega arith) ∙ ap (λ n. slots (suc i) us ss ++ slots_of n u s) z)
    ∙ sym (append_assoc (slots_of i v t) (slots (suc i) us ss) (slots_of (i + length (v ∷ us)) u s))

-- one more argument
pub next_of_args : (I : InternerData) (k : ℕ) (args ids : List ℕ) (u s : ℕ) → length ids ≡ length args → k < length ids → slice_get args k ≡ Some u → s ≡ get_or ids k s
    → slots 0 (take (k + 1) args) (map (set_of_id I) (take (k + 1) ids)) ≡ slots 0 (take k args) (map (set_of_id I) (take k ids)) ++ slots_of k u (set_of_id I s)
next_of_args I k args ids u s long lt at is =
    let small : k < length args = omega (arith, long) in
    let read : u ≡ get_or args k u = sym (get_or_from_slice_get args k u u at) in
    let first = taken_next args k u small read in
    let second = ap (map (set_of_id I)) (taken_next ids k s lt is) ∙ map-append (set_of_id I) (take k ids) (s ∷ []) in
    let many : length (take k args) ≡ k = length-take-le k args (omega arith) in
    let same : length (take k args) ≡ length (map (set_of_id I) (take k ids)) = many ∙ sym (length-map (take k ids) (set_of_id I) ∙ length-take-le k ids (omega arith)) in
    let z : 0 + length (take k args) ≡ k = omega (arith, many) in
    (λ i. slots 0 (first i) (second i)) ∙ (slots-append 0 (take k args) (map (set_of_id I) (take k ids)) u (set_of_id I s) same
    ∙ ap (λ n. slots 0 (take k args) (map (set_of_id I) (take k ids)) ++ slots_of n u (set_of_id I s)) z)

-- the first place of an ascending list isn't below the limit, so none is
pub none_below : (log : List EntryData) (n limit point : ℕ) (ty : TypeTree) (places : List ℕ) → limit ≤ n → ArePlaces log n (typed point ty) places → ((place : ℕ) → Contains places place → place < limit → ⊥)
    → (place : ℕ) (e : EntryData) → slice_get (take limit log) place ≡ Some e → e.point ≡ point → e.ty ≡ ty → ⊥
none_below log n limit point ty places all are none place e at point_is ty_is =
    let t = at_take limit log place e at in
    none place ((are.exact place).1 (omega (arith, t.0, all), record { entry = e; at = t.1; meets = (point_is, ty_is) })) t.0

pub none_first : (places : List ℕ) (limit : ℕ) → IsStrictlyIncreasing places → 0 < length places → limit ≤ get_or places 0 0 → (place : ℕ) → Contains places place → place < limit → ⊥
none_first places limit rises some high place c lt = elim (cases_order c.0 0) [
  | inl same ↦
      let is : get_or places 0 0 ≡ place = ap (λ n. get_or places n 0) (sym same) ∙ read_other places c.0 place 0 c.1 c.2 in
      omega (arith, is, high, lt)
  | inr (inl less) ↦ omega arith
  | inr (inr more) ↦
      let up = AllPairs-from_increasing places rises 0 c.0 0 more c.1 in
      let is = read_other places c.0 place 0 c.1 c.2 in
      omega (arith, up, is, high, lt)
]

-- a slot without candidates leaves nothing to pick
pub slot_filled : (E : List EntryData) (fixed : Option FixedData) {ss : List SlotData} {args : List (ℕ × ℕ)} {es : List EntryData} (s : SlotData) → Contains ss s → Picked (λ x. x.arg) (IsCandidate E fixed) ss args es
    → (place : ℕ) × (e : EntryData) × IsCandidate E fixed s place e
slot_filled E fixed s c none_left = absurd (none_in s c)
slot_filled E fixed s c (pick {x = x} {xs = xs} {place = place} {e = e} h k) = elim (uncons x s xs c) [
  | inl is ↦ (place, e, subst (λ (y : SlotData). IsCandidate E fixed y place e) (sym is) h)
  | inr there ↦ slot_filled E fixed s there k
]

pub nothing_filled : (E : List EntryData) (fixed : Option FixedData) (us : List ℕ) (sets : Env) (j u : ℕ) → slice_get us j ≡ Some u → LacksSlot E fixed j u (set_at sets j) → AreShut E fixed (slots 0 us sets)
nothing_filled E fixed us sets j u at lacks args es k =
    let s : SlotData = record { arg = 0 + j; point = u; ty = lacks.ty } in
    let z : 0 + j ≡ j = omega arith in
    let f = slot_filled E fixed s (into_slots 0 us sets j u lacks.ty at lacks.among) k in
    lacks.none f.0 f.1 (subst (λ (n : ℕ). IsCandidate E fixed (record { arg = n; point = u; ty = lacks.ty }) f.0 f.1) z f.2)

pub nothing_picked : (E : List EntryData) (fixed : Option FixedData) (us : List ℕ) (sets : Env) (j u : ℕ) → slice_get us j ≡ Some u → LacksCandidate E u (set_at sets j) → AreShut E fixed (slots 0 us sets)
nothing_picked E fixed us sets j u at lacks =
    nothing_filled E fixed us sets j u at (record { ty = lacks.ty; among = lacks.among; none = λ place e c. lacks.none place e c.at c.point c.ty })

pub set_of_place : (I : InternerData) (ids : List ℕ) (j : ℕ) → j < length ids → set_of_id I (get_or ids j 0) ≡ set_at (map (set_of_id I) ids) j
set_of_place I [] j lt = absurd (omega arith)
set_of_place I (x ∷ ids) zero lt = refl
set_of_place I (x ∷ ids) (suc j) lt = set_of_place I ids j (omega arith)

pub type_of_place : (I : InternerData) (ids : List ℕ) (j t : ℕ) → j < length ids → t ≡ get_or ids j t → Contains (map (type_of_id I) ids) (type_of_id I t)
type_of_place I [] j t lt is = absurd (omega arith)
type_of_place I (x ∷ ids) zero t lt is = subst (λ (y : ℕ). Contains (map (type_of_id I) (x ∷ ids)) (type_of_id I y)) (sym is) (here (type_of_id I x) (map (type_of_id I) ids))
type_of_place I (x ∷ ids) (suc j) t lt is = later (type_of_id I x) (type_of_id I t) (map (type_of_id I) ids) (type_of_place I ids j t (omega arith) is)

-- a fixed entry with the type is the only candidate
pub fixed_candidates : (log : List EntryData) (limit arg point : ℕ) (ty : TypeTree) (f : Fixed) (args : List ℕ) (e : EntryData) (out : List ℕ) → slice_get log f.place ≡ Some e → e.ty ≡ ty → f.arg ≡ arg → slice_get args arg ≡ Some point
    → IsWithin log args limit (Some f) → out ≡ f.place ∷ [] → (place : ℕ) → Contains out place ↔ ((x : EntryData) × IsCandidate (take limit log) (fixed_of log (Some f)) (record { arg = arg; point = point; ty = ty }) place x)
fixed_candidates log limit arg point ty f args e out at ty_is arg_is point_at within is place = (
  λ c. subst (λ (p : ℕ). (x : EntryData) × IsCandidate (take limit log) (fixed_of log (Some f)) (record { arg = arg; point = point; ty = ty }) p x) (sym (only f.place place (subst (λ (ps : List ℕ). Contains ps place) is c)))
      (e, record { at = to_take limit log f.place e within.0 at; point = point_is; ty = ty_is; respects = λ a t. refl }),
  λ (x, c). subst (λ (ps : List ℕ). Contains ps place) (sym is) (subst (λ (p : ℕ). Contains (f.place ∷ []) p) (sym (c.respects (sym arg_is) (sym (ap (λ (y : EntryData). y.ty) read ∙ ty_is)))) (here f.place [])),
)
  where
    read : entry_at log f.place ≡ e
    read = get_or_from_slice_get log f.place e (record { point = 0; env = []; ty = state 0 }) at

    point_is : e.point ≡ point
    point_is = ap (λ (y : EntryData). y.point) (sym read) ∙ same_Some (entry_at log f.place).point point (sym within.1 ∙ (ap (slice_get args) arg_is ∙ point_at))
