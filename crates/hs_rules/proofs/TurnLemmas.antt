-- Slots joined in some order: the numbers of those that were joined.
use Rattle.std.proofs.Common.{◌≡◌, sym, ◌∙◌, ap, subst, ℕ, zero, suc, ◌+◌, ◌<◌, ◌≤◌, List, [], ◌∷◌, ◌++◌, length, take, get_or, arith, inl, inr, Contains, Option, Some, None}
use Rattle.std.specs.Prelude.{MatchOption}
use Rattle.hs_rules.specs.declared.turns.Turn.{Turn}
use Rattle.std.specs.List.{insert}
use Rattle.std.specs.List.Sorted.{IsStrictlyIncreasing}
use Rattle.std.proofs.lemmas.Bool.{cases_lt, cases_order}
use Rattle.std.proofs.lemmas.List.{length-map, length-take-le, get_or-map, get_or_default, same_lists}
use Rattle.std.proofs.lemmas.List.Edits.{insert_end, length-insert, get_or-insert_at, get_or-insert_below, get_or-insert_above}
use Rattle.std.proofs.lemmas.List.Elements.{Contains-get_or}
use Rattle.std.proofs.lemmas.List.Kept.{AllPairs-from_increasing}
use Rattle.hs_table_laws.proofs.Members.{taken_next}
use Rattle.hs_rules.specs.Slots.{FilledData}
use Rattle.hs_rules.specs.Turns.{IsPlaceAmong, IsTurn, slots_at, AreTurns}
use Rattle.hs_rules.proofs.Lists.{read_other, map_insert}

abbrev pub no_slot : FilledData
no_slot = record { arg = 0; places = [] }

pub no_turns : (fs : List FilledData) (done : List ℕ) → done ≡ [] → AreTurns fs done
no_turns fs done is = subst (λ (ns : List ℕ). AreTurns fs ns) (sym is) (record { rises = λ k lt. absurd (omega (arith, lt)); within = λ n c. absurd (omega (arith, c.1)) })

module _ (fs : List FilledData) (done : List ℕ) where
  abbrev pub Next : Option Turn → Type 0
  Next next = MatchOption next ((n : ℕ) → n < length fs → Contains done n) (IsTurn fs done)

  pub turn_next : (next : Option Turn) (turn : Turn) → Next next → next ≡ Some turn → IsTurn fs done turn
  turn_next next turn told is = subst Next is told

  pub turns_end : (next : Option Turn) → Next next → next ≡ None → (n : ℕ) → n < length fs → Contains done n
  turns_end next told is = subst Next is told

number_least : (done : List ℕ) → IsStrictlyIncreasing done → (k : ℕ) → k < length done → k ≤ get_or done k 0
number_least done rises zero lt = omega arith
number_least done rises (suc k) lt =
    let a = number_least done rises k (omega (arith, lt)) in
    let b = AllPairs-from_increasing done rises k (suc k) 0 (omega arith) lt in
    omega (arith, a, b)

module _ (fs : List FilledData) (done : List ℕ) (turns : AreTurns fs done) where
  number_within : (k : ℕ) → k < length done → get_or done k 0 < length fs
  number_within k lt = turns.within (get_or done k 0) (Contains-get_or done k 0 lt)

  -- there are no more of them than slots
  pub turns_few : length done ≤ length fs
  turns_few = elim (cases_order (length fs) (length done)) [
    | inl same ↦ omega (arith, same)
    | inr (inl less) ↦ absurd (let a = number_least done turns.rises (length fs) less in let b = number_within (length fs) less in omega (arith, a, b))
    | inr (inr more) ↦ omega (arith, more)
  ]

  -- where each slot is joined, they are in their order
  module _ (all : (n : ℕ) → n < length fs → Contains done n) where
    same_at : (k : ℕ) → ((i : ℕ) → i < k → i < length done → get_or done i 0 ≡ i) → k < length done → get_or done k 0 ≡ k
    same_at k before lt = elim (cases_order k (get_or done k 0)) [
      | inl same ↦ sym same
      | inr (inl less) ↦
          let c = all k (let b = number_within k lt in omega (arith, less, b)) in
          let at = read_other done c.0 k 0 c.1 c.2 in
          elim (cases_order c.0 k) [
            | inl here ↦ absurd (let e = ap (λ (i : ℕ). get_or done i 0) here in omega (arith, e, at, less))
            | inr (inl sooner) ↦ absurd (let e = before c.0 sooner c.1 in omega (arith, e, at, sooner))
            | inr (inr later) ↦ absurd (let e = AllPairs-from_increasing done turns.rises k c.0 0 later c.1 in omega (arith, e, at, less))
          ]
      | inr (inr more) ↦ absurd (let a = number_least done turns.rises k lt in omega (arith, a, more))
    ]

    same_below : (k i : ℕ) → i < k → i < length done → get_or done i 0 ≡ i
    same_below zero i lt within = absurd (omega (arith, lt))
    same_below (suc k) i lt within = elim (cases_order i k) [
      | inl same ↦ same_at i (λ j below. same_below k j (omega (arith, below, same))) within
      | inr (inl less) ↦ same_below k i less within
      | inr (inr more) ↦ absurd (omega (arith, lt, more))
    ]

    each_same : (k : ℕ) → k < length done → get_or done k 0 ≡ k
    each_same k lt = same_below (suc k) k (omega arith) lt

    as_many : length done ≡ length fs
    as_many = elim (cases_order (length done) (length fs)) [
      | inl same ↦ same
      | inr (inl less) ↦ absurd (let c = all (length done) less in let at = read_other done c.0 (length done) 0 c.1 c.2 in let e = each_same c.0 c.1 in omega (arith, at, e, c.1))
      | inr (inr more) ↦ absurd (let t = turns_few in omega (arith, t, more))
    ]

    pub turns_all : slots_at fs done ≡ fs
    turns_all = same_lists (slots_at fs done) fs (length-map done (λ (n : ℕ). get_or fs n no_slot) ∙ as_many)
        (λ k d lt.
        let many = length-map done (λ (n : ℕ). get_or fs n no_slot) in
        let within : k < length done = omega (arith, many, lt) in
        let in_fs : k < length fs = omega (arith, within, as_many) in
        get_or-map (λ (n : ℕ). get_or fs n no_slot) done k 0 d within ∙ (ap (λ (n : ℕ). get_or fs n no_slot) (each_same k within) ∙ sym (get_or_default fs k d no_slot in_fs)))

  -- one more
  module _ (number at : ℕ) (lt : number < length fs) (new : Contains done number → ⊥) (place : IsPlaceAmong done number at) where
    above : (k : ℕ) → at ≤ k → k < length done → number < get_or done k 0
    above k le within = elim (cases_order number (get_or done k 0)) [
      | inl same ↦ absurd (new (subst (λ (n : ℕ). Contains done n) (sym same) (Contains-get_or done k 0 within)))
      | inr (inl less) ↦ less
      | inr (inr more) ↦ absurd (let a = place.above k le within in omega (arith, a, more))
    ]

    abbrev more : List ℕ
    more = insert done at number

    rises_more : IsStrictlyIncreasing more
    rises_more k below =
        let many = length-insert done at number place.within in
        elim (cases_order (k + 1) at) [
          | inl last ↦
              let a = get_or-insert_below done at number 0 k (omega (arith, last)) place.within in
              let b = get_or-insert_at done at number 0 place.within in
              let c = ap (λ (i : ℕ). get_or more i 0) last in
              let d = place.below k (omega (arith, last)) in
              omega (arith, a, b, c, d)
          | inr (inl sooner) ↦
              let a = get_or-insert_below done at number 0 k (omega (arith, sooner)) place.within in
              let b = get_or-insert_below done at number 0 (k + 1) sooner place.within in
              let d = AllPairs-from_increasing done turns.rises k (k + 1) 0 (omega arith) (let w = place.within in omega (arith, sooner, w)) in
              omega (arith, a, b, d)
          | inr (inr later) ↦ elim (cases_order k at) [
            | inl here ↦
                let a = get_or-insert_at done at number 0 place.within in
                let e = ap (λ (i : ℕ). get_or more i 0) here in
                let b = get_or-insert_above done at number 0 k (omega (arith, here)) place.within in
                let d = above k (omega (arith, here)) (omega (arith, below, many)) in
                omega (arith, a, e, b, d)
            | inr (inl less) ↦ absurd (omega (arith, less, later))
            | inr (inr behind) ↦ behind_place k behind below many
          ]
        ]
      where
        behind_place : (k : ℕ) → at < k → k + 1 < length more → length more ≡ length done + 1 → get_or more k 0 < get_or more (k + 1) 0
        behind_place zero behind below many = absurd (omega (arith, behind))
        behind_place (suc k) behind below many =
            let a = ap (λ (i : ℕ). get_or more i 0) (let z : suc k ≡ k + 1 = omega arith in z) ∙ get_or-insert_above done at number 0 k (omega (arith, behind)) place.within in
            let b = ap (λ (i : ℕ). get_or more i 0) (let z : suc k + 1 ≡ (k + 1) + 1 = omega arith in z) ∙ get_or-insert_above done at number 0 (k + 1) (omega (arith, behind)) place.within in
            let d = AllPairs-from_increasing done turns.rises k (k + 1) 0 (omega arith) (omega (arith, below, many)) in
            omega (arith, a, b, d)

    within_more : (n : ℕ) → Contains more n → n < length fs
    within_more n c =
        let many = length-insert done at number place.within in
        let is = read_other more c.0 n 0 c.1 c.2 in
        elim (cases_order c.0 at) [
          | inl here ↦ let a = get_or-insert_at done at number 0 place.within in let e = ap (λ (i : ℕ). get_or more i 0) here in omega (arith, is, a, e, lt)
          | inr (inl less) ↦ let a = get_or-insert_below done at number 0 c.0 less place.within in let w = place.within in let b = number_within c.0 (omega (arith, less, w)) in omega (arith, is, a, b)
          | inr (inr behind) ↦ behind_place c.0 behind c.1 many is
        ]
      where
        behind_place : (k : ℕ) → at < k → k < length more → length more ≡ length done + 1 → get_or more k 0 ≡ n → n < length fs
        behind_place zero behind below many is = absurd (omega (arith, behind))
        behind_place (suc k) behind below many is =
            let a = ap (λ (i : ℕ). get_or more i 0) (let z : suc k ≡ k + 1 = omega arith in z) ∙ get_or-insert_above done at number 0 k (omega (arith, behind)) place.within in
            let b = number_within k (omega (arith, below, many)) in
            omega (arith, a, b, is)

    pub turns_more : AreTurns fs (insert done at number)
    turns_more = record { rises = rises_more; within = within_more }

    -- and its slot among theirs
    pub slots_more : slots_at fs (insert done at number) ≡ insert (slots_at fs done) at (get_or fs number no_slot)
    slots_more = map_insert (λ (n : ℕ). get_or fs n no_slot) done at number

-- where a number goes that comes after this one
module _ (done : List ℕ) (rises : IsStrictlyIncreasing done) (n at : ℕ) (place : IsPlaceAmong done n at) where
  pub place_done : at < length done → get_or done at 0 ≡ n → IsPlaceAmong done (n + 1) (at + 1)
  place_done within is = record {
    within = omega (arith, within);
    below = λ k lt. elim (cases_order k at) [
      | inl here ↦ let e = ap (λ (i : ℕ). get_or done i 0) here in omega (arith, e, is)
      | inr (inl less) ↦ let a = place.below k less in omega (arith, a)
      | inr (inr more) ↦ absurd (omega (arith, lt, more))
    ];
    above = λ k le lt. let a = AllPairs-from_increasing done rises at k 0 (omega (arith, le)) lt in omega (arith, a, is);
  }

  module _ (other : at < length done → get_or done at 0 ≡ n → ⊥) where
    greater : (k : ℕ) → at ≤ k → k < length done → n + 1 ≤ get_or done k 0
    greater k le lt = elim (cases_order k at) [
      | inl here ↦ elim (cases_order n (get_or done k 0)) [
        | inl same ↦ absurd (other (omega (arith, here, lt)) (ap (λ (i : ℕ). get_or done i 0) (sym here) ∙ sym same))
        | inr (inl less) ↦ omega (arith, less)
        | inr (inr more) ↦ absurd (let a = place.above k le lt in omega (arith, a, more))
      ]
      | inr (inl less) ↦ absurd (omega (arith, le, less))
      | inr (inr behind) ↦ let a = place.above at (omega arith) (omega (arith, behind, lt)) in let d = AllPairs-from_increasing done rises at k 0 behind lt in omega (arith, a, d)
    ]

    pub place_left : IsPlaceAmong done (n + 1) at
    place_left = record { within = place.within; below = λ k lt. let a = place.below k lt in omega (arith, a); above = greater }

    pub turn_left : Contains done n → ⊥
    turn_left c =
        let is = read_other done c.0 n 0 c.1 c.2 in
        elim (cases_lt c.0 at) [
          | inl less ↦ let a = place.below c.0 less in omega (arith, a, is)
          | inr more ↦ let a = greater c.0 more c.1 in omega (arith, a, is)
        ]

-- one slot more, in their order
pub taken_insert : (fs : List FilledData) (k : ℕ) (f : FilledData) → k < length fs → f ≡ get_or fs k f → insert (take k fs) k f ≡ take (k + 1) fs
taken_insert fs k f lt is =
    subst (λ (n : ℕ). insert (take k fs) n f ≡ take k fs ++ f ∷ []) (length-take-le k fs (omega (arith, lt))) (insert_end (take k fs) f) ∙ sym (taken_next fs k f lt is)
