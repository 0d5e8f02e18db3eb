-- The types of a terminal, in numbers.
use Rattle.std.proofs.Common.{◌≡◌, refl, sym, ◌∙◌, ap, subst, ℕ, zero, suc, ◌+◌, ◌<◌, ◌≤◌, List, [], ◌∷◌, length, map, replicate, set, None, Some, arith, inl, inr}
use Rattle.std.proofs.lemmas.Bool.{cases_order}
use Rattle.std.proofs.lemmas.List.{length-map, length-replicate}
use Rattle.std.proofs.lemmas.Option.{same_Some}
use Rattle.hs_scheme.specs.acceptance.Transition.{TransitionData}
use Rattle.hs_scheme.specs.acceptance.Automaton.{next}
use Rattle.hs_scheme.proofs.Lists.{none_in, here}
use Rattle.hs_table.specs.declared.support.HeadBy.{HeadBy}
use Rattle.hs_table.specs.Types.{TypeTree}
use Rattle.hs_table.specs.Entries.{Env}
use Rattle.hs_table_laws.proofs.Places.{within_from}
use Rattle.hs_table_laws.proofs.Sets.{sets_same, one_set}
use Rattle.hs_types.specs.Interned.{InternerData, IsSetOf, Grows}
use Rattle.hs_rules.specs.Found.{HeadData}
use Rattle.hs_rules.specs.Heads.{GainsHeads, AtRange, ChildAt, ChildIn, ReadIn, StopsIn, InState}
use Rattle.hs_rules.proofs.HeadLemmas.{heads_then, heads_same}

pub set_none : (s : List TypeTree) → IsSetOf [] s → s ≡ []
set_none [] h = refl
set_none (a ∷ s) h = absurd (none_in a ((h.exact a).0 (here a s)))

pub set_one : (t : TypeTree) (s : List TypeTree) → IsSetOf (t ∷ []) s → s ≡ t ∷ []
set_one t s h = sets_same s (t ∷ []) h.ascends (one_set t) h.exact

-- as many numbers as empty sets
pub as_many : (f : ℕ → List TypeTree) (xs ys : List ℕ) (n : ℕ) → ys ≡ xs → map f xs ≡ replicate n [] → length ys ≡ n
as_many f xs ys n same are = ap (λ (zs : List ℕ). length zs) same ∙ (sym (length-map xs f) ∙ (ap (λ (zs : List (List TypeTree)). length zs) are ∙ (let none : List TypeTree = [] in length-replicate n none)))

pub map-replicate : (f : ℕ → List TypeTree) (n x : ℕ) (v : List TypeTree) → f x ≡ v → map f (replicate n x) ≡ replicate n v
map-replicate f zero x v e = refl
map-replicate f (suc n) x v e = λ i. e i ∷ map-replicate f n x v e i

pub map-set : (f : ℕ → List TypeTree) (xs : List ℕ) (i x : ℕ) → map f (set xs i x) ≡ set (map f xs) i (f x)
map-set f [] i x = refl
map-set f (y ∷ xs) zero x = refl
map-set f (y ∷ xs) (suc i) x = ap (λ (ss : Env). f y ∷ ss) (map-set f xs i x)

-- the types of one more number
pub heads_up : (J K : InternerData) (count : ℕ) (Source : ℕ → HeadBy → Env → TypeTree → Type 0) (from k : ℕ) (old mid new : List HeadData) → Grows J K → from ≤ k
    → GainsHeads J count (AtRange Source from k) old mid → GainsHeads K count (Source k) mid new → GainsHeads K count (AtRange Source from (k + 1)) old new
heads_up J K count Source from k old mid new g le f h =
    heads_then J K count (AtRange Source from k) (Source k) (AtRange Source from (k + 1)) old mid new g
    (λ by own ty a. record { place = a.place; least = a.least; most = omega (arith, a.most); source = a.source })
    (λ by own ty s. record { place = k; least = le; most = omega arith; source = s })
    (λ by own ty a. elim (cases_order a.place k) [
      | inl same ↦ inr (subst (λ (n : ℕ). Source n by own ty) same a.source)
      | inr (inl less) ↦ inl (record { place = a.place; least = a.least; most = less; source = a.source })
      | inr (inr more) ↦ absurd (omega (arith, a.most, more))
    ]) f h

-- all children, where the numbers went past the last one
pub heads_children : (ids : InternerData) (count : ℕ) (own : Env) (q : ℕ) (to : List ℕ) (from k : ℕ) (old new : List HeadData) → length to ≤ k
    → GainsHeads ids count (AtRange (ChildAt own q to) from k) old new → GainsHeads ids count (AtRange (ChildAt own q to) from (length to)) old new
heads_children ids count own q to from k old new le =
    heads_same ids count (AtRange (ChildAt own q to) from k) (AtRange (ChildAt own q to) from (length to)) old new
    (λ by o t a. record { place = a.place; least = a.least; most = within_from to a.place a.source.r a.source.at; source = a.source })
    (λ by o t a. record { place = a.place; least = a.least; most = omega (arith, a.most, le); source = a.source })

module _ (ids : InternerData) (count : ℕ) (ts : List TransitionData) (a rank from : ℕ) (own : Env) (q : ℕ) (old new : List HeadData) where
  pub heads_lack : next ts q a ≡ None → GainsHeads ids count (StopsIn ts a rank own q) old new → GainsHeads ids count (InState ts a rank from own q) old new
  heads_lack none =
      heads_same ids count (StopsIn ts a rank own q) (InState ts a rank from own q) old new (λ by o t l. inl l)
      (λ by o t s. elim s [ inl l ↦ l | inr r ↦ absurd (let e : Some r.source.to ≡ None = sym r.source.moves ∙ none in cc) ])

  pub heads_move : (to : List ℕ) → next ts q a ≡ Some to → length to ≡ rank → GainsHeads ids count (AtRange (ChildAt own q to) from (length to)) old new → GainsHeads ids count (InState ts a rank from own q) old new
  heads_move to moves long =
      heads_same ids count (AtRange (ChildAt own q to) from (length to)) (InState ts a rank from own q) old new
      (λ by o t r. inr (record { place = r.place; least = r.least; most = omega (arith, r.most, long); source = record { to = to; moves = moves; child = r.source } }))
      (λ by o t s. elim s [
        | inl l ↦ absurd (let e : Some to ≡ None = sym moves ∙ l.moves in cc)
        | inr r ↦
            let same = same_Some r.source.to to (sym r.source.moves ∙ moves) in
            record { place = r.place; least = r.least; most = omega (arith, r.most, long); source = subst (λ (xs : List ℕ). ChildAt own q xs r.place by o t) same r.source.child }
      ])

  pub heads_child : (to : List ℕ) (place : ℕ) → next ts q a ≡ Some to → GainsHeads ids count (ChildAt own q to place) old new → GainsHeads ids count (ChildIn ts a own place q) old new
  heads_child to place moves =
      heads_same ids count (ChildAt own q to place) (ChildIn ts a own place q) old new (λ by o t c. record { to = to; moves = moves; child = c })
      (λ by o t c. subst (λ (xs : List ℕ). ChildAt own q xs place by o t) (same_Some c.to to (sym c.moves ∙ moves)) c.child)

  pub heads_read : (states place : ℕ) → q < states → GainsHeads ids count (ChildIn ts a own place q) old new → GainsHeads ids count (ReadIn states ts a own place q) old new
  heads_read states place lt = heads_same ids count (ChildIn ts a own place q) (ReadIn states ts a own place q) old new (λ by o t c. (lt, c)) (λ by o t c. c.1)
