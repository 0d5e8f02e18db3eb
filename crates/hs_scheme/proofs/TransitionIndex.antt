-- The index of an automaton's transitions, one transition after another, and what a look-up in it finds.
use Rattle.std.proofs.Common.{◌≡◌, refl, sym, ◌∙◌, ap, subst, ℕ, zero, suc, ◌+◌, ◌<◌, Bool, true, false, nat_eq, List, [], ◌∷◌, length, slice_get, Option, Some, None, option_map, find, cond, arith}
use Rattle.std.proofs.Common.{◌⊎◌, inl, inr}
use Rattle.std.proofs.Math.Nat.{eq-or-lt_of_le}
use Rattle.std.proofs.lemmas.Bool.{eqb-true, eq-eqb, and_parts}
use Rattle.std.proofs.lemmas.Option.{slice_get_within, same_Some}
use Rattle.hs_scheme.specs.acceptance.Transition.{TransitionData}
use Rattle.hs_scheme.specs.acceptance.Automaton.{is_of, next, IsDeterministic, IsTransitionIndex}

true-ne-false : true ≡ false → ⊥
true-ne-false h = (cc)

pub le_last : (i n : ℕ) → i < n + 1 → (i ≡ n) ⊎ (i < n)
le_last i n h = eq-or-lt_of_le (omega arith)

pub is_of-true : (q a : ℕ) (t : TransitionData) → is_of q a t ≡ true → (t.from ≡ q) × (t.terminal ≡ a)
is_of-true q a t h =
    let p = and_parts (nat_eq t.from q) (nat_eq t.terminal a) h in (eqb-true _ _ p.0, eqb-true _ _ p.1)

pub is_of-own : (t : TransitionData) → is_of t.from t.terminal t ≡ true
is_of-own t = rw (eq-eqb t.from t.from refl, eq-eqb t.terminal t.terminal refl)

-- what is at a place up to n, and isn't what is at n, stands before n
before : (ts : List TransitionData) (n i : ℕ) (t u : TransitionData) → slice_get ts n ≡ Some t → slice_get ts i ≡ Some u → i < n + 1 → is_of u.from u.terminal t ≡ false → i < n
before ts n i t u at h lt e = elim (le_last i n lt) [
  | inl same ↦ let f : slice_get ts n ≡ Some u = subst (λ j. slice_get ts j ≡ Some u) same h in
      let g : t ≡ u = cc in absurd (true-ne-false (sym (is_of-own u) ∙ (ap (is_of u.from u.terminal) (sym g) ∙ e)))
  | inr less ↦ less
]

pub index_more : (old new : ℕ → ℕ → Option ℕ) (ts : List TransitionData) (n : ℕ) (t : TransitionData) → IsDeterministic ts → slice_get ts n ≡ Some t
    → ((q a : ℕ) → new q a ≡ cond (is_of q a t) (Some n) (old q a)) → IsTransitionIndex old ts n → IsTransitionIndex new ts (n + 1)
index_more old new ts n t det at upd was = record {
  sound = λ q a i h.
      elim (is_of q a t) as (λ b. is_of q a t ≡ b → cond b (Some n) (old q a) ≡ Some i → (i < n + 1) × ((u : TransitionData) × (slice_get ts i ≡ Some u) × (is_of q a u ≡ true))) [
        | true ↦ λ e f. let same : n ≡ i = cc in (omega arith, (t, subst (λ j. slice_get ts j ≡ Some t) same at, e))
        | false ↦ λ e f. let s = was.sound q a i f in (omega (arith, s.0), s.1)
      ] refl (sym (upd q a) ∙ h);
  complete = λ i u lt h.
      upd u.from u.terminal ∙ elim (is_of u.from u.terminal t) as (λ b. is_of u.from u.terminal t ≡ b → cond b (Some n) (old u.from u.terminal) ≡ Some i) [
        | true ↦ λ e. let p = is_of-true u.from u.terminal t e in ap (λ j. Some j) (det n i t u at h p.0 p.1)
        | false ↦ λ e. was.complete i u (before ts n i t u at h lt e) h
      ] refl;
}

-- where just one element passes, it is the one that is found
pub find-only : {A : Type 0} (p : A → Bool) (xs : List A) (i : ℕ) (x : A) → slice_get xs i ≡ Some x → p x ≡ true
    → ((j : ℕ) (y : A) → slice_get xs j ≡ Some y → p y ≡ true → j ≡ i) → find p xs ≡ Some x
find-only p [] i x at h only = absurd (cc)
find-only p (y ∷ ys) zero x at h only = let e : y ≡ x = cc in rw (e, h)
find-only p (y ∷ ys) (suc i) x at h only =
    elim (p y) as (λ b. p y ≡ b → cond b (Some y) (find p ys) ≡ Some x) [
      | true ↦ λ e. absurd (omega (arith, only 0 y refl e))
      | false ↦ λ e. find-only p ys i x at h (λ j z f g. omega (arith, only (suc j) z f g))
    ] refl

pub find-nowhere : {A : Type 0} (p : A → Bool) (xs : List A) → ((j : ℕ) (y : A) → slice_get xs j ≡ Some y → p y ≡ true → ⊥) → find p xs ≡ None
find-nowhere p [] nowhere = refl
find-nowhere p (y ∷ ys) nowhere =
    elim (p y) as (λ b. p y ≡ b → cond b (Some y) (find p ys) ≡ None) [
      | true ↦ λ e. absurd (nowhere 0 y refl e)
      | false ↦ λ e. find-nowhere p ys (λ j z f g. nowhere (suc j) z f g)
    ] refl

-- where the index has no place, there is no transition
pub next-nowhere : (index : ℕ → ℕ → Option ℕ) (ts : List TransitionData) (q a : ℕ) → IsTransitionIndex index ts (length ts) → index q a ≡ None → next ts q a ≡ None
next-nowhere index ts q a ix none_there = ap (option_map (λ t. t.to)) (find-nowhere (is_of q a) ts (λ i t at h.
    let p = is_of-true q a t h in
    let e : index t.from t.terminal ≡ Some i = ix.complete i t (slice_get_within ts i t at) at in
    let f : index t.from t.terminal ≡ None = ap (λ b. index b t.terminal) p.0 ∙ (ap (index q) p.1 ∙ none_there) in cc))

-- where it has one, the transition stands there
pub next-there : (index : ℕ → ℕ → Option ℕ) (ts : List TransitionData) (q a i : ℕ) → IsDeterministic ts → IsTransitionIndex index ts (length ts) → index q a ≡ Some i
    → (i < length ts) × ((t : TransitionData) → slice_get ts i ≡ Some t → next ts q a ≡ Some t.to)
next-there index ts q a i det ix there =
    let s = ix.sound q a i there in (
      s.0,
      λ t at.
          let same : s.1.0 ≡ t = same_Some _ _ (sym s.1.1 ∙ at) in
          let own = is_of-true q a s.1.0 s.1.2 in
          ap (option_map (λ u. u.to)) (find-only (is_of q a) ts i s.1.0 s.1.1 s.1.2 (λ j u at_j h.
          let p = is_of-true q a u h in det j i u s.1.0 at_j s.1.1 (p.0 ∙ sym own.0) (p.1 ∙ sym own.1)))
          ∙ ap (λ u. Some u.to) same,
    )
