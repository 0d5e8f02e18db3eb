-- What is needed where some parameters go: less than before, and just what is needed in what is left.
use Rattle.std.proofs.Common.{◌≡◌, refl, sym, ◌∙◌, ap, subst, ℕ, zero, suc, Bool, true, false, cond, List, [], ◌∷◌, length, slice_get, Some, inl, inr}
use Rattle.std.specs.Prelude.{◌||◌, ◌&&◌, nat_eq, nat_le}
use Rattle.std.proofs.lemmas.Bool.{or_left, or_right, and_from, eq-eqb, eqb-true, le-leb, and_parts, or_cases}
use Rattle.hs_scheme.specs.declared.term.Head.{Head}
use Rattle.hs_scheme.specs.declared.term.Head.TheVariants.{Var, Nt, Tm}
use Rattle.hs_scheme.specs.declared.term.Rule.{Rule}
use Rattle.hs_scheme.specs.Tree.{Tree, Trees, node, none, more, children}
use Rattle.hs_passes.specs.Selection.{place}
use Rattle.hs_passes.specs.Leaving.{Keep, keeps, chosen_trees, head_left, term_left, terms_left, by_number}
use Rattle.hs_passes.specs.Unused.{needs_at, needs, needed_in, of_some}
use Rattle.hs_passes.specs.Needing.{live, live_in, is_live}
use Rattle.hs_passes.proofs.Choosing.{place-eq}
use Rattle.hs_passes.proofs.Places.{place-leb}
use Rattle.hs_passes.proofs.Remaining.{length-left}
use Rattle.hs_passes.proofs.Fitting.{HeadFits, Fits, FitsIn}

-- the rule of which a test holds
pub record OfSome (test : ℕ → Rule → Bool) (rules : List Rule) : Type 0 where
  pub number : ℕ
  pub rule : Rule
  pub at : slice_get rules number ≡ Some rule
  pub holds : test number rule ≡ true

pub some_of : (test : ℕ → Rule → Bool) (rules : List Rule) → of_some test rules ≡ true → OfSome test rules
some_of test [] e = absurd (cc)
some_of test (r ∷ rules) e = elim (or_cases (test 0 r) (of_some (λ g. test (suc g)) rules) e) [
  | inl p ↦ record { number = 0; rule = r; at = refl; holds = p }
  | inr p ↦ let h = some_of (λ g. test (suc g)) rules p in record { number = suc h.number; rule = h.rule; at = h.at; holds = h.holds }
]

pub of_one : (test : ℕ → Rule → Bool) (rules : List Rule) (g : ℕ) (r : Rule) → slice_get rules g ≡ Some r → test g r ≡ true → of_some test rules ≡ true
of_one test [] g r at e = absurd (cc)
of_one test (q ∷ rules) zero r at e = let is : q ≡ r = (cc) in or_left (test 0 q) (of_some (λ g. test (suc g)) rules) (ap (test 0) is ∙ e)
of_one test (q ∷ rules) (suc g) r at e = or_right (test 0 q) (of_some (λ g. test (suc g)) rules) (of_one (λ h. test (suc h)) rules g r at e)

pub of_some-by_number : (test : ℕ → Rule → Bool) (new : ℕ → Rule → Rule) (rules : List Rule) → of_some test (by_number new rules) ≡ of_some (λ g r. test g (new g r)) rules
of_some-by_number test new [] = refl
of_some-by_number test new (r ∷ rules) = ap (λ b. test 0 (new 0 r) || b) (of_some-by_number (λ g. test (suc g)) (λ g. new (suc g)) rules)

pub of_some-same : (test other : ℕ → Rule → Bool) (rules : List Rule) → ((g : ℕ) (r : Rule) → slice_get rules g ≡ Some r → test g r ≡ other g r) → of_some test rules ≡ of_some other rules
of_some-same test other [] same = refl
of_some-same test other (r ∷ rules) same =
    λ i. same 0 r refl i || of_some-same (λ g. test (suc g)) (λ g. other (suc g)) rules (λ g q at. same (suc g) q at) i

-- where fewer parameters stay, no more is needed
module _ (low high : Keep) (le : (f j : ℕ) → low f j ≡ true → high f j ≡ true) where
  keeps-mono : (h : Head) (i : ℕ) → keeps low h i ≡ true → keeps high h i ≡ true
  keeps-mono (Var j) i e = e
  keeps-mono (Nt f) i e = le f i e
  keeps-mono (Tm a) i e = e

  module _ (g f j : ℕ) where
    mutual
      pub live-mono : (t : Tree Head) → live low g f j t ≡ true → live high g f j t ≡ true
      live-mono (node h ts) e =
          let here = needs_at g f j h (length (children ts)) in
          elim (or_cases here (live_in low g f j (keeps low h) ts) e) [
            | inl p ↦ or_left here (live_in high g f j (keeps high h) ts) p
            | inr p ↦ or_right here (live_in high g f j (keeps high h) ts) (live_in-mono (keeps low h) (keeps high h) (keeps-mono h) ts p)
          ]

      live_in-mono : (p q : ℕ → Bool) → ((i : ℕ) → p i ≡ true → q i ≡ true) → (ts : Trees Head) → live_in low g f j p ts ≡ true → live_in high g f j q ts ≡ true
      live_in-mono p q to none e = absurd (cc)
      live_in-mono p q to (more t ts) e =
          let rest = live_in high g f j (λ i. q (suc i)) ts in
          elim (or_cases (p 0 && live low g f j t) (live_in low g f j (λ i. p (suc i)) ts) e) [
            | inl h ↦
                let b = and_parts (p 0) (live low g f j t) h in
                or_left (q 0 && live high g f j t) rest (and_from (q 0) (live high g f j t) (to 0 b.0) (live-mono t b.1))
            | inr h ↦ or_right (q 0 && live high g f j t) rest (live_in-mono (λ i. p (suc i)) (λ i. q (suc i)) (λ i. to (suc i)) ts h)
          ]

  pub is_live-mono : (rules : List Rule) (f j : ℕ) → is_live low rules f j ≡ true → is_live high rules f j ≡ true
  is_live-mono rules f j e =
      let h = some_of (λ g r. live low g f j r.body) rules e in
      of_one (λ g r. live high g f j r.body) rules h.number h.rule h.at (live-mono h.number f j h.rule.body h.holds)

-- where all that is needed stays, the terms fit
module _ (keep : Keep) (g : ℕ) where
  head_fits : (h : Head) (n : ℕ) → ((f j : ℕ) → needs_at g f j h n ≡ true → keep f j ≡ true) → HeadFits keep (keep g) h n
  head_fits (Var k) n stay = stay g k (and_from (nat_eq g g) (nat_eq k k) (eq-eqb g g refl) (eq-eqb k k refl))
  head_fits (Nt h) n stay = λ i le. stay h i (and_from (nat_eq h h) (nat_le n i) (eq-eqb h h refl) (le-leb n i le))
  head_fits (Tm a) n stay = tt

  mutual
    pub fits_of : (t : Tree Head) → ((f j : ℕ) → live keep g f j t ≡ true → keep f j ≡ true) → Fits keep (keep g) t
    fits_of (node h ts) stay = (
      head_fits h (length (children ts)) (λ f j e. stay f j (or_left (needs_at g f j h (length (children ts))) (live_in keep g f j (keeps keep h) ts) e)),
      fits_in (keeps keep h) ts (λ f j e. stay f j (or_right (needs_at g f j h (length (children ts))) (live_in keep g f j (keeps keep h) ts) e)),
    )

    fits_in : (p : ℕ → Bool) (ts : Trees Head) → ((f j : ℕ) → live_in keep g f j p ts ≡ true → keep f j ≡ true) → FitsIn keep (keep g) p ts
    fits_in p none stay = tt
    fits_in p (more t ts) stay = (
      λ on. fits_of t (λ f j e. stay f j (or_left (p 0 && live keep g f j t) (live_in keep g f j (λ i. p (suc i)) ts) (and_from (p 0) (live keep g f j t) on e))),
      fits_in (λ i. p (suc i)) ts (λ f j e. stay f j (or_right (p 0 && live keep g f j t) (live_in keep g f j (λ i. p (suc i)) ts) e)),
    )

-- a parameter that stays is needed in what is left, under its new number, where it is needed by what is left
module _ (keep : Keep) (f j : ℕ) (on : keep f j ≡ true) where
  abbrev now : ℕ
  now = place (keep f) j

  own_left : (g k : ℕ) → keep g k ≡ true → (b : Bool) → nat_eq g f ≡ b → (b && nat_eq (place (keep g) k) now) ≡ (b && nat_eq k j)
  own_left g k stays false e = refl
  own_left g k stays true e =
      subst (λ h. keep h k ≡ true → nat_eq (place (keep h) k) now ≡ nat_eq k j) (sym (eqb-true g f e)) (λ p. place-eq (keep f) k j p on) stays

  given_left : (h n : ℕ) (b : Bool) → nat_eq h f ≡ b → (b && nat_le (place (keep h) n) now) ≡ (b && nat_le n j)
  given_left h n false e = refl
  given_left h n true e = subst (λ q. nat_le (place (keep q) n) now ≡ nat_le n j) (sym (eqb-true h f e)) (place-leb (keep f) n j on)

  head-left : (g : ℕ) (h : Head) (ts : Trees Head) → HeadFits keep (keep g) h (length (children ts))
      → needs_at g f now (head_left (keep g) h) (length (children (chosen_trees (keeps keep h) (terms_left keep (keep g) ts)))) ≡ needs_at g f j h (length (children ts))
  head-left g (Var k) ts p = own_left g k p (nat_eq g f) refl
  head-left g (Nt h) ts p =
      ap (λ n. nat_eq h f && nat_le n now) (length-left keep (keep g) (keep h) ts) ∙ given_left h (length (children ts)) (nat_eq h f) refl
  head-left g (Tm a) ts p = refl

  module _ (g : ℕ) where
    mutual
      pub needs-left : (t : Tree Head) → Fits keep (keep g) t → needs g f now (term_left keep (keep g) t) ≡ live keep g f j t
      needs-left (node h ts) p = λ i. head-left g h ts p.0 i || needed_in-left (keeps keep h) ts p.1 i

      needed_in-left : (p : ℕ → Bool) (ts : Trees Head) → FitsIn keep (keep g) p ts → needed_in g f now (chosen_trees p (terms_left keep (keep g) ts)) ≡ live_in keep g f j p ts
      needed_in-left p none fit = refl
      needed_in-left p (more t ts) fit = by (p 0) refl (λ e. needs-left t (fit.0 e)) (needed_in-left (λ i. p (suc i)) ts fit.1)
        where
          by : (b : Bool) → p 0 ≡ b → (p 0 ≡ true → needs g f now (term_left keep (keep g) t) ≡ live keep g f j t)
              → needed_in g f now (chosen_trees (λ i. p (suc i)) (terms_left keep (keep g) ts)) ≡ live_in keep g f j (λ i. p (suc i)) ts
              → needed_in g f now (cond b (more (term_left keep (keep g) t) (chosen_trees (λ i. p (suc i)) (terms_left keep (keep g) ts))) (chosen_trees (λ i. p (suc i)) (terms_left keep (keep g) ts)))
              ≡ ((b && live keep g f j t) || live_in keep g f j (λ i. p (suc i)) ts)
          by true e here below = λ i. here e i || below i
          by false e here below = below
