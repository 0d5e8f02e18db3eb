-- Works in stretches: those of a stretch that has become longer at its end, or shorter at its front.
use Rattle.std.proofs.Common.{◌≡◌, ◌≢◌, refl, sym, ◌∙◌, ap, ℕ, zero, suc, ◌+◌, ◌-◌, ◌<◌, List, [], ◌∷◌, ◌++◌, length, get_or, slice_set, arith, add-one, append_assoc, append-nil, length-append}
use Rattle.hs_history.specs.declared.step.Work.{Work}
use Rattle.hs_history.specs.declared.step.Work.TheVariants.{Seed, Place}
use Rattle.hs_history.specs.CoreStep.{seeds}
use Rattle.hs_core.specs.declared.pending.Stretch.{Stretch}
use Rattle.hs_core.specs.Works.{work_beyond, works_from}
use Rattle.hs_core.specs.Pending.{stretch_works, works_in}

beyond_none : (w : Work) → work_beyond w 0 ≡ w
beyond_none (Seed point) = ap (λ n. Seed n) (omega arith)
beyond_none (Place place) = ap (λ n. Place n) (omega arith)

beyond_one : (w : Work) (n : ℕ) → work_beyond (work_beyond w 1) n ≡ work_beyond w (suc n)
beyond_one (Seed point) n = ap (λ m. Seed m) (omega arith)
beyond_one (Place place) n = ap (λ m. Place m) (omega arith)

-- one more work at the end
from_more : (w : Work) (n : ℕ) → works_from w (suc n) ≡ works_from w n ++ work_beyond w n ∷ []
from_more w zero = ap (λ v. v ∷ []) (sym (beyond_none w))
from_more w (suc n) = ap (λ ws. w ∷ ws) (from_more (work_beyond w 1) n ∙ ap (λ v. works_from (work_beyond w 1) n ++ v ∷ []) (beyond_one w n))

from_first_seed : (n : ℕ) → works_from (Seed 0) n ≡ seeds n
from_first_seed zero = refl
from_first_seed (suc n) =
    let last : work_beyond (Seed 0) n ≡ Seed n = ap (λ m. Seed m) (omega arith) in
    from_more (Seed 0) n ∙ (λ i. from_first_seed n i ++ last i ∷ [])

pub seeds_length : (n : ℕ) → length (seeds n) ≡ n
seeds_length zero = refl
seeds_length (suc n) = omega (arith, length-append (seeds n) (Seed n ∷ []), seeds_length n)

-- the stretch of all seeds, alone
pub seeds_in : (none : List Stretch) (s : Stretch) (n : ℕ) → none ≡ [] → s.first ≡ Seed 0 → s.others ≡ n - 1 → n ≢ 0 → works_in (none ++ s ∷ []) ≡ seeds n
seeds_in none s n empty first others some =
    let long : suc s.others ≡ n = omega (arith, some) in
    ap (λ ss. works_in (ss ++ s ∷ [])) empty ∙ append-nil (stretch_works s) ∙ (λ i. works_from (first i) (long i)) ∙ from_first_seed n

-- the last stretch has one more work
module _ (ss : List Stretch) (last : ℕ) (s longer : Stretch) (ends : length ss ≡ suc last) (at : get_or ss last s ≡ s) (first : longer.first ≡ s.first) (others : longer.others ≡ s.others + 1) where
  abbrev added : Work
  added = work_beyond s.first (s.others + 1)

  longer_works : stretch_works longer ≡ stretch_works s ++ added ∷ []
  longer_works =
      let long = others ∙ add-one s.others in
      (λ i. works_from (first i) (suc (long i))) ∙ from_more s.first (suc s.others) ∙ ap (λ n. stretch_works s ++ work_beyond s.first n ∷ []) (sym (add-one s.others))

  pub last_longer : works_in (slice_set ss last longer) ≡ works_in ss ++ added ∷ []
  last_longer = go ss last ends at
    where
      go : (ss : List Stretch) (last : ℕ) → length ss ≡ suc last → get_or ss last s ≡ s → works_in (slice_set ss last longer) ≡ works_in ss ++ added ∷ []
      go [] last ends at = absurd (omega arith)
      go (x ∷ []) zero ends at = append-nil (stretch_works longer) ∙ longer_works ∙ ap (λ ws. ws ++ added ∷ []) (ap (λ r. stretch_works r) (sym at) ∙ sym (append-nil (stretch_works x)))
      go (x ∷ y ∷ ss) zero ends at = absurd (omega arith)
      go (x ∷ ss) (suc last) ends at = ap (λ ws. stretch_works x ++ ws) (go ss last (omega arith) at) ∙ sym (append_assoc (stretch_works x) (works_in ss) (added ∷ []))

  pub longer_length : (n : ℕ) → n ≡ length (works_in ss) → n + 1 ≡ length (works_in (slice_set ss last longer))
  longer_length n is = omega (arith, is, ap (λ (ws : List Work). length ws) last_longer, length-append (works_in ss) (added ∷ []))

-- the first stretch lacks its first work
module _ (ss : List Stretch) (s shorter : Stretch) (some : 0 < length ss) (at : get_or ss 0 s ≡ s) (first : shorter.first ≡ work_beyond s.first 1) (others : shorter.others ≡ s.others - 1) (left : s.others ≢ 0) where
  shorter_works : stretch_works s ≡ s.first ∷ stretch_works shorter
  shorter_works =
      let long : s.others ≡ suc shorter.others = omega (arith, left) in
      λ i. s.first ∷ works_from (sym first i) (long i)

  pub first_shorter : works_in ss ≡ s.first ∷ works_in (slice_set ss 0 shorter)
  first_shorter = go ss some at
    where
      go : (ss : List Stretch) → 0 < length ss → get_or ss 0 s ≡ s → works_in ss ≡ s.first ∷ works_in (slice_set ss 0 shorter)
      go [] some at = absurd (omega arith)
      go (x ∷ ss) some at = ap (λ r. stretch_works r ++ works_in ss) at ∙ ap (λ ws. ws ++ works_in ss) shorter_works

  pub shorter_length : (n : ℕ) → n ≡ length (works_in ss) → n - 1 ≡ length (works_in (slice_set ss 0 shorter))
  shorter_length n is = omega (arith, is, ap (λ (ws : List Work). length ws) first_shorter)
