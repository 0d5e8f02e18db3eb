-- A scheme has one fault of its sorts at most, want of memory aside, and none where inference answers its sorts.
use Rattle.std.proofs.Common.{◌≡◌, refl, ap, subst, ℕ, zero, suc, ◌+◌, ◌≤◌, List, length, slice_get, unwrap_or, Option, Result, Ok, Err, IfErr, ◌⊎◌, inl, inr, arith}
use Rattle.std.proofs.lemmas.Option.{slice_get_within}
use Rattle.std.proofs.lemmas.Bool.{cases_lt}
use Rattle.std.proofs.lemmas.List.Elements.{All-nil}
use Rattle.hs_scheme.specs.declared.term.Rule.{Rule}
use Rattle.hs_scheme.specs.sorting.Sorting.{SortTree, o, ranked, size, HasSorting, IsFirstOrder, AreEqual}
use Rattle.hs_scheme.specs.sorting.Sorted.{SortedData}
use Rattle.hs_scheme.specs.sorting.Unsorted.{UnsortedData}
use Rattle.hs_scheme.proofs.Sortings.{least_first_order, least_unique}
use Rattle.hs_sorts.specs.declared.fault.SortFault.{SortFault}
use Rattle.hs_sorts.specs.declared.fault.SortFault.TheVariants.{IllSorted, TerminalNotFirstOrder, SortTooLarge, RuleTooLong, OutOfMemory}
use Rattle.hs_sorts.specs.Inference.{IsInferable, IsInferred, IsFirstIllSorted, IsFirstHigherTerminal, IsFirstTooLarge, IsTooLong, IsFirstTooLong, IsSortFault}
use Rattle.hs_sorts.proofs.Measuring.{first_order_more}

-- a sorting of all rules is one of the first k
fewer : (rules : List Rule) (ranks : List (Option ℕ)) (k : ℕ) → HasSorting rules ranks (length rules) → HasSorting rules ranks k
fewer rules ranks k (s, p) = (s, record { nonterminals = p.nonterminals; bodies = λ f rule below at. p.bodies f rule (slice_get_within rules f rule at) at; start = p.start; terminals = p.terminals })

pub only_memory : (rules : List Rule) (ranks : List (Option ℕ)) (fault : SortFault) → IsInferable rules ranks → IsSortFault rules ranks fault → fault ≡ OutOfMemory
only_memory rules ranks (IllSorted rule) h f = absurd (f.with_it (fewer rules ranks (rule + 1) (h.well_sorted.0, h.well_sorted.1)))
only_memory rules ranks (TerminalNotFirstOrder terminal) h f = absurd (f.higher (least_first_order rules ranks f.sorts f.least h.well_sorted terminal f.in_range))
only_memory rules ranks (SortTooLarge rule) h f = absurd (omega (arith, h.small f.sorts f.least rule f.in_range, f.large))
only_memory rules ranks (RuleTooLong rule) h f = absurd (h.none_too_long f.sorts f.least rule f.rule f.at f.long)
only_memory rules ranks OutOfMemory h f = refl

pub only_memory_in : {A : Type 0} (rules : List Rule) (ranks : List (Option ℕ)) (r : Result A SortFault) → IsInferable rules ranks → IfErr r (IsSortFault rules ranks) → IfErr r (λ fault. fault ≡ OutOfMemory)
only_memory_in rules ranks (Ok x) h f = tt
only_memory_in rules ranks (Err fault) h f = only_memory rules ranks fault h f

-- the first k rules of a sorting of more
fewer_rules : (rules : List Rule) (ranks : List (Option ℕ)) (k m : ℕ) → k ≤ m → HasSorting rules ranks m → HasSorting rules ranks k
fewer_rules rules ranks k m le (s, p) = (s, record { nonterminals = p.nonterminals; bodies = λ f rule below at. p.bodies f rule (omega (arith, below, le)) at; start = p.start; terminals = p.terminals })

module _ (rules : List Rule) (ranks : List (Option ℕ)) where
  -- no sorting, beside one of all rules
  no_sorting : (rule : ℕ) → IsFirstIllSorted rules ranks rule → HasSorting rules ranks (length rules) → ⊥
  no_sorting rule f h = f.with_it (fewer rules ranks (rule + 1) h)

  one_ill_sorted : (a b : ℕ) → IsFirstIllSorted rules ranks a → IsFirstIllSorted rules ranks b → a ≡ b
  one_ill_sorted a b p q =
      elim (cases_lt a b) [
        | inl less ↦ absurd (p.with_it (fewer_rules rules ranks (a + 1) b (omega (arith, less)) q.before))
        | inr more ↦ elim (cases_lt b a) [
          | inl less ↦ absurd (q.with_it (fewer_rules rules ranks (b + 1) a (omega (arith, less)) p.before))
          | inr same ↦ omega (arith, more, same)
        ]
      ]

  -- the fault at the lesser of two terminals
  lesser_higher : (a b : ℕ) → IsFirstHigherTerminal rules ranks a → IsFirstHigherTerminal rules ranks b → b ≤ a
  lesser_higher a b p q =
      elim (cases_lt a b) [
        | inl less ↦
            let same : AreEqual rules ranks q.sorts p.sorts = least_unique rules ranks q.sorts p.sorts q.least p.least in
            absurd (p.higher (subst IsFirstOrder (same.terminals a p.in_range) (q.before a less)))
        | inr more ↦ more
      ]

  lesser_large : (a b : ℕ) → IsFirstTooLarge rules ranks a → IsFirstTooLarge rules ranks b → b ≤ a
  lesser_large a b p q =
      elim (cases_lt a b) [
        | inl less ↦
            let same : AreEqual rules ranks q.sorts p.sorts = least_unique rules ranks q.sorts p.sorts q.least p.least in
            let small : size (p.sorts.nonterminal a) ≤ 1000 = subst (λ (k : SortTree). size k ≤ 1000) (same.nonterminals a p.in_range) (q.before a less) in
            absurd (omega (arith, small, p.large))
        | inr more ↦ more
      ]

  higher_not_large : (a b : ℕ) → IsFirstHigherTerminal rules ranks a → IsFirstTooLarge rules ranks b → ⊥
  higher_not_large a b p q =
      let same : AreEqual rules ranks q.sorts p.sorts = least_unique rules ranks q.sorts p.sorts q.least p.least in
      p.higher (subst IsFirstOrder (same.terminals a p.in_range) (q.first_order a p.in_range))

  lesser_long : (a b : ℕ) → IsFirstTooLong rules ranks a → IsFirstTooLong rules ranks b → b ≤ a
  lesser_long a b p q =
      elim (cases_lt a b) [
        | inl less ↦
            let same : AreEqual rules ranks p.sorts q.sorts = least_unique rules ranks p.sorts q.sorts p.least q.least in
            absurd (q.before a p.rule less p.at (subst (IsTooLong p.rule) (same.nonterminals a (slice_get_within rules a p.rule p.at)) p.long))
        | inr more ↦ more
      ]

  higher_not_long : (a b : ℕ) → IsFirstHigherTerminal rules ranks a → IsFirstTooLong rules ranks b → ⊥
  higher_not_long a b p q =
      let same : AreEqual rules ranks q.sorts p.sorts = least_unique rules ranks q.sorts p.sorts q.least p.least in
      p.higher (subst IsFirstOrder (same.terminals a p.in_range) (q.first_order a p.in_range))

  large_not_long : (a b : ℕ) → IsFirstTooLarge rules ranks a → IsFirstTooLong rules ranks b → ⊥
  large_not_long a b p q =
      let same : AreEqual rules ranks q.sorts p.sorts = least_unique rules ranks q.sorts p.sorts q.least p.least in
      let small : size (p.sorts.nonterminal a) ≤ 1000 = subst (λ (k : SortTree). size k ≤ 1000) (same.nonterminals a p.in_range) (q.small a p.in_range) in
      omega (arith, small, p.large)

  pub one_fault_is : (a b : SortFault) → IsSortFault rules ranks a → IsSortFault rules ranks b → (a ≡ OutOfMemory) ⊎ ((b ≡ OutOfMemory) ⊎ (a ≡ b))
  one_fault_is OutOfMemory b p q = inl refl
  one_fault_is (IllSorted r) OutOfMemory p q = inr (inl refl)
  one_fault_is (TerminalNotFirstOrder a) OutOfMemory p q = inr (inl refl)
  one_fault_is (SortTooLarge r) OutOfMemory p q = inr (inl refl)
  one_fault_is (RuleTooLong r) OutOfMemory p q = inr (inl refl)
  one_fault_is (IllSorted r) (IllSorted s) p q = inr (inr (ap (λ (k : ℕ). IllSorted k) (one_ill_sorted r s p q)))
  one_fault_is (IllSorted r) (TerminalNotFirstOrder b) p q = absurd (no_sorting r p (q.sorts, q.least.sorting))
  one_fault_is (IllSorted r) (SortTooLarge s) p q = absurd (no_sorting r p (q.sorts, q.least.sorting))
  one_fault_is (IllSorted r) (RuleTooLong s) p q = absurd (no_sorting r p (q.sorts, q.least.sorting))
  one_fault_is (TerminalNotFirstOrder a) (IllSorted s) p q = absurd (no_sorting s q (p.sorts, p.least.sorting))
  one_fault_is (TerminalNotFirstOrder a) (TerminalNotFirstOrder b) p q =
      let e : a ≡ b = omega (arith, lesser_higher a b p q, lesser_higher b a q p) in inr (inr (ap (λ (k : ℕ). TerminalNotFirstOrder k) e))
  one_fault_is (TerminalNotFirstOrder a) (SortTooLarge s) p q = absurd (higher_not_large a s p q)
  one_fault_is (TerminalNotFirstOrder a) (RuleTooLong s) p q = absurd (higher_not_long a s p q)
  one_fault_is (SortTooLarge r) (IllSorted s) p q = absurd (no_sorting s q (p.sorts, p.least.sorting))
  one_fault_is (SortTooLarge r) (TerminalNotFirstOrder b) p q = absurd (higher_not_large b r q p)
  one_fault_is (SortTooLarge r) (SortTooLarge s) p q =
      let e : r ≡ s = omega (arith, lesser_large r s p q, lesser_large s r q p) in inr (inr (ap (λ (k : ℕ). SortTooLarge k) e))
  one_fault_is (SortTooLarge r) (RuleTooLong s) p q = absurd (large_not_long r s p q)
  one_fault_is (RuleTooLong r) (IllSorted s) p q = absurd (no_sorting s q (p.sorts, p.least.sorting))
  one_fault_is (RuleTooLong r) (TerminalNotFirstOrder b) p q = absurd (higher_not_long b r q p)
  one_fault_is (RuleTooLong r) (SortTooLarge s) p q = absurd (large_not_long s r q p)
  one_fault_is (RuleTooLong r) (RuleTooLong s) p q =
      let e : r ≡ s = omega (arith, lesser_long r s p q, lesser_long s r q p) in inr (inr (ap (λ (k : ℕ). RuleTooLong k) e))

ranked_is_first_order : (n : ℕ) → IsFirstOrder (ranked n)
ranked_is_first_order zero = All-nil (λ (a : SortTree). a ≡ o)
ranked_is_first_order (suc n) = first_order_more o (ranked n) refl (ranked_is_first_order n)

pub inferred_inferable : (u : UnsortedData) (s : SortedData) → IsInferred u s → IsInferable u.rules u.ranks
inferred_inferable u s h = record {
  well_sorted = (_, h.least.sorting, λ a below. ranked_is_first_order (unwrap_or (slice_get s.scheme.ranks a) 0));
  small = λ t least f below.
      let same : AreEqual u.rules u.ranks _ t = least_unique u.rules u.ranks _ t h.least least in
      subst (λ (k : SortTree). size k ≤ 1000) (same.nonterminals f below) (h.small f below);
  none_too_long = λ t least f rule at long.
      let same : AreEqual u.rules u.ranks t _ = least_unique u.rules u.ranks t _ least h.least in
      h.none_too_long f rule at (subst (IsTooLong rule) (same.nonterminals f (slice_get_within u.rules f rule at)) long);
}
