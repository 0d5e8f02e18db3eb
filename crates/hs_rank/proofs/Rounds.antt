-- Rounds as sets, and ranks.
use Rattle.std.proofs.Common.{◌≡◌, sym, ◌∙◌, ap, subst, ℕ, zero, suc, ◌≤◌, List, Contains, arith, inl, inr}
use Rattle.std.proofs.lemmas.Bool.{cases_lt, cases_eq}
use Rattle.std.specs.Ordering.{ordering_reverse}
use Rattle.std.specs.declared.cmp.Ordering.TheVariants.{Less, Greater}
use Rattle.hs_scheme.specs.Problem.{ProblemData}
use Rattle.hs_table.specs.Entries.{EntryData, entry_cmp}
use Rattle.hs_table_laws.proofs.Growing.{follows_found}
use Rattle.hs_table_laws.proofs.Orders.{entry_cmp_total}
use Rattle.hs_rank.specs.Canonical.{IsRound, HasRank, IsBefore}

module _ (p : ProblemData) where
  pub round_same : (n : ℕ) (E F : List EntryData) → IsRound p n E → IsRound p n F → (e : EntryData) → Contains E e → Contains F e
  round_same zero E F a b e there = absurd (a e there)
  round_same (suc n) E F (C, (c, cs)) (D, (d, ds)) e there = elim ((cs e).0 there) [
    | inl was ↦ (ds e).1 (inl (round_same n C D c d e was))
    | inr follows ↦ (ds e).1 (inr (follows_found p C D (round_same n C D c d) e follows))
  ]

  -- later rounds have more
  pub round_later : (m n : ℕ) (E F : List EntryData) → m ≤ n → IsRound p m E → IsRound p n F → (e : EntryData) → Contains E e → Contains F e
  round_later m zero E F le a b e there = let none : m ≡ 0 = omega (arith, le) in absurd (subst (λ k. IsRound p k E) none a e there)
  round_later m (suc n) E F le a (D, (d, ds)) e there = elim (cases_eq m (suc n)) [
    | inl same ↦ round_same (suc n) E F (subst (λ k. IsRound p k E) same a) (D, (d, ds)) e there
    | inr other ↦ (ds e).1 (inl (round_later m n E D (omega (arith, le, other)) a d e there))
  ]

  pub rank_same : (m n : ℕ) (e : EntryData) → HasRank p m e → HasRank p n e → m ≡ n
  rank_same m n e a b = elim (cases_lt m n) [
    | inl lt ↦ absurd (b.first m a.round lt a.is a.has)
    | inr ge ↦ elim (cases_lt n m) [
      | inl lt ↦ absurd (a.first n b.round lt b.is b.has)
      | inr le ↦ omega (arith, ge, le)
    ]
  ]

  not_both_less : (d e : EntryData) → entry_cmp d e ≡ Less → entry_cmp e d ≡ Less → ⊥
  not_both_less d e a b = let f : Less ≡ Greater = sym a ∙ (entry_cmp_total.antisymm d e ∙ ap ordering_reverse b) in cc

  pub not_both : (d e : EntryData) → IsBefore p d e → IsBefore p e d → ⊥
  not_both d e a b =
      let first = rank_same a.m b.n d a.one b.other in
      let second = rank_same a.n b.m e a.other b.one in
      elim a.order [
        | inl lt ↦ elim b.order [
          | inl gt ↦ absurd (omega (arith, first, second, lt, gt))
          | inr (same, less) ↦ absurd (omega (arith, first, second, lt, same))
        ]
        | inr (same, less) ↦ elim b.order [
          | inl gt ↦ absurd (omega (arith, first, second, gt, same))
          | inr (also, greater) ↦ not_both_less d e less greater
        ]
      ]
