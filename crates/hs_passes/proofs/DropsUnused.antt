-- What the pass that drops unused parameters makes has the same tree, and is no heavier.
use Rattle.std.proofs.Common.{◌≡◌, refl, sym, ◌∙◌, ap, subst, ℕ, ◌≤◌, true, List, slice_get, inl, inr, arith}
use Rattle.std.specs.Prelude.{◌||◌, nat_eq}
use Rattle.std.proofs.lemmas.Bool.{or_left, or_right, eq-eqb, eqb-true, or_cases}
use Rattle.std.proofs.lemmas.Option.{same_Some}
use Rattle.hs_scheme.specs.declared.term.Rule.{Rule}
use Rattle.hs_scheme.specs.Scheme.{IsScheme}
use Rattle.hs_scheme.specs.sorting.Sorted.{SortedData, IsSorted}
use Rattle.hs_scheme.specs.SameTree.{HaveSameTree}
use Rattle.hs_passes.specs.Passing.{KeepsRest}
use Rattle.hs_passes.specs.Weight.{weight}
use Rattle.hs_passes.specs.Leaving.{Keep}
use Rattle.hs_passes.specs.Unused.{without_unused}
use Rattle.hs_passes.specs.Needing.{KeepsOnlyLive}
use Rattle.hs_passes.proofs.Lockstep.{left_same_tree}
use Rattle.hs_passes.proofs.LeftSorted.{left_lighter}
use Rattle.hs_passes.proofs.Needs.{is_live-mono}
use Rattle.hs_passes.proofs.UnusedAll.{Reached, reached_fits, end, image_is}

pub record Drops (s t : SortedData) : Type 0 where
  pub rest : KeepsRest s t
  pub tree : HaveSameTree s.scheme.ranks s.scheme.rules t.scheme.rules
  pub lighter : weight t ≤ weight s

module _ (s : SortedData) (scheme : IsScheme s.scheme) (sorted : IsSorted s) where
  abbrev rules : List Rule
  rules = s.scheme.rules

  -- nothing goes that the start doesn't have
  module _ (keep : Keep) (reached : Reached s keep) (supported : KeepsOnlyLive rules keep) where
    with_start : Keep
    with_start f j = nat_eq f 0 || keep f j

    above_keep : (f j : ℕ) → keep f j ≡ true → with_start f j ≡ true
    unfolding with_start
    above_keep f j on = or_right (nat_eq f 0) (keep f j) on

    start_supported : KeepsOnlyLive rules with_start
    unfolding with_start
    start_supported f j r at lt on = elim (or_cases (nat_eq f 0) (keep f j) on) [
      | inl e ↦
          let is : f ≡ 0 = eqb-true f 0 e in
          let same : scheme.start.0 ≡ r = same_Some scheme.start.0 r (sym scheme.start.1.0 ∙ (ap (slice_get rules) (sym is) ∙ at)) in
          absurd (omega (arith, lt, ap (λ (q : Rule). q.params) same, scheme.start.1.1))
      | inr kept ↦ is_live-mono keep with_start above_keep rules f j (supported f j r at lt kept)
    ]

    pub start_open : (i : ℕ) → keep 0 i ≡ true
    unfolding with_start
    start_open i = reached.above with_start start_supported 0 i (or_left (nat_eq 0 0) (keep 0 i) (eq-eqb 0 0 refl))

  abbrev last : Keep
  last = (end s).last

  pub drops_unused : Drops s (without_unused s)
  drops_unused = subst (Drops s) (sym (image_is s)) (record {
    rest = record { ranks = refl; automaton = refl; terminal_names = refl; state_names = refl };
    tree = left_same_tree last s scheme sorted (reached_fits s last (end s).reached) (start_open last (end s).reached (end s).supported);
    lighter = left_lighter last s;
  })
