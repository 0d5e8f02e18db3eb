-- Where parameters go in an order, none of a set of needed ones goes.
use Rattle.std.proofs.Common.{◌≡◌, refl, sym, ◌∙◌, ap, subst, ℕ, zero, suc, ◌+◌, ◌<◌, ◌≤◌, true, false, cond, List, length, take, get_or, map, slice_get, Some, inl, inr, arith}
use Rattle.std.specs.Prelude.{◌||◌, ◌&&◌, nat_lt, nat_le, sum, slice_index}
use Rattle.std.proofs.Math.Nat.{eq-or-lt_of_le}
use Rattle.std.proofs.lemmas.Bool.{cases_lt, le-leb, lt-ltb, ltb-true, and_parts, or_cases, false_from_ne_true}
use Rattle.std.proofs.lemmas.Option.{slice_get-get_or, slice_get_within, same_Some}
use Rattle.std.proofs.lemmas.List.{get_or-map}
use Rattle.hs_scheme.specs.declared.term.Head.{Head}
use Rattle.hs_scheme.specs.declared.term.Head.TheVariants.{Var, Nt, Tm}
use Rattle.hs_scheme.specs.declared.term.Rule.{Rule}
use Rattle.hs_scheme.specs.Tree.{Tree, node, forest}
use Rattle.hs_scheme.specs.sorting.Parameters.{counts_of, IsParameter, parameter_of}
use Rattle.hs_scheme.proofs.ParameterLemmas.{number_within}
use Rattle.hs_passes.specs.Leaving.{Keep, keeps}
use Rattle.hs_passes.specs.Unused.{needs_at}
use Rattle.hs_passes.specs.Needing.{live, live_in, kept, KeepsOnlyLive, IsAbove}
use Rattle.hs_passes.specs.Order.{never, rank_of, rank_behind, IsLater, IsHeadInOrder, IsInOrder, AreInOrder, AllInOrder}
use Rattle.hs_passes.proofs.Needs.{some_of}
use Rattle.hs_passes.proofs.Marks.{live_in-more, whole}
use Rattle.hs_passes.proofs.Settling.{its, kept_from}

module _ (rank : ℕ → ℕ → ℕ) where
  -- an argument that stays is not behind one that went
  not_gone : (keep : Keep) (n : ℕ) → n < never → IsLater rank n keep → (h : Head) (i : ℕ) → keeps keep h i ≡ true → n ≤ rank_behind rank h i
  not_gone keep n lt later (Var j) i on = omega (arith, lt)
  not_gone keep n lt later (Nt f) i on = elim (cases_lt (rank f i) n) [
    | inl less ↦ let gone = later f i less in absurd (cc)
    | inr ge ↦ ge
  ]
  not_gone keep n lt later (Tm a) i on = omega (arith, lt)

  module _ (g low : ℕ) (h : Head) where
    pub args_more : (us : List (Tree Head)) (i least : ℕ) (u : Tree Head) → i < length us → length (take i us) ≡ i → u ≡ get_or us i u
        → ((n : ℕ) → n ≤ low → n ≤ rank_behind rank h i → n ≤ least)
        → AreInOrder rank g low h (forest (take i us)) → IsInOrder rank g least u → AreInOrder rank g low h (forest (take (i + 1) us))
    args_more us i least u lt long is le before it keep n low_n some later f j e r =
        elim (or_cases (live_in keep g f j (keeps keep h) (forest (take i us))) (keeps keep h i && live keep g f j u)
        (ap (λ v. live_in keep g f j (keeps keep h) (forest (take i us)) || (keeps keep h i && live keep g f j v)) is
        ∙ (sym (live_in-more keep g f j (keeps keep h) us i u lt long) ∙ e))) [
          | inl p ↦ before keep n low_n some later f j p r
          | inr p ↦
              let b = and_parts (keeps keep h i) (live keep g f j u) p in
              it keep n (le n low_n (not_gone keep n some later h i b.0)) some later f j b.1 r
        ]

    pub term_in_order : (us : List (Tree Head)) → IsHeadInOrder rank g low h (length us) → AreInOrder rank g low h (forest us) → IsInOrder rank g low (node h (forest us))
    term_in_order us here below keep n low_n some later f j e r =
        elim (or_cases (needs_at g f j h (length us)) (live_in keep g f j (keeps keep h) (forest us)) (whole keep g f j h us ∙ e)) [
          | inl p ↦ here n low_n some f j p r
          | inr p ↦ below keep n low_n some later f j p r
        ]

  at_most : (i g : ℕ) → g < i + 1 → g ≤ i
  at_most i g lt = omega arith

  pub rules_more : (rules : List Rule) (i : ℕ) (r : Rule) → i < length rules → r ≡ get_or rules i r → AllInOrder rank rules i → IsInOrder rank i never r.body → AllInOrder rank rules (i + 1)
  rules_more rules i r lt is before it g q less at = elim (eq-or-lt_of_le (at_most i g less)) [
    | inl e ↦
        let there : slice_get rules i ≡ Some r = slice_get-get_or rules i r lt ∙ ap (λ (k : Rule). Some k) (sym is) in
        let same : r ≡ q = same_Some r q (sym there ∙ (ap (slice_get rules) (sym e) ∙ at)) in
        subst (λ (k : Rule). IsInOrder rank g never k.body) same (subst (λ m. IsInOrder rank m never r.body) (sym e) it)
    | inr l ↦ before g q l at
  ]

  -- all that goes, by its rank, is in no set of needed parameters
  module _ (rules : List Rule) (ordered : AllInOrder rank rules (length rules)) (real : (f j : ℕ) → rank f j < never → IsParameter (counts_of rules) f j)
      (other : Keep) (supported : KeepsOnlyLive rules other) where
    gone_below : (m : ℕ) → m < never → IsLater rank m other
    gone_below zero some f j lt = absurd (omega arith)
    gone_below (suc m) some f j lt = by (gone_below m (omega (arith, some)))
      where
        by : IsLater rank m other → other f j ≡ false
        by below = elim (eq-or-lt_of_le (at_most m (rank f j) (omega (arith, lt)))) [
          | inr less ↦ below f j less
          | inl e ↦ false_from_ne_true (other f j) (λ on.
              let r = its rules f j (real f j (omega (arith, lt, some))) in
              let h = some_of (λ g (q : Rule). live other g f j q.body) rules (supported f j r.rule r.at r.within on) in
              ordered h.number h.rule (slice_get_within rules h.number h.rule h.at) h.at other m (omega (arith, some)) (omega (arith, some)) below f j h.holds e)
        ]

    pub never_goes : (f j : ℕ) → other f j ≡ true → never ≤ rank f j
    never_goes f j on = elim (cases_lt (rank f j) never) [
      | inr ge ↦ ge
      | inl lt ↦
          let r = its rules f j (real f j lt) in
          let h = some_of (λ g (q : Rule). live other g f j q.body) rules (supported f j r.rule r.at r.within on) in
          absurd (ordered h.number h.rule (slice_get_within rules h.number h.rule h.at) h.at other (rank f j) (omega (arith, lt)) lt (gone_below (rank f j) lt) f j h.holds refl)
    ]

module _ (rules : List Rule) (counts : List ℕ) (are : counts ≡ counts_of rules) (ranks : List ℕ) (long : length ranks ≡ sum counts) where
  -- only parameters have ranks
  ranked : (f j : ℕ) → rank_of counts ranks f j < never → IsParameter (counts_of rules) f j
  ranked f j lt = subst (λ cs. IsParameter cs f j) are (elim (cases_lt j (slice_index counts f)) [
    | inl less ↦ less
    | inr ge ↦
        let no_less : nat_lt j (slice_index counts f) ≡ false = false_from_ne_true (nat_lt j (slice_index counts f)) (λ e. absurd (omega (arith, ltb-true j (slice_index counts f) e, ge))) in
        let none : rank_of counts ranks f j ≡ never = ap (λ b. cond b (get_or ranks (parameter_of counts f j) never) never) no_less in
        absurd (omega (arith, lt, none))
  ])

  pub order_above : AllInOrder (rank_of counts ranks) rules (length rules) → IsAbove rules (kept counts (map (λ r. nat_le never r) ranks))
  order_above ordered other supported f j on =
      kept_from rules counts are (map (λ r. nat_le never r) ranks) f j (λ is.
      let n = parameter_of counts f j in
      let late = never_goes (rank_of counts ranks) rules ordered ranked other supported f j on in
      let its_rank : rank_of counts ranks f j ≡ get_or ranks n never = ap (λ b. cond b (get_or ranks n never) never) (lt-ltb j (slice_index counts f) is) in
      get_or-map (λ r. nat_le never r) ranks n never false (omega (arith, long, number_within counts f j is))
      ∙ le-leb never (get_or ranks n never) (omega (arith, late, its_rank)))
