use Rattle.std.proofs.Common.{◌≡◌, sym, ap, subst, ℕ, List, length, get_or, Contains, arith, rules}
use Rattle.hs_scheme.specs.declared.flow.HeadPair.{HeadPair}
use Rattle.hs_flow_checker.specs.Starts.{AreHeadStarts}
use Rattle.hs_scheme.specs.flow.Flow.{head_cmp}
use Rattle.hs_scheme.proofs.Lists.{none_in}
use Rattle.hs_flow_checker.proofs.StartLemmas.{part_rises, part_within, part_exact, ascending_part}
use Rattle.hs_flow_checker.proofs.head_pairs.HeadPairs.at_point.Goals as goal

abbrev point_of : HeadPair → ℕ
point_of h = h.point

-- what is known of the field is known of the slice of it
moved : (pairs : List HeadPair) (starts items : List ℕ) → items ≡ starts → AreHeadStarts pairs starts → AreHeadStarts pairs items
moved pairs starts items e h = subst (λ (ns : List ℕ). AreHeadStarts pairs ns) (sym e) h

pub returns-then-place-starts-clause-has : goal.returns-then-place-starts-clause-has
returns-then-place-starts-clause-has c = λ h. (
  λ k. absurd (none_in h k),
  λ both.
      let there = c.self.invariant.starts.within h (subst (λ (hs : List HeadPair). Contains hs h) (sym c.self.view_is) both.0) in
      absurd (omega (arith, there, both.1, c.if-place-starts.true, ap length c.as_slice-starts.ensures.value)),
)

pub slice_bounds-result-count : goal.slice_bounds-result-count
slice_bounds-result-count c =
    part_rises point_of c.self.inside.pairs.now c.as_slice-starts.result.now c.args.point
    (moved c.self.inside.pairs.now c.self.inside.starts.items c.as_slice-starts.result.now c.as_slice-starts.ensures.value c.self.invariant.starts) c.if-place-starts.false

pub slice_bounds-result-start : goal.slice_bounds-result-start
slice_bounds-result-start c =
    let are = moved c.self.inside.pairs.now c.self.inside.starts.items c.as_slice-starts.result.now c.as_slice-starts.ensures.value c.self.invariant.starts in
    let h = part_rises point_of c.self.inside.pairs.now c.as_slice-starts.result.now c.args.point are c.if-place-starts.false in
    let k = part_within point_of c.self.inside.pairs.now c.as_slice-starts.result.now c.args.point are c.if-place-starts.false in
    search rules

pub returns-clause-has : goal.returns-clause-has
returns-clause-has c = λ h.
    let exact = part_exact point_of c.self.inside.pairs.now c.as_slice-starts.result.now c.args.point
    (moved c.self.inside.pairs.now c.self.inside.starts.items c.as_slice-starts.result.now c.as_slice-starts.ensures.value c.self.invariant.starts) c.if-place-starts.false h in
    (λ k. let b = exact.0 k in (subst (λ (hs : List HeadPair). Contains hs h) c.self.view_is b.0, b.1), λ b. exact.1 (subst (λ (hs : List HeadPair). Contains hs h) (sym c.self.view_is) b.0, b.1))

pub returns-clause-ascending : goal.returns-clause-ascending
returns-clause-ascending c = ascending_part head_cmp c.self.inside.pairs.now (get_or c.as_slice-starts.result.now c.args.point 0) _ c.self.invariant.ascending
