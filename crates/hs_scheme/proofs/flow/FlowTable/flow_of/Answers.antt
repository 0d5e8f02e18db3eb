use Rattle.std.proofs.Common.{◌≡◌, sym, ◌∙◌, ap, subst, ℕ, ◌+◌, ◌-◌, ◌<◌, ◌≤◌, List, [], take, drop, filter, length, slice_index, Option, Some, None, arith, get_or, refl, rules}
use Rattle.std.proofs.lemmas.List.{get_or_default}
use Rattle.std.specs.Prelude.{SomeIff}
use Rattle.std.proofs.lemmas.List.Kept.{AllPairs-filter}
use Rattle.std.specs.declared.cmp.Ordering.TheVariants.{Less}
use Rattle.hs_scheme.specs.declared.flow.FlowPair.{FlowPair}
use Rattle.hs_scheme.specs.flow.Flow.{FlowData, flow_cmp, IsAscending}
use Rattle.hs_scheme.proofs.FlowLemmas.{is_of}
use Rattle.hs_scheme.proofs.FlowRowLemmas.{in_order, in_pairs, between, none_of}
use Rattle.hs_scheme.proofs.flow.FlowTable.flow_of.Goals as goal

nowhere : (o : Option ℕ) (P : Type 0) (v : ℕ) → SomeIff o P v → ((x : ℕ) → o ≡ Some x → ⊥) → P → ⊥
nowhere None P v none_is never p = none_is p
nowhere (Some x) P v there never p = never x refl

filtered : (rule param : ℕ) (pairs whole row : List FlowPair) → pairs ≡ whole → IsAscending flow_cmp pairs → row ≡ filter (is_of rule param) pairs → (row ≡ filter (is_of rule param) whole) × IsAscending flow_cmp row
filtered rule param pairs whole row same up is = (
  is ∙ ap (filter (is_of rule param)) same,
  subst (λ (ps : List FlowPair). IsAscending flow_cmp ps) (sym is) (AllPairs-filter (λ a b. flow_cmp a b ≡ Less) (is_of rule param) pairs up),
)

pub returns-in_default : goal.returns-in_default
returns-in_default c =
    let f = filtered c.args.rule c.args.param c.self.inside.pairs.items c.args.self.now.pairs [] (ap (λ (t : FlowData). t.pairs) c.self.view_is) c.self.invariant.0.pairs
    (none_of c.self.inside.params c.self.inside.pairs.items c.args.rule c.args.param c.self.invariant.1.parameters (nowhere c.number.result _ _ c.number.ensures.number c.in_default.not-Some)) in
    record { pairs = f.0; ascending = f.1 }

-- what is read at a number is the start there
read : (starts : List ℕ) (n x : ℕ) → n < length starts → x ≡ get_or starts n x → x ≡ slice_index starts n
read starts n x lt e = e ∙ get_or_default starts n x 0 lt

module _ (c : goal.After-deref) where
  from_is : c.index-from.result.now ≡ slice_index c.self.inside.starts.items c.in-Some.number
  from_is = read c.self.inside.starts.items c.in-Some.number c.index-from.result.now (omega (arith, c.self.invariant.1.long, c.in-Some.ensures.within)) c.index-from.ensures

  to_is : c.index-to.result.now ≡ slice_index c.self.inside.starts.items (c.in-Some.number + 1)
  to_is = read c.self.inside.starts.items (c.in-Some.number + 1) c.index-to.result.now (omega (arith, c.self.invariant.1.long, c.in-Some.ensures.within)) c.index-to.ensures

  up : c.index-from.result.now ≤ c.index-to.result.now
  up = omega (arith, from_is, to_is, in_order c.self.inside.params c.self.inside.pairs.items c.self.inside.starts.items c.self.invariant.1 c.args.rule c.args.param c.in-Some.ensures.number.0 c.in-Some.number c.in-Some.ensures.number.1 c.in-Some.ensures.within)

  within : c.index-to.result.now ≤ length c.deref.result.now
  within = omega (arith, to_is, ap length c.deref.ensures.value, in_pairs c.self.inside.params c.self.inside.pairs.items c.self.inside.starts.items c.self.invariant.1 c.args.rule c.args.param c.in-Some.ensures.number.0 c.in-Some.number c.in-Some.ensures.number.1 c.in-Some.ensures.within)

pub slice_bounds-result-count : goal.slice_bounds-result-count
slice_bounds-result-count c = up c

pub offset_bounds-deref-from : goal.offset_bounds-deref-from
offset_bounds-deref-from c = let h = up c in let k = within c in grind arith

pub slice_bounds-result-start : goal.slice_bounds-result-start
slice_bounds-result-start c = let h = up c in let k = within c in search rules

pub returns : goal.returns
returns c =
    let f = filtered c.args.rule c.args.param c.self.inside.pairs.items c.args.self.now.pairs (take (c.index-to.result.now - c.index-from.result.now) (drop c.index-from.result.now c.deref.result.now))
    (ap (λ (t : FlowData). t.pairs) c.self.view_is) c.self.invariant.0.pairs
    ((λ i. take (there_to i - there_from i) (drop (there_from i) (c.deref.ensures.value i)))
    ∙ between c.self.inside.params c.self.inside.pairs.items c.self.inside.starts.items c.self.invariant.1 c.args.rule c.args.param c.in-Some.ensures.number.0 c.in-Some.number c.in-Some.ensures.number.1 c.in-Some.ensures.within) in
    record { pairs = f.0; ascending = f.1 }
  where
    there_from : c.index-from.result.now ≡ slice_index c.self.inside.starts.items c.in-Some.number
    there_from = read c.self.inside.starts.items c.in-Some.number c.index-from.result.now (omega (arith, c.self.invariant.1.long, c.in-Some.ensures.within)) c.index-from.ensures

    there_to : c.index-to.result.now ≡ slice_index c.self.inside.starts.items (c.in-Some.number + 1)
    there_to = read c.self.inside.starts.items (c.in-Some.number + 1) c.index-to.result.now (omega (arith, c.self.invariant.1.long, c.in-Some.ensures.within)) c.index-to.ensures
