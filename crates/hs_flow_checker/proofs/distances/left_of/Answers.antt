use Rattle.std.proofs.Common.{◌≡◌, sym, subst, ℕ, List, [], ◌∷◌, ◌++◌, get_or, Contains, ◌⊎◌, inl, inr, arith}
use Rattle.std.proofs.lemmas.List.Elements.{Contains-append_left, Contains-append_cases, Contains-get_or}
use Rattle.hs_scheme.specs.declared.flow.FlowPair.{FlowPair}
use Rattle.hs_scheme.specs.declared.flow.HeadPair.{HeadPair}
use Rattle.hs_scheme.proofs.Lists.{only}
use Rattle.hs_flow_checker.specs.PassedOn.{HasPassed}
use Rattle.hs_flow_checker.proofs.distances.left_of.Goals as goal

abbrev d : FlowPair
d = record { rule = 0; param = 0; point = 0 }

-- one base less is left
module _ (bases left before : List HeadPair) (base : HeadPair) (is : left ≡ before ++ base ∷ []) where
  part_less : ((h : HeadPair) → Contains left h → Contains bases h) → (h : HeadPair) → Contains before h → Contains bases h
  part_less part h k = part h (subst (λ (hs : List HeadPair). Contains hs h) (sym is) (Contains-append_left before (base ∷ []) h k))

  rest_less : (pairs : List FlowPair) (n u : ℕ) → HasPassed pairs base n u → ((h : HeadPair) → Contains bases h → Contains left h ⊎ HasPassed pairs h n u) → (h : HeadPair) → Contains bases h → Contains before h ⊎ HasPassed pairs h n u
  rest_less pairs n u own rest h there = elim (rest h there) [
    | inl l ↦ elim (Contains-append_cases before (base ∷ []) h (subst (λ (hs : List HeadPair). Contains hs h) is l)) [
      | inl b ↦ inl b
      | inr last ↦ inr (subst (λ (x : HeadPair). HasPassed pairs x n u) (sym (only base h last)) own)
    ]
    | inr found ↦ inr found
  ]

pub loop-base-preserved : goal.loop-base-preserved
loop-base-preserved c =
    let inv = c.loop-base.invariant in
    let pairs = c.args.pairs.now in
    let own : HasPassed pairs c.in-Some.base.now c.args.number c.args.arg = (get_or pairs c.loop-base.place d, (Contains-get_or pairs c.loop-base.place d inv.within, c.is_of.ensures c.if-not-is_of.false)) in
    let is = c.in-Some.ensures.cases.0 in
    record {
      within = omega (arith, inv.within);
      part = part_less c.args.bases.now c.loop-base.left.now c.in-Some.before.now c.in-Some.base.now is inv.part;
      rest = rest_less c.args.bases.now c.loop-base.left.now c.in-Some.before.now c.in-Some.base.now is pairs c.args.number c.args.arg own inv.rest;
    }

pub returns-then-place-distance-clause-part : goal.returns-then-place-distance-clause-part
returns-then-place-distance-clause-part c = part_less c.args.bases.now c.loop-base.left.now c.in-Some.before.now c.in-Some.base.now c.in-Some.ensures.cases.0 c.loop-base.invariant.part

pub returns-then-place-distance-clause-rest : goal.returns-then-place-distance-clause-rest
returns-then-place-distance-clause-rest c =
    let inv = c.loop-base.invariant in
    let pairs = c.args.pairs.now in
    let own : HasPassed pairs c.in-Some.base.now c.args.number c.args.arg = (get_or pairs c.loop-base.place d, (Contains-get_or pairs c.loop-base.place d inv.within, c.is_of.ensures c.if-not-is_of.false)) in
    rest_less c.args.bases.now c.loop-base.left.now c.in-Some.before.now c.in-Some.base.now c.in-Some.ensures.cases.0 pairs c.args.number c.args.arg own inv.rest
