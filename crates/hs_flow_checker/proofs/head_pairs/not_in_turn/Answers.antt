use Rattle.std.proofs.Common.{◌≡◌, sym, subst, ◌<◌, ℕ, length, take, Contains, get_or, inl, inr, arith}
use Rattle.std.proofs.lemmas.List.Elements.{Contains-get_or}
use Rattle.hs_scheme.specs.declared.flow.HeadPair.{HeadPair}
use Rattle.hs_flow_checker.specs.PassedOn.{HasTaken}
use Rattle.hs_flow_checker.proofs.Parts.{next_item, in_parts, in_rest}
use Rattle.hs_flow_checker.proofs.head_pairs.not_in_turn.Goals as goal

abbrev d : HeadPair
d = record { point = 0; rule = 0; given = 0 }

pub returns-then-not-is_of_base-clause-part : goal.returns-then-not-is_of_base-clause-part
returns-then-not-is_of_base-clause-part c = λ b k. in_rest c.args.bases.now c.loop-number.number b k

pub returns-then-not-is_of_base-clause-rest : goal.returns-then-not-is_of_base-clause-rest
returns-then-not-is_of_base-clause-rest c = λ b there. elim (in_parts c.args.bases.now c.loop-number.number b there) [
  | inl before ↦ inr (c.loop-number.invariant b before)
  | inr behind ↦ inl behind
]

pub loop-number-preserved : goal.loop-number-preserved
loop-number-preserved c = λ b there.
    let bases = c.args.bases.now in
    let k = c.loop-number.number in
    let own : HeadPair = get_or bases k d in
    let own_pairs = c.from_place-own.result.now in
    let short : k < length bases = omega (arith, c.loop-number-test.true, c.min-most.ensures) in
    let within : k < length own_pairs = omega (arith, c.loop-number-test.true, c.min-most.ensures) in
    elim (next_item bases k d b short there) [
      | inl before ↦ c.loop-number.invariant b before
      | inr same ↦
          let found = c.is_of_base.ensures c.if-not-is_of_base.false in
          let taken : HasTaken c.args.pairs.now own c.in-Ok.more = (get_or own_pairs k d, (c.from_place-own.ensures (get_or own_pairs k d) (Contains-get_or own_pairs k d within), found)) in
          subst (λ (x : HeadPair). HasTaken c.args.pairs.now x c.args.count) (sym same) (subst (λ (n : ℕ). HasTaken c.args.pairs.now own n) c.in-Ok.ensures.1 taken)
    ]

pub returns-clause-part : goal.returns-clause-part
returns-clause-part c = λ b k. in_rest c.args.bases.now c.min-most.result b k

pub returns-clause-rest : goal.returns-clause-rest
returns-clause-rest c = λ b there.
    let end : c.loop-number.number ≡ c.min-most.result = omega (arith, c.loop-number-test.false, c.loop-number.auto.number-end) in
    elim (in_parts c.args.bases.now c.min-most.result b there) [
      | inl before ↦ inr (c.loop-number.invariant b (subst (λ (n : ℕ). Contains (take n c.args.bases.now) b) (sym end) before))
      | inr behind ↦ inl behind
    ]
