use Rattle.std.proofs.Common.{sym, subst, ◌+◌, List, ◌∷◌, take, arith, inl, inr, Contains}
use Rattle.std.proofs.lemmas.List.{take_all}
use Rattle.hs_scheme.proofs.Lists.{none_in, here, later, uncons}
use Rattle.hs_rules.specs.Found.{HeadData, HasRow}
use Rattle.hs_rules.proofs.Lists.{taken_cases}
use Rattle.hs_rules.proofs.FoundLemmas.{lower_then, lowers_then}
use Rattle.hs_rules.proofs.found.add_each.Goals as goal

pub loop-other-init : goal.loop-other-init
loop-other-init c = record {
  rows = c.in_ok-add_all.ensures.rows;
  lowers = c.in_ok-add_all.ensures.lowers;
  rows_of = λ d there. elim (c.in_ok-add_all.ensures.only d there) [
    | inl was ↦ inl was
    | inr row ↦ inr (c.args.head.now, here c.args.head.now c.args.alike.now, row)
  ];
  all = λ h there x of. elim (uncons c.args.head.now h (take 0 c.args.alike.now) there) [
    | inl is ↦ subst (λ (y : HeadData). HasRow c.args.point y x c.add_all.new.found.list.items) (sym is) (c.in_ok-add_all.ensures.all x of)
    | inr nowhere ↦ absurd (none_in h nowhere)
  ];
}

pub loop-other-preserved : goal.loop-other-preserved
loop-other-preserved c =
    let head = c.args.head.now in
    let alike = c.args.alike.now in
    let item = c.other-item.result in
    let among : Contains alike item = (c.loop-other.other-index, c.loop-other-test.true, sym c.other-item.is) in
    let old = c.loop-other.found.list.items in
    let new = c.add_all-in-loop-other.new.found.list.items in
    record {
      rows = c.in_ok-add_all-2.ensures.rows;
      lowers = lowers_then c.args.found.now.list.items old new c.loop-other.invariant.lowers c.in_ok-add_all-2.ensures.lowers;
      rows_of = λ d there. elim (c.in_ok-add_all-2.ensures.only d there) [
        | inl was ↦ c.loop-other.invariant.rows_of d was
        | inr row ↦ inr (item, later head item alike among, row)
      ];
      all = λ h there x of.
          let stays : Contains (head ∷ take c.loop-other.other-index alike) h → HasRow c.args.point h x new = λ was. lower_then old new (record { point = c.args.point; env = x.env; ty = h.rest }) (record { head = h.by; args = x.args }) (c.loop-other.invariant.all h was x of) c.in_ok-add_all-2.ensures.lowers in
          elim (uncons head h (take (c.loop-other.other-index + 1) alike) there) [
            | inl is ↦ stays (subst (λ (y : HeadData). Contains (head ∷ take c.loop-other.other-index alike) y) (sym is) (here head (take c.loop-other.other-index alike)))
            | inr behind ↦ elim (taken_cases alike c.loop-other.other-index item h c.loop-other-test.true c.other-item.is behind) [
              | inl was ↦ stays (later head h (take c.loop-other.other-index alike) was)
              | inr is ↦ subst (λ (y : HeadData). HasRow c.args.point y x new) (sym is) (c.in_ok-add_all-2.ensures.all x of)
            ]
          ];
    }

pub returns-clause-all : goal.returns-clause-all
returns-clause-all c = λ few h there.
    c.loop-other.invariant.all h (subst (λ (xs : List HeadData). Contains (c.args.head.now ∷ xs) h) (sym (take_all c.loop-other.other-index c.args.alike.now c.loop-other-test.false)) there)

pub returns-then-len-most-clause-rows : goal.returns-then-len-most-clause-rows
returns-then-len-most-clause-rows c = c.loop-other.invariant.rows

pub returns-then-len-most-clause-lowers : goal.returns-then-len-most-clause-lowers
returns-then-len-most-clause-lowers c = c.loop-other.invariant.lowers

pub returns-then-len-most-clause-only : goal.returns-then-len-most-clause-only
returns-then-len-most-clause-only c = c.loop-other.invariant.rows_of

pub returns-then-len-most-clause-all : goal.returns-then-len-most-clause-all
returns-then-len-most-clause-all c = λ few. absurd (omega (arith, few, c.if-len-most.true, c.len.ensures))
