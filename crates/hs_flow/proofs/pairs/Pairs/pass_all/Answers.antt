use Rattle.std.proofs.Common.{◌≡◌, ◌<◌, refl, sym, subst, List, length, get_or, inl, inr}
use Rattle.std.proofs.lemmas.Option.{slice_get_within}
use Rattle.std.proofs.lemmas.List.Elements.{Contains-get_or}
use Rattle.hs_scheme.specs.declared.term.Rule.{Rule}
use Rattle.hs_scheme.specs.declared.flow.Pair.{Pair}
use Rattle.hs_scheme.specs.flow.Points.{points_of}
use Rattle.hs_flow.specs.Passing.{PassedBy, PassedFor}
use Rattle.hs_flow.specs.Pairs.{FindsOnly}
use Rattle.hs_flow.proofs.PairLemmas.{finds_rules, finds_then, finds_weaker, addable_more}
use Rattle.hs_flow.proofs.PassingLemmas.{passed_once, its_users, users_once, its_user_for}
use Rattle.hs_flow.proofs.SpreadLemmas.{each_so_far, each_behind, each_done, not_before}
use Rattle.hs_flow.proofs.pairs.Pairs.pass_all.Goals as goal

pub pass-requires-clause-point : goal.pass-requires-clause-point
pass-requires-clause-point c =
    let rules = c.args.self.now.rules in let us = c.list-list.result.now in let i = c.loop-point.point-index in let p = get_or us i 0 in
    let same : c.loop-point.self.rules ≡ rules = finds_rules (PassedFor rules c.args.base) c.args.self.now c.loop-point.self c.loop-point.invariant.finds in
    let u = (its_users c.self.view_is c.self.invariant c.args.base.rule c.args.base.param us c.list-list.ensures p).0 (Contains-get_or us i 0 c.loop-point-test.true) in
    subst (λ (rs : List Rule). p < length (points_of rs).points) (sym same) (slice_get_within (points_of rules).points p u.of u.at)

pub pass-requires-clause-addable : goal.pass-requires-clause-addable
pass-requires-clause-addable c = λ q h.
    let rules = c.args.self.now.rules in let us = c.list-list.result.now in let i = c.loop-point.point-index in let p = get_or us i 0 in let b = c.args.base in
    let same : c.loop-point.self.rules ≡ rules = finds_rules (PassedFor rules b) c.args.self.now c.loop-point.self c.loop-point.invariant.finds in
    let by : PassedBy rules b.base b.given p q = subst (λ (rs : List Rule). PassedBy rs b.base b.given p q) same h in
    let can = c.requires.addable q (its_user_for c.self.view_is c.self.invariant b.rule b.param us c.list-list.ensures b refl refl p q (Contains-get_or us i 0 c.loop-point-test.true) by) in
    addable_more (PassedFor rules b) c.args.self.now c.loop-point.self c.loop-point.invariant.finds q can (λ there. elim (c.loop-point.invariant.behind q there) [
      | inl was ↦ can.absent was
      | inr f ↦ not_before us i f.item (users_once c.self.view_is c.self.invariant b.rule b.param us c.list-list.ensures) c.loop-point-test.true f.among (passed_once rules b.base b.given f.item b.base b.given p q f.holds by).0
    ])

pub returns-in_err-pass-clause-finds : goal.returns-in_err-pass-clause-finds
returns-in_err-pass-clause-finds c =
    let rules = c.args.self.now.rules in let us = c.list-list.result.now in let i = c.loop-point.point-index in let p = get_or us i 0 in let b = c.args.base in
    let same : c.loop-point.self.rules ≡ rules = finds_rules (PassedFor rules b) c.args.self.now c.loop-point.self c.loop-point.invariant.finds in
    finds_then (PassedFor rules b) (PassedBy c.loop-point.self.rules b.base b.given p) (PassedFor rules b) c.args.self.now c.loop-point.self c.pass.new.self (λ q h. h)
    (λ q h. its_user_for c.self.view_is c.self.invariant b.rule b.param us c.list-list.ensures b refl refl p q (Contains-get_or us i 0 c.loop-point-test.true) (subst (λ (rs : List Rule). PassedBy rs b.base b.given p q) same h))
    c.loop-point.invariant.finds c.pass.ensures.finds

pub loop-point-preserved : goal.loop-point-preserved
loop-point-preserved c =
    let rules = c.args.self.now.rules in let us = c.list-list.result.now in let i = c.loop-point.point-index in let p = get_or us i 0 in let b = c.args.base in
    let mid = c.loop-point.self in let new = c.pass.new.self in
    let same : mid.rules ≡ rules = finds_rules (PassedFor rules b) c.args.self.now mid c.loop-point.invariant.finds in
    let back : (q : Pair) → PassedBy mid.rules b.base b.given p q → PassedBy rules b.base b.given p q = λ q h. subst (λ (rs : List Rule). PassedBy rs b.base b.given p q) same h in
    let finds : FindsOnly (PassedBy rules b.base b.given p) mid new = finds_weaker (PassedBy mid.rules b.base b.given p) mid new c.pass.ensures.finds (PassedBy rules b.base b.given p) back in
    record {
      finds = finds_then (PassedFor rules b) (PassedBy rules b.base b.given p) (PassedFor rules b) c.args.self.now mid new (λ q h. h)
          (λ q h. its_user_for c.self.view_is c.self.invariant b.rule b.param us c.list-list.ensures b refl refl p q (Contains-get_or us i 0 c.loop-point-test.true) h) c.loop-point.invariant.finds finds;
      so_far = each_so_far us (PassedBy rules b.base b.given) i c.loop-point-test.true mid new finds
          (λ q h. c.in_ok-pass.ensures.all q (subst (λ (rs : List Rule). PassedBy rs b.base b.given p q) (sym same) h)) c.loop-point.invariant.so_far;
      behind = each_behind us (PassedBy rules b.base b.given) i c.loop-point-test.true c.args.self.now.found mid new finds c.loop-point.invariant.behind;
      few = c.in_ok-pass.ensures.limit.within;
    }

pub returns-clause-all : goal.returns-clause-all
returns-clause-all c = λ q h.
    let us = c.list-list.result.now in let b = c.args.base in
    each_done us (PassedBy c.args.self.now.rules b.base b.given) c.loop-point.point-index c.loop-point.self.found c.loop-point-test.false c.loop-point.invariant.so_far q
    (record { item = h.user; among = (its_users c.self.view_is c.self.invariant b.rule b.param us c.list-list.ensures h.user).1 h.is_user; holds = h.passed })
