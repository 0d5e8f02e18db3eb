use Rattle.std.proofs.Common.{◌≡◌, sym, subst, ◌+◌, length, get_or, slice_get, Some, arith, ◌<◌, inl}
use Rattle.std.proofs.lemmas.Result.{on_ok_weaker}
use Rattle.hs_scheme.specs.declared.flow.Pair.TheVariants.{OfFlow, OfHead}
use Rattle.hs_scheme.proofs.Lists.{slice_get-read}
use Rattle.hs_flow.specs.Passing.{PassedBy}
use Rattle.hs_flow.proofs.PairLemmas.{finds_then, finds_keep, finds_nothing}
use Rattle.hs_flow.proofs.PassLemmas.{passing, flow_by, head_by, early_by, done_by, flow_addable, head_addable, step_so_far, step_behind, slice_get-number, none_given, rule_within}
use Rattle.std.proofs.lemmas.Bool.{lt-ltb}
use Rattle.hs_flow.specs.Pairs.{PairsData}
use Rattle.hs_flow.proofs.pairs.Pairs.pass.Goals as goal

pub add-requires : goal.add-requires
add-requires c =
    let h = c.in-Some.ensures.lookup.3 in
    let at : slice_get c.self.inside.rules.now c.args.base ≡ Some c.in-Some.rule.now = slice_get-read c.self.inside.rules.now c.args.base c.in-Some.rule.now h.0 (sym (h.1 c.in-Some.rule.now)) in
    let w = passing c.self.view_is c.self.invariant c.args.base c.args.given c.args.point c.args_of-args.result.now c.in-Some.rule.now at c.requires.point c.args_of-args.ensures.args in
    let i = c.loop-arg.arg-index in let a = get_or c.args_of-args.result.now i 0 in
    flow_addable c.args.self.now c.args.base c.args.given c.args.point c.args_of-args.result.now c.in-Some.rule.now w c.requires.addable c.loop-arg.self c.loop-arg.invariant.finds c.loop-arg.param c.loop-arg.invariant.behind
    i a (slice_get-number c.args_of-args.result.now i c.loop-arg-test.true) c.loop-arg.invariant.param c.if-rule-param.false

pub returns-in_err-add-clause-finds : goal.returns-in_err-add-clause-finds
returns-in_err-add-clause-finds c =
    let h = c.in-Some.ensures.lookup.3 in
    let at : slice_get c.self.inside.rules.now c.args.base ≡ Some c.in-Some.rule.now = slice_get-read c.self.inside.rules.now c.args.base c.in-Some.rule.now h.0 (sym (h.1 c.in-Some.rule.now)) in
    let w = passing c.self.view_is c.self.invariant c.args.base c.args.given c.args.point c.args_of-args.result.now c.in-Some.rule.now at c.requires.point c.args_of-args.ensures.args in
    let i = c.loop-arg.arg-index in let a = get_or c.args_of-args.result.now i 0 in
    let P = PassedBy c.args.self.now.rules c.args.base c.args.given c.args.point in
    finds_then P (λ q. q ≡ OfFlow (record { rule = c.args.base; param = c.loop-arg.param; point = a })) P c.args.self.now c.loop-arg.self c.add.new.self (λ q k. k)
    (λ q e. subst P (sym e) (flow_by c.args.self.now.rules c.args.base c.args.given c.args.point c.args_of-args.result.now c.in-Some.rule.now w i a c.loop-arg.param (slice_get-number c.args_of-args.result.now i c.loop-arg-test.true)
    c.loop-arg.invariant.param c.if-rule-param.false)) c.loop-arg.invariant.finds c.add.ensures.finds

pub loop-arg-preserved : goal.loop-arg-preserved
loop-arg-preserved c =
    let h = c.in-Some.ensures.lookup.3 in
    let at : slice_get c.self.inside.rules.now c.args.base ≡ Some c.in-Some.rule.now = slice_get-read c.self.inside.rules.now c.args.base c.in-Some.rule.now h.0 (sym (h.1 c.in-Some.rule.now)) in
    let w = passing c.self.view_is c.self.invariant c.args.base c.args.given c.args.point c.args_of-args.result.now c.in-Some.rule.now at c.requires.point c.args_of-args.ensures.args in
    let i = c.loop-arg.arg-index in let a = get_or c.args_of-args.result.now i 0 in
    let P = PassedBy c.args.self.now.rules c.args.base c.args.given c.args.point in
    record {
      param = omega arith;
      finds = finds_then P (λ q. q ≡ OfFlow (record { rule = c.args.base; param = c.loop-arg.param; point = a })) P c.args.self.now c.loop-arg.self c.add.new.self (λ q k. k)
          (λ q e. subst P (sym e) (flow_by c.args.self.now.rules c.args.base c.args.given c.args.point c.args_of-args.result.now c.in-Some.rule.now w i a c.loop-arg.param (slice_get-number c.args_of-args.result.now i c.loop-arg-test.true)
          c.loop-arg.invariant.param c.if-rule-param.false)) c.loop-arg.invariant.finds c.add.ensures.finds;
      so_far = step_so_far c.args_of-args.result.now c.args.base c.args.given c.loop-arg.self c.add.new.self i c.loop-arg.param a (slice_get-number c.args_of-args.result.now i c.loop-arg-test.true) c.loop-arg.invariant.param c.add.ensures.finds
          c.in_ok-add.ensures.there c.loop-arg.invariant.so_far;
      behind = step_behind c.loop-arg.self c.add.new.self c.args.self.now.found c.loop-arg.param a c.args.base c.add.ensures.finds c.loop-arg.invariant.behind;
      few = c.in_ok-add.ensures.limit.within;
    }

pub returns-then-param-rule-clause-all : goal.returns-then-param-rule-clause-all
returns-then-param-rule-clause-all c =
    let h = c.in-Some.ensures.lookup.3 in
    let at : slice_get c.self.inside.rules.now c.args.base ≡ Some c.in-Some.rule.now = slice_get-read c.self.inside.rules.now c.args.base c.in-Some.rule.now h.0 (sym (h.1 c.in-Some.rule.now)) in
    let w = passing c.self.view_is c.self.invariant c.args.base c.args.given c.args.point c.args_of-args.result.now c.in-Some.rule.now at c.requires.point c.args_of-args.ensures.args in
    early_by c.args.self.now.rules c.args.base c.args.given c.args.point c.args_of-args.result.now c.in-Some.rule.now w c.loop-arg.self.found c.loop-arg.arg-index c.loop-arg.invariant.so_far (omega arith) c.loop-arg.auto.arg-index-end

pub add-requires-2 : goal.add-requires-2
add-requires-2 c =
    let h = c.in-Some.ensures.lookup.3 in
    let at : slice_get c.self.inside.rules.now c.args.base ≡ Some c.in-Some.rule.now = slice_get-read c.self.inside.rules.now c.args.base c.in-Some.rule.now h.0 (sym (h.1 c.in-Some.rule.now)) in
    let w = passing c.self.view_is c.self.invariant c.args.base c.args.given c.args.point c.args_of-args.result.now c.in-Some.rule.now at c.requires.point c.args_of-args.ensures.args in
    let whole : c.loop-arg.param ≡ c.args.given + length c.args_of-args.result.now = omega arith in
    head_addable c.args.self.now c.args.base c.args.given c.args.point c.args_of-args.result.now c.in-Some.rule.now w c.requires.addable c.loop-arg.self c.loop-arg.invariant.finds c.loop-arg.param c.loop-arg.invariant.behind
    whole c.if-param-rule.false

pub returns-clause-finds : goal.returns-clause-finds
returns-clause-finds c =
    let h = c.in-Some.ensures.lookup.3 in
    let at : slice_get c.self.inside.rules.now c.args.base ≡ Some c.in-Some.rule.now = slice_get-read c.self.inside.rules.now c.args.base c.in-Some.rule.now h.0 (sym (h.1 c.in-Some.rule.now)) in
    let w = passing c.self.view_is c.self.invariant c.args.base c.args.given c.args.point c.args_of-args.result.now c.in-Some.rule.now at c.requires.point c.args_of-args.ensures.args in
    let P = PassedBy c.args.self.now.rules c.args.base c.args.given c.args.point in
    let whole : c.loop-arg.param ≡ c.args.given + length c.args_of-args.result.now = omega arith in
    finds_then P (λ q. q ≡ OfHead (record { point = c.args.point; rule = c.args.base; given = c.loop-arg.param })) P c.args.self.now c.loop-arg.self c.add-2.new.self (λ q k. k)
    (λ q e. subst P (sym e) (head_by c.args.self.now.rules c.args.base c.args.given c.args.point c.args_of-args.result.now c.in-Some.rule.now w c.loop-arg.param whole c.if-param-rule.false)) c.loop-arg.invariant.finds c.add-2.ensures.finds

pub returns-clause-all : goal.returns-clause-all
returns-clause-all c =
    let h = c.in-Some.ensures.lookup.3 in
    let at : slice_get c.self.inside.rules.now c.args.base ≡ Some c.in-Some.rule.now = slice_get-read c.self.inside.rules.now c.args.base c.in-Some.rule.now h.0 (sym (h.1 c.in-Some.rule.now)) in
    let w = passing c.self.view_is c.self.invariant c.args.base c.args.given c.args.point c.args_of-args.result.now c.in-Some.rule.now at c.requires.point c.args_of-args.ensures.args in
    let whole : c.loop-arg.param ≡ c.args.given + length c.args_of-args.result.now = omega arith in
    on_ok_weaker c.add-2.result (λ there. done_by c.args.self.now.rules c.args.base c.args.given c.args.point c.args_of-args.result.now c.in-Some.rule.now w c.add-2.new.self.found c.loop-arg.arg-index c.loop-arg.param
    (λ i a lt k. finds_keep _ c.loop-arg.self c.add-2.new.self c.add-2.ensures.finds _ (c.loop-arg.invariant.so_far i a lt k)) c.loop-arg-test.false whole there) c.add-2.ensures.there

pub returns-in_default-clause-finds : goal.returns-in_default-clause-finds
returns-in_default-clause-finds c = finds_nothing (PassedBy c.args.self.now.rules c.args.base c.args.given c.args.point) c.args.self.now

pub returns-in_default-clause-all : goal.returns-in_default-clause-all
returns-in_default-clause-all c = λ q h.
    let less : c.args.base < length c.self.inside.rules.now =
    subst (λ (x : PairsData). c.args.base < length x.rules) (sym c.self.view_is) (rule_within c.args.self.now.rules c.args.base c.args.given c.args.point q h) in
    let yes = lt-ltb c.args.base (length c.self.inside.rules.now) less in
    let no = c.in_default.ensures.lookup.0 in
    absurd (cc)

pub returns-in_default-clause-limit : goal.returns-in_default-clause-limit
returns-in_default-clause-limit c = record { within = c.requires.within; over = λ e. absurd (cc) }

pub loop-arg-init : goal.loop-arg-init
loop-arg-init c = record {
  param = none_given c.args.given;
  finds = finds_nothing (PassedBy c.args.self.now.rules c.args.base c.args.given c.args.point) c.args.self.now;
  so_far = λ i a lt. absurd (omega (arith, lt));
  behind = λ q h. inl h;
  few = c.requires.within;
}

pub returns-then-rule-param-clause-finds : goal.returns-then-rule-param-clause-finds
returns-then-rule-param-clause-finds c = c.loop-arg.invariant.finds

pub returns-then-rule-param-clause-all : goal.returns-then-rule-param-clause-all
returns-then-rule-param-clause-all c =
    let h = c.in-Some.ensures.lookup.3 in
    let at : slice_get c.self.inside.rules.now c.args.base ≡ Some c.in-Some.rule.now = slice_get-read c.self.inside.rules.now c.args.base c.in-Some.rule.now h.0 (sym (h.1 c.in-Some.rule.now)) in
    let w = passing c.self.view_is c.self.invariant c.args.base c.args.given c.args.point c.args_of-args.result.now c.in-Some.rule.now at c.requires.point c.args_of-args.ensures.args in
    early_by c.args.self.now.rules c.args.base c.args.given c.args.point c.args_of-args.result.now c.in-Some.rule.now w c.loop-arg.self.found c.loop-arg.arg-index c.loop-arg.invariant.so_far (omega arith) (omega arith)

pub returns-then-rule-param-clause-limit : goal.returns-then-rule-param-clause-limit
returns-then-rule-param-clause-limit c = record { within = c.loop-arg.invariant.few; over = λ e. absurd (cc) }

pub returns-then-param-rule-clause-finds : goal.returns-then-param-rule-clause-finds
returns-then-param-rule-clause-finds c = c.loop-arg.invariant.finds

pub returns-then-param-rule-clause-limit : goal.returns-then-param-rule-clause-limit
returns-then-param-rule-clause-limit c = record { within = c.loop-arg.invariant.few; over = λ e. absurd (cc) }

pub returns-clause-limit : goal.returns-clause-limit
returns-clause-limit c = c.add-2.ensures.limit
