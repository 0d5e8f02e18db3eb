use Rattle.std.proofs.Common.{◌≡◌, sym, subst, ℕ, ◌+◌, ◌⊎◌, List, [], ◌∷◌, get_or, take, Contains, inl, inr}
use Rattle.std.proofs.lemmas.List.{take_more, take_all}
use Rattle.std.proofs.lemmas.List.Elements.{Contains-append_cases}
use Rattle.hs_scheme.specs.declared.flow.FlowPair.{FlowPair}
use Rattle.hs_scheme.specs.declared.flow.Pair.TheVariants.{OfFlow, OfHead}
use Rattle.hs_scheme.specs.flow.Points.{points_of}
use Rattle.hs_scheme.proofs.Lists.{none_in, only}
use Rattle.hs_flow.specs.Bases.{HasBase}
use Rattle.hs_flow.specs.Pairs.{PairsData, HasBaseAt, IsReady, Extends}
use Rattle.hs_flow.proofs.PairLemmas.{extends_same, extends_then, extends_keep, extends_has}
use Rattle.hs_flow.proofs.NotingLemmas.{number_at}
use Rattle.hs_flow.proofs.pairs.Pairs.spread_head.Goals as goal
use Rattle.hs_flow.proofs.pairs.Pairs.spread_head.Goals.{then-not-is_flagged+in_ok-pass_once, else-not-is_flagged}

pub loop-flow-init : goal.loop-flow-init
loop-flow-init c = record {
  extends = extends_same c.args.self.now;
  ready = c.requires.ready;
  so_far = λ f there. absurd (none_in f there);
}

pub pass_once-requires-clause-may : goal.pass_once-requires-clause-may
pass_once-requires-clause-may c =
    let i = c.loop-flow.flow-index in
    let f : FlowPair = get_or c.args.flows.now i (record { rule = 0; param = 0; point = 0 }) in
    let k = c.requires.flows i (record { rule = 0; param = 0; point = 0 }) c.loop-flow-test.true in record {
      point = c.args.head.point;
      flow = extends_keep c.args.self.now c.loop-flow.self c.loop-flow.invariant.extends _ (subst (λ (u : ℕ). Contains c.args.self.now.found (OfFlow (record { rule = f.rule; param = f.param; point = u }))) k.0 k.1);
      head = extends_keep c.args.self.now c.loop-flow.self c.loop-flow.invariant.extends (OfHead c.args.head) c.requires.head;
    }

pub returns-in_err-pass_once-clause-extends : goal.returns-in_err-pass_once-clause-extends
returns-in_err-pass_once-clause-extends c = extends_then c.args.self.now c.loop-flow.self c.pass_once.new.self c.loop-flow.invariant.extends c.pass_once.ensures.extends

pub loop-flow-preserved : goal.loop-flow-preserved
loop-flow-preserved c =
    let i = c.loop-flow.flow-index in
    let this : FlowPair = get_or c.args.flows.now i (record { rule = 0; param = 0; point = 0 }) in
    let mid = c.loop-flow.self in
    let a : PairsData = record { rules = c.self.inside.rules.now; max = c.self.inside.max; found = c.self.inside.found.items; bases = c.self.inside.bases } in
    let cases : (f : FlowPair) → Contains (take (i + 1) c.args.flows.now) f → Contains (take i c.args.flows.now) f ⊎ (f ≡ this) =
    λ f there. elim (Contains-append_cases (take i c.args.flows.now) (this ∷ []) f (subst (λ (xs : List FlowPair). Contains xs f) (take_more c.args.flows.now i (record { rule = 0; param = 0; point = 0 }) c.loop-flow-test.true) there)) [
      | inl was ↦ inl was
      | inr last ↦ inr (only this f last)
    ] in
    elim c.if-not-is_flagged.branch [
      | then-not-is_flagged+in_ok-pass_once w ↦ record {
        extends = subst (Extends c.args.self.now) (sym w.self-is) (extends_then c.args.self.now mid w.pass_once.new.self c.loop-flow.invariant.extends w.pass_once.ensures.extends);
        ready = subst IsReady (sym w.self-is) w.in_ok-pass_once.ensures.ready;
        so_far = subst (λ (x : PairsData). (f : FlowPair) → Contains (take (i + 1) c.args.flows.now) f → HasBaseAt x (record { rule = f.rule; param = f.param; base = c.args.head.rule; given = c.args.head.given })) (sym w.self-is) (λ f there. elim (cases f there) [
          | inl was ↦ extends_has mid w.pass_once.new.self w.pass_once.ensures.extends _ (c.loop-flow.invariant.so_far f was)
          | inr last ↦ subst (λ (f : FlowPair). HasBaseAt w.pass_once.new.self (record { rule = f.rule; param = f.param; base = c.args.head.rule; given = c.args.head.given })) (sym last) w.in_ok-pass_once.ensures.base
        ]);
      }
      | else-not-is_flagged w ↦
          let number = number_at c.self.inside.points.now c.self.inside.users.now a c.args.self.now mid c.self.view_is c.self.invariant c.params-params.result.now c.params-params.ensures.params
          c.loop-flow.invariant.extends this.rule this.param c.number-number.result c.number-number.ensures.number in
          let flag = number_at c.self.inside.points.now c.self.inside.users.now a c.args.self.now mid c.self.view_is c.self.invariant c.params-params.result.now c.params-params.ensures.params
          c.loop-flow.invariant.extends c.args.head.rule c.args.head.given c.number-flag.result c.number-flag.ensures.number in
          let known : HasBaseAt mid (record { rule = this.rule; param = this.param; base = c.args.head.rule; given = c.args.head.given }) =
          subst (λ (x : PairsData). HasBase (points_of mid.rules).params x.bases (record { rule = this.rule; param = this.param; base = c.args.head.rule; given = c.args.head.given })) c.self-in-loop-flow.view_is
          (c.is_flagged.ensures w.if-not-is_flagged.false (points_of mid.rules).params (record { rule = this.rule; param = this.param; base = c.args.head.rule; given = c.args.head.given }) number flag) in
          record {
            extends = subst (Extends c.args.self.now) (sym w.self-is) c.loop-flow.invariant.extends;
            ready = subst IsReady (sym w.self-is) c.loop-flow.invariant.ready;
            so_far = subst (λ (x : PairsData). (f : FlowPair) → Contains (take (i + 1) c.args.flows.now) f → HasBaseAt x (record { rule = f.rule; param = f.param; base = c.args.head.rule; given = c.args.head.given })) (sym w.self-is) (λ f there. elim (cases f there) [
              | inl was ↦ c.loop-flow.invariant.so_far f was
              | inr last ↦ subst (λ (f : FlowPair). HasBaseAt mid (record { rule = f.rule; param = f.param; base = c.args.head.rule; given = c.args.head.given })) (sym last) known
            ]);
          }
    ]

pub returns-clause-bases : goal.returns-clause-bases
returns-clause-bases c = subst (λ (xs : List FlowPair). (f : FlowPair) → Contains xs f → HasBaseAt c.loop-flow.self (record { rule = f.rule; param = f.param; base = c.args.head.rule; given = c.args.head.given })) (take_all c.loop-flow.flow-index c.args.flows.now c.loop-flow-test.false) c.loop-flow.invariant.so_far
