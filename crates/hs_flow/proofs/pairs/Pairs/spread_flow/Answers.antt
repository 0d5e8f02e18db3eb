use Rattle.std.proofs.Common.{◌≡◌, sym, subst, ℕ, ◌+◌, ◌⊎◌, List, [], ◌∷◌, get_or, take, Contains, inl, inr}
use Rattle.std.proofs.lemmas.List.{take_more, take_all}
use Rattle.std.proofs.lemmas.List.Elements.{Contains-append_cases}
use Rattle.hs_scheme.specs.declared.flow.HeadPair.{HeadPair}
use Rattle.hs_scheme.specs.declared.flow.Pair.TheVariants.{OfFlow, OfHead}
use Rattle.hs_scheme.specs.flow.Points.{points_of}
use Rattle.hs_scheme.proofs.Lists.{none_in, only}
use Rattle.hs_flow.specs.Bases.{HasBase}
use Rattle.hs_flow.specs.Pairs.{PairsData, HasBaseAt, IsReady, Extends}
use Rattle.hs_flow.proofs.PairLemmas.{extends_same, extends_then, extends_keep, extends_has}
use Rattle.hs_flow.proofs.NotingLemmas.{number_at}
use Rattle.hs_flow.proofs.pairs.Pairs.spread_flow.Goals as goal
use Rattle.hs_flow.proofs.pairs.Pairs.spread_flow.Goals.{then-not-is_flagged+in_ok-pass_once, else-not-is_flagged}

pub loop-head-init : goal.loop-head-init
loop-head-init c = record {
  extends = extends_same c.args.self.now;
  ready = c.requires.ready;
  so_far = λ h there. absurd (none_in h there);
}

pub pass_once-requires-clause-may : goal.pass_once-requires-clause-may
pass_once-requires-clause-may c =
    let i = c.loop-head.head-index in
    let h : HeadPair = get_or c.args.heads.now i (record { point = 0; rule = 0; given = 0 }) in
    let k = c.requires.heads i (record { point = 0; rule = 0; given = 0 }) c.loop-head-test.true in record {
      point = c.args.flow.point;
      flow = extends_keep c.args.self.now c.loop-head.self c.loop-head.invariant.extends (OfFlow c.args.flow) c.requires.flow;
      head = extends_keep c.args.self.now c.loop-head.self c.loop-head.invariant.extends _ (subst (λ (u : ℕ). Contains c.args.self.now.found (OfHead (record { point = u; rule = h.rule; given = h.given }))) k.0 k.1);
    }

pub returns-in_err-pass_once-clause-extends : goal.returns-in_err-pass_once-clause-extends
returns-in_err-pass_once-clause-extends c = extends_then c.args.self.now c.loop-head.self c.pass_once.new.self c.loop-head.invariant.extends c.pass_once.ensures.extends

pub loop-head-preserved : goal.loop-head-preserved
loop-head-preserved c =
    let i = c.loop-head.head-index in
    let this : HeadPair = get_or c.args.heads.now i (record { point = 0; rule = 0; given = 0 }) in
    let mid = c.loop-head.self in
    let a : PairsData = record { rules = c.self.inside.rules.now; max = c.self.inside.max; found = c.self.inside.found.items; bases = c.self.inside.bases } in
    let cases : (h : HeadPair) → Contains (take (i + 1) c.args.heads.now) h → Contains (take i c.args.heads.now) h ⊎ (h ≡ this) =
    λ h there. elim (Contains-append_cases (take i c.args.heads.now) (this ∷ []) h (subst (λ (xs : List HeadPair). Contains xs h) (take_more c.args.heads.now i (record { point = 0; rule = 0; given = 0 }) c.loop-head-test.true) there)) [
      | inl was ↦ inl was
      | inr last ↦ inr (only this h last)
    ] in
    elim c.if-not-is_flagged.branch [
      | then-not-is_flagged+in_ok-pass_once w ↦ record {
        extends = subst (Extends c.args.self.now) (sym w.self-is) (extends_then c.args.self.now mid w.pass_once.new.self c.loop-head.invariant.extends w.pass_once.ensures.extends);
        ready = subst IsReady (sym w.self-is) w.in_ok-pass_once.ensures.ready;
        so_far = subst (λ (x : PairsData). (h : HeadPair) → Contains (take (i + 1) c.args.heads.now) h → HasBaseAt x (record { rule = c.args.flow.rule; param = c.args.flow.param; base = h.rule; given = h.given })) (sym w.self-is) (λ h there. elim (cases h there) [
          | inl was ↦ extends_has mid w.pass_once.new.self w.pass_once.ensures.extends _ (c.loop-head.invariant.so_far h was)
          | inr last ↦ subst (λ (h : HeadPair). HasBaseAt w.pass_once.new.self (record { rule = c.args.flow.rule; param = c.args.flow.param; base = h.rule; given = h.given })) (sym last) w.in_ok-pass_once.ensures.base
        ]);
      }
      | else-not-is_flagged w ↦
          let number = number_at c.self.inside.points.now c.self.inside.users.now a c.args.self.now mid c.self.view_is c.self.invariant c.params-params.result.now c.params-params.ensures.params
          c.loop-head.invariant.extends c.args.flow.rule c.args.flow.param c.number-number.result c.number-number.ensures.number in
          let flag = number_at c.self.inside.points.now c.self.inside.users.now a c.args.self.now mid c.self.view_is c.self.invariant c.params-params.result.now c.params-params.ensures.params
          c.loop-head.invariant.extends this.rule this.given c.number-flag.result c.number-flag.ensures.number in
          let known : HasBaseAt mid (record { rule = c.args.flow.rule; param = c.args.flow.param; base = this.rule; given = this.given }) =
          subst (λ (x : PairsData). HasBase (points_of mid.rules).params x.bases (record { rule = c.args.flow.rule; param = c.args.flow.param; base = this.rule; given = this.given })) c.self-in-loop-head.view_is
          (c.is_flagged.ensures w.if-not-is_flagged.false (points_of mid.rules).params (record { rule = c.args.flow.rule; param = c.args.flow.param; base = this.rule; given = this.given }) number flag) in
          record {
            extends = subst (Extends c.args.self.now) (sym w.self-is) c.loop-head.invariant.extends;
            ready = subst IsReady (sym w.self-is) c.loop-head.invariant.ready;
            so_far = subst (λ (x : PairsData). (h : HeadPair) → Contains (take (i + 1) c.args.heads.now) h → HasBaseAt x (record { rule = c.args.flow.rule; param = c.args.flow.param; base = h.rule; given = h.given })) (sym w.self-is) (λ h there. elim (cases h there) [
              | inl was ↦ c.loop-head.invariant.so_far h was
              | inr last ↦ subst (λ (h : HeadPair). HasBaseAt mid (record { rule = c.args.flow.rule; param = c.args.flow.param; base = h.rule; given = h.given })) (sym last) known
            ]);
          }
    ]

pub returns-clause-bases : goal.returns-clause-bases
returns-clause-bases c = subst (λ (xs : List HeadPair). (h : HeadPair) → Contains xs h → HasBaseAt c.loop-head.self (record { rule = c.args.flow.rule; param = c.args.flow.param; base = h.rule; given = h.given })) (take_all c.loop-head.head-index c.args.heads.now c.loop-head-test.false) c.loop-head.invariant.so_far
