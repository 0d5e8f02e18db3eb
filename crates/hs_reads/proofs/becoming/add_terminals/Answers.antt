use Rattle.std.proofs.Common.{◌≡◌, sym, subst, ℕ, List, length, get_or, Contains}
use Rattle.std.proofs.lemmas.List.Elements.{Contains-get_or}
use Rattle.hs_scheme.specs.declared.term.Head.TheVariants.{Tm}
use Rattle.hs_scheme.specs.declared.flow.FlowPair.{FlowPair}
use Rattle.hs_weak.specs.Reads.{PointIs}
use Rattle.hs_reads.specs.Own.{IsBecoming}
use Rattle.hs_reads.proofs.GrowLemmas.{grows_then, grows_has, next_more, taken_all, adds_more}
use Rattle.hs_reads.proofs.becoming.add_terminals.Goals as goal

pub loop-pair-preserved : goal.loop-pair-preserved
loop-pair-preserved c =
    let p = c.args.problem.now in
    let old = c.loop-pair.found.keys in
    let new = c.add_terminal.new.found.keys in
    record {
      grows = grows_then c.args.found.now.keys old new c.loop-pair.invariant.grows c.in_ok-add_terminal.ensures.grows;
      there = next_more (λ (f : FlowPair). (rule a : ℕ) (args : List ℕ) → PointIs p f.point rule (Tm a) args → Contains new (record { rule = f.rule; param = f.param; terminal = a; given = length args }))
          c.flow_pairs-pair-items.result.now c.loop-pair.pair-index (record { rule = 0; param = 0; point = 0 }) c.loop-pair-test.true
          (λ f m rule a args at. grows_has old new _ c.in_ok-add_terminal.ensures.grows (c.loop-pair.invariant.there f m rule a args at)) c.in_ok-add_terminal.ensures.there;
      only = adds_more (IsBecoming p) (IsBecoming p) c.args.found.now.keys old new c.loop-pair.invariant.only c.add_terminal.ensures.only (λ b k. k);
      short = λ s. c.add_terminal.ensures.short (c.loop-pair.invariant.short s);
    }

pub add_terminal-requires-clause-flows : goal.add_terminal-requires-clause-flows
add_terminal-requires-clause-flows c =
    let items = c.flow_pairs-pair-items.result.now in
    let none : FlowPair = record { rule = 0; param = 0; point = 0 } in
    subst (λ (fs : List FlowPair). Contains fs (get_or items c.loop-pair.pair-index none)) c.flow_pairs-pair-items.ensures (Contains-get_or items c.loop-pair.pair-index none c.loop-pair-test.true)

pub returns-in_err-add_terminal-clause-only : goal.returns-in_err-add_terminal-clause-only
returns-in_err-add_terminal-clause-only c =
    let p = c.args.problem.now in
    adds_more (IsBecoming p) (IsBecoming p) c.args.found.now.keys c.loop-pair.found.keys c.add_terminal.new.found.keys c.loop-pair.invariant.only c.add_terminal.ensures.only (λ b k. k)

pub returns-clause-there : goal.returns-clause-there
returns-clause-there c = λ f rule a args m at.
    let items : c.flow_pairs-pair-items.result.now ≡ c.args.problem.now.flow.pairs = c.flow_pairs-pair-items.ensures in
    c.loop-pair.invariant.there f
    (taken_all c.flow_pairs-pair-items.result.now c.loop-pair.pair-index f c.loop-pair-test.false (subst (λ (fs : List FlowPair). Contains fs f) (sym items) m)) rule a args at

pub returns-in_err-add_terminal-clause-short : goal.returns-in_err-add_terminal-clause-short
returns-in_err-add_terminal-clause-short c = λ s. c.add_terminal.ensures.short (c.loop-pair.invariant.short s)
