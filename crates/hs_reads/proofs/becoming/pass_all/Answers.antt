use Rattle.std.proofs.lemmas.List.Elements.{Contains-get_or}
use Rattle.std.proofs.Common.{get_or, ℕ, ◌+◌, List, length, Contains, arith}
use Rattle.hs_scheme.specs.declared.term.Head.{Head}
use Rattle.hs_scheme.specs.declared.term.Head.TheVariants.{Var}
use Rattle.hs_scheme.specs.declared.flow.FlowPair.{FlowPair}
use Rattle.hs_table_laws.proofs.Places.{within_from}
use Rattle.hs_weak.specs.Reads.{PointIs}
use Rattle.hs_reads.specs.Own.{IsBecoming}
use Rattle.hs_reads.proofs.GrowLemmas.{grows_then, grows_has, grows_long, next_more, taken_all, adds_more}
use Rattle.hs_reads.proofs.becoming.pass_all.Goals as goal

pub pass-requires-clause-headed : goal.pass-requires-clause-headed
pass-requires-clause-headed c =
    let none : FlowPair = record { rule = 0; param = 0; point = 0 } in
    c.requires.headed (get_or c.args.pairs.now c.loop-pair.pair-index none) (Contains-get_or c.args.pairs.now c.loop-pair.pair-index none c.loop-pair-test.true)

pub pass-requires-clause-point : goal.pass-requires-clause-point
pass-requires-clause-point c =
    let none : FlowPair = record { rule = 0; param = 0; point = 0 } in
    let f = get_or c.args.pairs.now c.loop-pair.pair-index none in
    let h = c.requires.headed f (Contains-get_or c.args.pairs.now c.loop-pair.pair-index none c.loop-pair-test.true) in
    within_from c.args.problem.now.points.points f.point (record { rule = c.args.becoming.rule; head = Var c.args.becoming.param; args = h.1.0 }) h.1.1

pub loop-pair-preserved : goal.loop-pair-preserved
loop-pair-preserved c =
    let p = c.args.problem.now in
    let old = c.loop-pair.found.keys in
    let new = c.pass.new.found.keys in
    record {
      grows = grows_then c.args.found.now.keys old new c.loop-pair.invariant.grows c.in_ok-pass.ensures.grows;
      there = next_more (λ (f : FlowPair). (rule : ℕ) (h : Head) (args : List ℕ) → PointIs p f.point rule h args
          → Contains new (record { rule = f.rule; param = f.param; terminal = c.args.becoming.terminal; given = c.args.becoming.given + length args }))
          c.args.pairs.now c.loop-pair.pair-index (record { rule = 0; param = 0; point = 0 }) c.loop-pair-test.true
          (λ f m rule h args at. grows_has old new _ c.in_ok-pass.ensures.grows (c.loop-pair.invariant.there f m rule h args at)) c.in_ok-pass.ensures.there;
      few = c.in_ok-pass.ensures.grows.few c.loop-pair.invariant.few;
      given = let le = grows_long old new c.in_ok-pass.ensures.grows in omega (arith, le, c.loop-pair.invariant.given);
      only = adds_more (IsBecoming p) (IsBecoming p) c.args.found.now.keys old new c.loop-pair.invariant.only c.pass.ensures.only (λ b k. k);
      short = λ s. c.pass.ensures.short (c.loop-pair.invariant.short s);
    }

pub returns-in_err-pass-clause-only : goal.returns-in_err-pass-clause-only
returns-in_err-pass-clause-only c =
    let p = c.args.problem.now in
    adds_more (IsBecoming p) (IsBecoming p) c.args.found.now.keys c.loop-pair.found.keys c.pass.new.found.keys c.loop-pair.invariant.only c.pass.ensures.only (λ b k. k)

pub returns-in_err-pass-clause-short : goal.returns-in_err-pass-clause-short
returns-in_err-pass-clause-short c = λ s. c.pass.ensures.short (c.loop-pair.invariant.short s)

pub returns-clause-there : goal.returns-clause-there
returns-clause-there c = λ f rule h args m at. c.loop-pair.invariant.there f (taken_all c.args.pairs.now c.loop-pair.pair-index f c.loop-pair-test.false m) rule h args at
