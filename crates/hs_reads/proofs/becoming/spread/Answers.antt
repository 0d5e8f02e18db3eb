use Rattle.std.proofs.Common.{◌≡◌, sym, ◌∙◌, ap, subst, ℕ, List, Contains, arith}
use Rattle.std.proofs.lemmas.Option.{slice_get_within}
use Rattle.hs_scheme.specs.declared.flow.FlowPair.{FlowPair}
use Rattle.hs_scheme.specs.flow.Points.{PointsData}
use Rattle.hs_scheme.specs.sorting.Parameters.{IsParameter, parameter_of}
use Rattle.hs_scheme.specs.Problem.{ProblemData}
use Rattle.hs_scheme.proofs.Lists.{Contains-at}
use Rattle.hs_reads.specs.Lists.{list_of}
use Rattle.hs_reads.specs.Own.{IsBecoming}
use Rattle.hs_reads.proofs.GrowLemmas.{grows_has, past_end, adds_all}
use Rattle.hs_reads.proofs.BecomingLemmas.{its_pairs}
use Rattle.hs_reads.proofs.SpreadLemmas.{passed_more, passed_now, all_passed}
use Rattle.hs_reads.proofs.becoming.spread.Goals as goal

pub loop-becoming-smaller : goal.loop-becoming-smaller
loop-becoming-smaller c =
    let within = slice_get_within c.loop-becoming.found.keys c.loop-becoming.taken c.in-Some.becoming (sym c.becoming_at.ensures ∙ c.in-Some.is) in
    omega (arith, within, c.loop-becoming.invariant.few)

pub loop-becoming-preserved : goal.loop-becoming-preserved
loop-becoming-preserved c =
    let p = c.args.problem.now in
    let old = c.loop-becoming.found.keys in
    let new = c.pass_all.new.found.keys in
    let grows = c.in_ok-pass_all.ensures.grows in
    let same = ap (λ (q : ProblemData). q.points) c.problem.view_is in
    let b = c.in-Some.becoming in
    let params : c.params.result.now ≡ p.points.params = c.params.ensures.params ∙ ap (λ (x : PointsData). x.params) same in
    record {
      few = grows.few c.loop-becoming.invariant.few;
      first = λ f rule a args m at. grows_has old new _ grows (c.loop-becoming.invariant.first f rule a args m at);
      passed = passed_more p old new c.loop-becoming.taken b grows (sym c.becoming_at.ensures ∙ c.in-Some.is) c.loop-becoming.invariant.passed
          (passed_now p c.args.lists.now c.requires.lists b c.list_at-pairs.result.now new
          (subst (λ (ns : List ℕ). IsParameter ns b.rule b.param → c.list_at-pairs.result.now ≡ list_of c.args.lists.now (parameter_of ns b.rule b.param)) params c.list_at-pairs.ensures.list)
          c.in_ok-pass_all.ensures.there);
      known = adds_all (IsBecoming p) (IsBecoming p) old new c.pass_all.ensures.only c.loop-becoming.invariant.known (λ b k. k);
      short = c.pass_all.ensures.short c.loop-becoming.invariant.short;
    }

pub pass_all-requires-clause-headed : goal.pass_all-requires-clause-headed
pass_all-requires-clause-headed c =
    let p = c.args.problem.now in
    let b = c.in-Some.becoming in
    let row = c.list_at-pairs.result.now in
    let params : c.params.result.now ≡ p.points.params = c.params.ensures.params ∙ ap (λ (q : ProblemData). q.points.params) c.problem.view_is in
    its_pairs p c.args.lists.now b.rule b.param row c.requires.lists
    (subst (λ (ns : List ℕ). IsParameter ns b.rule b.param → row ≡ list_of c.args.lists.now (parameter_of ns b.rule b.param)) params c.list_at-pairs.ensures.list)
    (subst (λ (ns : List ℕ). (f : FlowPair) → Contains row f → IsParameter ns b.rule b.param) params c.list_at-pairs.ensures.parameter)

pub pass_all-requires-clause-known : goal.pass_all-requires-clause-known
pass_all-requires-clause-known c =
    let old = c.loop-becoming.found.keys in
    c.loop-becoming.invariant.known c.in-Some.becoming (Contains-at old c.loop-becoming.taken c.in-Some.becoming (sym c.becoming_at.ensures ∙ c.in-Some.is))

pub pass_all-requires-clause-short : goal.pass_all-requires-clause-short
pass_all-requires-clause-short c =
    let old = c.loop-becoming.found.keys in
    c.loop-becoming.invariant.short c.in-Some.becoming (Contains-at old c.loop-becoming.taken c.in-Some.becoming (sym c.becoming_at.ensures ∙ c.in-Some.is))

pub returns-in_err-pass_all-clause-known : goal.returns-in_err-pass_all-clause-known
returns-in_err-pass_all-clause-known c =
    let p = c.args.problem.now in
    let new = c.pass_all.new.found.keys in
    adds_all (IsBecoming p) (IsBecoming p) c.loop-becoming.found.keys new c.pass_all.ensures.only c.loop-becoming.invariant.known (λ b k. k)

pub returns-clause-all : goal.returns-clause-all
returns-clause-all c =
    all_passed c.args.problem.now c.loop-becoming.found.keys c.loop-becoming.taken
    (past_end c.becoming_at.result c.loop-becoming.found.keys c.loop-becoming.taken c.becoming_at.ensures c.in_default.not-Some)
    c.loop-becoming.invariant.first c.loop-becoming.invariant.passed
