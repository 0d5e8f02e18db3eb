use Rattle.std.proofs.Common.{sym, subst, ℕ, ◌<◌, List, length, arith}
use Rattle.hs_scheme.specs.flow.Flow.{FlowData}
use Rattle.hs_scheme.specs.flow.FlowRows.{AreOfParameters}
use Rattle.hs_scheme.specs.Problem.{ProblemData, IsProblem}
use Rattle.hs_table_examples.proofs.Fewer.{of_parameters, fewer_pairs}
use Rattle.hs_table_examples.proofs.making.fewer_pairs.Goals as goal

pub of-requires-clause-ascending : goal.of-requires-clause-ascending
of-requires-clause-ascending c =
    let p : ProblemData = record { sorted = c.problem.inside.sorted; points = c.problem.inside.points; flow = c.problem.inside.flow } in
    let lt : c.args.place < length c.in_ok-pairs.pairs.items = omega (arith, c.len.ensures, c.if-place-len.false, c.in_ok-pairs.pairs.ok.0) in
    let whole = fewer_pairs p c.problem.invariant c.args.place c.in_ok-pairs.pairs.items c.remove.new.self.items c.in_ok-heads.heads.items c.in_ok-pairs.ensures.same c.in_ok-heads.ensures.same c.in_ok-pairs.ensures.ascending c.in_ok-heads.ensures.ascending lt c.remove.ensures.items in
    whole.0

pub of-requires-clause-parameters : goal.of-requires-clause-parameters
of-requires-clause-parameters c =
    let p : ProblemData = record { sorted = c.problem.inside.sorted; points = c.problem.inside.points; flow = c.problem.inside.flow } in
    let lt : c.args.place < length c.in_ok-pairs.pairs.items = omega (arith, c.len.ensures, c.if-place-len.false, c.in_ok-pairs.pairs.ok.0) in
    let whole = fewer_pairs p c.problem.invariant c.args.place c.in_ok-pairs.pairs.items c.remove.new.self.items c.in_ok-heads.heads.items c.in_ok-pairs.ensures.same c.in_ok-heads.ensures.same c.in_ok-pairs.ensures.ascending c.in_ok-heads.ensures.ascending lt c.remove.ensures.items in
    subst (λ (counts : List ℕ). AreOfParameters counts c.remove.new.self.items) (sym c.params.ensures.params) (of_parameters p c.problem.invariant c.remove.new.self.items whole.1.flows)

pub returns : goal.returns
returns c =
    let p : ProblemData = record { sorted = c.problem.inside.sorted; points = c.problem.inside.points; flow = c.problem.inside.flow } in
    let lt : c.args.place < length c.in_ok-pairs.pairs.items = omega (arith, c.len.ensures, c.if-place-len.false, c.in_ok-pairs.pairs.ok.0) in
    let whole = fewer_pairs p c.problem.invariant c.args.place c.in_ok-pairs.pairs.items c.remove.new.self.items c.in_ok-heads.heads.items c.in_ok-pairs.ensures.same c.in_ok-heads.ensures.same c.in_ok-pairs.ensures.ascending c.in_ok-heads.ensures.ascending lt c.remove.ensures.items in
    let now = subst (λ (q : ProblemData). IsProblem (record { sorted = q.sorted; points = q.points; flow = record { pairs = c.remove.new.self.items; heads = c.in_ok-heads.heads.items } })) c.problem.view_is whole.1 in
    subst (λ (f : FlowData). IsProblem (record { sorted = c.args.problem.now.sorted; points = c.args.problem.now.points; flow = f })) (sym c.in_ok-of.ensures) now
