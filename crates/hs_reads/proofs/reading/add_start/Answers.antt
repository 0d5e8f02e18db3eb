use Rattle.std.proofs.Common.{◌≡◌, sym, ◌∙◌, ap, subst, ℕ, ◌<◌, length, slice_get, slice_index, Some, arith}
use Rattle.std.proofs.lemmas.Option.{slice_get-get_or}
use Rattle.hs_scheme.specs.Problem.{ProblemData}
use Rattle.hs_reads.proofs.GrowLemmas.{adds_such}
use Rattle.hs_reads.proofs.reading.add_start.Goals as goal

pub returns-clause-only : goal.returns-clause-only
returns-clause-only c =
    let p = c.args.problem.now in
    let body : c.body_of.result ≡ slice_index p.points.bodies 0 = c.body_of.ensures.body ∙ ap (λ (z : ProblemData). slice_index z.points.bodies 0) c.problem.view_is in
    let lt : 0 < length p.points.bodies = subst (λ (z : ProblemData). 0 < length z.points.bodies) c.problem.view_is (omega arith) in
    adds_such (λ x. x ≡ (c.body_of.result, 0)) (λ x. (slice_get p.points.bodies 0 ≡ Some x.0) × (x.1 ≡ 0)) c.args.found.now.pairs c.add.new.self.pairs c.add.ensures.only
    (λ x e. (slice_get-get_or p.points.bodies 0 0 lt ∙ ap (λ (n : ℕ). Some n) (sym body ∙ ap (λ (z : ℕ × ℕ). z.0) (sym e)), ap (λ (z : ℕ × ℕ). z.1) e))
