use Rattle.std.proofs.Common.{◌≡◌, refl, sym, ◌∙◌, ap, subst, ◌<◌, length, slice_index, Contains, arith}
use Rattle.hs_scheme.specs.flow.Points.{point_at, NonterminalWithin}
use Rattle.hs_scheme.specs.Problem.{ProblemData}
use Rattle.std.proofs.lemmas.Result.{on_ok_weaker}
use Rattle.hs_reads.specs.ByPoint.{pairs_by_point}
use Rattle.hs_reads.specs.Pairs.{IsDemandedBy}
use Rattle.hs_reads.proofs.FoundLemmas.{start_stays}
use Rattle.hs_reads.proofs.GrowLemmas.{both_ok, adds_such}
use Rattle.hs_reads.proofs.ReadLemmas.{body_read}
use Rattle.hs_reads.proofs.HeadLemmas.{demands_nt, body_is}
use Rattle.hs_reads.proofs.HandedLemmas.{handed_stays}
use Rattle.hs_reads.proofs.reading.add_demanded.Goals as goal

pub returns-in-Nt-clause-there : goal.returns-in-Nt-clause-there
returns-in-Nt-clause-there c =
    let p = c.args.problem.now in
    let q = c.args.state in
    let f = c.in-Nt.f in
    let new = c.add.new.self.pairs in
    let head = sym c.in-Nt.is ∙ (c.head_of.ensures.head ∙ ap (λ (z : ProblemData). (point_at z.points c.args.point).head) c.problem.view_is) in
    let body : c.body_of.result ≡ slice_index p.points.bodies f = c.body_of.ensures.body ∙ ap (λ (z : ProblemData). slice_index z.points.bodies f) c.problem.view_is in
    both_ok c.add.result (λ gains there start.
    demands_nt p c.args.point q new (start_stays p c.args.found.now c.add.new.self gains start) p.points refl f head
    (λ b e. subst (λ n. Contains new (n, q)) (body_is p.points.bodies f b c.body_of.result body e) there)) c.add.ensures.gains c.add.ensures.there

pub returns-in-Nt-clause-only : goal.returns-in-Nt-clause-only
returns-in-Nt-clause-only c =
    let p = c.args.problem.now in
    let w = c.args.point in
    let q = c.args.state in
    let f = c.in-Nt.f in
    let head = sym c.in-Nt.is ∙ (c.head_of.ensures.head ∙ ap (λ (z : ProblemData). (point_at z.points w).head) c.problem.view_is) in
    let lt = subst (λ (z : ProblemData). w < length z.points.points) c.problem.view_is (omega (arith, c.if-point-count.false, c.count.ensures.points)) in
    let within = subst (λ (z : ProblemData). f < length z.points.bodies) c.problem.view_is (subst (λ h. NonterminalWithin (length c.problem.inside.points.bodies) h) c.in-Nt.is c.head_of.ensures.within) in
    let body : c.body_of.result ≡ slice_index p.points.bodies f = c.body_of.ensures.body ∙ ap (λ (z : ProblemData). slice_index z.points.bodies f) c.problem.view_is in
    adds_such (λ x. x ≡ (c.body_of.result, q)) (IsDemandedBy p (w, q)) c.args.found.now.pairs c.add.new.self.pairs c.add.ensures.only (body_read p w q lt f c.body_of.result head within body)

pub returns-in-Nt-clause-handed : goal.returns-in-Nt-clause-handed
returns-in-Nt-clause-handed c =
    on_ok_weaker c.add.result (λ g. handed_stays c.args.problem.now (pairs_by_point c.args.handed.now.items) c.args.found.now.pairs c.add.new.self.pairs g.kept c.requires.handed) c.add.ensures.gains

pub returns-in-Tm-clause-handed : goal.returns-in-Tm-clause-handed
returns-in-Tm-clause-handed c =
    on_ok_weaker c.add_by_terminal.result (λ g. handed_stays c.args.problem.now (pairs_by_point c.args.handed.now.items) c.args.found.now.pairs c.add_by_terminal.new.found.pairs g.kept c.requires.handed)
    c.add_by_terminal.ensures.gains
