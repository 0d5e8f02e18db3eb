use Rattle.std.proofs.Common.{◌≡◌, ap, subst, Ok}
use Rattle.std.proofs.lemmas.Result.{err_from_is_err_and}
use Rattle.hs_weak.specs.Void.{void_cmp}
use Rattle.hs_cert.specs.Certificate.{IsPair}
use Rattle.hs_numbered.specs.Certificates.{IsAboveLast}
use Rattle.hs_cert.proofs.Numbers.{faulty_of}
use Rattle.hs_cert.proofs.Pairs.{same_pair}
use Rattle.hs_cert.proofs.Right.{next_item}
use Rattle.hs_cert.proofs.numbered.read_next_pair.Goals as goal

pub returns-in_err-pair-clause-faulty : goal.returns-in_err-pair-clause-faulty
returns-in_err-pair-clause-faulty c = λ h x rest n.
    let p = err_from_is_err_and c.from_residual.result c.from_residual.ensures.1 in
    c.in_err-pair.ensures.faulty (faulty_of c.from_residual.result p.0 c.in_err-pair.field-0.0 p.1 p.2 h) x
    (next_item (IsPair c.args.problem.now) void_cmp c.args.certificate.now.void c.args.lines.now.rest.now c.in-Some.line.now c.next.new.self.rest.now x rest c.in-Some.ensures.some c.in-Some.ensures.inside n)

pub import_void-requires : goal.import_void-requires
import_void-requires c =
    let shape = c.in_ok-pair.ensures.read.shape in
    record { states = c.args.problem.now.sorted.automaton.states; sets = shape.env.sets; types = shape.types }

pub returns-clause-faulty : goal.returns-clause-faulty
returns-clause-faulty c = λ h x rest n.
    let p = c.args.problem.now in
    let line = c.in-Some.line.now in
    let read = c.in_ok-pair.pair in
    let there = next_item (IsPair p) void_cmp c.args.certificate.now.void c.args.lines.now.rest.now line c.next.new.self.rest.now x rest c.in-Some.ensures.some c.in-Some.ensures.inside n in
    let same : x ≡ read = same_pair p c.args.states.now c.args.rules.now c.requires.same c.requires.own c.requires.states.are c.requires.rules.are line x read there c.in_ok-pair.ensures.read in
    c.in_ok-import_void.ensures.refused (ap (λ b. Ok b) c.if-branch.false) (subst (IsAboveLast void_cmp c.args.certificate.now.void) same n.above)
