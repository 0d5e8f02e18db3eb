use Rattle.std.proofs.Common.{refl}
use Rattle.hs_cert.proofs.Heads.{second_line, third_line, headed}
use Rattle.hs_cert.proofs.heading.read_heading.Goals as goal

pub returns-in-None-clause-fault : goal.returns-in-None-clause-fault
returns-in-None-clause-fault c = λ p.
    second_line p c.args.lines.now.rest.now c.read_verdict.new.lines.rest.now (c.if-not-read_verdict.ensures.read refl) (λ form n behind few inside e. c.in-None.ensures.none form n behind few inside e)

pub returns-in-None-read_number-clause-fault : goal.returns-in-None-read_number-clause-fault
returns-in-None-read_number-clause-fault c = λ p.
    third_line c.args.lines.now.rest.now c.in-Some.count.0 c.in-Some.count.1 c.read_verdict.new.lines.rest.now c.read_count.new.lines.rest.now (c.if-not-read_verdict.ensures.read refl) c.in-Some.ensures.read c.in-Some.ensures.inside c.in-Some.ensures.few p
    (λ m behind within inside e. c.in-None-read_number.ensures.none m behind within inside e)

pub returns-in-Some-read_number-clause-read : goal.returns-in-Some-read_number-clause-read
returns-in-Some-read_number-clause-read c =
    headed c.args.lines.now.rest.now c.in-Some.count.0 c.in-Some.count.1 c.read_verdict.new.lines.rest.now c.read_count.new.lines.rest.now (c.if-not-read_verdict.ensures.read refl) c.in-Some.ensures.read c.in-Some.ensures.inside c.in-Some.ensures.few
    c.in-Some-read_number.number c.read_number.new.lines.rest.now c.in-Some-read_number.ensures.read c.in-Some-read_number.ensures.inside c.in-Some-read_number.ensures.within
