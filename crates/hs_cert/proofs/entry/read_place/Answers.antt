use Rattle.std.proofs.Common.{arith}
use Rattle.std.proofs.lemmas.Result.{err_from_is_err_and}
use Rattle.hs_cert.proofs.Numbers.{faulty_of, no_number, no_point, no_sign, no_name, no_mark}
use Rattle.hs_cert.proofs.entry.read_place.Goals as goal

pub returns-then-number-from-clause-faulty : goal.returns-then-number-from-clause-faulty
returns-then-number-from-clause-faulty c = λ h.
    no_point c.args.problem.now c.point_count-count.ensures.few c.args.ahead.now.bytes.now c.take_run.result.now c.take_run.new.self.bytes.now c.in-Some.number c.take_run.ensures.whole c.take_run.ensures.run c.take_run.ensures.ends
    c.in-Some.ensures.some c.in-Some.ensures.fits (omega (arith, c.if-number-from.true, c.from.ensures, c.point_count-count.ensures.count))

pub returns-in-None-clause-faulty : goal.returns-in-None-clause-faulty
returns-in-None-clause-faulty c = λ h.
    no_number c.args.problem.now c.point_count-count.ensures.few c.args.ahead.now.bytes.now c.take_run.result.now c.take_run.new.self.bytes.now c.take_run.ensures.whole c.take_run.ensures.run c.take_run.ensures.ends
    c.in-None.ensures.none

pub returns-in_err-expect-clause-faulty : goal.returns-in_err-expect-clause-faulty
returns-in_err-expect-clause-faulty c = λ h.
    let p = err_from_is_err_and c.from_residual.result c.from_residual.ensures.1 in
    no_sign c.args.problem.now c.point_count-count.ensures.few c.args.ahead.now.bytes.now c.take_run.result.now c.take_run.new.self.bytes.now c.in-Some.number c.take_run.ensures.whole c.take_run.ensures.run c.take_run.ensures.ends
    c.in-Some.ensures.some c.in-Some.ensures.fits
    (c.in_err-expect.ensures.faulty (faulty_of c.from_residual.result p.0 c.in_err-expect.field-0.0 p.1 p.2 h))

pub returns-in_err-expect-2-clause-faulty : goal.returns-in_err-expect-2-clause-faulty
returns-in_err-expect-2-clause-faulty c = λ h.
    let p = err_from_is_err_and c.from_residual-in_err-expect-2.result c.from_residual-in_err-expect-2.ensures.1 in
    no_name c.args.problem.now c.point_count-count.ensures.few c.args.ahead.now.bytes.now c.take_run.result.now c.take_run.new.self.bytes.now c.in-Some.number c.take_run.ensures.whole c.take_run.ensures.run c.take_run.ensures.ends
    c.in-Some.ensures.some c.in-Some.ensures.fits c.expect.new.self.bytes.now c.rule_name.result.now c.in_ok-expect.ensures.read c.rule_name.ensures
    (c.in_err-expect-2.ensures.faulty (faulty_of c.from_residual-in_err-expect-2.result p.0 c.in_err-expect-2.field-0.0 p.1 p.2 h))

pub returns-in_err-expect-3-clause-faulty : goal.returns-in_err-expect-3-clause-faulty
returns-in_err-expect-3-clause-faulty c = λ h.
    let p = err_from_is_err_and c.from_residual-in_err-expect-3.result c.from_residual-in_err-expect-3.ensures.1 in
    no_mark c.args.problem.now c.point_count-count.ensures.few c.args.ahead.now.bytes.now c.take_run.result.now c.take_run.new.self.bytes.now c.in-Some.number c.take_run.ensures.whole c.take_run.ensures.run c.take_run.ensures.ends
    c.in-Some.ensures.some c.in-Some.ensures.fits c.expect.new.self.bytes.now c.rule_name.result.now c.in_ok-expect.ensures.read c.rule_name.ensures c.expect-2.new.self.bytes.now c.in_ok-expect-2.ensures.read
    (c.in_err-expect-3.ensures.faulty (faulty_of c.from_residual-in_err-expect-3.result p.0 c.in_err-expect-3.field-0.0 p.1 p.2 h))
