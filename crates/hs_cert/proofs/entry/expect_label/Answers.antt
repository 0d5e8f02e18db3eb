use Rattle.std.proofs.lemmas.Result.{err_from_is_err_and}
use Rattle.hs_cert.proofs.Sets.{label_gone, label_begins, label_named, label_marked}
use Rattle.hs_cert.proofs.Numbers.{faulty_of}
use Rattle.hs_cert.proofs.entry.expect_label.Goals as goal

pub returns-in_err-expect-clause-faulty : goal.returns-in_err-expect-clause-faulty
returns-in_err-expect-clause-faulty c = λ h rest e.
    let p = err_from_is_err_and c.from_residual.result c.from_residual.ensures.1 in
    c.in_err-expect.ensures.faulty (faulty_of c.from_residual.result p.0 c.in_err-expect.field-0.0 p.1 p.2 h) _
    (label_begins c.args.params.now c.args.number c.args.ahead.now.bytes.now rest c.separator_before.result.now c.separator_before.ensures e)

pub returns-in_err-expect-2-clause-faulty : goal.returns-in_err-expect-2-clause-faulty
returns-in_err-expect-2-clause-faulty c = λ h rest e.
    let p = err_from_is_err_and c.from_residual-in_err-expect-2.result c.from_residual-in_err-expect-2.ensures.1 in
    c.in_err-expect-2.ensures.faulty (faulty_of c.from_residual-in_err-expect-2.result p.0 c.in_err-expect-2.field-0.0 p.1 p.2 h) _
    (label_named c.args.params.now c.args.number c.args.ahead.now.bytes.now c.expect.new.self.bytes.now rest c.separator_before.result.now c.name_of.result.now c.separator_before.ensures c.name_of.ensures c.in_ok-expect.ensures.read e)

pub returns-in_err-expect-3-clause-faulty : goal.returns-in_err-expect-3-clause-faulty
returns-in_err-expect-3-clause-faulty c = λ h rest e.
    let p = err_from_is_err_and c.from_residual-in_err-expect-3.result c.from_residual-in_err-expect-3.ensures.1 in
    c.in_err-expect-3.ensures.faulty (faulty_of c.from_residual-in_err-expect-3.result p.0 c.in_err-expect-3.field-0.0 p.1 p.2 h) _
    (label_marked c.args.params.now c.args.number c.args.ahead.now.bytes.now c.expect.new.self.bytes.now c.expect-2.new.self.bytes.now rest c.separator_before.result.now c.name_of.result.now c.separator_before.ensures c.name_of.ensures c.in_ok-expect.ensures.read
    c.in_ok-expect-2.ensures.read e)

pub returns-clause-read : goal.returns-clause-read
returns-clause-read c =
    label_gone c.args.params.now c.args.number c.args.ahead.now.bytes.now c.expect.new.self.bytes.now c.expect-2.new.self.bytes.now c.expect-3.new.self.bytes.now c.separator_before.result.now c.name_of.result.now c.separator_before.ensures c.name_of.ensures
    c.in_ok-expect.ensures.read c.in_ok-expect-2.ensures.read c.in_ok-expect-3.ensures.read
