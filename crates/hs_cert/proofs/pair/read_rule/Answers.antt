use Rattle.std.proofs.lemmas.Result.{err_from_is_err_and}
use Rattle.hs_cert.proofs.Numbers.{faulty_of}
use Rattle.hs_cert.proofs.Pairs.{no_word, unknown_rule, no_bracket_there, rule_read}
use Rattle.hs_cert.proofs.pair.read_rule.Goals as goal

pub returns-in_err-expect-clause-faulty : goal.returns-in_err-expect-clause-faulty
returns-in_err-expect-clause-faulty c = λ h.
    let p = err_from_is_err_and c.from_residual.result c.from_residual.ensures.1 in
    no_word c.args.rules.now c.requires.are c.args.ahead.now.bytes.now (c.in_err-expect.ensures.faulty (faulty_of c.from_residual.result p.0 c.in_err-expect.field-0.0 p.1 p.2 h))

pub returns-in-None-clause-faulty : goal.returns-in-None-clause-faulty
returns-in-None-clause-faulty c = λ h.
    unknown_rule c.args.rules.now c.requires.are c.args.ahead.now.bytes.now c.expect.new.self.bytes.now c.take_run.result.now c.take_run.new.self.bytes.now c.in_ok-expect.ensures.read c.take_run.ensures.whole c.take_run.ensures.run
    c.take_run.ensures.ends c.in-None.ensures.none

pub returns-in_err-expect-2-clause-faulty : goal.returns-in_err-expect-2-clause-faulty
returns-in_err-expect-2-clause-faulty c = λ h.
    let p = err_from_is_err_and c.from_residual-in_err-expect-2.result c.from_residual-in_err-expect-2.ensures.1 in
    no_bracket_there c.args.rules.now c.requires.are c.args.ahead.now.bytes.now c.expect.new.self.bytes.now c.take_run.result.now c.take_run.new.self.bytes.now c.in_ok-expect.ensures.read c.take_run.ensures.whole c.take_run.ensures.run
    c.take_run.ensures.ends (c.in_err-expect-2.ensures.faulty (faulty_of c.from_residual-in_err-expect-2.result p.0 c.in_err-expect-2.field-0.0 p.1 p.2 h))

pub returns-clause-read : goal.returns-clause-read
returns-clause-read c =
    rule_read c.args.rules.now c.requires.are c.args.ahead.now.bytes.now c.expect.new.self.bytes.now c.take_run.result.now c.take_run.new.self.bytes.now c.in_ok-expect.ensures.read c.take_run.ensures.whole c.take_run.ensures.run
    c.take_run.ensures.ends c.in-Some.rule c.expect-2.new.self.bytes.now c.in-Some.ensures.at c.in-Some.ensures.within c.in_ok-expect-2.ensures.read
