use Rattle.std.proofs.Common.{◌≡◌, sym, ◌∙◌, ap, subst, ◌++◌, length, length-append, [], ◌∷◌, arith}
use Rattle.std.proofs.lemmas.Result.{err_from_is_err_and}
use Rattle.hs_table.specs.Entries.{Env}
use Rattle.hs_cert.proofs.Numbers.{faulty_of}
use Rattle.hs_cert.proofs.Environments.{SetsRead, sets_next, sets_all, no_label, no_set_there, no_bracket}
use Rattle.hs_cert.proofs.entry.read_env.Goals as goal

pub returns-in_err-expect_label-clause-faulty : goal.returns-in_err-expect_label-clause-faulty
returns-in_err-expect_label-clause-faulty c = λ h.
    let p = err_from_is_err_and c.from_residual-in_err-expect_label.result c.from_residual-in_err-expect_label.ensures.1 in
    no_label c.args.states.now c.args.params.now c.requires.are c.args.ahead.now.bytes.now c.loop-number.ahead.bytes.now c.loop-number.env.items c.loop-number.invariant.0 c.args.count c.loop-number.number (sym c.loop-number.invariant.1)
    (omega (arith, c.loop-number-test.true)) (c.in_err-expect_label.ensures.faulty (faulty_of c.from_residual-in_err-expect_label.result p.0 c.in_err-expect_label.field-0.0 p.1 p.2 h))

pub returns-in_err-read_members-clause-faulty : goal.returns-in_err-read_members-clause-faulty
returns-in_err-read_members-clause-faulty c = λ h.
    let p = err_from_is_err_and c.from_residual-in_err-read_members.result c.from_residual-in_err-read_members.ensures.1 in
    no_set_there c.args.states.now c.args.params.now c.requires.are c.args.ahead.now.bytes.now c.loop-number.ahead.bytes.now c.loop-number.env.items c.loop-number.invariant.0 c.args.count c.loop-number.number c.expect_label.new.ahead.bytes.now
    (sym c.loop-number.invariant.1) (omega (arith, c.loop-number-test.true)) c.in_ok-expect_label.ensures.read
    (c.in_err-read_members.ensures.faulty (faulty_of c.from_residual-in_err-read_members.result p.0 c.in_err-read_members.field-0.0 p.1 p.2 h))

pub returns-in_err-expect-clause-faulty : goal.returns-in_err-expect-clause-faulty
returns-in_err-expect-clause-faulty c = λ h.
    let p = err_from_is_err_and c.from_residual-in_err-expect.result c.from_residual-in_err-expect.ensures.1 in
    no_bracket c.args.states.now c.args.params.now c.requires.are c.args.ahead.now.bytes.now c.loop-number.ahead.bytes.now c.loop-number.env.items c.loop-number.invariant.0 c.args.count
    (omega (arith, c.loop-number.invariant.1, c.loop-number-test.false)) (c.in_err-expect.ensures.faulty (faulty_of c.from_residual-in_err-expect.result p.0 c.in_err-expect.field-0.0 p.1 p.2 h))

pub returns-clause-read : goal.returns-clause-read
returns-clause-read c =
    sets_all c.args.states.now c.args.params.now c.args.count c.args.ahead.now.bytes.now c.loop-number.ahead.bytes.now c.expect.new.self.bytes.now c.loop-number.env.items c.loop-number.invariant.0
    (omega (arith, c.loop-number.invariant.1, c.loop-number-test.false)) c.in_ok-expect.ensures.read

pub loop-number-preserved : goal.loop-number-preserved
loop-number-preserved c =
    let names = c.args.states.now in
    let params = c.args.params.now in
    let all = c.args.ahead.now.bytes.now in
    let rest = c.read_members.new.ahead.bytes.now in
    let types = c.read_members.new.set.items in
    let env = c.loop-number.env.items in
    let items : c.push.new.self.items ≡ env ++ types ∷ [] = c.in_ok-push.ensures.items in (
      subst (λ (xs : Env). SetsRead names params all xs rest) (sym items)
          (sets_next names params all c.loop-number.ahead.bytes.now c.expect_label.new.ahead.bytes.now rest c.loop-number.number env types c.loop-number.invariant.0 (sym c.loop-number.invariant.1) c.in_ok-expect_label.ensures.read c.in_ok-read_members.ensures.read),
      ap length items ∙ (length-append env (types ∷ []) ∙ omega (arith, c.loop-number.invariant.1)),
    )
