use Rattle.std.proofs.Common.{◌≡◌, sym, ◌∙◌, true, false}
use Rattle.std.proofs.lemmas.Result.{IfErr-weaker, on_ok_weaker, err_from_is_err_and}
use Rattle.hs_scheme.specs.acceptance.Run.{Accepts}
use Rattle.hs_table.specs.Tables.{HasStart}
use Rattle.hs_verdict.specs.Premises.{HasClosedFlow}
use Rattle.hs_weak.specs.Void.{IsVoidList}
use Rattle.hs_weak.specs.Certificate.{IsAcceptanceCertificate}
use Rattle.hs_certificate_checker.specs.Faults.{HasCause, IsFlaw}
use Rattle.hs_certificate_checker.specs.Settled.{AreSettled}
use Rattle.hs_certificate_checker.proofs.FlawLemmas.{flaw_cause, shape_cause, all_in_shape, certificate}
use Rattle.hs_certificate_checker.proofs.checking.check_certificate.Goals as goal

pub returns-in_err-check_flow-clause-fault : goal.returns-in_err-check_flow-clause-fault
returns-in_err-check_flow-clause-fault c =
    let fault = c.in_err-check_flow.ensures.fault c.args.table.now c.args.void.now c.args.reads.now in
    let e = err_from_is_err_and c.from_residual.result c.from_residual.ensures.1 in
    rw (e.1, e.2) fault

pub returns-then-has_start-clause-fault : goal.returns-then-has_start-clause-fault
returns-then-has_start-clause-fault c = (c.in_ok-check_flow.ensures.closed, c.has_start.ensures.0 c.if-has_start.true)

pub returns-in-Some-clause-fault : goal.returns-in-Some-clause-fault
returns-in-Some-clause-fault c =
    let p = c.args.problem.now in
    let no_start : HasStart p c.args.table.now → ⊥ = λ start. let f : true ≡ false = sym (c.has_start.ensures.1 start) ∙ c.if-has_start.false in cc in
    shape_cause p c.args.table.now c.args.void.now c.args.reads.now c.first_out_of_shape.result c.in-Some.place c.in_ok-check_flow.ensures.closed no_start c.in-Some.is c.first_out_of_shape.ensures

pub check_pairs-requires : goal.check_pairs-requires
check_pairs-requires c = all_in_shape c.args.problem.now c.args.void.now c.first_out_of_shape.result c.in_default.not-Some c.first_out_of_shape.ensures

pub returns-clause-fault : goal.returns-clause-fault
returns-clause-fault c =
    let p = c.args.problem.now in
    let C = c.args.table.now in
    let V = c.args.void.now in
    let R = c.args.reads.now in
    let no_start : HasStart p C → ⊥ = λ start. let f : true ≡ false = sym (c.has_start.ensures.1 start) ∙ c.if-has_start.false in cc in
    let shapes = all_in_shape p V c.first_out_of_shape.result c.in_default.not-Some c.first_out_of_shape.ensures in
    IfErr-weaker c.check_pairs.result (IsFlaw p C V R) (HasCause p C V R) (λ fault flaw. flaw_cause p C V R fault c.in_ok-check_flow.ensures.closed no_start shapes flaw) c.check_pairs.ensures.flaw

pub returns-clause-certificate : goal.returns-clause-certificate
returns-clause-certificate c =
    let p = c.args.problem.now in
    let C = c.args.table.now in
    let V = c.args.void.now in
    let R = c.args.reads.now in
    let no_start : HasStart p C → ⊥ = λ start. let f : true ≡ false = sym (c.has_start.ensures.1 start) ∙ c.if-has_start.false in cc in
    on_ok_weaker {P = IsVoidList p C V × AreSettled p C V R} {Q = HasClosedFlow p × IsAcceptanceCertificate p C V R} c.check_pairs.result (λ whole. (c.in_ok-check_flow.ensures.closed, certificate p C V R c.requires.reads no_start whole)) c.check_pairs.ensures.whole

pub returns-clause-accepts : goal.returns-clause-accepts
returns-clause-accepts c =
    let p = c.args.problem.now in
    let C = c.args.table.now in
    let V = c.args.void.now in
    let R = c.args.reads.now in
    let no_start : HasStart p C → ⊥ = λ start. let f : true ≡ false = sym (c.has_start.ensures.1 start) ∙ c.if-has_start.false in cc in
    on_ok_weaker {P = IsVoidList p C V × AreSettled p C V R} {Q = Accepts p.sorted.scheme.rules p.sorted.automaton.transitions} c.check_pairs.result
    (λ whole. c.certificates_accept.ensures p C V R c.know_sorted_problem.ensures c.in_ok-check_flow.ensures.closed (certificate p C V R c.requires.reads no_start whole)) c.check_pairs.ensures.whole
