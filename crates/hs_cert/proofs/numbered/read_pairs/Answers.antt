use Rattle.std.proofs.Common.{refl, sym, ◌∙◌, ap, subst, ◌+◌, length, length-append, List, [], ◌∷◌, Err, arith}
use Rattle.hs_weak.specs.Void.{VoidData}
use Rattle.hs_cert.specs.Certificate.{IsFirstFaulty, IsTableFault}
use Rattle.hs_cert.specs.Front.{HasBegun}
use Rattle.hs_cert.proofs.Right.{pairs_next, first_faulty_pair, on_fault}
use Rattle.hs_cert.proofs.numbered.read_pairs.Goals as goal

pub loop-number-init : goal.loop-number-init
loop-number-init c = (
  λ bytes table all begun. subst (λ (vs : List VoidData). HasBegun c.args.problem.now bytes c.args.heading table vs c.args.lines.now.rest.now) (sym c.requires.void) begun,
  ap length c.requires.void,
  refl,
)

pub returns-in-Err-clause-fault : goal.returns-in-Err-clause-fault
returns-in-Err-clause-fault c = λ bytes table all head.
    let p = c.args.problem.now in
    let h = c.args.heading in
    let begun = c.loop-number.invariant.0 bytes table all head in
    subst (IsTableFault p bytes) (sym c.on_line.ensures)
    (on_fault c.in-Err.misread (h.entries + c.loop-number.number + 4) p bytes
    (λ is. subst (λ k. IsFirstFaulty p bytes (h.entries + k + 4)) c.loop-number.invariant.1
    (first_faulty_pair p c.requires.names bytes h table c.loop-number.certificate.void c.loop-number.lines.rest.now begun all
    (omega (arith, c.loop-number.invariant.1, c.loop-number-test.true, c.requires.count)) (c.in-Err.ensures.faulty (ap (λ x. Err x) is)))))

pub loop-number-preserved : goal.loop-number-preserved
loop-number-preserved c =
    let p = c.args.problem.now in
    let h = c.args.heading in
    let void = c.loop-number.certificate.void in
    let read = c.in-Ok.ensures.read in (
      λ bytes table all head.
          subst (λ (vs : List VoidData). HasBegun p bytes h table vs c.read_next_pair.new.lines.rest.now) (sym read.1)
          (pairs_next p c.requires.names bytes h table void c.loop-number.lines.rest.now (c.loop-number.invariant.0 bytes table all head) c.read_next_pair.new.lines.rest.now read.0 all
          (omega (arith, c.loop-number.invariant.1, c.loop-number-test.true, c.requires.count)) read.2),
      ap length read.1 ∙ (length-append void (read.0 ∷ []) ∙ omega (arith, c.loop-number.invariant.1)),
      c.read_next_pair.ensures.table ∙ c.loop-number.invariant.2,
    )
