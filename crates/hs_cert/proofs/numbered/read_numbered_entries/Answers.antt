use Rattle.std.proofs.Common.{refl, sym, ◌∙◌, ap, subst, ◌+◌, length, length-append, List, [], ◌∷◌, Err, arith}
use Rattle.hs_table.specs.Entries.{EntryData}
use Rattle.hs_cert.specs.Certificate.{IsFirstFaulty, IsTableFault}
use Rattle.hs_cert.specs.Front.{HasBegun}
use Rattle.hs_cert.proofs.Right.{begun, begun_next, first_faulty_entry, on_fault}
use Rattle.hs_cert.proofs.numbered.read_numbered_entries.Goals as goal

pub loop-number-init : goal.loop-number-init
loop-number-init c = (
  λ bytes head.
      subst (λ (xs : List EntryData). HasBegun c.args.problem.now bytes c.args.heading xs [] c.args.lines.now.rest.now) (sym c.requires.table)
      (begun c.args.problem.now bytes c.args.heading c.args.lines.now.rest.now head),
  ap length c.requires.table,
  refl,
)

pub returns-in-Err-clause-fault : goal.returns-in-Err-clause-fault
returns-in-Err-clause-fault c = λ bytes head.
    let p = c.args.problem.now in
    let begun = c.loop-number.invariant.0 bytes head in
    subst (IsTableFault p bytes) (sym c.on_line.ensures)
    (on_fault c.in-Err.misread (c.loop-number.number + 4) p bytes
    (λ is. subst (λ k. IsFirstFaulty p bytes (k + 4)) c.loop-number.invariant.1
    (first_faulty_entry p c.requires.names bytes c.args.heading c.loop-number.certificate.table c.loop-number.lines.rest.now begun (omega (arith, c.loop-number.invariant.1, c.loop-number-test.true)) (c.in-Err.ensures.faulty (ap (λ x. Err x) is)))))

pub loop-number-preserved : goal.loop-number-preserved
loop-number-preserved c =
    let p = c.args.problem.now in
    let table = c.loop-number.certificate.table in
    let read = c.in-Ok.ensures.read in (
      λ bytes head.
          subst (λ (xs : List EntryData). HasBegun p bytes c.args.heading xs [] c.read_next_entry.new.lines.rest.now) (sym read.1)
          (begun_next p c.requires.names bytes c.args.heading table c.loop-number.lines.rest.now (c.loop-number.invariant.0 bytes head) c.read_next_entry.new.lines.rest.now read.0 (omega (arith, c.loop-number.invariant.1, c.loop-number-test.true)) read.2),
      ap length read.1 ∙ (length-append table (read.0 ∷ []) ∙ omega (arith, c.loop-number.invariant.1)),
      c.read_next_entry.ensures.void ∙ c.loop-number.invariant.2,
    )
