use Rattle.std.proofs.Common.{arith, rules, ◌≡◌, ◌<◌, ◌≤◌, ◌++◌, ◌∙◌, ap, sym, refl, subst, ℕ, [], length, take, length-append}
use Rattle.std.proofs.lemmas.List.{length-take-le}
use Rattle.hs_edge.specs.declared.errors.ReadAll.TheVariants.{ReadFault, TooLong, OutOfMemory}
use Rattle.hs_edge.proofs.Noted.{reads_more, reads_end, rose, ok_not_err, other_error, fault_not_long, fault_not_memory, long_not_memory}
use Rattle.hs_edge.proofs.whole.read_all.Goals as goal

pub returns-in-Err-clause-all : goal.returns-in-Err-clause-all
returns-in-Err-clause-all g c = tt

pub returns-in-Err-clause-within : goal.returns-in-Err-clause-within
returns-in-Err-clause-within g c = tt

pub returns-in-Err-clause-emptied : goal.returns-in-Err-clause-emptied
returns-in-Err-clause-emptied g c = tt

pub returns-in-Err-clause-too_long : goal.returns-in-Err-clause-too_long
returns-in-Err-clause-too_long g c same = absurd (other_error ReadFault TooLong fault_not_long same)

pub returns-in-Err-clause-memory : goal.returns-in-Err-clause-memory
returns-in-Err-clause-memory g c same = absurd (other_error ReadFault OutOfMemory fault_not_memory same)

pub returns-in-Err-clause-cause : goal.returns-in-Err-clause-cause
returns-in-Err-clause-cause g c _ =
    rose _ _ (g.S.Source.faults c.args.source.now) (g.S.Source.faults c.pieces.source) (g.S.Source.faults c.read.new.self) c.pieces.invariant.read.begun c.pieces.invariant.same_faults c.in-Err.ensures.cause

pub returns-in-Err-clause-same_faults : goal.returns-in-Err-clause-same_faults
returns-in-Err-clause-same_faults g c other = absurd (other refl)

pub returns-in-Err-clause-never_falls : goal.returns-in-Err-clause-never_falls
returns-in-Err-clause-never_falls g c any =
    subst (λ (n : ℕ). n ≤ g.S.Source.faults c.read.new.self any) (c.pieces.invariant.same_faults any) (c.in-Err.ensures.never_falls any)

pub returns-in-Err-clause-same_files : goal.returns-in-Err-clause-same_files
returns-in-Err-clause-same_files g c any = c.in-Err.ensures.same_files any ∙ c.pieces.invariant.same_files any

pub returns-then-count-eq0-clause-all : goal.returns-then-count-eq0-clause-all
returns-then-count-eq0-clause-all g c =
    let none : take c.in-Ok.count c.read.new.buf ≡ [] = ap (λ (n : ℕ). take n c.read.new.buf) c.if-count-eq0.true in
    let some : 0 < length c.pieces.buffer = omega arith in
    reads_end _ _ _ _ _ _ _ _ _ c.pieces.invariant.read c.in-Ok.ensures.ok_reading c.in-Ok.ensures.ok_left none some

pub returns-then-count-eq0-clause-within : goal.returns-then-count-eq0-clause-within
returns-then-count-eq0-clause-within g c = c.pieces.invariant.within

pub returns-then-count-eq0-clause-too_long : goal.returns-then-count-eq0-clause-too_long
returns-then-count-eq0-clause-too_long g c same = absurd (ok_not_err c.pieces.bytes TooLong same)

pub returns-then-count-eq0-clause-fault : goal.returns-then-count-eq0-clause-fault
returns-then-count-eq0-clause-fault g c same = absurd (ok_not_err c.pieces.bytes ReadFault same)

pub returns-then-count-eq0-clause-memory : goal.returns-then-count-eq0-clause-memory
returns-then-count-eq0-clause-memory g c same = absurd (ok_not_err c.pieces.bytes OutOfMemory same)

pub returns-then-count-eq0-clause-cause : goal.returns-then-count-eq0-clause-cause
returns-then-count-eq0-clause-cause g c same = absurd (ok_not_err c.pieces.bytes ReadFault same)

pub returns-then-count-eq0-clause-same_faults : goal.returns-then-count-eq0-clause-same_faults
returns-then-count-eq0-clause-same_faults g c _ any = c.in-Ok.ensures.ok_faults any ∙ c.pieces.invariant.same_faults any

pub returns-then-count-eq0-clause-never_falls : goal.returns-then-count-eq0-clause-never_falls
returns-then-count-eq0-clause-never_falls g c any =
    subst (λ (n : ℕ). n ≤ g.S.Source.faults c.read.new.self any) (c.pieces.invariant.same_faults any) (c.in-Ok.ensures.never_falls any)

pub returns-then-count-eq0-clause-same_files : goal.returns-then-count-eq0-clause-same_files
returns-then-count-eq0-clause-same_files g c any = c.in-Ok.ensures.same_files any ∙ c.pieces.invariant.same_files any

pub returns-then-count-limit-clause-all : goal.returns-then-count-limit-clause-all
returns-then-count-limit-clause-all g c = tt

pub returns-then-count-limit-clause-within : goal.returns-then-count-limit-clause-within
returns-then-count-limit-clause-within g c = tt

pub returns-then-count-limit-clause-emptied : goal.returns-then-count-limit-clause-emptied
returns-then-count-limit-clause-emptied g c = tt

pub returns-then-count-limit-clause-too_long : goal.returns-then-count-limit-clause-too_long
returns-then-count-limit-clause-too_long g c _ =
    let fits : c.in-Ok.count ≤ length c.read.new.buf = omega (arith, c.in-Ok.ensures.fits) in
    let kept : length c.pieces.bytes.items ≡ c.pieces.bytes.len = search rules in
    let piece = take c.in-Ok.count c.read.new.buf in
    let taken : length piece ≡ c.in-Ok.count = length-take-le c.in-Ok.count c.read.new.buf fits in
    let some : 0 < length piece = omega (arith, taken, c.if-count-eq0.false) in (
      c.pieces.bytes.items ++ piece,
      rw (length-append c.pieces.bytes.items piece) (omega (arith, taken)),
      reads_more _ _ _ _ _ _ _ _ _ c.pieces.invariant.read c.in-Ok.ensures.ok_reading c.in-Ok.ensures.ok_left some,
    )

pub returns-then-count-limit-clause-fault : goal.returns-then-count-limit-clause-fault
returns-then-count-limit-clause-fault g c same = absurd (other_error TooLong ReadFault (λ e. fault_not_long (sym e)) same)

pub returns-then-count-limit-clause-memory : goal.returns-then-count-limit-clause-memory
returns-then-count-limit-clause-memory g c same = absurd (other_error TooLong OutOfMemory long_not_memory same)

pub returns-then-count-limit-clause-cause : goal.returns-then-count-limit-clause-cause
returns-then-count-limit-clause-cause g c same = absurd (other_error TooLong ReadFault (λ e. fault_not_long (sym e)) same)

pub returns-then-count-limit-clause-same_faults : goal.returns-then-count-limit-clause-same_faults
returns-then-count-limit-clause-same_faults g c _ any = c.in-Ok.ensures.ok_faults any ∙ c.pieces.invariant.same_faults any

pub returns-then-count-limit-clause-never_falls : goal.returns-then-count-limit-clause-never_falls
returns-then-count-limit-clause-never_falls g c any =
    subst (λ (n : ℕ). n ≤ g.S.Source.faults c.read.new.self any) (c.pieces.invariant.same_faults any) (c.in-Ok.ensures.never_falls any)

pub returns-then-count-limit-clause-same_files : goal.returns-then-count-limit-clause-same_files
returns-then-count-limit-clause-same_files g c any = c.in-Ok.ensures.same_files any ∙ c.pieces.invariant.same_files any

pub returns-in_err-extend_from_slice-clause-memory :
    goal.returns-in_err-extend_from_slice-clause-memory
returns-in_err-extend_from_slice-clause-memory g c _ =
    let fits : c.in-Ok.count ≤ length c.read.new.buf = omega (arith, c.in-Ok.ensures.fits) in
    let kept : length c.pieces.bytes.items ≡ c.pieces.bytes.len = search rules in
    let piece = take c.in-Ok.count c.read.new.buf in
    let taken : length piece ≡ c.in-Ok.count = length-take-le c.in-Ok.count c.read.new.buf fits in
    let some : 0 < length piece = omega (arith, taken, c.if-count-eq0.false) in (
      c.pieces.bytes.items ++ piece,
      rw (length-append c.pieces.bytes.items piece) (omega (arith, taken)),
      reads_more _ _ _ _ _ _ _ _ _ c.pieces.invariant.read c.in-Ok.ensures.ok_reading c.in-Ok.ensures.ok_left some,
    )

pub returns-in_err-extend_from_slice-clause-same_faults :
    goal.returns-in_err-extend_from_slice-clause-same_faults
returns-in_err-extend_from_slice-clause-same_faults g c _ any =
    c.in-Ok.ensures.ok_faults any ∙ c.pieces.invariant.same_faults any

pub returns-in_err-extend_from_slice-clause-never_falls :
    goal.returns-in_err-extend_from_slice-clause-never_falls
returns-in_err-extend_from_slice-clause-never_falls g c any =
    subst (λ (n : ℕ). n ≤ g.S.Source.faults c.read.new.self any) (c.pieces.invariant.same_faults any) (c.in-Ok.ensures.never_falls any)

pub returns-in_err-extend_from_slice-clause-same_files :
    goal.returns-in_err-extend_from_slice-clause-same_files
returns-in_err-extend_from_slice-clause-same_files g c any =
    c.in-Ok.ensures.same_files any ∙ c.pieces.invariant.same_files any
