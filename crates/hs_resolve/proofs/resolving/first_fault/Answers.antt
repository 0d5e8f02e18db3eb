use Rattle.std.proofs.Common.{◌∙◌, ap, subst, length, List, ℕ, Option, IfNone, arith}
use Rattle.hs_resolve.specs.declared.fault.NameFault.{NameFault}
use Rattle.hs_resolve.specs.Answer.{HasNoLineFault}
use Rattle.hs_resolve.proofs.resolving.first_fault.Goals as goal

pub returns-in-Some-clause-fault : goal.returns-in-Some-clause-fault
returns-in-Some-clause-fault c = λ raw tables lines. c.in-Some.ensures.fault raw lines

pub returns-then-len-gt-MAX_STATES-clause-fault : goal.returns-then-len-gt-MAX_STATES-clause-fault
returns-then-len-gt-MAX_STATES-clause-fault c = λ raw tables lines.
    let clean : HasNoLineFault raw = subst (λ (o : Option NameFault). IfNone o (HasNoLineFault raw)) c.in_default.is (c.first.ensures.none raw lines) in
    let len = c.len.ensures ∙ ap (λ (ns : List (List ℕ)). length ns) tables.states in
    (clean, omega arith)

pub returns-clause-fault : goal.returns-clause-fault
returns-clause-fault c = λ raw tables lines. tt

pub returns-clause-none : goal.returns-clause-none
returns-clause-none c = λ raw tables lines.
    let len = c.len.ensures ∙ ap (λ (ns : List (List ℕ)). length ns) tables.states in
    record {
      lines = subst (λ (o : Option NameFault). IfNone o (HasNoLineFault raw)) c.in_default.is (c.first.ensures.none raw lines);
      states = omega arith;
    }
