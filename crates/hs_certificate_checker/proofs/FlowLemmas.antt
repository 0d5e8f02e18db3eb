-- A flow that lacks a pair.
use Rattle.std.proofs.Common.{◌≡◌, sym, ◌∙◌, ap, subst, Bool, true, List, [], Option, Some, None, MatchOption, slice_get, arith}
use Rattle.hs_scheme.specs.declared.flow.Pair.{Pair}
use Rattle.hs_scheme.specs.declared.flow.Pair.TheVariants.{OfFlow, OfHead}
use Rattle.hs_scheme.specs.Problem.{ProblemData}
use Rattle.hs_scheme.proofs.Lists.{read-slice_get}
use Rattle.hs_flow_checker.specs.declared.gaps.Kind.TheVariants.{Flow, Heads}
use Rattle.hs_flow_checker.specs.Gaps.{HoldsAll, IsFirstLacking}
use Rattle.hs_flow_checker.specs.PassedOn.{DemandNothing}
use Rattle.hs_verdict.specs.Premises.{HasClosedFlow}
use Rattle.hs_checker.proofs.CountLemmas.{no_gap as closed_unless}
use Rattle.hs_certificate_checker.specs.declared.fault.CertificateFault.{CertificateFault}
use Rattle.hs_certificate_checker.specs.Faults.{fault_of, IsFlowFault}

pub no_marks : (p : ProblemData) (marks : List Bool) → marks ≡ [] → DemandNothing p marks
no_marks p marks is point pair marked demanded =
    let none : List Bool = [] in
    let within = (read-slice_get none point true (ap (λ (ms : List Bool). slice_get ms point) (sym is) ∙ marked)).0 in
    absurd (omega (arith, within))

lacking : (p : ProblemData) (pair : Pair) → IsFirstLacking p pair → IsFlowFault p (fault_of pair)
lacking p (OfFlow f) h C V R = h
lacking p (OfHead f) h C V R = h

pub gap_fault : (p : ProblemData) (o : Option Pair) (pair : Pair) (fault : CertificateFault) → o ≡ Some pair → MatchOption o (HoldsAll p Flow × HoldsAll p Heads) (IsFirstLacking p) → fault ≡ fault_of pair → IsFlowFault p fault
gap_fault p None pair fault is h same = absurd (cc)
gap_fault p (Some own) pair fault is h same =
    let e : own ≡ pair = cc in
    subst (λ (x : CertificateFault). IsFlowFault p x) (sym (same ∙ ap fault_of (sym e))) (lacking p own h)

-- none is lacking
pub no_gap : (p : ProblemData) (o : Option Pair) → o ≡ None → MatchOption o (HoldsAll p Flow × HoldsAll p Heads) (IsFirstLacking p) → HasClosedFlow p
no_gap p o is h = closed_unless p o (λ pair some. let f : None ≡ Some pair = sym is ∙ some in absurd (cc)) h
