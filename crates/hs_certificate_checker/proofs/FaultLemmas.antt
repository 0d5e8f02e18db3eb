-- A certificate has no fault.
use Rattle.std.proofs.Common.{◌≡◌, refl, ℕ, List, inl, inr}
use Rattle.hs_scheme.specs.declared.flow.Pair.TheVariants.{OfFlow, OfHead}
use Rattle.hs_scheme.specs.Problem.{ProblemData}
use Rattle.hs_scheme.proofs.Lists.{Contains-at}
use Rattle.hs_table.specs.Entries.{EntryData}
use Rattle.hs_verdict.specs.Premises.{HasClosedFlow}
use Rattle.hs_weak.specs.Void.{VoidData}
use Rattle.hs_weak.specs.Certificate.{IsAcceptanceCertificate}
use Rattle.hs_certificate_checker.specs.declared.fault.CertificateFault.{CertificateFault}
use Rattle.hs_certificate_checker.specs.declared.fault.CertificateFault.TheVariants.{FlowOpen, HeadOpen, HasStart, NotVoid, Missing, OutOfMemory}
use Rattle.hs_certificate_checker.specs.Faults.{HasCause}

pub no_fault : (p : ProblemData) (C : List EntryData) (V : List VoidData) (R : List (ℕ × ℕ)) (fault : CertificateFault) → HasClosedFlow p → IsAcceptanceCertificate p C V R → HasCause p C V R fault → fault ≡ OutOfMemory
no_fault p C V R (FlowOpen rule param point) flow is h = absurd (h.absent (flow (OfFlow (record { rule = rule; param = param; point = point })) h.demanded))
no_fault p C V R (HeadOpen point rule given) flow is h = absurd (h.1.absent (flow (OfHead (record { point = point; rule = rule; given = given })) h.1.demanded))
no_fault p C V R HasStart flow is h = absurd (is.no_start h.1)
no_fault p C V R (NotVoid place) flow is h = elim h.2 [
  | inl first ↦ absurd (first.not (is.void first.item (Contains-at V place first.item first.at)).0)
  | inr first ↦ absurd (first.1.not (is.void first.1.item (Contains-at V place first.1.item first.1.at)))
]
no_fault p C V R (Missing e) flow is h = elim (is.covered e h.3.follows h.3.matters) [
  | inl covered ↦ absurd (h.3.not_covered covered)
  | inr void ↦ absurd (h.3.not_void void)
]
no_fault p C V R OutOfMemory flow is h = refl
