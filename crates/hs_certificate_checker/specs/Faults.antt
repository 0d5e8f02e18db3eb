-- Why a table, void pairs and read pairs over a flow are no certificate of acceptance.
--     IsFirstOther P xs place    the item at this place is the first of which P doesn't hold
--     IsFirstNotVoid             so of the pairs that are void; one out of shape comes before all others
--     IsUncovered                the entry weakly follows and matters, and is neither covered nor void
--     HasCause                   what a fault says is so, and nothing that is looked at before it is a fault
--     fault_of, IsFlowFault      the fault of a flow that lacks a pair; a fault for every table over this flow
--     NamesRow I row             the fault is that the row's entry is missing, or want of memory
--     IsFlaw                     what is said over a closed flow, where the start entry is lacking and all pairs are in shape
use Rattle.std.specs.Prelude.{◌≡◌, ℕ, ◌<◌, List, slice_get, Some, Contains, ◌⊎◌}
use Rattle.hs_scheme.specs.declared.flow.Pair.{Pair}
use Rattle.hs_scheme.specs.declared.flow.Pair.TheVariants.{OfFlow, OfHead}
use Rattle.hs_scheme.specs.Problem.{ProblemData}
use Rattle.hs_table.specs.Entries.{EntryData}
use Rattle.hs_table.specs.Tables.{HasStart}
use Rattle.hs_verdict.specs.Premises.{HasClosedFlow}
use Rattle.hs_flow_checker.specs.declared.gaps.Kind.TheVariants.{Flow}
use Rattle.hs_flow_checker.specs.Gaps.{Lacks, HoldsAll}
use Rattle.hs_weak.specs.Strength.{AsStrongAs}
use Rattle.hs_weak.specs.Weak.{WeaklyFollows, IsCoveredIn}
use Rattle.hs_weak.specs.Void.{VoidData, IsVoidShape, IsVoidPair, IsVoidList}
use Rattle.hs_weak.specs.Certificate.{Matters, IsVoidEntry}
use Rattle.hs_types.specs.Interned.{InternerData, RowData, entry_of}
use Rattle.hs_certificate_checker.specs.declared.fault.CertificateFault.{CertificateFault}
use Rattle.hs_certificate_checker.specs.declared.fault.CertificateFault.TheVariants.{FlowOpen, HeadOpen, HasStart as StartEntry, NotVoid, Missing, OutOfMemory}

pub record IsFirstOther {X : Type 0} (P : X → Type 0) (xs : List X) (place : ℕ) : Type 0 where
  pub item : X
  pub at : slice_get xs place ≡ Some item
  pub not : P item → ⊥
  pub before : (i : ℕ) (x : X) → i < place → slice_get xs i ≡ Some x → P x

abbrev pub AreInVoidShape : ProblemData → List VoidData → Type 0
AreInVoidShape p V = (v : VoidData) → Contains V v → IsVoidShape p v

abbrev pub IsFirstNotVoid : ProblemData → List EntryData → List VoidData → ℕ → Type 0
IsFirstNotVoid p C V place = IsFirstOther (IsVoidShape p) V place ⊎ (AreInVoidShape p V × IsFirstOther (IsVoidPair p C V) V place)

pub record IsUncovered (p : ProblemData) (C : List EntryData) (V : List VoidData) (R : List (ℕ × ℕ)) (e : EntryData) : Type 0 where
  pub follows : WeaklyFollows AsStrongAs p C e
  pub matters : Matters R e
  pub not_covered : IsCoveredIn AsStrongAs p C e → ⊥
  pub not_void : IsVoidEntry p C V e → ⊥

-- A pair of the flow is named where the flow lacks it, a head pair only where no flow pair is lacking. Want of memory may come at any time.
abbrev pub HasCause : ProblemData → List EntryData → List VoidData → List (ℕ × ℕ) → CertificateFault → Type 0
HasCause p C V R (FlowOpen rule param point) = Lacks p (OfFlow (record { rule = rule; param = param; point = point }))
HasCause p C V R (HeadOpen point rule given) = HoldsAll p Flow × Lacks p (OfHead (record { point = point; rule = rule; given = given }))
HasCause p C V R StartEntry = HasClosedFlow p × HasStart p C
HasCause p C V R (NotVoid place) = HasClosedFlow p × (HasStart p C → ⊥) × IsFirstNotVoid p C V place
HasCause p C V R (Missing e) = HasClosedFlow p × (HasStart p C → ⊥) × IsVoidList p C V × IsUncovered p C V R e
HasCause p C V R OutOfMemory = Unit {0}

abbrev pub fault_of : Pair → CertificateFault
fault_of (OfFlow f) = FlowOpen f.rule f.param f.point
fault_of (OfHead h) = HeadOpen h.point h.rule h.given

abbrev pub IsFlowFault : ProblemData → CertificateFault → Type 0
IsFlowFault p fault = (C : List EntryData) (V : List VoidData) (R : List (ℕ × ℕ)) → HasCause p C V R fault

abbrev pub IsFlaw : ProblemData → List EntryData → List VoidData → List (ℕ × ℕ) → CertificateFault → Type 0
IsFlaw p C V R (FlowOpen rule param point) = ⊥
IsFlaw p C V R (HeadOpen point rule given) = ⊥
IsFlaw p C V R StartEntry = ⊥
IsFlaw p C V R (NotVoid place) = IsFirstOther (IsVoidPair p C V) V place
IsFlaw p C V R (Missing e) = IsVoidList p C V × IsUncovered p C V R e
IsFlaw p C V R OutOfMemory = Unit {0}

abbrev pub NamesRow : InternerData → RowData → CertificateFault → Type 0
NamesRow I row (FlowOpen rule param point) = ⊥
NamesRow I row (HeadOpen point rule given) = ⊥
NamesRow I row StartEntry = ⊥
NamesRow I row (NotVoid place) = ⊥
NamesRow I row (Missing e) = e ≡ entry_of I row
NamesRow I row OutOfMemory = Unit {0}
