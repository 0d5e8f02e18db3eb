-- What a check of void pairs and of rows finds.
use Rattle.std.proofs.Common.{◌≡◌, refl, sym, subst, ℕ, List, map, Option, Some, None, MatchOption, inl, inr}
use Rattle.hs_scheme.specs.Problem.{ProblemData}
use Rattle.hs_table.specs.Entries.{EntryData}
use Rattle.hs_table.specs.Tables.{HasStart as HasStartEntry}
use Rattle.hs_scheme.proofs.Lists.{Contains-at, match_some, match_none}
use Rattle.hs_verdict.specs.Premises.{HasClosedFlow}
use Rattle.hs_weak.specs.Reads.{IsClosedReads}
use Rattle.hs_weak.specs.Void.{VoidData, IsVoidShape, IsVoidPair, IsVoidList}
use Rattle.hs_weak.specs.Certificate.{IsAcceptanceCertificate}
use Rattle.hs_types.specs.Interned.{InternerData, RowData, IsRow, entry_of, Grows}
use Rattle.hs_numbered.specs.Certificates.{VoidRowData, void_of}
use Rattle.hs_choices.specs.Numbered.{AreNumbered}
use Rattle.hs_choices.proofs.Staying.{numbered_stays}
use Rattle.hs_void.specs.Voids.{BasisData, VoidsData, Fits, IsFirstWithout}
use Rattle.hs_certificate_checker.specs.declared.fault.CertificateFault.{CertificateFault}
use Rattle.hs_certificate_checker.specs.declared.fault.CertificateFault.TheVariants.{FlowOpen, HeadOpen, HasStart, NotVoid, Missing, OutOfMemory}
use Rattle.hs_certificate_checker.specs.Faults.{IsFirstOther, AreInVoidShape, IsUncovered, HasCause, NamesRow, IsFlaw}
use Rattle.hs_certificate_checker.specs.Settled.{StandFor, AreSettled, IsOpen}
use Rattle.hs_certificate_checker.proofs.SettledLemmas.{own_rows}
use Rattle.hs_certificate_checker.proofs.AmongLemmas.{match_left}

-- all pairs are void
pub void_list : (p : ProblemData) (C : List EntryData) (V : List VoidData) (first : Option ℕ) → AreInVoidShape p V → ((place : ℕ) → first ≡ Some place → ⊥) → IsFirstWithout p C V first → IsVoidList p C V
void_list p C V None shapes never each v there = (shapes v there, each v there)
void_list p C V (Some place) shapes never each v there = absurd (never place (λ i. Some place))

-- the first that isn't
pub first_other : (p : ProblemData) (C : List EntryData) (V : List VoidData) (first : Option ℕ) (place : ℕ) → first ≡ Some place → AreInVoidShape p V → IsFirstWithout p C V first → IsFirstOther (IsVoidPair p C V) V place
first_other p C V None place is shapes h = absurd (cc)
first_other p C V (Some own) place is shapes h =
    let same : own ≡ place = cc in
    subst (λ k. IsFirstOther (IsVoidPair p C V) V k) same (record {
      item = h.pair;
      at = h.at;
      not = λ pair. h.without pair.1;
      before = λ k v lt at. (shapes v (Contains-at V k v at), h.before k v lt at);
    })

pub named : (p : ProblemData) (C : List EntryData) (V : List VoidData) (R : List (ℕ × ℕ)) (I : InternerData) (row : RowData) (fault : CertificateFault) → NamesRow I row fault → IsVoidList p C V → IsOpen p C V R I row → IsFlaw p C V R fault
named p C V R I row (FlowOpen rule param point) h void opened = absurd h
named p C V R I row (HeadOpen point rule given) h void opened = absurd h
named p C V R I row HasStart h void opened = absurd h
named p C V R I row (NotVoid place) h void opened = absurd h
named p C V R I row (Missing e) h void opened = (void, subst (λ (x : EntryData). IsUncovered p C V R x) (sym h) opened.1)
named p C V R I row OutOfMemory h void opened = tt

-- a flaw over a closed flow, where the start entry is lacking and all pairs are in shape
pub flaw_cause : (p : ProblemData) (C : List EntryData) (V : List VoidData) (R : List (ℕ × ℕ)) (fault : CertificateFault) → HasClosedFlow p → (HasStartEntry p C → ⊥) → AreInVoidShape p V → IsFlaw p C V R fault → HasCause p C V R fault
flaw_cause p C V R (FlowOpen rule param point) flow start shapes h = absurd h
flaw_cause p C V R (HeadOpen point rule given) flow start shapes h = absurd h
flaw_cause p C V R HasStart flow start shapes h = absurd h
flaw_cause p C V R (NotVoid place) flow start shapes h = (flow, start, inr (shapes, h))
flaw_cause p C V R (Missing e) flow start shapes h = (flow, start, h.0, h.1)
flaw_cause p C V R OutOfMemory flow start shapes h = tt

pub certificate : (p : ProblemData) (C : List EntryData) (V : List VoidData) (R : List (ℕ × ℕ)) → IsClosedReads p R → (HasStartEntry p C → ⊥) → IsVoidList p C V × AreSettled p C V R → IsAcceptanceCertificate p C V R
certificate p C V R reads start whole = record { reads = reads; void = whole.0; no_start = start; covered = whole.1 }

-- rows in shape stand for some table and void pairs
pub own_stand : (v : VoidsData) (I : InternerData) → Fits I v → StandFor v.basis I (map (entry_of I) v.basis.table) (map (void_of I) v.basis.void)
own_stand v I fits = record { rows = own_rows v.basis.problem I v.basis.table fits.rows.shape; in_use = fits.rows.in_use; order = fits.rows.order; pairs = refl; envs = fits.rows.envs }

-- by other names
pub stand_so : (p q : ProblemData) (I J : InternerData) (table rows : List RowData) (void pairs : List VoidRowData) → q ≡ p → J ≡ I → rows ≡ table → pairs ≡ void → (C : List EntryData) (V : List VoidData) → AreNumbered p C V I table void → AreNumbered q C V J rows pairs
stand_so p q I J table rows void pairs p_is same rows_are pairs_are C V are =
    subst (λ (z : ProblemData). AreNumbered z C V J rows pairs) (sym p_is) (subst (λ (z : InternerData). AreNumbered p C V z rows pairs) (sym same)
    (subst (λ (z : List RowData). AreNumbered p C V I z pairs) (sym rows_are) (subst (λ (z : List VoidRowData). AreNumbered p C V I table z) (sym pairs_are) are)))

-- what the check of all that is by number finds
module _ (b : BasisData) (p : ProblemData) (p_is : p ≡ b.problem) (R : List (ℕ × ℕ)) (I J K : InternerData) (g : Grows I J) (first : Option ℕ) (missing : Option RowData)
    (told : (C : List EntryData) (V : List VoidData) → StandFor b I C V → IsFirstWithout b.problem C V first)
    (open_told : (C : List EntryData) (V : List VoidData) → StandFor b J C V → MatchOption missing (AreSettled p C V R) (IsOpen p C V R K)) where
  own_told : (C : List EntryData) (V : List VoidData) → StandFor b I C V → IsFirstWithout p C V first
  own_told C V stand = subst (λ (q : ProblemData). IsFirstWithout q C V first) (sym p_is) (told C V stand)

  grown : (C : List EntryData) (V : List VoidData) → StandFor b I C V → StandFor b J C V
  grown C V stand = numbered_stays b.problem C V I J b.table b.void g stand

  pub open_flaw : ((place : ℕ) → first ≡ Some place → ⊥) → (row : RowData) → missing ≡ Some row → (fault : CertificateFault) → NamesRow K row fault → (C : List EntryData) (V : List VoidData) → StandFor b I C V → AreInVoidShape p V → IsFlaw p C V R fault
  open_flaw never row is fault names C V stand shapes =
      named p C V R K row fault names (void_list p C V first shapes never (own_told C V stand)) (match_some missing row (AreSettled p C V R) (IsOpen p C V R K) is (open_told C V (grown C V stand)))

  pub row_used : (row : RowData) → missing ≡ Some row → (C : List EntryData) (V : List VoidData) → StandFor b I C V → IsRow K row
  row_used row is C V stand = (match_some missing row (AreSettled p C V R) (IsOpen p C V R K) is (open_told C V (grown C V stand))).0

  pub no_flaw : ((place : ℕ) → first ≡ Some place → ⊥) → missing ≡ None → (C : List EntryData) (V : List VoidData) → StandFor b I C V → AreInVoidShape p V → IsVoidList p C V × AreSettled p C V R
  no_flaw never is C V stand shapes = (void_list p C V first shapes never (own_told C V stand), match_none missing (AreSettled p C V R) (IsOpen p C V R K) is (open_told C V (grown C V stand)))

-- before entries are looked at
pub first_flaw : (b : BasisData) (p : ProblemData) → p ≡ b.problem → (R : List (ℕ × ℕ)) (I : InternerData) (first : Option ℕ) → ((C : List EntryData) (V : List VoidData) → StandFor b I C V → IsFirstWithout b.problem C V first)
    → (place : ℕ) → first ≡ Some place → (C : List EntryData) (V : List VoidData) → StandFor b I C V → AreInVoidShape p V → IsFlaw p C V R (NotVoid place)
first_flaw b p p_is R I first told place is C V stand shapes = first_other p C V first place is shapes (subst (λ (q : ProblemData). IsFirstWithout q C V first) (sym p_is) (told C V stand))

pub told_missing : (b d : BasisData) (p : ProblemData) (R : List (ℕ × ℕ)) (J K : InternerData) (missing : Option RowData) → d ≡ b → ((C : List EntryData) (V : List VoidData) → StandFor d J C V → MatchOption missing (AreSettled p C V R) (IsOpen p C V R K))
    → (C : List EntryData) (V : List VoidData) → StandFor b J C V → MatchOption missing (AreSettled p C V R) (IsOpen p C V R K)
told_missing b d p R J K missing basis told = subst (λ (z : BasisData). (C : List EntryData) (V : List VoidData) → StandFor z J C V → MatchOption missing (AreSettled p C V R) (IsOpen p C V R K)) basis told

-- pairs out of shape
pub shape_cause : (p : ProblemData) (C : List EntryData) (V : List VoidData) (R : List (ℕ × ℕ)) (first : Option ℕ) (place : ℕ) → HasClosedFlow p → (HasStartEntry p C → ⊥) → first ≡ Some place → MatchOption first (AreInVoidShape p V) (IsFirstOther (IsVoidShape p) V)
    → HasCause p C V R (NotVoid place)
shape_cause p C V R first place flow start is h = (flow, start, inl (match_some first place (AreInVoidShape p V) (IsFirstOther (IsVoidShape p) V) is h))

pub all_in_shape : (p : ProblemData) (V : List VoidData) (first : Option ℕ) → ((place : ℕ) → first ≡ Some place → ⊥) → MatchOption first (AreInVoidShape p V) (IsFirstOther (IsVoidShape p) V) → AreInVoidShape p V
all_in_shape p V first never h = match_left first (AreInVoidShape p V) (IsFirstOther (IsVoidShape p) V) never h
