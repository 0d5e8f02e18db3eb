use Rattle.std.proofs.Common.{◌≡◌, sym, ◌∙◌, ap, subst, ℕ, List, map, All}
use Rattle.std.proofs.lemmas.Result.{IfErr-weaker, on_ok_weaker}
use Rattle.hs_scheme.specs.Problem.{ProblemData}
use Rattle.hs_scheme.specs.acceptance.Run.{Accepts}
use Rattle.hs_table.specs.Entries.{EntryData}
use Rattle.hs_verdict.specs.Premises.{HasClosedFlow}
use Rattle.hs_weak.specs.Void.{VoidData, IsVoidList}
use Rattle.hs_weak.specs.Certificate.{IsAcceptanceCertificate}
use Rattle.hs_types.specs.Interned.{InternerData, RowData, IsRow, entry_of}
use Rattle.hs_numbered.specs.Certificates.{VoidRowData, IsVoidRow, void_of}
use Rattle.hs_certificate_checker.specs.declared.fault.CertificateFault.{CertificateFault}
use Rattle.hs_certificate_checker.specs.Faults.{AreInVoidShape, HasCause, IsFlaw}
use Rattle.hs_certificate_checker.specs.Settled.{AreSettled}
use Rattle.hs_certificate_checker.proofs.FlawLemmas.{flaw_cause, certificate}
use Rattle.hs_certificate_checker.proofs.numbered.check_numbered.Goals as goal

entries_are : (I J : InternerData) (rows : List RowData) (table : List EntryData) → I ≡ J → map (entry_of J) rows ≡ table → map (entry_of I) rows ≡ table
entries_are I J rows table is are = ap (λ (z : InternerData). map (entry_of z) rows) is ∙ are

pairs_are : (I J : InternerData) (rows : List VoidRowData) (void : List VoidData) → I ≡ J → map (void_of J) rows ≡ void → map (void_of I) rows ≡ void
pairs_are I J rows void is are = ap (λ (z : InternerData). map (void_of z) rows) is ∙ are

whole_so : (p : ProblemData) (R : List (ℕ × ℕ)) (T C : List EntryData) (W V : List VoidData) → T ≡ C → W ≡ V → IsVoidList p T W × AreSettled p T W R → IsVoidList p C V × AreSettled p C V R
whole_so p R T C W V t w h = subst (λ (X : List EntryData). IsVoidList p X V × AreSettled p X V R) t (subst (λ (X : List VoidData). IsVoidList p T X × AreSettled p T X R) w h)

flaw_so : (p : ProblemData) (R : List (ℕ × ℕ)) (T C : List EntryData) (W V : List VoidData) (fault : CertificateFault) → T ≡ C → W ≡ V → IsFlaw p T W R fault → IsFlaw p C V R fault
flaw_so p R T C W V fault t w h = subst (λ (X : List EntryData). IsFlaw p X V R fault) t (subst (λ (X : List VoidData). IsFlaw p T X R fault) w h)

pub check_taken_apart-requires-clause-rows : goal.check_taken_apart-requires-clause-rows
check_taken_apart-requires-clause-rows c = subst (λ (I : InternerData). All (IsRow I) c.into_parts.result.table.items) (sym c.into_parts.ensures.numbers) c.into_parts.ensures.range

pub check_taken_apart-requires-clause-void_rows : goal.check_taken_apart-requires-clause-void_rows
check_taken_apart-requires-clause-void_rows c = subst (λ (I : InternerData). All (IsVoidRow I) c.into_parts.result.void.items) (sym c.into_parts.ensures.numbers) c.into_parts.ensures.void_range

pub check_taken_apart-requires-clause-shapes : goal.check_taken_apart-requires-clause-shapes
check_taken_apart-requires-clause-shapes c =
    let d = c.args.certificate in
    subst (λ (V : List VoidData). AreInVoidShape c.args.problem.now V) (sym (pairs_are c.into_parts.result.interner d.numbers c.into_parts.result.void.items d.void c.into_parts.ensures.numbers c.into_parts.ensures.pairs)) c.in-Ok.ensures.fine.2

pub returns-in-Ok-clause-certificate : goal.returns-in-Ok-clause-certificate
returns-in-Ok-clause-certificate c =
    let p = c.args.problem.now in
    let R = c.args.reads.now in
    let d = c.args.certificate in
    let parts = c.into_parts.result in
    let T = map (entry_of parts.interner) parts.table.items in
    let W = map (void_of parts.interner) parts.void.items in
    let t = entries_are parts.interner d.numbers parts.table.items d.table c.into_parts.ensures.numbers c.into_parts.ensures.entries in
    let w = pairs_are parts.interner d.numbers parts.void.items d.void c.into_parts.ensures.numbers c.into_parts.ensures.pairs in
    let fine = c.in-Ok.ensures.fine in
    on_ok_weaker {P = IsVoidList p T W × AreSettled p T W R} {Q = HasClosedFlow p × IsAcceptanceCertificate p d.table d.void R} c.check_taken_apart.result
    (λ whole. (fine.0, certificate p d.table d.void R c.requires.reads fine.1 (whole_so p R T d.table W d.void t w whole))) c.check_taken_apart.ensures.whole

pub returns-in-Ok-clause-accepts : goal.returns-in-Ok-clause-accepts
returns-in-Ok-clause-accepts c =
    let p = c.args.problem.now in
    let R = c.args.reads.now in
    let d = c.args.certificate in
    let parts = c.into_parts.result in
    let T = map (entry_of parts.interner) parts.table.items in
    let W = map (void_of parts.interner) parts.void.items in
    let t = entries_are parts.interner d.numbers parts.table.items d.table c.into_parts.ensures.numbers c.into_parts.ensures.entries in
    let w = pairs_are parts.interner d.numbers parts.void.items d.void c.into_parts.ensures.numbers c.into_parts.ensures.pairs in
    let fine = c.in-Ok.ensures.fine in
    on_ok_weaker {P = IsVoidList p T W × AreSettled p T W R} {Q = Accepts p.sorted.scheme.rules p.sorted.automaton.transitions} c.check_taken_apart.result
    (λ whole. c.certificates_accept.ensures p d.table d.void R c.know_sorted_problem.ensures fine.0 (certificate p d.table d.void R c.requires.reads fine.1 (whole_so p R T d.table W d.void t w whole))) c.check_taken_apart.ensures.whole

pub returns-in-Ok-clause-fault : goal.returns-in-Ok-clause-fault
returns-in-Ok-clause-fault c =
    let p = c.args.problem.now in
    let R = c.args.reads.now in
    let d = c.args.certificate in
    let parts = c.into_parts.result in
    let T = map (entry_of parts.interner) parts.table.items in
    let W = map (void_of parts.interner) parts.void.items in
    let t = entries_are parts.interner d.numbers parts.table.items d.table c.into_parts.ensures.numbers c.into_parts.ensures.entries in
    let w = pairs_are parts.interner d.numbers parts.void.items d.void c.into_parts.ensures.numbers c.into_parts.ensures.pairs in
    let fine = c.in-Ok.ensures.fine in
    IfErr-weaker c.check_taken_apart.result (IsFlaw p T W R) (HasCause p d.table d.void R)
    (λ fault flaw. flaw_cause p d.table d.void R fault fine.0 fine.1 fine.2 (flaw_so p R T d.table W d.void fault t w flaw)) c.check_taken_apart.ensures.flaw

pub returns-in-Err-clause-fault : goal.returns-in-Err-clause-fault
returns-in-Err-clause-fault c = c.in-Err.ensures.fault c.args.reads.now
