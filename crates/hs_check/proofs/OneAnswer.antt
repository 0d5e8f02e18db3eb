-- The bytes of two files come to one status.
use Rattle.std.proofs.Common.{◌≡◌, refl, sym, ◌∙◌, ap, subst, ℕ, ◌-◌, ◌<◌, ◌≤◌, List, [], length, Result, Ok, Err, ◌⊎◌, inl, inr, arith}
use Rattle.std.specs.Prelude.{◌^◌, min}
use Rattle.hs_scheme.specs.Problem.{ProblemData}
use Rattle.hs_scheme.proofs.Lists.{Contains-at}
use Rattle.hs_table.specs.Entries.{EntryData}
use Rattle.hs_table.specs.Tables.{IsClosedTable, HasStart as HasStartEntry, IsInstanceCount}
use Rattle.hs_table_laws.proofs.Places.{fewer}
use Rattle.hs_checker.specs.Checked.{IsCount}
use Rattle.hs_weak.specs.Void.{VoidData, IsVoidList}
use Rattle.hs_weak.specs.Certificate.{IsAcceptanceCertificate}
use Rattle.hs_certificate_checker.specs.Faults.{IsFirstNotVoid}
use Rattle.hs_cert.specs.Certificate.{HasOwnNames, IsFirstFaulty, IsCertificate, IsCompactCertificate}
use Rattle.hs_cert.proofs.OneTable.{one_table, no_fault}
use Rattle.hs_front.specs.Yields.{Yields}
use Rattle.hs_front.proofs.Yielding.{one_yield}
use Rattle.hs_check.specs.declared.fault.Fault.{Fault}
use Rattle.hs_check.specs.declared.fault.Fault.TheVariants.{Front, TableTooLong, TableLine, Missing, HasStart, NotVoid, Instances}
use Rattle.hs_check.specs.declared.verified.Shown.{Shown}
use Rattle.hs_check.specs.declared.verified.Shown.TheVariants.{Full, Compact}
use Rattle.hs_check.specs.Evidence.{max_table, TableShows, CompactShows, OwnReads, OfCertificate, OfCompact, FileShows, ComesTo}
use Rattle.hs_check.specs.Outcome.{status_due}
use Rattle.hs_reads.specs.Own.{AreReadsOf}
use Rattle.hs_reads.proofs.ReadLemmas.{same_reads}
use Rattle.hs_check.proofs.SameMembers.{certificate_same}
use Rattle.hs_check.proofs.OwnNames.{has_names}

-- ---- a table has one number of instances

at_most : (p : ProblemData) (T : List EntryData) (m n : ℕ) (a : IsInstanceCount p T m) (b : IsInstanceCount p T n) → length a.all ≤ length b.all
at_most p T m n a b = fewer a.all b.all a.distinct (λ x there. (b.exact x.0 x.1).1 ((a.exact x.0 x.1).0 there))

one_total : (p : ProblemData) (T : List EntryData) (m n : ℕ) → IsInstanceCount p T m → IsInstanceCount p T n → m ≡ n
one_total p T m n a b = omega (arith, at_most p T m n a b, at_most p T n m b a, a.count, b.count)

one_count : (p : ProblemData) (T : List EntryData) (m n : ℕ) → IsCount p T m → IsCount p T n → m ≡ n
one_count p T m n a b = a.is ∙ (ap (λ (k : ℕ). min k (2 ^ 64 - 1)) (one_total p T a.total b.total a.instances b.instances) ∙ sym b.is)

-- ---- the bytes of a table have one status

-- a status by what decides it
abbrev Judged : ℕ → Type 0 → Type 0
Judged status Good = ((status ≡ 0) × Good) ⊎ ((status ≡ 1) × (Good → ⊥))

same_judged : (m n : ℕ) (Good : Type 0) → Judged m Good → Judged n Good → m ≡ n
same_judged m n Good (inl (e, g)) (inl (f, h)) = e ∙ sym f
same_judged m n Good (inl (e, g)) (inr (f, none)) = absurd (none g)
same_judged m n Good (inr (e, none)) (inl (f, h)) = absurd (none h)
same_judged m n Good (inr (e, none)) (inr (f, also)) = e ∙ sym f

-- no list with a pair that isn't void is a void list
not_void_list : (p : ProblemData) (table : List EntryData) (void : List VoidData) (place : ℕ) → IsFirstNotVoid p table void place → IsVoidList p table void → ⊥
not_void_list p table void place (inl f) all = f.not (all f.item (Contains-at void place f.item f.at)).0
not_void_list p table void place (inr h) all = h.1.not (all h.1.item (Contains-at void place h.1.item h.1.at))

module _ (p : ProblemData) (bytes : List ℕ) where
  record Good (table : List EntryData) (checked : ℕ) : Type 0 where
    closed : IsClosedTable p table
    lacks : HasStartEntry p table → ⊥
    counts : IsCount p table checked

  full_judged : (table : List EntryData) (checked : ℕ) (a : Result Shown Fault) → TableShows p table checked a → Judged (status_due a) (Good table checked)
  full_judged table checked (Ok (Full count)) h =
      inl (refl, record { closed = h.1.closed; lacks = h.1.lacks; counts = subst (λ (k : ℕ). IsCount p table k) h.0 h.1.counts })
  full_judged table checked (Ok (Compact entries void)) h = absurd h
  full_judged table checked (Err (Front refusal)) h = absurd h
  full_judged table checked (Err TableTooLong) h = absurd h
  full_judged table checked (Err (TableLine line)) h = absurd h
  full_judged table checked (Err (Missing entry)) h = inr (refl, (λ good. h.1.0.1 (good.closed h.0 h.1.0.0)))
  full_judged table checked (Err HasStart) h = inr (refl, (λ good. good.lacks h.1))
  full_judged table checked (Err (NotVoid pair)) h = absurd h
  full_judged table checked (Err (Instances count)) h = inr (refl, (λ good. h.differs (one_count p table count checked h.shown.counts good.counts)))

  compact_judged : (table : List EntryData) (void : List VoidData) (reads : List (ℕ × ℕ)) (a : Result Shown Fault) → CompactShows p table void reads a → Judged (status_due a) (IsAcceptanceCertificate p table void reads)
  compact_judged table void reads (Ok (Full count)) h = absurd h
  compact_judged table void reads (Ok (Compact entries pairs)) h = inl (refl, h.2)
  compact_judged table void reads (Err (Front refusal)) h = absurd h
  compact_judged table void reads (Err TableTooLong) h = absurd h
  compact_judged table void reads (Err (TableLine line)) h = absurd h
  compact_judged table void reads (Err (Missing entry)) h =
      inr (
        refl,
        (λ good. elim (good.covered h.2 h.3.0.follows h.3.0.matters) [
          | inl covered ↦ h.3.0.not_covered covered
          | inr void ↦ h.3.0.not_void void
        ]),
      )
  compact_judged table void reads (Err HasStart) h = inr (refl, (λ good. good.no_start h))
  compact_judged table void reads (Err (NotVoid pair)) h = inr (refl, (λ good. not_void_list p table void h.1 h.2 good.void))
  compact_judged table void reads (Err (Instances count)) h = absurd h

  -- ---- the kinds of answers

  record OfFull (status : ℕ) : Type 0 where
    table : List EntryData
    checked : ℕ
    certificate : IsCertificate p bytes table checked
    judged : Judged status (Good table checked)

  record OfEntries (status : ℕ) : Type 0 where
    table : List EntryData
    void : List VoidData
    certificate : IsCompactCertificate p bytes table void
    judged : OwnReads p (λ reads. Judged status (IsAcceptanceCertificate p table void reads))

  abbrev Kind : ℕ → Type 0
  Kind status =
      ((status ≡ 7) × (max_table < length bytes))
      ⊎ ((length bytes ≤ max_table) × (((status ≡ 12) × ((line : ℕ) × IsFirstFaulty p bytes line)) ⊎ (OfFull status ⊎ OfEntries status)))

  of_text : (a : Result Shown Fault) → OfCertificate p bytes a ⊎ OfCompact p bytes a → OfFull (status_due a) ⊎ OfEntries (status_due a)
  of_text a (inl c) = inl (record { table = c.table; checked = c.checked; certificate = c.certificate; judged = full_judged c.table c.checked a c.shows })
  of_text a (inr c) =
      inr (record { table = c.table; void = c.void; certificate = c.certificate; judged = (c.shows.0, (c.shows.1.0, compact_judged c.table c.void c.shows.0 a c.shows.1.1)) })

  kind : (a : Result Shown Fault) → FileShows p bytes a → Kind (status_due a)
  kind (Ok shown) h = inr (h.0, inr (of_text (Ok shown) h.1))
  kind (Err (Front refusal)) h = inr (h.0, inr (of_text (Err (Front refusal)) h.1))
  kind (Err TableTooLong) h = inl (refl, h)
  kind (Err (TableLine line)) h = inr (h.0, inl (refl, (line, h.1)))
  kind (Err (Missing entry)) h = inr (h.0, inr (of_text (Err (Missing entry)) h.1))
  kind (Err HasStart) h = inr (h.0, inr (of_text (Err HasStart) h.1))
  kind (Err (NotVoid pair)) h = inr (h.0, inr (of_text (Err (NotVoid pair)) h.1))
  kind (Err (Instances count)) h = inr (h.0, inr (of_text (Err (Instances count)) h.1))

-- the read pairs of a problem decide one thing, in whatever order they come
along : (p : ProblemData) (C : List EntryData) (V : List VoidData) (R S : List (ℕ × ℕ)) → AreReadsOf p R → AreReadsOf p S → IsAcceptanceCertificate p C V R → IsAcceptanceCertificate p C V S
along p C V R S r s = certificate_same p C C V V R S (λ e. ((λ m. m), (λ m. m))) (λ v. ((λ m. m), (λ m. m))) (λ x. (same_reads p S R s r x, same_reads p R S r s x))

judged_along : (p : ProblemData) (C : List EntryData) (V : List VoidData) (R S : List (ℕ × ℕ)) (status : ℕ) → AreReadsOf p R → AreReadsOf p S
    → Judged status (IsAcceptanceCertificate p C V R) → Judged status (IsAcceptanceCertificate p C V S)
judged_along p C V R S status r s (inl (e, good)) = inl (e, along p C V R S r s good)
judged_along p C V R S status r s (inr (e, none)) = inr (e, λ good. none (along p C V S R s r good))

module _ (p : ProblemData) (bytes : List ℕ) (has : HasOwnNames p) (m n : ℕ) where
  abbrev Shows : ℕ → Type 0
  Shows status = OfFull p bytes status ⊎ OfEntries p bytes status

  two_forms : (table other : List EntryData) (checked : ℕ) (void : List VoidData) → IsCertificate p bytes table checked → IsCompactCertificate p bytes other void → ⊥
  two_forms table other checked void a b =
      let one = one_table p has bytes _ _ checked (length void) table other [] void a b in let e = one.0 in (cc)

  table_status : Shows m → Shows n → m ≡ n
  table_status (inl a) (inl b) =
      let one = one_table p has bytes _ _ a.checked b.checked a.table b.table [] [] a.certificate b.certificate in
      same_judged m n (Good p bytes b.table b.checked) (subst (λ (t : List EntryData). Judged m (Good p bytes t b.checked)) one.2 (subst (λ (k : ℕ). Judged m (Good p bytes a.table k)) one.1 a.judged)) b.judged
  table_status (inl a) (inr b) = absurd (two_forms a.table b.table a.checked b.void a.certificate b.certificate)
  table_status (inr a) (inl b) = absurd (two_forms b.table a.table b.checked a.void b.certificate a.certificate)
  table_status (inr a) (inr b) =
      let one = one_table p has bytes _ _ (length a.void) (length b.void) a.table b.table a.void b.void a.certificate b.certificate in
      let due = judged_along p a.table a.void a.judged.0 b.judged.0 m a.judged.1.0 b.judged.1.0 a.judged.1.1 in
      same_judged m n (IsAcceptanceCertificate p b.table b.void b.judged.0)
      (subst (λ (v : List VoidData). Judged m (IsAcceptanceCertificate p b.table v b.judged.0)) one.3 (subst (λ (t : List EntryData). Judged m (IsAcceptanceCertificate p t a.void b.judged.0)) one.2 due)) b.judged.1.1

  faultless : (status line : ℕ) → IsFirstFaulty p bytes line → Shows status → ⊥
  faultless status line faulty (inl a) = no_fault p has _ bytes a.checked a.table [] line a.certificate faulty
  faultless status line faulty (inr a) = no_fault p has _ bytes (length a.void) a.table a.void line a.certificate faulty

  one_kind : Kind p bytes m → Kind p bytes n → m ≡ n
  one_kind (inl (e, long)) (inl (f, also)) = e ∙ sym f
  one_kind (inl (e, long)) (inr (short, b)) = absurd (omega (arith, long, short))
  one_kind (inr (short, a)) (inl (f, long)) = absurd (omega (arith, long, short))
  one_kind (inr (short, inl (e, (line, faulty)))) (inr (also, inl (f, (other, wrong)))) = e ∙ sym f
  one_kind (inr (short, inl (e, (line, faulty)))) (inr (also, inr b)) = absurd (faultless n line faulty b)
  one_kind (inr (short, inr a)) (inr (also, inl (f, (line, faulty)))) = absurd (faultless m line faulty a)
  one_kind (inr (short, inr a)) (inr (also, inr b)) = table_status a b

one_problem_of : (s : List ℕ) (p q : ProblemData) → Yields s (Ok p) → Yields s (Ok q) → p ≡ q
one_problem_of s p q h k = let e = one_yield s (Ok p) (Ok q) h k in (cc)

-- what is due of the bytes of two files, and what is answered
pub one_answer : (s t : List ℕ) (a b : Result Shown Fault) → ComesTo s t a → ComesTo s t b → status_due a ≡ status_due b
one_answer s t a b h k =
    one_kind h.problem t (has_names s h.problem h.yields) (status_due a) (status_due b) (kind h.problem t a h.answers)
    (kind h.problem t b (subst (λ (p : ProblemData). FileShows p t b) (one_problem_of s k.problem h.problem k.yields h.yields) k.answers))
