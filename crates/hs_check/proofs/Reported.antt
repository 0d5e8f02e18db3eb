-- What is reported of an accepted scheme with its table shows that it is accepted.
use Rattle.std.proofs.Common.{◌≡◌, ◌≢◌, refl, sym, ◌∙◌, ap, ℕ, ◌<◌, ◌≤◌, true, List, length, take, get_or, All, AllPairs, Contains, Some, None, Ok, inl, inr, arith}
use Rattle.std.specs.Prelude.{◌^◌, ◌↔◌}
use Rattle.std.specs.Cmp.{IsTotalOrder}
use Rattle.std.specs.declared.cmp.Ordering.{Ordering}
use Rattle.std.specs.declared.cmp.Ordering.TheVariants.{Less, Equal}
use Rattle.std.proofs.lemmas.Cmp.{tied_itself}
use Rattle.std.proofs.lemmas.List.Elements.{Contains-get_or}
use Rattle.hs_scheme.specs.acceptance.Automaton.{IsAutomaton}
use Rattle.hs_scheme.specs.flow.Flow.{IsAscending}
use Rattle.hs_scheme.specs.Problem.{ProblemData}
use Rattle.hs_table.specs.Entries.{EntryData, InShape, entry_cmp}
use Rattle.hs_table.specs.Tables.{IsLeastTable, HasStart}
use Rattle.hs_table_laws.proofs.Places.{place_of, fewer}
use Rattle.hs_table_laws.proofs.Orders.{entry_cmp_total}
use Rattle.hs_table_laws.proofs.Shapes.{follows_shape}
use Rattle.hs_weak.specs.Void.{VoidData, void_cmp, IsVoidShape}
use Rattle.hs_weak.specs.Certificate.{IsAcceptanceCertificate}
use Rattle.hs_reads.specs.Own.{AreReadsOf}
use Rattle.hs_text.specs.Report.{IsReport, IsCertificateReport}
use Rattle.hs_text.proofs.VoidOrder.{void_cmp_total}
use Rattle.hs_text.specs.declared.verdict.Verdict.TheVariants.{Accepted}
use Rattle.hs_checker.specs.Checked.{IsCount}
use Rattle.hs_checker.proofs.CountLemmas.{closed_whole, count_whole}
use Rattle.hs_cert.specs.Certificate.{HasNamesInLines, AreNested, IsNested}
use Rattle.hs_cert.proofs.Clear.{report_certificate, certificate_report_certificate}
use Rattle.hs_front.specs.Yields.{Yields}
use Rattle.hs_check.specs.declared.verified.Shown.TheVariants.{Full, Compact}
use Rattle.hs_check.specs.Evidence.{max_table, ComesTo}
use Rattle.hs_check.proofs.OwnNames.{has_names}
use Rattle.hs_check.proofs.SameMembers.{certificate_same}

module _ (p : ProblemData) (table : List EntryData) (automaton : IsAutomaton p.sorted.automaton) (least : IsLeastTable p table) where
  member_shape : (e : EntryData) → Contains table e → InShape p e
  member_shape e c = let at = place_of table e c in follows_shape p (take at.0 table) automaton.to e (least.supported.follows at.0 e at.1)

  shapes : All (InShape p) table
  shapes = λ k d lt. member_shape (get_or table k d) (Contains-get_or table k d lt)

  exact : (sorted : List EntryData) → ((e : EntryData) → Contains sorted e ↔ Contains table e) → (e : EntryData) → Contains table e ↔ (Contains sorted e × InShape p e)
  exact sorted same e = ((λ c. ((same e).1 c, member_shape e c)), (λ h. (same e).0 h.0))

pub reported_answers : (bytes : List ℕ) (p : ProblemData) (table : List EntryData) (checked : ℕ) (text : List ℕ) → Yields bytes (Ok p) → IsAutomaton p.sorted.automaton → HasNamesInLines p
    → IsLeastTable p table → (HasStart p table → ⊥) → IsCount p table checked → length table ≤ 1000000 → checked < 2 ^ 64 → All IsNested table
    → IsReport p (Accepted (length table) checked) (Some table) None None text → length text ≤ max_table → ComesTo bytes text (Ok (Full checked))
reported_answers bytes p table checked text yields automaton names least lacks counts few fits nested report short =
    let shape = shapes p table automaton least in
    let c = report_certificate p table (length table) checked text (has_names bytes p yields) names report least.supported.distinct refl few fits shape nested in
    let sorted = c.0 in
    let same = exact p table automaton least sorted c.1 in
    record {
      problem = p;
      yields = yields;
      answers = (
        short,
        inl (record {
          table = sorted;
          checked = checked;
          certificate = c.2;
          shows = (
            refl,
            record {
              closed = closed_whole p table sorted same least.closed;
              lacks = λ start. lacks (start.0, (start.1.0, (c.1 start.0).0 start.1.1));
              counts = count_whole p table sorted same checked counts;
            },
          );
        }),
      );
    }

-- so of a certificate of acceptance with its entries and void environments
pub certificate_answers : (bytes : List ℕ) (p : ProblemData) (table : List EntryData) (void : List VoidData) (reads : List (ℕ × ℕ)) (text : List ℕ) → Yields bytes (Ok p) → HasNamesInLines p
    → AreReadsOf p reads → IsAcceptanceCertificate p table void reads → AllPairs (λ a b. a ≢ b) table → AllPairs (λ a b. a ≢ b) void → length table ≤ 1000000 → length void ≤ 1000000
    → All (InShape p) table → All IsNested table → All (λ v. AreNested v.env) void → IsCertificateReport p table void true None text → length text ≤ max_table
    → ComesTo bytes text (Ok (Compact (length table) (length void)))
certificate_answers bytes p table void reads text yields names own is once apart few few_void shape nested void_nested report short =
    let void_shape : All (IsVoidShape p) void = λ k d lt. (is.void (get_or void k d) (Contains-get_or void k d lt)).0 in
    let c = certificate_report_certificate p table void text (has_names bytes p yields) names report once apart few few_void shape nested void_shape void_nested in
    record {
      problem = p;
      yields = yields;
      answers = (
        short,
        inr (record {
          table = c.0;
          void = c.2;
          certificate = c.4;
          shows = (
            reads,
            (
              own,
              (
                same_length table c.0 once (once_each entry_cmp entry_cmp_total c.0 c.4.ascending) c.1,
                same_length void c.2 apart (once_each void_cmp void_cmp_total c.2 c.4.void_ascending) c.3,
                certificate_same p table c.0 void c.2 reads reads c.1 c.3 (λ x. ((λ m. m), (λ m. m))) is,
              ),
            ),
          );
        }),
      );
    }
  where
    once_each : {X : Type 0} (cmp : X → X → Ordering) → IsTotalOrder cmp → (xs : List X) → IsAscending cmp xs → AllPairs (λ a b. a ≢ b) xs
    once_each cmp total xs up i j d less within e =
        let same : Less ≡ Equal = sym (up i j d less within) ∙ (ap (λ z. cmp z (get_or xs j d)) e ∙ tied_itself total (get_or xs j d)) in cc

    same_length : {X : Type 0} (xs ys : List X) → AllPairs (λ a b. a ≢ b) xs → AllPairs (λ a b. a ≢ b) ys → ((x : X) → Contains ys x ↔ Contains xs x) → length xs ≡ length ys
    same_length xs ys once also same =
        let most = fewer xs ys once (λ x m. (same x).1 m) in
        let least = fewer ys xs also (λ x m. (same x).0 m) in omega (arith, most, least)
