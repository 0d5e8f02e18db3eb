use Rattle.std.proofs.Common.{◌≡◌, sym, ◌∙◌, ap, subst, ℕ, List, ◌++◌, codes, Option, Some, None}
use Rattle.std.specs.List.{flat_map}
use Rattle.hs_scheme.specs.Problem.{ProblemData}
use Rattle.hs_table.specs.Entries.{EntryData, entry_cmp}
use Rattle.hs_table_laws.proofs.Sets.{ascending_same}
use Rattle.hs_table_laws.proofs.Orders.{entry_cmp_total, entry_same}
use Rattle.hs_text.specs.Report.{IsTableText, HasCompactText, IsReport, entry_line, summary}
use Rattle.hs_text.specs.declared.minimal.Minimal.{Minimal}
use Rattle.hs_text.specs.declared.minimal.Minimal.TheVariants.{Table, More}
use Rattle.hs_text.specs.declared.verdict.Verdict.{Verdict}
use Rattle.hs_text.proofs.laws.report_is_unique.Goals as goal

table_text_is_unique : (p : ProblemData) (table : List EntryData) (one other : List ℕ) → IsTableText p table one → IsTableText p table other → one ≡ other
table_text_is_unique p table one other a b =
    let same : a.entries ≡ b.entries = ascending_same entry_cmp entry_cmp_total entry_same a.entries b.entries a.ascending b.ascending (λ e. (λ h. (b.same e).1 ((a.same e).0 h), λ h. (a.same e).1 ((b.same e).0 h))) in
    a.is ∙ (ap (flat_map (entry_line p)) same ∙ sym b.is)

compact_is : (p : ProblemData) (minimal : Option Minimal) (before one other : List ℕ) → HasCompactText p minimal before one → HasCompactText p minimal before other → one ≡ other
compact_is p None before one other a b = a ∙ sym b
compact_is p (Some (Table C)) before one other a b = a.1.1 ∙ (ap (λ t. before ++ (codes "compact\n" ++ t)) (table_text_is_unique p C.items a.0 b.0 a.1.0 b.1.0) ∙ sym b.1.1)
compact_is p (Some (More budget)) before one other a b = a ∙ sym b

report_is : (p : ProblemData) (verdict : Verdict) (table : Option (List EntryData)) (removed : Option ℕ) (minimal : Option Minimal) (one other : List ℕ) → IsReport p verdict table removed minimal one
    → IsReport p verdict table removed minimal other → one ≡ other
report_is p verdict None removed minimal one other a b = a ∙ sym b
report_is p verdict (Some table) removed minimal one other a b =
    compact_is p minimal (summary p verdict removed minimal ++ a.0) one other a.1.1
    (subst (λ t. HasCompactText p minimal (summary p verdict removed minimal ++ t) other) (table_text_is_unique p table b.0 a.0 b.1.0 a.1.0) b.1.1)

pub returns-clause-table : goal.returns-clause-table
returns-clause-table c = table_text_is_unique

pub returns-clause-report : goal.returns-clause-report
returns-clause-report c = report_is
