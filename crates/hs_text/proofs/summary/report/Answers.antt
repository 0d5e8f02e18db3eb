use Rattle.std.proofs.Common.{sym, ◌∙◌, ap, ◌≡◌, true, subst as along, ◌++◌, ℕ, List, [], Option, Some, None, option_map, Bor}
use Rattle.std.proofs.lemmas.Result.{IfOk-weaker}
use Rattle.hs_scheme.specs.Problem.{ProblemData}
use Rattle.hs_table.specs.Entries.{EntryData}
use Rattle.hs_text.specs.Report.{IsReport, IsTableText, HasCompactText, summary}
use Rattle.hs_text.specs.declared.minimal.Minimal.{Minimal}
use Rattle.hs_text.specs.declared.pieces.Text.{Text}
use Rattle.hs_text.specs.declared.verdict.Verdict.{Verdict}
use Rattle.hs_text.specs.Pieces.{Puts}
use Rattle.hs_text.proofs.summary.report.Goals.{in-Some, in_default}
use Rattle.hs_text.proofs.summary.report.Goals as goal

module _ (p : ProblemData) (verdict : Verdict) (removed : Option ℕ) (minimal : Option Minimal) (empty first last : Text) (none : empty.bytes.items ≡ []) (summed : Puts empty first (summary p verdict removed minimal)) (text : List ℕ)
    (whole : last.is_whole ≡ true) (is : text ≡ last.bytes.items) where
  abbrev own : List ℕ
  own = summary p verdict removed minimal

  with_table : (table : List EntryData) (after : Text) → last ≡ after
      → (after.is_whole ≡ true → (first.is_whole ≡ true) × ((written : List ℕ) × IsTableText p table written × HasCompactText p minimal (first.bytes.items ++ written) after.bytes.items)) → IsReport p verdict (Some table) removed minimal text
  with_table table after same put =
      let t = put (along (λ (x : Text). x.is_whole ≡ true) same whole) in
      let before : first.bytes.items ≡ own = summed.bytes t.0 ∙ ap (λ (r : List ℕ). r ++ own) none in
      let text_is : after.bytes.items ≡ text = sym (is ∙ ap (λ (x : Text). x.bytes.items) same) in
      (t.1.0, (t.1.1, along (λ (r : List ℕ). HasCompactText p minimal (own ++ t.1.0) r) text_is (along (λ (r : List ℕ). HasCompactText p minimal (r ++ t.1.0) after.bytes.items) before t.1.2)))

  without_table : last ≡ first → IsReport p verdict None removed minimal text
  without_table same =
      is ∙ (ap (λ (x : Text). x.bytes.items) same ∙ (summed.bytes (along (λ (x : Text). x.is_whole ≡ true) same whole) ∙ ap (λ r. r ++ own) none))

pub returns : goal.returns
returns c =
    let p = c.args.problem.now in
    let verdict = c.args.verdict.now in
    let removed = c.args.removed in
    let minimal = option_map (λ (m : Bor Minimal). m.now) c.args.minimal in
    IfOk-weaker c.finish.result _ _ (λ text h. elim c.match-table.branch [
      | in-Some w ↦ along (λ (o : Option (Bor (List EntryData))). IsReport p verdict (option_map (λ t. t.now) o) removed minimal text.items) (sym w.in-Some.is)
          (with_table p verdict removed minimal c.new-text.result c.push_summary.new.text c.match-table.text c.new-text.ensures c.push_summary.ensures text.items h.0 h.1 w.in-Some.table.now w.push_tables.new.text w.text-is
          w.push_tables.ensures)
      | in_default w ↦ along (λ (o : Option (Bor (List EntryData))). IsReport p verdict (option_map (λ t. t.now) o) removed minimal text.items) (sym w.in_default.is)
          (without_table p verdict removed minimal c.new-text.result c.push_summary.new.text c.match-table.text c.new-text.ensures c.push_summary.ensures text.items h.0 h.1 w.text-is)
    ]) c.finish.ensures
