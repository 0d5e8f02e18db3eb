-- What a trace explains of a report.
--     AreRuleLines      the lines of the rules in a file, in their order
--     StandsIn          the text has this piece in it
--     IsTraced          the text is that of the reduction along the path that the report shows, by the rules of this scheme, which stand on
--                       these lines: the lines of the first 9,999 of its steps, how many more there are, and the end
--     IsTraceOfReport   so by the rules of the file that the bytes are
use Rattle.std.specs.Prelude.{◌≡◌, ℕ, List, ◌++◌, map, take}
use Rattle.hs_scheme.specs.acceptance.FailingPath.{FailingPathData}
use Rattle.hs_scheme.specs.sorting.Sorted.{SortedData}
use Rattle.hs_reader.specs.Raw.{File, Rule}
use Rattle.hs_reader.specs.Faults.{IsFileWithin}
use Rattle.hs_reduce.specs.declared.answers.ReductionStep.{ReductionStep}
use Rattle.hs_reduce.specs.Trace.{IsFailingTrace}
use Rattle.hs_front.specs.Problems.{IsSortedFile}
use Rattle.hs_text.specs.Report.{path_lines}
use Rattle.hs_trace.specs.TraceText.{trace_lines}

abbrev pub lines_of : List Rule → List ℕ
lines_of rules = map (λ (r : Rule). r.name.line) rules

pub record AreRuleLines (bytes : List ℕ) (lines : List ℕ) : Type 0 where
  pub file : File
  pub of_bytes : IsFileWithin bytes file
  pub are : lines ≡ lines_of file.rules

abbrev pub StandsIn : List ℕ → List ℕ → Type 0
StandsIn text piece = (front : List ℕ) × (rest : List ℕ) × (text ≡ front ++ (piece ++ rest))

pub record IsTraced (scheme : SortedData) (lines report text : List ℕ) : Type 0 where
  pub path : FailingPathData
  pub printed : StandsIn report (path_lines scheme.names path)
  pub steps : List ReductionStep
  pub is_trace : IsFailingTrace scheme.scheme.rules scheme.automaton.transitions steps path
  pub tells : text ≡ trace_lines scheme.names lines (take 9999 steps) path

pub record IsTraceOfReport (bytes report text : List ℕ) : Type 0 where
  pub scheme : SortedData
  pub of_bytes : IsSortedFile bytes scheme
  pub lines : List ℕ
  pub on_lines : AreRuleLines bytes lines
  pub traced : IsTraced scheme lines report text
