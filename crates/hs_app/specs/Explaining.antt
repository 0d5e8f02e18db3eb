-- What a text on standard error explains.
--     mentions_explain   whether `--explain` is among the words
--     ExplainsVerdict    a verdict on the bytes with this report: of a path that is shown, the trace; where none is shown, nothing does;
--                        nothing is said of what explains an acceptance
--     ExplainsAnswer     an answer: nothing is said of what explains a refusal
--     IsExplanation      the text explains the answer, where that is asked for, or is empty
--     TellsAndExplains   a refusal is told, and behind it this text, or want of memory in its place
use Rattle.std.specs.Prelude.{◌≡◌, ◌⊎◌, ℕ, Bool, true, List, [], ◌++◌, Result, Ok, Err, codes}
use Rattle.std.specs.List.{list_any}
use Rattle.std.specs.Str.{bytes_eq}
use Rattle.hs_trace.specs.Explained.{IsTraceOfReport}
use Rattle.hs_front.specs.declared.refusal.Refusal.{Refusal}
use Rattle.hs_front.specs.declared.refusal.Refusal.TheVariants.{OutOfMemory}
use Rattle.hs_front.specs.Outside.{SinkRun, HasTakenOrFailed}
use Rattle.hs_front.specs.Refusal.{line_of, HasFixedLine}
use Rattle.hs_app.specs.declared.verdict.Decided.{Decided}
use Rattle.hs_app.specs.declared.verdict.Decision.{Decision}
use Rattle.hs_app.specs.declared.verdict.Decision.TheVariants.{Accepted, Rejected, Long}

abbrev pub mentions_explain : List (List ℕ) → Bool
mentions_explain words = list_any (λ word. bytes_eq word (codes "--explain")) words

abbrev pub ExplainsVerdict : List ℕ → Decision → List ℕ → List ℕ → Type 0
ExplainsVerdict bytes Accepted report text = Unit {0}
ExplainsVerdict bytes Rejected report text = IsTraceOfReport bytes report text
ExplainsVerdict bytes Long report text = ⊥

abbrev pub ExplainsAnswer : List ℕ → Result Decided Refusal → List ℕ → Type 0
ExplainsAnswer bytes (Ok decided) text = ExplainsVerdict bytes decided.verdict decided.report.items text
ExplainsAnswer bytes (Err refusal) text = Unit {0}

abbrev pub IsExplanation : Bool → List ℕ → Result Decided Refusal → List ℕ → Type 0
IsExplanation asked bytes answer text = (text ≡ []) ⊎ ((asked ≡ true) × ExplainsAnswer bytes answer text)

abbrev pub TellsAndExplains : List ℕ → Refusal → List ℕ → SinkRun → Refusal → Type 0
TellsAndExplains words refusal text err told =
    ((told ≡ refusal) × HasTakenOrFailed err (line_of words refusal ++ text))
    ⊎ ((HasFixedLine refusal → ⊥) × (told ≡ OutOfMemory) × HasTakenOrFailed err (line_of words OutOfMemory))
