-- A least table over a closed flow has the start entry exactly where the automaton doesn't accept.
use Rattle.std.proofs.Common.{List, ◌↔◌}
use Rattle.hs_scheme.specs.Problem.{ProblemData}
use Rattle.hs_scheme.specs.acceptance.Run.{Accepts}
use Rattle.hs_table.specs.Entries.{EntryData}
use Rattle.hs_table.specs.Tables.{IsLeastTable, HasStart}
use Rattle.hs_verdict.specs.Premises.{IsSortedProblem, HasClosedFlow}
use Rattle.hs_verdict.proofs.Verdict.{accepts_without_start}
use Rattle.hs_verdict.proofs.Ending.{supported_rejects}

pub least_decides : (p : ProblemData) (T : List EntryData) → IsSortedProblem p → HasClosedFlow p → IsLeastTable p T
    → Accepts p.sorted.scheme.rules p.sorted.automaton.transitions ↔ (HasStart p T → ⊥)
least_decides p T known closed least =
    (λ accepts has. supported_rejects p known T least.supported has accepts, λ lacks. accepts_without_start p known closed T least.closed lacks)
