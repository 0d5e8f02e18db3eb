-- What the exit statuses 0, 1 and 2 mean, and which files get one of them. Three clauses of `run` and of `run_on` say it:
--     accepted    status 0 comes only where the bytes of the input are a file whose tree the automaton accepts
--     rejected    1 and 2 come only where they are a file whose tree it doesn't accept
--     decided     an input within the limits, whose least table is within the budget, ends with 0, 1 or 2, memory and counted faults aside
-- All else that is claimed of a run stands in `Rows` of `Outcome`, from which these three follow.
-- To read, each file behind those that it leads to, with the number of its lines that these clauses lead to; `.ci/headline --names` names
-- the definitions. What stands in the toolchain's libraries (lists, numbers, options, `clap`) is vocabulary that is trusted.
-- For `accepted` and `rejected`, 672 lines of 29 files:
--     102  hs_reader/specs/Tokens.antt
--      20  hs_scheme/specs/Tree.antt
--       7  hs_reader/specs/Limits.antt
--       6  hs_reader/src/raw.rt
--      11  hs_reader/specs/Raw.antt
--      46  hs_reader/specs/Grammar.antt
--       2  hs_reader/specs/Faults.antt
--      13  hs_resolve/specs/Names.antt
--       5  hs_scheme/specs/acceptance/Transition.antt
--       6  hs_scheme/specs/Names.antt
--      18  hs_scheme/src/term.rt
--      10  hs_scheme/specs/acceptance/Automaton.antt
--       6  hs_scheme/specs/sorting/Unsorted.antt
--      48  hs_resolve/specs/Numbering.antt
--      38  hs_resolve/specs/LineFaults.antt
--       5  hs_resolve/specs/Answer.antt
--      14  hs_scheme/specs/acceptance/Replacement.antt
--      23  hs_scheme/specs/acceptance/Cut.antt
--      16  hs_scheme/specs/acceptance/Run.antt
--      19  hs_front/specs/Files.antt
--      22  hs_words/src/options.rt
--       3  hs_edge/specs/Count.antt
--      27  hs_edge/specs/Reading.antt
--      36  hs_front/specs/Outside.antt
--      19  hs_gen/specs/Cycle.antt
--      74  hs_words/specs/Words.antt
--      14  hs_app/specs/Order.antt
--       3  hs_edge/src/errors.rt
--      59  hs_edge/src/source.rt
-- Further for `decided`, 721 lines, 55 files in all:
--      18  hs_reader/src/fault.rt
--      83  hs_reader/specs/Faults.antt
--      22  hs_scheme/specs/Scheme.antt
--      13  hs_scheme/specs/sorting/Unsorted.antt
--       7  hs_front/specs/Files.antt
--       2  hs_scheme/specs/sorting/Parameters.antt
--      37  hs_scheme/specs/flow/Points.antt
--      21  hs_scheme/src/flow.rt
--      54  hs_scheme/specs/flow/Flow.antt
--      66  hs_scheme/specs/sorting/Sorting.antt
--      29  hs_scheme/specs/sorting/Sorted.antt
--       4  hs_scheme/specs/Problem.antt
--      13  hs_scheme/specs/sorting/Lengthening.antt
--      13  hs_sorts/specs/Naming.antt
--      20  hs_sorts/specs/Inference.antt
--      12  hs_front/specs/Problems.antt
--       4  hs_passes/specs/Weight.antt
--      10  hs_passes/specs/Passing.antt
--      31  hs_scheme/specs/acceptance/Steps.antt
--       6  hs_scheme/specs/SameTree.antt
--      37  hs_table/specs/Types.antt
--      24  hs_table/specs/Entries.antt
--      12  hs_table/src/support.rt
--      74  hs_table/specs/Follows.antt
--       5  hs_table/specs/Tables.antt
--      15  hs_app/specs/Problems.antt
--       9  hs_edge/specs/Writing.antt
--      12  hs_front/specs/Outside.antt
--      15  hs_app/specs/Order.antt
--      26  hs_edge/src/sink.rt
--      27  hs_passes/src/pass.rt
-- At most 680 lines, and 760 further.
use Rattle.std.specs.Prelude.{◌≡◌, ◌≤◌, ◌<◌, ◌⊎◌, ℕ, List, length, IfSome, IsSomeAnd}
use Rattle.hs_edge.specs.Count.{Rose}
use Rattle.hs_scheme.specs.sorting.Unsorted.{UnsortedData}
use Rattle.hs_scheme.specs.Problem.{ProblemData}
use Rattle.hs_front.specs.Files.{IsSchemeOf, max_bytes}
use Rattle.hs_passes.specs.Passing.{Image}
use Rattle.hs_table.specs.Tables.{Exceeds}
use Rattle.hs_front.specs.Outside.{SourceRun, SinkRun}
use Rattle.hs_app.specs.Problems.{Asked, HasProblem}
use Rattle.hs_app.specs.Order.{Order, job_in, ordered, bytes_of, IsReadToEnd, IsPart, HasFault}

-- ---- accepted and rejected

-- This holds of the bytes of the input: of those that the source handed out from the start of the file on that the words name, up to
-- its end; or of those of the generated file, where the words ask for one.
abbrev pub OfInput : List (List ℕ) → SourceRun → (List ℕ → Type 0) → Type 0
OfInput words source P = IsSomeAnd (job_in words) (λ job. P (bytes_of job source.after.given) × IsReadToEnd job source)

-- ---- which files are decided

-- the bytes are at most so many, and a file in which nothing passes a limit of the text, and what is saturated of it has its points and
-- its flow within their limits
pub record IsWithinLimits (asked : Asked) (bytes : List ℕ) : Type 0 where
  pub short : length bytes ≤ max_bytes
  pub scheme : UnsortedData
  pub of_bytes : IsSchemeOf bytes scheme
  pub problem : ProblemData
  pub of : HasProblem asked scheme problem

-- and no supported table has more entries than are allowed, so the least table has not
abbrev pub IsWithinAll : Asked → List ℕ → Type 0
IsWithinAll asked bytes = (is : IsWithinLimits asked bytes) × (Exceeds is.problem asked.settings.entries → ⊥)

-- more bytes were handed out, or all of them, and these aren't within the limits and the budget
abbrev pub IsOutside : Order → SourceRun → Type 0
IsOutside o source =
    ((max_bytes < length source.after.given) × IsPart o.job source)
    ⊎ ((IsWithinAll o.asked (bytes_of o.job source.after.given) → ⊥) × IsReadToEnd o.job source)

-- the status is that of a fault of the source, or of `out`, and its count rose
abbrev pub IsFault : Order → SourceRun → SinkRun → ℕ → Type 0
IsFault o source out status = ((status ≡ 8) × HasFault o.job source) ⊎ ((status ≡ 9) × Rose out.faults out.faults_after)

-- Where the words are taken the status is 0, 1 or 2, or that of a fault, or 10 for want of memory, or the input is outside of the limits.
abbrev pub IsDecided : List Image → List (List ℕ) → SourceRun → SinkRun → ℕ → Type 0
IsDecided images words source out status =
    IfSome (ordered images words) (λ o. (status ≤ 2) ⊎ (IsFault o source out status ⊎ ((status ≡ 10) ⊎ IsOutside o source)))
