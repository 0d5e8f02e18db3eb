-- What the bytes of a file come to.
--     Yields    the problem of their scheme, or why there is none; want of memory aside, it is one of these
use Rattle.std.specs.Prelude.{ℕ, ◌<◌, ◌≤◌, List, length, Result, Ok, Err}
use Rattle.hs_scheme.specs.Problem.{ProblemData}
use Rattle.hs_front.specs.declared.refusal.Refusal.{Refusal}
use Rattle.hs_front.specs.declared.refusal.Refusal.TheVariants.{FileTooLong, PointLimit, FlowLimit, OutOfMemory}
use Rattle.hs_front.specs.Files.{max_bytes}
use Rattle.hs_front.specs.Problems.{OfSortedFile, IsProblemOf, HasManyPoints, HasMuchFlow}
use Rattle.hs_front.specs.Faults.{IsFileFault}

-- the problem of a file, or why it has none; a file that is too long isn't looked at
abbrev pub Yields : List ℕ → Result ProblemData Refusal → Type 0
Yields bytes (Ok p) = (length bytes ≤ max_bytes) × OfSortedFile bytes (λ s. IsProblemOf s p)
Yields bytes (Err FileTooLong) = max_bytes < length bytes
Yields bytes (Err PointLimit) = (length bytes ≤ max_bytes) × OfSortedFile bytes HasManyPoints
Yields bytes (Err FlowLimit) = (length bytes ≤ max_bytes) × OfSortedFile bytes HasMuchFlow
Yields bytes (Err OutOfMemory) = ⊥
Yields bytes (Err refusal) = (length bytes ≤ max_bytes) × IsFileFault bytes refusal
