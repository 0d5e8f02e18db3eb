-- No refusal has the status of a verdict.
use Rattle.std.proofs.Common.{◌≤◌, arith}
use Rattle.hs_resolve.specs.declared.fault.NameFault.{NameFault}
use Rattle.hs_resolve.specs.declared.fault.NameFault.TheVariants as name
use Rattle.hs_front.specs.declared.refusal.Refusal.{Refusal}
use Rattle.hs_front.specs.declared.refusal.Refusal.TheVariants.{Usage, Source, FileTooLong, Syntax, Limit, Names, IllSorted, NotFirstOrder, SortTooLarge, RuleTooLong, PointLimit, FlowLimit, EntryLimit, Sink, OutOfMemory}
use Rattle.hs_front.specs.Refusal.{names_status, status_of}

past_names : (f : NameFault) → 3 ≤ names_status f
past_names name.TooManyStates = omega arith
past_names name.OutOfMemory = omega arith
past_names (name.DuplicateRule line) = omega arith
past_names (name.DuplicateParam line) = omega arith
past_names (name.Undefined line) = omega arith
past_names (name.StartHasParams line) = omega arith
past_names (name.DuplicateTransition line) = omega arith
past_names (name.RankClash line) = omega arith

pub past : (r : Refusal) → 3 ≤ status_of r
past Usage = omega arith
past Source = omega arith
past FileTooLong = omega arith
past (Syntax line) = omega arith
past (Limit which) = omega arith
past (Names fault) = past_names fault
past (IllSorted rule) = omega arith
past (NotFirstOrder terminal) = omega arith
past (SortTooLarge rule) = omega arith
past (RuleTooLong rule) = omega arith
past PointLimit = omega arith
past FlowLimit = omega arith
past EntryLimit = omega arith
past Sink = omega arith
past OutOfMemory = omega arith
