-- From the scheme of a file to its sorted form, or to a refusal by its sorts.
use Rattle.std.proofs.Common.{List, ℕ}
use Rattle.hs_scheme.specs.sorting.Unsorted.{UnsortedData}
use Rattle.hs_front.specs.declared.refusal.Refusal.{Refusal}
use Rattle.hs_front.specs.declared.refusal.Refusal.TheVariants.{Usage, Source, FileTooLong, Syntax, Limit, Names, IllSorted, NotFirstOrder, SortTooLarge, RuleTooLong, PointLimit, FlowLimit, EntryLimit, Sink, OutOfMemory}
use Rattle.hs_front.specs.Files.{IsSchemeOf}
use Rattle.hs_front.specs.Faults.{IsSortRefusal, IsFileFault}

pub refused_by_sorts : (bytes : List ℕ) (u : UnsortedData) → IsSchemeOf bytes u → (r : Refusal) → IsSortRefusal u r → IsFileFault bytes r
refused_by_sorts bytes u of Usage h = absurd h
refused_by_sorts bytes u of Source h = absurd h
refused_by_sorts bytes u of FileTooLong h = absurd h
refused_by_sorts bytes u of (Syntax line) h = absurd h
refused_by_sorts bytes u of (Limit which) h = absurd h
refused_by_sorts bytes u of (Names fault) h = absurd h
refused_by_sorts bytes u of (IllSorted rule) h = record { scheme = u; of_bytes = of; fault = h }
refused_by_sorts bytes u of (NotFirstOrder terminal) h = record { scheme = u; of_bytes = of; fault = h }
refused_by_sorts bytes u of (SortTooLarge rule) h = record { scheme = u; of_bytes = of; fault = h }
refused_by_sorts bytes u of (RuleTooLong rule) h = record { scheme = u; of_bytes = of; fault = h }
refused_by_sorts bytes u of PointLimit h = absurd h
refused_by_sorts bytes u of FlowLimit h = absurd h
refused_by_sorts bytes u of EntryLimit h = absurd h
refused_by_sorts bytes u of Sink h = absurd h
refused_by_sorts bytes u of OutOfMemory h = tt
