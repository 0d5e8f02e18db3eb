-- nothing is missing by the types so far
use Rattle.std.proofs.Common.{take, Contains}
use Rattle.hs_table.specs.Entries.{EntryData}
use Rattle.hs_types.specs.Interned.{Grows}
use Rattle.hs_checker.specs.Slots.{IsConclusion}
use Rattle.hs_checker.specs.Numbers.{entries_of, trees_of}
use Rattle.hs_checker.proofs.missing.missing_among.Given as goal

abbrev pub invariant-loop-ty : goal.invariant-loop-ty
invariant-loop-ty l = record {
  grows : Grows l.fn.types l.types;
  closed : (e : EntryData) → IsConclusion (entries_of l.fn.types l.index) l.point l.params l.head l.args (take l.ty-index (trees_of l.fn.types l.all)) e → Contains (entries_of l.fn.types l.index) e;
}
