-- the pairs so far have blocked sites
use Rattle.std.proofs.Common.{◌≡◌, ℕ, ◌<◌, List, slice_get, Some}
use Rattle.hs_table.specs.Entries.{EntryData}
use Rattle.hs_weak.specs.Void.{VoidData}
use Rattle.hs_types.specs.Interned.{Grows}
use Rattle.hs_choices.specs.Numbered.{AreNumbered}
use Rattle.hs_void.specs.Voids.{Fits, HasBlocked}
use Rattle.hs_void.proofs.voids.Voids.first_not_void.Given as goal

abbrev pub invariant-loop-place : goal.invariant-loop-place
invariant-loop-place l =
    let b = l.fn.self.basis in
    record {
      grows : Grows l.fn.types l.types;
      fits : Fits l.types l.self;
      basis : l.self.basis ≡ b;
      before : (C : List EntryData) (V : List VoidData) → AreNumbered b.problem C V l.fn.types b.table b.void → (k : ℕ) (v : VoidData) → k < l.place → slice_get V k ≡ Some v → HasBlocked b.problem C V v;
    }
