-- so far each is covered or void
use Rattle.std.proofs.Common.{◌≡◌, List, take, Contains}
use Rattle.hs_table.specs.Entries.{Env, EntryData}
use Rattle.hs_weak.specs.Void.{VoidData}
use Rattle.hs_types.specs.Interned.{type_of_id}
use Rattle.hs_choices.specs.Slots.{IsSettled}
use Rattle.hs_choices.specs.Numbered.{envs_of}
use Rattle.hs_void.specs.Voids.{Fits}
use Rattle.hs_certificate_checker.specs.Settled.{StandFor}
use Rattle.hs_certificate_checker.proofs.missing.first_open.Given as goal

abbrev pub invariant-loop-env : goal.invariant-loop-env
invariant-loop-env l = record {
  same : l.types ≡ l.fn.types;
  fits : Fits l.types l.voids;
  basis : l.voids.basis ≡ l.fn.voids.basis;
  settled : (C : List EntryData) (V : List VoidData) → StandFor l.fn.voids.basis l.fn.types C V → (E : Env) → Contains (envs_of l.fn.types (take l.env-index l.kept)) E
      → IsSettled l.fn.voids.basis.problem C V l.point l.rule (type_of_id l.fn.types l.ty) E;
}
