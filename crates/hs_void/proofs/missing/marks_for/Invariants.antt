-- the parameters so far are marked
use Rattle.std.proofs.Common.{◌≡◌, ℕ, length, slice_get, Some, ◌↔◌}
use Rattle.hs_types.specs.Interned.{env_of_id}
use Rattle.hs_sites.specs.declared.sites.Site.{Site}
use Rattle.hs_sites.specs.Listed.{data_of}
use Rattle.hs_sites.specs.Reaching.{IsOn}
use Rattle.hs_void.specs.Voids.{Remembers}
use Rattle.hs_void.proofs.Marked.{MissesBelow}
use Rattle.hs_void.proofs.missing.marks_for.Given as goal

abbrev pub invariant-loop-parameter : goal.invariant-loop-parameter
invariant-loop-parameter l = record {
  same : l.types ≡ l.fn.types;
  memo : Remembers l.fn.types l.basis l.memo;
  len : length l.marks.items ≡ length l.sites;
  marks : (k : ℕ) (x : Site) → slice_get l.sites k ≡ Some x → IsOn l.marks.items k ↔ MissesBelow l.basis.problem l.fn.types l.basis.table l.parameter (env_of_id l.fn.types l.fn.env) (data_of x);
}
