-- the sites so far are marked
use Rattle.std.proofs.Common.{◌≡◌, ℕ, ◌<◌, ◌≤◌, length, slice_get, Some, ◌↔◌, vec_capacity}
use Rattle.hs_types.specs.Interned.{type_of_id}
use Rattle.hs_sites.specs.declared.sites.Site.{Site}
use Rattle.hs_sites.specs.Listed.{data_of}
use Rattle.hs_sites.specs.Reaching.{IsOn}
use Rattle.hs_void.specs.Rows.{LacksAt}
use Rattle.hs_void.proofs.arguments.marks_of.Given as goal

abbrev pub invariant-loop-site : goal.invariant-loop-site
invariant-loop-site l = record {
  same : l.types ≡ l.fn.types;
  long : length l.marks.items ≡ l.site-index;
  room : length l.sites ≤ vec_capacity l.marks;
  marks : (k : ℕ) (x : Site) → k < l.site-index → slice_get l.sites k ≡ Some x → IsOn l.marks.items k ↔ LacksAt l.problem l.fn.types l.table l.parameter (type_of_id l.fn.types l.fn.ty) (data_of x);
}
