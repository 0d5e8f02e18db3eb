-- the sites so far are marked
use Rattle.std.proofs.Common.{◌≡◌, ℕ, ◌<◌, ◌≤◌, List, length, slice_get, Some, ◌↔◌, vec_capacity}
use Rattle.hs_table.specs.Entries.{EntryData}
use Rattle.hs_weak.specs.Void.{VoidData, IsBlocked}
use Rattle.hs_types.specs.Interned.{env_of_id, Grows}
use Rattle.hs_sites.specs.declared.sites.Site.{Site}
use Rattle.hs_sites.specs.Listed.{data_of}
use Rattle.hs_sites.specs.Reaching.{IsOn}
use Rattle.hs_choices.specs.Numbered.{AreNumbered}
use Rattle.hs_void.specs.Voids.{Fits}
use Rattle.hs_void.proofs.pairs.blocked_marks.Given as goal

abbrev pub invariant-loop-site : goal.invariant-loop-site
invariant-loop-site l =
    let b = l.fn.voids.basis in
    record {
      grows : Grows l.fn.types l.types;
      fits : Fits l.types l.voids;
      basis : l.voids.basis ≡ b;
      long : length l.marks.items ≡ l.site-index;
      room : length l.sites ≤ vec_capacity l.marks;
      marks : (C : List EntryData) (V : List VoidData) → AreNumbered b.problem C V l.fn.types b.table b.void
          → (k : ℕ) (x : Site) → k < l.site-index → slice_get l.sites k ≡ Some x → IsOn l.marks.items k ↔ IsBlocked b.problem C V (data_of x) (env_of_id l.fn.types l.fn.env);
    }
