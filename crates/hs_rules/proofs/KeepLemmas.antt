-- A replica that keeps its log, or all but how much its look-ups by type tell of.
use Rattle.std.proofs.Common.{refl, sym, ◌∙◌, ap, subst, List, arith}
use Rattle.hs_table.specs.Entries.{EntryData}
use Rattle.hs_types.specs.Interned.{InternerData, Grows}
use Rattle.hs_types.proofs.Numbers.{Grows-refl, Grows-trans}
use Rattle.hs_replica.specs.Replica.{ReplicaData, ListsMore, KeepsLog}

pub keeps_none : (r : ReplicaData) → KeepsLog r r
keeps_none r = record { log = refl; spare = refl; indexed = refl; typed = λ point. omega arith; grows = Grows-refl r.ids }

pub keeps_then : (r s t : ReplicaData) → KeepsLog r s → KeepsLog s t → KeepsLog r t
keeps_then r s t g h = record {
  log = h.log ∙ g.log;
  spare = h.spare ∙ g.spare;
  indexed = h.indexed ∙ g.indexed;
  typed = λ point. omega (arith, g.typed point, h.typed point);
  grows = Grows-trans r.ids s.ids t.ids g.grows h.grows;
}

pub lists_then : (r s t : ReplicaData) → ListsMore r s → ListsMore s t → ListsMore r t
lists_then r s t g h = record {
  same = h.same ∙ ap (λ (q : ReplicaData). record q { by_type = t.by_type }) g.same;
  more = λ point. omega (arith, g.more point, h.more point);
}

module _ (r s : ReplicaData) (g : ListsMore r s) where
  -- what is said of the entries and their types
  pub as_before : (P : InternerData → List EntryData → Type 0) → P s.ids s.log → P r.ids r.log
  as_before P = subst (λ (q : ReplicaData). P q.ids q.log) g.same

  pub as_then : (P : InternerData → List EntryData → Type 0) → P r.ids r.log → P s.ids s.log
  as_then P = subst (λ (q : ReplicaData). P q.ids q.log) (sym g.same)

  pub lists_keep : KeepsLog r s
  lists_keep = record {
    log = ap (λ (q : ReplicaData). q.log) g.same;
    spare = ap (λ (q : ReplicaData). q.spare) g.same;
    indexed = ap (λ (q : ReplicaData). q.indexed) g.same;
    typed = g.more;
    grows = as_then (λ ids log. Grows r.ids ids) (Grows-refl r.ids);
  }
