use Rattle.std.proofs.Common.{sym, ap, ◌∙◌, length}
use Rattle.std.proofs.lemmas.Bool.{both_ways, eq-eqb}
use Rattle.hs_core.proofs.Slots.{none_counted}
use Rattle.hs_core.proofs.Stepping.{base_of, fields_of, seen}
use Rattle.hs_core.proofs.state.Core.quiet.Goals as goal
use Rattle.hs_core.proofs.state.Core.quiet.Goals.{then-is_empty, else-is_empty}

pub returns-else-count-eq0 : goal.returns-else-count-eq0
returns-else-count-eq0 c = (
  λ e. absurd (both_ways c.if-is_empty.value c.if-count-eq0.false e),
  λ rest.
      let shown = seen (base_of c.self.inside) (fields_of c.self.inside) c.self.invariant.0 c.self.inside.spare c.args.self.now c.self.view_is in
      elim c.if-is_empty.branch [
        | then-is_empty w ↦ w.value-is ∙ eq-eqb w.count.result 0 (w.count.ensures.count ∙ none_counted c.self.inside.tickets.slots (λ k. sym (shown.flight k) ∙ rest.flight k))
        | else-is_empty w ↦ absurd (both_ways c.is_empty.result w.if-is_empty.false (c.is_empty.ensures ∙ eq-eqb (length c.self.inside.pending.works) 0 (ap (λ xs. length xs) (sym shown.pending ∙ rest.pending))))
      ],
)
