use Rattle.std.proofs.Common.{sym, ◌∙◌}
use Rattle.std.proofs.lemmas.Bool.{eq-eqb, eqb-true}
use Rattle.hs_core.proofs.Slots.{none_counted, none_there}
use Rattle.hs_core.proofs.Stepping.{base_of, fields_of, seen}
use Rattle.hs_core.proofs.state.Core.nothing_flies.Goals as goal

pub returns : goal.returns
returns c =
    let shown = seen (base_of c.self.inside) (fields_of c.self.inside) c.self.invariant.0 c.self.inside.spare c.args.self.now c.self.view_is in (
      λ e t. shown.flight t ∙ none_there c.self.inside.tickets.slots t (sym c.count.ensures.count ∙ eqb-true c.count.result 0 e),
      λ flies. eq-eqb c.count.result 0 (c.count.ensures.count ∙ none_counted c.self.inside.tickets.slots (λ k. sym (shown.flight k) ∙ flies k)),
    )
