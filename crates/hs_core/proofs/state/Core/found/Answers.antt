use Rattle.std.proofs.Common.{◌≡◌, sym, ap, ◌∙◌, ℕ, Some, None}
use Rattle.std.proofs.lemmas.Bool.{false≢true}
use Rattle.hs_core.specs.Core.{CoreData}
use Rattle.hs_core.proofs.Stepping.{base_of, fields_of, found_here, only_here}
use Rattle.hs_core.proofs.state.Core.found.Goals as goal

pub returns-then-self : goal.returns-then-self
returns-then-self c = λ place. (
  λ here. found_here (base_of c.self.inside) (fields_of c.self.inside) c.self.invariant.0 c.self.inside.spare c.args.self.now c.self.view_is place c.if-self.true here,
  λ found. only_here (base_of c.self.inside) (fields_of c.self.inside) c.self.invariant.0 c.self.inside.spare c.args.self.now c.self.view_is place found,
)

no_place : (place : ℕ) → None ≡ Some place → ⊥
no_place place e = cc

pub returns-else-self : goal.returns-else-self
returns-else-self c = λ place. (
  λ here. absurd (no_place place here),
  λ found. absurd (false≢true (sym c.if-self.false ∙ ap (λ (v : CoreData). v.base.first) c.self.view_is ∙ found.first)),
)
