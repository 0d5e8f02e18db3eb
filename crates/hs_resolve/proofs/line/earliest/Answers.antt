use Rattle.std.proofs.Common.{◌∙◌, sym, Some}
use Rattle.hs_resolve.specs.Least.{earliest}
use Rattle.hs_resolve.proofs.line.earliest.Goals as goal

pub returns-in-Some-Some : goal.returns-in-Some-Some
returns-in-Some-Some c = (λ i. Some (c.min.ensures i)) ∙ (λ i. earliest (sym c.in-Some-Some.is-0 i) (sym c.in-Some-Some.is-1 i))

pub returns-in-Some-None : goal.returns-in-Some-None
returns-in-Some-None c = λ i. earliest (sym c.in-Some-None.is-0 i) (sym c.in-Some-None.is-1 i)
