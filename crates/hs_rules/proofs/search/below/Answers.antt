use Rattle.std.proofs.Common.{sym, ◌<◌, subst, ℕ, List, Contains, ◌↔◌}
use Rattle.std.specs.List.Sorted.{IsStrictlyIncreasing}
use Rattle.hs_rules.proofs.search.below.Goals as goal

pub returns-clause-places : goal.returns-clause-places
returns-clause-places c = λ place. subst (λ (xs : List ℕ). Contains xs place ↔ (Contains c.args.places.now place × (place < c.args.limit))) (sym c.in_ok-out.ensures.ok) (c.begin_below-begin.ensures.places place)

pub returns-clause-ascending : goal.returns-clause-ascending
returns-clause-ascending c = subst (λ (xs : List ℕ). IsStrictlyIncreasing xs) (sym c.in_ok-out.ensures.ok) c.begin_below-begin.ensures.ascending
