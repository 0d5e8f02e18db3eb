use Rattle.std.proofs.Common.{subst, ℕ, Contains, ◌⊎◌}
use Rattle.hs_flow_checker.specs.PassedOn.{HasPassed}
use Rattle.hs_flow_checker.proofs.distances.left_of_many.Goals as goal

pub returns-clause-rest : goal.returns-clause-rest
returns-clause-rest c = λ h there. subst (λ (n : ℕ). Contains c.left_of.result.now h ⊎ HasPassed c.args.pairs.now h n c.args.arg) c.in-Ok.ensures.1 (c.left_of.ensures.rest h there)
