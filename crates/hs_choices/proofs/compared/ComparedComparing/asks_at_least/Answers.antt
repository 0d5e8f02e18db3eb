use Rattle.std.proofs.Common.{subst, IsTrue, IfOk, ◌↔◌}
use Rattle.hs_types.specs.Interned.{InternerData, env_of_id}
use Rattle.hs_weak.specs.Strength.{AsStrongAs, AsksAtLeast}
use Rattle.hs_choices.proofs.compared.ComparedComparing.asks_at_least.Goals as goal

pub returns-clause-ok : goal.returns-clause-ok
returns-clause-ok c =
    subst (λ (I : InternerData). IfOk c.asks_at_least.result (λ asks. IsTrue asks ↔ AsksAtLeast AsStrongAs (env_of_id I c.args.env) (env_of_id I c.args.other))) c.self.view_is c.asks_at_least.ensures.ok
