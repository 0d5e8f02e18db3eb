use Rattle.std.proofs.Common.{ℕ, IsTrue, subst, ◌↔◌}
use Rattle.hs_table.specs.Types.{TypeTree, IsType}
use Rattle.hs_table.specs.Entries.{Has, IsEnv}
use Rattle.hs_types.specs.Interned.{env_of_id}
use Rattle.hs_certificate_checker.proofs.row_shape.is_env_of_rule.Goals as goal

pub returns : goal.returns
returns c =
    let E = env_of_id c.args.interner.now c.args.env in
    let p = c.args.problem.now in
    subst (λ n. IsTrue c.is_env.result ↔ (IsEnv n E × ((j : ℕ) (a : TypeTree) → Has E j a → IsType p.sorted.automaton.states a))) c.parameters.ensures
    (subst (λ m. IsTrue c.is_env.result ↔ (IsEnv c.parameters.result E × ((j : ℕ) (a : TypeTree) → Has E j a → IsType m a))) c.state_count-states.ensures c.is_env.ensures)
