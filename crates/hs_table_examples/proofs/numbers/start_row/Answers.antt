use Rattle.hs_types.proofs.Numbers.{type_within}
use Rattle.hs_table_examples.proofs.NumberLemmas.{given}
use Rattle.hs_table_examples.proofs.numbers.start_row.Goals as goal

pub returns : goal.returns
returns c = (
  given c.env.new.self.envs c.in_ok-env.env c.in_ok-env.ensures.ok,
  type_within c.base.new.self c.env.new.self c.in_ok-env.ensures.grows c.in_ok-ty.ty (given c.base.new.self.types c.in_ok-ty.ty c.in_ok-ty.ensures.ok),
)
