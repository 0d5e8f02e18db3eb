use Rattle.std.proofs.lemmas.Option.{slice_get_within}
use Rattle.hs_types.proofs.Numbers.{type_within}
use Rattle.hs_table_examples.proofs.places.add_taking.Goals as goal

pub add_new-requires : goal.add_new-requires
add_new-requires c = (
  slice_get_within c.empty_env.new.self.ids.envs c.in_ok-env.env _ c.in_ok-env.ensures.ok,
  type_within c.arrow_type.new.replica.ids c.empty_env.new.self.ids c.in_ok-env.ensures.kept.grows c.in_ok-ty.ty c.in_ok-ty.ensures,
)
