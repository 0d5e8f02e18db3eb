use Rattle.hs_types.proofs.Numbers.{type_within}
use Rattle.hs_table_examples.proofs.NumberLemmas.{given}
use Rattle.hs_table_examples.proofs.numbers.arrow_of.Goals as goal

pub arrow-requires-clause-rest : goal.arrow-requires-clause-rest
arrow-requires-clause-rest c = type_within c.args.interner.now c.set.new.self c.in_ok-set.ensures.grows c.args.rest c.requires.rest

pub returns-clause-within : goal.returns-clause-within
returns-clause-within c = given c.arrow.new.self.types c.in_ok-id.id c.in_ok-id.ensures.ok
