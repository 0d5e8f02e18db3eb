use Rattle.hs_types.proofs.Numbers.{Grows-trans}
use Rattle.hs_types.proofs.RowLemmas.{found_row, found_entry}
use Rattle.hs_types.proofs.nodes.Nodes.import_row.Goals as goal

pub returns-in_err-ty-clause-grows : goal.returns-in_err-ty-clause-grows
returns-in_err-ty-clause-grows c = Grows-trans c.args.self.now c.import_env.new.self c.import_type.new.self c.import_env.ensures.grows c.import_type.ensures.grows

pub returns-clause-row : goal.returns-clause-row
returns-clause-row c = found_row c.import_env.new.self c.import_type.new.self c.args.from.now c.import_type.ensures.grows c.args.row c.in_ok-env.env c.in_ok-ty.ty c.in_ok-env.ensures.ok c.in_ok-ty.ensures.ok

pub returns-clause-entry : goal.returns-clause-entry
returns-clause-entry c = found_entry c.import_env.new.self c.import_type.new.self c.args.from.now c.import_type.ensures.grows c.args.row c.in_ok-env.env c.in_ok-ty.ty c.in_ok-env.ensures.ok c.in_ok-ty.ensures.ok

pub returns-clause-grows : goal.returns-clause-grows
returns-clause-grows c = Grows-trans c.args.self.now c.import_env.new.self c.import_type.new.self c.import_env.ensures.grows c.import_type.ensures.grows
