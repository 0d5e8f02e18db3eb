use Rattle.hs_types.specs.Interned.{type_of_id}
use Rattle.hs_sites.specs.Listed.{data_of}
use Rattle.hs_choices.proofs.Choosing.{part_within}
use Rattle.hs_void.proofs.AtArguments.{lacks_nothing, lacks_by}
use Rattle.hs_void.proofs.arguments.lacks.Goals as goal

pub returns-in-None-clause-ok : goal.returns-in-None-clause-ok
returns-in-None-clause-ok c = lacks_nothing c.args.problem.now c.args.types.now c.args.table.now c.args.parameter (type_of_id c.args.types.now c.args.ty) (data_of c.args.site.now) c.in-None.ensures

pub has_row-requires-clause-rows : goal.has_row-requires-clause-rows
has_row-requires-clause-rows c = part_within c.args.types.now c.args.table.now c.in-Some.arg c.rows_at.result.now c.requires.table c.rows_at.ensures

pub returns-in_ok-has-in-Some-clause-ok : goal.returns-in_ok-has-in-Some-clause-ok
returns-in_ok-has-in-Some-clause-ok c =
    let I = c.args.types.now in
    lacks_by c.args.problem.now I c.args.table.now c.args.parameter (type_of_id I c.args.ty) (data_of c.args.site.now) c.in-Some.arg c.in-Some.ensures c.rows_at.result.now c.rows_at.ensures c.in_ok-has-in-Some.has c.in_ok-has-in-Some.ensures.ok
