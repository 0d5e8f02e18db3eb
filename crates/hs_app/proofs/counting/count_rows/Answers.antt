use Rattle.std.proofs.Common.{map}
use Rattle.hs_types.specs.Interned.{entry_of}
use Rattle.hs_app.proofs.ToldTables.{member_shape}
use Rattle.hs_app.proofs.counting.count_rows.Goals as goal

pub check_rows-requires-clause-shape : goal.check_rows-requires-clause-shape
check_rows-requires-clause-shape c =
    member_shape c.args.problem.now (map (entry_of c.args.types.now) c.args.rows.now) c.know_sorted_problem.ensures.automaton c.requires.least.supported
