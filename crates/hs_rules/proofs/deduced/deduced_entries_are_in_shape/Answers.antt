use Rattle.std.proofs.Common.{slice_index_or}
use Rattle.hs_types.specs.Interned.{entry_of}
use Rattle.hs_rules.proofs.deduced.deduced_entries_are_in_shape.Goals as goal

pub returns : goal.returns
returns c = λ k d h.
    let x = c.requires.1 k d h in
    let found = slice_index_or c.args.found.now k d in
    record { row = x.row; shape = c.what_follows_is_in_shape.ensures.shape c.args.problem.now c.requires.0 c.know.ensures (entry_of c.args.replica.now.ids found.row) (found.support, x.follows) }
