use Rattle.std.proofs.Common.{sym, subst, List, All}
use Rattle.hs_rules.specs.Conclusions.{DeducedData, IsDeduced}
use Rattle.hs_table_examples.proofs.growing.grow_at.Goals as goal

pub deduced_entries_are_in_shape-requires : goal.deduced_entries_are_in_shape-requires
deduced_entries_are_in_shape-requires c =
    let log = c.args.replica.now.log in
    (log, subst (λ (ds : List DeducedData). All (IsDeduced c.args.problem.now c.conclusions.new.replica.ids log) ds) (sym c.as_slice.ensures.value) c.in_ok-found.ensures.found.deduced)
