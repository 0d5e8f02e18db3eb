use Rattle.std.proofs.Common.{sym, subst, ◌+◌, List, All, take}
use Rattle.hs_rules.specs.Conclusions.{DeducedData, IsDeduced}
use Rattle.costs.proofs.forming.add_at.Goals as goal

pub deduced_entries_are_in_shape-requires : goal.deduced_entries_are_in_shape-requires
deduced_entries_are_in_shape-requires c =
    let log = take (c.args.place + 1) c.args.replica.now.log in
    (log, subst (λ (ds : List DeducedData). All (IsDeduced c.args.problem.now c.conclusions_with.new.replica.ids log) ds) (sym c.as_slice.ensures.value) c.in_ok-found.ensures.found.deduced)
