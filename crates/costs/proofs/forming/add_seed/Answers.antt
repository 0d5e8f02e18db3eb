use Rattle.std.proofs.Common.{sym, subst, List, All, []}
use Rattle.hs_rules.specs.Conclusions.{DeducedData, IsDeduced}
use Rattle.costs.proofs.forming.add_seed.Goals as goal

pub deduced_entries_are_in_shape-requires : goal.deduced_entries_are_in_shape-requires
deduced_entries_are_in_shape-requires c = ([], subst (λ (ds : List DeducedData). All (IsDeduced c.args.problem.now c.seed_conclusions.new.replica.ids []) ds) (sym c.as_slice.ensures.value) c.in_ok-found.ensures.found.deduced)
