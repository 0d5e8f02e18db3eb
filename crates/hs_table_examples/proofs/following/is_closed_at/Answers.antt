use Rattle.std.proofs.Common.{sym, subst, List, All, Contains}
use Rattle.hs_table.specs.Entries.{EntryData}
use Rattle.hs_types.specs.Interned.{IsRow, entry_of}
use Rattle.hs_rules.specs.Conclusions.{DeducedData}
use Rattle.hs_table_examples.proofs.Closing.{following_rows, closed_at}
use Rattle.hs_table_examples.proofs.following.is_closed_at.Goals as goal

pub has_all-requires : goal.has_all-requires
has_all-requires c =
    let ids = c.following.new.replica.ids in
    subst (λ (xs : List DeducedData). All (λ (d : DeducedData). IsRow ids d.row) xs) (sym c.as_slice.ensures.value)
    (following_rows c.args.problem.now ids c.args.replica.now.log c.args.work c.args.point c.in_ok-found.found.items c.in_ok-found.ensures.found)

pub returns-clause-closed : goal.returns-clause-closed
returns-clause-closed c = λ yes.
    let ids = c.following.new.replica.ids in
    let found = c.in_ok-found.found.items in
    let own = subst (λ (xs : List DeducedData). All (λ (d : DeducedData). Contains c.following.new.replica.log (entry_of ids d.row)) xs) c.as_slice.ensures.value (c.has_all.ensures yes) in
    let there = subst (λ (xs : List EntryData). All (λ (d : DeducedData). Contains xs (entry_of ids d.row)) found) c.in_ok-found.ensures.log own in
    closed_at c.args.problem.now ids c.args.replica.now.log c.args.work c.args.point found c.in_ok-found.ensures.found there
