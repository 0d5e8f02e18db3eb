use Rattle.std.proofs.Common.{◌≡◌, ap, subst, ◌∙◌, ℕ, true, not, List, slice_get, Option, Some, None, Contains}
use Rattle.std.specs.Option.{IfSome, is_some}
use Rattle.std.proofs.lemmas.Bool.{false≢true}
use Rattle.hs_scheme.proofs.Lists.{Contains-at}
use Rattle.hs_table.specs.Entries.{EntryData}
use Rattle.hs_types.specs.Interned.{entry_of}
use Rattle.hs_rules.specs.Conclusions.{DeducedData}
use Rattle.hs_table_examples.proofs.Lists.{one_more}
use Rattle.hs_table_examples.proofs.following.has_all.Goals as goal

found_in : (log : List EntryData) (e : EntryData) (o : Option ℕ) → IfSome o (λ place. slice_get log place ≡ Some e) → is_some o ≡ true → Contains log e
found_in log e None h some = absurd (false≢true some)
found_in log e (Some place) h some = Contains-at log place e h

pub loop-deduced-preserved : goal.loop-deduced-preserved
loop-deduced-preserved c =
    let log = c.args.replica.now.log in
    let ids = c.args.replica.now.ids in
    one_more (λ (d : DeducedData). Contains log (entry_of ids d.row)) c.args.found.now c.loop-deduced.deduced-index c.deduced-item.result
    c.loop-deduced-test.true c.deduced-item.is c.loop-deduced.invariant
    (subst (λ (d : DeducedData). Contains log (entry_of ids d.row)) c.deduced.view_is
    (found_in log (entry_of ids c.deduced.inside.row) c.find.result c.find.ensures.found (c.is_none.ensures ∙ ap not c.if-is_none.false)))
