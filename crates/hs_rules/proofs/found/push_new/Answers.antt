use Rattle.std.proofs.Common.{sym, ap, subst, arith, Contains}
use Rattle.hs_types.specs.Interned.{RowData}
use Rattle.hs_rules.specs.Conclusions.{DeducedData}
use Rattle.hs_rules.proofs.FoundLemmas.{rows_of, row_among, rows_pushed}
use Rattle.hs_rules.proofs.found.push_new.Goals as goal

pub keep-requires : goal.keep-requires
keep-requires c = λ k.
    c.requires.absent (row_among c.args.found.now.rows.keys c.args.found.now.list.items c.args.deduced.row c.requires.rows
    (subst (λ (r : RowData). Contains c.args.found.now.rows.keys r) (ap (λ (d : DeducedData). d.row) c.deduced.view_is) k))

pub returns-clause-rows : goal.returns-clause-rows
returns-clause-rows c =
    let items = c.args.found.now.list.items in
    let d : DeducedData = record { row = c.deduced.inside.row; support = record { head = c.deduced.inside.head; args = c.deduced.inside.args.items } } in
    rows_pushed c.args.found.now.rows.keys c.keep.new.rows.keys items c.push.new.self.items d c.requires.rows
    (λ lt. c.in_ok-keep.ensures.few (omega (arith, lt, c.len.ensures)))
    (λ le. c.in_ok-keep.ensures.more (omega (arith, le, c.len.ensures)))
    (subst (λ (r : RowData). Contains (rows_of items) r → ⊥) (sym (ap (λ (x : DeducedData). x.row) c.deduced.view_is)) c.requires.absent)
    c.in_ok-push.ensures.items
