use Rattle.std.proofs.Common.{◌∙◌, sym, ap, ◌++◌, ◌∷◌, [], List, arith}
use Rattle.std.proofs.lemmas.List.{take_all}
use Rattle.hs_table.specs.Entries.{EntryData}
use Rattle.hs_resolve.proofs.Lists.{take-push}
use Rattle.hs_app.proofs.evidence.entries_of.Goals as goal

pub entry-requires : goal.entry-requires
entry-requires c = omega (arith, c.loop-place.invariant.count, c.loop-place-test.true)

pub push_reserved-requires : goal.push_reserved-requires
push_reserved-requires c = omega (arith, c.loop-place.table.ok, c.loop-place.invariant.long, c.loop-place.invariant.room, c.loop-place-test.true)

pub loop-place-preserved : goal.loop-place-preserved
loop-place-preserved c =
    let h = c.loop-place.invariant in
    let e = c.in_ok-entry.field-0 in
    record {
      same = c.push_reserved.ensures.items ∙ (ap (λ (xs : List EntryData). xs ++ e ∷ []) h.same ∙ sym (take-push c.args.certificate.now.table c.loop-place.place e c.in_ok-entry.ensures));
      long = omega (arith, c.push_reserved.ensures.len, h.long);
      count = h.count;
      room = omega (arith, c.push_reserved.ensures.capacity, h.room);
    }

pub returns : goal.returns
returns c =
    let h = c.loop-place.invariant in
    h.same ∙ take_all c.loop-place.place c.args.certificate.now.table (omega (arith, h.count, c.loop-place-test.false))
