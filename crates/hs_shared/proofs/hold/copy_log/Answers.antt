use Rattle.std.proofs.Common.{sym, ap, ◌∙◌, List, ◌++◌, drop, arith, append_assoc}
use Rattle.std.proofs.lemmas.List.{take-append-drop}
use Rattle.hs_table.specs.Entries.{EntryData}
use Rattle.hs_types.proofs.Numbers.{Grows-trans}
use Rattle.hs_shared.proofs.hold.copy_log.Goals as goal

pub returns-in_err-copy_entry-clause-begins : goal.returns-in_err-copy_entry-clause-begins
returns-in_err-copy_entry-clause-begins c =
    let log = c.args.from.now.log in
    let rest = drop c.loop-place.place log in
    (rest, ap (λ (xs : List EntryData). xs ++ rest) (c.in_err-copy_entry.ensures.err ∙ c.loop-place.invariant.log) ∙ take-append-drop c.loop-place.place log)

pub loop-place-preserved : goal.loop-place-preserved
loop-place-preserved c =
    let before = c.loop-place.invariant in
    let more = c.copy_entry.ensures.more in
    record {
      log = c.in_ok-copy_entry.ensures.ok;
      within = omega (arith, c.loop-place-test.true, c.len-place-end.ensures.len);
      more = (before.more.0 ++ more.0, sym (append_assoc c.args.to.now.log before.more.0 more.0) ∙ ap (λ (xs : List EntryData). xs ++ more.0) before.more.1 ∙ more.1);
      spare = c.copy_entry.ensures.kept.0 ∙ before.spare;
      indexed = c.copy_entry.ensures.kept.1 ∙ before.indexed;
      grows = Grows-trans c.args.to.now.ids c.loop-place.to.ids c.copy_entry.new.to.ids before.grows c.copy_entry.ensures.kept.2;
    }
