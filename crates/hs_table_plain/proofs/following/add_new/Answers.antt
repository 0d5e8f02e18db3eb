use Rattle.std.proofs.Common.{subst, Contains, ◌⊎◌, inl, inr, ◌↔◌, List}
use Rattle.std.proofs.lemmas.List.{take_all}
use Rattle.hs_scheme.proofs.Lists.{none_in}
use Rattle.hs_table.specs.Entries.{EntryData}
use Rattle.hs_table_plain.proofs.Members.{next_member, two_steps_beside}
use Rattle.hs_table_plain.proofs.following.add_new.Goals as goal

pub loop-entry-init : goal.loop-entry-init
loop-entry-init c = record {
  once = c.requires;
  each = λ e. (λ k. inl k, λ h. elim h [ inl k ↦ k | inr none ↦ absurd (none_in e none) ]);
}

pub add_if_new-requires : goal.add_if_new-requires
add_if_new-requires c = c.loop-entry.invariant.once

pub returns-clause-once : goal.returns-clause-once
returns-clause-once c = c.loop-entry.invariant.once

pub loop-entry-preserved : goal.loop-entry-preserved
loop-entry-preserved c = record {
  once = c.in_ok-add_if_new.ensures.once;
  each = λ e. two_steps_beside _ _ _ _ _ _ (c.in_ok-add_if_new.ensures.each e) (c.loop-entry.invariant.each e)
      (next_member c.args.entries.now c.loop-entry.entry-index c.entry-item.result e c.loop-entry-test.true c.entry-item.is);
}

pub returns-clause-each : goal.returns-clause-each
returns-clause-each c = λ e.
    subst (λ (xs : List EntryData). Contains c.loop-entry.found.items e ↔ (Contains c.args.found.now.items e ⊎ Contains xs e)) (take_all c.loop-entry.entry-index c.args.entries.now c.loop-entry-test.false)
    (c.loop-entry.invariant.each e)
