-- what comes of the environments so far is there
use Rattle.std.proofs.Common.{ℕ, ◌-◌, ◌≤◌, length, take, Contains}
use Rattle.hs_table.specs.Entries.{EntryData}
use Rattle.hs_replica.specs.Replica.{KeepsLog}
use Rattle.hs_rules.specs.Joins.{PartialData, FillsBy, SeenAre, MetForSlot, AreAscending, IsMadeOf, IsAmongJoined}
use Rattle.hs_rules.proofs.JoinLemmas.{ComeBeforeRest}
use Rattle.hs_rules.proofs.extending.extend_all.Given as goal

abbrev pub invariant-loop-start : goal.invariant-loop-start
invariant-loop-start l = record {
  kept : KeepsLog l.fn.replica l.replica;
  within : l.start ≤ length l.partials;
  seen : SeenAre l.out.seen.keys l.out.list.items;
  met : MetForSlot l.replica.ids l.fn.replica.log l.next.slot.now l.out.met.masks.keys l.out.list.items;
  ascending : AreAscending l.out.list.items;
  before : ComeBeforeRest l.out.list.items l.partials l.next.at l.start;
  made : (x : PartialData) → Contains l.out.list.items x → IsMadeOf l.fn.replica.ids l.replica.ids l.fn.replica.log l.partials l.next.slot.now l.next.at x;
  all : (from : PartialData) → Contains (take l.start l.partials) from → (place : ℕ) (e : EntryData) → FillsBy l.fn.replica.log l.next.slot.now place e → IsAmongJoined l.fn.replica.ids l.replica.ids from l.next.at place e l.out.list.items;
}

abbrev pub decreases-loop-start : goal.decreases-loop-start
decreases-loop-start l = length l.partials - l.start
