-- the slots for so many types are added
use Rattle.std.proofs.Common.{◌≡◌, take}
use Rattle.hs_types.specs.Interned.{set_of_id}
use Rattle.hs_choices.specs.Numbered.{AreSlotsAdded}
use Rattle.hs_choices.proofs.slots.add_slots.Given as goal

abbrev pub invariant-loop-place : goal.invariant-loop-place
invariant-loop-place g l =
    let known = g.T.Comparing.known in
    record {
      same : known l.types ≡ known l.fn.types;
      slots : AreSlotsAdded (known l.fn.types) l.rows (take l.place (set_of_id (known l.fn.types) l.fn.set)) l.fn.slots.items l.slots.items;
    }
