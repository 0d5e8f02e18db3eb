-- the slots for the arguments so far
use Rattle.std.proofs.Common.{◌≡◌, map, take}
use Rattle.hs_types.specs.Interned.{set_of_id}
use Rattle.hs_choices.specs.Numbered.{AreOfArguments}
use Rattle.hs_choices.proofs.slots.slots_for.Given as goal

abbrev pub invariant-loop-place : goal.invariant-loop-place
invariant-loop-place g l =
    let known = g.T.Comparing.known in
    record {
      same : known l.types ≡ known l.fn.types;
      slots : AreOfArguments (known l.fn.types) l.table (take l.place l.args) (take l.place (map (set_of_id (known l.fn.types)) l.sets)) l.slots.items;
    }
