-- those of the rows so far
use Rattle.std.proofs.Common.{◌≡◌, take}
use Rattle.hs_types.specs.Interned.{type_of_id}
use Rattle.hs_choices.specs.Numbered.{AreOfStrong}
use Rattle.hs_choices.proofs.slots.slot_of.Given as goal

abbrev pub invariant-loop-row : goal.invariant-loop-row
invariant-loop-row g l =
    let known = g.T.Comparing.known in
    record {
      same : known l.types ≡ known l.fn.types;
      strong : AreOfStrong (known l.fn.types) (take l.row-index l.rows) (type_of_id (known l.fn.types) l.fn.ty) l.envs.items;
    }
