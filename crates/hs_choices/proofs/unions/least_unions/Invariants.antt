-- the least unions of the slots from `left` on
use Rattle.std.proofs.Common.{◌≤◌, length, drop}
use Rattle.hs_types.specs.Interned.{env_of_id, Grows}
use Rattle.hs_choices.specs.Unions.{AreLeastUnions}
use Rattle.hs_choices.specs.Slots.{AscendAll}
use Rattle.hs_choices.specs.Numbered.{envs_of, slot_envs, AreOfLength}
use Rattle.hs_choices.proofs.unions.least_unions.Given as goal

abbrev pub invariant-loop-left : goal.invariant-loop-left
invariant-loop-left g l =
    let known = g.T.Comparing.known in
    let dropped = g.D.Dropping.dropped in
    let first = env_of_id (known l.fn.types) l.fn.first in
    record {
      within : l.left ≤ length l.slots;
      grows : Grows (known l.fn.types) (known l.types);
      fits : g.D.Dropping.fits l.dropping (known l.types);
      stays : g.D.Dropping.stays l.fn.dropping l.dropping;
      range : AreOfLength (length first) (known l.types) l.kept.items;
      ascend : AscendAll (envs_of (known l.types) l.kept.items);
      least : AreLeastUnions (length first) (dropped l.fn.dropping (known l.fn.types) l.rule) first (slot_envs (known l.fn.types) (drop l.left l.slots)) (envs_of (known l.types) l.kept.items);
    }

abbrev pub decreases-loop-left : goal.decreases-loop-left
decreases-loop-left g l = l.left
