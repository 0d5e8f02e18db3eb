-- the unions so far are added
use Rattle.std.proofs.Common.{take}
use Rattle.hs_types.specs.Interned.{Grows}
use Rattle.hs_choices.specs.Numbered.{IsAdded}
use Rattle.hs_choices.proofs.unions.add_unions.Given as goal

abbrev pub invariant-loop-other : goal.invariant-loop-other
invariant-loop-other g l =
    let known = g.T.Comparing.known in
    let dropped = g.D.Dropping.dropped in
    record {
      grows : Grows (known l.fn.types) (known l.types);
      fits : g.D.Dropping.fits l.dropping (known l.types);
      stays : g.D.Dropping.stays l.fn.dropping l.dropping;
      added : IsAdded (dropped l.fn.dropping (known l.fn.types) l.rule) (known l.fn.types) (known l.types) l.fn.kept.items l.fn.env (take l.other-index l.slot) l.kept.items;
    }
