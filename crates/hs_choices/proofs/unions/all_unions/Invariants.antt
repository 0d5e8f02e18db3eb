-- the unions of those so far
use Rattle.std.proofs.Common.{ℕ, take}
use Rattle.hs_types.specs.Interned.{Grows}
use Rattle.hs_choices.specs.Numbered.{AreOfLength, AreAllUnions}
use Rattle.hs_choices.proofs.unions.all_unions.Given as goal

abbrev pub invariant-loop-env : goal.invariant-loop-env
invariant-loop-env g l =
    let known = g.T.Comparing.known in
    let dropped = g.D.Dropping.dropped in
    record {
      grows : Grows (known l.fn.types) (known l.types);
      fits : g.D.Dropping.fits l.dropping (known l.types);
      stays : g.D.Dropping.stays l.fn.dropping l.dropping;
      unions : (n : ℕ) → AreOfLength n (known l.fn.types) l.kept → AreOfLength n (known l.fn.types) l.slot
          → AreAllUnions (dropped l.fn.dropping (known l.fn.types) l.rule) n (known l.fn.types) (known l.types) (take l.env-index l.kept) l.slot l.unions.items;
    }
