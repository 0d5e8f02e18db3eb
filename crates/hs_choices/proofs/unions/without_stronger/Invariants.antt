-- those so far that don't ask at least what it asks
use Rattle.std.proofs.Common.{◌≡◌, ℕ, take, Contains, ◌⊎◌}
use Rattle.hs_weak.specs.Strength.{AsStrongAs, AsksAtLeast}
use Rattle.hs_types.specs.Interned.{env_of_id}
use Rattle.hs_choices.proofs.unions.without_stronger.Given as goal

abbrev pub invariant-loop-other : goal.invariant-loop-other
invariant-loop-other g l =
    let known = g.T.Comparing.known in
    record {
      same : known l.types ≡ known l.fn.types;
      left : (k : ℕ) → Contains l.rest.items k → Contains l.kept k;
      lost : (k : ℕ) → Contains (take l.other-index l.kept) k → Contains l.rest.items k ⊎ AsksAtLeast AsStrongAs (env_of_id (known l.fn.types) k) (env_of_id (known l.fn.types) l.fn.env);
    }
