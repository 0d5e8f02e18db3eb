-- none so far is asked
use Rattle.std.proofs.Common.{◌≡◌, take}
use Rattle.hs_choices.specs.Unions.{AsksOneOf}
use Rattle.hs_choices.specs.Numbered.{envs_of}
use Rattle.hs_types.specs.Interned.{env_of_id}
use Rattle.hs_choices.proofs.unions.asks_some.Given as goal

abbrev pub invariant-loop-other : goal.invariant-loop-other
invariant-loop-other g l =
    let known = g.T.Comparing.known in
    record {
      same : known l.types ≡ known l.fn.types;
      none : AsksOneOf (envs_of (known l.fn.types) (take l.other-index l.others)) (env_of_id (known l.fn.types) l.fn.env) → ⊥;
    }
