-- the numbers so far are those of the first sets
use Rattle.std.proofs.Common.{◌≡◌, ◌<◌, take, map, All, length}
use Rattle.hs_types.specs.Interned.{set_of_id, Grows}
use Rattle.hs_numbered.proofs.import.import_env.Given as goal

abbrev pub invariant-loop-set : goal.invariant-loop-set
invariant-loop-set l = record {
  grows : Grows l.fn.interner l.interner;
  range : All (λ s. s < length l.interner.sets) l.sets.items;
  same : map (set_of_id l.interner) l.sets.items ≡ take l.set-index l.env;
}
