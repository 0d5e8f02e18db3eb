-- the sets that are numbered here so far are those of the other
use Rattle.std.proofs.Common.{◌≡◌, ◌<◌, take, map, All, length}
use Rattle.hs_types.specs.Interned.{set_of_id, Grows}
use Rattle.hs_types.specs.Translations.{AreFound}
use Rattle.hs_types.proofs.nodes.Nodes.import_env.Given as goal

abbrev pub invariant-loop-set : goal.invariant-loop-set
invariant-loop-set l = record {
  found : AreFound l.from l.self l.found;
  grows : Grows l.fn.self l.self;
  range : All (λ s. s < length l.self.sets) l.own_sets.items;
  same : map (set_of_id l.self) l.own_sets.items ≡ map (set_of_id l.from) (take l.set-index l.sets);
}
