-- the names so far
use Rattle.std.proofs.Common.{◌≡◌, map, take}
use Rattle.hs_resolve.proofs.name_index.copy_texts.Given as goal

abbrev pub invariant-loop-text : goal.invariant-loop-text
invariant-loop-text l = l.names.items ≡ map (λ t. t.now) (take l.text-index l.texts)
