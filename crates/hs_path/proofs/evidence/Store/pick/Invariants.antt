-- the rest of the types is looked for in the rest of the pack
use Rattle.std.proofs.Common.{ℕ, drop, map}
use Rattle.hs_types.specs.Interned.{type_of_id}
use Rattle.hs_verdict.specs.Evidence.{Pack}
use Rattle.hs_path.specs.Stored.{Members}
use Rattle.hs_path.proofs.StoredLemmas.{Left}
use Rattle.hs_path.proofs.evidence.Store.pick.Given as goal

abbrev pub invariant-loop-other : goal.invariant-loop-other
invariant-loop-other l =
    (bound below : ℕ) (p : Pack) → Members bound l.self below l.fn.pack.from l.fn.pack.to p
    → Left bound l.self below l.left.from l.left.to (map (type_of_id l.interner) l.types) (map (type_of_id l.interner) (drop l.other-index l.types)) (type_of_id l.interner l.ty) p
