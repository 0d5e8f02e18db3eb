use Rattle.std.specs.Prelude.{◌||◌}
use Rattle.std.proofs.Common.{length, take}
use Rattle.hs_scheme.specs.Tree.{forest}
use Rattle.hs_passes.specs.Leaving.{keeps}
use Rattle.hs_passes.specs.Unused.{needs_at}
use Rattle.hs_passes.specs.Needing.{live_in, kept, GainsFlags}
use Rattle.hs_passes.proofs.needing.+mark_term.Given as goal

-- what the head needs is marked, and what those of the arguments so far do that stay
abbrev pub invariant-loop-i : goal.invariant-loop-i
invariant-loop-i l =
    let keep = kept l.parameters l.flags in
    let h = l.term-inside.head in
    GainsFlags l.parameters l.fn.needed l.needed (λ f j. needs_at l.rule f j h (length l.arg-items) || live_in keep l.rule f j (keeps keep h) (forest (take l.i l.arg-items)))
