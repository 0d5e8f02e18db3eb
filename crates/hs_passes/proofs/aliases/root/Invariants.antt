use Rattle.std.proofs.Common.{◌≡◌, ◌+◌, ◌-◌, ◌<◌, ℕ, cond, length}
use Rattle.std.specs.Prelude.{nat_eq, slice_index}
use Rattle.hs_passes.specs.Links.{AreLinks, Follow}
use Rattle.hs_passes.proofs.aliases.root.Given as goal

abbrev pub invariant-loop-links : goal.invariant-loop-links
invariant-loop-links l = record {
  in_range : l.at < length l.links;
  links : AreLinks l.links;
  roots : (h : ℕ) → slice_index l.initial.links h ≡ h → slice_index l.links h ≡ h;
  follow : (rep : ℕ → ℕ) → Follow rep l.initial.links → Follow rep l.links;
  same : (rep : ℕ → ℕ) → Follow rep l.initial.links → rep l.at ≡ rep l.from;
}

abbrev pub decreases-loop-links : goal.decreases-loop-links
decreases-loop-links l = cond (nat_eq (slice_index l.links l.at) l.at) 0 (length l.links + 1 - l.at)
