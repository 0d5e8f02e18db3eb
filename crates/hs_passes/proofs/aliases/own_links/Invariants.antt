use Rattle.std.proofs.Common.{◌≡◌, ◌<◌, ℕ, vec_len, ◌≤◌, vec_capacity}
use Rattle.hs_passes.specs.Selection.{number_in}
use Rattle.hs_passes.proofs.aliases.own_links.Given as goal

abbrev pub invariant-loop-number : goal.invariant-loop-number
invariant-loop-number l = record {
  long : vec_len l.links ≡ l.number;
  each : (h : ℕ) → h < l.number → number_in l.links.items h ≡ h;
  room : l.count ≤ vec_capacity l.links;
}
