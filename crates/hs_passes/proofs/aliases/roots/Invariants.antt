use Rattle.std.proofs.Common.{◌≡◌, ◌<◌, ℕ, vec_len, ◌≤◌, vec_capacity}
use Rattle.hs_passes.specs.Links.{AreLinks, Follow}
use Rattle.hs_passes.specs.Selection.{number_in}
use Rattle.hs_passes.proofs.aliases.roots.Given as goal

abbrev pub invariant-loop-number : goal.invariant-loop-number
invariant-loop-number l = record {
  long : vec_len l.roots ≡ l.number;
  links : AreLinks l.links;
  follow : (rep : ℕ → ℕ) → Follow rep l.initial.links → Follow rep l.links;
  each : (rep : ℕ → ℕ) → Follow rep l.initial.links → (h : ℕ) → h < l.number → number_in l.roots.items h ≡ rep h;
  room : l.count ≤ vec_capacity l.roots;
}
