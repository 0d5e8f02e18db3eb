use Rattle.std.proofs.Common.{◌≡◌, ◌<◌, ◌≤◌, ◌-◌, ℕ, length, vec_len}
use Rattle.hs_passes.specs.Links.{AreLinks, Follow}
use Rattle.hs_passes.specs.Scan.{scanned}
use Rattle.hs_passes.specs.Selection.{number_in}
use Rattle.hs_passes.proofs.aliases.linked.Given as goal

abbrev pub invariant-loop-i : goal.invariant-loop-i
invariant-loop-i l = record {
  long : vec_len l.links ≡ length l.rules;
  links : AreLinks l.links.items;
  follow : Follow (scanned l.rules (l.i - 1)) l.links.items;
  ahead : (h : ℕ) → l.i ≤ h → h < length l.rules → number_in l.links.items h ≡ h;
}
