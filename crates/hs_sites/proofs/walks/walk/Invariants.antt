-- the walk by the sites so far
use Rattle.std.proofs.Common.{◌≡◌, ℕ, length}
use Rattle.hs_sites.specs.Listed.{AreSitesOf}
use Rattle.hs_sites.specs.Reaching.{IsOn, IsWalk}
use Rattle.hs_sites.proofs.walks.walk.Given as goal

abbrev pub invariant-loop-place : goal.invariant-loop-place
invariant-loop-place l = record {
  len : length l.reached.items ≡ length l.initial.reached.items;
  kept : (g : ℕ) → IsOn l.initial.reached.items g → IsOn l.reached.items g;
  walk : (G : ℕ) → AreSitesOf l.problem G l.sites → IsWalk l.problem G l.sites l.marks 0 l.initial.reached.items → IsWalk l.problem G l.sites l.marks l.place l.reached.items;
}
