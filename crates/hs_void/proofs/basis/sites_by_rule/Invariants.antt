-- the sites of the nonterminals so far
use Rattle.std.proofs.Common.{◌≡◌, ℕ, ◌≤◌, length, List, map, Bor, slice_get, Some, vec_capacity}
use Rattle.hs_sites.specs.declared.sites.Site.{Site}
use Rattle.hs_sites.specs.Listed.{AreSitesOf}
use Rattle.hs_void.proofs.basis.sites_by_rule.Given as goal

abbrev pub invariant-loop-rule : goal.invariant-loop-rule
invariant-loop-rule l = record {
  long : length l.found.items ≡ l.rule;
  room : l.count ≤ vec_capacity l.found;
  each : (G : ℕ) (of : List Site) → slice_get (map (λ (r : Bor (List Site)). r.now) l.found.items) G ≡ Some of → AreSitesOf l.problem G of;
}
