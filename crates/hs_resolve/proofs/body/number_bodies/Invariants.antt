-- the rules so far, the terminals of their bodies, and the least line among them
use Rattle.std.proofs.Common.{◌≡◌, take}
use Rattle.std.specs.List.{flat_map}
use Rattle.hs_reader.specs.Limits.{term_names}
use Rattle.hs_resolve.specs.Names.{distinct}
use Rattle.hs_resolve.specs.Numbering.{terminals_in}
use Rattle.hs_resolve.specs.Least.{IsLeast, Before}
use Rattle.hs_resolve.specs.LineFaults.{Somewhere, IsUndefined}
use Rattle.hs_resolve.specs.Bodies.{AreScoped}
use Rattle.hs_resolve.proofs.body.number_bodies.Given as goal

abbrev pub invariant-loop-number : goal.invariant-loop-number
invariant-loop-number l = record {
  terminals : l.terminals ≡ distinct (flat_map terminals_in (take l.number l.rules));
  undefined : IsLeast (Before (λ _ r line. Somewhere (λ _ n. IsUndefined l.left n line) (term_names r.body)) l.rules l.number) l.undefined;
  rules : AreScoped l.left l.terminals (take l.number l.rules) l.numbered.items;
}
