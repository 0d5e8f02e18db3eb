use Rattle.std.proofs.Common.{◌≡◌, subst, slice_get, Some, inl}
use Rattle.hs_scheme.proofs.Lists.{Contains-at}
use Rattle.hs_types.specs.Interned.{entry_of}
use Rattle.hs_rules.specs.Conclusions.{DeducedData}
use Rattle.hs_core.proofs.waiting.Waiting.add.Goals as goal

pub returns-in-Some-clause-known : goal.returns-in-Some-clause-known
returns-in-Some-clause-known c = let r = c.args.replica.now in inl (Contains-at r.log c.in-Some._place (entry_of r.ids c.args.deduced.row) (subst (λ (x : DeducedData). slice_get r.log c.in-Some._place ≡ Some (entry_of r.ids x.row)) c.deduced.view_is c.in-Some.ensures.found))
