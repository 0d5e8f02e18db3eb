-- the names of the rules so far are added
use Rattle.std.proofs.Common.{◌≡◌, map}
use Rattle.hs_sorts.proofs.Lengthenings.{partly, longer_names}
use Rattle.hs_sorts.proofs.lengthening.lengthen_params.Given as goal

abbrev pub invariant-loop-number : goal.invariant-loop-number
invariant-loop-number l = map (λ ns. ns.items) l.params.items ≡ partly longer_names l.number (map (λ ns. ns.items) l.fn.params.items) l.sorts
