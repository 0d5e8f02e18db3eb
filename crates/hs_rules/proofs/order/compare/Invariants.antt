-- the premises agree so far, so that what is left decides
use Rattle.std.proofs.Common.{◌≡◌, ◌≤◌, length, drop}
use Rattle.hs_table.specs.Follows.{premises}
use Rattle.hs_rules.specs.Order.{places_cmp}
use Rattle.hs_rules.proofs.order.compare.Given as goal

abbrev pub invariant-loop-number : goal.invariant-loop-number
invariant-loop-number l = record {
  within : l.number ≤ length (premises (record { head = l.other; args = l.others }));
  left : places_cmp (drop l.number (premises (record { head = l.head; args = l.args }))) (drop l.number (premises (record { head = l.other; args = l.others })))
      ≡ places_cmp (premises (record { head = l.head; args = l.args })) (premises (record { head = l.other; args = l.others }));
}
