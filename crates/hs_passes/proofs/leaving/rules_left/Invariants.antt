-- what is left of those so far
use Rattle.std.proofs.Common.{◌≡◌, ◌≤◌, length, take, vec_len, vec_capacity}
use Rattle.hs_passes.specs.Leaving.{by_number, rule_left}
use Rattle.hs_passes.specs.Needing.{kept}
use Rattle.hs_passes.proofs.leaving.rules_left.Given as goal

abbrev pub invariant-loop-i : goal.invariant-loop-i
invariant-loop-i l =
    let keep = kept l.parameters l.flags in
    record {
      items : l.out.items ≡ by_number (λ f. rule_left keep (keep f)) (take l.i l.rules);
      long : vec_len l.out ≡ l.i;
      room : length l.rules ≤ vec_capacity l.out;
    }
