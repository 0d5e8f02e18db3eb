-- what is left of those so far
use Rattle.std.proofs.Common.{◌≡◌, ◌≤◌, length, take, vec_len, vec_capacity}
use Rattle.hs_passes.specs.Leaving.{by_number, sort_left}
use Rattle.hs_passes.specs.Needing.{kept}
use Rattle.hs_passes.proofs.leaving.sorts_left.Given as goal

abbrev pub invariant-loop-i : goal.invariant-loop-i
invariant-loop-i l =
    let keep = kept l.parameters l.flags in
    record {
      items : l.out.items ≡ by_number (λ f. sort_left (keep f)) (take l.i l.sorts);
      long : vec_len l.out ≡ l.i;
      room : length l.sorts ≤ vec_capacity l.out;
    }
