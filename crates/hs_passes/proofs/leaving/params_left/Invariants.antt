-- what is left of those so far
use Rattle.std.proofs.Common.{◌≡◌, ◌≤◌, length, map, take, vec_len, vec_capacity}
use Rattle.hs_passes.specs.Leaving.{by_number}
use Rattle.hs_passes.specs.Needing.{kept}
use Rattle.hs_passes.specs.Selection.{chosen}
use Rattle.hs_passes.proofs.leaving.params_left.Given as goal

abbrev pub invariant-loop-i : goal.invariant-loop-i
invariant-loop-i l =
    let keep = kept l.parameters l.flags in
    record {
      items : map (λ names. names.items) l.out.items ≡ by_number (λ f. chosen (keep f)) (take l.i (map (λ names. names.items) l.params));
      long : vec_len l.out ≡ l.i;
      room : length l.params ≤ vec_capacity l.out;
    }
