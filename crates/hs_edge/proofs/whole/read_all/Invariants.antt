use Rattle.std.proofs.Common.{◌≡◌, ◌≤◌, ◌-◌, ℕ, List, vec_len}
use Rattle.hs_edge.specs.Reading.{ReadsOn}
use Rattle.hs_edge.proofs.whole.read_all.Given as goal

abbrev pub invariant-pieces : goal.invariant-pieces
invariant-pieces g l =
    let left = g.S.Source.left in
    let reading = g.S.Source.reading in
    let faults = g.S.Source.faults in
    let file = g.S.Source.file in
    record {
      read : ReadsOn (reading l.fn.source) (left l.fn.source) l.bytes.items (reading l.fn.source).ended (reading l.source) (left l.source);
      within : vec_len l.bytes ≤ l.limit;
      same_faults : (any : List ℕ) → faults l.source any ≡ faults l.fn.source any;
      same_files : (any : List ℕ) → file l.source any ≡ file l.fn.source any;
    }

abbrev pub decreases-pieces : goal.decreases-pieces
decreases-pieces g l = l.limit - vec_len l.bytes
