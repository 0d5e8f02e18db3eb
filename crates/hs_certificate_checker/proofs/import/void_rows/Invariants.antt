-- the pairs by number so far are the first pairs, and there is room for the others
use Rattle.std.proofs.Common.{◌≡◌, ◌<◌, ◌≤◌, All, length, map, take, vec_capacity}
use Rattle.hs_types.specs.Interned.{Grows}
use Rattle.hs_numbered.specs.Certificates.{void_of}
use Rattle.hs_certificate_checker.proofs.import.void_rows.Given as goal

abbrev pub invariant-loop-pair : goal.invariant-loop-pair
invariant-loop-pair l = record {
  grows : Grows l.fn.interner l.interner;
  range : All (λ r. r.env < length l.interner.envs) l.rows.items;
  same : map (void_of l.interner) l.rows.items ≡ take l.pair-index l.void;
  room : length l.void ≤ vec_capacity l.rows;
}
