-- What the look-ups of a log tell of once conclusions were sought.
use Rattle.std.proofs.Common.{◌≡◌, sym, ◌∙◌, ap, ℕ, ◌≤◌, List, length, arith}
use Rattle.hs_table.specs.Entries.{EntryData}
use Rattle.hs_replica.specs.Replica.{ReplicaData, typed_to, KeepsLog}
use Rattle.hs_rules.specs.Listed.{TellsAsMuch}

pub tells_same : (r : ReplicaData) → TellsAsMuch r r
tells_same r = record { indexed = omega arith; typed = λ point. omega arith }

-- more is indexed, and then all but look-ups and the interner stays
module _ (r s : ReplicaData) (kept : s ≡ record r { indexed = s.indexed }) (more : r.indexed ≤ s.indexed) where
  typed_same : (point : ℕ) → typed_to s point ≡ typed_to r point
  typed_same point = ap (λ (q : ReplicaData). typed_to q point) kept

  pub tells_indexed : TellsAsMuch r s
  tells_indexed = record { indexed = more; typed = λ point. omega (arith, typed_same point) }

  pub tells_then : (t : ReplicaData) → KeepsLog s t → TellsAsMuch r t
  tells_then t k = record { indexed = omega (arith, more, k.indexed); typed = λ point. omega (arith, typed_same point, k.typed point) }

-- all is indexed while the log stays
pub whole_then : (s t : ReplicaData) → s.indexed ≡ length s.log → KeepsLog s t → t.indexed ≡ length t.log
whole_then s t h k = k.indexed ∙ (h ∙ ap (λ (es : List EntryData). length es) (sym k.log))
