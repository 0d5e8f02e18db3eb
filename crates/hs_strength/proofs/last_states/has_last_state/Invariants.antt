-- so far none has the state at its end
use Rattle.std.proofs.Common.{◌≡◌, ℕ, take, Contains}
use Rattle.hs_weak.specs.Reads.{last_state}
use Rattle.hs_types.specs.Interned.{type_of_id}
use Rattle.hs_strength.proofs.last_states.has_last_state.Given as goal

abbrev pub invariant-loop-member : goal.invariant-loop-member
invariant-loop-member l = (t : ℕ) → Contains (take l.member-index l.members) t → last_state (type_of_id l.types t) ≡ l.state → ⊥
