-- What is known of the terminals of transitions, one transition after another.
--     length_of       the length that a map has for a terminal
--     pair_eq         equality of two pairs of names
--     first_or        the first, or else the second
use Rattle.std.specs.Prelude.{ℕ, Bool, ◌&&◌, List, length, Option, Some, None, nat_eq, if◌then◌else◌}
use Rattle.std.specs.Str.{bytes_eq}
use Rattle.std.specs.Borrow.{Bor}
use Rattle.indexmap.specs.IndexMap.{IndexMap, get_by}
use Rattle.hs_reader.specs.Raw.{Transition}

abbrev pub length_of : {S : Type 0} → IndexMap (Bor (List ℕ)) ℕ S → List ℕ → Option ℕ
length_of m x = get_by (λ k. bytes_eq x k.now) m

abbrev pub pair_eq : Bor (List ℕ) × Bor (List ℕ) → Bor (List ℕ) × Bor (List ℕ) → Bool
pair_eq p q = bytes_eq p.0.now q.0.now && bytes_eq p.1.now q.1.now

abbrev pub first_or : Option ℕ → Option ℕ → Option ℕ
first_or None o = o
first_or (Some n) o = Some n

-- the line of a transition, where a length is known that isn't its own
abbrev pub clash_line : Option ℕ → Transition → Option ℕ
clash_line None t = None
clash_line (Some n) t = if nat_eq n (length t.to) then None else Some t.from.line

-- the length of the transition where the name is its terminal
abbrev pub own_length : Transition → List ℕ → Option ℕ
own_length t x = if bytes_eq x t.terminal.text then Some (length t.to) else None
