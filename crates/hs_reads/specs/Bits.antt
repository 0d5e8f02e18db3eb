-- Sets of numbers as bits in words.
--     word_at words k            the word at this place, 0 where there is none
--     HasBit words n             the bit of the number is set
--     AreBitsOf states words     of more than 64 states, just their bits are set
use Rattle.std.specs.Prelude.{◌≡◌, ℕ, ◌/◌, ◌%◌, ◌<◌, List, length, get_or, Contains, ◌↔◌}
use Rattle.std.specs.Int.{bit_at}

abbrev pub word_at : List ℕ → ℕ → ℕ
word_at words k = get_or words k 0

abbrev pub HasBit : List ℕ → ℕ → Type 0
HasBit words n = bit_at (word_at words (n / 64)) (n % 64) ≡ 1

abbrev pub AreBitsOf : List ℕ → List ℕ → Type 0
AreBitsOf states words = 64 < length states → (q : ℕ) → Contains states q ↔ HasBit words q
