-- Equality of the keys of maps: numbers, pairs and triples of numbers.
use Rattle.std.specs.Prelude.{ℕ, Bool, ◌&&◌, nat_eq}

abbrev pub key_eq : ℕ × ℕ → ℕ × ℕ → Bool
key_eq a b = nat_eq a.0 b.0 && nat_eq a.1 b.1

abbrev pub triple_eq : ℕ × ℕ × ℕ → ℕ × ℕ × ℕ → Bool
triple_eq a b = nat_eq a.0 b.0 && nat_eq a.1 b.1 && nat_eq a.2 b.2
