-- What the calls of a sink have answered, whoever the sink is.
use Rattle.std.specs.Prelude.{◌≡◌, ◌<◌, ℕ, List, [], ◌∷◌, ◌++◌, length, take}

pub record Writing : Type 0 where
  -- the bytes that were taken, in order
  pub taken : List ℕ
  -- for each write that answered `Ok`: what would be taken then, had it taken all that it was handed
  pub aims : List (List ℕ)

-- before the first call
abbrev pub unwritten : Writing
unwritten = record { taken = []; aims = [] }

-- after a write of this piece that took so many bytes
abbrev pub written : List ℕ → ℕ → Writing → Writing
written piece count w =
    record { taken = w.taken ++ take count piece; aims = w.aims ++ (w.taken ++ piece) ∷ [] }

-- some of these bytes, though not all, are added at the end, in order from their front
abbrev pub AddsPart : List ℕ → List ℕ → List ℕ → Type 0
AddsPart old new bytes = (n : ℕ) × (n < length bytes) × (new ≡ old ++ take n bytes)
