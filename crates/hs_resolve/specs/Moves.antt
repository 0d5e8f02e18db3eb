-- What the names of transitions stand for, while those of later ones aren't known yet.
--     AreNumbers         the numbers of names, whatever names are met later
--     IsMove, AreMoves   the transition, and several, whatever states and terminals are met later
use Rattle.std.specs.Prelude.{◌≡◌, ℕ, List, ◌++◌, map}
use Rattle.hs_scheme.specs.acceptance.Transition.{TransitionData}
use Rattle.hs_reader.specs.declared.raw.RawName.{RawName}
use Rattle.hs_reader.specs.Raw.{Transition}
use Rattle.hs_resolve.specs.Names.{number}
use Rattle.hs_resolve.specs.Numbering.{transition_of}

abbrev pub AreNumbers : (known : List (List ℕ)) → List RawName → List ℕ → Type 0
AreNumbers known names ns = (later : List (List ℕ)) → ns ≡ map (λ q. number (known ++ later) q.text) names

abbrev pub IsMove : (states terminals : List (List ℕ)) → Transition → TransitionData → Type 0
IsMove states terminals raw move = (p a : List (List ℕ)) → move ≡ transition_of (states ++ p) (terminals ++ a) raw

abbrev pub AreMoves : (states terminals : List (List ℕ)) → List Transition → List TransitionData → Type 0
AreMoves states terminals raw moves = (p a : List (List ℕ)) → moves ≡ map (transition_of (states ++ p) (terminals ++ a)) raw
