-- Where nothing is led to.
--     AreShut      candidates can't be picked for all of these slots
--     IsBodyShut   so it is for the slots of the type of nonterminal f that the entry at the place gives, whatever it is
use Rattle.std.specs.Prelude.{◌≡◌, ℕ, List, length, Option}
use Rattle.hs_scheme.specs.Problem.{ProblemData}
use Rattle.hs_table.specs.Types.{TypeTree, arrows}
use Rattle.hs_table.specs.Entries.{Env, EntryData}
use Rattle.hs_table.specs.Follows.{FromBody}
use Rattle.hs_rules.specs.Slots.{SlotData, slots, FixedData, IsCandidate, Picked}

abbrev pub AreShut : List EntryData → Option FixedData → List SlotData → Type 0
AreShut E fixed ss = (args : List (ℕ × ℕ)) (es : List EntryData) → Picked (λ s. s.arg) (IsCandidate E fixed) ss args es → ⊥

abbrev pub IsBodyShut : ProblemData → List EntryData → Option FixedData → List ℕ → ℕ → ℕ → Type 0
IsBodyShut p E fixed us f place = (sets : Env) (rest : TypeTree) → FromBody p E f place (arrows sets rest) → length sets ≡ length us → AreShut E fixed (slots 0 us sets)
