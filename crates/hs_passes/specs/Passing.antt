-- What passes do one after another.
--     KeepsRest     what a pass doesn't touch: terminals, their ranks, the automaton, the names of terminals and states
--     composed      what the images of passes make of a scheme, one after another
--     raised        the tallies after that: each has risen by the weight that its pass takes off
--     RaisedUpTo    those before one of the passes have risen so, and the others stay
use Rattle.std.specs.Prelude.{◌≡◌, ℕ, ◌+◌, ◌-◌, ◌<◌, List, [], ◌∷◌, ◌++◌, length, take, drop}
use Rattle.hs_scheme.specs.sorting.Sorted.{SortedData}
use Rattle.hs_passes.specs.Weight.{weight}

pub record KeepsRest (s t : SortedData) : Type 0 where
  pub ranks : t.scheme.ranks ≡ s.scheme.ranks
  pub automaton : t.automaton ≡ s.automaton
  pub terminal_names : t.names.terminals ≡ s.names.terminals
  pub state_names : t.names.states ≡ s.names.states

abbrev pub Image : Type 0
Image = SortedData → SortedData

abbrev pub composed : List Image → SortedData → SortedData
composed [] s = s
composed (f ∷ fs) s = composed fs (f s)

abbrev pub raised : List Image → List ℕ → SortedData → List ℕ
raised [] ns s = ns
raised (f ∷ fs) [] s = []
raised (f ∷ fs) (n ∷ ns) s = (n + (weight s - weight (f s))) ∷ raised fs ns (f s)

-- the pass that stopped is the one after these many
pub record RaisedUpTo (fs : List Image) (old new : List ℕ) (s : SortedData) : Type 0 where
  pub before : ℕ
  pub one_left : before < length fs
  pub tallies : new ≡ raised (take before fs) (take before old) s ++ drop before old
