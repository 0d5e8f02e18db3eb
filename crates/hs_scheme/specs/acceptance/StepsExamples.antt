-- A worked example of steps along a path and of lengthening: `S -> F c. F -> a.` with `q0 a -> q0.`
--     fails_after_3     the path a/1 leads in three steps to c, which has no transition
--     full              the lengthened rules are `S -> F c. F x -> a x.`
use Rattle.std.specs.Prelude.{◌≡◌, refl, List, [], ◌∷◌}
use Rattle.hs_scheme.specs.declared.term.Head.{Head}
use Rattle.hs_scheme.specs.declared.term.Head.TheVariants.{Var, Nt, Tm}
use Rattle.hs_scheme.specs.declared.term.Rule.{Rule}
use Rattle.hs_scheme.specs.acceptance.Transition.{TransitionData}
use Rattle.hs_scheme.specs.Tree.{Tree, node, none, more}
use Rattle.hs_scheme.specs.acceptance.Run.{start}
use Rattle.hs_scheme.specs.sorting.Sorting.{o, arrow}
use Rattle.hs_scheme.specs.acceptance.Steps.{Path, Fails}
use Rattle.hs_scheme.specs.sorting.Lengthening.{lengthening}

abbrev leaf : Head → Tree Head
leaf h = node h none

-- a and c are the terminals 0 and 1
abbrev rule_of_s : Rule
rule_of_s = record { params = 0; body = node (Nt 1) (more (leaf (Tm 1)) none) }

abbrev rules : List Rule
rules = rule_of_s ∷ (record { params = 0; body = leaf (Tm 0) }) ∷ []

abbrev transitions : List TransitionData
transitions = (record { from = 0; terminal = 0; to = 0 ∷ [] }) ∷ []

abbrev path : Path
path = (0, 1) ∷ []

pub fails_after_3 : Fails rules transitions 3 0 start path
fails_after_3 = record {
  label = [];
  rest = path;
  state = 0;
  term = node (Nt 1) (more (leaf (Tm 1)) none);
  whole = refl;
  step = (refl, refl, refl);
  holds = record {
    label = [];
    rest = path;
    state = 0;
    term = node (Tm 0) (more (leaf (Tm 1)) none);
    whole = refl;
    step = (refl, refl, refl);
    holds = record {
      label = path;
      rest = [];
      state = 0;
      term = leaf (Tm 1);
      whole = refl;
      step = (0 ∷ [], refl, record { place = 0; labelled = refl; state = refl; term = refl });
      holds = (refl, refl);
    };
  };
}

pub full : lengthening rules (o ∷ arrow o o ∷ []) ≡ rule_of_s ∷ (record { params = 1; body = node (Tm 0) (more (leaf (Var 0)) none) }) ∷ []
full = refl
