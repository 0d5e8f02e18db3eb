-- Worked examples of a report: the rejected `S -> Tw a c. Tw f x -> f (f x).` of `RunExamples`, with the names of its file.
--     rejected     the summary with the path `a/1 a/1 c`, which leads to the state q2
--     accepted     the summary of a table that is accepted
--     over         the same, where the search for a compact list came to more than 7 entries
--     entry        the line of the entry at point 5
use Rattle.std.specs.Prelude.{◌≡◌, refl, [], ◌∷◌, codes, Some, None}
use Rattle.std.specs.Fmt.{digits}
use Rattle.hs_scheme.specs.flow.Points.{points_of}
use Rattle.hs_scheme.specs.sorting.Sorting.{o, arrow}
use Rattle.hs_scheme.specs.Problem.{ProblemData}
use Rattle.hs_table.specs.Types.{state}
use Rattle.hs_text.specs.Report.{summary, entry_line}
use Rattle.hs_text.specs.declared.minimal.Minimal.TheVariants.{More}
use Rattle.hs_text.specs.declared.verdict.Verdict.TheVariants.{Accepted, Rejected}
use Rattle.hs_scheme.specs.acceptance.RunExamples.{rules, transitions}

abbrev example : ProblemData
example = record {
  sorted = record {
    scheme = record { rules = rules; ranks = 1 ∷ 0 ∷ [] };
    automaton = record { states = 3; transitions = transitions };
    names = record {
      rules = codes "S" ∷ codes "Tw" ∷ [];
      params = [] ∷ (codes "f" ∷ codes "x" ∷ []) ∷ [];
      terminals = codes "a" ∷ codes "c" ∷ [];
      states = codes "q0" ∷ codes "q1" ∷ codes "q2" ∷ [];
    };
    sorts = o ∷ arrow (arrow o o) (arrow o o) ∷ [];
  };
  points = points_of rules;
  flow = record { pairs = record { rule = 1; param = 0; point = 1 } ∷ record { rule = 1; param = 1; point = 2 } ∷ []; heads = [] };
}

pub rejected : summary example (Rejected 13 (record { steps = (0, 1) ∷ (0, 1) ∷ []; last = 1; state = 2; used = 4 })) None None ≡ codes "rejected\nentries 13\npath a/1 a/1 c\nstate q2\n"
unfolding digits
rejected = refl

pub accepted : summary example (Accepted 4 5) (Some 2) None ≡ codes "accepted\nentries 4\nchecked 5\nsimplified 2\n"
unfolding digits
accepted = refl

pub over : summary example (Accepted 4 5) (Some 2) (Some (More 7)) ≡ codes "accepted\nentries 4\nchecked 5\nsimplified 2\nminimal more than 7\n"
unfolding digits
over = refl

pub entry : entry_line example (record { point = 5; env = [] ∷ (state 2 ∷ []) ∷ []; ty = state 2 }) ≡ codes "5 Tw [f:{}; x:{q2}] q2\n"
unfolding digits
entry = refl
