-- The text of a trace, as bytes. The lines of the rules in the file are those at which their names stand, counted from 1.
--     call_line        a replacement: the name of the nonterminal that is replaced, and the line of its rule
--     child_text       a terminal with the number of a child
--     between_states   the states before and behind a descent, up to the end of the line
--     reduction_line   a step
--     rest_line        how many more steps there are, where there are
--     stuck_line       the last terminal, and the state in which it has no transition
--     trace_lines      the lines of these steps of a path, how many more it has, and the end
use Rattle.std.specs.Prelude.{ℕ, zero, suc, ◌-◌, List, [], ◌++◌, length, codes, decimal, slice_index}
use Rattle.std.specs.List.{flat_map}
use Rattle.hs_scheme.specs.Names.{NamesData}
use Rattle.hs_scheme.specs.acceptance.FailingPath.{FailingPathData}
use Rattle.hs_reduce.specs.declared.answers.ReductionStep.{ReductionStep}
use Rattle.hs_reduce.specs.declared.answers.ReductionStep.TheVariants.{Call, Descent}
use Rattle.hs_text.specs.Canonical.{name_at}

abbrev pub call_line : NamesData → List ℕ → ℕ → List ℕ
call_line names lines rule = codes "call " ++ (name_at names.rules rule ++ (codes " (line " ++ (decimal (slice_index lines rule) ++ codes ")\n")))

abbrev pub child_text : NamesData → ℕ → ℕ → List ℕ
child_text names terminal child = name_at names.terminals terminal ++ (codes "/" ++ decimal child)

abbrev pub between_states : NamesData → ℕ → ℕ → List ℕ
between_states names from to = codes " " ++ (name_at names.states from ++ (codes " -> " ++ (name_at names.states to ++ codes "\n")))

abbrev pub reduction_line : NamesData → List ℕ → ReductionStep → List ℕ
reduction_line names lines (Call rule) = call_line names lines rule
reduction_line names lines (Descent terminal child from to) = child_text names terminal child ++ between_states names from to

abbrev pub rest_line : ℕ → List ℕ
rest_line zero = []
rest_line (suc n) = decimal (suc n) ++ codes " more steps\n"

abbrev pub stuck_line : NamesData → FailingPathData → List ℕ
stuck_line names path = name_at names.terminals path.last ++ (codes " " ++ (name_at names.states path.state ++ codes ": no transition\n"))

abbrev pub trace_lines : NamesData → List ℕ → List ReductionStep → FailingPathData → List ℕ
trace_lines names lines steps path = flat_map (reduction_line names lines) steps ++ (rest_line (path.used - length steps) ++ stuck_line names path)
