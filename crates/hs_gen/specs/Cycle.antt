-- The file of a cycle of k states, as bytes, line by line.
--     inner_lines         the lines of a state before the last: at `br` it stays, at `a` it goes to
--                         the next, and it may end at `c`
--     last_lines          the lines of the last: at `a` it goes to state 0, and it may not end
--     cycle_file_text     the rules, and the lines of the states 0 to k - 1
use Rattle.std.specs.Prelude.{ℕ, ◌+◌, ◌-◌, List, ◌++◌, codes, decimal}
use Rattle.std.specs.List.{flat_map, range_with_len}

-- the letter s and the number
abbrev pub state_name : ℕ → List ℕ
state_name i = codes "s" ++ decimal i

abbrev pub branch_line : ℕ → List ℕ
branch_line i = state_name i ++ (codes " br -> " ++ (state_name i ++ (codes " " ++ (state_name i ++ codes ".\n"))))

abbrev pub step_line : ℕ → ℕ → List ℕ
step_line i j = state_name i ++ (codes " a -> " ++ (state_name j ++ codes ".\n"))

abbrev pub end_line : ℕ → List ℕ
end_line i = state_name i ++ codes " c -> .\n"

abbrev pub inner_lines : ℕ → List ℕ
inner_lines i = branch_line i ++ (step_line i (i + 1) ++ end_line i)

abbrev pub last_lines : ℕ → List ℕ
last_lines i = branch_line i ++ step_line i 0

abbrev pub rule_lines : List ℕ
rule_lines = codes "%BEGING\n" ++ (codes "S -> F c.\n" ++ (codes "F x -> br x (F (a x)).\n" ++ codes "%ENDG\n"))

-- for k from 1; `range_with_len 0 n` are the numbers from 0 to n - 1
abbrev pub cycle_file_text : ℕ → List ℕ
cycle_file_text k =
    rule_lines ++ (codes "%BEGINA\n" ++ (flat_map inner_lines (range_with_len 0 (k - 1)) ++ (last_lines (k - 1) ++ codes "%ENDA\n")))
