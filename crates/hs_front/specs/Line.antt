-- A line on standard error, as bytes.
--     ended                               a text as a line
--     line_with_name, line_with_number    two texts with a name or a number between them, as a line
--     on_line                             a fault on a line of the file
use Rattle.std.specs.Prelude.{ℕ, List, ◌++◌, codes, decimal}
use Rattle.hs_front.specs.declared.lines.Line.{Line}
use Rattle.hs_front.specs.declared.lines.Line.TheVariants.{Fixed, Made}

abbrev pub ended : List ℕ → List ℕ
ended text = text ++ codes "\n"

abbrev pub line_with_name : List ℕ → List ℕ → List ℕ → List ℕ
line_with_name before name behind = before ++ (name ++ ended behind)

abbrev pub line_with_number : List ℕ → ℕ → List ℕ → List ℕ
line_with_number before number behind = line_with_name before (decimal number) behind

abbrev pub on_line : ℕ → List ℕ → List ℕ
on_line line fault = line_with_number (codes "line ") line fault

abbrev pub bytes_of : Line → List ℕ
bytes_of (Fixed bytes) = bytes.now
bytes_of (Made bytes) = bytes.items
