-- Cutting from left to right: what the functions on bytes compute.
use Rattle.std.specs.Prelude.{ℕ, zero, suc, ◌+◌, Bool, ◌&&◌, ◌==◌, false, if◌then◌else◌, List, [], ◌∷◌, length, take, drop, codes, Option, Some, None}
use Rattle.std.specs.Str.{bytes_eq}
use Rattle.std.specs.List.{prefix_len}
use Rattle.hs_reader.specs.declared.token.Token.{Token as Read}
use Rattle.hs_reader.specs.declared.token.Token.TheVariants as read
use Rattle.hs_reader.specs.Tokens.{is_blank, is_name_byte, Token, Placed, word, rules_begin, rules_end, automaton_begin, automaton_end, arrow, dot, left, right, end_of_file, bad}

-- a token of the program on its line, without where its name lies in memory
abbrev pub view : ℕ → Read → Token
view line (read.Name bytes) = word (record { text = bytes.now; line = line })
view line read.RulesBegin = rules_begin
view line read.RulesEnd = rules_end
view line read.AutomatonBegin = automaton_begin
view line read.AutomatonEnd = automaton_end
view line read.Arrow = arrow
view line read.Dot = dot
view line read.Left = left
view line read.Right = right
view line read.End = end_of_file
view line read.Bad = bad

-- the marker with this run behind its `%`
abbrev pub marker : List ℕ → Token
marker run =
    if bytes_eq run (codes "BEGING") then rules_begin else
    (if bytes_eq run (codes "ENDG") then rules_end else
    (if bytes_eq run (codes "BEGINA") then automaton_begin else
    (if bytes_eq run (codes "ENDA") then automaton_end else bad)))

-- A token at the front, and the bytes behind it. Behind the end and behind bad nothing is read.
abbrev pub arrow_front : List ℕ → Token × List ℕ
arrow_front [] = (bad, [])
arrow_front (b ∷ bytes) = if b == 62 then (arrow, bytes) else (bad, b ∷ bytes)

abbrev pub sign_front : ℕ → List ℕ → Token × List ℕ
sign_front b bytes =
    if b == 46 then (dot, bytes) else
    (if b == 40 then (left, bytes) else
    (if b == 41 then (right, bytes) else
    (if b == 45 then arrow_front bytes else (bad, bytes))))

abbrev pub run_front : (List ℕ → Token) → List ℕ → Token × List ℕ
run_front token_of bytes = (token_of (take (prefix_len is_name_byte bytes) bytes), drop (prefix_len is_name_byte bytes) bytes)

abbrev pub as_word : ℕ → List ℕ → Token
as_word line run = word (record { text = run; line = line })

unfoldable pub front : ℕ → List ℕ → Token × List ℕ
front line [] = (end_of_file, [])
front line (b ∷ bytes) =
    if is_name_byte b then run_front (as_word line) (b ∷ bytes) else
    (if b == 37 then run_front marker bytes else sign_front b bytes)

-- the line behind a byte
abbrev pub line_behind : ℕ → ℕ → ℕ
line_behind line b = if b == 10 then line + 1 else line

abbrev pub starts_with : ℕ → List ℕ → Bool
starts_with b [] = false
starts_with b (c ∷ bytes) = c == b

-- behind the first `*/`: the line, and the bytes
unfoldable pub comment_rest : ℕ → List ℕ → Option (ℕ × List ℕ)
comment_rest line [] = None
comment_rest line (b ∷ bytes) =
    if b == 42 && starts_with 47 bytes then Some (line, drop 1 bytes) else comment_rest (line_behind line b) bytes

abbrev pub slash_rest : ℕ → List ℕ → Option (ℕ × List ℕ)
slash_rest line [] = None
slash_rest line (b ∷ bytes) = if b == 42 then comment_rest line bytes else None

-- behind the blank or the comment at the front, where there is one
abbrev pub gap_rest : ℕ → List ℕ → Option (ℕ × List ℕ)
gap_rest line [] = None
gap_rest line (b ∷ bytes) =
    if is_blank b then Some (line_behind line b, bytes) else (if b == 47 then slash_rest line bytes else None)

abbrev pub place : ℕ → Token → Placed
place line t = record { token = t; line = line }

-- The tokens from a token on, where f gives those of the bytes behind it.
abbrev pub from_token : (ℕ → List ℕ → List Placed) → ℕ → Token × List ℕ → List Placed
from_token f line (end_of_file, rest) = place line end_of_file ∷ []
from_token f line (bad, rest) = place line bad ∷ []
from_token f line (t, rest) = place line t ∷ f line rest

abbrev pub from_gap : (ℕ → List ℕ → List Placed) → ℕ → List ℕ → Option (ℕ × List ℕ) → List Placed
from_gap f line bytes None = from_token f line (front line bytes)
from_gap f line bytes (Some x) = f x.0 x.1

-- the tokens of the bytes from a line on, where n bounds their number
unfoldable pub tokens_within : ℕ → ℕ → List ℕ → List Placed
tokens_within zero line bytes = place line bad ∷ []
tokens_within (suc n) line bytes = from_gap (tokens_within n) line bytes (gap_rest line bytes)

unfoldable pub tokens : ℕ → List ℕ → List Placed
tokens line bytes = tokens_within (length bytes + 1) line bytes
