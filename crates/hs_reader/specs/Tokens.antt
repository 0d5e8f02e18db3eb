-- How the bytes of a file are cut into tokens.
use Rattle.std.specs.Prelude.{◌+◌, if◌then◌else◌, ◌≡◌, ◌≢◌, ℕ, Bool, ◌||◌, ◌&&◌, ◌==◌, nat_le, IsTrue, List, [], ◌∷◌, ◌++◌, codes}
use Rattle.std.specs.List.{list_all, prefix_len}
use Rattle.hs_reader.specs.declared.raw.RawName.{RawName}

-- space, tab, LF and CR
abbrev pub is_blank : ℕ → Bool
is_blank b = b == 32 || b == 9 || b == 10 || b == 13

abbrev pub is_upper_letter : ℕ → Bool
is_upper_letter b = nat_le 65 b && nat_le b 90

-- an ASCII letter, a digit, or one of the bytes `_`, `'`, `$` and `#`
abbrev pub is_name_byte : ℕ → Bool
is_name_byte b =
    is_upper_letter b || (nat_le 97 b && nat_le b 122) || (nat_le 48 b && nat_le b 57)
    || b == 95 || b == 39 || b == 36 || b == 35

-- A token. The end stands behind the last byte, and bad where nothing else begins.
pub data Token : Type 0 where
  word : RawName → Token
  rules_begin : Token
  rules_end : Token
  automaton_begin : Token
  automaton_end : Token
  arrow : Token
  dot : Token
  left : Token
  right : Token
  end_of_file : Token
  bad : Token

-- a token and the line of its first byte
pub record Placed : Type 0 where
  pub token : Token
  pub line : ℕ

-- What the bytes are cut into: blanks, comments (here without the signs around them) and tokens.
pub data Piece : Type 0 where
  blank : ℕ → Piece
  comment : List ℕ → Piece
  token : Token → Piece

abbrev pub token_bytes : Token → List ℕ
token_bytes (word name) = name.text
token_bytes rules_begin = codes "%BEGING"
token_bytes rules_end = codes "%ENDG"
token_bytes automaton_begin = codes "%BEGINA"
token_bytes automaton_end = codes "%ENDA"
token_bytes arrow = codes "->"
token_bytes dot = codes "."
token_bytes left = codes "("
token_bytes right = codes ")"
token_bytes end_of_file = []
token_bytes bad = []

abbrev pub piece_bytes : Piece → List ℕ
piece_bytes (blank b) = b ∷ []
piece_bytes (comment text) = codes "/*" ++ text ++ codes "*/"
piece_bytes (token t) = token_bytes t

-- how many LF bytes there are
abbrev pub line_ends : List ℕ → ℕ
line_ends [] = 0
line_ends (b ∷ bytes) = (if b == 10 then 1 else 0) + line_ends bytes

-- no name byte stands at the front
abbrev pub EndsRun : List ℕ → Type 0
EndsRun rest = prefix_len is_name_byte rest ≡ 0

-- one or more name bytes
abbrev pub IsName : RawName → Type 0
IsName name = (name.text ≢ []) × IsTrue (list_all is_name_byte name.text)

-- A name or a marker takes the whole run of name bytes. A name knows its line.
abbrev pub IsWholeToken : Token → ℕ → List ℕ → Type 0
IsWholeToken (word name) line rest = IsName name × EndsRun rest × (name.line ≡ line)
IsWholeToken rules_begin line rest = EndsRun rest
IsWholeToken rules_end line rest = EndsRun rest
IsWholeToken automaton_begin line rest = EndsRun rest
IsWholeToken automaton_end line rest = EndsRun rest
IsWholeToken arrow line rest = Unit {0}
IsWholeToken dot line rest = Unit {0}
IsWholeToken left line rest = Unit {0}
IsWholeToken right line rest = Unit {0}
IsWholeToken end_of_file line rest = ⊥
IsWholeToken bad line rest = ⊥

-- A comment ends at the first `*/` behind its `/*`.
abbrev pub IsWhole : Piece → ℕ → List ℕ → Type 0
IsWhole (blank b) line rest = IsTrue (is_blank b)
IsWhole (comment text) line rest = (before after : List ℕ) → text ≡ before ++ (codes "*/" ++ after) → ⊥
IsWhole (token t) line rest = IsWholeToken t line rest

-- the piece stands at the front of the bytes of a line on, and the rest behind it
pub record BeginsWith (line : ℕ) (bytes : List ℕ) (piece : Piece) (rest : List ℕ) : Type 0 where
  pub spelled : bytes ≡ piece_bytes piece ++ rest
  pub whole : IsWhole piece line rest

-- the last token, and where it stands
abbrev pub IsLast : Token → ℕ → List ℕ → Type 0
IsLast end_of_file line bytes = bytes ≡ []
IsLast bad line bytes = (bytes ≢ []) × ((piece : Piece) (rest : List ℕ) → BeginsWith line bytes piece rest → ⊥)
IsLast t line bytes = ⊥

-- The bytes are these pieces, one after another, and then the last token. A piece is as many lines
-- further on as LF bytes stand before it.
abbrev pub IsCut : ℕ → List ℕ → List Piece → Token → Type 0
IsCut line bytes [] last = IsLast last line bytes
IsCut line bytes (piece ∷ pieces) last =
    (rest : List ℕ) × BeginsWith line bytes piece rest × IsCut (line + line_ends (piece_bytes piece)) rest pieces last

abbrev pub placed : ℕ → List Piece → Token → List Placed
placed line [] last = record { token = last; line = line } ∷ []
placed line (blank b ∷ pieces) last = placed (line + line_ends (b ∷ [])) pieces last
placed line (comment text ∷ pieces) last = placed (line + line_ends (codes "/*" ++ text ++ codes "*/")) pieces last
placed line (token t ∷ pieces) last = record { token = t; line = line } ∷ placed (line + line_ends (token_bytes t)) pieces last

-- The cutting of the bytes: blanks and comments separate tokens, and nothing is cut after bad.
pub record Lexes (bytes : List ℕ) (tokens : List Placed) : Type 0 where
  pub pieces : List Piece
  pub last : Token
  pub cut : IsCut 1 bytes pieces last
  pub are : tokens ≡ placed 1 pieces last
