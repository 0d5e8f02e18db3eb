-- Reading the tokens of a file from left to right.
use Rattle.std.specs.Prelude.{option_and_then, ◌≡◌, ◌<◌, ℕ, Bool, true, false, not, ◌==◌, nat_lt, List, [], ◌∷◌, ◌++◌, length, Option, Some, None, Result, Ok, Err}
use Rattle.hs_scheme.specs.Tree.{Tree, node, none}
use Rattle.hs_reader.specs.declared.raw.RawName.{RawName}
use Rattle.hs_reader.specs.declared.fault.ReadFault.{ReadFault}
use Rattle.hs_reader.specs.declared.fault.ReadFault.TheVariants.{Syntax, Limit, OutOfMemory}
use Rattle.hs_reader.specs.declared.fault.Which.{Which}
use Rattle.hs_reader.specs.declared.fault.Which.TheVariants.{Name, Rules, Parameters, Depth, Arguments, Transitions, Children}
use Rattle.hs_reader.specs.Raw.{Rule, Transition, File}
use Rattle.hs_reader.specs.Tokens.{Token, Placed, word, rules_begin, rules_end, automaton_begin, automaton_end, arrow, dot, left, right, end_of_file}
use Rattle.hs_reader.specs.Grammar.{begins_upper, applied_to}
use Rattle.hs_reader.specs.Faults.{arguments}
use Rattle.hs_reader.specs.Reading.{place, as_word, tokens}

-- What was read so far. In a body stand the terms begun before each open parenthesis, the innermost
-- first, and the term begun behind it.
pub data Stage : Type 0 where
  start : Stage
  in_rules : List Rule → Stage
  in_head : List Rule → RawName → List RawName → Stage
  in_body : List Rule → RawName → List RawName → List (Option (Tree RawName)) → Option (Tree RawName) → Stage
  between : List Rule → Stage
  in_transitions : List Rule → List Transition → Stage
  in_transition : List Rule → List Transition → RawName → Stage
  before_arrow : List Rule → List Transition → RawName → RawName → Stage
  in_children : List Rule → List Transition → RawName → RawName → List RawName → Stage
  closed : List Rule → List Transition → Stage
  finished : File → Stage

abbrev pub leaf : RawName → Tree RawName
leaf n = node n none

abbrev pub when : Bool → Stage → Option Stage
when true s = Some s
when false s = None

abbrev pub any : {A : Type 0} → List A → Bool
any [] = false
any (x ∷ xs) = true

-- the term begun, with one term more
abbrev pub added : Option (Tree RawName) → Tree RawName → Tree RawName
added None u = u
added (Some t) u = applied_to t u

abbrev pub from_start : Token → Option Stage
from_start rules_begin = Some (in_rules [])
from_start t = None

abbrev pub from_rules : List Rule → Token → Option Stage
from_rules rs (word n) = when (begins_upper n.text) (in_head rs n [])
from_rules rs rules_end = when (any rs) (between rs)
from_rules rs t = None

abbrev pub from_head : List Rule → RawName → List RawName → Token → Option Stage
from_head rs n ps (word p) = when (not (begins_upper p.text)) (in_head rs n (ps ++ p ∷ []))
from_head rs n ps arrow = Some (in_body rs n ps [] None)
from_head rs n ps t = None

abbrev pub closes : List Rule → RawName → List RawName → List (Option (Tree RawName)) → Option (Tree RawName) → Option Stage
closes rs n ps outer None = None
closes rs n ps [] (Some t) = None
closes rs n ps (below ∷ outer) (Some t) = Some (in_body rs n ps outer (Some (added below t)))

abbrev pub ends : List Rule → RawName → List RawName → List (Option (Tree RawName)) → Option (Tree RawName) → Option Stage
ends rs n ps outer None = None
ends rs n ps [] (Some t) = Some (in_rules (rs ++ record { name = n; params = ps; body = t } ∷ []))
ends rs n ps (below ∷ outer) (Some t) = None

abbrev pub from_body : List Rule → RawName → List RawName → List (Option (Tree RawName)) → Option (Tree RawName) → Token → Option Stage
from_body rs n ps outer top (word m) = Some (in_body rs n ps outer (Some (added top (leaf m))))
from_body rs n ps outer top left = Some (in_body rs n ps (top ∷ outer) None)
from_body rs n ps outer top right = closes rs n ps outer top
from_body rs n ps outer top dot = ends rs n ps outer top
from_body rs n ps outer top t = None

abbrev pub from_between : List Rule → Token → Option Stage
from_between rs automaton_begin = Some (in_transitions rs [])
from_between rs t = None

abbrev pub from_transitions : List Rule → List Transition → Token → Option Stage
from_transitions rs us (word q) = Some (in_transition rs us q)
from_transitions rs us automaton_end = when (any us) (closed rs us)
from_transitions rs us t = None

abbrev pub from_transition : List Rule → List Transition → RawName → Token → Option Stage
from_transition rs us q (word a) = when (not (begins_upper a.text)) (before_arrow rs us q a)
from_transition rs us q t = None

abbrev pub from_arrow : List Rule → List Transition → RawName → RawName → Token → Option Stage
from_arrow rs us q a arrow = Some (in_children rs us q a [])
from_arrow rs us q a t = None

abbrev pub from_children : List Rule → List Transition → RawName → RawName → List RawName → Token → Option Stage
from_children rs us q a to (word m) = Some (in_children rs us q a (to ++ m ∷ []))
from_children rs us q a to dot = Some (in_transitions rs (us ++ record { from = q; terminal = a; to = to } ∷ []))
from_children rs us q a to t = None

abbrev pub from_closed : List Rule → List Transition → Token → Option Stage
from_closed rs us end_of_file = Some (finished (record { rules = rs; transitions = us }))
from_closed rs us t = None

-- one token more, by the grammar
abbrev pub step : Stage → Token → Option Stage
step start t = from_start t
step (in_rules rs) t = from_rules rs t
step (in_head rs n ps) t = from_head rs n ps t
step (in_body rs n ps outer top) t = from_body rs n ps outer top t
step (between rs) t = from_between rs t
step (in_transitions rs us) t = from_transitions rs us t
step (in_transition rs us q) t = from_transition rs us q t
step (before_arrow rs us q a) t = from_arrow rs us q a t
step (in_children rs us q a to) t = from_children rs us q a to t
step (closed rs us) t = from_closed rs us t
step (finished f) t = None

-- the stage behind tokens
unfoldable pub steps : Stage → List Token → Option Stage
steps s [] = Some s
steps s (t ∷ ts) = option_and_then (λ next. steps next ts) (step s t)

-- ---- limits

abbrev pub which_if : Bool → Which → Option Which
which_if true w = Some w
which_if false w = None

abbrev pub first_of : Option Which → Option Which → Option Which
first_of None w = w
first_of (Some v) w = Some v

abbrev pub is_full : Option (Tree RawName) → Bool
is_full None = false
is_full (Some t) = arguments t == 64

abbrev pub is_long : List ℕ → Bool
is_long text = nat_lt 200 (length text)

abbrev pub at_word : Stage → Option Which
at_word (in_rules rs) = which_if (length rs == 20000) Rules
at_word (in_head rs n ps) = which_if (length ps == 64) Parameters
at_word (in_body rs n ps outer top) = which_if (is_full top) Arguments
at_word (in_transitions rs us) = which_if (length us == 200000) Transitions
at_word (in_children rs us q a to) = which_if (length to == 64) Children
at_word s = None

abbrev pub at_left : Stage → Option Which
at_left (in_body rs n ps outer top) = first_of (which_if (length outer == 200) Depth) (which_if (is_full top) Arguments)
at_left s = None

-- the limit that a token passes at a stage
abbrev pub passed : Stage → Token → Option Which
passed s (word n) = first_of (which_if (is_long n.text) Name) (at_word s)
passed s left = at_left s
passed s t = None

-- ---- all tokens

abbrev pub judged : ℕ → Option Stage → Option Which → Result Stage ReadFault
judged line None w = Err (Syntax line)
judged line (Some next) (Some w) = Err (Limit w)
judged line (Some next) None = Ok next

abbrev pub accept : Stage → Placed → Result Stage ReadFault
accept s p = judged p.line (step s p.token) (passed s p.token)

abbrev pub file_at : Stage → Result File ReadFault
file_at (finished f) = Ok f
file_at s = Err (Syntax 0)

infixl 10 ◌>>=◌
abbrev pub ◌>>=◌ : {A B : Type 0} → Result A ReadFault → (A → Result B ReadFault) → Result B ReadFault
(Ok x) >>= f = f x
(Err e) >>= f = Err e

unfoldable pub run : Stage → List Placed → Result File ReadFault
run s [] = file_at s
run s (p ∷ ps) = accept s p >>= λ next. run next ps

-- ---- what the functions of the program say

-- what reading the bytes from a stage and a line on gives
abbrev pub read : Stage → ℕ → List ℕ → Result File ReadFault
read s line bytes = run s (tokens line bytes)

-- the token of a name
abbrev pub named : ℕ → List ℕ → Placed
named line bytes = place line (as_word line bytes)

-- What a function returned, against what reading gives: it goes on behind a value, and ends at a fault.
abbrev pub FailsWith : ReadFault → Result File ReadFault → Type 0
FailsWith OutOfMemory read = Unit {0}
FailsWith e read = read ≡ Err e

abbrev pub Goes : {X : Type 0} → (X → Result File ReadFault) → Result X ReadFault → Result File ReadFault → Type 0
Goes next (Ok x) read = read ≡ next x
Goes next (Err e) read = FailsWith e read

-- a name that is not too long is made of the bytes
abbrev pub IsNameFault : ReadFault → List ℕ → Type 0
IsNameFault (Syntax line) bytes = ⊥
IsNameFault (Limit w) bytes = (w ≡ Name) × (is_long bytes ≡ true)
IsNameFault OutOfMemory bytes = Unit {0}

abbrev pub GivesName : ℕ → List ℕ → Result RawName ReadFault → Type 0
GivesName line bytes (Ok n) = (n ≡ record { text = bytes; line = line }) × (is_long bytes ≡ false)
GivesName line bytes (Err e) = IsNameFault e bytes

-- the same for a name that is to be upper, or lower
abbrev pub IsCasedFault : ReadFault → Bool → ℕ → List ℕ → Type 0
IsCasedFault (Syntax at) upper line bytes = (at ≡ line) × (begins_upper bytes ≡ not upper)
IsCasedFault (Limit w) upper line bytes = (begins_upper bytes ≡ upper) × (w ≡ Name) × (is_long bytes ≡ true)
IsCasedFault OutOfMemory upper line bytes = Unit {0}

abbrev pub GivesCased : Bool → ℕ → List ℕ → Result RawName ReadFault → Type 0
GivesCased upper line bytes (Ok n) = (n ≡ record { text = bytes; line = line }) × (is_long bytes ≡ false) × (begins_upper bytes ≡ upper)
GivesCased upper line bytes (Err e) = IsCasedFault e upper line bytes

-- the term, unless memory was refused
abbrev pub IsMemory : ReadFault → Type 0
IsMemory (Syntax line) = ⊥
IsMemory (Limit w) = ⊥
IsMemory OutOfMemory = Unit {0}

-- the rules and the transitions with one more
abbrev pub with_rule : List Rule → RawName → List RawName → Tree RawName → List Rule
with_rule rs n ps body = rs ++ record { name = n; params = ps; body = body } ∷ []

abbrev pub with_transition : List Transition → RawName → RawName → List RawName → List Transition
with_transition us q a to = us ++ record { from = q; terminal = a; to = to } ∷ []

-- every token but the last takes bytes
abbrev pub Shortens : Token → ℕ → ℕ → Type 0
Shortens end_of_file new old = Unit {0}
Shortens t new old = new < old
