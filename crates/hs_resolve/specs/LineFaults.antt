-- The faults of the names of a file, each on its line.
--     Somewhere              it holds of an item of a list and its place
--     Repeats                an earlier name of the list is the same
--     DuplicateRule          an earlier rule has the same left name
--     DuplicateParam         an earlier parameter of the rule has the same name
--     Undefined              no rule has the upper name in a body on its left
--     StartHasParams         the first rule has a parameter
--     DuplicateTransition    an earlier transition has the same state and terminal
--     RankClash              the first transition of the same terminal has another length
use Rattle.std.specs.Prelude.{◌≡◌, ◌≢◌, ℕ, ◌<◌, Bool, false, ◌&&◌, IsTrue, List, length, take, slice_get, Some, ◌⊎◌}
use Rattle.std.specs.List.{list_any}
use Rattle.std.specs.Str.{bytes_eq}
use Rattle.hs_reader.specs.declared.raw.RawName.{RawName}
use Rattle.hs_reader.specs.Raw.{Rule, Transition, File}
use Rattle.hs_reader.specs.Limits.{term_names}
use Rattle.hs_reader.specs.Grammar.{begins_upper}
use Rattle.hs_resolve.specs.Names.{texts, is_among}
use Rattle.hs_resolve.specs.Numbering.{left, left_names, first_of}

pub record Somewhere {A : Type 0} (P : ℕ → A → Type 0) (items : List A) : Type 0 where
  pub place : ℕ
  pub item : A
  pub at : slice_get items place ≡ Some item
  pub holds : P place item

-- a name on this line, at place i, that is among the names before it
abbrev pub RepeatsAt : List RawName → ℕ → RawName → ℕ → Type 0
RepeatsAt names i n line = (n.line ≡ line) × IsTrue (is_among (take i (texts names)) n.text)

abbrev pub Repeats : List RawName → ℕ → Type 0
Repeats names line = Somewhere (λ i n. RepeatsAt names i n line) names

abbrev pub DuplicateRule : File → ℕ → Type 0
DuplicateRule raw line = Repeats (left raw) line

abbrev pub DuplicateParam : File → ℕ → Type 0
DuplicateParam raw line = Somewhere (λ _ r. Repeats r.params line) raw.rules

-- an upper name on this line that isn't one of these
abbrev pub IsUndefined : List (List ℕ) → RawName → ℕ → Type 0
IsUndefined names n line = (n.line ≡ line) × IsTrue (begins_upper n.text) × (is_among names n.text ≡ false)

abbrev pub Undefined : File → ℕ → Type 0
Undefined raw line = Somewhere (λ _ r. Somewhere (λ _ n. IsUndefined (left_names raw) n line) (term_names r.body)) raw.rules

abbrev pub StartHasParams : File → ℕ → Type 0
StartHasParams raw line = (r : Rule) × (slice_get raw.rules 0 ≡ Some r) × (r.name.line ≡ line) × (0 < length r.params)

-- the same state and the same terminal
abbrev pub same_left : Transition → Transition → Bool
same_left t u = bytes_eq t.from.text u.from.text && bytes_eq t.terminal.text u.terminal.text

-- a transition on this line, at place i, whose state and terminal one before it has
abbrev pub RepeatsLeft : List Transition → ℕ → Transition → ℕ → Type 0
RepeatsLeft ts i t line = (t.from.line ≡ line) × IsTrue (list_any (same_left t) (take i ts))

abbrev pub DuplicateTransition : File → ℕ → Type 0
DuplicateTransition raw line = Somewhere (λ i t. RepeatsLeft raw.transitions i t line) raw.transitions

-- a transition on this line that isn't as long as the first of its terminal
abbrev pub Clashes : List Transition → Transition → ℕ → Type 0
Clashes ts t line = (t.from.line ≡ line) × (first : Transition) × (first_of ts t.terminal.text ≡ Some first) × (length first.to ≢ length t.to)

abbrev pub RankClash : File → ℕ → Type 0
RankClash raw line = Somewhere (λ _ t. Clashes raw.transitions t line) raw.transitions

-- one of the six
abbrev pub LineFault : File → ℕ → Type 0
LineFault raw line =
    DuplicateRule raw line ⊎ (DuplicateParam raw line ⊎ (Undefined raw line ⊎ (StartHasParams raw line ⊎ (DuplicateTransition raw line ⊎ RankClash raw line))))
