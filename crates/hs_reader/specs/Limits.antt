-- The names and the limits of a file.
use Rattle.std.specs.Prelude.{◌≢◌, ◌≤◌, List, [], ◌∷◌, ◌++◌, length}
use Rattle.std.specs.List.{AllByRecursion, flat_map}
use Rattle.hs_scheme.specs.Tree.{Tree, Trees, node, none, more, children}
use Rattle.hs_reader.specs.declared.raw.RawName.{RawName}
use Rattle.hs_reader.specs.Raw.{Rule, Transition, File}
use Rattle.hs_reader.specs.Tokens.{IsName}
use Rattle.hs_reader.specs.Grammar.{IsUpper, IsLower}

-- the names of a term, of a rule, of a transition and of a file, each occurrence in the order of the file
abbrev mutual
  pub term_names : Tree RawName → List RawName
  term_names (node head args) = head ∷ terms_names args

  pub terms_names : Trees RawName → List RawName
  terms_names none = []
  terms_names (more t ts) = term_names t ++ terms_names ts

abbrev pub rule_names : Rule → List RawName
rule_names rule = rule.name ∷ (rule.params ++ term_names rule.body)

abbrev pub transition_names : Transition → List RawName
transition_names transition = transition.from ∷ (transition.terminal ∷ transition.to)

abbrev pub names : File → List RawName
names file = flat_map rule_names file.rules ++ flat_map transition_names file.transitions

-- no application in the term has more than 64 arguments
abbrev mutual
  pub HasFewArguments : Tree RawName → Type 0
  HasFewArguments (node head args) = (length (children args) ≤ 64) × HaveFewArguments args

  pub HaveFewArguments : Trees RawName → Type 0
  HaveFewArguments none = Unit {0}
  HaveFewArguments (more t ts) = HasFewArguments t × HaveFewArguments ts

-- a name of at most 200 bytes
abbrev pub IsShort : RawName → Type 0
IsShort name = length name.text ≤ 200

pub record IsWithinLimits (file : File) : Type 0 where
  pub names : AllByRecursion IsShort (names file)
  pub rules : length file.rules ≤ 20000
  pub parameters : AllByRecursion (λ r. length r.params ≤ 64) file.rules
  pub arguments : AllByRecursion (λ r. HasFewArguments r.body) file.rules
  pub transitions : length file.transitions ≤ 200000
  pub children : AllByRecursion (λ t. length t.to ≤ 64) file.transitions

-- what holds of every file that was read
pub record IsRaw (file : File) : Type 0 where
  pub has_rule : file.rules ≢ []
  pub has_transition : file.transitions ≢ []
  pub each_name : AllByRecursion IsName (names file)
  pub rule_names_upper : AllByRecursion (λ r. IsUpper r.name) file.rules
  pub parameters_lower : AllByRecursion (λ r. AllByRecursion IsLower r.params) file.rules
  pub terminals_lower : AllByRecursion (λ t. IsLower t.terminal) file.transitions
  pub within : IsWithinLimits file
  pub count : length (names file) ≤ 16777216
