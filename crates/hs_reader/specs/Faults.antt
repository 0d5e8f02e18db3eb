-- Which token offends, and why. At one token the grammar is judged first, then the limits in their order.
use Rattle.std.specs.Prelude.{◌≡◌, ◌≢◌, ◌<◌, ◌+◌, ◌⊎◌, ℕ, List, [], ◌∷◌, ◌++◌, length, map, Result, Ok, Err}
use Rattle.std.specs.List.{AllByRecursion}
use Rattle.hs_scheme.specs.Tree.{Tree, node, children}
use Rattle.hs_reader.specs.declared.raw.RawName.{RawName}
use Rattle.hs_reader.specs.declared.fault.ReadFault.{ReadFault}
use Rattle.hs_reader.specs.declared.fault.ReadFault.TheVariants.{Syntax, Limit, OutOfMemory}
use Rattle.hs_reader.specs.declared.fault.Which.{Which}
use Rattle.hs_reader.specs.declared.fault.Which.TheVariants.{Name, Rules, Parameters, Depth, Arguments, Transitions, Children}
use Rattle.hs_reader.specs.Raw.{Rule, Transition, File}
use Rattle.hs_reader.specs.Tokens.{Token, Placed, word, rules_begin, rules_end, automaton_begin, arrow, left, right, Lexes}
use Rattle.hs_reader.specs.Grammar.{IsUpper, IsLower, IsTerm, IsRule, IsTransition, Sequence, IsFile}

abbrev pub kinds : List Placed → List Token
kinds tokens = map (λ (p : Placed). p.token) tokens

-- some file begins with these tokens
pub record BeginsFile (tokens : List Token) : Type 0 where
  pub rest : List Token
  pub file : File
  pub is_file : IsFile (tokens ++ rest) file

-- ---- where the limits are counted

-- these tokens are the marker and the rules
pub record BeforeRule (tokens : List Token) (rules : List Rule) : Type 0 where
  pub rule_tokens : List Token
  pub are : tokens ≡ rules_begin ∷ rule_tokens
  pub each : Sequence IsRule rule_tokens rules

-- and then a rule's name with these parameters
pub record BeforeParameter (tokens : List Token) (rules : List Rule) (name : RawName) (params : List RawName) : Type 0 where
  pub before : List Token
  pub earlier : BeforeRule before rules
  pub upper : IsUpper name
  pub lower : AllByRecursion IsLower params
  pub are : tokens ≡ before ++ (word name ∷ map word params)

-- a term begins behind the arrow of a rule
pub record BehindArrow (tokens : List Token) : Type 0 where
  pub before : List Token
  pub rules : List Rule
  pub name : RawName
  pub params : List RawName
  pub head : BeforeParameter before rules name params
  pub are : tokens ≡ before ++ arrow ∷ []

-- or behind a parenthesis
pub record BehindLeft (tokens : List Token) : Type 0 where
  pub before : List Token
  pub are : tokens ≡ before ++ left ∷ []

-- these tokens end with a term, from where a term begins
pub record BeforeArgument (tokens : List Token) (term : Tree RawName) : Type 0 where
  pub before : List Token
  pub begins : BehindArrow before ⊎ BehindLeft before
  pub term_tokens : List Token
  pub begun : IsTerm term_tokens term
  pub are : tokens ≡ before ++ term_tokens

-- these tokens are the rules, the marker and the transitions
pub record BeforeTransition (tokens : List Token) (rules : List Rule) (transitions : List Transition) : Type 0 where
  pub before : List Token
  pub earlier : BeforeRule before rules
  pub some_rule : rules ≢ []
  pub transition_tokens : List Token
  pub are : tokens ≡ before ++ (rules_end ∷ (automaton_begin ∷ transition_tokens))
  pub each : Sequence IsTransition transition_tokens transitions

-- and then a transition up to these states on its right
pub record BeforeChild (tokens : List Token) (rules : List Rule) (transitions : List Transition) (to : List RawName) : Type 0 where
  pub before : List Token
  pub earlier : BeforeTransition before rules transitions
  pub from : RawName
  pub terminal : RawName
  pub lower : IsLower terminal
  pub are : tokens ≡ before ++ (word from ∷ (word terminal ∷ (arrow ∷ map word to)))

abbrev pub lefts : List Token → ℕ
lefts [] = 0
lefts (left ∷ ts) = 1 + lefts ts
lefts (t ∷ ts) = lefts ts

abbrev pub rights : List Token → ℕ
rights [] = 0
rights (right ∷ ts) = 1 + rights ts
rights (t ∷ ts) = rights ts

abbrev pub arguments : Tree RawName → ℕ
arguments (node head args) = length (children args)

abbrev pub IsWord : Token → Type 0
IsWord (word name) = Unit {0}
IsWord t = ⊥

abbrev pub BeginsAtom : Token → Type 0
BeginsAtom (word name) = Unit {0}
BeginsAtom left = Unit {0}
BeginsAtom t = ⊥

abbrev pub IsLong : Token → Type 0
IsLong (word name) = 200 < length name.text
IsLong t = ⊥

-- a token passes the limit, behind the tokens before it
abbrev pub PassesLimit : Which → List Token → Token → Type 0
PassesLimit Name before t = IsLong t
PassesLimit Rules before t = IsWord t × ((rules : List Rule) × BeforeRule before rules × (length rules ≡ 20000))
PassesLimit Parameters before t =
    IsWord t × ((rules : List Rule) × (name : RawName) × (params : List RawName) × BeforeParameter before rules name params × (length params ≡ 64))
PassesLimit Depth before t = (t ≡ left) × (lefts before ≡ rights before + 200)
PassesLimit Arguments before t = BeginsAtom t × ((term : Tree RawName) × BeforeArgument before term × (arguments term ≡ 64))
PassesLimit Transitions before t =
    IsWord t × ((rules : List Rule) × (transitions : List Transition) × BeforeTransition before rules transitions × (length transitions ≡ 200000))
PassesLimit Children before t =
    IsWord t × ((rules : List Rule) × (transitions : List Transition) × (to : List RawName) × BeforeChild before rules transitions to × (length to ≡ 64))

-- the order in which the limits are judged at one token
abbrev pub order : Which → ℕ
order Name = 0
order Rules = 1
order Parameters = 2
order Depth = 3
order Arguments = 4
order Transitions = 5
order Children = 6

-- no token passes a limit
abbrev pub NoLimit : List Token → Type 0
NoLimit tokens = (before : List Token) (t : Token) (after : List Token) → tokens ≡ before ++ t ∷ after → (which : Which) → PassesLimit which before t → ⊥

-- ---- the answers

-- The bytes are a file within the limits, and this is what it says.
pub record IsFileWithin (bytes : List ℕ) (file : File) : Type 0 where
  pub tokens : List Placed
  pub lexes : Lexes bytes tokens
  pub is_file : IsFile (kinds tokens) file
  pub within : NoLimit (kinds tokens)

-- a token of the bytes before which none offends
pub record ReachesToken (bytes : List ℕ) (before : List Placed) (at : Placed) : Type 0 where
  pub after : List Placed
  pub lexes : Lexes bytes (before ++ at ∷ after)
  pub begins : BeginsFile (kinds before)
  pub within : NoLimit (kinds before)

-- the token offends, and none before it
pub record Offends (bytes : List ℕ) (before : List Placed) (at : Placed) : Type 0 where
  pub first : ReachesToken bytes before at
  pub offends : (BeginsFile (kinds before ++ at.token ∷ []) → ⊥) ⊎ ((which : Which) × PassesLimit which (kinds before) at.token)

-- The first token that offends offends the grammar, and stands on this line.
pub record IsSyntaxFault (bytes : List ℕ) (line : ℕ) : Type 0 where
  pub before : List Placed
  pub at : Placed
  pub first : ReachesToken bytes before at
  pub offends : BeginsFile (kinds before ++ at.token ∷ []) → ⊥
  pub line_is : at.line ≡ line

-- It passes this limit, and neither offends the grammar nor passes an earlier one.
pub record IsLimitFault (bytes : List ℕ) (which : Which) : Type 0 where
  pub before : List Placed
  pub at : Placed
  pub first : ReachesToken bytes before at
  pub in_grammar : BeginsFile (kinds before ++ at.token ∷ [])
  pub passes : PassesLimit which (kinds before) at.token
  pub no_earlier : (other : Which) → order other < order which → PassesLimit other (kinds before) at.token → ⊥

abbrev pub IsFaultOf : List ℕ → ReadFault → Type 0
IsFaultOf bytes (Syntax line) = IsSyntaxFault bytes line
IsFaultOf bytes (Limit which) = IsLimitFault bytes which
IsFaultOf bytes OutOfMemory = Unit {0}

-- the answer to the bytes
abbrev pub IsAnswer : List ℕ → Result File ReadFault → Type 0
IsAnswer bytes (Ok file) = IsFileWithin bytes file
IsAnswer bytes (Err (Syntax line)) = IsSyntaxFault bytes line
IsAnswer bytes (Err (Limit which)) = IsLimitFault bytes which
IsAnswer bytes (Err OutOfMemory) = ⊥
