-- The grammar of a file, by cases on its tokens.
use Rattle.std.specs.Prelude.{◌≡◌, ◌≢◌, ℕ, IsTrue, Bool, false, List, [], ◌∷◌, ◌++◌, map}
use Rattle.std.specs.List.{AllByRecursion}
use Rattle.hs_scheme.specs.Tree.{Tree, Trees, node, none, more}
use Rattle.hs_reader.specs.declared.raw.RawName.{RawName}
use Rattle.hs_reader.specs.Raw.{Rule, Transition, File}
use Rattle.hs_reader.specs.Tokens.{is_upper_letter, Token, word, rules_begin, rules_end, automaton_begin, automaton_end, arrow, dot, left, right, end_of_file}

-- An upper name begins with one of the letters A to Z. Every other name is lower.
abbrev pub begins_upper : List ℕ → Bool
begins_upper [] = false
begins_upper (b ∷ bs) = is_upper_letter b

abbrev pub IsUpper : RawName → Type 0
IsUpper name = IsTrue (begins_upper name.text)

abbrev pub IsLower : RawName → Type 0
IsLower name = begins_upper name.text ≡ false

abbrev pub with_last : {A : Type 0} → Trees A → Tree A → Trees A
with_last none x = more x none
with_last (more t ts) x = more t (with_last ts x)

-- the term with one more argument at its end
abbrev pub applied_to : {A : Type 0} → Tree A → Tree A → Tree A
applied_to (node head args) x = node head (with_last args x)

-- An atom is a name, or a term in parentheses. A term is an atom, or a term applied to an atom.
mutual
  pub data IsAtom : List Token → Tree RawName → Type 0 where
    name : (n : RawName) → IsAtom (word n ∷ []) (node n none)
    enclosed : (ts : List Token) (t : Tree RawName) → IsTerm ts t → IsAtom (left ∷ (ts ++ right ∷ [])) t

  pub data IsTerm : List Token → Tree RawName → Type 0 where
    first : (ts : List Token) (t : Tree RawName) → IsAtom ts t → IsTerm ts t
    then : (ts us : List Token) (t u : Tree RawName) → IsTerm ts t → IsAtom us u → IsTerm (ts ++ us) (applied_to t u)

-- rule = upper lower* -> term .
pub record IsRule (tokens : List Token) (rule : Rule) : Type 0 where
  pub name : IsUpper rule.name
  pub params : AllByRecursion IsLower rule.params
  pub body_tokens : List Token
  pub body : IsTerm body_tokens rule.body
  pub are : tokens ≡ (word rule.name ∷ map word rule.params) ++ arrow ∷ (body_tokens ++ dot ∷ [])

-- transition = name lower -> name* .
pub record IsTransition (tokens : List Token) (transition : Transition) : Type 0 where
  pub terminal : IsLower transition.terminal
  pub are : tokens ≡ word transition.from ∷ (word transition.terminal ∷ (arrow ∷ (map word transition.to ++ dot ∷ [])))

-- one after another
abbrev pub Sequence : {A : Type 0} → (List Token → A → Type 0) → List Token → List A → Type 0
Sequence Is tokens [] = tokens ≡ []
Sequence {A} Is tokens (x ∷ xs) = (front : List Token) × (rest : List Token) × (tokens ≡ front ++ rest) × Is front x × Sequence Is rest xs

-- file = %BEGING rule+ %ENDG %BEGINA transition+ %ENDA End
pub record IsFile (tokens : List Token) (file : File) : Type 0 where
  pub has_rule : file.rules ≢ []
  pub has_transition : file.transitions ≢ []
  pub rule_tokens : List Token
  pub rules : Sequence IsRule rule_tokens file.rules
  pub transition_tokens : List Token
  pub transitions : Sequence IsTransition transition_tokens file.transitions
  pub are : tokens ≡ rules_begin ∷ (rule_tokens ++ rules_end ∷ (automaton_begin ∷ (transition_tokens ++ automaton_end ∷ (end_of_file ∷ []))))
