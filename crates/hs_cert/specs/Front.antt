-- What stands at the front of a text, and what behind it; only private contracts cite it.
--     type_then, members_then, sets_then     the text of a type, of the types of a set behind its brace, of the sets of an environment
--                                            behind its bracket, and this rest
--     IsTypeFront, IsMembersFront            such a type or set stands at the front
--     IsSetsFront                            such sets stand there, the first of them that of parameter k
--     IsPlaceFront, IsRuleFront              a point with its rule; the rule of a void environment
--     IsNextItem                             an entry, or a void environment, on a line
--     HasHead, HasBegun                      the first three lines; those, some entries, and void environments behind all of them
use Rattle.std.specs.Prelude.{◌≡◌, ℕ, ◌+◌, ◌<◌, ◌≤◌, ◌^◌, ◌==◌, List, [], ◌∷◌, ◌++◌, length, map, codes, decimal, Option, Some, None, All, if◌then◌else◌}
use Rattle.std.specs.List.{flat_map}
use Rattle.std.specs.declared.cmp.Ordering.{Ordering}
use Rattle.hs_scheme.specs.Tree.{Tree, Trees, node, none, more, forest, height, heights}
use Rattle.hs_scheme.specs.flow.Flow.{IsAscending}
use Rattle.hs_scheme.specs.flow.Points.{point_at}
use Rattle.hs_scheme.specs.Problem.{ProblemData}
use Rattle.hs_reader.specs.Tokens.{EndsRun}
use Rattle.hs_table.specs.Types.{TypeTree, IsSet, IsType, AreTypes}
use Rattle.hs_table.specs.Entries.{Env, EntryData, InShape, entry_cmp}
use Rattle.hs_text.specs.Canonical.{name_at}
use Rattle.hs_weak.specs.Void.{VoidData, void_cmp, IsVoidShape}
use Rattle.hs_numbered.specs.Certificates.{IsAboveLast}
use Rattle.hs_cert.specs.declared.heading.Heading.{Heading}
use Rattle.hs_cert.specs.Certificate.{AreNames, ended, IsInLine, AreNested, IsNested, verdict_line, count_line, number_line, IsWithin, pairs_of, line_text, pair_text}

-- the element is greater than the last of the list, where it has one
-- names with numbers below 2 ^ 32
pub record AreIndexed (names : List (List ℕ)) : Type 0 where
  pub are : AreNames names
  pub few : length names < 2 ^ 32

-- these are the names of the problem's states, one for each, and it has no more points than a problem may have
pub record IsOfProblem (p : ProblemData) (names : List (List ℕ)) : Type 0 where
  pub is : names ≡ p.sorted.names.states
  pub each : length p.sorted.names.states ≡ p.sorted.automaton.states
  pub few : length p.points.points ≤ 500000

-- these are the names of the problem's rules, one for each
pub record AreOfRules (p : ProblemData) (names : List (List ℕ)) : Type 0 where
  pub is : names ≡ p.sorted.names.rules
  pub each : length p.sorted.names.rules ≡ length p.sorted.scheme.rules

abbrev mutual
  pub type_then : List (List ℕ) → Tree (Option ℕ) → List ℕ → List ℕ
  type_then names (node (Some q) us) rest = name_at names q ++ rest
  type_then names (node None us) rest = arrow_then names us rest

  pub arrow_then : List (List ℕ) → Trees (Option ℕ) → List ℕ → List ℕ
  arrow_then names none rest = rest
  arrow_then names (more t us) rest = codes "{" ++ members_then names us (codes " -> " ++ type_then names t rest)

  pub members_then : List (List ℕ) → Trees (Option ℕ) → List ℕ → List ℕ
  members_then names none rest = codes "}" ++ rest
  members_then names (more t us) rest = type_then names t (others_then names us rest)

  -- the types behind the first
  pub others_then : List (List ℕ) → Trees (Option ℕ) → List ℕ → List ℕ
  others_then names none rest = codes "}" ++ rest
  others_then names (more t us) rest = codes "," ++ type_then names t (others_then names us rest)

pub record IsTypeFront (names : List (List ℕ)) (limit : ℕ) (bytes : List ℕ) (t : TypeTree) (rest : List ℕ) : Type 0 where
  pub spelled : bytes ≡ type_then names t rest
  pub ends : EndsRun rest
  pub shape : IsType (length names) t
  pub low : height t < limit

pub record IsMembersFront (names : List (List ℕ)) (limit : ℕ) (bytes : List ℕ) (s : List TypeTree) (rest : List ℕ) : Type 0 where
  pub spelled : bytes ≡ members_then names (forest s) rest
  pub shape : AreTypes (length names) (forest s)
  pub low : heights (forest s) ≤ limit
  pub set : IsSet s

-- what stands before the set of parameter k
abbrev pub label_text : List (List ℕ) → ℕ → List ℕ
label_text params k = (if k == 0 then [] else codes "; ") ++ (name_at params k ++ codes ":{")

-- the sets of the parameters from k on, and the bracket
abbrev pub sets_then : List (List ℕ) → List (List ℕ) → ℕ → Env → List ℕ → List ℕ
sets_then names params k [] rest = codes "]" ++ rest
sets_then names params k (s ∷ env) rest = label_text params k ++ members_then names (forest s) (sets_then names params (k + 1) env rest)

-- a set of types in shape, of which none is as high as that
pub record IsLowSet (n limit : ℕ) (s : List TypeTree) : Type 0 where
  pub shape : AreTypes n (forest s)
  pub low : heights (forest s) ≤ limit
  pub set : IsSet s

pub record IsSetsFront (names params : List (List ℕ)) (count : ℕ) (bytes : List ℕ) (env : Env) (rest : List ℕ) : Type 0 where
  pub spelled : bytes ≡ sets_then names params 0 env rest
  pub long : length env ≡ count
  pub sets : All (IsLowSet (length names) 1000) env

abbrev pub head_lines : Heading → List (List ℕ)
head_lines h = verdict_line ∷ (count_line h.form h.entries ∷ (number_line h.form h.number ∷ []))

abbrev pub text_of : List (List ℕ) → List ℕ
text_of lines = flat_map ended lines

-- these lines stand at the front of the bytes, and behind them the rest
pub record Cut (bytes : List ℕ) (lines : List (List ℕ)) (rest : List ℕ) : Type 0 where
  pub are : bytes ≡ text_of lines ++ rest
  pub clear : All IsInLine lines

pub record HasHead (bytes : List ℕ) (h : Heading) (rest : List ℕ) : Type 0 where
  pub cut : Cut bytes (head_lines h) rest
  pub few : h.entries ≤ 1000000
  pub fits : IsWithin h.form h.number

-- The first lines are right: a head, these entries, and these void environments, which stand behind all entries.
pub record HasBegun (p : ProblemData) (bytes : List ℕ) (h : Heading) (table : List EntryData) (void : List VoidData) (rest : List ℕ) : Type 0 where
  pub cut : Cut bytes ((head_lines h ++ map (line_text p) table) ++ map (pair_text p) void) rest
  pub few : h.entries ≤ 1000000
  pub fits : IsWithin h.form h.number
  pub within : length table ≤ h.entries
  pub pairs : length void ≤ pairs_of h.form h.number
  pub behind : 0 < length void → length table ≡ h.entries
  pub shape : All (InShape p) table
  pub nested : All IsNested table
  pub ascending : IsAscending entry_cmp table
  pub void_shape : All (IsVoidShape p) void
  pub void_nested : All (λ v. AreNested v.env) void
  pub void_ascending : IsAscending void_cmp void

-- the number of a point of the problem with the name of its rule, and the bracket
pub record IsPlaceFront (p : ProblemData) (bytes : List ℕ) (point : ℕ) (rest : List ℕ) : Type 0 where
  pub spelled : bytes ≡ decimal point ++ (codes " " ++ (name_at p.sorted.names.rules (point_at p.points point).rule ++ (codes " [" ++ rest)))
  pub within : point < length p.points.points

-- the name of a rule, with the word before it and the bracket
pub record IsRuleFront (names : List (List ℕ)) (bytes : List ℕ) (rule : ℕ) (rest : List ℕ) : Type 0 where
  pub spelled : bytes ≡ codes "void " ++ (name_at names rule ++ (codes " [" ++ rest))
  pub within : rule < length names

-- the item stands on the line at the front, and is greater than the last of these
pub record IsNextItem {X : Type 0} (Is : List ℕ → X → Type 0) (cmp : X → X → Ordering) (before : List X) (bytes : List ℕ) (x : X) (rest : List ℕ) : Type 0 where
  pub text : List ℕ
  pub spelled : bytes ≡ ended text ++ rest
  pub inside : IsInLine text
  pub item : Is text x
  pub above : IsAboveLast cmp before x
