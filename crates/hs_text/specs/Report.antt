-- The report of a run, as bytes.
--     type_text       the name of a state; or the set, `->` and the result
--     set_text        the types of a set in braces
--     env_text        for each parameter its name, `:` and its set, in brackets
--     entry_line      the number of a point, its rule's name, the environment and the type, on a line
--     minimal_line    how many entries a compact list has, or that more came on the way than are allowed
--     HoldsOfList P   P holds of the compact list, where there is one
--     summary         the verdict with the number of entries and what it rests on, the weight that was removed, and the line on a compact list
--     IsTableText     the lines of a table's entries, ascending
--     HasCompactText  behind some text the word `compact` with the lines of the compact list, where there is one
--     IsReport        the summary, and behind it the table and the compact list where the table is asked for
-- The reports of what was found without a table.
--     void_line            a nonterminal and an environment that is void for it, on a line
--     certificate_summary  of a certificate of acceptance: how many entries it has, and how many void environments
--     IsVoidText           the lines of void environments, ascending
--     IsCertificateReport  the summary, and behind it the entries and the void environments where they are asked for
--     path_summary         of a path to a failure
use Rattle.std.specs.Prelude.{◌≡◌, ℕ, Bool, true, false, List, [], ◌∷◌, ◌++◌, length, codes, decimal, map, Option, Some, None, Contains, ◌↔◌}
use Rattle.std.specs.List.{flat_map, enumerate_from, join_by}
use Rattle.std.specs.Option.{option_map_or}
use Rattle.hs_scheme.specs.Tree.{Tree, Trees, node, none, more}
use Rattle.hs_scheme.specs.flow.Flow.{IsAscending}
use Rattle.hs_scheme.specs.Names.{NamesData}
use Rattle.hs_scheme.specs.flow.Points.{point_at}
use Rattle.hs_scheme.specs.Problem.{ProblemData}
use Rattle.hs_table.specs.Types.{TypeTree}
use Rattle.hs_table.specs.Entries.{Env, EntryData, entry_cmp}
use Rattle.hs_scheme.specs.acceptance.FailingPath.{FailingPathData}
use Rattle.hs_weak.specs.Void.{VoidData, void_cmp}
use Rattle.hs_text.specs.Canonical.{name_at, params_at}
use Rattle.hs_text.specs.declared.minimal.Minimal.{Minimal}
use Rattle.hs_text.specs.declared.minimal.Minimal.TheVariants.{Table, More}
use Rattle.hs_text.specs.declared.verdict.Verdict.{Verdict}
use Rattle.hs_text.specs.declared.verdict.Verdict.TheVariants.{Accepted, Rejected, Long}

-- in braces, with a comma between each two
abbrev pub braced : List (List ℕ) → List ℕ
braced texts = codes "{" ++ (join_by (λ t. t) (codes ",") texts ++ codes "}")

-- a type, by the names of the states; the result of an arrow is its first child
abbrev mutual
  pub type_text : List (List ℕ) → Tree (Option ℕ) → List ℕ
  type_text states (node (Some q) us) = name_at states q
  type_text states (node None us) = arrow_text states us

  pub arrow_text : List (List ℕ) → Trees (Option ℕ) → List ℕ
  arrow_text states none = []
  arrow_text states (more t us) = braced (type_texts states us) ++ (codes " -> " ++ type_text states t)

  pub type_texts : List (List ℕ) → Trees (Option ℕ) → List (List ℕ)
  type_texts states none = []
  type_texts states (more t us) = type_text states t ∷ type_texts states us

abbrev pub set_text : List (List ℕ) → List TypeTree → List ℕ
set_text states set = braced (map (type_text states) set)

-- the parameter of this number, with its set
abbrev pub binding_text : List (List ℕ) → List (List ℕ) → ℕ × List TypeTree → List ℕ
binding_text states params b = name_at params b.0 ++ (codes ":" ++ set_text states b.1)

abbrev pub env_text : List (List ℕ) → List (List ℕ) → Env → List ℕ
env_text states params env = codes "[" ++ (join_by (binding_text states params) (codes "; ") (enumerate_from 0 env) ++ codes "]")

-- the number of a point and the name of its rule
abbrev pub place_text : NamesData → ℕ → ℕ → List ℕ
place_text names rule point = decimal point ++ (codes " " ++ (name_at names.rules rule ++ codes " "))

-- an entry at a point of this rule
abbrev pub entry_text : NamesData → ℕ → EntryData → List ℕ
entry_text names rule e = place_text names rule e.point ++ (env_text names.states (params_at names.params rule) e.env ++ (codes " " ++ type_text names.states e.ty))

abbrev pub entry_line : ProblemData → EntryData → List ℕ
entry_line p e = entry_text p.sorted.names (point_at p.points e.point).rule e ++ codes "\n"

-- a terminal with the number of a child
abbrev pub step_text : NamesData → ℕ × ℕ → List ℕ
step_text names s = name_at names.terminals s.0 ++ (codes "/" ++ (decimal s.1 ++ codes " "))

abbrev pub path_lines : NamesData → FailingPathData → List ℕ
path_lines names path =
    codes "path "
    ++ (flat_map (step_text names) path.steps ++ (name_at names.terminals path.last ++ (codes "\nstate " ++ (name_at names.states path.state ++ codes "\n"))))

abbrev pub number_line : List ℕ → ℕ → List ℕ
number_line before n = before ++ (decimal n ++ codes "\n")

-- a line where there is a number
abbrev pub number_line_if : List ℕ → Option ℕ → List ℕ
number_line_if before n = option_map_or (number_line before) n []

-- the answer and the number of entries
abbrev pub head_lines : List ℕ → ℕ → List ℕ
head_lines answer entries = answer ++ number_line (codes "entries ") entries

abbrev pub verdict_lines : NamesData → Verdict → List ℕ
verdict_lines names (Accepted entries checked) = head_lines (codes "accepted\n") entries ++ number_line (codes "checked ") checked
verdict_lines names (Rejected entries path) = head_lines (codes "rejected\n") entries ++ path_lines names path
verdict_lines names (Long entries steps) = head_lines (codes "rejected\n") entries ++ (codes "path longer than " ++ (decimal steps ++ codes " steps\n"))

abbrev pub minimal_line : Minimal → List ℕ
minimal_line (Table C) = number_line (codes "minimal ") (length C.items)
minimal_line (More budget) = number_line (codes "minimal more than ") budget

abbrev pub minimal_line_if : Option Minimal → List ℕ
minimal_line_if minimal = option_map_or minimal_line minimal []

abbrev pub HoldsOfList : (List EntryData → Type 0) → Option Minimal → Type 0
HoldsOfList P None = Unit {0}
HoldsOfList P (Some (Table C)) = P C.items
HoldsOfList P (Some (More budget)) = Unit {0}

abbrev pub summary : ProblemData → Verdict → Option ℕ → Option Minimal → List ℕ
summary p verdict removed minimal = verdict_lines p.sorted.names verdict ++ (number_line_if (codes "simplified ") removed ++ minimal_line_if minimal)

-- The ascending list with the entries of the table, each on its line. There is just one such list.
pub record IsTableText (p : ProblemData) (table : List EntryData) (text : List ℕ) : Type 0 where
  pub entries : List EntryData
  pub ascending : IsAscending entry_cmp entries
  pub same : (e : EntryData) → Contains entries e ↔ Contains table e
  pub is : text ≡ flat_map (entry_line p) entries

abbrev pub HasCompactText : ProblemData → Option Minimal → List ℕ → List ℕ → Type 0
HasCompactText p None before text = text ≡ before
HasCompactText p (Some (Table C)) before text = (lines : List ℕ) × (IsTableText p C.items lines × (text ≡ before ++ (codes "compact\n" ++ lines)))
HasCompactText p (Some (More budget)) before text = text ≡ before

abbrev pub IsReport : ProblemData → Verdict → Option (List EntryData) → Option ℕ → Option Minimal → List ℕ → Type 0
IsReport p verdict None removed minimal text = text ≡ summary p verdict removed minimal
IsReport p verdict (Some table) removed minimal text = (lines : List ℕ) × (IsTableText p table lines × HasCompactText p minimal (summary p verdict removed minimal ++ lines) text)

-- ---- what was found without a table

abbrev pub void_text : NamesData → VoidData → List ℕ
void_text names v = codes "void " ++ (name_at names.rules v.rule ++ (codes " " ++ env_text names.states (params_at names.params v.rule) v.env))

abbrev pub void_line : ProblemData → VoidData → List ℕ
void_line p v = void_text p.sorted.names v ++ codes "\n"

abbrev pub certificate_summary : ℕ → ℕ → Option ℕ → List ℕ
certificate_summary entries void removed =
    codes "accepted\n" ++ (number_line (codes "compact ") entries ++ (number_line (codes "void ") void ++ number_line_if (codes "simplified ") removed))

abbrev pub path_summary : ProblemData → FailingPathData → Option ℕ → List ℕ
path_summary p path removed = codes "rejected\n" ++ (path_lines p.sorted.names path ++ number_line_if (codes "simplified ") removed)

-- The ascending list with these pairs, each on its line. There is just one such list.
pub record IsVoidText (p : ProblemData) (void : List VoidData) (text : List ℕ) : Type 0 where
  pub pairs : List VoidData
  pub ascending : IsAscending void_cmp pairs
  pub same : (v : VoidData) → Contains pairs v ↔ Contains void v
  pub is : text ≡ flat_map (void_line p) pairs

-- where `listed`, with the entries and the void environments
abbrev pub IsCertificateReport : ProblemData → List EntryData → List VoidData → Bool → Option ℕ → List ℕ → Type 0
IsCertificateReport p table void false removed text = text ≡ certificate_summary (length table) (length void) removed
IsCertificateReport p table void true removed text =
    (lines pairs : List ℕ) × (IsTableText p table lines × (IsVoidText p void pairs × (text ≡ certificate_summary (length table) (length void) removed ++ (lines ++ pairs))))
