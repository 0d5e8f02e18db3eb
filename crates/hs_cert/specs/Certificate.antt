-- Evidence of acceptance in a file: the verdict, two numbers by the form of the evidence, and the entries, each on a line. In the full form
-- the numbers are those of the entries and, as the file says, of their instances; in the compact form those of the entries and of the void environments, which
-- stand behind the entries, each on a line.
--     AreNames               names of a file, of which no two are equal
--     nesting, IsNested      how deep a type is nested; an entry whose types are nested at most 1,000 deep
--     line_text, pair_text   what stands on the line of an entry, and of a void environment
--     IsLine bytes k t       of the lines that the bytes are cut into at each LF, number k, from 0, is this text
--     IsThere bytes k        something stands behind k lines, with an LF at its end or without one
--     Says bytes h           lines 1 and 2, from 0, say so
--     IsRight p bytes k      line k, from 0, keeps the rules
--     IsFirstFaulty          the line of this number, from 1, is faulty, and none before it
--     IsTableFault           so a table is refused for it
--     IsCertificate, IsCompactCertificate    no line is faulty, and this is what they say, in the full and in the compact form
--     HasOwnNames            each state and each rule has a name of its own; what this and the types of a problem keep
--     HasNamesInLines        no name ends a line
use Rattle.std.specs.Prelude.{◌≡◌, ◌≢◌, ℕ, zero, suc, ◌+◌, ◌<◌, ◌≤◌, ◌^◌, not, ◌==◌, IsTrue, List, [], ◌∷◌, ◌++◌, length, map, codes, decimal, All, AllPairs}
use Rattle.std.specs.List.{list_all, flat_map}
use Rattle.std.specs.declared.cmp.Ordering.{Ordering}
use Rattle.std.specs.declared.cmp.Ordering.TheVariants.{Less}
use Rattle.hs_scheme.specs.Tree.{height}
use Rattle.hs_scheme.specs.flow.Flow.{IsAscending}
use Rattle.hs_scheme.specs.flow.Points.{point_at}
use Rattle.hs_scheme.specs.Problem.{ProblemData}
use Rattle.hs_reader.specs.Tokens.{is_name_byte}
use Rattle.hs_table.specs.Types.{TypeTree}
use Rattle.hs_table.specs.Entries.{Env, EntryData, Has, InShape, entry_cmp}
use Rattle.hs_weak.specs.Void.{VoidData, void_cmp, IsVoidShape}
use Rattle.hs_text.specs.Report.{entry_text, void_text}
use Rattle.hs_cert.specs.declared.fault.TableFault.{TableFault}
use Rattle.hs_cert.specs.declared.fault.TableFault.TheVariants.{Line, OutOfMemory}
use Rattle.hs_cert.specs.declared.heading.Form.{Form}
use Rattle.hs_cert.specs.declared.heading.Form.TheVariants.{Full, Compact}
use Rattle.hs_cert.specs.declared.heading.Heading.{Heading}
use Rattle.hs_cert.specs.declared.table.Cert.{Cert}
use Rattle.hs_cert.specs.declared.table.Cert.TheVariants as cert

-- They are names of a file, and no two are equal.
pub record AreNames (names : List (List ℕ)) : Type 0 where
  pub words : All (λ name. (name ≢ []) × IsTrue (list_all is_name_byte name)) names
  pub differ : AllPairs (λ a b. a ≢ b) names

-- 1 for a state, and for an arrow 1 more than for the deepest of its parts
abbrev pub nesting : TypeTree → ℕ
nesting t = height t + 1

abbrev pub AreNested : Env → Type 0
AreNested env = (j : ℕ) (a : TypeTree) → Has env j a → nesting a ≤ 1000

pub record IsNested (e : EntryData) : Type 0 where
  pub sets : AreNested e.env
  pub ty : nesting e.ty ≤ 1000

abbrev pub line_text : ProblemData → EntryData → List ℕ
line_text p e = entry_text p.sorted.names (point_at p.points e.point).rule e

abbrev pub pair_text : ProblemData → VoidData → List ℕ
pair_text p v = void_text p.sorted.names v

-- ---- lines

abbrev pub ended : List ℕ → List ℕ
ended text = text ++ codes "\n"

-- no LF stands in it
abbrev pub IsInLine : List ℕ → Type 0
IsInLine text = IsTrue (list_all (λ b. not (b == 10)) text)

pub record IsLine (bytes : List ℕ) (k : ℕ) (text : List ℕ) : Type 0 where
  pub before : List (List ℕ)
  pub behind : List ℕ
  pub are : bytes ≡ flat_map ended before ++ (ended text ++ behind)
  pub long : length before ≡ k
  pub clear : All IsInLine before
  pub inside : IsInLine text

pub record IsThere (bytes : List ℕ) (k : ℕ) : Type 0 where
  pub before : List (List ℕ)
  pub behind : List ℕ
  pub are : bytes ≡ flat_map ended before ++ behind
  pub long : length before ≡ k
  pub clear : All IsInLine before
  pub some : behind ≢ []

-- What a problem keeps whose states and rules have such names: one for each, and no more points than a problem may have.
pub record HasOwnNames (p : ProblemData) : Type 0 where
  pub states : AreNames p.sorted.names.states
  pub rules : AreNames p.sorted.names.rules
  pub each_state : length p.sorted.names.states ≡ p.sorted.automaton.states
  pub each_rule : length p.sorted.names.rules ≡ length p.sorted.scheme.rules
  pub few : length p.points.points ≤ 500000

-- No name of a rule or of a parameter has an LF.
pub record HasNamesInLines (p : ProblemData) : Type 0 where
  pub rules : All IsInLine p.sorted.names.rules
  pub params : All (λ names. All IsInLine names) p.sorted.names.params

-- ---- the rules

abbrev pub verdict_line : List ℕ
verdict_line = codes "accepted"

-- line 1, from 0: how many entries there are
abbrev pub count_line : Form → ℕ → List ℕ
count_line Full n = codes "entries " ++ decimal n
count_line Compact n = codes "compact " ++ decimal n

-- line 2: how many instances there are, as the file says, which nobody checks here; or how many void environments
abbrev pub number_line : Form → ℕ → List ℕ
number_line Full m = codes "checked " ++ decimal m
number_line Compact k = codes "void " ++ decimal k

abbrev pub IsWithin : Form → ℕ → Type 0
IsWithin Full m = m < 2 ^ 64
IsWithin Compact k = k ≤ 1000000

-- how many void environments stand behind the entries
abbrev pub pairs_of : Form → ℕ → ℕ
pairs_of Full m = 0
pairs_of Compact k = k

pub record SaysCount (bytes : List ℕ) (form : Form) (n : ℕ) : Type 0 where
  pub line : IsLine bytes 1 (count_line form n)
  pub few : n ≤ 1000000

pub record Says (bytes : List ℕ) (h : Heading) : Type 0 where
  pub count : SaysCount bytes h.form h.entries
  pub line : IsLine bytes 2 (number_line h.form h.number)
  pub within : IsWithin h.form h.number

-- the text is that of this entry, which is in shape
pub record IsEntry (p : ProblemData) (text : List ℕ) (e : EntryData) : Type 0 where
  pub is : text ≡ line_text p e
  pub shape : InShape p e
  pub nested : IsNested e

-- the text is that of this pair, which is in shape
pub record IsPair (p : ProblemData) (text : List ℕ) (v : VoidData) : Type 0 where
  pub is : text ≡ pair_text p v
  pub shape : IsVoidShape p v
  pub nested : AreNested v.env

-- an item with such a text stands on line k
pub record StandsAt {X : Type 0} (Is : List ℕ → X → Type 0) (bytes : List ℕ) (k : ℕ) (x : X) : Type 0 where
  pub text : List ℕ
  pub line : IsLine bytes k text
  pub item : Is text x

-- there stands an item that is greater than the one on the line before, if that isn't before the first
pub record IsRightItem {X : Type 0} (Is : List ℕ → X → Type 0) (cmp : X → X → Ordering) (bytes : List ℕ) (first k : ℕ) : Type 0 where
  pub item : X
  pub at : StandsAt Is bytes k item
  pub greater : (j : ℕ) (d : X) → k ≡ suc j → first ≤ j → StandsAt Is bytes j d → cmp d item ≡ Less

-- As many entries and void environments follow as the lines before say, and nothing behind them.
abbrev pub IsRight : ProblemData → List ℕ → ℕ → Type 0
IsRight p bytes zero = IsLine bytes 0 verdict_line
IsRight p bytes (suc zero) = (form : Form) × (n : ℕ) × SaysCount bytes form n
IsRight p bytes (suc (suc zero)) = (h : Heading) × Says bytes h
IsRight p bytes (suc (suc (suc i))) =
    (h : Heading) → Says bytes h
    → (i < h.entries → IsRightItem (IsEntry p) entry_cmp bytes 3 (suc (suc (suc i))))
    × (h.entries ≤ i → i < h.entries + pairs_of h.form h.number → IsRightItem (IsPair p) void_cmp bytes (3 + h.entries) (suc (suc (suc i))))
    × (h.entries + pairs_of h.form h.number ≤ i → IsThere bytes (suc (suc (suc i))) → ⊥)

pub record IsFirstFaulty (p : ProblemData) (bytes : List ℕ) (line : ℕ) : Type 0 where
  pub place : ℕ
  pub counted : line ≡ place + 1
  pub faulty : IsRight p bytes place → ⊥
  pub first : (k : ℕ) → k < place → IsRight p bytes k

-- why a table is refused: the first faulty line; want of memory says nothing
abbrev pub IsTableFault : ProblemData → List ℕ → TableFault → Type 0
IsTableFault p bytes (Line line) = IsFirstFaulty p bytes line
IsTableFault p bytes OutOfMemory = Unit {0}

abbrev pub certificate_lines : ProblemData → Form → ℕ → List EntryData → List VoidData → List (List ℕ)
certificate_lines p form number table void =
    verdict_line ∷ (count_line form (length table) ∷ (number_line form number ∷ (map (line_text p) table ++ map (pair_text p) void)))

pub record IsCertificateIn (form : Form) (p : ProblemData) (bytes : List ℕ) (number : ℕ) (table : List EntryData) (void : List VoidData) : Type 0 where
  pub are : bytes ≡ flat_map ended (certificate_lines p form number table void)
  pub clear : All IsInLine (certificate_lines p form number table void)
  pub few : length table ≤ 1000000
  pub within : IsWithin form number
  pub counted : length void ≡ pairs_of form number
  pub shape : All (InShape p) table
  pub nested : All IsNested table
  pub ascending : IsAscending entry_cmp table
  pub void_shape : All (IsVoidShape p) void
  pub void_nested : All (λ v. AreNested v.env) void
  pub void_ascending : IsAscending void_cmp void

abbrev pub IsCertificate : ProblemData → List ℕ → List EntryData → ℕ → Type 0
IsCertificate p bytes table checked = IsCertificateIn Full p bytes checked table []

abbrev pub IsCompactCertificate : ProblemData → List ℕ → List EntryData → List VoidData → Type 0
IsCompactCertificate p bytes table void = IsCertificateIn Compact p bytes (length void) table void

-- the file is a certificate, and this is what it says
abbrev pub IsCert : ProblemData → List ℕ → Cert → Type 0
IsCert p bytes (cert.Full table checked) = IsCertificate p bytes table.items checked
IsCert p bytes (cert.Compact certificate) = IsCompactCertificate p bytes certificate.table certificate.void
