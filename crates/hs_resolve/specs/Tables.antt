-- What the passes over a file find.
--     HasNumbers      numbers below 2 ^ 32 for these names
--     scoped_rule     a rule with numbers for its names
--     AreEmpty        no names, no lengths
--     AreTables       the names of the file by number
--     IsNumberedFile  its rules and transitions with these numbers, where it is a file
--     AreLines        the least line of each line fault
--     IsResolved      all of these
--     names_in        the names of a scheme with these tables
--     no_names        no names of a scheme
--     automaton_with  the automaton with these tables and transitions
--     made_of         the scheme with these rules, transitions and names
use Rattle.std.specs.Prelude.{◌≡◌, ℕ, ◌<◌, ◌^◌, List, [], None, map, length}
use Rattle.hs_reader.specs.Raw.{File, Rule}
use Rattle.hs_reader.specs.Limits.{IsRaw}
use Rattle.hs_scheme.specs.declared.term.Rule.{Rule as NumberedRule}
use Rattle.hs_scheme.specs.acceptance.Transition.{TransitionData}
use Rattle.hs_scheme.specs.acceptance.Automaton.{AutomatonData}
use Rattle.hs_scheme.specs.Names.{NamesData}
use Rattle.hs_scheme.specs.sorting.Unsorted.{UnsortedData}
use Rattle.hs_resolve.specs.declared.line.FaultLines.{FaultLines}
use Rattle.hs_resolve.specs.declared.resolving.Tables.{Tables}
use Rattle.hs_resolve.specs.declared.resolving.Numbered.{Numbered}
use Rattle.hs_resolve.specs.declared.resolving.Resolved.{Resolved}
use Rattle.hs_resolve.specs.Names.{texts, distinct}
use Rattle.hs_resolve.specs.Numbering.{left_names, terminal_names, state_names, rank_of, head_of, numbered, transition_of}
use Rattle.hs_resolve.specs.Lengths.{length_of}
use Rattle.hs_resolve.specs.Least.{IsLeast}
use Rattle.hs_resolve.specs.LineFaults.{DuplicateRule, DuplicateParam, Undefined, StartHasParams, DuplicateTransition, RankClash}

abbrev pub HasNumbers : List (List ℕ) → Type 0
HasNumbers names = length names < 2 ^ 32

-- the numbered rule, where the names of the parameters are looked up without repeats
abbrev pub scoped_rule : (left terminals : List (List ℕ)) → Rule → NumberedRule
scoped_rule left terminals r = record { params = length r.params; body = numbered (head_of left (distinct (texts r.params)) terminals) r.body }

pub record AreLines (raw : File) (lines : FaultLines) : Type 0 where
  pub duplicate_rule : IsLeast (DuplicateRule raw) lines.duplicate_rule
  pub duplicate_param : IsLeast (DuplicateParam raw) lines.duplicate_param
  pub undefined : IsLeast (Undefined raw) lines.undefined
  pub start_has_params : IsLeast (StartHasParams raw) lines.start_has_params
  pub duplicate_transition : IsLeast (DuplicateTransition raw) lines.duplicate_transition
  pub rank_clash : IsLeast (RankClash raw) lines.rank_clash

pub record AreEmpty (tables : Tables) : Type 0 where
  pub left : tables.left ≡ []
  pub params : tables.params.items ≡ []
  pub terminals : tables.terminals ≡ []
  pub states : tables.states ≡ []
  pub lengths : (x : List ℕ) → length_of tables.lengths x ≡ None

pub record AreTables (raw : File) (tables : Tables) : Type 0 where
  pub left : tables.left ≡ distinct (left_names raw)
  pub params : tables.params.items ≡ map (λ r. distinct (texts r.params)) raw.rules
  pub terminals : tables.terminals ≡ terminal_names raw
  pub states : tables.states ≡ state_names raw
  pub lengths : (x : List ℕ) → length_of tables.lengths x ≡ rank_of raw.transitions x

pub record IsNumberedFile (raw : File) (numbered : Numbered) : Type 0 where
  pub inside : IsRaw raw
  pub rules : numbered.rules.items ≡ map (scoped_rule (distinct (left_names raw)) (terminal_names raw)) raw.rules
  pub transitions : numbered.transitions.items ≡ map (transition_of (state_names raw) (terminal_names raw)) raw.transitions

pub record IsResolved (raw : File) (r : Resolved) : Type 0 where
  pub tables : AreTables raw r.tables
  pub numbered : IsNumberedFile raw r.numbered
  pub lines : AreLines raw r.tables.lines

abbrev pub names_in : Tables → NamesData
names_in tables = record { rules = tables.left; params = tables.params.items; terminals = tables.terminals; states = tables.states }

abbrev pub no_names : NamesData
no_names = record { rules = []; params = []; terminals = []; states = [] }

abbrev pub automaton_with : Tables → List TransitionData → AutomatonData
automaton_with tables transitions = record { states = length tables.states; transitions = transitions }

abbrev pub made_of : Tables → Numbered → UnsortedData
made_of tables numbered = record {
  rules = numbered.rules.items;
  ranks = map (length_of tables.lengths) tables.terminals;
  automaton = record { states = length tables.states; transitions = numbered.transitions.items };
  names = names_in tables;
}
