-- How a refusal shows: the exit status and the line on standard error.
--     refusal_of_read, refusal_of_names    the refusal for a fault
--     status_of                            its exit status
--     line_of                              its line, in which rules are counted from 1; that for the words is the program's own
--     HasFixedLine                         the line is the same at each such refusal
use Rattle.std.specs.Prelude.{ℕ, ◌+◌, List, codes}
use Rattle.hs_reader.specs.declared.fault.Which.{Which}
use Rattle.hs_reader.specs.declared.fault.Which.TheVariants as which
use Rattle.hs_reader.specs.declared.fault.ReadFault.{ReadFault}
use Rattle.hs_reader.specs.declared.fault.ReadFault.TheVariants as read
use Rattle.hs_resolve.specs.declared.fault.NameFault.{NameFault}
use Rattle.hs_resolve.specs.declared.fault.NameFault.TheVariants as name
use Rattle.hs_front.specs.Line.{ended, line_with_name, line_with_number, on_line}
use Rattle.hs_front.specs.declared.refusal.Refusal.{Refusal}
use Rattle.hs_front.specs.declared.refusal.Refusal.TheVariants.{Usage, Source, FileTooLong, Syntax, Limit, Names, IllSorted, NotFirstOrder, SortTooLarge, RuleTooLong, PointLimit, FlowLimit, EntryLimit, Sink, OutOfMemory}

abbrev pub refusal_of_read : ReadFault → Refusal
refusal_of_read (read.Syntax line) = Syntax line
refusal_of_read (read.Limit which) = Limit which
refusal_of_read read.OutOfMemory = OutOfMemory

abbrev pub refusal_of_names : NameFault → Refusal
refusal_of_names name.OutOfMemory = OutOfMemory
refusal_of_names fault = Names fault

abbrev pub names_status : NameFault → ℕ
names_status name.TooManyStates = 7
names_status name.OutOfMemory = 10
names_status fault = 6

abbrev pub status_of : Refusal → ℕ
status_of Usage = 4
status_of (Syntax line) = 5
status_of (Names fault) = names_status fault
status_of (IllSorted rule) = 6
status_of (NotFirstOrder terminal) = 6
status_of (SortTooLarge rule) = 7
status_of (RuleTooLong rule) = 7
status_of FileTooLong = 7
status_of (Limit which) = 7
status_of Source = 8
status_of Sink = 9
status_of OutOfMemory = 10
status_of PointLimit = 7
status_of FlowLimit = 7
status_of EntryLimit = 3

-- the line for a limit of the text
abbrev pub limit_line : Which → List ℕ
limit_line which.Name = ended (codes "limit: name")
limit_line which.Rules = ended (codes "limit: rules")
limit_line which.Parameters = ended (codes "limit: parameters")
limit_line which.Depth = ended (codes "limit: depth")
limit_line which.Arguments = ended (codes "limit: arguments")
limit_line which.Transitions = ended (codes "limit: transitions")
limit_line which.Children = ended (codes "limit: children")

-- the line for a fault in the names
abbrev pub names_line : NameFault → List ℕ
names_line (name.DuplicateRule line) = on_line line (codes ": rule twice")
names_line (name.DuplicateParam line) = on_line line (codes ": parameter twice")
names_line (name.Undefined line) = on_line line (codes ": undefined nonterminal")
names_line (name.StartHasParams line) = on_line line (codes ": start has parameters")
names_line (name.DuplicateTransition line) = on_line line (codes ": transition twice")
names_line (name.RankClash line) = on_line line (codes ": rank clash")
names_line name.TooManyStates = ended (codes "limit: states")
names_line name.OutOfMemory = ended (codes "out of memory")

abbrev pub line_of : List ℕ → Refusal → List ℕ
line_of usage Usage = usage
line_of usage Source = ended (codes "read fault")
line_of usage FileTooLong = ended (codes "limit: file")
line_of usage (Syntax line) = on_line line (codes ": syntax")
line_of usage (Limit which) = limit_line which
line_of usage (Names fault) = names_line fault
line_of usage (IllSorted rule) = line_with_number (codes "rule ") (rule + 1) (codes ": ill-sorted")
line_of usage (NotFirstOrder terminal) = line_with_name (codes "terminal ") terminal (codes ": not first order")
line_of usage (SortTooLarge rule) = line_with_number (codes "limit: sort of rule ") (rule + 1) (codes "")
line_of usage (RuleTooLong rule) = line_with_number (codes "limit: length of rule ") (rule + 1) (codes "")
line_of usage PointLimit = ended (codes "limit: points")
line_of usage FlowLimit = ended (codes "limit: flow")
line_of usage EntryLimit = ended (codes "limit: entries")
line_of usage Sink = ended (codes "write fault")
line_of usage OutOfMemory = ended (codes "out of memory")

abbrev pub HasFixedLine : Refusal → Type 0
HasFixedLine (Syntax line) = ⊥
HasFixedLine (Names fault) = ⊥
HasFixedLine (IllSorted rule) = ⊥
HasFixedLine (NotFirstOrder terminal) = ⊥
HasFixedLine (SortTooLarge rule) = ⊥
HasFixedLine (RuleTooLong rule) = ⊥
HasFixedLine refusal = Unit {0}
