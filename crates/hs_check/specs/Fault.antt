-- How a table that isn't verified shows: the exit status and the line on standard error.
--     table_fault     what a refusal to read the table's file comes to
--     status_of       its exit status
--     line_of         its line
--     HasFixedLine    the line is the same at each such fault
--     verified_text   what is written of a table that is verified: what it shows
use Rattle.std.specs.Prelude.{ℕ, ◌++◌, List, codes}
use Rattle.hs_front.specs.Line.{ended, line_with_number}
use Rattle.hs_front.specs.Refusal as front
use Rattle.hs_front.specs.declared.refusal.Refusal.{Refusal}
use Rattle.hs_front.specs.declared.refusal.Refusal.TheVariants.{FileTooLong, OutOfMemory}
use Rattle.hs_check.specs.declared.fault.Fault.{Fault}
use Rattle.hs_check.specs.declared.fault.Fault.TheVariants.{Front, TableTooLong, TableLine, Missing, HasStart, NotVoid, Instances}
use Rattle.hs_check.specs.declared.verified.Shown.{Shown}
use Rattle.hs_check.specs.declared.verified.Shown.TheVariants.{Full, Compact}

abbrev pub no_memory : Fault
no_memory = Front OutOfMemory

-- a refusal to read the file of a table
abbrev pub table_fault : Refusal → Fault
table_fault FileTooLong = TableTooLong
table_fault refusal = Front refusal

abbrev pub status_of : Fault → ℕ
status_of (Front refusal) = front.status_of refusal
status_of TableTooLong = 7
status_of (TableLine line) = 12
status_of (Missing entry) = 1
status_of HasStart = 1
status_of (NotVoid pair) = 1
status_of (Instances count) = 1

abbrev pub usage : List ℕ
usage = ended (codes "usage: horsat_check FILE TABLE")

abbrev pub line_of : Fault → List ℕ
line_of (Front refusal) = front.line_of usage refusal
line_of TableTooLong = ended (codes "limit: table")
line_of (TableLine line) = line_with_number (codes "table line ") line (codes "")
line_of (Missing entry) = codes "missing: " ++ entry.items
line_of HasStart = ended (codes "has start")
line_of (NotVoid pair) = codes "not void: " ++ pair.items
line_of (Instances count) = line_with_number (codes "instances ") count (codes "")

abbrev pub HasFixedLine : Fault → Type 0
HasFixedLine (Front refusal) = front.HasFixedLine refusal
HasFixedLine TableTooLong = Unit {0}
HasFixedLine (TableLine line) = ⊥
HasFixedLine (Missing entry) = ⊥
HasFixedLine HasStart = Unit {0}
HasFixedLine (NotVoid pair) = ⊥
HasFixedLine (Instances count) = ⊥

abbrev pub verified_text : Shown → List ℕ
verified_text (Full count) = line_with_number (codes "verified\ninstances ") count (codes "")
verified_text (Compact entries void) = line_with_number (codes "verified\ncompact ") entries (codes "") ++ line_with_number (codes "void ") void (codes "")
