-- The choice among the least lines of the line faults.
--     is_at         this is the line
--     least_line    the least of the six
--     fault_on      the first of the six whose line this is
use Rattle.std.specs.Prelude.{ℕ, Bool, false, nat_eq, Option, Some, None, if◌then◌else◌}
use Rattle.hs_resolve.specs.declared.fault.NameFault.{NameFault}
use Rattle.hs_resolve.specs.declared.fault.NameFault.TheVariants as fault
use Rattle.hs_resolve.specs.declared.line.FaultLines.{FaultLines}
use Rattle.hs_resolve.specs.Least.{earliest}

abbrev pub is_at : Option ℕ → ℕ → Bool
is_at None line = false
is_at (Some at) line = nat_eq at line

abbrev pub least_line : FaultLines → Option ℕ
least_line l =
    earliest l.duplicate_rule (earliest l.duplicate_param (earliest l.undefined (earliest l.start_has_params (earliest l.duplicate_transition l.rank_clash))))

abbrev pub fault_on : FaultLines → ℕ → NameFault
fault_on l line =
    if is_at l.duplicate_rule line then fault.DuplicateRule line else
    (if is_at l.duplicate_param line then fault.DuplicateParam line else
    (if is_at l.undefined line then fault.Undefined line else
    (if is_at l.start_has_params line then fault.StartHasParams line else
    (if is_at l.duplicate_transition line then fault.DuplicateTransition line else fault.RankClash line))))
