-- What a line that was not read comes to.
use Rattle.std.specs.Prelude.{ℕ}
use Rattle.hs_cert.specs.declared.fault.Misread.{Misread}
use Rattle.hs_cert.specs.declared.fault.Misread.TheVariants as misread
use Rattle.hs_cert.specs.declared.fault.TableFault.{TableFault}
use Rattle.hs_cert.specs.declared.fault.TableFault.TheVariants as fault

abbrev pub fault_on : Misread → ℕ → TableFault
fault_on misread.Faulty line = fault.Line line
fault_on misread.OutOfMemory line = fault.OutOfMemory
