-- What an error of `clap` says: the words are refused, but where memory was.
use Rattle.clap.specs.declared.error.kind.ErrorKind.{ErrorKind}
use Rattle.clap.specs.declared.error.kind.ErrorKind.TheVariants as kind
use Rattle.hs_words.specs.declared.fault.WordsFault.{WordsFault}
use Rattle.hs_words.specs.declared.fault.WordsFault.TheVariants as words

abbrev pub fault_of_kind : ErrorKind → WordsFault
fault_of_kind kind.OutOfMemory = words.OutOfMemory
fault_of_kind k = words.Usage
