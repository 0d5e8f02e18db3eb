use Rattle.std.proofs.Common.{sym, subst}
use Rattle.hs_scheme.specs.sorting.Unsorted.{UnsortedData}
use Rattle.hs_front.specs.Files.{IsSchemeOf}
use Rattle.hs_front.proofs.OneScheme.{scheme_is}
use Rattle.hs_front.proofs.sorted.scheme_of.Goals as goal

pub returns-clause-scheme : goal.returns-clause-scheme
returns-clause-scheme c =
    subst (λ (u : UnsortedData). IsSchemeOf c.args.bytes.now u) (sym c.in_ok-resolve_owned.ensures.value)
    (scheme_is c.args.bytes.now _ c.in_ok-raw.ensures.file c.in_ok-resolve_owned.ensures.faultless)
