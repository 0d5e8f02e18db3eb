use Rattle.std.proofs.Common.{◌∙◌, ap, slice_get}
use Rattle.std.proofs.lemmas.Result.{IfOk-weaker}
use Rattle.hs_scheme.specs.sorting.Unsorted.{UnsortedData}
use Rattle.hs_front.proofs.OneScheme.{one_scheme}
use Rattle.hs_front.proofs.sorted.terminal_name.Goals as goal

pub returns : goal.returns
returns c =
    IfOk-weaker c.name_in.result _ _
    (λ name is u of_bytes. ap (λ (v : UnsortedData). slice_get v.names.terminals c.args.terminal) (one_scheme c.args.bytes.now u c.in-Ok.unsorted of_bytes c.in-Ok.ensures.scheme) ∙ is)
    c.name_in.ensures
