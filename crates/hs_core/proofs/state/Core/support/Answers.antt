use Rattle.std.proofs.Common.{sym, ap, ◌∙◌, ◌<◌, length, arith, Some, slice_get}
use Rattle.hs_scheme.proofs.Lists.{slice_get-read}
use Rattle.hs_table.specs.Follows.{Support}
use Rattle.hs_core.proofs.Stepping.{base_of, fields_of, seen, each}
use Rattle.hs_core.proofs.state.Core.support.Goals as goal

pub index-backing-requires : goal.index-backing-requires
index-backing-requires c =
    let log = (seen (base_of c.self.inside) (fields_of c.self.inside) c.self.invariant.0 c.self.inside.spare c.args.self.now c.self.view_is).log in
    omega (arith, c.requires, ap (λ xs. length xs) log, each (base_of c.self.inside) (fields_of c.self.inside) c.self.invariant.0, c.self.inside.supports.ok.0)

pub returns : goal.returns
returns c =
    let a = c.self.inside in
    let shown = seen (base_of a) (fields_of a) c.self.invariant.0 a.spare c.args.self.now c.self.view_is in
    let within : c.args.place < length a.supports.items = omega (arith, c.requires, ap (λ xs. length xs) shown.log, each (base_of a) (fields_of a) c.self.invariant.0) in
    ap (λ xs. slice_get xs c.args.place) shown.supports
    ∙ slice_get-read a.supports.items c.args.place c.index-backing.result.now within (sym c.index-backing.ensures)
    ∙ ap (λ (s : Support). Some s) (sym c.backing.view_is)
    ∙ (λ i. Some (record { head = c.backing.inside.head; args = sym c.as_slice.ensures i }))
