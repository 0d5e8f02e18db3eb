use Rattle.std.proofs.Common.{◌≡◌, sym, subst, List, Bool, true, Some, slice_get}
use Rattle.std.specs.Prelude.{IfOk}
use Rattle.std.proofs.lemmas.Result.{on_ok_weaker, on_err_weaker}
use Rattle.hs_flow.specs.Bases.{TellsNew}
use Rattle.hs_flow.proofs.ListLemmas.{row_is, row_same, row_flags}
use Rattle.hs_flow.proofs.lists.Lists+bool.set_flag.Goals as goal

pub returns-clause-flags : goal.returns-clause-flags
returns-clause-flags c =
    on_ok_weaker c.set_in.result (row_flags c.self.inside.rows.items c.args.number c.args.flag c.index_mut-row.result.now c.set_in.new.row c.args.self.now c.self.view_is c.requires.number c.index_mut-row.ensures.value)
    c.set_in.ensures.flags

pub returns-clause-new : goal.returns-clause-new
returns-clause-new c =
    subst (λ (xs : List Bool). IfOk c.set_in.result (TellsNew (slice_get xs c.args.flag ≡ Some true)))
    (sym (row_is (λ r. r.items) c.self.inside.rows.items c.args.number c.index_mut-row.result.now c.set_in.new.row c.args.self.now c.self.view_is c.requires.number c.index_mut-row.ensures.value)) c.set_in.ensures.new

pub returns-clause-same : goal.returns-clause-same
returns-clause-same c =
    on_err_weaker c.set_in.result (row_same (λ r. r.items) c.self.inside.rows.items c.args.number c.index_mut-row.result.now c.set_in.new.row c.args.self.now c.self.view_is c.requires.number c.index_mut-row.ensures.value)
    c.set_in.ensures.same
