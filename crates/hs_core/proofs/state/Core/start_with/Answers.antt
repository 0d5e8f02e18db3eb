use Rattle.std.proofs.Common.{refl, sym, subst, ◌∷◌, ◌++◌, [], Some}
use Rattle.std.proofs.lemmas.Bool.{false≢true}
use Rattle.hs_table.specs.Tables.{IsStart}
use Rattle.hs_types.specs.Interned.{InternerData, entry_of}
use Rattle.hs_core.specs.Inside.{KnowsStart}
use Rattle.hs_core.proofs.Stepping.{base_of, fields_of, start_here, start_elsewhere, knows_seen}
use Rattle.hs_core.proofs.state.Core.start_with.Goals as goal

pub returns-then-is_start : goal.returns-then-is_start
returns-then-is_start c =
    let a = c.self.inside in
    let p = a.problem.now in
    let e = entry_of a.replica.ids c.args.row in
    let is = subst (λ (ids : InternerData). IsStart p (entry_of ids c.args.row)) c.interner.ensures (c.if-is_start.ensures.0 refl) in
    let here = start_here p a.replica.log e a.start c.self.invariant.0.start is in
    knows_seen (base_of a) (fields_of a) c.self.invariant.0 a.spare c.args.self.now c.self.view_is c.args.row (Some c.len.result)
    (subst (λ n. KnowsStart p (a.replica.log ++ e ∷ []) (Some n)) (sym c.len.ensures.len) here)

pub returns-else-is_start : goal.returns-else-is_start
returns-else-is_start c =
    let a = c.self.inside in
    let p = a.problem.now in
    let e = entry_of a.replica.ids c.args.row in
    knows_seen (base_of a) (fields_of a) c.self.invariant.0 a.spare c.args.self.now c.self.view_is c.args.row a.start
    (start_elsewhere p a.replica.log e a.start c.self.invariant.0.start
    (λ is. false≢true (c.if-is_start.ensures.1 (subst (λ (ids : InternerData). IsStart p (entry_of ids c.args.row)) (sym c.interner.ensures) is))))
