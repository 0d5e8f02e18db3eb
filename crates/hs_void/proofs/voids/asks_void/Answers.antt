use Rattle.std.proofs.Common.{refl, sym, ◌∙◌, subst, ◌<◌, length}
use Rattle.std.proofs.lemmas.List.Elements.{All-contains}
use Rattle.hs_types.specs.Interned.{InternerData, env_of_id}
use Rattle.hs_numbered.specs.Certificates.{VoidRowData}
use Rattle.hs_choices.proofs.Growing.{is_so, not_so}
use Rattle.hs_void.proofs.Asked.{asked_row, none_more, none_before, none_asked}
use Rattle.hs_void.proofs.voids.asks_void.Goals as goal

pub asks_at_least-requires-clause-env : goal.asks_at_least-requires-clause-env
asks_at_least-requires-clause-env c = subst (λ (I : InternerData). c.args.env < length I.envs) (sym c.loop-row.invariant.same) c.requires.env

pub asks_at_least-requires-clause-other : goal.asks_at_least-requires-clause-other
asks_at_least-requires-clause-other c =
    let m = (c.void_of-row-items.ensures c.row-item.result).0 (c.loop-row.row-index, c.loop-row-test.true, sym c.row-item.is) in
    subst (λ (I : InternerData). c.row-item.result.env < length I.envs) (sym c.loop-row.invariant.same)
    (All-contains (λ (v : VoidRowData). v.env < length c.args.types.now.envs) c.args.basis.now.void c.row-item.result c.requires.rows.envs m.0)

pub loop-row-init : goal.loop-row-init
loop-row-init c = record { same = refl; none = none_before c.args.basis.now c.args.types.now c.args.rule (env_of_id c.args.types.now c.args.env) c.void_of-row-items.result.now c.void_of-row-items.ensures }

pub loop-row-preserved : goal.loop-row-preserved
loop-row-preserved c =
    let I = c.args.types.now in
    record {
      same = c.asks_at_least.ensures.same ∙ c.loop-row.invariant.same;
      none = none_more c.args.basis.now I c.args.rule (env_of_id I c.args.env) c.void_of-row-items.result.now c.void_of-row-items.ensures c.loop-row.row-index c.row-item.result c.loop-row-test.true c.row-item.is c.loop-row.invariant.none
          (not_so I c.args.env c.row-item.result.env c.loop-row.types c.loop-row.invariant.same c.in_ok-asks_at_least.field-0 c.if-branch.false c.in_ok-asks_at_least.ensures.ok);
    }

pub returns-then-branch-clause-ok : goal.returns-then-branch-clause-ok
returns-then-branch-clause-ok c =
    let I = c.args.types.now in
    asked_row c.args.basis.now I c.args.rule (env_of_id I c.args.env) c.void_of-row-items.result.now c.void_of-row-items.ensures c.loop-row.row-index c.row-item.result c.loop-row-test.true c.row-item.is
    (is_so I c.args.env c.row-item.result.env c.loop-row.types c.loop-row.invariant.same c.in_ok-asks_at_least.field-0 c.if-branch.true c.in_ok-asks_at_least.ensures.ok)

pub returns-then-branch-clause-same : goal.returns-then-branch-clause-same
returns-then-branch-clause-same c = c.asks_at_least.ensures.same ∙ c.loop-row.invariant.same

pub returns-in_err-asks_at_least-clause-same : goal.returns-in_err-asks_at_least-clause-same
returns-in_err-asks_at_least-clause-same c = c.asks_at_least.ensures.same ∙ c.loop-row.invariant.same

pub returns-clause-ok : goal.returns-clause-ok
returns-clause-ok c = none_asked c.args.basis.now c.args.types.now c.args.rule (env_of_id c.args.types.now c.args.env) c.void_of-row-items.result.now c.void_of-row-items.ensures c.loop-row.row-index c.loop-row-test.false c.loop-row.invariant.none
