use Rattle.std.proofs.Common.{sym, ◌∙◌, ap, subst, arith}
use Rattle.std.proofs.lemmas.List.{take_all}
use Rattle.hs_table.specs.Entries.{Env}
use Rattle.hs_weak.specs.Void.{VoidData}
use Rattle.hs_types.proofs.Numbers.{Grows-trans}
use Rattle.hs_numbered.specs.Trees.{IsSomeEnv}
use Rattle.hs_certificate_checker.proofs.RowLemmas.{void_some, voids_range, voids_next, voids_long}
use Rattle.hs_certificate_checker.proofs.import.void_rows.Goals as goal

pub import_env-requires : goal.import_env-requires
import_env-requires c =
    let env = c.as_slice.ensures.value ∙ ap (λ (v : VoidData). v.env) c.pair.view_is in
    let shape = c.requires c.pair-item.result (c.loop-pair.pair-index, c.loop-pair-test.true, sym c.pair-item.is) in
    subst (λ (E : Env). IsSomeEnv E) (sym env) (void_some c.args.problem.now c.pair-item.result shape)

pub loop-pair-preserved : goal.loop-pair-preserved
loop-pair-preserved c =
    let J = c.loop-pair.interner in
    let K = c.import_env.new.interner in
    let g = c.import_env.ensures.grows in
    let h = c.loop-pair.invariant in
    let env = c.as_slice.ensures.value ∙ ap (λ (v : VoidData). v.env) c.pair.view_is in
    record {
      grows = Grows-trans c.args.interner.now J K h.grows g;
      range = voids_range J K g c.loop-pair.rows.items c.push_reserved.new.self.items _ h.range c.as_slice.result.now c.in_ok-env.ensures.ok c.push_reserved.ensures.items;
      same = voids_next J K g c.loop-pair.rows.items c.push_reserved.new.self.items _ h.range c.as_slice.result.now c.in_ok-env.ensures.ok c.push_reserved.ensures.items c.args.void.now c.loop-pair.pair-index c.pair-item.result
          h.same (ap (λ (v : VoidData). v.rule) c.pair.view_is) env c.loop-pair-test.true c.pair-item.is;
      room = omega (arith, c.push_reserved.ensures.capacity, h.room);
    }

pub push_reserved-requires : goal.push_reserved-requires
push_reserved-requires c =
    let long = voids_long c.loop-pair.interner c.loop-pair.rows.items c.args.void.now c.loop-pair.pair-index c.loop-pair.invariant.same in
    omega (arith, c.loop-pair.rows.ok, long, c.loop-pair.invariant.room, c.loop-pair-test.true)

pub returns-in_err-env-clause-grows : goal.returns-in_err-env-clause-grows
returns-in_err-env-clause-grows c = Grows-trans c.args.interner.now c.loop-pair.interner c.import_env.new.interner c.loop-pair.invariant.grows c.import_env.ensures.grows

pub returns-clause-pairs : goal.returns-clause-pairs
returns-clause-pairs c = c.loop-pair.invariant.same ∙ take_all c.loop-pair.pair-index c.args.void.now c.loop-pair-test.false
