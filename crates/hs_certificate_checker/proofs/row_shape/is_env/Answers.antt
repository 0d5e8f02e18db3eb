use Rattle.std.proofs.Common.{◌≡◌, refl, sym, ◌∙◌, subst, List, Contains, true, false, arith}
use Rattle.std.proofs.lemmas.List.{take_all}
use Rattle.hs_table.specs.Types.{TypeTree}
use Rattle.hs_table.specs.Entries.{Env}
use Rattle.hs_types.specs.Interned.{set_of_id, env_of_id}
use Rattle.hs_numbered.proofs.Mapped.{mapped_long, mapped_within, mapped_read}
use Rattle.hs_checker.proofs.ShapeLemmas.{AreGood, good_more, set_read}
use Rattle.hs_certificate_checker.proofs.row_shape.is_env.Goals as goal

pub returns-then-not-are_types : goal.returns-then-not-are_types
returns-then-not-are_types c =
    let I = c.args.interner.now in
    let ss = c.sets-sets.result.now in
    let E = env_of_id I c.args.env in
    let s = c.set-item.result in
    let k = c.loop-set.set-index in
    let are = c.sets-sets.ensures.sets in
    let read = set_read E k (set_of_id I s) (mapped_within (set_of_id I) ss E are k s c.loop-set-test.true c.set-item.is) (mapped_read (set_of_id I) ss E are k s c.loop-set-test.true c.set-item.is) in (
      λ e. let f : false ≡ true = e in absurd (cc),
      λ both. sym c.if-not-are_types.true ∙ c.are_types.ensures.1 (λ a there. both.1 k a (subst (λ (xs : List TypeTree). Contains xs a) (sym read) there)),
    )

pub loop-set-preserved : goal.loop-set-preserved
loop-set-preserved c =
    let I = c.args.interner.now in
    let ss = c.sets-sets.result.now in
    let E = env_of_id I c.args.env in
    let s = c.set-item.result in
    let k = c.loop-set.set-index in
    let are = c.sets-sets.ensures.sets in
    good_more c.args.states E k (set_of_id I s) (mapped_within (set_of_id I) ss E are k s c.loop-set-test.true c.set-item.is) (mapped_read (set_of_id I) ss E are k s c.loop-set-test.true c.set-item.is) c.loop-set.invariant
    (c.know_numbers.ensures.set_ascends s) (c.are_types.ensures.0 c.if-not-are_types.false)

pub returns : goal.returns
returns c =
    let I = c.args.interner.now in
    let E = env_of_id I c.args.env in
    let long = mapped_long (set_of_id I) c.sets-sets.result.now E c.sets-sets.ensures.sets in
    let good = subst (λ (e : Env). AreGood c.args.states e) (take_all c.loop-set.set-index E (omega (arith, long, c.loop-set-test.false))) c.loop-set.invariant in
    (λ _. (record { long = omega (arith, long); sets = good.sets }, good.types), λ _. refl)
