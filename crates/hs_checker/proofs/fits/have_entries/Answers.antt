use Rattle.std.proofs.Common.{◌≡◌, sym, ◌∙◌, subst, ◌<◌, List, length, true, false, Contains, arith, refl}
use Rattle.std.proofs.lemmas.List.{take_all}
use Rattle.hs_scheme.proofs.Lists.{none_in}
use Rattle.hs_table.specs.Types.{TypeTree}
use Rattle.hs_types.specs.Interned.{type_of_id, set_of_id}
use Rattle.hs_checker.specs.Slots.{HasTypesAt}
use Rattle.hs_checker.specs.Numbers.{entries_of}
use Rattle.hs_checker.proofs.InstanceLemmas.{types_at_more}
use Rattle.hs_checker.proofs.NumberLemmas.{has_exact, mapped_read, mapped_long}
use Rattle.hs_checker.proofs.fits.have_entries.Goals as goal

pub loop-ty-init : goal.loop-ty-init
loop-ty-init c = λ a k. absurd (none_in a k)

pub returns-then-not-has : goal.returns-then-not-has
returns-then-not-has c =
    let I = c.args.types.now in
    let items = c.members-ty-items.result.now in
    let S = set_of_id I c.args.set in
    let k = c.loop-ty.ty-index in
    let ty = c.ty-item.result in
    let long = mapped_long (type_of_id I) items S c.members-ty-items.ensures.members in
    let within : ty < length I.types = subst (λ n. n < length I.types) (sym c.ty-item.is) (c.members-ty-items.ensures.range k ty c.loop-ty-test.true) in
    let there : Contains S (type_of_id I ty) = (k, omega (arith, c.loop-ty-test.true, long), sym (mapped_read (type_of_id I) items S k ty c.members-ty-items.ensures.members c.ty-item.is)) in
    let exact = has_exact I c.know_numbers.ensures c.args.index.now c.args.arg ty c.requires.rows within in (
      λ e. let f : false ≡ true = e in absurd (cc),
      λ all. let f : false ≡ true = sym c.if-not-has.true ∙ c.has.ensures.1 (exact.1 (all (type_of_id I ty) there)) in absurd (cc),
    )

pub loop-ty-preserved : goal.loop-ty-preserved
loop-ty-preserved c =
    let I = c.args.types.now in
    let items = c.members-ty-items.result.now in
    let S = set_of_id I c.args.set in
    let k = c.loop-ty.ty-index in
    let ty = c.ty-item.result in
    let long = mapped_long (type_of_id I) items S c.members-ty-items.ensures.members in
    let within : ty < length I.types = subst (λ n. n < length I.types) (sym c.ty-item.is) (c.members-ty-items.ensures.range k ty c.loop-ty-test.true) in
    let exact = has_exact I c.know_numbers.ensures c.args.index.now c.args.arg ty c.requires.rows within in
    types_at_more (entries_of I c.args.index.now) c.args.arg S k (type_of_id I ty) (omega (arith, c.loop-ty-test.true, long))
    (mapped_read (type_of_id I) items S k ty c.members-ty-items.ensures.members c.ty-item.is) c.loop-ty.invariant (exact.0 (c.has.ensures.0 c.if-not-has.false))

pub returns : goal.returns
returns c =
    let I = c.args.types.now in
    let S = set_of_id I c.args.set in
    let long = mapped_long (type_of_id I) c.members-ty-items.result.now S c.members-ty-items.ensures.members in
    (λ _. subst (λ (s : List TypeTree). HasTypesAt (entries_of I c.args.index.now) c.args.arg s) (take_all c.loop-ty.ty-index S (omega (arith, c.loop-ty-test.false, long))) c.loop-ty.invariant, λ _. refl)
