use Rattle.std.proofs.Common.{◌≡◌, refl, ap, subst, ℕ, ◌+◌, ◌<◌, sum, get_or, length, Option, arith}
use Rattle.std.specs.Prelude.{SomeIff, IfSome}
use Rattle.std.proofs.lemmas.List.{get_or_default}
use Rattle.hs_scheme.specs.declared.flow.FlowPair.{FlowPair}
use Rattle.hs_scheme.specs.flow.FlowRows.{StartsSoFar}
use Rattle.hs_scheme.specs.sorting.Parameters.{IsParameter, parameter_of}
use Rattle.hs_scheme.proofs.FlowRowLemmas.{pair_taken, all_taken}
use Rattle.hs_scheme.proofs.flow.starts_of.Goals as goal

pub fill-requires : goal.fill-requires
fill-requires c =
    let few = subst (λ (o : Option ℕ). IfSome o (λ n. n < sum c.args.params.now)) c.unwrap-number.ensures c.number.ensures.within in
    omega (arith, few, c.loop-place.invariant.room)

pub loop-place-preserved : goal.loop-place-preserved
loop-place-preserved c =
    let d : FlowPair = record { rule = 0; param = 0; point = 0 } in
    let p = get_or c.args.pairs.now c.loop-place.place d in
    let some = subst (λ (o : Option ℕ). SomeIff o (IsParameter c.args.params.now p.rule p.param) (parameter_of c.args.params.now p.rule p.param)) c.unwrap-number.ensures c.number.ensures.number in
    let few = subst (λ (o : Option ℕ). IfSome o (λ n. n < sum c.args.params.now)) c.unwrap-number.ensures c.number.ensures.within in
    record {
      parted = pair_taken c.args.params.now c.args.pairs.now c.requires.parameters c.requires.ascending c.loop-place.place (c.unwrap-number.result + 1) c.loop-place.starts.items c.fill.new.starts.items
          c.fill.ensures.kept c.fill.ensures.added c.fill.ensures.len c.loop-place.invariant.parted p c.loop-place-test.true (get_or_default c.args.pairs.now c.loop-place.place d p c.loop-place-test.true)
          (ap (λ n. n + 1) some.1) (omega (arith, some.1, few));
      room = omega (arith, c.fill.ensures.room, c.loop-place.invariant.room);
    }

pub fill-requires-2 : goal.fill-requires-2
fill-requires-2 c = omega (arith, c.count.ensures, c.loop-place.invariant.room)

pub returns : goal.returns
returns c =
    let pairs = c.args.pairs.now in
    let end : c.loop-place.place ≡ length pairs = omega (arith, c.loop-place-test.false, c.loop-place.auto.place-end) in
    all_taken c.args.params.now pairs c.requires.parameters c.requires.ascending (length pairs) (c.count.result + 1) c.loop-place.starts.items c.fill-2.new.starts.items
    c.fill-2.ensures.kept c.fill-2.ensures.added c.fill-2.ensures.len (subst (λ (n : ℕ). StartsSoFar c.args.params.now pairs n c.loop-place.starts.items) end c.loop-place.invariant.parted) refl (ap (λ n. n + 1) c.count.ensures)
