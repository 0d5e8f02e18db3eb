use Rattle.std.proofs.Common.{◌≡◌, ◌∙◌, sym, ap, subst, ◌++◌, ◌∷◌, [], List, Some, length, slice_get, arith}
use Rattle.std.proofs.lemmas.List.{take_all}
use Rattle.hs_weak.specs.Void.{VoidData}
use Rattle.hs_resolve.proofs.Lists.{take-push}
use Rattle.hs_app.proofs.evidence.pairs_of.Goals as goal

pub pair-requires : goal.pair-requires
pair-requires c =
    let long = ap (λ (vs : List VoidData). length vs) c.loop-place.invariant.pairs in
    omega (arith, c.loop-place.invariant.count, long, c.loop-place-test.true)

pub push_reserved-requires : goal.push_reserved-requires
push_reserved-requires c = omega (arith, c.loop-place.void.ok, c.loop-place.invariant.long, c.loop-place.invariant.room, c.loop-place-test.true)

pub loop-place-preserved : goal.loop-place-preserved
loop-place-preserved c =
    let h = c.loop-place.invariant in
    let v = c.in_ok-pair.field-0 in
    let at = subst (λ (vs : List VoidData). slice_get vs c.loop-place.place ≡ Some v) h.pairs c.in_ok-pair.ensures.pair in
    record {
      same = c.push_reserved.ensures.items ∙ (ap (λ (xs : List VoidData). xs ++ v ∷ []) h.same ∙ sym (take-push c.args.certificate.now.void c.loop-place.place v at));
      long = omega (arith, c.push_reserved.ensures.len, h.long);
      count = h.count;
      room = omega (arith, c.push_reserved.ensures.capacity, h.room);
      table = c.pair.ensures.same.0 ∙ h.table;
      pairs = c.pair.ensures.same.1 ∙ h.pairs;
    }

pub returns-clause-pairs : goal.returns-clause-pairs
returns-clause-pairs c =
    let h = c.loop-place.invariant in
    h.same ∙ take_all c.loop-place.place c.args.certificate.now.void (omega (arith, h.count, c.loop-place-test.false))
