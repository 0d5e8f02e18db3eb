use Rattle.std.proofs.Common.{◌≡◌, sym, ◌∙◌, ap, subst, ℕ, ◌+◌, ◌≤◌, List, [], ◌∷◌, length, length-append, inl, arith}
use Rattle.hs_weak.specs.Reads.{IsClosedReads}
use Rattle.hs_reads.specs.ByPoint.{pairs_by_point}
use Rattle.hs_reads.specs.Pairs.{HasStart, AreNeeded, AreHanded}
use Rattle.hs_reads.proofs.FoundLemmas.{start_stays, one_taken, all_taken, none_left}
use Rattle.hs_reads.proofs.ReadLemmas.{demanded_needed}
use Rattle.hs_reads.proofs.HandedLemmas.{none_handed}
use Rattle.hs_reads.proofs.reads.spread.Goals as goal

pub loop-point-init : goal.loop-point-init
loop-point-init c = record { few = c.requires.few; start = c.requires.start; needed = c.requires.needed; each = λ x m. inl (c.requires.waiting x m); handed = none_handed c.args.problem.now c.new-handed.result.items c.args.found.now.pairs c.new-handed.ensures.items }

pub loop-point-smaller : goal.loop-point-smaller
loop-point-smaller c =
    let old = c.loop-point.found in
    let mid = c.take.new.self in
    let same : length mid.pairs ≡ length old.pairs = ap (λ (xs : List (ℕ × ℕ)). length xs) c.take.ensures.same in
    let taken : length old.waiting ≡ length mid.waiting + 1 = ap (λ (xs : List (ℕ × ℕ)). length xs) c.in-Some.ensures.taken ∙ length-append mid.waiting ((c.in-Some.point, c.in-Some.state) ∷ []) in
    omega (arith, same, taken, c.in_ok-add_demanded.ensures.gains.taken, c.loop-point.invariant.few)

pub loop-point-preserved : goal.loop-point-preserved
loop-point-preserved c =
    let p = c.args.problem.now in
    let old = c.loop-point.found in
    let mid = c.take.new.self in
    let new = c.add_demanded.new.found in
    let x : ℕ × ℕ = (c.in-Some.point, c.in-Some.state) in
    let same = c.take.ensures.same in
    let gains = c.in_ok-add_demanded.ensures.gains in
    let start = subst (λ (xs : List (ℕ × ℕ)). HasStart p xs) (sym same) c.loop-point.invariant.start in
    record {
      few = gains.few (subst (λ (xs : List (ℕ × ℕ)). length xs ≤ 4000000) (sym same) c.loop-point.invariant.few);
      start = start_stays p mid new gains start;
      needed = demanded_needed p mid.pairs new.pairs x (subst (λ (xs : List (ℕ × ℕ)). AreNeeded p xs) (sym same) c.loop-point.invariant.needed) c.in-Some.ensures.there c.add_demanded.ensures.only;
      each = one_taken p old mid new x same c.in-Some.ensures.taken gains c.loop-point.invariant.each (c.in_ok-add_demanded.ensures.there start);
      handed = c.in_ok-add_demanded.ensures.handed;
    }

pub returns-in_err-add_demanded-clause-needed : goal.returns-in_err-add_demanded-clause-needed
returns-in_err-add_demanded-clause-needed c =
    let p = c.args.problem.now in
    let mid = c.take.new.self in
    demanded_needed p mid.pairs c.add_demanded.new.found.pairs (c.in-Some.point, c.in-Some.state) (subst (λ (xs : List (ℕ × ℕ)). AreNeeded p xs) (sym c.take.ensures.same) c.loop-point.invariant.needed)
    c.in-Some.ensures.there c.add_demanded.ensures.only

pub returns-clause-closed : goal.returns-clause-closed
returns-clause-closed c =
    let p = c.args.problem.now in
    subst (λ (xs : List (ℕ × ℕ)). IsClosedReads p xs) (sym c.take.ensures.same)
    (all_taken p c.loop-point.found c.loop-point.invariant.start c.loop-point.invariant.each (none_left c.take.result (λ x e. c.in_default.not-Some x e) c.take.ensures.none))

pub returns-clause-few : goal.returns-clause-few
returns-clause-few c = subst (λ (xs : List (ℕ × ℕ)). length xs ≤ 4000000) (sym c.take.ensures.same) c.loop-point.invariant.few

pub returns-clause-needed : goal.returns-clause-needed
returns-clause-needed c = subst (λ (xs : List (ℕ × ℕ)). AreNeeded c.args.problem.now xs) (sym c.take.ensures.same) c.loop-point.invariant.needed

pub add_demanded-requires-clause-handed : goal.add_demanded-requires-clause-handed
add_demanded-requires-clause-handed c =
    subst (λ (xs : List (ℕ × ℕ)). AreHanded c.args.problem.now (pairs_by_point c.loop-point.handed.items) xs) (sym c.take.ensures.same) c.loop-point.invariant.handed
