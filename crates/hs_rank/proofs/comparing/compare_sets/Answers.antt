use Rattle.std.proofs.Common.{refl, sym, ◌∙◌, ◌<◌, length, map, arith}
use Rattle.std.specs.Cmp.Lexicographic.{slice_cmp}
use Rattle.std.proofs.lemmas.Bool.{eqb-true}
use Rattle.std.proofs.lemmas.Cmp.{lists_total}
use Rattle.hs_table.specs.Types.{type_cmp}
use Rattle.hs_table.proofs.OrderLemmas.{cmp_past_end, cmp_at_item, cmp_behind}
use Rattle.hs_table_laws.proofs.Orders.{type_cmp_total}
use Rattle.hs_types.specs.Interned.{type_of_id, set_of_id}
use Rattle.hs_types.proofs.OrderLemmas.{member_within}
use Rattle.hs_rank.proofs.Reading.{tied_read, read_at_end}
use Rattle.hs_rank.proofs.comparing.compare_sets.Goals as goal

pub returns-then-eq : goal.returns-then-eq
returns-then-eq c = tied_read (slice_cmp type_cmp) (lists_total type_cmp_total) (set_of_id c.args.interner.now) c.args.set c.args.other (eqb-true c.args.set c.args.other (sym c.if-eq.ensures))

pub compare-by_member-requires-clause-a : goal.compare-by_member-requires-clause-a
compare-by_member-requires-clause-a c =
    member_within (length c.args.interner.now.types) c.members-members.result.now c.loop-place.place c.index-members-place.result c.members-members.ensures.range c.loop-place-test.true c.index-members-place.is

pub compare-by_member-requires-clause-b : goal.compare-by_member-requires-clause-b
compare-by_member-requires-clause-b c =
    let within : c.loop-place.place < length c.members-others.result.now = omega (arith, c.loop-place.invariant.within, c.if-place-others.false) in
    member_within (length c.args.interner.now.types) c.members-others.result.now c.loop-place.place c.index-others-place.result c.members-others.ensures.range within c.index-others-place.is

pub returns-then-place-others : goal.returns-then-place-others
returns-then-place-others c =
    let I = c.args.interner.now in
    let f = type_of_id I in
    cmp_past_end (λ a b. type_cmp (f a) (f b)) (λ xs ys. slice_cmp type_cmp (map f xs) (map f ys)) (λ x xs. refl) (λ x y xs ys. refl) c.loop-place.place c.members-members.result.now c.members-others.result.now c.index-members-place.result
    c.index-members-place.is c.loop-place-test.true (omega (arith, c.if-place-others.true))
    ∙ (c.loop-place.invariant.left ∙ (λ i. slice_cmp type_cmp (c.members-members.ensures.members i) (c.members-others.ensures.members i)))

pub returns-then-ne : goal.returns-then-ne
returns-then-ne c =
    let I = c.args.interner.now in
    let f = type_of_id I in
    cmp_at_item (λ a b. type_cmp (f a) (f b)) (λ xs ys. slice_cmp type_cmp (map f xs) (map f ys)) (λ x xs. refl) (λ x y xs ys. refl) c.loop-place.place c.members-members.result.now c.members-others.result.now c.index-members-place.result
    c.index-members-place.is c.loop-place-test.true c.index-others-place.result c.index-others-place.is (omega (arith, c.loop-place.invariant.within, c.if-place-others.false)) c.compare-by_member.result c.compare-by_member.ensures
    c.if-ne.ensures
    ∙ (c.loop-place.invariant.left ∙ (λ i. slice_cmp type_cmp (c.members-members.ensures.members i) (c.members-others.ensures.members i)))

pub loop-place-preserved : goal.loop-place-preserved
loop-place-preserved c =
    let I = c.args.interner.now in
    let f = type_of_id I in
    let below : c.loop-place.place < length c.members-others.result.now = omega (arith, c.loop-place.invariant.within, c.if-place-others.false) in
    record {
      within = omega (arith, below);
      left =
          cmp_behind (λ a b. type_cmp (f a) (f b)) (λ xs ys. slice_cmp type_cmp (map f xs) (map f ys)) (λ x xs. refl) (λ x y xs ys. refl) c.loop-place.place c.members-members.result.now c.members-others.result.now
          c.index-members-place.result c.index-members-place.is c.loop-place-test.true c.index-others-place.result c.index-others-place.is below c.compare-by_member.result c.compare-by_member.ensures c.if-ne.ensures
          ∙ c.loop-place.invariant.left;
    }

pub returns : goal.returns
returns c =
    let f = type_of_id c.args.interner.now in
    c.cmp.ensures
    ∙ (read_at_end type_cmp f c.loop-place.place c.members-members.result.now c.members-others.result.now c.loop-place-test.false c.loop-place.auto.place-end c.loop-place.invariant.within c.loop-place.invariant.left
    ∙ (λ i. slice_cmp type_cmp (c.members-members.ensures.members i) (c.members-others.ensures.members i)))
