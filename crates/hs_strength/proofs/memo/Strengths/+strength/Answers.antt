use Rattle.std.proofs.Common.{◌∙◌, sym, IsTrue, ◌↔◌, length, arith, rules}
use Rattle.std.proofs.lemmas.Bool.{false≢true}
use Rattle.std.proofs.lemmas.Result.{IfOk-weaker}
use Rattle.hs_weak.specs.Strength.{AsStrongAs, AsksFor, AsksEach}
use Rattle.hs_weak.proofs.ComparingLemmas.{states_compare, arrows_compare}
use Rattle.hs_types.specs.Interned.{type_of_id, set_of_id}
use Rattle.hs_types.proofs.OrderLemmas.{member_lower, member_within}
use Rattle.hs_strength.specs.declared.answers.Question.TheVariants.{Types, Sets}
use Rattle.hs_strength.proofs.Rows.{each_more, each_all, each_mapped}
use Rattle.hs_strength.proofs.Memory.{learned}
use Rattle.hs_strength.proofs.Comparing.{agreed, refused}
use Rattle.hs_strength.proofs.memo.Strengths.+strength.Goals as goal

pub asks-is_as_strong-requires : goal.asks-is_as_strong-requires
asks-is_as_strong-requires t c =
    let I = c.args.types.now in
    let lower = member_lower I.types (set_of_id I c.args.set) c.members-members.result.now c.loop-member.member-index c.member-item.result c.members-members.ensures.members c.loop-member-test.true c.member-item.is in (
      omega (arith, c.decreases, lower),
      (
        member_within (length I.types) c.members-members.result.now c.loop-member.member-index c.member-item.result c.members-members.ensures.range c.loop-member-test.true c.member-item.is,
        (c.requires.ty, c.loop-member.invariant.memo),
      ),
    )

pub asks-loop-member-preserved : goal.asks-loop-member-preserved
asks-loop-member-preserved t c =
    let I = c.args.types.now in
    let x = type_of_id I c.args.ty in
    record {
      memo = c.is_as_strong.ensures.memo;
      lacks = each_more (λ m. AsStrongAs (type_of_id I m) x → ⊥) c.members-members.result.now c.loop-member.member-index c.member-item.result c.loop-member-test.true c.member-item.is c.loop-member.invariant.lacks
          (λ h. false≢true (sym c.if-branch.false ∙ c.in_ok-is_as_strong.ensures.ok.1 h));
    }

pub asks-returns-clause-ok : goal.asks-returns-clause-ok
asks-returns-clause-ok t c =
    let I = c.args.types.now in
    let x = type_of_id I c.args.ty in
    let ms = c.members-members.result.now in
    refused (AsksFor AsStrongAs (set_of_id I c.args.set) x)
    (λ f. each_mapped (type_of_id I) (λ a. AsStrongAs a x → ⊥) ms (set_of_id I c.args.set) c.members-members.ensures.members
    (each_all (λ m. AsStrongAs (type_of_id I m) x → ⊥) ms c.loop-member.member-index (omega (arith, c.loop-member-test.false)) c.loop-member.invariant.lacks) f.0 f.1.0 f.1.1)

pub asks_each-returns-in-Some-clause-ok : goal.asks_each-returns-in-Some-clause-ok
asks_each-returns-in-Some-clause-ok t c = (c.requires.memo.answers (Sets c.args.set c.args.other) c.in-Some.answer c.in-Some.ensures).2

pub asks_each-returns-in_err-keep-clause-memo : goal.asks_each-returns-in_err-keep-clause-memo
asks_each-returns-in_err-keep-clause-memo t c =
    learned c.args.types.now c.compare_sets.new.self c.keep.new.self (Sets c.args.set c.args.other) c.in_ok-answer.answer c.compare_sets.ensures.memo (c.requires.set, c.requires.other, c.in_ok-answer.ensures.ok) c.keep.ensures

pub asks_each-returns-clause-memo : goal.asks_each-returns-clause-memo
asks_each-returns-clause-memo t c =
    learned c.args.types.now c.compare_sets.new.self c.keep.new.self (Sets c.args.set c.args.other) c.in_ok-answer.answer c.compare_sets.ensures.memo (c.requires.set, c.requires.other, c.in_ok-answer.ensures.ok) c.keep.ensures

pub compare-returns-in-State-view-clause-ok : goal.compare-returns-in-State-view-clause-ok
compare-returns-in-State-view-clause-ok t c =
    let I = c.args.types.now in
    states_compare c.in-State.q c.in-State-view.p (type_of_id I c.args.ty) (type_of_id I c.args.other) c.in-State.ensures c.in-State-view.ensures

pub compare-returns-else-not-branch-clause-ok : goal.compare-returns-else-not-branch-clause-ok
compare-returns-else-not-branch-clause-ok t c =
    let I = c.args.types.now in
    let x = type_of_id I c.args.ty in
    let y = type_of_id I c.args.other in
    let s = set_of_id I c.in-Arrow.set in
    let r = set_of_id I c.in-Arrow-view-2.other_set in
    let results : AsStrongAs (type_of_id I c.in-Arrow.rest) (type_of_id I c.in-Arrow-view-2.other_rest) = search rules in
    IfOk-weaker c.asks_each.result (λ answer. IsTrue answer ↔ AsksEach AsStrongAs r s) (λ answer. IsTrue answer ↔ AsStrongAs x y)
    (λ answer asks. arrows_compare s r (type_of_id I c.in-Arrow.rest) (type_of_id I c.in-Arrow-view-2.other_rest) x y c.in-Arrow.ensures.2 c.in-Arrow-view-2.ensures.2 results (IsTrue answer) asks) c.asks_each.ensures.ok

pub compare_sets-asks-requires : goal.compare_sets-asks-requires
compare_sets-asks-requires t c =
    let I = c.args.types.now in
    let lower = member_lower I.types (set_of_id I c.args.other) c.members-members.result.now c.loop-member.member-index c.member-item.result c.members-members.ensures.members c.loop-member-test.true c.member-item.is in (
      omega (arith, c.decreases, lower),
      (
        c.requires.set,
        (
          member_within (length I.types) c.members-members.result.now c.loop-member.member-index c.member-item.result c.members-members.ensures.range c.loop-member-test.true c.member-item.is,
          c.loop-member.invariant.memo,
        ),
      ),
    )

pub compare_sets-returns-then-not-may_ask_each-clause-ok : goal.compare_sets-returns-then-not-may_ask_each-clause-ok
compare_sets-returns-then-not-may_ask_each-clause-ok t c =
    let I = c.args.types.now in
    refused (AsksEach AsStrongAs (set_of_id I c.args.set) (set_of_id I c.args.other)) (λ h. false≢true (sym c.if-not-may_ask_each.true ∙ c.may_ask_each.ensures h))

pub compare_sets-returns-clause-ok : goal.compare_sets-returns-clause-ok
compare_sets-returns-clause-ok t c =
    let I = c.args.types.now in
    let s = set_of_id I c.args.set in
    let ms = c.members-members.result.now in
    agreed (AsksEach AsStrongAs s (set_of_id I c.args.other)) (each_mapped (type_of_id I) (λ a. AsksFor AsStrongAs s a) ms (set_of_id I c.args.other) c.members-members.ensures.members
    (each_all (λ m. AsksFor AsStrongAs s (type_of_id I m)) ms c.loop-member.member-index (omega (arith, c.loop-member-test.false)) c.loop-member.invariant.asked))

pub is_as_strong-returns-in-Some-clause-ok : goal.is_as_strong-returns-in-Some-clause-ok
is_as_strong-returns-in-Some-clause-ok t c = (c.requires.memo.answers (Types c.args.ty c.args.other) c.in-Some.answer c.in-Some.ensures).2

pub is_as_strong-returns-in_err-keep-clause-memo : goal.is_as_strong-returns-in_err-keep-clause-memo
is_as_strong-returns-in_err-keep-clause-memo t c =
    learned c.args.types.now c.compare.new.self c.keep.new.self (Types c.args.ty c.args.other) c.in_ok-answer.answer c.compare.ensures.memo (c.requires.ty, c.requires.other, c.in_ok-answer.ensures.ok) c.keep.ensures

pub is_as_strong-returns-clause-memo : goal.is_as_strong-returns-clause-memo
is_as_strong-returns-clause-memo t c =
    learned c.args.types.now c.compare.new.self c.keep.new.self (Types c.args.ty c.args.other) c.in_ok-answer.answer c.compare.ensures.memo (c.requires.ty, c.requires.other, c.in_ok-answer.ensures.ok) c.keep.ensures
