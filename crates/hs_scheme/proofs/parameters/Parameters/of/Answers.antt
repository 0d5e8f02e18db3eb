use Rattle.std.proofs.Common.{◌≡◌, refl, ◌∙◌, ap, sym, subst, ℕ, ◌^◌, ◌<◌, ◌≤◌, List, ◌++◌, ◌∷◌, [], take, sum, length, slice_index, arith}
use Rattle.std.proofs.lemmas.List.{length_push, length-map, take_all}
use Rattle.std.proofs.lemmas.Result.{err_from_is_err_and}
use Rattle.hs_scheme.specs.declared.term.Rule.{Rule}
use Rattle.hs_scheme.specs.sorting.Parameters.{counts_of, IsNumbering}
use Rattle.hs_scheme.proofs.ParameterLemmas.{counts_more, sum_more, sum_within, row_more}
use Rattle.hs_scheme.proofs.Exits.{if_ok_err}
use Rattle.hs_scheme.proofs.parameters.Parameters.of.Goals as goal

as_many : (rules : List Rule) → length (counts_of rules) ≡ length rules
as_many rules = length-map rules (λ (r : Rule). r.params)

-- the rules are counted, all of them
module _ (rules : List Rule) (i : ℕ) (counts : List ℕ) (all : length rules ≤ i) (within : i ≤ length rules) (so_far : counts ≡ take i (counts_of rules)) where
  whole : counts ≡ counts_of rules
  whole = so_far ∙ take_all i (counts_of rules) (omega (arith, as_many rules))

  numbered : (firsts new : List ℕ) (total : ℕ) → sum (counts_of rules) < 2 ^ 32 → length firsts ≡ i → new ≡ firsts ++ total ∷ [] → total ≡ sum (take i (counts_of rules))
      → ((rule : ℕ) → rule < i → slice_index firsts rule ≡ sum (take rule (counts_of rules))) → IsNumbering counts new
  numbered firsts new total few long is last each = record {
    few = subst (λ ns. sum ns < 2 ^ 32) (sym whole) few;
    long = ap length is ∙ (length_push firsts total ∙ omega (arith, as_many rules, ap length whole));
    each = λ rule le. row_more firsts new i total (λ k. sum (take k (counts_of rules))) long is last each rule (omega (arith, as_many rules, ap length whole)) ∙ ap (λ ns. sum (take rule ns)) (sym whole);
  }

pub returns-in_err-counts : goal.returns-in_err-counts
returns-in_err-counts c = if_ok_err _ (err_from_is_err_and c.from_residual.result c.from_residual.ensures.1).1

pub returns-in_err-firsts : goal.returns-in_err-firsts
returns-in_err-firsts c = if_ok_err _ (err_from_is_err_and c.from_residual-in_err-firsts.result c.from_residual-in_err-firsts.ensures.1).1

pub loop-rule-init : goal.loop-rule-init
loop-rule-init c = record {
  counts = c.in_ok-counts.ensures.items;
  counted = c.in_ok-counts.ensures.len;
  counts_room = omega (arith, c.in_ok-counts.ensures.capacity);
  long = ap length c.in_ok-firsts.ensures.items;
  each = λ rule lt. absurd (omega arith);
  firsts_room = omega (arith, c.in_ok-firsts.ensures.capacity);
  total = refl;
}

pub push_reserved-requires : goal.push_reserved-requires
push_reserved-requires c = omega (arith, c.loop-rule.invariant.counted, c.loop-rule.invariant.counts_room, c.loop-rule-test.true)

pub push_reserved-requires-in-loop-rule : goal.push_reserved-requires-in-loop-rule
push_reserved-requires-in-loop-rule c = omega (arith, c.loop-rule.firsts.ok, c.loop-rule.invariant.long, c.loop-rule.invariant.firsts_room, c.loop-rule-test.true)

pub push_reserved-requires-2 : goal.push_reserved-requires-2
push_reserved-requires-2 c = omega (arith, c.loop-rule.firsts.ok, c.loop-rule.invariant.long, c.loop-rule.invariant.firsts_room)

pub invariant_of-result : goal.invariant_of-result
invariant_of-result c =
    let i = c.loop-rule.invariant in
    numbered c.args.rules.now c.loop-rule.rule-index c.loop-rule.counts.items c.loop-rule-test.false (omega arith) i.counts c.loop-rule.firsts.items c.push_reserved-2.new.self.items c.loop-rule.total c.requires i.long c.push_reserved-2.ensures.items i.total i.each

pub returns : goal.returns
returns c = whole c.args.rules.now c.loop-rule.rule-index c.loop-rule.counts.items c.loop-rule-test.false (omega arith) c.loop-rule.invariant.counts

pub overflow_add-total : goal.overflow_add-total
overflow_add-total c = omega (arith, sum_within c.args.rules.now c.loop-rule.rule-index c.rule-item.result c.loop-rule-test.true c.rule-item.is)

pub loop-rule-preserved : goal.loop-rule-preserved
loop-rule-preserved c = record {
  counts = c.push_reserved.ensures.items ∙ (ap (λ ns. ns ++ c.rule-item.result.params ∷ []) c.loop-rule.invariant.counts ∙ sym (counts_more c.args.rules.now c.loop-rule.rule-index c.rule-item.result c.loop-rule-test.true c.rule-item.is));
  counted = omega (arith, c.push_reserved.ensures.len, c.loop-rule.invariant.counted);
  counts_room = omega (arith, c.push_reserved.ensures.capacity, c.loop-rule.invariant.counts_room);
  long = ap length c.push_reserved-in-loop-rule.ensures.items ∙ (length_push c.loop-rule.firsts.items _ ∙ omega arith);
  each = row_more c.loop-rule.firsts.items c.push_reserved-in-loop-rule.new.self.items c.loop-rule.rule-index c.loop-rule.total (λ k. sum (take k (counts_of c.args.rules.now))) c.loop-rule.invariant.long
      c.push_reserved-in-loop-rule.ensures.items c.loop-rule.invariant.total c.loop-rule.invariant.each;
  firsts_room = omega (arith, c.push_reserved-in-loop-rule.ensures.capacity, c.loop-rule.invariant.firsts_room);
  total = ap (λ n. n) (omega (arith, sum_more c.args.rules.now c.loop-rule.rule-index c.rule-item.result c.loop-rule-test.true c.rule-item.is));
}
