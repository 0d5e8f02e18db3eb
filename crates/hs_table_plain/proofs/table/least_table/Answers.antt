use Rattle.std.proofs.Common.{◌≡◌, sym, ap, subst, length, List, [], ◌∷◌, ◌++◌, None, Some, All, arith}
use Rattle.std.proofs.lemmas.List.{length_push}
use Rattle.hs_table.specs.Entries.{EntryData, InShape}
use Rattle.hs_table.specs.Tables.{IsSupportedTable}
use Rattle.hs_table_plain.proofs.TableLemmas.{supported_push, shapes_push, found_one, found_none}
use Rattle.hs_table_plain.proofs.table.least_table.Goals as goal

pub loop-log-init : goal.loop-log-init
loop-log-init c =
    let p = c.args.problem.now in
    let empty = sym c.new-log.ensures.items in
    record {
      within = omega (arith, ap (λ (xs : List EntryData). length xs) c.new-log.ensures.items);
      supported = subst (λ (T : List EntryData). IsSupportedTable p T) empty
          (record { distinct = λ i j d lt below. absurd (omega arith); follows = λ i x at. let e : None ≡ Some x = at in absurd (cc) });
      shape = subst (λ (T : List EntryData). All (InShape p) T) empty (λ k d lt. absurd (omega arith));
    }

pub returns-then-len-budget-clause-least : goal.returns-then-len-budget-clause-least
returns-then-len-budget-clause-least c =
    let p = c.args.problem.now in
    let log = c.loop-log.log.items in
    let found = found_one p c.as_slice.result.now log c.in_ok-entry.field-0 c.in-Some.entry c.as_slice.ensures.value c.in-Some.is c.in_ok-entry.ensures in
    let long = length_push log c.in-Some.entry in
    (log ++ c.in-Some.entry ∷ [], (supported_push p log c.in-Some.entry c.loop-log.invariant.supported found.0 found.1, omega (arith, long, c.if-len-budget.true, c.len.ensures, c.loop-log.log.ok.0)))

pub returns-then-len-budget-clause-within : goal.returns-then-len-budget-clause-within
returns-then-len-budget-clause-within c =
    let p = c.args.problem.now in
    let log = c.loop-log.log.items in
    let found = found_one p c.as_slice.result.now log c.in_ok-entry.field-0 c.in-Some.entry c.as_slice.ensures.value c.in-Some.is c.in_ok-entry.ensures in
    let long = length_push log c.in-Some.entry in
    (log ++ c.in-Some.entry ∷ [], (supported_push p log c.in-Some.entry c.loop-log.invariant.supported found.0 found.1, omega (arith, long, c.if-len-budget.true, c.len.ensures, c.loop-log.log.ok.0)))

pub loop-log-preserved : goal.loop-log-preserved
loop-log-preserved c =
    let p = c.args.problem.now in
    let log = c.loop-log.log.items in
    let found = found_one p c.as_slice.result.now log c.in_ok-entry.field-0 c.in-Some.entry c.as_slice.ensures.value c.in-Some.is c.in_ok-entry.ensures in
    let is = c.in_ok-push.ensures.items in
    let long = length_push log c.in-Some.entry in
    record {
      within = omega (arith, long, ap (λ xs. length xs) is, c.if-len-budget.false, c.len.ensures, c.loop-log.log.ok.0);
      supported = subst (λ (T : List EntryData). IsSupportedTable p T) (sym is) (supported_push p log c.in-Some.entry c.loop-log.invariant.supported found.0 found.1);
      shape = rw is (shapes_push p log c.in-Some.entry c.requires c.loop-log.invariant.shape found.0);
    }

pub returns-clause-least : goal.returns-clause-least
returns-clause-least c = record {
  supported = c.loop-log.invariant.supported;
  closed = found_none c.args.problem.now c.as_slice.result.now c.loop-log.log.items c.in_ok-entry.field-0 c.as_slice.ensures.value c.in_default.not-Some c.in_ok-entry.ensures;
}

pub returns-clause-within : goal.returns-clause-within
returns-clause-within c = c.loop-log.invariant.within
