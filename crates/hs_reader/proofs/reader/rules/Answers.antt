use Rattle.std.proofs.Common.{◌≡◌, ◌∙◌, [], length, sym, refl, arith, vec_len, true}
use Rattle.std.proofs.lemmas.Bool.{eqb-true, eqb-false}
use Rattle.std.proofs.lemmas.Result.{err_from_is_err_and}
use Rattle.hs_reader.specs.declared.fault.Which.TheVariants as which
use Rattle.hs_reader.specs.Tokens.{rules_end}
use Rattle.hs_reader.specs.Reading.{view}
use Rattle.hs_reader.specs.ReadingStages.{in_rules, in_head, between}
use Rattle.hs_reader.proofs.Running.{on, off, word_on, word_full, cased_fault, continues, full_at, free_at, any_none, any_some, rules_other}
use Rattle.hs_reader.proofs.reader.rules.Goals as goal

pub returns-in_err-name-in-Name : goal.returns-in_err-name-in-Name
returns-in_err-name-in-Name c =
    let p = err_from_is_err_and c.from_residual.result c.from_residual.ensures.1 in
    rw (p.1, p.2) (continues c.in_err-name-in-Name.field-0.0 _ _ c.loop-bytes.invariant
    (cased_fault (in_rules c.loop-bytes.rules.items) (in_head c.loop-bytes.rules.items (record { text = c.in-Name.bytes.now; line = c.next.new.self.line }) []) c.next.new.self.line c.in-Name.bytes.now true c.in_err-name-in-Name.field-0.0 _ _ c.in-Name.ensures.value (λ h. rw h refl) (λ h. rw h refl) c.in_err-name-in-Name.ensures))

pub returns-then-len-eq-MAX_RULES : goal.returns-then-len-eq-MAX_RULES
returns-then-len-eq-MAX_RULES c =
    c.loop-bytes.invariant
    ∙ word_full (in_rules c.loop-bytes.rules.items) (in_head c.loop-bytes.rules.items (record { text = c.in-Name.bytes.now; line = c.next.new.self.line }) []) c.next.new.self.line c.in-Name.bytes.now which.Rules _ _ c.in-Name.ensures.value c.in_ok-name-in-Name.ensures.1 (rw c.in_ok-name-in-Name.ensures.2 refl) (full_at (length c.loop-bytes.rules.items) 20000 which.Rules (omega arith))

pub returns-in_err-rule-in-Name : goal.returns-in_err-rule-in-Name
returns-in_err-rule-in-Name c =
    let p = err_from_is_err_and c.from_residual-in_err-rule-in-Name.result c.from_residual-in_err-rule-in-Name.ensures.1 in
    rw (p.1, p.2) (continues c.in_err-rule-in-Name.field-0.0 _ _
    (c.loop-bytes.invariant
    ∙ word_on (in_rules c.loop-bytes.rules.items) (λ m. in_head c.loop-bytes.rules.items m []) c.next.new.self.line c.in-Name.bytes.now c.in_ok-name-in-Name.name _ _ c.in-Name.ensures.value c.in_ok-name-in-Name.ensures.0 c.in_ok-name-in-Name.ensures.1 (rw c.in_ok-name-in-Name.ensures.2 refl) (free_at (length c.loop-bytes.rules.items) 20000 which.Rules (λ e. c.if-len-eq-MAX_RULES.false (omega arith))))
    (c.in_err-rule-in-Name.ensures.value c.loop-bytes.rules.items))

pub loop-bytes-preserved : goal.loop-bytes-preserved
loop-bytes-preserved c =
    rw c.in_ok-push-in-Name.ensures.items (c.loop-bytes.invariant
    ∙ word_on (in_rules c.loop-bytes.rules.items) (λ m. in_head c.loop-bytes.rules.items m []) c.next.new.self.line c.in-Name.bytes.now c.in_ok-name-in-Name.name _ _ c.in-Name.ensures.value c.in_ok-name-in-Name.ensures.0 c.in_ok-name-in-Name.ensures.1 (rw c.in_ok-name-in-Name.ensures.2 refl) (free_at (length c.loop-bytes.rules.items) 20000 which.Rules (λ e. c.if-len-eq-MAX_RULES.false (omega arith)))
    ∙ c.in_ok-rule-in-Name.ensures.value c.loop-bytes.rules.items)

pub returns-then-is_empty : goal.returns-then-is_empty
returns-then-is_empty c =
    let empty : vec_len c.loop-bytes.rules ≡ 0 = eqb-true _ _ (sym c.is_empty.ensures ∙ c.if-is_empty.true) in
    c.loop-bytes.invariant ∙ off (in_rules c.loop-bytes.rules.items) c.next.new.self.line rules_end _ _ c.in-RulesEnd.ensures.value (any_none c.loop-bytes.rules.items (between c.loop-bytes.rules.items) (omega arith))

pub returns-in-RulesEnd : goal.returns-in-RulesEnd
returns-in-RulesEnd c =
    let some : vec_len c.loop-bytes.rules ≡ 0 → ⊥ = eqb-false _ _ (sym c.is_empty.ensures ∙ c.if-is_empty.false) in
    c.loop-bytes.invariant ∙ on (in_rules c.loop-bytes.rules.items) _ c.next.new.self.line rules_end _ _ c.in-RulesEnd.ensures.value (any_some c.loop-bytes.rules.items (between c.loop-bytes.rules.items) (λ e. some (omega arith))) refl

pub returns-in_default : goal.returns-in_default
returns-in_default c =
    c.loop-bytes.invariant
    ∙ off (in_rules c.loop-bytes.rules.items) c.next.new.self.line (view c.next.new.self.line c.next.result) _ _ c.next.ensures.value (rules_other c.loop-bytes.rules.items c.next.new.self.line c.next.result c.in_default.not-Name c.in_default.not-RulesEnd)
