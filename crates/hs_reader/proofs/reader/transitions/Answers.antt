use Rattle.std.proofs.Common.{◌≡◌, ◌∙◌, length, sym, refl, arith, vec_len}
use Rattle.std.proofs.lemmas.Bool.{eqb-true, eqb-false}
use Rattle.std.proofs.lemmas.Result.{err_from_is_err_and}
use Rattle.hs_reader.specs.declared.fault.Which.TheVariants as which
use Rattle.hs_reader.specs.Tokens.{automaton_end}
use Rattle.hs_reader.specs.Reading.{view}
use Rattle.hs_reader.specs.ReadingStages.{in_transitions, in_transition, closed}
use Rattle.hs_reader.proofs.Running.{on, off, word_on, word_full, word_fault, continues, full_at, free_at, any_none, any_some, transitions_other}
use Rattle.hs_reader.proofs.reader.transitions.Goals as goal

pub returns-in_err-state-in-Name : goal.returns-in_err-state-in-Name
returns-in_err-state-in-Name c =
    let p = err_from_is_err_and c.from_residual.result c.from_residual.ensures.1 in
    rw (p.1, p.2) (λ rs. continues c.in_err-state-in-Name.field-0.0 _ _ (c.loop-bytes.invariant rs)
    (word_fault (in_transitions rs c.loop-bytes.transitions.items) _ c.next.new.self.line c.in-Name.bytes.now c.in_err-state-in-Name.field-0.0 _ _ c.in-Name.ensures.value refl c.in_err-state-in-Name.ensures))

pub returns-then-len-eq-MAX_TRANSITIONS : goal.returns-then-len-eq-MAX_TRANSITIONS
returns-then-len-eq-MAX_TRANSITIONS c = λ rs.
    c.loop-bytes.invariant rs
    ∙ word_full (in_transitions rs c.loop-bytes.transitions.items) _ c.next.new.self.line c.in-Name.bytes.now which.Transitions _ _ c.in-Name.ensures.value c.in_ok-state-in-Name.ensures.1 refl (full_at (length c.loop-bytes.transitions.items) 200000 which.Transitions (omega arith))

pub returns-in_err-transition-in-Name : goal.returns-in_err-transition-in-Name
returns-in_err-transition-in-Name c =
    let p = err_from_is_err_and c.from_residual-in_err-transition-in-Name.result c.from_residual-in_err-transition-in-Name.ensures.1 in
    rw (p.1, p.2) (λ rs. continues c.in_err-transition-in-Name.field-0.0 _ _
    (c.loop-bytes.invariant rs
    ∙ word_on (in_transitions rs c.loop-bytes.transitions.items) (λ m. in_transition rs c.loop-bytes.transitions.items m) c.next.new.self.line c.in-Name.bytes.now c.in_ok-state-in-Name.state _ _ c.in-Name.ensures.value c.in_ok-state-in-Name.ensures.0 c.in_ok-state-in-Name.ensures.1 refl (free_at (length c.loop-bytes.transitions.items) 200000 which.Transitions (λ e. c.if-len-eq-MAX_TRANSITIONS.false (omega arith))))
    (c.in_err-transition-in-Name.ensures.value rs c.loop-bytes.transitions.items))

pub loop-bytes-preserved : goal.loop-bytes-preserved
loop-bytes-preserved c =
    rw c.in_ok-push-in-Name.ensures.items (λ rs. c.loop-bytes.invariant rs
    ∙ word_on (in_transitions rs c.loop-bytes.transitions.items) (λ m. in_transition rs c.loop-bytes.transitions.items m) c.next.new.self.line c.in-Name.bytes.now c.in_ok-state-in-Name.state _ _ c.in-Name.ensures.value c.in_ok-state-in-Name.ensures.0 c.in_ok-state-in-Name.ensures.1 refl (free_at (length c.loop-bytes.transitions.items) 200000 which.Transitions (λ e. c.if-len-eq-MAX_TRANSITIONS.false (omega arith)))
    ∙ c.in_ok-transition-in-Name.ensures.value rs c.loop-bytes.transitions.items)

pub returns-then-is_empty : goal.returns-then-is_empty
returns-then-is_empty c =
    let empty : vec_len c.loop-bytes.transitions ≡ 0 = eqb-true _ _ (sym c.is_empty.ensures ∙ c.if-is_empty.true) in
    λ rs. c.loop-bytes.invariant rs ∙ off (in_transitions rs c.loop-bytes.transitions.items) c.next.new.self.line automaton_end _ _ c.in-AutomatonEnd.ensures.value (any_none c.loop-bytes.transitions.items (closed rs c.loop-bytes.transitions.items) (omega arith))

pub returns-in-AutomatonEnd : goal.returns-in-AutomatonEnd
returns-in-AutomatonEnd c =
    let some : vec_len c.loop-bytes.transitions ≡ 0 → ⊥ = eqb-false _ _ (sym c.is_empty.ensures ∙ c.if-is_empty.false) in
    λ rs. c.loop-bytes.invariant rs ∙ on (in_transitions rs c.loop-bytes.transitions.items) _ c.next.new.self.line automaton_end _ _ c.in-AutomatonEnd.ensures.value (any_some c.loop-bytes.transitions.items (closed rs c.loop-bytes.transitions.items) (λ e. some (omega arith))) refl

pub returns-in_default : goal.returns-in_default
returns-in_default c = λ rs.
    c.loop-bytes.invariant rs
    ∙ off (in_transitions rs c.loop-bytes.transitions.items) c.next.new.self.line (view c.next.new.self.line c.next.result) _ _ c.next.ensures.value (transitions_other rs c.loop-bytes.transitions.items c.next.new.self.line c.next.result c.in_default.not-Name c.in_default.not-AutomatonEnd)
