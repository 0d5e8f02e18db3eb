use Rattle.std.proofs.Common.{◌≡◌, ℕ, List, [], Ok, ◌∙◌, ap, sym, refl}
use Rattle.std.proofs.lemmas.Result.{err_from_is_err_and}
use Rattle.hs_reader.specs.Tokens.{rules_begin, automaton_begin}
use Rattle.hs_reader.specs.Reading.{view}
use Rattle.hs_reader.specs.ReadingStages.{start, in_rules, between, in_transitions, closed, read}
use Rattle.hs_reader.proofs.Running.{on, off, continues, start_other, between_other, end_other, file_ends}
use Rattle.hs_reader.proofs.Exact.{read_is_raw}
use Rattle.hs_reader.proofs.reader.file.Goals as goal

pub returns-in_default : goal.returns-in_default
returns-in_default c =
    ap (λ (k : ℕ). read start k c.args.bytes.now) (sym c.new-cursor.ensures.line) ∙ ap (λ (b : List ℕ). read start c.new-cursor.result.line b) (sym c.new-cursor.ensures.rest)
    ∙ off start c.next.new.self.line (view c.next.new.self.line c.next.result) _ _ c.next.ensures.value (start_other c.next.new.self.line c.next.result c.in_default.not-RulesBegin)

pub returns-in_err-rules : goal.returns-in_err-rules
returns-in_err-rules c =
    let p = err_from_is_err_and c.from_residual.result c.from_residual.ensures.1 in
    rw (p.1, p.2) (continues c.in_err-rules.field-0.0 _ _
    (ap (λ (k : ℕ). read start k c.args.bytes.now) (sym c.new-cursor.ensures.line) ∙ ap (λ (b : List ℕ). read start c.new-cursor.result.line b) (sym c.new-cursor.ensures.rest)
    ∙ on start (in_rules []) c.next.new.self.line rules_begin _ _ c.in-RulesBegin.ensures.value refl refl)
    c.in_err-rules.ensures)

pub returns-in_default-next : goal.returns-in_default-next
returns-in_default-next c =
    ap (λ (k : ℕ). read start k c.args.bytes.now) (sym c.new-cursor.ensures.line) ∙ ap (λ (b : List ℕ). read start c.new-cursor.result.line b) (sym c.new-cursor.ensures.rest)
    ∙ on start (in_rules []) c.next.new.self.line rules_begin _ _ c.in-RulesBegin.ensures.value refl refl
    ∙ c.in_ok-rules.ensures
    ∙ off (between c.in_ok-rules.rules.items) c.next-2.new.self.line (view c.next-2.new.self.line c.next-2.result) _ _ c.next-2.ensures.value (between_other c.in_ok-rules.rules.items c.next-2.new.self.line c.next-2.result c.in_default-next.not-AutomatonBegin)

pub returns-in_err-transitions : goal.returns-in_err-transitions
returns-in_err-transitions c =
    let p = err_from_is_err_and c.from_residual-in_err-transitions.result c.from_residual-in_err-transitions.ensures.1 in
    rw (p.1, p.2) (continues c.in_err-transitions.field-0.0 _ _
    (ap (λ (k : ℕ). read start k c.args.bytes.now) (sym c.new-cursor.ensures.line) ∙ ap (λ (b : List ℕ). read start c.new-cursor.result.line b) (sym c.new-cursor.ensures.rest)
    ∙ on start (in_rules []) c.next.new.self.line rules_begin _ _ c.in-RulesBegin.ensures.value refl refl
    ∙ c.in_ok-rules.ensures
    ∙ on (between c.in_ok-rules.rules.items) (in_transitions c.in_ok-rules.rules.items []) c.next-2.new.self.line automaton_begin _ _ c.in-AutomatonBegin.ensures.value refl refl)
    (c.in_err-transitions.ensures c.in_ok-rules.rules.items))

pub returns-in_default-next-2 : goal.returns-in_default-next-2
returns-in_default-next-2 c =
    ap (λ (k : ℕ). read start k c.args.bytes.now) (sym c.new-cursor.ensures.line) ∙ ap (λ (b : List ℕ). read start c.new-cursor.result.line b) (sym c.new-cursor.ensures.rest)
    ∙ on start (in_rules []) c.next.new.self.line rules_begin _ _ c.in-RulesBegin.ensures.value refl refl
    ∙ c.in_ok-rules.ensures
    ∙ on (between c.in_ok-rules.rules.items) (in_transitions c.in_ok-rules.rules.items []) c.next-2.new.self.line automaton_begin _ _ c.in-AutomatonBegin.ensures.value refl refl
    ∙ c.in_ok-transitions.ensures c.in_ok-rules.rules.items
    ∙ off (closed c.in_ok-rules.rules.items c.in_ok-transitions.transitions.items) c.next-3.new.self.line (view c.next-3.new.self.line c.next-3.result) _ _ c.next-3.ensures.value (end_other c.in_ok-rules.rules.items c.in_ok-transitions.transitions.items c.next-3.new.self.line c.next-3.result c.in_default-next-2.not-End)

reading : (c : goal.In-End) → read start 1 c.args.bytes.now ≡ Ok (record { rules = c.in_ok-rules.rules.items; transitions = c.in_ok-transitions.transitions.items })
reading c =
    ap (λ (k : ℕ). read start k c.args.bytes.now) (sym c.new-cursor.ensures.line) ∙ ap (λ (b : List ℕ). read start c.new-cursor.result.line b) (sym c.new-cursor.ensures.rest)
    ∙ on start (in_rules []) c.next.new.self.line rules_begin _ _ c.in-RulesBegin.ensures.value refl refl
    ∙ c.in_ok-rules.ensures
    ∙ on (between c.in_ok-rules.rules.items) (in_transitions c.in_ok-rules.rules.items []) c.next-2.new.self.line automaton_begin _ _ c.in-AutomatonBegin.ensures.value refl refl
    ∙ c.in_ok-transitions.ensures c.in_ok-rules.rules.items
    ∙ file_ends c.in_ok-rules.rules.items c.in_ok-transitions.transitions.items c.next-3.new.self.line _ c.in-End.ensures.value

pub invariant_of-result : goal.invariant_of-result
invariant_of-result c = read_is_raw c.args.bytes.now _ c.requires (reading c)

pub returns : goal.returns
returns c = reading c
