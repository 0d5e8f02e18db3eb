use Rattle.std.proofs.Common.{◌∙◌, refl, false}
use Rattle.std.proofs.lemmas.Result.{err_from_is_err_and}
use Rattle.hs_reader.specs.Tokens.{arrow}
use Rattle.hs_reader.specs.Reading.{view}
use Rattle.hs_reader.specs.ReadingStages.{in_transition, before_arrow}
use Rattle.hs_reader.proofs.Running.{on, off, word_on, cased_fault, terminal_other, arrow_other}
use Rattle.hs_reader.proofs.reader.terminal.Goals as goal

pub returns-in_default-clause-value : goal.returns-in_default-clause-value
returns-in_default-clause-value c = λ rs us q.
    off (in_transition rs us q) c.next.new.self.line (view c.next.new.self.line c.next.result) _ _ c.next.ensures.value (terminal_other rs us q c.next.new.self.line c.next.result c.in_default.not-Name)

pub returns-in_err-terminal-clause-value : goal.returns-in_err-terminal-clause-value
returns-in_err-terminal-clause-value c =
    let p = err_from_is_err_and c.from_residual.result c.from_residual.ensures.1 in
    rw (p.1, p.2) (λ rs us q. cased_fault (in_transition rs us q) (before_arrow rs us q (record { text = c.in-Name.bytes.now; line = c.next.new.self.line })) c.next.new.self.line c.in-Name.bytes.now false c.in_err-terminal.field-0.0 _ _ c.in-Name.ensures.value (λ h. rw h refl) (λ h. rw h refl) c.in_err-terminal.ensures)

pub returns-in_default-next-clause-value : goal.returns-in_default-next-clause-value
returns-in_default-next-clause-value c = λ rs us q.
    word_on (in_transition rs us q) (λ m. before_arrow rs us q m) c.next.new.self.line c.in-Name.bytes.now c.in_ok-terminal.terminal _ _ c.in-Name.ensures.value c.in_ok-terminal.ensures.0 c.in_ok-terminal.ensures.1 (rw c.in_ok-terminal.ensures.2 refl) refl
    ∙ off (before_arrow rs us q c.in_ok-terminal.terminal) c.next-2.new.self.line (view c.next-2.new.self.line c.next-2.result) _ _ c.next-2.ensures.value (arrow_other rs us q c.in_ok-terminal.terminal c.next-2.new.self.line c.next-2.result c.in_default-next.not-Arrow)

pub returns-clause-value : goal.returns-clause-value
returns-clause-value c = λ rs us q.
    word_on (in_transition rs us q) (λ m. before_arrow rs us q m) c.next.new.self.line c.in-Name.bytes.now c.in_ok-terminal.terminal _ _ c.in-Name.ensures.value c.in_ok-terminal.ensures.0 c.in_ok-terminal.ensures.1 (rw c.in_ok-terminal.ensures.2 refl) refl
    ∙ on (before_arrow rs us q c.in_ok-terminal.terminal) _ c.next-2.new.self.line arrow _ _ c.in-Arrow.ensures.value refl refl
