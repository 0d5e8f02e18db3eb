-- What is told behind a line, and that it explains an answer of a run.
use Rattle.std.proofs.Common.{◌≡◌, refl, sym, ◌∙◌, ap, subst, ℕ, ◌+◌, ◌⊎◌, inl, inr, Bool, true, ◌||◌, List, [], ◌∷◌, ◌++◌, Option, None, Err, append_assoc, append-nil, length, length-append, take, arith}
use Rattle.std.specs.Prelude.{Result, Some, option_map}
use Rattle.std.specs.Borrow.{Bor}
use Rattle.std.specs.List.{list_any}
use Rattle.std.proofs.lemmas.List.{take-append-le}
use Rattle.std.proofs.Math.Seq.{take-append-add}
use Rattle.hs_edge.specs.Count.{Rose}
use Rattle.hs_edge.specs.Writing.{AddsPart}
use Rattle.hs_front.specs.declared.refusal.Refusal.{Refusal}
use Rattle.hs_front.specs.declared.refusal.Refusal.TheVariants.{Usage, OutOfMemory}
use Rattle.hs_front.specs.Outside.{SourceRun, SinkRun, HasTakenOrFailed}
use Rattle.hs_front.specs.Refusal.{line_of, HasFixedLine}
use Rattle.hs_front.specs.Telling.{TellsRefusal}
use Rattle.hs_app.specs.declared.verdict.Decided.{Decided}
use Rattle.hs_app.specs.Order.{Order, bytes_of, order_of, ordered}
use Rattle.hs_app.specs.Explaining.{ExplainsAnswer, IsExplanation, TellsAndExplains}
use Rattle.hs_app.specs.Outcome.{IsExplained, MayExplain}
use Rattle.hs_words.specs.Words.{OptionsData, options_of, texts}
use Rattle.hs_passes.specs.Passing.{Image}

-- an explanation of the answer on the bytes of the job is one of the run
pub may_explain : (mentioned : Bool) (o : Order) (source : SourceRun) (bytes : List ℕ) (answer : Result Decided Refusal) (text : List ℕ) → bytes ≡ bytes_of o.job source.after.given
    → IsExplanation o.asked.settings.explain bytes answer text → MayExplain mentioned source answer text (Some o)
may_explain mentioned o source bytes answer text e (inl none) = inl none
may_explain mentioned o source bytes answer text e (inr (asked, is)) = inr (asked, subst (λ (b : List ℕ). ExplainsAnswer b answer text) e is)

-- so is what is said of words that are refused, where `--explain` is among them
words_explained : (mentioned : Bool) (source : SourceRun) (text : List ℕ) (order : Option Order) → order ≡ None → (text ≡ []) ⊎ (mentioned ≡ true) → MayExplain mentioned source (Err Usage) text order
words_explained mentioned source text order e (inl none) = inl none
words_explained mentioned source text order e (inr asked) = inr (subst (IsExplained mentioned source (Err Usage) text) (sym e) (refl, asked))

pub usage_explained : (images : List Image) (words : List (List ℕ)) (mentioned : Bool) (source : SourceRun) (text : List ℕ) → options_of words ≡ None → (text ≡ []) ⊎ (mentioned ≡ true)
    → MayExplain mentioned source (Err Usage) text (ordered images words)
usage_explained images words mentioned source text none h =
    words_explained mentioned source text (ordered images words) (ap (λ (o : Option OptionsData). option_map (order_of images) o) none) h

-- what is said of a file that wasn't read is nothing, or that is asked for
pub unread_explained : (asked : Bool) (bytes text : List ℕ) (refusal : Refusal) → (text ≡ []) ⊎ (asked ≡ true) → IsExplanation asked bytes (Err refusal) text
unread_explained asked bytes text refusal (inl none) = inl none
unread_explained asked bytes text refusal (inr is) = inr (is, tt)

-- a test of the words is one of their texts
pub any_of_texts : (test : List ℕ → Bool) (words : List (Bor (List ℕ))) → list_any (λ w. test w.now) words ≡ list_any test (texts words)
any_of_texts test [] = refl
any_of_texts test (w ∷ ws) = ap (λ b. test w.now || b) (any_of_texts test ws)

-- a line that was taken with the text behind it, or with a part of that
pub told_behind : (taken mid after line text : List ℕ) (f g h : ℕ) → mid ≡ taken ++ line → g ≡ f
    → (after ≡ mid ++ text) ⊎ (AddsPart mid after text × Rose g h)
    → (after ≡ taken ++ (line ++ text)) ⊎ (AddsPart taken after (line ++ text) × Rose f h)
told_behind taken mid after line text f g h is same (inl all) = inl (all ∙ (ap (λ m. m ++ text) is ∙ append_assoc taken line text))
told_behind taken mid after line text f g h is same (inr ((n, lt, part), rose)) = inr (
  (
    length line + n,
    omega (arith, length-append line text),
    part ∙ (ap (λ m. m ++ take n text) is ∙ (append_assoc taken line (take n text) ∙ ap (λ xs. taken ++ xs) (sym (take-append-add line text n)))),
  ),
  subst (λ k. Rose k h) same rose,
)

-- a part of a line is a part of the line with a text behind it
pub told_part : (taken after line text : List ℕ) → AddsPart taken after line → AddsPart taken after (line ++ text)
told_part taken after line text (n, lt, part) = (
  n,
  omega (arith, length-append line text),
  part ∙ ap (λ xs. taken ++ xs) (sym (take-append-le n line text (omega arith))),
)

-- a refusal that is told alone
pub told_alone : (words : List ℕ) (refusal told : Refusal) (text : List ℕ) (err : SinkRun) → text ≡ [] → TellsRefusal words refusal err told → TellsAndExplains words refusal text err told
told_alone words refusal told text err none (inl (is, taken)) =
    inl (is, subst (HasTakenOrFailed err) (sym (append-nil (line_of words refusal)) ∙ ap (λ xs. line_of words refusal ++ xs) (sym none)) taken)
told_alone words refusal told text err none (inr (changes, is, taken)) = inr (changes, is, taken)

-- want of memory, where a line can't be formed
pub told_memory : (words : List ℕ) (refusal told : Refusal) (text : List ℕ) (err : SinkRun) → (HasFixedLine refusal → ⊥) → TellsRefusal words OutOfMemory err told → TellsAndExplains words refusal text err told
told_memory words refusal told text err made (inl (is, taken)) = inr (made, is, taken)
told_memory words refusal told text err made (inr (changes, is, taken)) = absurd (changes tt)
