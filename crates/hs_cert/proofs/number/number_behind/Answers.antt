use Rattle.std.proofs.Common.{◌≡◌, ◌≢◌, ℕ, ◌<◌, ◌++◌, ◌^◌, sym, ◌∙◌, ap, decimal, Some, None, List}
use Rattle.std.proofs.lemmas.Bool.Decides.{Decides-eqb}
use Rattle.std.proofs.lemmas.List.{append_cancel_left}
use Rattle.std.proofs.lemmas.Slice.Eq.{strip_prefix_is}
use Rattle.hs_cert.proofs.Numbers.{some_map, none_map}
use Rattle.hs_cert.proofs.number.number_behind.Goals as goal

pub returns-in-Some-clause-some : goal.returns-in-Some-clause-some
returns-in-Some-clause-some c =
    let line = c.args.line.now in
    let words = c.args.words.now in
    let digits = c.in-Some.digits.now in
    let spelled : line ≡ words ++ digits = strip_prefix_is Decides-eqb line words (Some c.in-Some.digits) c.in-Some.ensures.cases in
    some_map c.number_of.result (λ n. digits ≡ decimal n) (λ n. line ≡ words ++ decimal n) (λ n e. spelled ∙ ap (λ (x : List ℕ). words ++ x) e) c.number_of.ensures.some

pub returns-in-Some-clause-none : goal.returns-in-Some-clause-none
returns-in-Some-clause-none c =
    let line = c.args.line.now in
    let words = c.args.words.now in
    let digits = c.in-Some.digits.now in
    let spelled : line ≡ words ++ digits = strip_prefix_is Decides-eqb line words (Some c.in-Some.digits) c.in-Some.ensures.cases in
    none_map c.number_of.result ((n : ℕ) → n < 2 ^ 64 → digits ≢ decimal n) ((n : ℕ) → n < 2 ^ 64 → line ≢ words ++ decimal n)
    (λ f n small e. f n small (append_cancel_left words digits (decimal n) (sym spelled ∙ e))) c.number_of.ensures.none

pub returns-in-None-clause-none : goal.returns-in-None-clause-none
returns-in-None-clause-none c = λ n small e. strip_prefix_is Decides-eqb c.args.line.now c.args.words.now None c.in-None.ensures.cases (decimal n) e
