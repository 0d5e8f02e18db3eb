use Rattle.std.proofs.Common.{◌≡◌, ◌∙◌, ap, subst, ℕ, ◌≤◌, false, List, Option, arith}
use Rattle.std.specs.Prelude.{◌&&◌, is_some, option_map, codes, IfSome}
use Rattle.std.specs.Borrow.{Bor}
use Rattle.std.proofs.lemmas.Grind.{common_steps}
use Rattle.clap.specs.Matches.{found_of}
use Rattle.clap.specs.Walk.{first_of, rows_of}
use Rattle.hs_words.specs.Words.{number_if, settings_in}
use Rattle.hs_words.proofs.Said.{said_of}
use Rattle.hs_words.proofs.command.options.Goals as goal

pub returns-clause-said : goal.returns-clause-said
returns-clause-said c =
    let one : is_some c.in_ok-cycle.cycle && is_some (option_map (λ (f : Bor (List ℕ)). f.now) c.value-file.result) ≡ false = grind (arith, common_steps) in
    let rows = rows_of (found_of c.args.matches.now) in
    said_of (settings_in rows) (first_of (codes "gen") rows) (first_of (codes "file") rows) (option_map (λ (f : Bor (List ℕ)). f.now) c.value-file.result)
    c.in_ok-settings.settings c.in_ok-cycle.cycle
    c.in_ok-settings.ensures.said
    (c.in_ok-cycle.ensures.number ∙ ap (number_if 1 300) c.value.ensures)
    c.value-file.ensures one

pub returns-clause-within : goal.returns-clause-within
returns-clause-within c = record {
  settings = c.in_ok-settings.ensures.within;
  cycle = λ k is. subst (λ (o : Option ℕ). IfSome o (λ n. (1 ≤ n) × (n ≤ 300))) is c.in_ok-cycle.ensures.within;
  one = grind (arith, common_steps);
}
