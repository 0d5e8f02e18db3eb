use Rattle.std.proofs.Common.{◌∙◌, ap, sym, subst, ℕ, ◌≤◌, Bool, Some}
use Rattle.std.specs.Prelude.{codes}
use Rattle.clap.specs.Matches.{found_of}
use Rattle.clap.specs.Walk.{first_of, rows_of}
use Rattle.hs_words.specs.Words.{is_set, number_or, settings_with}
use Rattle.hs_words.specs.declared.options.Settings.{Settings}
use Rattle.hs_words.proofs.Said.{settings_said}
use Rattle.hs_words.proofs.command.settings.Goals as goal

pub returns-clause-said : goal.returns-clause-said
returns-clause-said c =
    let rows = rows_of (found_of c.args.matches.now) in
    let flags : Bool → Bool → Bool → Bool → Bool → Bool → ℕ → ℕ → ℕ → Settings =
    λ t f n k x m w e s. record { workers = w; entries = e; steps = s; table = t; first = f; minimal = n; quick = k; explain = x; simplify = m } in
    let table = c.is_set.ensures ∙ ap is_set c.value-4.ensures in
    let first = c.is_set-2.ensures ∙ ap is_set c.value-5.ensures in
    let minimal = c.is_set-3.ensures ∙ ap is_set c.value-6.ensures in
    let quick = c.is_set-4.ensures ∙ ap is_set c.value-7.ensures in
    let explain = c.is_set-5.ensures ∙ ap is_set c.value-8.ensures in
    let simplify = c.is_set-6.ensures ∙ ap is_set c.value-9.ensures in
    settings_said (first_of (codes "workers") rows) (first_of (codes "entries") rows) (first_of (codes "steps") rows)
    (flags c.is_set.result c.is_set-2.result c.is_set-3.result c.is_set-4.result c.is_set-5.result c.is_set-6.result) (settings_with rows)
    c.in_ok-workers.workers c.in_ok-entries.entries c.from.result
    (c.in_ok-workers.ensures.number ∙ ap (number_or 4 1 16) c.value.ensures)
    (c.in_ok-entries.ensures.number ∙ ap (number_or 200000 1 1000000) c.value-2.ensures)
    (ap (λ (n : ℕ). Some n) c.from.ensures ∙ (c.in_ok-steps.ensures.number ∙ ap (number_or 1000000 1 4000000) c.value-3.ensures))
    (λ i. flags (table i) (first i) (minimal i) (quick i) (explain i) (simplify i) c.in_ok-workers.workers c.in_ok-entries.entries c.from.result)

pub returns-clause-within : goal.returns-clause-within
returns-clause-within c = record {
  least_workers = c.in_ok-workers.ensures.within.0;
  most_workers = c.in_ok-workers.ensures.within.1;
  least_entries = c.in_ok-entries.ensures.within.0;
  most_entries = c.in_ok-entries.ensures.within.1;
  least_steps = subst (λ (n : ℕ). 1 ≤ n) (sym c.from.ensures) c.in_ok-steps.ensures.within.0;
  most_steps = subst (λ (n : ℕ). n ≤ 4000000) (sym c.from.ensures) c.in_ok-steps.ensures.within.1;
}
