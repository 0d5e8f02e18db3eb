use Rattle.std.proofs.Common.{◌≡◌, sym, ◌∙◌, ap, ℕ, not, true, false, length, Some}
use Rattle.std.proofs.lemmas.Bool.{ltb-true}
use Rattle.std.proofs.lemmas.Option.{slice_get-get_or}
use Rattle.hs_checker.proofs.NumberLemmas.{has_exact}
use Rattle.hs_checker.proofs.terminals.asks_in_vain.Goals as goal

pub returns-in-Some : goal.returns-in-Some
returns-in-Some c = λ h.
    let exact = has_exact c.args.types.now c.know_numbers.ensures c.args.index.now c.in-Some.arg.now c.args.ty c.requires.rows c.requires.ty in (
      c.in-Some.arg.now,
      (
        slice_get-get_or c.args.args.now c.args.place c.in-Some.arg.now (ltb-true c.args.place (length c.args.args.now) (sym c.in-Some.ensures.lookup.0)) ∙ ap (λ (u : ℕ). Some u) (sym c.in-Some.ensures.lookup.1),
        λ has. let f : false ≡ true = sym (ap not (c.has.ensures.1 (exact.1 has))) ∙ h in absurd (cc),
      ),
    )
