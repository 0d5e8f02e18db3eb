use Rattle.std.proofs.Common.{◌∙◌, sym, subst, ap, refl, inl, inr, List, ℕ, length, Option, IfNone, arith}
use Rattle.std.proofs.lemmas.Result.{err_from_is_err_and}
use Rattle.hs_scheme.specs.acceptance.Automaton.{IsAutomaton}
use Rattle.hs_scheme.specs.sorting.Unsorted.{UnsortedData, IsUnsorted}
use Rattle.hs_resolve.specs.declared.fault.NameFault.{NameFault}
use Rattle.hs_resolve.specs.declared.resolving.Tables.{Tables}
use Rattle.hs_resolve.specs.declared.resolving.Numbered.{Numbered}
use Rattle.hs_resolve.specs.declared.resolving.Resolved.{Resolved}
use Rattle.hs_resolve.specs.Answer.{IsFaultless}
use Rattle.hs_resolve.proofs.FirstFault.{not_both, one_fault_is}
use Rattle.hs_resolve.proofs.Sound.{know_automaton, is_unsorted, made-is}
use Rattle.hs_resolve.proofs.resolving.decide.Goals as goal

abbrev of_args : Tables → Numbered → Resolved
of_args tables numbered = record { tables = tables; numbered = numbered }

pub returns-in-Some : goal.returns-in-Some
returns-in-Some c = λ raw is.
    let first = c.in-Some.ensures.fault raw is.tables is.lines in
    record {
      value = tt;
      faultless = tt;
      answered = inr first;
      taken = λ clean. absurd (not_both raw c.in-Some.fault clean first);
      refused = λ f h. inr (one_fault_is raw c.in-Some.fault f first h);
    }

pub put_together-requires-clause-automaton : goal.put_together-requires-clause-automaton
put_together-requires-clause-automaton c =
    let raw = c.requires.some.0 in
    let is = c.requires.some.1 in
    let clean : IsFaultless raw = subst (λ (o : Option NameFault). IfNone o (IsFaultless raw)) c.in_default.is (c.first_fault.ensures.none raw is.tables is.lines) in
    subst IsAutomaton (ap (λ (u : UnsortedData). u.automaton) (sym (made-is raw (of_args c.args.tables.now c.args.numbered) is clean))) (know_automaton raw is.numbered.inside clean)

pub put_together-requires-clause-scheme : goal.put_together-requires-clause-scheme
put_together-requires-clause-scheme c =
    let raw = c.requires.some.0 in
    let is = c.requires.some.1 in
    let clean : IsFaultless raw = subst (λ (o : Option NameFault). IfNone o (IsFaultless raw)) c.in_default.is (c.first_fault.ensures.none raw is.tables is.lines) in
    subst IsUnsorted (sym (made-is raw (of_args c.args.tables.now c.args.numbered) is clean)) (is_unsorted raw is.numbered.inside clean)

pub put_together-requires-clause-few : goal.put_together-requires-clause-few
put_together-requires-clause-few c =
    let raw = c.requires.some.0 in
    let is = c.requires.some.1 in
    let clean : IsFaultless raw = subst (λ (o : Option NameFault). IfNone o (IsFaultless raw)) c.in_default.is (c.first_fault.ensures.none raw is.tables is.lines) in
    let len = ap (λ (ns : List (List ℕ)). length ns) is.tables.states in
    omega (arith, clean.states)

pub returns-in_err-put_together : goal.returns-in_err-put_together
returns-in_err-put_together c = λ raw is.
    let p = err_from_is_err_and c.from_residual.result c.from_residual.ensures.1 in
    rw (p.1, p.2) (record { value = tt; faultless = tt; answered = inl refl; taken = λ clean. refl; refused = λ f h. inl refl })

pub returns : goal.returns
returns c = λ raw is.
    let clean : IsFaultless raw = subst (λ (o : Option NameFault). IfNone o (IsFaultless raw)) c.in_default.is (c.first_fault.ensures.none raw is.tables is.lines) in
    record {
      value = c.in_ok-put_together.ensures ∙ made-is raw (of_args c.args.tables.now c.args.numbered) is clean;
      faultless = clean;
      answered = tt;
      taken = λ again. tt;
      refused = λ f h. not_both raw f clean h;
    }
