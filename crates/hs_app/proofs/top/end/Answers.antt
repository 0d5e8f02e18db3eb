use Rattle.std.proofs.Common.{refl, sym, ◌∙◌, ap, subst, inl, inr, [], ◌++◌, ℕ, List, append-nil, Err}
use Rattle.hs_front.specs.declared.refusal.Refusal.{Refusal}
use Rattle.hs_front.specs.Refusal.{line_of}
use Rattle.hs_words.specs.Words.{texts}
use Rattle.hs_app.specs.Order.{ordered}
use Rattle.hs_front.specs.Outside.{source_run, sink_run, HasTakenOrFailed}
use Rattle.hs_app.specs.Explaining.{mentions_explain}
use Rattle.hs_app.specs.Outcome.{usage, HasCause, MayExplain, Refuses}
use Rattle.hs_app.proofs.OutcomeLemmas.{any_cause}
use Rattle.hs_app.proofs.top.end.Goals as goal

pub returns-clause-ends : goal.returns-clause-ends
returns-clause-ends g c =
    let asked = mentions_explain (texts c.args.words.now) in
    let name = ordered _ (texts c.args.words.now) in
    let source = source_run g.S.Source.file g.S.Source.left g.S.Source.reading g.S.Source.faults c.args.source.now c.answer.new.source in
    let out = sink_run g.O.Sink.writing g.O.Sink.faults c.args.out.now c.args.out.now in
    let err = sink_run g.E.Sink.writing g.E.Sink.faults c.args.err.now c.refuse_and_explain.new.err in
    let text = c.answer.new.told.items in
    elim c.refuse_and_explain.ensures.tells as (λ _. Refuses asked name source out err c.refuse_and_explain.result) [
      | inl (is, gains) ↦ record {
        cause = subst (HasCause name source) (sym is) c.in-Err.ensures.answer;
        silent = record { same_taken = refl; same_faults = refl };
        text = text;
        explains = subst (λ (r : Refusal). MayExplain asked source (Err r) text name) (sym is) c.in-Err.ensures.explains;
        told = subst (λ (r : Refusal). HasTakenOrFailed err (line_of usage r ++ text)) (sym is)
            (subst (λ (t : List ℕ). HasTakenOrFailed err (line_of usage c.in-Err.refusal ++ t)) c.as_slice-in-Err.ensures.value gains);
      }
      | inr (changes, is, gains) ↦ record {
        cause = subst (HasCause name source) (sym is) (any_cause name source c.in-Err.refusal c.in-Err.ensures.answer changes);
        silent = record { same_taken = refl; same_faults = refl };
        text = [];
        explains = inl refl;
        told = subst (HasTakenOrFailed err) (sym (append-nil (line_of usage c.refuse_and_explain.result)))
            (subst (λ (r : Refusal). HasTakenOrFailed err (line_of usage r)) (sym is) gains);
      }
    ]

pub returns-in-Ok-write_all-clause-ends : goal.returns-in-Ok-write_all-clause-ends
returns-in-Ok-write_all-clause-ends g c =
    let err = sink_run g.E.Sink.writing g.E.Sink.faults c.args.err.now c.explain.new.err in
    let text = c.answer.new.told.items in record {
      answer = c.in-Ok.ensures.answer;
      taken = c.in-Ok-write_all.ensures.all ∙ ap (λ (xs : List ℕ). (g.O.Sink.writing c.args.out.now).taken ++ xs) c.as_slice.ensures.value;
      same_faults = c.in-Ok-write_all.ensures.same_faults;
      text = text;
      explains = c.in-Ok.ensures.explains;
      told = subst (HasTakenOrFailed err) c.as_slice-in-Ok-write_all.ensures.value c.explain.ensures.gains;
      silent = λ none.
          let same = c.explain.ensures.nothing (c.as_slice-in-Ok-write_all.ensures.value ∙ none) in
          record { same_taken = ap (λ s. (g.E.Sink.writing s).taken) same; same_faults = ap (λ s. g.E.Sink.faults s) same };
    }
