use Rattle.std.proofs.Common.{◌≡◌, refl, sym, ◌∙◌, ap, subst, List, ℕ, ◌++◌, length, true, false, inl, inr}
use Rattle.std.proofs.lemmas.Bool.{eqb-true}
use Rattle.std.proofs.lemmas.List.{nil_from_length}
use Rattle.hs_edge.specs.Writing.{AddsPart}
use Rattle.hs_front.specs.Outside.{sink_run}
use Rattle.hs_front.specs.Refusal.{line_of}
use Rattle.hs_app.proofs.ExplainingLemmas.{told_alone, told_memory, told_behind, told_part}
use Rattle.hs_app.proofs.explaining.refuse_and_explain.Goals as goal

false_true : false ≡ true → ⊥
false_true h = (cc)

pub returns-then-is_empty-clause-tells : goal.returns-then-is_empty-clause-tells
returns-then-is_empty-clause-tells g c =
    let none = nil_from_length c.args.text.now (eqb-true (length c.args.text.now) 0 (sym c.is_empty.ensures ∙ c.if-is_empty.true)) in
    told_alone c.args.words.now c.args.refusal c.refuse.result c.args.text.now
    (sink_run g.E.Sink.writing g.E.Sink.faults c.args.err.now c.refuse.new.err) none c.refuse.ensures.tells

pub returns-in-Ok-write_all-clause-tells : goal.returns-in-Ok-write_all-clause-tells
returns-in-Ok-write_all-clause-tells g c =
    let line = line_of c.args.words.now c.args.refusal in
    let is = c.bytes.ensures ∙ c.in-Ok.ensures.text in
    inl (
      refl,
      told_behind (g.E.Sink.writing c.args.err.now).taken (g.E.Sink.writing c.write_all.new.sink).taken (g.E.Sink.writing c.tell.new.err).taken line c.args.text.now
          (g.E.Sink.faults c.args.err.now) (g.E.Sink.faults c.write_all.new.sink) (g.E.Sink.faults c.tell.new.err)
          (c.in-Ok-write_all.ensures.all ∙ ap (λ (xs : List ℕ). (g.E.Sink.writing c.args.err.now).taken ++ xs) is) c.in-Ok-write_all.ensures.same_faults c.tell.ensures.gains,
    )

pub returns-in-Ok-clause-tells : goal.returns-in-Ok-clause-tells
returns-in-Ok-clause-tells g c =
    let line = line_of c.args.words.now c.args.refusal in
    let taken = (g.E.Sink.writing c.args.err.now).taken in
    let after = (g.E.Sink.writing c.write_all.new.sink).taken in
    inl (
      refl,
      inr (told_part taken after line c.args.text.now (subst (λ (xs : List ℕ). AddsPart taken after xs) (c.bytes.ensures ∙ c.in-Ok.ensures.text) c.in-Err-write_all.ensures.part), c.in-Err-write_all.ensures.cause),
    )

pub returns-clause-tells : goal.returns-clause-tells
returns-clause-tells g c =
    told_memory c.args.words.now c.args.refusal c.refuse-in-Err.result c.args.text.now (sink_run g.E.Sink.writing g.E.Sink.faults c.args.err.now c.refuse-in-Err.new.err)
    (λ fixed. false_true (c.in-Err.ensures.fixed fixed)) c.refuse-in-Err.ensures.tells
