use Rattle.std.proofs.Common.{sym, ap, subst, ◌∙◌, List, ◌∷◌, ◌++◌, [], append_assoc, inl, inr}
use Rattle.std.proofs.lemmas.List.Elements.{All-push, All-weaker}
use Rattle.hs_types.specs.Interned.{InternerData, IsRow, entry_of}
use Rattle.hs_types.proofs.Numbers.{Grows-refl}
use Rattle.hs_rules.specs.Conclusions.{DeducedData}
use Rattle.hs_table.specs.Entries.{EntryData}
use Rattle.hs_core.specs.Core.{log_of}
use Rattle.hs_core.specs.Draining.{IsReady}
use Rattle.hs_core.specs.Waiting.{Waits, IsThereOrWaits}
use Rattle.hs_core.proofs.Moving.{next_ready, all_yielded}
use Rattle.hs_core.proofs.Waits.{known_then}
use Rattle.hs_core.proofs.selecting.keep_waiting.Goals as goal

pub add-requires : goal.add-requires
add-requires c =
    let d = c.in-Some.deduced in
    let whole = sym (ap (λ xs. c.loop-deduced.yielded ++ xs) c.in-Some.ensures.steps.0) ∙ c.loop-deduced.invariant.whole in
    subst (λ (i : InternerData). IsRow i d.row) (sym c.replica.ensures.ids) (next_ready c.args.core.now c.args.found.items c.loop-deduced.yielded _ d c.requires.found whole).row

pub loop-deduced-preserved : goal.loop-deduced-preserved
loop-deduced-preserved c =
    let a = c.args.core.now in
    let d = c.in-Some.deduced in
    let V = Waits c.add.new.self.found in
    let whole = sym (ap (λ xs. c.loop-deduced.yielded ++ xs) c.in-Some.ensures.steps.0) ∙ c.loop-deduced.invariant.whole in
    let P = λ (x : DeducedData). IsThereOrWaits a.ids (log_of a) V (entry_of a.ids x.row) in
    let before = All-weaker (λ (x : DeducedData). IsThereOrWaits a.ids (log_of a) (Waits c.loop-deduced.waiting.found) (entry_of a.ids x.row)) P
    (λ x. known_then a.ids a.ids (log_of a) (log_of a) (Waits c.loop-deduced.waiting.found) V (Grows-refl a.ids) (λ e h. h) (λ y w. (c.loop-deduced.invariant.ready y w).row) (λ y w. inl (c.in_ok-add.ensures.keeps y w)) (entry_of a.ids x.row))
    c.loop-deduced.yielded c.loop-deduced.invariant.known in
    let here : P d = subst (λ (i : InternerData). IsThereOrWaits i (log_of a) V (entry_of i d.row)) c.replica.ensures.ids (subst (λ (xs : List EntryData). IsThereOrWaits c.replica.result.now.ids xs V (entry_of c.replica.result.now.ids d.row)) c.replica.ensures.log c.in_ok-add.ensures.known) in
    record {
      keeps = λ x w. c.in_ok-add.ensures.keeps x (c.loop-deduced.invariant.keeps x w);
      ready = λ x w. elim (c.in_ok-add.ensures.only x w) [
        | inl was ↦ c.loop-deduced.invariant.ready x was
        | inr is ↦ subst (λ (y : DeducedData). IsReady a y) (sym is) (next_ready a c.args.found.items c.loop-deduced.yielded _ d c.requires.found whole)
      ];
      known = All-push P c.loop-deduced.yielded d before here;
      whole = append_assoc c.loop-deduced.yielded (d ∷ []) _ ∙ whole;
    }

pub returns-clause-known : goal.returns-clause-known
returns-clause-known c =
    let a = c.args.core.now in
    all_yielded (λ (x : DeducedData). IsThereOrWaits a.ids (log_of a) (Waits c.loop-deduced.waiting.found) (entry_of a.ids x.row)) c.loop-deduced.yielded _ c.args.found.items (sym c.loop-deduced.deduced-iterator.rest.ok.0 ∙ c.in-None.ensures.steps.0)
    c.loop-deduced.invariant.whole c.loop-deduced.invariant.known

pub returns-in_err-add-clause-keeps : goal.returns-in_err-add-clause-keeps
returns-in_err-add-clause-keeps c = λ x w. c.in_err-add.ensures.keeps x (c.loop-deduced.invariant.keeps x w)

pub returns-in_err-add-clause-ready : goal.returns-in_err-add-clause-ready
returns-in_err-add-clause-ready c = λ x w.
    let whole = sym (ap (λ xs. c.loop-deduced.yielded ++ xs) c.in-Some.ensures.steps.0) ∙ c.loop-deduced.invariant.whole in
    elim (c.in_err-add.ensures.only x w) [
      | inl was ↦ c.loop-deduced.invariant.ready x was
      | inr is ↦ subst (λ (y : DeducedData). IsReady c.args.core.now y) (sym is) (next_ready c.args.core.now c.args.found.items c.loop-deduced.yielded _ c.in-Some.deduced c.requires.found whole)
    ]
