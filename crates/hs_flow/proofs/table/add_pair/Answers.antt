use Rattle.std.proofs.Common.{◌≡◌, refl, sym, ◌∙◌, ap, subst, ℕ, Bool, true, false, nat_eq, List, [], ◌∷◌, ◌++◌, cond, Option}
use Rattle.std.specs.Prelude.{SomeIff}
use Rattle.std.proofs.lemmas.Bool.{eqb-true, eq-eqb}
use Rattle.std.proofs.lemmas.List.{append-nil}
use Rattle.std.proofs.lemmas.Result.{on_ok_weaker}
use Rattle.hs_scheme.specs.declared.flow.FlowPair.{FlowPair}
use Rattle.hs_scheme.specs.declared.flow.Pair.{Pair}
use Rattle.hs_scheme.specs.declared.flow.Pair.TheVariants.{OfFlow}
use Rattle.hs_scheme.specs.sorting.Parameters.{IsParameter, parameter_of}
use Rattle.hs_scheme.specs.flow.FlowRows.{number_of}
use Rattle.hs_flow.specs.Lists.{list_of, IsPushed}
use Rattle.hs_flow.specs.Tables.{flows_in, of_number}
use Rattle.hs_flow.proofs.table.add_pair.Goals as goal

-- the list of the pair's number has it at the end, and the others have nothing more
pushed_number : (counts : List ℕ) (old new : List (List FlowPair)) (number : ℕ) (f : FlowPair) (pair : Pair) → pair ≡ OfFlow f → number ≡ number_of counts f → IsPushed number f old new
    → (k : ℕ) → list_of new k ≡ list_of old k ++ of_number counts k (flows_in (pair ∷ []))
pushed_number counts old new number f pair is same p k =
    p.each k ∙ (by (nat_eq k number) refl ∙ ap (λ (q : Pair). list_of old k ++ of_number counts k (flows_in (q ∷ []))) (sym is))
  where
    by : (t : Bool) → nat_eq k number ≡ t → cond t (list_of old k ++ f ∷ []) (list_of old k) ≡ list_of old k ++ cond (nat_eq (number_of counts f) k) (f ∷ []) []
    by true e = ap (λ b. list_of old k ++ cond b (f ∷ []) []) (sym (eq-eqb (number_of counts f) k (sym same ∙ sym (eqb-true k number e))))
    by false e = sym (append-nil (list_of old k)) ∙ ap (λ b. list_of old k ++ cond b (f ∷ []) []) (sym (other (nat_eq (number_of counts f) k) refl))
      where
        other : (t : Bool) → nat_eq (number_of counts f) k ≡ t → t ≡ false
        other true n = let yes = eq-eqb k number (sym (eqb-true (number_of counts f) k n) ∙ sym same) in absurd (cc)
        other false n = refl

pub returns-in-OfFlow-clause-lists : goal.returns-in-OfFlow-clause-lists
returns-in-OfFlow-clause-lists c =
    let f = c.in-OfFlow.flow in
    let some = subst (λ (o : Option ℕ). SomeIff o (IsParameter c.args.params.now f.rule f.param) (parameter_of c.args.params.now f.rule f.param)) c.unwrap-number.ensures c.number.ensures.number in
    on_ok_weaker c.push.result (pushed_number c.args.params.now c.args.lists.now c.push.new.self c.unwrap-number.result f c.args.pair c.in-OfFlow.is some.1) c.push.ensures.pushed

pub returns-in-OfHead-clause-lists : goal.returns-in-OfHead-clause-lists
returns-in-OfHead-clause-lists c = λ k.
    sym (append-nil (list_of c.args.lists.now k)) ∙ ap (λ (q : Pair). list_of c.args.lists.now k ++ of_number c.args.params.now k (flows_in (q ∷ []))) (sym c.in-OfHead.is)
