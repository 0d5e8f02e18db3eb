use Rattle.std.proofs.Common.{◌≡◌, sym, ◌∙◌, ap, subst, ℕ, ◌+◌, List, [], ◌∷◌, ◌++◌, length, slice_get, length-append, Some, inl, inr, arith}
use Rattle.std.proofs.lemmas.Option.{same_Some}
use Rattle.hs_scheme.proofs.Lists.{push_cases}
use Rattle.hs_sorts.specs.declared.measures.Measure.{Measure}
use Rattle.hs_sorts.specs.Finding.{AreArities}
use Rattle.hs_sorts.proofs.finding.arities.Goals as goal

nothing : (measures : List Measure) (start : ℕ) (arities : List ℕ) → arities ≡ [] → AreArities measures start 0 arities
nothing measures start arities empty = record {
  as_long = ap length empty;
  at = λ a n w h there. let nowhere : slice_get [] a ≡ Some n = ap (λ (ns : List ℕ). slice_get ns a) (sym empty) ∙ h in absurd (cc);
}

more : (measures : List Measure) (start count : ℕ) (arities new : List ℕ) (measure : Measure) → AreArities measures start count arities → slice_get measures (start + count) ≡ Some measure → new ≡ arities ++ measure.arity ∷ []
    → AreArities measures start (count + 1) new
more measures start count arities new measure so_far next is = record {
  as_long = ap length is ∙ (length-append arities (measure.arity ∷ []) ∙ ap (λ n. n + 1) so_far.as_long);
  at = λ a n w h there. elim (push_cases arities measure.arity n a (ap (λ (ns : List ℕ). slice_get ns a) (sym is) ∙ h)) [
    | inl was ↦ so_far.at a n w was there
    | inr (last, same) ↦
        let here : slice_get measures (start + count) ≡ Some w = ap (λ (k : ℕ). slice_get measures (start + k)) (sym (last ∙ so_far.as_long)) ∙ there in
        sym same ∙ ap (λ (v : Measure). v.arity) (same_Some measure w (sym next ∙ here))
  ];
}

pub loop-place-init : goal.loop-place-init
loop-place-init c = record {
  arities = nothing c.args.measures.now c.args.start c.in_ok-arities.arities.items c.in_ok-arities.ensures.items;
  room = omega (arith, c.in_ok-arities.ensures.capacity);
}

pub at-requires : goal.at-requires
at-requires c = omega (arith, c.requires, c.loop-place-test.true)

pub loop-place-preserved : goal.loop-place-preserved
loop-place-preserved c = record {
  arities = more c.args.measures.now c.args.start c.loop-place.place c.loop-place.arities.items c.push_reserved.new.self.items c.at.result c.loop-place.invariant.arities c.at.ensures c.push_reserved.ensures.items;
  room = omega (arith, c.push_reserved.ensures.capacity, c.loop-place.invariant.room);
}

pub push_reserved-requires : goal.push_reserved-requires
push_reserved-requires c = omega (arith, c.loop-place.arities.ok, c.loop-place.invariant.arities.as_long, c.loop-place.invariant.room, c.loop-place-test.true)

pub returns : goal.returns
returns c =
    let all : c.loop-place.place ≡ c.args.count = omega (arith, c.loop-place-test.false) in
    subst (λ (n : ℕ). AreArities c.args.measures.now c.args.start n c.loop-place.arities.items) all c.loop-place.invariant.arities
