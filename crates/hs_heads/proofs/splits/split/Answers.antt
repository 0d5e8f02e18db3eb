use Rattle.std.proofs.Common.{sym, ◌∙◌, ap, subst, ℕ, ◌<◌, ◌∷◌, [], List, length, map, get_or, arith, length-append}
use Rattle.std.proofs.lemmas.List.{map-append, length-map}
use Rattle.std.proofs.lemmas.List.Elements.{All-push}
use Rattle.hs_table.specs.Types.{arrows}
use Rattle.hs_table.specs.Entries.{Env}
use Rattle.hs_table_laws.proofs.Arrows.{arrows-append}
use Rattle.hs_types.specs.Interned.{type_of_id, set_of_id}
use Rattle.hs_heads.proofs.Ends.{no_more_sets}
use Rattle.hs_heads.proofs.splits.split.Goals as goal

pub returns-in-State : goal.returns-in-State
returns-in-State c = λ sets rest long e.
    let I = c.args.types.now in
    let front = map (set_of_id I) c.loop.sets.items in
    let is = sym (c.loop.invariant.is ∙ ap (arrows front) c.in-State.ensures) ∙ e in
    let few = no_more_sets front sets c.in-State.field-0 rest is in
    omega (arith, few, long, c.loop-test.true, c.loop.invariant.long, length-map c.loop.sets.items (set_of_id I))

pub loop-preserved : goal.loop-preserved
loop-preserved c =
    let I = c.args.types.now in
    let set = c.in-Arrow.set in
    let v = c.in-Arrow.ensures in
    let items = c.in_ok-push-in-Arrow.ensures.items in
    let front = map (set_of_id I) c.loop.sets.items in
    let more = ap (map (set_of_id I)) items ∙ map-append (set_of_id I) c.loop.sets.items (set ∷ []) in
    record {
      within = subst (λ (xs : List ℕ). (k : ℕ) (d : ℕ) → k < length xs → get_or xs k d < length I.sets) (sym items) (All-push (λ s. s < length I.sets) c.loop.sets.items set c.loop.invariant.within v.0);
      left = v.1;
      long = ap (λ (xs : List ℕ). length xs) items ∙ (length-append c.loop.sets.items (set ∷ []) ∙ omega (arith, c.loop.invariant.long));
      is = c.loop.invariant.is ∙ (ap (arrows front) v.2 ∙ (sym (arrows-append front (set_of_id I set ∷ []) (type_of_id I c.in-Arrow.next)) ∙ ap (λ (ss : Env). arrows ss (type_of_id I c.in-Arrow.next)) (sym more)));
    }
