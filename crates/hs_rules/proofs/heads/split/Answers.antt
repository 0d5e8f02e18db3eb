use Rattle.std.proofs.Common.{sym, ◌∙◌, ap, subst, ℕ, ◌<◌, ◌∷◌, [], List, length, map, get_or, arith, length-append}
use Rattle.std.proofs.lemmas.List.{map-append, length-map}
use Rattle.std.proofs.lemmas.List.Elements.{All-push}
use Rattle.hs_table.specs.Types.{arrows}
use Rattle.hs_table.specs.Entries.{Env}
use Rattle.hs_table_laws.proofs.Arrows.{arrows-append}
use Rattle.hs_types.specs.Interned.{type_of_id, set_of_id}
use Rattle.hs_rules.proofs.ArrowLemmas.{arrows_long}
use Rattle.hs_rules.proofs.heads.split.Goals as goal

pub returns-in-State : goal.returns-in-State
returns-in-State c = λ sets rest long e.
    let ids = c.args.interner.now in
    let front = map (set_of_id ids) c.loop.sets.items in
    let is = sym (c.loop.invariant.is ∙ ap (arrows front) c.in-State.ensures) ∙ e in
    let few = arrows_long front sets c.in-State.field-0 rest is in
    omega (arith, few, long, c.loop-test.true, c.loop.invariant.long, length-map c.loop.sets.items (set_of_id ids))

pub loop-preserved : goal.loop-preserved
loop-preserved c =
    let ids = c.args.interner.now in
    let set = c.in-Arrow.set in
    let v = c.in-Arrow.ensures in
    let items = c.in_ok-push-in-Arrow.ensures.ok in
    let front = map (set_of_id ids) c.loop.sets.items in
    let more = ap (map (set_of_id ids)) items ∙ map-append (set_of_id ids) c.loop.sets.items (set ∷ []) in
    record {
      within = subst (λ (xs : List ℕ). (k : ℕ) (d : ℕ) → k < length xs → get_or xs k d < length ids.sets) (sym items) (All-push (λ s. s < length ids.sets) c.loop.sets.items set c.loop.invariant.within v.0);
      left = v.1;
      long = ap (λ (xs : List ℕ). length xs) items ∙ (length-append c.loop.sets.items (set ∷ []) ∙ omega (arith, c.loop.invariant.long));
      is = c.loop.invariant.is ∙ (ap (arrows front) v.2 ∙ (sym (arrows-append front (set_of_id ids set ∷ []) (type_of_id ids c.in-Arrow.next)) ∙ ap (λ (ss : Env). arrows ss (type_of_id ids c.in-Arrow.next)) (sym more)));
    }
