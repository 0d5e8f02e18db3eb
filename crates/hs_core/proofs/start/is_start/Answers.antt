use Rattle.std.proofs.Common.{◌≡◌, refl, sym, ap, ◌∙◌, ℕ, List, [], ◌∷◌, length, map, Some}
use Rattle.std.proofs.lemmas.Bool.{eqb-true, eq-eqb, false≢true}
use Rattle.std.proofs.lemmas.Option.{same_Some}
use Rattle.hs_table.specs.Types.{TypeTree, state, arrow}
use Rattle.hs_types.specs.Interned.{set_of_id, type_of_id}
use Rattle.hs_core.proofs.start.is_start.Goals as goal

module _ {X Y : Type 0} (f : X → Y) where
  none_mapped : (xs : List X) → length xs ≡ 0 → map f xs ≡ []
  none_mapped [] e = refl
  none_mapped (x ∷ xs) e = absurd (cc)

  mapped_none : (xs : List X) → map f xs ≡ [] → length xs ≡ 0
  mapped_none [] e = refl
  mapped_none (x ∷ xs) e = absurd (cc)

same_state : (p q : ℕ) → state p ≡ state q → p ≡ q
same_state p q e = cc

no_arrow : (s : List TypeTree) (r : TypeTree) (q : ℕ) → arrow s r ≡ state q → ⊥
no_arrow s r q e = cc

pub returns-then-row-start_body : goal.returns-then-row-start_body
returns-then-row-start_body c = (
  λ e. absurd (false≢true e),
  λ is. absurd (c.if-row-start_body.true (same_Some c.args.row.point c.start_body.result (sym is.body ∙ c.start_body.ensures))),
)

pub sets-requires : goal.sets-requires
sets-requires c = c.requires.0

pub returns-then-not-is_empty : goal.returns-then-not-is_empty
returns-then-not-is_empty c =
    let none = mapped_none (set_of_id c.args.interner.now) c.sets.result.now in (
      λ e. absurd (false≢true e),
      λ is. absurd (false≢true (c.if-not-is_empty.ensures ∙ eq-eqb (length c.sets.result.now) 0 (none (c.sets.ensures.sets ∙ is.env)))),
    )

pub view-requires : goal.view-requires
view-requires c = c.requires.1

pub returns-in-State : goal.returns-in-State
returns-in-State c =
    let sets = c.sets.result.now in (
      λ e. record {
        body = c.start_body.ensures ∙ ap (λ n. Some n) (sym c.if-row-start_body.false);
        env = sym c.sets.ensures.sets ∙ none_mapped (set_of_id c.args.interner.now) sets (eqb-true (length sets) 0 (sym c.if-not-is_empty.ensures));
        initial = c.in-State.ensures ∙ ap (λ n. state n) (eqb-true c.in-State.q 0 e);
      },
      λ is. eq-eqb c.in-State.q 0 (same_state c.in-State.q 0 (sym c.in-State.ensures ∙ is.initial)),
    )

pub returns-in-Arrow : goal.returns-in-Arrow
returns-in-Arrow c =
    let I = c.args.interner.now in (
      λ e. absurd (false≢true e),
      λ is. absurd (no_arrow (set_of_id I c.in-Arrow.field-0) (type_of_id I c.in-Arrow.field-1) 0 (sym c.in-Arrow.ensures.2 ∙ is.initial)),
    )
