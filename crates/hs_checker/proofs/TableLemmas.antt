-- The rows of the entries of a table that are in shape, one after the other.
use Rattle.std.proofs.Common.{◌≡◌, sym, ◌∙◌, ap, subst, ℕ, ◌+◌, ◌<◌, List, [], ◌∷◌, ◌++◌, length, get_or, take, Contains, ◌↔◌, inl, inr, arith}
use Rattle.std.proofs.lemmas.List.Elements.{All-push}
use Rattle.hs_scheme.specs.Problem.{ProblemData}
use Rattle.hs_scheme.proofs.Lists.{none_in}
use Rattle.hs_table.specs.Entries.{EntryData, InShape}
use Rattle.hs_table_plain.proofs.Members.{next_member}
use Rattle.hs_types.specs.Interned.{InternerData, RowData, IsRow, entry_of, Grows}
use Rattle.hs_checker.specs.Numbers.{entries_of, AreRows}
use Rattle.hs_checker.proofs.EnvLemmas.{map_append}
use Rattle.hs_checker.proofs.NumberLemmas.{rows_grow, entries_stay}
use Rattle.hs_checker.proofs.TypeLemmas.{pushed_is}

pub record AreSoFar (p : ProblemData) (T : List EntryData) (I : InternerData) (k : ℕ) (own : List RowData) : Type 0 where
  pub range : AreRows I own
  pub rows : (e : EntryData) → Contains (entries_of I own) e ↔ (Contains (take k T) e × InShape p e)

pub so_far_none : (p : ProblemData) (T : List EntryData) (I : InternerData) (rows : List RowData) → rows ≡ [] → AreSoFar p T I 0 rows
so_far_none p T I rows is =
    subst (λ rs. AreSoFar p T I 0 rs) (sym is) (record { range = λ i d lt. absurd (omega (arith, lt)); rows = λ e. (λ c. absurd (none_in e c), λ b. absurd (none_in e b.0)) })

module _ (p : ProblemData) (T : List EntryData) (I : InternerData) (k : ℕ) (rows : List RowData) (x : EntryData) (lt : k < length T) (read : x ≡ get_or T k x) (before : AreSoFar p T I k rows) where
  pub so_far_row : (J K : InternerData) → K ≡ J → Grows I J → (r : RowData) → IsRow J r → entry_of J r ≡ x → InShape p x → (news : List RowData) → news ≡ rows ++ r ∷ [] → AreSoFar p T K (k + 1) news
  so_far_row J K same g r own is shape news made =
      let stay = entries_stay I J g rows before.range in
      let all : AreRows J news = subst (AreRows J) (sym made) (All-push (IsRow J) rows r (rows_grow I J g rows before.range) own) in
      let es : entries_of J news ≡ entries_of I rows ++ x ∷ [] = ap (entries_of J) made ∙ (map_append (entry_of J) rows (r ∷ []) ∙ (λ i. stay i ++ is i ∷ [])) in
      subst (λ L. AreSoFar p T L (k + 1) news) (sym same) (record {
        range = all;
        rows = λ e.
            let pushed = pushed_is (entries_of I rows) (entries_of J news) x e es in
            let member = next_member T k x e lt read in (
              λ c. elim (pushed.0 c) [
                | inl old ↦ let b = (before.rows e).0 old in (member.1 (inl b.0), b.1)
                | inr own ↦ (member.1 (inr own), subst (λ y. InShape p y) (sym own) shape)
              ],
              λ both. pushed.1 (elim (member.0 both.0) [
                | inl t ↦ inl ((before.rows e).1 (t, both.1))
                | inr own ↦ inr own
              ]),
            );
      })

  pub so_far_skip : (K : InternerData) → K ≡ I → (news : List RowData) → news ≡ rows → (InShape p x → ⊥) → AreSoFar p T K (k + 1) news
  so_far_skip K same news made shapeless =
      subst (λ L. AreSoFar p T L (k + 1) news) (sym same) (subst (λ rs. AreSoFar p T I (k + 1) rs) (sym made) (record {
        range = before.range;
        rows = λ e.
            let member = next_member T k x e lt read in (
              λ c. let b = (before.rows e).0 c in (member.1 (inl b.0), b.1),
              λ both. elim (member.0 both.0) [
                | inl t ↦ (before.rows e).1 (t, both.1)
                | inr own ↦ absurd (shapeless (subst (λ y. InShape p y) own both.1))
              ],
            );
      }))
