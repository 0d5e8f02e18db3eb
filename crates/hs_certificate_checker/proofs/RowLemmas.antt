-- The rows of the entries of a table that count.
use Rattle.std.proofs.Common.{◌≡◌, sym, ◌∙◌, ap, subst, ℕ, ◌+◌, ◌<◌, ◌≤◌, List, [], ◌∷◌, ◌++◌, length, map, get_or, take, All, slice_get, Some, Contains, inl, inr, arith}
use Rattle.std.proofs.lemmas.List.{take_all, map_push, length-map, length-take}
use Rattle.std.proofs.lemmas.Option.{slice_get_within, get_or_from_slice_get}
use Rattle.std.proofs.lemmas.List.Elements.{All-push, All-weaker, Contains-append_left, Contains-append_right}
use Rattle.std.proofs.lemmas.List.Sorted.{IsPermutation-sym, Contains-permutation}
use Rattle.std.specs.List.Sorted.{IsPermutation}
use Rattle.hs_scheme.specs.Problem.{ProblemData}
use Rattle.hs_scheme.proofs.Lists.{none_in, here, read-slice_get, at_append, slice_get-push, push_cases}
use Rattle.hs_table.specs.Entries.{Env, EntryData, InShape}
use Rattle.hs_table.specs.Follows.{IsAt}
use Rattle.hs_table_laws.proofs.Members.{taken_next, pushed_cases}
use Rattle.hs_weak.specs.Void.{VoidData, IsVoidShape}
use Rattle.hs_numbered.specs.Trees.{IsSomeEnv}
use Rattle.hs_types.specs.Interned.{InternerData, RowData, IsRow, entry_of, Grows}
use Rattle.hs_types.proofs.Numbers.{Grows-refl, Grows-trans, env_within}
use Rattle.hs_types.proofs.RowLemmas.{rows_known}
use Rattle.hs_choices.proofs.Staying.{rows_stay, voids_stay}
use Rattle.hs_numbered.specs.Certificates.{VoidRowData, void_of}
use Rattle.hs_choices.specs.Numbered.{AreTableRows}

module _ (p : ProblemData) (C : List EntryData) where
  pub no_rows : (I : InternerData) → AreTableRows p (take 0 C) I []
  no_rows I = record {
    taken = λ row there. absurd (none_in row there);
    each = λ place e at. let none : List EntryData = [] in let within = (read-slice_get none place e at.at).0 in absurd (omega (arith, within));
  }

  module _ (I : InternerData) (rows : List RowData) (k : ℕ) (e : EntryData) (lt : k < length C) (is : e ≡ get_or C k e) (are : AreTableRows p (take k C) I rows) where
    next : take (k + 1) C ≡ take k C ++ e ∷ []
    next = taken_next C k e lt is

    was_at : (place : ℕ) (d : EntryData) → IsAt p (take k C) place d → IsAt p (take (k + 1) C) place d
    was_at place d at = record { at = subst (λ (z : List EntryData). slice_get z place ≡ Some d) (sym next) (at_append (take k C) (e ∷ []) place d at.at); shape = at.shape }

    pub next_row : InShape p e → (own : RowData) (new : List RowData) → entry_of I own ≡ e → new ≡ rows ++ own ∷ [] → AreTableRows p (take (k + 1) C) I new
    next_row shape own new entry new_is = record {
      taken = λ row there. elim (pushed_cases rows own row (subst (λ (z : List RowData). Contains z row) new_is there)) [
        | inl was ↦ let at = are.taken row was in (at.0, was_at at.0 (entry_of I row) at.1)
        | inr same ↦ (
          length (take k C),
          subst (λ (d : EntryData). IsAt p (take (k + 1) C) (length (take k C)) d) (sym (ap (entry_of I) same ∙ entry))
              (record { at = subst (λ (z : List EntryData). slice_get z (length (take k C)) ≡ Some e) (sym next) (slice_get-push (take k C) e); shape = shape }),
        )
      ];
      each = λ place d at. elim (push_cases (take k C) e d place (subst (λ (z : List EntryData). slice_get z place ≡ Some d) next at.at)) [
        | inl was ↦
            let r = are.each place d (record { at = was; shape = at.shape }) in
            (r.0, (subst (λ (z : List RowData). Contains z r.0) (sym new_is) (Contains-append_left rows (own ∷ []) r.0 r.1.0), r.1.1))
        | inr same ↦ (own, (subst (λ (z : List RowData). Contains z own) (sym new_is) (Contains-append_right rows (own ∷ []) own (here own [])), entry ∙ same.1))
      ];
    }

    pub skip_row : (InShape p e → ⊥) → AreTableRows p (take (k + 1) C) I rows
    skip_row not = record {
      taken = λ row there. let at = are.taken row there in (at.0, was_at at.0 (entry_of I row) at.1);
      each = λ place d at. elim (push_cases (take k C) e d place (subst (λ (z : List EntryData). slice_get z place ≡ Some d) next at.at)) [
        | inl was ↦ are.each place d (record { at = was; shape = at.shape })
        | inr same ↦ absurd (not (subst (λ (z : EntryData). InShape p z) (sym same.1) at.shape))
      ];
    }

  pub all_rows : (I : InternerData) (rows : List RowData) (k : ℕ) → length C ≤ k → AreTableRows p (take k C) I rows → AreTableRows p C I rows
  all_rows I rows k past are = subst (λ (z : List EntryData). AreTableRows p z I rows) (take_all k C past) are

  pub rows_moved : (I : InternerData) (rows new : List RowData) → IsPermutation rows new → AreTableRows p C I rows → AreTableRows p C I new
  rows_moved I rows new moved are = record {
    taken = λ row there. are.taken row (back row there);
    each = λ place e at. let r = are.each place e at in (r.0, (Contains-permutation rows new r.0 moved r.1.0, r.1.1));
  }
    where
      back : (row : RowData) → Contains new row → Contains rows row
      back row there = Contains-permutation new rows row (IsPermutation-sym rows new moved) there

-- the rows so far, while the interner grows
pub record AreSoFar (p : ProblemData) (C : List EntryData) (I J : InternerData) (k : ℕ) (own : List RowData) : Type 0 where
  pub grows : Grows I J
  pub range : All (IsRow J) own
  pub rows : AreTableRows p (take k C) J own

module _ (p : ProblemData) (C : List EntryData) (I : InternerData) where
  pub so_far_none : (rows : List RowData) → rows ≡ [] → AreSoFar p C I I 0 rows
  so_far_none rows is = subst (λ (z : List RowData). AreSoFar p C I I 0 z) (sym is) (record { grows = Grows-refl I; range = λ i d lt. absurd (omega (arith, lt)); rows = no_rows p C I })

  module _ (J : InternerData) (k : ℕ) (rows : List RowData) (e : EntryData) (lt : k < length C) (is : e ≡ get_or C k e) (before : AreSoFar p C I J k rows) where
    pub so_far_row : (K L : InternerData) → L ≡ K → Grows J K → (own : RowData) → IsRow K own → entry_of K own ≡ e → InShape p e → (new : List RowData) → new ≡ rows ++ own ∷ [] → AreSoFar p C I L (k + 1) new
    so_far_row K L same g own in_use entry shape new new_is = subst (λ (z : InternerData). AreSoFar p C I z (k + 1) new) (sym same) (record {
      grows = Grows-trans I J K before.grows g;
      range = rows_known J K g rows new own before.range in_use new_is;
      rows = next_row p C K rows k e lt is (rows_stay J K g p (take k C) rows before.range before.rows) shape own new entry new_is;
    })

    pub so_far_skip : (L : InternerData) → L ≡ J → (new : List RowData) → new ≡ rows → (InShape p e → ⊥) → AreSoFar p C I L (k + 1) new
    so_far_skip L same new new_is not = subst (λ (z : InternerData). AreSoFar p C I z (k + 1) new) (sym same) (subst (λ (z : List RowData). AreSoFar p C I J (k + 1) z) (sym new_is) (record {
      grows = before.grows;
      range = before.range;
      rows = skip_row p C J rows k e lt is before.rows not;
    }))

-- void pairs by number
abbrev pub VoidInUse : InternerData → VoidRowData → Type 0
VoidInUse I v = v.env < length I.envs

module _ (J K : InternerData) (g : Grows J K) where
  module _ (rows new : List VoidRowData) (own : VoidRowData) (all : All (VoidInUse J) rows) (E : Env) (at : slice_get K.envs own.env ≡ Some E) (e : new ≡ rows ++ own ∷ []) where
    pub voids_range : All (VoidInUse K) new
    voids_range = subst (λ (z : List VoidRowData). All (VoidInUse K) z) (sym e) (All-push (VoidInUse K) rows own (All-weaker (VoidInUse J) (VoidInUse K) (λ v h. env_within J K g v.env h) rows all) (slice_get_within K.envs own.env E at))

    pub voids_next : (V : List VoidData) (k : ℕ) (v : VoidData) → map (void_of J) rows ≡ take k V → own.rule ≡ v.rule → E ≡ v.env → k < length V → v ≡ get_or V k v → map (void_of K) new ≡ take (k + 1) V
    voids_next V k v same rule env lt is =
        ap (λ (z : List VoidRowData). map (void_of K) z) e ∙ map_push (void_of K) rows own
        ∙ (λ i. (voids_stay J K g rows all ∙ same) i ++ record { rule = rule i; env = (get_or_from_slice_get K.envs own.env E [] at ∙ env) i } ∷ [])
        ∙ sym (taken_next V k v lt is)

pub voids_long : (I : InternerData) (rows : List VoidRowData) (V : List VoidData) (k : ℕ) → map (void_of I) rows ≡ take k V → length rows ≤ k
voids_long I rows V k same = omega (arith, ap length same, length-map rows (void_of I), length-take k V)

-- its environment is in shape
pub void_some : (p : ProblemData) (v : VoidData) → IsVoidShape p v → IsSomeEnv v.env
void_some p v h = record { states = p.sorted.automaton.states; sets = h.env.sets; types = h.types }
