-- A place in the lists of what a type takes, one argument after another.
use Rattle.std.proofs.Common.{◌≡◌, refl, sym, ◌∙◌, ap, subst, ℕ, ◌+◌, ◌<◌, List, [], ◌∷◌, ◌++◌, length, length-append, arith, inl, inr, Contains, Option}
use Rattle.std.proofs.lemmas.Bool.{cases_lt}
use Rattle.std.proofs.lemmas.List.{get_or_append_left, get_or_push}
use Rattle.hs_scheme.specs.Tree.{Tree, node, none, more, children, children-forest}
use Rattle.hs_table.specs.Types.{TypeTree, state, arrow, arrows}
use Rattle.hs_table.specs.Entries.{Env, set_at}
use Rattle.hs_table_laws.proofs.Arrows.{arrows-append, has_within}
use Rattle.hs_types.specs.Interned.{InternerData, type_of_id, set_of_id, IsView}
use Rattle.hs_types.specs.declared.ids.View.TheVariants.{Arrow}
use Rattle.hs_replica.specs.declared.key.Key.{Key}
use Rattle.hs_replica.specs.Places.{Question, here, typed, asks, takes}
use Rattle.hs_replica.specs.Index.{Gains, ListsAll, TakesAt, TakesBy}
use Rattle.hs_replica.proofs.SetLemmas.{gains_then, still_listed}

abbrev set_of : Tree (Option ℕ) → List TypeTree
set_of (node x none) = []
set_of (node x (more r s)) = children s

abbrev result_of : Tree (Option ℕ) → TypeTree
result_of (node x none) = state 0
result_of (node x (more r s)) = r

-- all sets of a type begin with some of them
record Begins (ss all : Env) : Type 0 where
  pub rest : Env
  pub split : all ≡ ss ++ rest

begins : (ss : Env) (t : TypeTree) (all : Env) (q : ℕ) → arrows ss t ≡ arrows all (state q) → Begins ss all
begins [] t all q e = record { rest = all; split = refl }
begins (s ∷ ss) t [] q e = absurd (cc)
begins (s ∷ ss) t (a ∷ all) q e =
    let b = begins ss t all q (ap result_of e) in
    let same : s ≡ a = sym (children-forest s) ∙ (ap set_of e ∙ children-forest a) in
    record { rest = b.rest; split = (λ i. sym same i ∷ b.split i) }

-- what the first arguments take is listed, and the rest of the type comes next
pub record TypeSoFar (ids : InternerData) (point : ℕ) (ty : TypeTree) (rest arg place : ℕ) (old new : Key → List ℕ) : Type 0 where
  pub within : rest < length ids.types
  pub taken : Env
  pub long : length taken ≡ arg
  pub is : ty ≡ arrows taken (type_of_id ids rest)
  pub gains : Gains ids (TakesBy point ty) place old new
  pub all : (j : ℕ) → j < arg → ListsAll ids (TakesAt point j (set_at taken j)) place new

at_by : (point n : ℕ) (ty : TypeTree) (taken : Env) (s : List TypeTree) (t : TypeTree) → length taken ≡ n → ty ≡ arrows taken (arrow s t) → (q : Question) → TakesAt point n s q → TakesBy point ty q
at_by point n ty taken s t long is (takes p j a) h = (
  h.0,
  record {
    sets = taken ++ s ∷ [];
    rest = t;
    is = is ∙ sym (arrows-append taken (s ∷ []) t);
    has = subst (λ (r : List TypeTree). Contains r a) (sym (get_or_push taken s [] j (long ∙ sym h.1.0))) h.1.1;
  },
)
at_by point n ty taken s t long is (here p) h = absurd h
at_by point n ty taken s t long is (typed p a) h = absurd h
at_by point n ty taken s t long is (asks p j a) h = absurd h

module _ (ids : InternerData) (point : ℕ) (ty : TypeTree) (rest arg place : ℕ) (old mid : Key → List ℕ) (was : TypeSoFar ids point ty rest arg place old mid) where
  module _ (set next : ℕ) (view : IsView ids rest (Arrow set next)) (new : Key → List ℕ) (gains : Gains ids (TakesAt point arg (set_of_id ids set)) place mid new) where
    splits : ty ≡ arrows was.taken (arrow (set_of_id ids set) (type_of_id ids next))
    splits = was.is ∙ ap (arrows was.taken) view.2

    pub type_stopped : Gains ids (TakesBy point ty) place old new
    type_stopped = gains_then ids (TakesBy point ty) (TakesAt point arg (set_of_id ids set)) (TakesBy point ty) place old mid new (λ q h. h)
        (at_by point arg ty was.taken (set_of_id ids set) (type_of_id ids next) was.long splits) was.gains gains

    pub type_more : ListsAll ids (TakesAt point arg (set_of_id ids set)) place new → TypeSoFar ids point ty next (arg + 1) place old new
    type_more all =
        let s = set_of_id ids set in
        record {
          within = view.1;
          taken = was.taken ++ s ∷ [];
          long = omega (arith, length-append was.taken (s ∷ []), was.long);
          is = splits ∙ sym (arrows-append was.taken (s ∷ []) (type_of_id ids next));
          gains = type_stopped;
          all = λ j less. elim (cases_lt j arg) [
            | inl before ↦
                let e : set_at (was.taken ++ s ∷ []) j ≡ set_at was.taken j = get_or_append_left was.taken (s ∷ []) [] j (omega (arith, was.long)) in
                subst (λ (r : List TypeTree). ListsAll ids (TakesAt point j r) place new) (sym e)
                (λ q h. still_listed ids (TakesAt point arg s) place place mid new q gains (was.all j before q h))
            | inr last ↦
                let same : arg ≡ j = omega arith in
                let e : set_at (was.taken ++ s ∷ []) j ≡ s = get_or_push was.taken s [] j (was.long ∙ same) in
                subst (λ (r : List TypeTree). ListsAll ids (TakesAt point j r) place new) (sym e) (subst (λ (k : ℕ). ListsAll ids (TakesAt point k s) place new) same all)
          ];
        }

  pub type_all : (q : ℕ) → type_of_id ids rest ≡ state q → ListsAll ids (TakesBy point ty) place mid
  type_all q end (takes p j a) h =
      let b = begins h.1.sets h.1.rest was.taken q (sym h.1.is ∙ (was.is ∙ ap (arrows was.taken) end)) in
      let in_sets : j < length h.1.sets = has_within h.1.sets j a h.1.has in
      let e : set_at was.taken j ≡ set_at h.1.sets j = ap (λ (ss : Env). set_at ss j) b.split ∙ get_or_append_left h.1.sets b.rest [] j in_sets in
      let lt : j < arg = omega (arith, ap length b.split, length-append h.1.sets b.rest, was.long, in_sets) in
      was.all j lt (takes p j a) (h.0, (refl, subst (λ (r : List TypeTree). Contains r a) (sym e) h.1.has))
  type_all q end (here p) h = absurd h
  type_all q end (typed p a) h = absurd h
  type_all q end (asks p j a) h = absurd h
