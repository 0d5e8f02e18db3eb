-- What follows is in shape.
use Rattle.std.proofs.Common.{◌≡◌, refl, sym, subst, ℕ, zero, suc, ◌<◌, List, [], ◌∷◌, length, slice_get, Option, Some, None, option_map, Bool, true, false, cond, replicate, set, find, arith, All, Contains, ◌⊎◌, inl, inr}
use Rattle.std.proofs.lemmas.List.Elements.{All-contains}
use Rattle.std.proofs.lemmas.Option.{same_Some}
use Rattle.hs_scheme.specs.declared.term.Head.{Head}
use Rattle.hs_scheme.specs.declared.term.Head.TheVariants.{Var, Nt, Tm}
use Rattle.hs_scheme.specs.Tree.{forest, children-forest}
use Rattle.hs_scheme.specs.acceptance.Transition.{TransitionData}
use Rattle.hs_scheme.specs.acceptance.Automaton.{AutomatonData, next, is_of}
use Rattle.hs_scheme.specs.Problem.{ProblemData}
use Rattle.hs_scheme.proofs.Lists.{none_in, here, later, uncons, Contains-at}
use Rattle.hs_table.specs.declared.support.HeadBy.{HeadBy}
use Rattle.hs_table.specs.declared.support.HeadBy.TheVariants.{Terminal, Rule, Param}
use Rattle.hs_table.specs.Types.{TypeTree, state, arrow, arrows, IsSet, IsType, AreTypes}
use Rattle.hs_table.specs.Entries.{Env, EntryData, Has, set_at, InShape}
use Rattle.hs_table.specs.Follows.{IsHeadType, IsTerminalType, rank_of, HeadHas, Chosen, done, next_argument, choose, AnyHas, Follows}
use Rattle.hs_table_laws.proofs.Arrows.{empties}
use Rattle.hs_table_laws.proofs.Sets.{no_set, one_set}

pub are_types : (n : ℕ) (xs : List TypeTree) → ((a : TypeTree) → Contains xs a → IsType n a) → AreTypes n (forest xs)
are_types n [] f = tt
are_types n (x ∷ xs) f = (f x (here x xs), are_types n xs (λ a m. f a (later x a xs m)))

pub arrow_shape : (n : ℕ) (s : List TypeTree) (t : TypeTree) → IsSet s → ((a : TypeTree) → Contains s a → IsType n a) → IsType n t → IsType n (arrow s t)
arrow_shape n s t up types h = (h, subst (λ (r : List TypeTree). IsSet r) (sym (children-forest s)) up, are_types n s types)

-- sets, each ascending and of types in shape
pub record AreSets (n : ℕ) (ss : Env) : Type 0 where
  pub sets : (j : ℕ) → IsSet (set_at ss j)
  pub types : (j : ℕ) (a : TypeTree) → Has ss j a → IsType n a

pub arrows_shape : (n : ℕ) (ss : Env) (t : TypeTree) → AreSets n ss → IsType n t → IsType n (arrows ss t)
arrows_shape n [] t h type = type
arrows_shape n (s ∷ ss) t h type = arrow_shape n s (arrows ss t) (h.sets 0) (h.types 0) (arrows_shape n ss t (record { sets = λ j. h.sets (suc j); types = λ j. h.types (suc j) }) type)

pub result_shape : (n : ℕ) (ss : Env) (t : TypeTree) → IsType n (arrows ss t) → IsType n t
result_shape n [] t h = h
result_shape n (s ∷ ss) t h = result_shape n ss t h.0

-- empty sets but for one
one_full : (k i j : ℕ) (s : List TypeTree) → (set_at (set (replicate k []) i s) j ≡ []) ⊎ (set_at (set (replicate k []) i s) j ≡ s)
one_full zero i j s = inl refl
one_full (suc k) zero zero s = inr refl
one_full (suc k) zero (suc j) s = inl (empties k j)
one_full (suc k) (suc i) zero s = inl refl
one_full (suc k) (suc i) (suc j) s = one_full k i j s

abbrev IsSetInShape : ℕ → List TypeTree → Type 0
IsSetInShape n s = IsSet s × ((a : TypeTree) → Contains s a → IsType n a)

none_good : (n : ℕ) → IsSetInShape n []
none_good n = (no_set, λ a h. absurd (none_in a h))

one_good : (n r : ℕ) → r < n → IsSetInShape n (state r ∷ [])
one_good n r h = (
  one_set (state r),
  λ a c. elim (uncons (state r) a [] c) [
    | inl e ↦ subst (λ (t : TypeTree). IsType n t) (sym e) (h, refl)
    | inr nowhere ↦ absurd (none_in a nowhere)
  ],
)

are_sets : (n : ℕ) (ss : Env) → ((j : ℕ) → IsSetInShape n (set_at ss j)) → AreSets n ss
are_sets n ss f = record { sets = λ j. (f j).0; types = λ j a h. (f j).1 a h }

pub empties_are_sets : (n k : ℕ) → AreSets n (replicate k [])
empties_are_sets n k = are_sets n (replicate k []) (λ j. subst (IsSetInShape n) (sym (empties k j)) (none_good n))

pub one_full_are_sets : (n k i r : ℕ) → r < n → AreSets n (set (replicate k []) i (state r ∷ []))
one_full_are_sets n k i r h = are_sets n (set (replicate k []) i (state r ∷ [])) (λ j. elim (one_full k i j (state r ∷ [])) [
  | inl e ↦ subst (IsSetInShape n) (sym e) (none_good n)
  | inr e ↦ subst (IsSetInShape n) (sym e) (one_good n r h)
])

found_in : {X : Type 0} (test : X → Bool) (xs : List X) (x : X) → find test xs ≡ Some x → Contains xs x
found_in test [] x e = absurd (cc)
found_in test (y ∷ ys) x e = elim (test y) as (λ b. cond b (Some y) (find test ys) ≡ Some x → Contains (y ∷ ys) x) [
  | true ↦ λ f. subst (λ z. Contains (y ∷ ys) z) (same_Some y x f) (here y ys)
  | false ↦ λ f. later y x ys (found_in test ys x f)
] e

moved : (ts : List TransitionData) (o : Option TransitionData) (qs : List ℕ) → ((t : TransitionData) → o ≡ Some t → Contains ts t) → option_map (λ (t : TransitionData). t.to) o ≡ Some qs
    → (t : TransitionData) × (Contains ts t × (t.to ≡ qs))
moved ts None qs f e = absurd (cc)
moved ts (Some t) qs f e = (t, (f t refl, same_Some t.to qs e))

-- the states that transitions lead to are in range
abbrev pub LeadsWithin : AutomatonData → Type 0
LeadsWithin a = All (λ t. All (λ z. z < a.states) t.to) a.transitions

pub next_within : (a : AutomatonData) (q s : ℕ) (qs : List ℕ) (i r : ℕ) → LeadsWithin a → next a.transitions q s ≡ Some qs → slice_get qs i ≡ Some r → r < a.states
next_within a q s qs i r h e at =
    let m = moved a.transitions (find (is_of q s) a.transitions) qs (λ t f. found_in (is_of q s) a.transitions t f) e in
    let all = All-contains (λ t. All (λ z. z < a.states) t.to) a.transitions m.0 h m.1.0 in
    All-contains (λ z. z < a.states) qs r (subst (λ (zs : List ℕ). All (λ z. z < a.states) zs) m.1.1 all) (Contains-at qs i r at)

module _ (p : ProblemData) (E : List EntryData) (h : LeadsWithin p.sorted.automaton) where
  terminal_shape : (a q : ℕ) (child : Option ℕ) (ty : TypeTree) → q < p.sorted.automaton.states → IsTerminalType p a q child ty → IsType p.sorted.automaton.states ty
  terminal_shape a q None ty lt x =
      subst (λ (t : TypeTree). IsType p.sorted.automaton.states t) (sym x.is)
      (arrows_shape p.sorted.automaton.states (replicate (rank_of p a) []) (state q) (empties_are_sets p.sorted.automaton.states (rank_of p a)) (lt, refl))
  terminal_shape a q (Some child) ty lt x =
      subst (λ (t : TypeTree). IsType p.sorted.automaton.states t) (sym x.is)
      (arrows_shape p.sorted.automaton.states (set (replicate (length x.qs) []) x.place (state x.r ∷ [])) (state q)
      (one_full_are_sets p.sorted.automaton.states (length x.qs) x.place x.r (next_within p.sorted.automaton q a x.qs x.place x.r h x.moves x.at)) (lt, refl))

  head_shape : (rule : ℕ) (head : Head) (by : HeadBy) (ty : TypeTree) → IsHeadType p E rule head by ty → IsType p.sorted.automaton.states ty
  head_shape rule (Tm a) (Terminal q child) ty x = terminal_shape a q child ty x.0 x.1
  head_shape rule (Tm a) (Rule place) ty x = absurd x
  head_shape rule (Tm a) (Param y place) ty x = absurd x
  head_shape rule (Nt f) (Terminal q child) ty x = absurd x
  head_shape rule (Nt f) (Rule place) ty x =
      subst (λ (t : TypeTree). IsType p.sorted.automaton.states t) (sym x.is)
      (arrows_shape p.sorted.automaton.states x.entry.env (state x.q) (record { sets = x.holds.shape.env.sets; types = x.holds.shape.types })
      (subst (λ (t : TypeTree). IsType p.sorted.automaton.states t) x.is_state x.holds.shape.ty))
  head_shape rule (Nt f) (Param y place) ty x = absurd x
  head_shape rule (Var j) (Terminal q child) ty x = absurd x
  head_shape rule (Var j) (Rule place) ty x = absurd x
  head_shape rule (Var j) (Param y place) ty x = subst (λ (t : TypeTree). IsType p.sorted.automaton.states t) (sym x.1.is) x.1.holds.shape.ty

  head_has_shape : (head : Head) (ty : TypeTree) (j : ℕ) (a : TypeTree) → IsType p.sorted.automaton.states ty → HeadHas head ty j a → IsType p.sorted.automaton.states a
  head_has_shape (Var x) ty j a type (here, is) = subst (λ (t : TypeTree). IsType p.sorted.automaton.states t) (sym is) type
  head_has_shape (Nt f) ty j a type x = absurd x
  head_has_shape (Tm b) ty j a type x = absurd x

  chosen_shape : {i : ℕ} {us : List ℕ} {ss : Env} {args : List (ℕ × ℕ)} {es : List EntryData} → Chosen p E i us ss args es → (j : ℕ) (a : TypeTree) → AnyHas es j a → IsType p.sorted.automaton.states a
  chosen_shape done j a x = absurd x
  chosen_shape (next_argument c) j a x = chosen_shape c j a x
  chosen_shape (choose at point ty c) j a (inl x) = at.shape.types j a x
  chosen_shape (choose at point ty c) j a (inr x) = chosen_shape c j a x

  pub follows_shape : (e : EntryData) → Follows p E e → InShape p e
  follows_shape e (s, f) =
      let n = p.sorted.automaton.states in
      let type = head_shape f.of.rule f.of.head s.head (arrows f.sets e.ty) f.head in
      record {
        of = f.of;
        at = f.at;
        env = f.env;
        types = λ j a x. elim ((f.union j a (within e.env j a x)).0 x) [
          | inl own ↦ head_has_shape f.of.head (arrows f.sets e.ty) j a type own
          | inr any ↦ chosen_shape f.are j a any
        ];
        ty = result_shape n f.sets e.ty type;
      }
    where
      within : (env : Env) (j : ℕ) (a : TypeTree) → Has env j a → j < length env
      within [] j a x = absurd (none_in a x)
      within (s ∷ env) zero a x = omega arith
      within (s ∷ env) (suc j) a x = let r = within env j a x in omega (arith, r)
