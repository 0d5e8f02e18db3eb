-- What an entry follows from are its premises alone, the greatest of which comes last.
use Rattle.std.proofs.Common.{◌≡◌, ◌∙◌, ap, sym, subst, ℕ, ◌+◌, ◌≤◌, List, [], ◌∷◌, map, take, slice_get, Some, arith, Contains, ◌⊎◌, inl, inr}
use Rattle.std.proofs.lemmas.Bool.{cases_lt}
use Rattle.std.proofs.lemmas.List.Elements.{Contains-append_left, Contains-append_right, Contains-append_cases}
use Rattle.hs_scheme.specs.declared.term.Head.{Head}
use Rattle.hs_scheme.specs.declared.term.Head.TheVariants.{Var, Nt, Tm}
use Rattle.hs_scheme.specs.flow.Dependents.{HeadReads, IsDependent}
use Rattle.hs_scheme.specs.Problem.{ProblemData}
use Rattle.hs_scheme.proofs.Lists.{none_in, here, later, uncons}
use Rattle.hs_table.specs.declared.support.HeadBy.{HeadBy}
use Rattle.hs_table.specs.declared.support.HeadBy.TheVariants.{Terminal, Rule, Param}
use Rattle.hs_table.specs.Types.{TypeTree, arrows}
use Rattle.hs_table.specs.Entries.{Env, EntryData}
use Rattle.hs_table.specs.Follows.{IsAt, IsHeadType, Chosen, done, next_argument, choose, Support, FollowsBy, head_premise, premises}
use Rattle.hs_table_laws.proofs.Places.{to_take}

-- the places of the chosen entries
abbrev places : List (ℕ × ℕ) → List ℕ
places args = map (λ a. a.1) args

-- what is at these places is also in another list
abbrev KeepsPlaces : List ℕ → List EntryData → List EntryData → Type 0
KeepsPlaces used E F = (i : ℕ) (e : EntryData) → Contains used i → slice_get E i ≡ Some e → slice_get F i ≡ Some e

module _ (p : ProblemData) (E F : List EntryData) where
  at_used : (used : List ℕ) (place : ℕ) (e : EntryData) → KeepsPlaces used E F → Contains used place → IsAt p E place e → IsAt p F place e
  at_used used place e keeps in_used h = record { at = keeps place e in_used h.at; shape = h.shape }

  head_used : (rule : ℕ) (h : Head) (by : HeadBy) (ty : TypeTree) → KeepsPlaces (head_premise by) E F → IsHeadType p E rule h by ty → IsHeadType p F rule h by ty
  head_used rule (Tm a) (Terminal q child) ty keeps x = x
  head_used rule (Tm a) (Rule place) ty keeps x = absurd x
  head_used rule (Tm a) (Param y place) ty keeps x = absurd x
  head_used rule (Nt f) (Terminal q child) ty keeps x = absurd x
  head_used rule (Nt f) (Rule place) ty keeps x =
      record { entry = x.entry; q = x.q; holds = at_used (place ∷ []) place x.entry keeps (here place []) x.holds; body = x.body; is_state = x.is_state; is = x.is }
  head_used rule (Nt f) (Param y place) ty keeps x = absurd x
  head_used rule (Var j) (Terminal q child) ty keeps x = absurd x
  head_used rule (Var j) (Rule place) ty keeps x = absurd x
  head_used rule (Var j) (Param y place) ty keeps x =
      (x.0, record { entry = x.1.entry; holds = at_used (place ∷ []) place x.1.entry keeps (here place []) x.1.holds; flows = x.1.flows; is = x.1.is })

  chosen_used : {i : ℕ} {us : List ℕ} {ss : Env} {args : List (ℕ × ℕ)} {es : List EntryData} → Chosen p E i us ss args es → KeepsPlaces (places args) E F → Chosen p F i us ss args es
  chosen_used done keeps = done
  chosen_used (next_argument c) keeps = next_argument (chosen_used c keeps)
  chosen_used (choose {i = i} {place = place} {args = args} {e = e} at point ty c) keeps =
      choose (at_used (place ∷ places args) place e keeps (here place (places args)) at) point ty (chosen_used c (λ k x h. keeps k x (later place k (places args) h)))

  pub by_used : (s : Support) (e : EntryData) → KeepsPlaces (premises s) E F → FollowsBy p E s e → FollowsBy p F s e
  by_used s e keeps h = record {
    of = h.of;
    at = h.at;
    sets = h.sets;
    head = head_used h.of.rule h.of.head s.head (arrows h.sets e.ty) (λ i x c. keeps i x (Contains-append_left (head_premise s.head) (places s.args) i c)) h.head;
    chosen = h.chosen;
    are = chosen_used h.are (λ i x c. keeps i x (Contains-append_right (head_premise s.head) (places s.args) i c));
    env = h.env;
    union = h.union;
  }

-- the greatest number of a list
pub record IsGreatest (xs : List ℕ) (i : ℕ) : Type 0 where
  pub there : Contains xs i
  pub above : (k : ℕ) → Contains xs k → k ≤ i

greatest_of : (x : ℕ) (xs : List ℕ) → (xs ≡ []) ⊎ ((i : ℕ) × IsGreatest xs i) → (i : ℕ) × IsGreatest (x ∷ xs) i
greatest_of x xs (inl none) = (
  x,
  record {
    there = here x xs;
    above = λ k c. elim (uncons x k xs c) [
      | inl is ↦ omega arith
      | inr there ↦ absurd (none_in k (subst (λ ys. Contains ys k) none there))
    ];
  },
)
greatest_of x xs (inr (i, g)) = elim (cases_lt x i) [
  | inl below ↦ (
    i,
    record {
      there = later x i xs g.there;
      above = λ k c. elim (uncons x k xs c) [
        | inl is ↦ omega arith
        | inr there ↦ g.above k there
      ];
    },
  )
  | inr above ↦ (
    x,
    record {
      there = here x xs;
      above = λ k c. elim (uncons x k xs c) [
        | inl is ↦ omega arith
        | inr there ↦ omega (arith, g.above k there)
      ];
    },
  )
]

pub greatest : (xs : List ℕ) → (xs ≡ []) ⊎ ((i : ℕ) × IsGreatest xs i)
greatest [] = inl (λ i. [])
greatest (x ∷ xs) = inr (greatest_of x xs (greatest xs))

-- by the premises alone
pub by_none : (p : ProblemData) (E : List EntryData) (s : Support) (e : EntryData) → premises s ≡ [] → FollowsBy p E s e → FollowsBy p [] s e
by_none p E s e none = by_used p E [] s e (λ i x c at. absurd (none_in i (subst (λ ys. Contains ys i) none c)))

pub by_greatest : (p : ProblemData) (E : List EntryData) (s : Support) (e : EntryData) (i : ℕ) → IsGreatest (premises s) i → FollowsBy p E s e → FollowsBy p (take (i + 1) E) s e
by_greatest p E s e i g = by_used p E (take (i + 1) E) s e (λ k x c at. to_take (i + 1) E k x (omega (arith, g.above k c)) at)

-- an entry at a place, of whose point another is a dependent
pub record IsBelow (p : ProblemData) (E : List EntryData) (i d : ℕ) : Type 0 where
  pub entry : EntryData
  pub at : slice_get E i ≡ Some entry
  pub depends : IsDependent p.points p.flow.pairs entry.point d

module _ (p : ProblemData) (E : List EntryData) where
  pub record HeadAt (rule : ℕ) (h : Head) (i : ℕ) : Type 0 where
    pub entry : EntryData
    pub at : slice_get E i ≡ Some entry
    pub reads : HeadReads p.points.bodies p.flow.pairs rule h entry.point

  head_at : (rule : ℕ) (h : Head) (by : HeadBy) (ty : TypeTree) (i : ℕ) → IsHeadType p E rule h by ty → Contains (head_premise by) i → HeadAt rule h i
  head_at rule (Tm a) (Terminal q child) ty i x c = absurd (none_in i c)
  head_at rule (Tm a) (Rule place) ty i x c = absurd x
  head_at rule (Tm a) (Param y place) ty i x c = absurd x
  head_at rule (Nt f) (Terminal q child) ty i x c = absurd x
  head_at rule (Nt f) (Rule place) ty i x c = elim (uncons place i [] c) [
    | inl is ↦ record { entry = x.entry; at = ap (λ n. slice_get E n) is ∙ x.holds.at; reads = x.body }
    | inr nowhere ↦ absurd (none_in i nowhere)
  ]
  head_at rule (Nt f) (Param y place) ty i x c = absurd x
  head_at rule (Var j) (Terminal q child) ty i x c = absurd x
  head_at rule (Var j) (Rule place) ty i x c = absurd x
  head_at rule (Var j) (Param y place) ty i x c = elim (uncons place i [] c) [
    | inl is ↦ record { entry = x.1.entry; at = ap (λ n. slice_get E n) is ∙ x.1.holds.at; reads = x.1.flows }
    | inr nowhere ↦ absurd (none_in i nowhere)
  ]

  pub record ArgumentAt (us : List ℕ) (i : ℕ) : Type 0 where
    pub entry : EntryData
    pub at : slice_get E i ≡ Some entry
    pub argument : Contains us entry.point

  chosen_at : {n : ℕ} {us : List ℕ} {ss : Env} {args : List (ℕ × ℕ)} {es : List EntryData} → Chosen p E n us ss args es → (i : ℕ) → Contains (places args) i → ArgumentAt us i
  chosen_at done i c = absurd (none_in i c)
  chosen_at (next_argument {u = u} {us = us} chosen) i c =
      let r = chosen_at chosen i c in record { entry = r.entry; at = r.at; argument = later u r.entry.point us r.argument }
  chosen_at (choose {u = u} {place = place} {us = us} {args = args} {e = e} at point ty chosen) i c = elim (uncons place i (places args) c) [
    | inl is ↦ record { entry = e; at = ap (λ n. slice_get E n) is ∙ at.at; argument = subst (λ n. Contains (u ∷ us) n) (sym point) (here u us) }
    | inr there ↦ chosen_at chosen i there
  ]

  pub premise_below : (s : Support) (e : EntryData) (i : ℕ) → FollowsBy p E s e → Contains (premises s) i → IsBelow p E i e.point
  premise_below s e i h c = elim (Contains-append_cases (head_premise s.head) (places s.args) i c) [
    | inl in_head ↦
        let r = head_at h.of.rule h.of.head s.head (arrows h.sets e.ty) i h.head in_head in
        record { entry = r.entry; at = r.at; depends = record { of = h.of; at = h.at; reads = inr r.reads } }
    | inr in_args ↦
        let r = chosen_at h.are i in_args in
        record { entry = r.entry; at = r.at; depends = record { of = h.of; at = h.at; reads = inl r.argument } }
  ]
