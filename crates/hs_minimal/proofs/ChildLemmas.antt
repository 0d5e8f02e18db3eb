-- What weakly follows at a terminal with all its arguments, from an entry at one of them.
use Rattle.std.proofs.Common.{◌≡◌, refl, sym, ◌∙◌, ap, subst, ℕ, zero, suc, ◌+◌, ◌<◌, List, [], ◌∷◌, ◌++◌, length, slice_get, set, replicate, Some, None, true, false, cond, nat_eq, find, option_map, arith, Contains, inl, inr}
use Rattle.std.proofs.lemmas.Bool.{eqb-true, and_parts}
use Rattle.std.proofs.lemmas.List.Elements.{All-contains}
use Rattle.std.proofs.lemmas.Option.{same_Some, slice_get_within, get_or_from_slice_get}
use Rattle.hs_scheme.specs.acceptance.Transition.{TransitionData}
use Rattle.hs_scheme.specs.acceptance.Automaton.{next, is_of}
use Rattle.hs_scheme.specs.acceptance.Transitions.{Reads}
use Rattle.hs_scheme.specs.declared.term.Head.{Head}
use Rattle.hs_scheme.specs.declared.term.Head.TheVariants.{Tm}
use Rattle.hs_scheme.specs.flow.Points.{PointData, point_at}
use Rattle.hs_scheme.specs.Problem.{ProblemData}
use Rattle.hs_scheme.proofs.Lists.{none_in, here, later, Contains-at}
use Rattle.hs_table.specs.declared.support.HeadBy.TheVariants.{Terminal}
use Rattle.hs_table.specs.Types.{TypeTree, state, arrows}
use Rattle.hs_table.specs.Entries.{Env, EntryData, InShape, params_of}
use Rattle.hs_table.specs.Follows.{IsAt, IsHeadType, HeadHas, rank_of}
use Rattle.hs_table_laws.proofs.Arrows.{length-empties, empties_set, empties_has}
use Rattle.hs_table_laws.proofs.Members.{into_map, pushed_cases}
use Rattle.hs_table_laws.proofs.Places.{place_of}
use Rattle.hs_verdict.specs.Premises.{IsSortedProblem}
use Rattle.hs_weak.specs.Strength.{AsStrongAs, same_state}
use Rattle.hs_weak.specs.Weak.{WeaklyChosen, done, next_argument, choose, WeaklyFollows}
use Rattle.hs_types.specs.Interned.{InternerData, RowData, type_of_id, env_of_id, entry_of, Grows}
use Rattle.hs_types.proofs.Numbers.{type_stays, env_stays}
use Rattle.hs_choices.proofs.Pruning.{argument_long}
use Rattle.hs_heads.proofs.TerminalLemmas.{ranks_agree}
use Rattle.hs_minimal.specs.Growing.{GrowingData, entries, IsGrowing}
use Rattle.hs_minimal.specs.Following.{IsFollowing, AreFollowingAt}
use Rattle.hs_minimal.proofs.GrowingLemmas.{added_in_use, added_shape, entries_stay, growing_stays}
use Rattle.hs_minimal.proofs.FollowingLemmas.{following_stays}
use Rattle.hs_minimal.proofs.SettlingLemmas.{own_point}

-- a state that has a transition is one of the states
state_within : (n : ℕ) (ts : List TransitionData) (q a : ℕ) (to : List ℕ) → ((t : TransitionData) → Contains ts t → t.from < n) → next ts q a ≡ Some to → q < n
state_within n [] q a to h e = absurd (cc)
state_within n (t ∷ ts) q a to h e = elim (is_of q a t) as (λ b. is_of q a t ≡ b → option_map (λ (x : TransitionData). x.to) (cond b (Some t) (find (is_of q a) ts)) ≡ Some to → q < n) [
  | true ↦ λ is k. subst (λ z. z < n) (eqb-true t.from q (and_parts (nat_eq t.from q) (nat_eq t.terminal a) is).0) (h t (here t ts))
  | false ↦ λ is k. state_within n ts q a to (λ x m. h x (later t x ts m)) k
] refl e

chosen_none : (p : ProblemData) (E : List EntryData) (i : ℕ) (us : List ℕ) → WeaklyChosen AsStrongAs p E i us (replicate (length us) []) [] []
chosen_none p E i [] = done
chosen_none p E i (u ∷ us) = next_argument (chosen_none p E (suc i) us)

-- in a state without a transition the terminal is rejected, whatever its arguments are
module _ (p : ProblemData) (E : List EntryData) (point : ℕ) (lt : point < length p.points.points) (a q : ℕ) (head : (point_at p.points point).head ≡ Tm a) (full : length (point_at p.points point).args ≡ rank_of p a) (within : q < p.sorted.automaton.states)
    (none : next p.sorted.automaton.transitions q a ≡ None) where
  abbrev at_point : PointData
  at_point = point_at p.points point

  abbrev no_sets : Env
  no_sets = replicate (length at_point.args) []

  lacking_head : IsHeadType p E at_point.rule at_point.head (Terminal q None) (arrows no_sets (state q))
  lacking_head = subst (λ (h : Head). IsHeadType p E at_point.rule h (Terminal q None) (arrows no_sets (state q))) (sym head) (within, record { moves = none; is = ap (λ n. arrows (replicate n []) (state q)) full })

  pub lacking_follows : WeaklyFollows AsStrongAs p E (record { point = point; env = replicate (params_of p at_point.rule) []; ty = state q })
  lacking_follows = (
    record { head = Terminal q None; args = [] },
    record {
      of = at_point;
      at = own_point p point lt;
      sets = no_sets;
      head = lacking_head;
      chosen = [];
      are = chosen_none p E 0 at_point.args;
      env = record { long = length-empties (params_of p at_point.rule); sets = empties_set (params_of p at_point.rule) };
      union = λ j c below. (
        λ h. absurd (empties_has (params_of p at_point.rule) j c h),
        λ x. elim x [
          | inl own ↦ absurd (subst (λ (h : Head). HeadHas h (arrows no_sets (state q)) j c) head own)
          | inr none ↦ absurd none
        ],
      );
    },
  )

-- an entry that is chosen for a type of one argument
module _ (p : ProblemData) (E : List EntryData) (at_place : ℕ) (e : EntryData) (holds : IsAt p E at_place e) (b : TypeTree) (strong : AsStrongAs e.ty b) where
  chosen_one : (i : ℕ) (us : List ℕ) (k : ℕ) → slice_get us k ≡ Some e.point → (args : List (ℕ × ℕ)) × WeaklyChosen AsStrongAs p E i us (set (replicate (length us) []) k (b ∷ [])) args (e ∷ [])
  chosen_one i [] k at = let lt = slice_get_within [] k e.point at in absurd (omega (arith, lt))
  chosen_one i (u ∷ us) zero at = ((i, at_place) ∷ [], choose holds (sym (same_Some u e.point at)) strong (next_argument (chosen_none p E (suc i) us)))
  chosen_one i (u ∷ us) (suc k) at = let r = chosen_one (suc i) us k at in (r.0, next_argument r.1)

module _ (p : ProblemData) (given : IsSortedProblem p) (E : List EntryData) (point : ℕ) (lt : point < length p.points.points) (a place s q : ℕ) (head : (point_at p.points point).head ≡ Tm a) (full : length (point_at p.points point).args ≡ rank_of p a)
    (e : EntryData) (there : Contains E e) (shape : InShape p e) (ty : e.ty ≡ state s) (at_arg : slice_get (point_at p.points point).args place ≡ Some e.point) (read : Reads p.sorted.automaton.transitions a place s q) where
  abbrev of : PointData
  of = point_at p.points point

  abbrev to : List ℕ
  to = read.0

  long : length of.args ≡ length to
  long = full ∙ sym (ranks_agree p.sorted given.sorted q a to read.1.0)

  abbrev sets : Env
  sets = set (replicate (length to) []) place (state s ∷ [])

  of_head : IsHeadType p E of.rule of.head (Terminal q (Some (place + 1))) (arrows sets (state q))
  of_head = subst (λ (h : Head). IsHeadType p E of.rule h (Terminal q (Some (place + 1))) (arrows sets (state q))) (sym head) (
    state_within p.sorted.automaton.states p.sorted.automaton.transitions q a to (λ t m. All-contains (λ (x : TransitionData). x.from < p.sorted.automaton.states) p.sorted.automaton.transitions t given.automaton.from m) read.1.0,
    record { qs = to; place = place; r = s; moves = read.1.0; at = read.1.1; counted = refl; is = refl },
  )

  in_list : (k : ℕ) × (slice_get E k ≡ Some e)
  in_list = place_of E e there

  of_child : (args : List (ℕ × ℕ)) × WeaklyChosen AsStrongAs p E 0 of.args sets args (e ∷ [])
  of_child = subst (λ n. (args : List (ℕ × ℕ)) × WeaklyChosen AsStrongAs p E 0 of.args (set (replicate n []) place (state s ∷ [])) args (e ∷ [])) long
      (chosen_one p E in_list.0 e (record { at = in_list.1; shape = shape }) (state s) (subst (λ (t : TypeTree). AsStrongAs t (state s)) (sym ty) same_state) 0 of.args place at_arg)

  pub child_follows : WeaklyFollows AsStrongAs p E (record { point = point; env = e.env; ty = state q })
  child_follows = (
    record { head = Terminal q (Some (place + 1)); args = of_child.0 },
    record {
      of = of;
      at = own_point p point lt;
      sets = sets;
      head = of_head;
      chosen = e ∷ [];
      are = of_child.1;
      env = record { long = argument_long p given E point of (own_point p point lt) e (record { shape = shape; argument = Contains-at of.args place e.point at_arg }); sets = shape.env.sets };
      union = λ j c below. (
        λ h. inr (inl h),
        λ x. elim x [
          | inl own ↦ absurd (subst (λ (h : Head). HeadHas h (arrows sets (state q)) j c) head own)
          | inr any ↦ elim any [ inl h ↦ h | inr none ↦ absurd none ]
        ],
      );
    },
  )

-- what follows so far, while there come more numbers
module _ (g : GrowingData) (given : IsSortedProblem g.problem) (I : InternerData) (h : IsGrowing I g) (point : ℕ) where
  pub none_at : (found : List RowData) → found ≡ [] → AreFollowingAt I g point found
  none_at found is r m = absurd (none_in r (subst (λ (z : List RowData). Contains z r) is m))

  pub at_stays : (J : InternerData) → Grows I J → (found : List RowData) → AreFollowingAt I g point found → AreFollowingAt J g point found
  at_stays J grows found are r m =
      subst (λ (E : List EntryData). IsFollowing g.problem E point J r) (sym (entries_stay I J grows g.history (added_in_use I g h)))
      (following_stays g.problem (entries I g.history) point (point_at g.problem.points point) I J grows r (are r m))

  -- one more
  pub one_at : (J : InternerData) → Grows I J → (r : RowData) → IsFollowing g.problem (entries J g.history) point J r → (old new : List RowData) → new ≡ old ++ r ∷ [] → AreFollowingAt I g point old → AreFollowingAt J g point new
  one_at J grows r follows old new is are x m = elim (pushed_cases old r x (subst (λ (z : List RowData). Contains z x) is m)) [
    | inl was ↦ at_stays J grows old are x was
    | inr own ↦ subst (λ (z : RowData). IsFollowing g.problem (entries J g.history) point J z) (sym own) follows
  ]

-- the row for a state whose transition reads a row at an argument
module _ (g : GrowingData) (given : IsSortedProblem g.problem) (I : InternerData) (h : IsGrowing I g) (point : ℕ) (lt : point < length g.problem.points.points) (a place s q : ℕ) (head : (point_at g.problem.points point).head ≡ Tm a)
    (full : length (point_at g.problem.points point).args ≡ rank_of g.problem a) (row : RowData) (there : Contains g.history row) (state_is : type_of_id I row.ty ≡ state s) (at_arg : slice_get (point_at g.problem.points point).args place ≡ Some row.point)
    (read : Reads g.problem.sorted.automaton.transitions a place s q) (J : InternerData) (grows : Grows I J) (ty : ℕ) (ty_is : slice_get J.types ty ≡ Some (state q)) where
  at_now : IsGrowing J g
  at_now = growing_stays I g h J grows

  pub child_row : IsFollowing g.problem (entries J g.history) point J (record { point = point; env = row.env; ty = ty })
  child_row = record {
    in_use = ((added_in_use J g at_now row there).0, slice_get_within J.types ty (state q) ty_is);
    at = refl;
    follows = subst (λ (t : TypeTree). WeaklyFollows AsStrongAs g.problem (entries J g.history) (record { point = point; env = env_of_id J row.env; ty = t })) (sym (get_or_from_slice_get J.types ty (state q) (state 0) ty_is))
        (child_follows g.problem given (entries J g.history) point lt a place s q head full (entry_of J row) (into_map (entry_of J) g.history row there) (added_shape J g at_now given.automaton.to row there)
        (type_stays I J grows row.ty (added_in_use I g h row there).1 ∙ state_is) at_arg read);
  }

-- and its entry
pub child_entry : {g : GrowingData} (I J : InternerData) → Grows I J → IsGrowing I g → (row : RowData) → Contains g.history row → (point q ty : ℕ) → slice_get J.types ty ≡ Some (state q)
    → entry_of J (record { point = point; env = row.env; ty = ty }) ≡ record { point = point; env = env_of_id I row.env; ty = state q }
child_entry {g = g} I J grows h row there point q ty ty_is =
    let env = env_stays I J grows row.env (added_in_use I g h row there).0 in
    let is = get_or_from_slice_get J.types ty (state q) (state 0) ty_is in
    λ i. record { point = point; env = env i; ty = is i }

-- the row for a state without a transition
pub lacking_row : (g : GrowingData) (J : InternerData) (point : ℕ) → point < length g.problem.points.points → (a q : ℕ) → (point_at g.problem.points point).head ≡ Tm a → length (point_at g.problem.points point).args ≡ rank_of g.problem a → q < g.problem.sorted.automaton.states
    → next g.problem.sorted.automaton.transitions q a ≡ None → (env ty : ℕ) → env < length J.envs → env_of_id J env ≡ replicate (params_of g.problem (point_at g.problem.points point).rule) [] → slice_get J.types ty ≡ Some (state q)
    → IsFollowing g.problem (entries J g.history) point J (record { point = point; env = env; ty = ty })
lacking_row g J point lt a q head full within none env ty env_in env_is ty_is = record {
  in_use = (env_in, slice_get_within J.types ty (state q) ty_is);
  at = refl;
  follows = subst (λ (t : TypeTree). WeaklyFollows AsStrongAs g.problem (entries J g.history) (record { point = point; env = env_of_id J env; ty = t })) (sym (get_or_from_slice_get J.types ty (state q) (state 0) ty_is))
      (subst (λ (E : Env). WeaklyFollows AsStrongAs g.problem (entries J g.history) (record { point = point; env = E; ty = state q })) (sym env_is) (lacking_follows g.problem (entries J g.history) point lt a q head full within none));
}

pub lacking_entry : (J : InternerData) (point q env ty : ℕ) (E : Env) → env_of_id J env ≡ E → slice_get J.types ty ≡ Some (state q) → entry_of J (record { point = point; env = env; ty = ty }) ≡ record { point = point; env = E; ty = state q }
lacking_entry J point q env ty E env_is ty_is = let is = get_or_from_slice_get J.types ty (state q) (state 0) ty_is in λ i. record { point = point; env = env_is i; ty = is i }
