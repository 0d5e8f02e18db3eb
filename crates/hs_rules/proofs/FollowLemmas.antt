-- What follows is what slots and their candidates lead to.
use Rattle.std.proofs.Common.{◌≡◌, refl, sym, ap, subst, ℕ, suc, ◌<◌, List, [], ◌∷◌, length, slice_get, Option, Some, None, arith, Contains, inl, inr}
use Rattle.hs_scheme.specs.flow.Points.{PointData}
use Rattle.hs_scheme.specs.Problem.{ProblemData}
use Rattle.hs_scheme.proofs.Lists.{Contains-at}
use Rattle.hs_table.specs.declared.support.HeadBy.{HeadBy}
use Rattle.hs_table.specs.Types.{TypeTree, arrows}
use Rattle.hs_table.specs.Entries.{Env, EntryData, InShape, params_of}
use Rattle.hs_table.specs.Follows.{IsAt, IsHeadType, Chosen, done, next_argument, choose, Support, FollowsBy}
use Rattle.hs_rules.specs.Slots.{SlotData, slots, FixedData, IsCandidate, Picked, none_left, pick, IsOwn, Concludes}
use Rattle.hs_rules.proofs.SlotLemmas.{freed, first_of, none_of}

module _ (p : ProblemData) (E : List EntryData) where
  pub chosen_picked : {i : ℕ} {us : List ℕ} {ss : Env} {args : List (ℕ × ℕ)} {es : List EntryData} → Chosen p E i us ss args es → Picked (λ s. s.arg) (IsCandidate E None) (slots i us ss) args es
  chosen_picked done = none_left
  chosen_picked (next_argument h) = chosen_picked h
  chosen_picked (choose at point ty h) = pick (record { at = at.at; point = point; ty = ty; respects = tt }) (chosen_picked h)

  pub chosen_long : {i : ℕ} {us : List ℕ} {ss : Env} {args : List (ℕ × ℕ)} {es : List EntryData} → Chosen p E i us ss args es → length us ≡ length ss
  chosen_long done = refl
  chosen_long (next_argument h) = ap suc (chosen_long h)
  chosen_long (choose at point ty h) = chosen_long h

  module _ (shapes : (e : EntryData) → Contains E e → InShape p e) where
    pub picked_chosen : (i : ℕ) (us : List ℕ) (ss : Env) (args : List (ℕ × ℕ)) (es : List EntryData) → length us ≡ length ss
        → Picked (λ s. s.arg) (IsCandidate E None) (slots i us ss) args es → Chosen p E i us ss args es
    picked_chosen i [] [] args es long k =
        let n = none_of (λ (s : SlotData). s.arg) (IsCandidate E None) args es k in
        subst (λ (xs : List EntryData). Chosen p E i [] [] args xs) (sym n.1) (subst (λ (bs : List (ℕ × ℕ)). Chosen p E i [] [] bs []) (sym n.0) done)
    picked_chosen i [] (s ∷ ss) args es long k = absurd (omega arith)
    picked_chosen i (u ∷ us) [] args es long k = absurd (omega arith)
    picked_chosen i (u ∷ us) ([] ∷ ss) args es long k = next_argument (picked_chosen (suc i) us ss args es (omega arith) k)
    picked_chosen i (u ∷ us) ((a ∷ s) ∷ ss) args es long k =
        let f = first_of (λ (x : SlotData). x.arg) (IsCandidate E None) (record { arg = i; point = u; ty = a }) (slots i (u ∷ us) (s ∷ ss)) args es k in
        let rest = picked_chosen i (u ∷ us) (s ∷ ss) f.rest f.others long f.picked in
        let at : IsAt p E f.place f.entry = record { at = f.fills.at; shape = shapes f.entry (Contains-at E f.place f.entry f.fills.at) } in
        subst (λ (xs : List EntryData). Chosen p E i (u ∷ us) ((a ∷ s) ∷ ss) args xs) (sym f.entries_are)
        (subst (λ (bs : List (ℕ × ℕ)). Chosen p E i (u ∷ us) ((a ∷ s) ∷ ss) bs (f.entry ∷ f.others)) (sym f.args_are) (choose at f.fills.point f.fills.ty rest))

    any_picked : (fixed : Option FixedData) {ss : List SlotData} {args : List (ℕ × ℕ)} {es : List EntryData} → Picked (λ s. s.arg) (IsCandidate E fixed) ss args es → Picked (λ s. s.arg) (IsCandidate E None) ss args es
    any_picked None k = k
    any_picked (Some f) k = freed E f k

    -- what slots lead to follows
    pub concludes_follows : (of : PointData) (point : ℕ) (by : HeadBy) (fixed : Option FixedData) (own sets env : Env) (rest : TypeTree) (args : List (ℕ × ℕ)) → slice_get p.points.points point ≡ Some of
        → IsHeadType p E of.rule of.head by (arrows sets rest) → IsOwn (params_of p of.rule) of.head (arrows sets rest) own → length of.args ≡ length sets
        → Concludes E fixed (params_of p of.rule) of.args own sets args env → FollowsBy p E (record { head = by; args = args }) (record { point = point; env = env; ty = rest })
    concludes_follows of point by fixed own sets env rest args at head is_own long c = record {
      of = of;
      at = at;
      sets = sets;
      head = head;
      chosen = c.chosen;
      are = picked_chosen 0 of.args sets args c.chosen long (any_picked fixed c.picked);
      env = c.join.is_env;
      union = λ j a lt.
          let below : j < params_of p of.rule = omega (arith, lt, c.join.is_env.long) in
          let o = is_own.has j a below in
          let h = c.join.has j a below in
          (λ k. elim (h.0 k) [ inl m ↦ inl (o.0 m) | inr m ↦ inr m ], λ k. h.1 (elim k [ inl m ↦ inl (o.1 m) | inr m ↦ inr m ]));
    }

  -- what follows is led to
  pub follows_concludes : (fixed : Option FixedData) (own : Env) (s : Support) (e : EntryData) (f : FollowsBy p E s e) → IsOwn (params_of p f.of.rule) f.of.head (arrows f.sets e.ty) own
      → (Picked (λ s. s.arg) (IsCandidate E None) (slots 0 f.of.args f.sets) s.args f.chosen → Picked (λ s. s.arg) (IsCandidate E fixed) (slots 0 f.of.args f.sets) s.args f.chosen)
      → Concludes E fixed (params_of p f.of.rule) f.of.args own f.sets s.args e.env
  follows_concludes fixed own s e f is_own to = record {
    chosen = f.chosen;
    picked = to (chosen_picked f.are);
    join = record {
      is_env = f.env;
      has = λ j a lt.
          let below : j < length e.env = omega (arith, lt, f.env.long) in
          let o = is_own.has j a lt in
          let u = f.union j a below in
          (λ k. elim (u.0 k) [ inl m ↦ inl (o.1 m) | inr m ↦ inr m ], λ k. u.1 (elim k [ inl m ↦ inl (o.0 m) | inr m ↦ inr m ]));
    };
  }
