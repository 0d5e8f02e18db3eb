-- No work is in two ways in a state.
use Rattle.std.proofs.Common.{◌≡◌, ◌≢◌, ap, sym, ◌∙◌, subst, ℕ, zero, suc, ◌<◌, List, [], ◌∷◌, ◌++◌, length, Option, Some, None, arith, AllPairs, Contains, ◌⊎◌, inl, inr}
use Rattle.std.proofs.lemmas.Bool.{cases_Bool, cond-true, cond-false, both_ways}
use Rattle.std.proofs.lemmas.List.Elements.{Contains-push_cases, Contains-get_or}
use Rattle.std.proofs.lemmas.List.Quantifiers.{all_pairs_push}
use Rattle.std.proofs.lemmas.Option.{same_Some}
use Rattle.hs_scheme.proofs.Lists.{none_in, here, uncons}
use Rattle.hs_table_laws.proofs.Places.{pairs_tail, pairs_head, pairs_cons}
use Rattle.hs_history.specs.declared.step.Work.{Work}
use Rattle.hs_history.specs.declared.step.Work.TheVariants.{Seed, Place}
use Rattle.hs_history.specs.Story.{Base, Deduction, Action, takes, adds, passes, finishes, gives_back}
use Rattle.hs_history.specs.declared.step.Flight.{Flight}
use Rattle.hs_history.specs.CoreStep.{State, seeds, opening, is_work, without, put, work_under, CanTake, CanFinish, CanAct, Holds, acted}
use Rattle.hs_history.specs.History.{IsInFlight, IsInState, IsJustOnce}
use Rattle.hs_history.proofs.Works.{without_less, is_work_same, is_work_itself, put_cases}
use Rattle.hs_history.proofs.Sound.{IsSound}

abbrev flown : ℕ → Work → Option Flight
flown worker work = Some (record { worker = worker; work = work })

abbrev AreOtherWorks : Work → Work → Type 0
AreOtherWorks v w = v ≢ w

seed_same : (i j : ℕ) → Seed i ≡ Seed j → i ≡ j
seed_same i j e = (cc)

seeds_below : (n i : ℕ) → Contains (seeds n) (Seed i) → i < n
seeds_below zero i c = absurd (none_in (Seed i) c)
seeds_below (suc n) i c = elim (Contains-push_cases (seeds n) (Seed n) (Seed i) c) [
  | inl before ↦ omega (arith, seeds_below n i before)
  | inr last ↦ omega (arith, seed_same n i last)
]

seeds_once : (n : ℕ) → AllPairs AreOtherWorks (seeds n)
seeds_once zero = λ i j d lt within. absurd (omega arith)
seeds_once (suc n) =
    all_pairs_push AreOtherWorks (seeds n) (Seed n) (seeds_once n)
    (λ k d lt same. absurd (omega (arith, seeds_below n n (subst (λ w. Contains (seeds n) w) same (Contains-get_or (seeds n) k d lt)))))

without_once : (w : Work) (vs : List Work) → AllPairs AreOtherWorks vs → AllPairs AreOtherWorks (without w vs)
without_once w [] once = once
without_once w (v ∷ vs) once = elim (cases_Bool (is_work w v)) [
  | inl same ↦ subst (λ ws. AllPairs AreOtherWorks ws) (sym (cond-true (is_work w v) vs (v ∷ without w vs) same)) (pairs_tail AreOtherWorks v vs once)
  | inr other ↦ subst (λ ws. AllPairs AreOtherWorks ws) (sym (cond-false (is_work w v) vs (v ∷ without w vs) other))
      (pairs_cons AreOtherWorks v (without w vs) (λ x c. pairs_head AreOtherWorks v x vs once (without_less w x vs c)) (without_once w vs (pairs_tail AreOtherWorks v vs once)))
]

gone : (w : Work) (vs : List Work) → AllPairs AreOtherWorks vs → Contains (without w vs) w → ⊥
gone w [] once c = none_in w c
gone w (v ∷ vs) once c = elim (cases_Bool (is_work w v)) [
  | inl same ↦
      let there : Contains vs w = subst (λ ws. Contains ws w) (cond-true (is_work w v) vs (v ∷ without w vs) same) c in
      pairs_head AreOtherWorks v w vs once there (sym (is_work_same w v same))
  | inr other ↦ elim (uncons v w (without w vs) (subst (λ ws. Contains ws w) (cond-false (is_work w v) vs (v ∷ without w vs) other) c)) [
    | inl is ↦ absurd (both_ways (is_work w v) other (ap (λ x. is_work w x) (sym is) ∙ is_work_itself w))
    | inr there ↦ gone w vs (pairs_tail AreOtherWorks v vs once) there
  ]
]

pub opening_once : (base : Base) → IsJustOnce (opening base)
opening_once base = record {
  pending = seeds_once (length base.problem.points.points);
  closed = λ i j d lt within. absurd (omega arith);
  one_ticket = λ ticket other worker holder work is at. absurd (cc);
  pending_or_flying = λ work c flying. absurd (nobody flying.0 flying.1 work flying.2);
  pending_or_closed = λ work c closed. none_in work closed;
  flying_or_closed = λ work flying closed. none_in work closed;
}
  where
    nobody : (ticket worker : ℕ) (work : Work) → ◌≡◌ {A = Option Flight} None (flown worker work) → ⊥
    nobody ticket worker work is = cc

module _ (base : Base) (s : State) (sound : IsSound base s) (once : IsJustOnce s) where
  same_work : (worker holder : ℕ) (work other : Work) → ◌≡◌ {A = Option Flight} (flown worker work) (flown holder other) → work ≡ other
  same_work worker holder work other e = ap (λ f. f.work) (same_Some (record { worker = worker; work = work }) (record { worker = holder; work = other }) e)

  takes_once : (worker ticket : ℕ) (work : Work) → CanTake base s work ticket → IsJustOnce (acted s worker (takes work ticket))
  takes_once worker ticket work can = record {
    pending = without_once work s.pending once.pending;
    closed = once.closed;
    one_ticket = λ t u k l w at_t at_u. elim (flying t k w at_t) [
      | inl here ↦ elim (flying u l w at_u) [
        | inl also ↦ here.0 ∙ sym also.0
        | inr there ↦ absurd (once.pending_or_flying work can.pending (u, l, there ∙ ap (λ v. Some (record { worker = l; work = v })) (sym here.1)))
      ]
      | inr old ↦ elim (flying u l w at_u) [
        | inl also ↦ absurd (once.pending_or_flying work can.pending (t, k, old ∙ ap (λ v. Some (record { worker = k; work = v })) (sym also.1)))
        | inr there ↦ once.one_ticket t u k l w old there
      ]
    ];
    pending_or_flying = λ w c f. elim (flying f.0 f.1 w f.2) [
      | inl here ↦ gone work s.pending once.pending (subst (λ v. Contains (without work s.pending) v) (sym here.1) c)
      | inr old ↦ once.pending_or_flying w (without_less work w s.pending c) (f.0, f.1, old)
    ];
    pending_or_closed = λ w c closed. once.pending_or_closed w (without_less work w s.pending c) closed;
    flying_or_closed = λ w f closed. elim (flying f.0 f.1 w f.2) [
      | inl here ↦ once.pending_or_closed work can.pending (subst (λ v. Contains s.closed v) (sym here.1) closed)
      | inr old ↦ once.flying_or_closed w (f.0, f.1, old) closed
    ];
  }
    where
      flying : (t k : ℕ) (w : Work) → put ticket (Some (record { worker = worker; work = work })) s.flight t ≡ Some (record { worker = k; work = w })
          → ((t ≡ ticket) × (work ≡ w)) ⊎ (s.flight t ≡ Some (record { worker = k; work = w }))
      flying t k w at = elim (put_cases ticket t (Some (record { worker = worker; work = work })) s.flight (Some (record { worker = k; work = w })) at) [
        | inl here ↦ inl (here.0, same_work worker k work w here.1)
        | inr there ↦ inr there.1
      ]

  no_place : IsInState s (Place (length s.log)) → ⊥
  no_place there = let lt : length s.log < length s.log = sound.real (Place (length s.log)) there in omega arith

  adds_once : (worker ticket : ℕ) (d : Deduction) → IsJustOnce (acted s worker (adds ticket d))
  adds_once worker ticket d = record {
    pending = all_pairs_push AreOtherWorks s.pending (Place (length s.log)) once.pending (λ k e lt same. no_place (inl (subst (λ w. Contains s.pending w) same (Contains-get_or s.pending k e lt))));
    closed = once.closed;
    one_ticket = once.one_ticket;
    pending_or_flying = λ w c f. elim (Contains-push_cases s.pending (Place (length s.log)) w c) [
      | inl before ↦ once.pending_or_flying w before f
      | inr is ↦ no_place (inr (inl (subst (λ v. IsInFlight s v) (sym is) f)))
    ];
    pending_or_closed = λ w c closed. elim (Contains-push_cases s.pending (Place (length s.log)) w c) [
      | inl before ↦ once.pending_or_closed w before closed
      | inr is ↦ no_place (inr (inr (subst (λ v. Contains s.closed v) (sym is) closed)))
    ];
    flying_or_closed = once.flying_or_closed;
  }

  -- under the other tickets are other works
  others : (ticket worker : ℕ) (work : Work) → s.flight ticket ≡ Some (record { worker = worker; work = work }) → (t k : ℕ) (w : Work)
      → put ticket None s.flight t ≡ Some (record { worker = k; work = w }) → (s.flight t ≡ Some (record { worker = k; work = w })) × (w ≢ work)
  others ticket worker work is t k w at = elim (put_cases ticket t None s.flight (Some (record { worker = k; work = w })) at) [
    | inl here ↦ absurd (let e : None ≡ Some (record { worker = k; work = w }) = here.1 in cc)
    | inr there ↦ (there.1, λ same. there.0 (once.one_ticket t ticket k worker work (there.1 ∙ ap (λ v. Some (record { worker = k; work = v })) same) is))
  ]

  finishes_once : (worker ticket : ℕ) → CanFinish base s worker ticket → IsJustOnce (acted s worker (finishes ticket))
  finishes_once worker ticket can = subst (λ ws. IsJustOnce (record { log = s.log; supports = s.supports; pending = s.pending; flight = put ticket None s.flight; closed = s.closed ++ ws; kept = s.kept })) (sym now) (record {
    pending = once.pending;
    closed = all_pairs_push AreOtherWorks s.closed can.work once.closed (λ k e lt same. once.flying_or_closed can.work in_flight (subst (λ w. Contains s.closed w) same (Contains-get_or s.closed k e lt)));
    one_ticket = λ t u k l w at_t at_u. once.one_ticket t u k l w (others ticket worker can.work can.holds t k w at_t).0 (others ticket worker can.work can.holds u l w at_u).0;
    pending_or_flying = λ w c f. once.pending_or_flying w c (f.0, f.1, (others ticket worker can.work can.holds f.0 f.1 w f.2).0);
    pending_or_closed = λ w c closed. elim (Contains-push_cases s.closed can.work w closed) [
      | inl before ↦ once.pending_or_closed w c before
      | inr is ↦ once.pending_or_flying can.work (subst (λ v. Contains s.pending v) (sym is) c) in_flight
    ];
    flying_or_closed = λ w f closed. elim (Contains-push_cases s.closed can.work w closed) [
      | inl before ↦ once.flying_or_closed w (f.0, f.1, (others ticket worker can.work can.holds f.0 f.1 w f.2).0) before
      | inr is ↦ (others ticket worker can.work can.holds f.0 f.1 w f.2).1 (sym is)
    ];
  })
    where
      now : work_under (s.flight ticket) ≡ can.work ∷ []
      now = ap work_under can.holds

      in_flight : IsInFlight s can.work
      in_flight = (ticket, worker, can.holds)

  gives_back_once : (worker ticket : ℕ) → Holds s worker ticket → IsJustOnce (acted s worker (gives_back ticket))
  gives_back_once worker ticket holds = subst (λ ws. IsJustOnce (record { log = s.log; supports = s.supports; pending = s.pending ++ ws; flight = put ticket None s.flight; closed = s.closed; kept = s.kept })) (sym now) (record {
    pending = all_pairs_push AreOtherWorks s.pending holds.0 once.pending (λ k e lt same. once.pending_or_flying holds.0 (subst (λ w. Contains s.pending w) same (Contains-get_or s.pending k e lt)) in_flight);
    closed = once.closed;
    one_ticket = λ t u k l w at_t at_u. once.one_ticket t u k l w (others ticket worker holds.0 holds.1 t k w at_t).0 (others ticket worker holds.0 holds.1 u l w at_u).0;
    pending_or_flying = λ w c f. elim (Contains-push_cases s.pending holds.0 w c) [
      | inl before ↦ once.pending_or_flying w before (f.0, f.1, (others ticket worker holds.0 holds.1 f.0 f.1 w f.2).0)
      | inr is ↦ (others ticket worker holds.0 holds.1 f.0 f.1 w f.2).1 (sym is)
    ];
    pending_or_closed = λ w c closed. elim (Contains-push_cases s.pending holds.0 w c) [
      | inl before ↦ once.pending_or_closed w before closed
      | inr is ↦ once.flying_or_closed holds.0 in_flight (subst (λ v. Contains s.closed v) (sym is) closed)
    ];
    flying_or_closed = λ w f closed. once.flying_or_closed w (f.0, f.1, (others ticket worker holds.0 holds.1 f.0 f.1 w f.2).0) closed;
  })
    where
      now : work_under (s.flight ticket) ≡ holds.0 ∷ []
      now = ap work_under holds.1

      in_flight : IsInFlight s holds.0
      in_flight = (ticket, worker, holds.1)

  pub step_once : (worker : ℕ) (action : Action) → CanAct base s worker action → IsJustOnce (acted s worker action)
  step_once worker (takes work ticket) can = takes_once worker ticket work can
  step_once worker (adds ticket d) can = adds_once worker ticket d
  step_once worker (passes ticket d) can = record {
    pending = once.pending;
    closed = once.closed;
    one_ticket = once.one_ticket;
    pending_or_flying = once.pending_or_flying;
    pending_or_closed = once.pending_or_closed;
    flying_or_closed = once.flying_or_closed;
  }
  step_once worker (finishes ticket) can = finishes_once worker ticket can
  step_once worker (gives_back ticket) can = gives_back_once worker ticket can
