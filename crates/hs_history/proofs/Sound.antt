-- What holds of every state that a legal story leads to.
use Rattle.std.proofs.Common.{◌≡◌, refl, ap, sym, ◌∙◌, subst, ℕ, zero, suc, ◌<◌, ◌≤◌, [], ◌∷◌, ◌++◌, length, slice_get, Some, None, arith, Contains, length-append, ◌⊎◌, inl, inr}
use Rattle.std.proofs.lemmas.Bool.{cases_lt, cases_eq}
use Rattle.std.proofs.lemmas.List.Elements.{Contains-append_left, Contains-push, Contains-push_cases}
use Rattle.std.proofs.lemmas.Option.{same_Some}
use Rattle.hs_scheme.specs.Problem.{ProblemData}
use Rattle.hs_scheme.proofs.Lists.{none_in}
use Rattle.hs_table.specs.Entries.{EntryData}
use Rattle.hs_table.specs.Follows.{Follows, premises}
use Rattle.hs_table.specs.Tables.{IsLeastTable, HasSupports}
use Rattle.hs_table_laws.proofs.Places.{within_from}
use Rattle.hs_table_laws.proofs.Least.{supports_support}
use Rattle.hs_history.specs.declared.step.Work.{Work}
use Rattle.hs_history.specs.declared.step.Work.TheVariants.{Seed, Place}
use Rattle.hs_history.specs.Story.{Base, Deduction, Action, takes, adds, passes, finishes, gives_back}
use Rattle.hs_history.specs.CoreStep.{State, seeds, opening, put, work_under, IsClosedWork, IsNew, CanTake, CanAdd, CanPass, CanFinish, CanAct, Holds, acted}
use Rattle.hs_history.specs.History.{IsWork, IsInFlight, IsInState, HasClosed, IsPast, IsAtRest}
use Rattle.hs_history.proofs.Premises.{by_none, by_greatest, greatest, premise_below}
use Rattle.hs_history.proofs.Works.{without_or, without_less, put_here, put_other, put_cases}
use Rattle.hs_history.proofs.Logs.{supports_more, work_more, work_cases, closed_more}

pub record IsSound (base : Base) (s : State) : Type 0 where
  pub supports : HasSupports base.problem s.log s.supports
  pub within : length s.log ≤ base.budget
  pub there : (w : Work) → IsWork base.problem s.log w → IsInState s w
  pub real : (w : Work) → IsInState s w → IsWork base.problem s.log w
  pub closed : HasClosed base.problem s
  pub kept : (d : Deduction) → s.kept ≡ Some d → IsPast base s.log d

-- the opening
seeds_there : (n i : ℕ) → i < n → Contains (seeds n) (Seed i)
seeds_there zero i lt = absurd (omega arith)
seeds_there (suc n) i lt = elim (cases_lt i n) [
  | inl below ↦ Contains-append_left (seeds n) (Seed n ∷ []) (Seed i) (seeds_there n i below)
  | inr above ↦ let same : n ≡ i = omega arith in subst (λ k. Contains (seeds n ++ Seed n ∷ []) (Seed k)) same (Contains-push (seeds n) (Seed n))
]

pub seeds_real : (p : ProblemData) (n : ℕ) (w : Work) → n ≤ length p.points.points → Contains (seeds n) w → IsWork p [] w
seeds_real p zero w le c = absurd (none_in w c)
seeds_real p (suc n) w le c = elim (Contains-push_cases (seeds n) (Seed n) w c) [
  | inl before ↦ seeds_real p n w (omega arith) before
  | inr last ↦ subst (λ v. IsWork p [] v) last (let lt : n < length p.points.points = omega arith in lt)
]

opening_there : (base : Base) (w : Work) → IsWork base.problem [] w → IsInState (opening base) w
opening_there base (Seed i) h = inl (seeds_there (length base.problem.points.points) i h)
opening_there base (Place i) h = absurd (omega arith)

pub nothing_at : {X : Type 0} (i : ℕ) (x : X) → slice_get [] i ≡ Some x → ⊥
nothing_at i x e = cc

pub opening_sound : (base : Base) → IsSound base (opening base)
opening_sound base = record {
  supports = record {
    distinct = λ i j d lt within. absurd (omega arith);
    each = refl;
    follows = λ i s e at. absurd (nothing_at i s at);
  };
  within = omega arith;
  there = opening_there base;
  real = λ w in_state. elim in_state [
    | inl pending ↦ seeds_real base.problem (length base.problem.points.points) w (omega arith) pending
    | inr (inl (ticket, worker, is)) ↦ absurd (cc)
    | inr (inr closed) ↦ absurd (none_in w closed)
  ];
  closed = λ w c. absurd (none_in w c);
  kept = λ d is. absurd (cc);
}

module _ (base : Base) (s : State) (sound : IsSound base s) where
  -- the log is longer by one entry than the budget allows
  past_of : (d : Deduction) → length s.log ≡ base.budget → IsNew base s d → IsPast base s.log d
  past_of d full is_new = record {
    full = full;
    new = is_new.new;
    follows = is_new.follows;
    exceeds = (
      s.log ++ d.entry ∷ [],
      (
        supports_support base.problem (s.log ++ d.entry ∷ []) (s.supports ++ d.support ∷ [])
            (supports_more base.problem s.log s.supports d.entry d.support sound.supports is_new.new is_new.follows),
        omega (arith, length-append s.log (d.entry ∷ [])),
      ),
    );
  }

  takes_sound : (worker ticket : ℕ) (work : Work) → CanTake base s work ticket → IsSound base (acted s worker (takes work ticket))
  takes_sound worker ticket work can = record {
    supports = sound.supports;
    within = sound.within;
    there = λ w is_work. elim (sound.there w is_work) [
      | inl pending ↦ elim (without_or work w s.pending pending) [
        | inl is ↦ inr (inl (ticket, worker, put_here ticket (Some (record { worker = worker; work = work })) s.flight ∙ ap (λ v. Some (record { worker = worker; work = v })) (sym is)))
        | inr left ↦ inl left
      ]
      | inr (inl (other, holder, is)) ↦ elim (cases_eq other ticket) [
        | inl same ↦ absurd (let none : s.flight other ≡ None = ap s.flight same ∙ can.free in cc)
        | inr ne ↦ inr (inl (other, holder, put_other ticket other (Some (record { worker = worker; work = work })) s.flight ne ∙ is))
      ]
      | inr (inr closed) ↦ inr (inr closed)
    ];
    real = λ w in_state. sound.real w (elim in_state [
      | inl pending ↦ inl (without_less work w s.pending pending)
      | inr (inl (other, holder, is)) ↦ elim (put_cases ticket other (Some (record { worker = worker; work = work })) s.flight (Some (record { worker = holder; work = w })) is) [
        | inl here ↦ inl (subst (λ v. Contains s.pending v) (ap (λ f. f.work) (same_Some (record { worker = worker; work = work }) (record { worker = holder; work = w }) here.1)) can.pending)
        | inr there ↦ inr (inl (other, holder, there.1))
      ]
      | inr (inr closed) ↦ inr (inr closed)
    ]);
    closed = sound.closed;
    kept = sound.kept;
  }

  adds_sound : (worker ticket : ℕ) (d : Deduction) → CanAdd base s worker ticket d → IsSound base (acted s worker (adds ticket d))
  adds_sound worker ticket d can = record {
    supports = supports_more base.problem s.log s.supports d.entry d.support sound.supports can.is_new.new can.is_new.follows;
    within = omega (arith, can.room, length-append s.log (d.entry ∷ []));
    there = λ w is_work. elim (work_cases base.problem s.log d.entry w is_work) [
      | inl before ↦ elim (sound.there w before) [
        | inl pending ↦ inl (Contains-append_left s.pending (Place (length s.log) ∷ []) w pending)
        | inr others ↦ inr others
      ]
      | inr is ↦ inl (subst (λ v. Contains (s.pending ++ Place (length s.log) ∷ []) v) (sym is) (Contains-push s.pending (Place (length s.log))))
    ];
    real = λ w in_state. elim in_state [
      | inl pending ↦ elim (Contains-push_cases s.pending (Place (length s.log)) w pending) [
        | inl before ↦ work_more base.problem s.log d.entry w (sound.real w (inl before))
        | inr is ↦ subst (λ v. IsWork base.problem (s.log ++ d.entry ∷ []) v) is (let lt : length s.log < length (s.log ++ d.entry ∷ []) = omega (arith, length-append s.log (d.entry ∷ [])) in lt)
      ]
      | inr others ↦ work_more base.problem s.log d.entry w (sound.real w (inr others))
    ];
    closed = λ w c. closed_more base.problem s.log (d.entry ∷ []) w (sound.real w (inr (inr c))) (sound.closed w c);
    kept = λ e is. absurd (omega (arith, can.room, (sound.kept e is).full));
  }

  passes_sound : (worker ticket : ℕ) (d : Deduction) → CanPass base s worker ticket d → IsSound base (acted s worker (passes ticket d))
  passes_sound worker ticket d can = record {
    supports = sound.supports;
    within = sound.within;
    there = sound.there;
    real = sound.real;
    closed = sound.closed;
    kept = λ e is. subst (λ x. IsPast base s.log x) (same_Some d e is) (past_of d can.full can.is_new);
  }

  -- where the work under the ticket goes elsewhere
  under : (worker ticket : ℕ) (work : Work) → s.flight ticket ≡ Some (record { worker = worker; work = work }) → work_under (s.flight ticket) ≡ work ∷ []
  under worker ticket work is = ap work_under is

  freed : (worker ticket : ℕ) (work w : Work) → s.flight ticket ≡ Some (record { worker = worker; work = work }) → IsInFlight s w
      → (w ≡ work) ⊎ ((other holder : ℕ) × (put ticket None s.flight other ≡ Some (record { worker = holder; work = w })))
  freed worker ticket work w is (other, holder, at) = elim (cases_eq other ticket) [
    | inl same ↦ inl (ap (λ f. f.work) (same_Some (record { worker = holder; work = w }) (record { worker = worker; work = work }) (sym at ∙ ap s.flight same ∙ is)))
    | inr ne ↦ inr (other, holder, put_other ticket other None s.flight ne ∙ at)
  ]

  still : (ticket other holder : ℕ) (w : Work) → put ticket None s.flight other ≡ Some (record { worker = holder; work = w }) → IsInFlight s w
  still ticket other holder w at = elim (put_cases ticket other None s.flight (Some (record { worker = holder; work = w })) at) [
    | inl here ↦ absurd (let e : None ≡ Some (record { worker = holder; work = w }) = here.1 in cc)
    | inr there ↦ (other, holder, there.1)
  ]

  finishes_sound : (worker ticket : ℕ) → CanFinish base s worker ticket → IsSound base (acted s worker (finishes ticket))
  finishes_sound worker ticket can =
      let now : work_under (s.flight ticket) ≡ can.work ∷ [] = under worker ticket can.work can.holds in
      record {
        supports = sound.supports;
        within = sound.within;
        there = λ w is_work. elim (sound.there w is_work) [
          | inl pending ↦ inl pending
          | inr (inl flying) ↦ elim (freed worker ticket can.work w can.holds flying) [
            | inl is ↦ inr (inr (subst (λ ws. Contains (s.closed ++ ws) w) (sym now) (subst (λ v. Contains (s.closed ++ can.work ∷ []) v) (sym is) (Contains-push s.closed can.work))))
            | inr there ↦ inr (inl there)
          ]
          | inr (inr closed) ↦ inr (inr (Contains-append_left s.closed (work_under (s.flight ticket)) w closed))
        ];
        real = λ w in_state. sound.real w (elim in_state [
          | inl pending ↦ inl pending
          | inr (inl (other, holder, at)) ↦ inr (inl (still ticket other holder w at))
          | inr (inr closed) ↦ elim (Contains-push_cases s.closed can.work w (subst (λ ws. Contains (s.closed ++ ws) w) now closed)) [
            | inl before ↦ inr (inr before)
            | inr is ↦ inr (inl (ticket, worker, can.holds ∙ ap (λ v. Some (record { worker = worker; work = v })) is))
          ]
        ]);
        closed = λ w c. elim (Contains-push_cases s.closed can.work w (subst (λ ws. Contains (s.closed ++ ws) w) now c)) [
          | inl before ↦ sound.closed w before
          | inr is ↦ subst (λ v. IsClosedWork base.problem s.log v) is can.closed
        ];
        kept = sound.kept;
      }

  gives_back_sound : (worker ticket : ℕ) → Holds s worker ticket → IsSound base (acted s worker (gives_back ticket))
  gives_back_sound worker ticket (work, holds) =
      let now : work_under (s.flight ticket) ≡ work ∷ [] = under worker ticket work holds in
      record {
        supports = sound.supports;
        within = sound.within;
        there = λ w is_work. elim (sound.there w is_work) [
          | inl pending ↦ inl (Contains-append_left s.pending (work_under (s.flight ticket)) w pending)
          | inr (inl flying) ↦ elim (freed worker ticket work w holds flying) [
            | inl is ↦ inl (subst (λ ws. Contains (s.pending ++ ws) w) (sym now) (subst (λ v. Contains (s.pending ++ work ∷ []) v) (sym is) (Contains-push s.pending work)))
            | inr there ↦ inr (inl there)
          ]
          | inr (inr closed) ↦ inr (inr closed)
        ];
        real = λ w in_state. sound.real w (elim in_state [
          | inl pending ↦ elim (Contains-push_cases s.pending work w (subst (λ ws. Contains (s.pending ++ ws) w) now pending)) [
            | inl before ↦ inl before
            | inr is ↦ inr (inl (ticket, worker, holds ∙ ap (λ v. Some (record { worker = worker; work = v })) is))
          ]
          | inr (inl (other, holder, at)) ↦ inr (inl (still ticket other holder w at))
          | inr (inr closed) ↦ inr (inr closed)
        ]);
        closed = sound.closed;
        kept = sound.kept;
      }

  pub step_sound : (worker : ℕ) (action : Action) → CanAct base s worker action → IsSound base (acted s worker action)
  step_sound worker (takes work ticket) can = takes_sound worker ticket work can
  step_sound worker (adds ticket d) can = adds_sound worker ticket d can
  step_sound worker (passes ticket d) can = passes_sound worker ticket d can
  step_sound worker (finishes ticket) can = finishes_sound worker ticket can
  step_sound worker (gives_back ticket) can = gives_back_sound worker ticket can

  -- where nothing is left to do
  module _ (rest : IsAtRest s) where
    all_closed : (w : Work) → IsWork base.problem s.log w → Contains s.closed w
    all_closed w is_work = elim (sound.there w is_work) [
      | inl pending ↦ absurd (none_in w (subst (λ ws. Contains ws w) rest.pending pending))
      | inr (inl (ticket, worker, is)) ↦ absurd (let none : s.flight ticket ≡ None = rest.flight ticket in cc)
      | inr (inr closed) ↦ closed
    ]

    found : (e : EntryData) → Follows base.problem s.log e → Contains s.log e
    found e (by, follows) = elim (greatest (premises by)) [
      | inl none ↦
          sound.closed (Seed e.point) (all_closed (Seed e.point) (within_from base.problem.points.points e.point follows.of follows.at)) e refl
          (by, by_none base.problem s.log by e none follows)
      | inr (i, g) ↦
          let below = premise_below base.problem s.log by e i follows g.there in
          sound.closed (Place i) (all_closed (Place i) (within_from s.log i below.entry below.at)) below.entry e by below.at below.depends
          (by_greatest base.problem s.log by e i g follows) g.there
    ]

    pub least_at_rest : IsLeastTable base.problem s.log
    least_at_rest = record { supported = supports_support base.problem s.log s.supports sound.supports; closed = found }
