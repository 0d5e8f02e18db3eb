-- Works that a worker carries.
use Rattle.std.proofs.Common.{◌≡◌, ◌≢◌, refl, sym, ◌∙◌, ap, subst, ℕ, List, [], ◌∷◌, ◌++◌, map, Option, Some, None, All, Contains, inl, inr, Vec, Global}
use Rattle.std.specs.Option.{IfSome}
use Rattle.std.proofs.lemmas.Bool.{cases_eq}
use Rattle.std.proofs.lemmas.List.Elements.{All-nil, All-cons, All-head, All-tail, All-weaker, Contains-push, Contains-append_left}
use Rattle.std.proofs.lemmas.Option.{same_Some}
use Rattle.hs_scheme.specs.Problem.{ProblemData}
use Rattle.hs_scheme.proofs.Lists.{uncons}
use Rattle.hs_table.specs.Entries.{EntryData}
use Rattle.hs_types.specs.Interned.{InternerData}
use Rattle.hs_history.specs.declared.step.Work.{Work}
use Rattle.hs_history.specs.declared.step.Flight.{Flight}
use Rattle.hs_history.specs.Story.{Action, takes, adds, passes, finishes, gives_back, CoreStep, Story}
use Rattle.hs_history.specs.CoreStep.{State, put, acted, after}
use Rattle.hs_history.specs.History.{state_from}
use Rattle.hs_history.proofs.Works.{put_here, put_other, put_cases}
use Rattle.hs_rules.specs.declared.deduced.Deduced.{Deduced}
use Rattle.hs_workers.specs.declared.job.Job.{Job}
use Rattle.hs_workers.specs.Forming.{AreFormed}
use Rattle.hs_workers.specs.Jobs.{key, keys, Carries, CarriesAll, IsUnformed, IsFormed}

-- what is in flight for the worker still is
abbrev pub KeepsFlights : ℕ → (ℕ → Option Flight) → (ℕ → Option Flight) → Type 0
KeepsFlights worker f g = (t : ℕ) (w : Work) → f t ≡ Some (record { worker = worker; work = w }) → g t ≡ Some (record { worker = worker; work = w })

put_keeps : (worker ticket : ℕ) (f g : ℕ → Option Flight) → KeepsFlights worker f g → KeepsFlights worker (put ticket None f) (put ticket None g)
put_keeps worker ticket f g keeps t w h = elim (put_cases ticket t None f (Some (record { worker = worker; work = w })) h) [
  | inl c ↦ absurd (let e = c.1 in cc)
  | inr c ↦ put_other ticket t None g c.0 ∙ keeps t w c.1
]

pub carries_kept : (worker : ℕ) (f g : ℕ → Option Flight) (ks : List (ℕ × Work)) → KeepsFlights worker f g → Carries worker f ks → Carries worker g ks
carries_kept worker f g [] keeps c = tt
carries_kept worker f g (k ∷ ks) keeps c = (keeps k.0 k.1 c.0, carries_kept worker (put k.0 None f) (put k.0 None g) ks (put_keeps worker k.0 f g keeps) c.1)

pub carries_same : (worker : ℕ) (f g : ℕ → Option Flight) (ks : List (ℕ × Work)) → ((t : ℕ) → g t ≡ f t) → Carries worker f ks → Carries worker g ks
carries_same worker f g ks same c = carries_kept worker f g ks (λ t w h. same t ∙ h) c

-- puts at two tickets
put_put : (k ticket : ℕ) (x : Option Flight) (f g : ℕ → Option Flight) → (k ≡ ticket → ⊥) → ((t : ℕ) → g t ≡ put ticket x f t) → (t : ℕ) → put k None g t ≡ put ticket x (put k None f) t
put_put k ticket x f g ne is t = elim (cases_eq t k) [
  | inl at ↦
      let here : put k None g t ≡ None = ap (λ n. put k None g n) at ∙ put_here k None g in
      let there : put k None f t ≡ None = ap (λ n. put k None f n) at ∙ put_here k None f in
      here ∙ sym (put_other ticket t x (put k None f) (λ same. ne (sym at ∙ same)) ∙ there)
  | inr off ↦ put_other k t None g off ∙ is t ∙ elim (cases_eq t ticket) [
    | inl at ↦ ap (λ n. put ticket x f n) at ∙ put_here ticket x f ∙ sym (ap (λ n. put ticket x (put k None f) n) at ∙ put_here ticket x (put k None f))
    | inr ne' ↦ put_other ticket t x f ne' ∙ sym (put_other ticket t x (put k None f) ne' ∙ put_other k t None f off)
  ]
]

-- one more
pub carries_push : (worker : ℕ) (f g : ℕ → Option Flight) (ks : List (ℕ × Work)) (ticket : ℕ) (work : Work) → f ticket ≡ None
    → ((t : ℕ) → g t ≡ put ticket (Some (record { worker = worker; work = work })) f t) → Carries worker f ks → Carries worker g (ks ++ (ticket, work) ∷ [])
carries_push worker f g [] ticket work free is c = (is ticket ∙ put_here ticket (Some (record { worker = worker; work = work })) f, tt)
carries_push worker f g (k ∷ ks) ticket work free is c =
    let x : Option Flight = Some (record { worker = worker; work = work }) in
    let ne : k.0 ≡ ticket → ⊥ = λ same. (let e = sym c.0 ∙ ap f same ∙ free in cc) in (
      is k.0 ∙ put_other ticket k.0 x f ne ∙ c.0,
      carries_push worker (put k.0 None f) (put k.0 None g) ks ticket work (put_other k.0 ticket None f (λ same. ne (sym same)) ∙ free) (put_put k.0 ticket x f g ne is) c.1,
    )

-- what holds of the works in flight for the worker holds of those that it carries
pub carried : (worker : ℕ) (f : ℕ → Option Flight) (jobs : List Job) (P : Work → Type 0) → ((t : ℕ) (w : Work) → f t ≡ Some (record { worker = worker; work = w }) → P w) → Carries worker f (keys jobs)
    → All (λ (j : Job). P j.work) jobs
carried worker f [] P h c = All-nil (λ (j : Job). P j.work)
carried worker f (j ∷ js) P h c =
    All-cons (λ (i : Job). P i.work) j js (h j.ticket j.work c.0)
    (carried worker (put j.ticket None f) js P
    (λ t w e. elim (put_cases j.ticket t None f (Some (record { worker = worker; work = w })) e) [
      | inl x ↦ absurd (let e = x.1 in cc)
      | inr x ↦ h t w x.1
    ]) c.1)

pub keys_append : (xs ys : List Job) → keys (xs ++ ys) ≡ keys xs ++ keys ys
keys_append [] ys = refl
keys_append (x ∷ xs) ys = ap (λ ks. key x ∷ ks) (keys_append xs ys)

-- works for which nothing is formed yet
pub unformed_formed : (p : ProblemData) (ids : InternerData) (log : List EntryData) (j : Job) → IsUnformed j → IsFormed p ids log j
unformed_formed p ids log j none = go j.found none
  where
    go : (o : Option (Vec Deduced Global)) → o ≡ None → IfSome o (λ v. AreFormed p ids log j.work v.items)
    go None e = tt
    go (Some v) e = absurd (cc)

-- one work fewer
pub carries_next : (n m : ℕ) (f g : ℕ → Option Flight) (jobs rest : List Job) (job : Job) → jobs ≡ job ∷ rest → m ≡ n → ((t : ℕ) → g t ≡ put job.ticket None f t) → Carries n f (keys jobs) → Carries m g (keys rest)
carries_next n m f g jobs rest job is number flight c =
    let d = subst (λ xs. Carries n f (keys xs)) is c in
    subst (λ k. Carries k g (keys rest)) (sym number) (carries_same n (put job.ticket None f) g (keys rest) flight d.1)

pub all_unformed : (p : ProblemData) (ids : InternerData) (log : List EntryData) (jobs : List Job) → All IsUnformed jobs → All (IsFormed p ids log) jobs
all_unformed p ids log jobs h = All-weaker IsUnformed (IsFormed p ids log) (λ j none. unformed_formed p ids log j none) jobs h

-- what holds of each image holds of what it is the image of
pub all_mapped : {X Y : Type 0} (P : X → Type 0) (f : Y → X) (ys : List Y) → All P (map f ys) → All (λ y. P (f y)) ys
all_mapped P f [] h = All-nil (λ y. P (f y))
all_mapped P f (y ∷ ys) h = All-cons (λ z. P (f z)) y ys (All-head P (f y) (map f ys) h) (all_mapped P f ys (All-tail P (f y) (map f ys) h))

-- ---- no other work is in flight for the worker

-- no other, since none is
pub all_none : (worker : ℕ) (flight : ℕ → Option Flight) (jobs : List Job) → jobs ≡ [] → CarriesAll worker flight [] → CarriesAll worker flight (keys jobs)
all_none worker flight jobs none all = subst (λ (js : List Job). CarriesAll worker flight (keys js)) (sym none) all

-- where one is closed or given back
pub all_next : (n m : ℕ) (f g : ℕ → Option Flight) (jobs rest : List Job) (job : Job) → jobs ≡ job ∷ rest → m ≡ n → ((t : ℕ) → g t ≡ put job.ticket None f t) → CarriesAll n f (keys jobs) → CarriesAll m g (keys rest)
all_next n m f g jobs rest job is number flight all =
    subst (λ k. CarriesAll k g (keys rest)) (sym number)
    (λ t w h. elim (put_cases job.ticket t None f (Some (record { worker = n; work = w })) (sym (flight t) ∙ h)) [
      | inl c ↦ absurd (let e = c.1 in cc)
      | inr c ↦ elim (uncons (key job) (t, w) (keys rest) (subst (λ (js : List Job). Contains (keys js) (t, w)) is (all t w c.1))) [
        | inl same ↦ absurd (c.0 (ap (λ (k : ℕ × Work). k.0) same))
        | inr there ↦ there
      ]
    ])

-- where one is taken
pub all_push : (worker : ℕ) (f g : ℕ → Option Flight) (ks : List (ℕ × Work)) (ticket : ℕ) (work : Work)
    → ((t : ℕ) → g t ≡ put ticket (Some (record { worker = worker; work = work })) f t) → CarriesAll worker f ks → CarriesAll worker g (ks ++ (ticket, work) ∷ [])
all_push worker f g ks ticket work is all = λ t w h.
    elim (put_cases ticket t (Some (record { worker = worker; work = work })) f (Some (record { worker = worker; work = w })) (sym (is t) ∙ h)) [
      | inl c ↦
          let works : work ≡ w = ap (λ (x : Flight). x.work) (same_Some (record { worker = worker; work = work }) (record { worker = worker; work = w }) c.1) in
          subst (λ (k : ℕ × Work). Contains (ks ++ (ticket, work) ∷ []) k) (λ i. (sym c.0 i, works i)) (Contains-push ks (ticket, work))
      | inr c ↦ Contains-append_left ks ((ticket, work) ∷ []) (t, w) (all t w c.1)
    ]

-- steps of others give the worker nothing
others_put : (m worker ticket t : ℕ) (v w : Work) (f : ℕ → Option Flight) → m ≢ worker → put ticket (Some (record { worker = m; work = v })) f t ≡ Some (record { worker = worker; work = w })
    → f t ≡ Some (record { worker = worker; work = w })
others_put m worker ticket t v w f ne h = elim (put_cases ticket t (Some (record { worker = m; work = v })) f (Some (record { worker = worker; work = w })) h) [
  | inl c ↦ absurd (ne (ap (λ (x : Flight). x.worker) (same_Some (record { worker = m; work = v }) (record { worker = worker; work = w }) c.1)))
  | inr c ↦ c.1
]

none_put : (worker ticket t : ℕ) (w : Work) (f : ℕ → Option Flight) → put ticket None f t ≡ Some (record { worker = worker; work = w }) → f t ≡ Some (record { worker = worker; work = w })
none_put worker ticket t w f h = elim (put_cases ticket t None f (Some (record { worker = worker; work = w })) h) [
  | inl c ↦ absurd (let e = c.1 in cc)
  | inr c ↦ c.1
]

others_act : (s : State) (m : ℕ) (action : Action) (worker t : ℕ) (w : Work) → m ≢ worker → (acted s m action).flight t ≡ Some (record { worker = worker; work = w }) → s.flight t ≡ Some (record { worker = worker; work = w })
others_act s m (takes v ticket) worker t w ne h = others_put m worker ticket t v w s.flight ne h
others_act s m (adds ticket d) worker t w ne h = h
others_act s m (passes ticket d) worker t w ne h = h
others_act s m (finishes ticket) worker t w ne h = none_put worker ticket t w s.flight h
others_act s m (gives_back ticket) worker t w ne h = none_put worker ticket t w s.flight h

pub others_give_nothing : (s : State) (more : Story) (worker t : ℕ) (w : Work) → All (λ (x : CoreStep). x.worker ≢ worker) more → (state_from s more).flight t ≡ Some (record { worker = worker; work = w })
    → s.flight t ≡ Some (record { worker = worker; work = w })
others_give_nothing s [] worker t w others h = h
others_give_nothing s (x ∷ more) worker t w others h =
    others_act s x.worker x.action worker t w (All-head (λ (y : CoreStep). y.worker ≢ worker) x more others)
    (others_give_nothing (after s x) more worker t w (All-tail (λ (y : CoreStep). y.worker ≢ worker) x more others) h)

-- no works, no jobs
pub no_jobs : (jobs : List Job) → map (λ (j : Job). j.work) jobs ≡ [] → jobs ≡ []
no_jobs [] none = refl
no_jobs (j ∷ js) none = absurd (cc)
