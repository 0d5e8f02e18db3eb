-- The bytes of a file come to one answer, want of memory and the length of a path aside.
use Rattle.std.proofs.Common.{◌≡◌, refl, sym, ◌∙◌, ap, subst, ℕ, ◌<◌, ◌≤◌, List, Result, Ok, Err, Bool, true, false, length, ◌⊎◌, inl, inr, arith}
use Rattle.hs_scheme.specs.sorting.Unsorted.{UnsortedData}
use Rattle.hs_scheme.specs.Problem.{ProblemData}
use Rattle.hs_scheme.specs.acceptance.Run.{Accepts}
use Rattle.hs_table.specs.Entries.{EntryData}
use Rattle.hs_table.specs.Tables.{IsLeastTable, Exceeds}
use Rattle.hs_table_laws.proofs.Least.{least_decides}
use Rattle.hs_front.specs.declared.refusal.Refusal.{Refusal}
use Rattle.hs_front.specs.declared.refusal.Refusal.TheVariants.{Usage, Source, FileTooLong, Syntax, Limit, Names, IllSorted, NotFirstOrder, SortTooLarge, RuleTooLong, PointLimit, FlowLimit, EntryLimit, Sink, OutOfMemory}
use Rattle.hs_app.specs.declared.verdict.Decision.{Decision}
use Rattle.hs_app.specs.declared.verdict.Decision.TheVariants.{Accepted, Rejected, Long}
use Rattle.hs_app.specs.declared.verdict.Decided.{Decided}
use Rattle.hs_front.specs.Problems.{HasManyPoints, HasMuchFlow}
use Rattle.hs_front.specs.Faults.{IsFileFault}
use Rattle.hs_front.proofs.Layers.{Layered, of_sound, of_fault, meet}
use Rattle.hs_app.specs.Problems.{Asked, OfForm, HasProblem, IsReportedTable}
use Rattle.hs_front.specs.Files.{max_bytes, IsSchemeOf}
use Rattle.hs_app.specs.Headline.{IsWithinLimits, IsWithinAll}
use Rattle.hs_front.specs.Faults.{IsSortable}
use Rattle.hs_app.specs.Verdict.{HasAnswer, Reports, IsOverBudget, IsAnswerOn, Refused, IsAnsweredWith, HasDecision, IsWithinBudget, IsBoundToExceed, WarrantsOnScheme, HasWarrant, Warrants}
use Rattle.hs_app.proofs.OneProblem.{one_problem, not_many_points, not_much_flow, many_not_much}

-- ---- what comes of a file, layer by layer

module _ (R : Refusal → Type 0) (S : UnsortedData → Type 0) (asked : Asked) (bytes : List ℕ) where
  of_file_fault : (r : Refusal) → IsFileFault bytes r → R r → (r ≡ OutOfMemory) ⊎ (HasDecision asked bytes (Err r) ⊎ Layered R S bytes)
  of_file_fault r h k =
      elim (of_fault R S bytes r h k) [
        | inl e ↦ inl e
        | inr l ↦ inr (inr l)
      ]

  -- the refusals of what comes before a scheme has its sorts
  of_refusal : (r : Refusal) → Refused asked bytes r → R r → (r ≡ OutOfMemory) ⊎ (HasDecision asked bytes (Err r) ⊎ Layered R S bytes)
  of_refusal Usage h k = absurd h
  of_refusal Source h k = absurd h
  of_refusal FileTooLong h k = absurd h
  of_refusal (Syntax line) h k = of_file_fault (Syntax line) h k
  of_refusal (Limit which) h k = of_file_fault (Limit which) h k
  of_refusal (Names fault) h k = of_file_fault (Names fault) h k
  of_refusal (IllSorted rule) h k = of_file_fault (IllSorted rule) h k
  of_refusal (NotFirstOrder terminal) h k = of_file_fault (NotFirstOrder terminal) h k
  of_refusal (SortTooLarge rule) h k = of_file_fault (SortTooLarge rule) h k
  of_refusal (RuleTooLong rule) h k = of_file_fault (RuleTooLong rule) h k
  of_refusal PointLimit h k = inr (inl h)
  of_refusal FlowLimit h k = inr (inl h)
  of_refusal EntryLimit h k = inr (inl h)
  of_refusal Sink h k = absurd h
  of_refusal OutOfMemory h k = inl refl

-- ---- an answer and a warrant on a scheme

-- the answer is one of those that the warrant allows
abbrev pub Matches : Result Decision Refusal → Result Decided Refusal → Type 0
Matches (Ok Accepted) (Ok decided) = decided.verdict ≡ Accepted
Matches (Ok Rejected) (Ok decided) = (decided.verdict ≡ Rejected) ⊎ (decided.verdict ≡ Long)
Matches (Ok Long) (Ok decided) = ⊥
Matches (Ok verdict) (Err refusal) = ⊥
Matches (Err refusal) (Ok decided) = ⊥
Matches (Err refusal) (Err other) = refusal ≡ other

abbrev pub Wants : Result Decided Refusal → Type 0
Wants a = a ≡ Err OutOfMemory

abbrev pub Right : Result Decision Refusal → Result Decided Refusal → Type 0
Right d a = Wants a ⊎ Matches d a

matching : (c d : Result Decision Refusal) (a b : Result Decided Refusal) → d ≡ c → a ≡ b → Matches c b → Matches d a
matching c d a b e f h = subst (λ (x : Result Decision Refusal). Matches x a) (sym e) (subst (λ (y : Result Decided Refusal). Matches c y) (sym f) h)

module _ (asked : Asked) (u : UnsortedData) where
  -- a tree that is accepted; where no other evidence is sought, within the budget
  record IsWon : Type 0 where
    accepts : Accepts u.rules u.automaton.transitions
    problem : ProblemData
    of : HasProblem asked u problem
    budget : (asked.settings.quick ≡ true) ⊎ (Exceeds problem asked.settings.entries → ⊥)

  -- a tree that isn't accepted; where the first start entry isn't asked for either, within the budget
  record IsLost : Type 0 where
    rejects : Accepts u.rules u.automaton.transitions → ⊥
    problem : ProblemData
    of : HasProblem asked u problem
    budget : (asked.settings.quick ≡ true) ⊎ ((asked.settings.first ≡ true) ⊎ (Exceeds problem asked.settings.entries → ⊥))

  -- what an answer says of the scheme
  abbrev Told : Result Decided Refusal → Type 0
  Told a =
      Wants a
      ⊎ (((d : Decided) × ((a ≡ Ok d) × ((d.verdict ≡ Accepted) × IsWon)))
      ⊎ (((d : Decided) × ((a ≡ Ok d) × (((d.verdict ≡ Rejected) ⊎ (d.verdict ≡ Long)) × IsLost)))
      ⊎ (((a ≡ Err PointLimit) × OfForm asked u HasManyPoints)
      ⊎ (((a ≡ Err FlowLimit) × OfForm asked u HasMuchFlow)
      ⊎ ((a ≡ Err EntryLimit) × IsOverBudget asked u)))))

  least_within : (p : ProblemData) (T : List EntryData) → IsLeastTable p T → length T ≤ asked.settings.entries → Exceeds p asked.settings.entries → ⊥
  least_within p T least within exceeds = omega (arith, (least_decides p T asked.settings.entries least).0 exceeds, within)

  reported_within : (first : Bool) (p : ProblemData) (T : List EntryData) → IsReportedTable first p T → length T ≤ asked.settings.entries
      → (first ≡ true) ⊎ (Exceeds p asked.settings.entries → ⊥)
  reported_within true p T h within = inl refl
  reported_within false p T h within = inr (least_within p T h.0 within)

  won : (text : List ℕ) → Reports asked u Accepted text → IsWon
  won text h =
      elim h.reports [
        | inl r ↦ record { accepts = r.accepts; problem = h.problem; of = h.of; budget = inr (least_within h.problem r.table r.least r.within) }
        | inr (quick, s) ↦ record { accepts = s.accepts; problem = h.problem; of = h.of; budget = inl quick }
      ]

  lost_along : (text : List ℕ) → Reports asked u Rejected text → IsLost
  lost_along text h =
      elim h.reports [
        | inl r ↦ record { rejects = r.rejects; problem = h.problem; of = h.of; budget = inr (reported_within asked.settings.first h.problem r.table r.reported r.within) }
        | inr (quick, s) ↦ record { rejects = s.rejects; problem = h.problem; of = h.of; budget = inl quick }
      ]

  lost_long : (text : List ℕ) → Reports asked u Long text → IsLost
  lost_long text h =
      elim h.reports [
        | inl r ↦ record { rejects = r.rejects; problem = h.problem; of = h.of; budget = inr (reported_within asked.settings.first h.problem r.table r.reported r.within) }
        | inr (quick, s) ↦ absurd s
      ]

  told_verdict : (d : Decided) (v : Decision) → d.verdict ≡ v → Reports asked u v d.report.items → Told (Ok d)
  told_verdict d Accepted e h = inr (inl (d, (refl, (e, won d.report.items h))))
  told_verdict d Rejected e h = inr (inr (inl (d, (refl, (inl e, lost_along d.report.items h)))))
  told_verdict d Long e h = inr (inr (inl (d, (refl, (inr e, lost_long d.report.items h)))))

  told : (a : Result Decided Refusal) → IsAnswerOn asked u a → Told a
  told (Ok d) h = told_verdict d d.verdict refl h
  told (Err PointLimit) h = inr (inr (inr (inl (refl, h))))
  told (Err FlowLimit) h = inr (inr (inr (inr (inl (refl, h)))))
  told (Err EntryLimit) h = inr (inr (inr (inr (inr (refl, h)))))
  told (Err OutOfMemory) h = inl refl
  told (Err Usage) h = absurd h
  told (Err Source) h = absurd h
  told (Err FileTooLong) h = absurd h
  told (Err (Syntax line)) h = absurd h
  told (Err (Limit which)) h = absurd h
  told (Err (Names fault)) h = absurd h
  told (Err (IllSorted rule)) h = absurd h
  told (Err (NotFirstOrder terminal)) h = absurd h
  told (Err (SortTooLarge rule)) h = absurd h
  told (Err (RuleTooLong rule)) h = absurd h
  told (Err Sink) h = absurd h

  abbrev Warranted : Result Decision Refusal → Type 0
  Warranted d =
      ((d ≡ Ok Accepted) × (Accepts u.rules u.automaton.transitions × IsWithinBudget asked u))
      ⊎ (((d ≡ Ok Rejected) × ((Accepts u.rules u.automaton.transitions → ⊥) × IsWithinBudget asked u))
      ⊎ (((d ≡ Err PointLimit) × OfForm asked u HasManyPoints)
      ⊎ (((d ≡ Err FlowLimit) × OfForm asked u HasMuchFlow)
      ⊎ ((d ≡ Err EntryLimit) × IsBoundToExceed asked u))))

  warranted : (d : Result Decision Refusal) → WarrantsOnScheme asked u d → Warranted d
  warranted (Ok Accepted) h = inl (refl, (h.0, h.1))
  warranted (Ok Rejected) h = inr (inl (refl, (h.0, h.1)))
  warranted (Err PointLimit) h = inr (inr (inl (refl, h)))
  warranted (Err FlowLimit) h = inr (inr (inr (inl (refl, h))))
  warranted (Err EntryLimit) h = inr (inr (inr (inr (refl, h))))
  warranted (Ok Long) h = absurd h
  warranted (Err OutOfMemory) h = absurd h
  warranted (Err Usage) h = absurd h
  warranted (Err Source) h = absurd h
  warranted (Err FileTooLong) h = absurd h
  warranted (Err (Syntax line)) h = absurd h
  warranted (Err (Limit which)) h = absurd h
  warranted (Err (Names fault)) h = absurd h
  warranted (Err (IllSorted rule)) h = absurd h
  warranted (Err (NotFirstOrder terminal)) h = absurd h
  warranted (Err (SortTooLarge rule)) h = absurd h
  warranted (Err (RuleTooLong rule)) h = absurd h
  warranted (Err Sink) h = absurd h

  -- the scheme has one problem, and what is said of one is said of another
  exceeds_too : (p q : ProblemData) → HasProblem asked u p → HasProblem asked u q → Exceeds p asked.settings.entries → Exceeds q asked.settings.entries
  exceeds_too p q is other h = subst (λ (x : ProblemData). Exceeds x asked.settings.entries) (one_problem asked u p q is other) h

  not_over : IsWithinBudget asked u → IsOverBudget asked u → ⊥
  not_over w o = w.few (exceeds_too o.0 w.problem o.1.0 w.of o.1.1.exceeds)

  not_both : (b : Bool) → b ≡ true → b ≡ false → ⊥
  not_both b e f = let g : true ≡ false = sym e ∙ f in (cc)

  not_won : IsWon → IsBoundToExceed asked u → ⊥
  not_won w b =
      elim w.budget [
        | inl quick ↦ not_both asked.settings.quick quick b.plain
        | inr few ↦ few (exceeds_too b.problem w.problem b.of w.of b.exceeds)
      ]

  not_lost : IsLost → IsBoundToExceed asked u → ⊥
  not_lost l b =
      elim l.budget [
        | inl quick ↦ not_both asked.settings.quick quick b.plain
        | inr (inr few) ↦ few (exceeds_too b.problem l.problem b.of l.of b.exceeds)
        | inr (inl first) ↦ elim b.tells [
          | inl all ↦ not_both asked.settings.first first all
          | inr accepts ↦ l.rejects accepts
        ]
      ]

  -- an answer beside a scheme that has a problem
  beside_problem : (d : Result Decision Refusal) (a : Result Decided Refusal) (p : ProblemData) → HasProblem asked u p → Told a
      → ((x : Decided) → a ≡ Ok x → x.verdict ≡ Accepted → IsWon → Matches d a)
      → ((x : Decided) → a ≡ Ok x → (x.verdict ≡ Rejected) ⊎ (x.verdict ≡ Long) → IsLost → Matches d a)
      → (a ≡ Err EntryLimit → IsOverBudget asked u → Matches d a)
      → Right d a
  beside_problem d a p is h accepted rejected over =
      elim h [
        | inl wants ↦ inl wants
        | inr (inl (x, (e, (v, win)))) ↦ inr (accepted x e v win)
        | inr (inr (inl (x, (e, (v, lost))))) ↦ inr (rejected x e v lost)
        | inr (inr (inr (inl (e, many)))) ↦ absurd (not_many_points asked u p is many)
        | inr (inr (inr (inr (inl (e, much))))) ↦ absurd (not_much_flow asked u p is much)
        | inr (inr (inr (inr (inr (e, o))))) ↦ inr (over e o)
      ]

  -- an answer beside a scheme that has none
  beside_limit : (d : Result Decision Refusal) (a : Result Decided Refusal) → Told a
      → ((p : ProblemData) → HasProblem asked u p → ⊥)
      → (a ≡ Err PointLimit → OfForm asked u HasManyPoints → Matches d a)
      → (a ≡ Err FlowLimit → OfForm asked u HasMuchFlow → Matches d a)
      → Right d a
  beside_limit d a h none many much =
      elim h [
        | inl wants ↦ inl wants
        | inr (inl (x, (e, (v, win)))) ↦ absurd (none win.problem win.of)
        | inr (inr (inl (x, (e, (v, lost))))) ↦ absurd (none lost.problem lost.of)
        | inr (inr (inr (inl (e, m)))) ↦ inr (many e m)
        | inr (inr (inr (inr (inl (e, m))))) ↦ inr (much e m)
        | inr (inr (inr (inr (inr (e, o))))) ↦ absurd (none o.0 o.1.0)
      ]

  pub scheme_matches : (d : Result Decision Refusal) (a : Result Decided Refusal) → WarrantsOnScheme asked u d → IsAnswerOn asked u a → Right d a
  scheme_matches d a w h =
      elim (warranted d w) [
        | inl (is, (accepts, within)) ↦
            beside_problem d a within.problem within.of (told a h)
            (λ x e v win. matching (Ok Accepted) d a (Ok x) is e v)
            (λ x e v lost. absurd (lost.rejects accepts))
            (λ e o. absurd (not_over within o))
        | inr (inl (is, (rejects, within))) ↦
            beside_problem d a within.problem within.of (told a h)
            (λ x e v win. absurd (rejects win.accepts))
            (λ x e v lost. matching (Ok Rejected) d a (Ok x) is e v)
            (λ e o. absurd (not_over within o))
        | inr (inr (inl (is, many))) ↦
            beside_limit d a (told a h) (λ p of. not_many_points asked u p of many)
            (λ e m. matching (Err PointLimit) d a (Err PointLimit) is e refl)
            (λ e m. absurd (many_not_much asked u many m))
        | inr (inr (inr (inl (is, much)))) ↦
            beside_limit d a (told a h) (λ p of. not_much_flow asked u p of much)
            (λ e m. absurd (many_not_much asked u m much))
            (λ e m. matching (Err FlowLimit) d a (Err FlowLimit) is e refl)
        | inr (inr (inr (inr (is, bound)))) ↦
            beside_problem d a bound.problem bound.of (told a h)
            (λ x e v win. absurd (not_won win bound))
            (λ x e v lost. absurd (not_lost lost bound))
            (λ e o. matching (Err EntryLimit) d a (Err EntryLimit) is e refl)
      ]

-- ---- an answer and a warrant on the bytes of a file

module _ (asked : Asked) (bytes : List ℕ) where
  pub answer_layers : (a : Result Decided Refusal) → IsAnsweredWith asked bytes a → Wants a ⊎ Layered (λ r. a ≡ Err r) (λ u. IsAnswerOn asked u a) bytes
  answer_layers (Ok d) h = inr (of_sound (λ r. Ok d ≡ Err r) (λ u. IsAnswerOn asked u (Ok d)) bytes h.scheme h.sound h.decides)
  answer_layers (Err r) h =
      elim (of_refusal (λ s. Err r ≡ Err s) (λ u. IsAnswerOn asked u (Err r)) asked bytes r h refl) [
        | inl e ↦ inl (ap (λ (s : Refusal). Err s) e)
        | inr (inl d) ↦ inr (of_sound (λ s. Err r ≡ Err s) (λ u. IsAnswerOn asked u (Err r)) bytes d.scheme d.sound d.decides)
        | inr (inr l) ↦ inr l
      ]

  module _ (d : Result Decision Refusal) where
    abbrev IsRefusal : Refusal → Type 0
    IsRefusal r = d ≡ Err r

    abbrev OnScheme : UnsortedData → Type 0
    OnScheme u = WarrantsOnScheme asked u d

    abbrev Layers : Type 0
    Layers = Layered IsRefusal OnScheme bytes

    of_warrant : HasWarrant asked bytes d → Layers
    of_warrant w = of_sound IsRefusal OnScheme bytes w.scheme w.sound w.warrants

    -- no refusal by the front end is want of memory
    of_refused : (r : Refusal) → (r ≡ OutOfMemory → ⊥) → IsFileFault bytes r → d ≡ Err r → Layers
    of_refused r other h e =
        elim (of_fault IsRefusal OnScheme bytes r h e) [
          | inl wants ↦ absurd (other wants)
          | inr l ↦ l
        ]

  -- the file is too long, or not, and then there are the layers
  abbrev Lies : Result Decision Refusal → Type 0
  Lies d = (max_bytes < length bytes) ⊎ ((length bytes ≤ max_bytes) × Layers d)

  warrant_layers : (d : Result Decision Refusal) → Warrants asked d bytes → Lies d
  warrant_layers (Ok v) h = inr (h.0, of_warrant (Ok v) h.1)
  warrant_layers (Err Usage) h = absurd h
  warrant_layers (Err Source) h = absurd h
  warrant_layers (Err Sink) h = absurd h
  warrant_layers (Err OutOfMemory) h = absurd h
  warrant_layers (Err FileTooLong) h = inl h
  warrant_layers (Err (Syntax line)) h = inr (h.0, of_refused (Err (Syntax line)) (Syntax line) (λ e. (cc)) h.1 refl)
  warrant_layers (Err (Limit which)) h = inr (h.0, of_refused (Err (Limit which)) (Limit which) (λ e. (cc)) h.1 refl)
  warrant_layers (Err (Names fault)) h = inr (h.0, of_refused (Err (Names fault)) (Names fault) (λ e. (cc)) h.1 refl)
  warrant_layers (Err (IllSorted rule)) h = inr (h.0, of_refused (Err (IllSorted rule)) (IllSorted rule) (λ e. (cc)) h.1 refl)
  warrant_layers (Err (NotFirstOrder terminal)) h = inr (h.0, of_refused (Err (NotFirstOrder terminal)) (NotFirstOrder terminal) (λ e. (cc)) h.1 refl)
  warrant_layers (Err (SortTooLarge rule)) h = inr (h.0, of_refused (Err (SortTooLarge rule)) (SortTooLarge rule) (λ e. (cc)) h.1 refl)
  warrant_layers (Err (RuleTooLong rule)) h = inr (h.0, of_refused (Err (RuleTooLong rule)) (RuleTooLong rule) (λ e. (cc)) h.1 refl)
  warrant_layers (Err PointLimit) h = inr (h.0, of_warrant (Err PointLimit) h.1)
  warrant_layers (Err FlowLimit) h = inr (h.0, of_warrant (Err FlowLimit) h.1)
  warrant_layers (Err EntryLimit) h = inr (h.0, of_warrant (Err EntryLimit) h.1)

  -- what the file warrants is answered, want of memory aside
  pub answer_meets : (d : Result Decision Refusal) (a : Result Decided Refusal) → Warrants asked d bytes → HasAnswer asked a bytes → Right d a
  answer_meets d a w h =
      elim (answer_layers a h.1) [
        | inl wants ↦ inl wants
        | inr l ↦ elim (warrant_layers d w) [
          | inl long ↦ absurd (omega (arith, long, h.0))
          | inr (short, k) ↦
              meet (λ r. d ≡ Err r) (λ r. a ≡ Err r) (λ u. WarrantsOnScheme asked u d) (λ u. IsAnswerOn asked u a) (Right d a)
              (λ r e f. inr (matching (Err r) d a (Err r) e f refl)) (λ u p s. scheme_matches asked u d a p s) bytes k l
        ]
      ]

  sortable : (u : UnsortedData) (p : ProblemData) → IsSchemeOf bytes u → HasProblem asked u p → IsSortable bytes u
  sortable u p of is = record { of_bytes = of; sorted = is.form; inferred = is.of.inferred }

  -- a verdict, want of memory, or too many entries
  abbrev pub Comes : Result Decided Refusal → Type 0
  Comes a = Wants a ⊎ (((x : Decided) × (a ≡ Ok x)) ⊎ (a ≡ Err EntryLimit))

  comes_of : (u : UnsortedData) (a : Result Decided Refusal) (p : ProblemData) → HasProblem asked u p → Told asked u a
      → Wants a ⊎ (((x : Decided) × (a ≡ Ok x)) ⊎ ((a ≡ Err EntryLimit) × IsOverBudget asked u))
  comes_of u a p is h =
      elim h [
        | inl wants ↦ inl wants
        | inr (inl (x, (e, v))) ↦ inr (inl (x, e))
        | inr (inr (inl (x, (e, v)))) ↦ inr (inl (x, e))
        | inr (inr (inr (inl (e, many)))) ↦ absurd (not_many_points asked u p is many)
        | inr (inr (inr (inr (inl (e, much))))) ↦ absurd (not_much_flow asked u p is much)
        | inr (inr (inr (inr (inr (e, o))))) ↦ inr (inr (e, o))
      ]

  comes : (u : UnsortedData) (a : Result Decided Refusal) (p : ProblemData) → HasProblem asked u p → Told asked u a → Comes a
  comes u a p is h =
      elim (comes_of u a p is h) [
        | inl wants ↦ inl wants
        | inr (inl x) ↦ inr (inl x)
        | inr (inr (e, o)) ↦ inr (inr e)
      ]

  -- what comes of a file with a problem, of which P says more
  beside : (P : ProblemData → Type 0) (G : Type 0) (a : Result Decided Refusal) (is : IsWithinLimits asked bytes) → P is.problem
      → ((u : UnsortedData) (p : ProblemData) → HasProblem asked u p → P p → IsAnswerOn asked u a → G) → Layered (λ s. a ≡ Err s) (λ u. IsAnswerOn asked u a) bytes → G
  beside P G a is more f l =
      meet (λ s. ⊥) (λ s. a ≡ Err s) (λ u. (p : ProblemData) × (HasProblem asked u p × P p)) (λ u. IsAnswerOn asked u a) G
      (λ s never e. absurd never) (λ u q s. f u q.0 q.1.0 q.1.1 s) bytes
      (of_sound (λ s. ⊥) (λ u. (p : ProblemData) × (HasProblem asked u p × P p)) bytes is.scheme (sortable is.scheme is.problem is.of_bytes is.of) (is.problem, (is.of, more))) l

  -- a file with a problem gets a verdict, unless memory is refused or there are too many entries
  pub readable_comes : (a : Result Decided Refusal) → IsWithinLimits asked bytes → HasAnswer asked a bytes → Comes a
  readable_comes a is h =
      elim (answer_layers a h.1) [
        | inl wants ↦ inl wants
        | inr l ↦ beside (λ p. Unit {0}) (Comes a) a is tt (λ u p has more s. comes u a p has (told asked u a s)) l
      ]

  -- and where the least table is within the budget, there are not
  pub decided_comes : (a : Result Decided Refusal) → IsWithinAll asked bytes → HasAnswer asked a bytes → Wants a ⊎ ((x : Decided) × (a ≡ Ok x))
  decided_comes a is h =
      elim (answer_layers a h.1) [
        | inl wants ↦ inl wants
        | inr l ↦
            beside (λ p. Exceeds p asked.settings.entries → ⊥) (Wants a ⊎ ((x : Decided) × (a ≡ Ok x))) a is.0 is.1
            (λ u p has few s.
            elim (comes_of u a p has (told asked u a s)) [
              | inl wants ↦ inl wants
              | inr (inl x) ↦ inr x
              | inr (inr (e, o)) ↦ absurd (few (exceeds_too asked u o.0 p o.1.0 has o.1.1.exceeds))
            ]) l
      ]
