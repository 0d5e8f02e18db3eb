-- What is answered of the core that the workers leave.
use Rattle.std.proofs.Common.{◌≡◌, ◌↔◌, sym, ◌∙◌, ap, subst, ℕ, List, [], ◌++◌, length, take, drop, All, ◌≤◌, arith}
use Rattle.std.proofs.lemmas.List.{take_all, drop_all, append-nil}
use Rattle.std.proofs.lemmas.List.Elements.{All-weaker, All-append}
use Rattle.hs_scheme.specs.Problem.{ProblemData}
use Rattle.hs_scheme.specs.acceptance.Run.{Accepts}
use Rattle.hs_table.specs.Tables.{IsLeastTable, HasStart}
use Rattle.hs_history.specs.Story.{Base, CoreStep, Story}
use Rattle.hs_history.specs.History.{state_after}
use Rattle.hs_core.specs.declared.answers.Done.{Done}
use Rattle.hs_core.specs.declared.answers.Done.TheVariants.{Least, Over, First}
use Rattle.hs_core.specs.Core.{CoreData, log_of}
use Rattle.hs_core.specs.Answers.{IsLeastAnswer, IsOverAnswer, IsFirstAnswer}
use Rattle.hs_core.specs.Saturation.{IsVerdict}
use Rattle.hs_core.specs.Draining.{GoesAlone, NothingFlies}
use Rattle.hs_workers.specs.Answers.{IsOfWorkers, IsShared, IsSharedDone, IsDoneOf}

-- a list that is written over as a whole
pub written : {X : Type 0} (new items : List X) (len : ℕ) → length new ≡ length items → len ≡ length items → take len (new ++ drop (length new) items) ≡ new
written new items len same is =
    ap (λ xs. take len (new ++ xs)) (drop_all (length new) items (omega (arith, same))) ∙ ap (take len) (append-nil new) ∙ take_all len new (omega (arith, same, is))

module _ (base : Base) (workers : ℕ) (c : CoreData) (shared : IsShared base workers c) where
  pub done_shared : (done : Done) → IsDoneOf c done → IsSharedDone base workers done
  done_shared (Least d) h = (subst (IsShared base workers) (sym h.0) shared, subst IsLeastAnswer (sym h.0) h.1)
  done_shared (Over d) h = (subst (IsShared base workers) (sym h.0) shared, subst IsOverAnswer (sym h.0) h.1)
  done_shared (First d) h = (subst (IsShared base workers) (sym h.0) shared, subst IsFirstAnswer (sym h.0) h.1)

-- the verdict of a least answer
pub verdict_of : (p : ProblemData) (c : CoreData) → c.base.problem ≡ p
    → (IsLeastTable p (log_of c) → (Accepts p.sorted.scheme.rules p.sorted.automaton.transitions ↔ (HasStart p (log_of c) → ⊥)))
    → (done : Done) → IsDoneOf c done → IsVerdict p done
verdict_of p c same decides (Least d) h =
    subst (λ (x : CoreData). Accepts p.sorted.scheme.rules p.sorted.automaton.transitions ↔ (HasStart p (log_of x) → ⊥)) (sym h.0)
    (decides (subst (λ q. IsLeastTable q (log_of c)) same h.1.least))
verdict_of p c same decides (Over d) h = tt
verdict_of p c same decides (First d) h = tt

-- one worker goes on behind others
pub by_more : (workers : ℕ) (a b : CoreData) → 1 ≤ workers → All (IsOfWorkers workers) a.story → GoesAlone 1 a b → All (IsOfWorkers workers) b.story
by_more workers a b some all goes = subst (λ (story : Story). All (IsOfWorkers workers) story) (sym goes.story)
    (All-append (IsOfWorkers workers) a.story goes.more all (All-weaker (λ (s : CoreStep). s.worker ≡ 1) (IsOfWorkers workers) (λ s is. (omega (arith, is), omega (arith, is, some))) goes.more goes.alone))

-- one worker did everything
pub by_one : (a b : CoreData) → a.story ≡ [] → GoesAlone 1 a b → All (IsOfWorkers 1) b.story
by_one a b none goes =
    All-weaker (λ (s : CoreStep). s.worker ≡ 1) (IsOfWorkers 1) (λ s is. (omega (arith, is), omega (arith, is))) b.story
    (subst (λ (story : Story). All (λ (s : CoreStep). s.worker ≡ 1) story) (sym (goes.story ∙ ap (λ (xs : Story). xs ++ goes.more) none)) goes.alone)

pub nothing_flies : (a : CoreData) → a.story ≡ [] → NothingFlies a
nothing_flies a none t = ap (λ (xs : Story). (state_after a.base xs).flight t) none
