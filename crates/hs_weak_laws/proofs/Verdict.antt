-- The laws of certificates, of compact lists and of closed tables: three cases of one induction.
use Rattle.std.proofs.Common.{◌≡◌, refl, sym, ◌∙◌, subst, ℕ, List, slice_get, Some, ◌↔◌, inl, inr}
use Rattle.std.proofs.lemmas.Option.{same_Some}
use Rattle.hs_scheme.specs.acceptance.Run.{start, Accepts}
use Rattle.hs_scheme.specs.acceptance.Steps.{Path, Fails}
use Rattle.hs_scheme.specs.flow.Points.{PointData}
use Rattle.hs_scheme.specs.Problem.{ProblemData}
use Rattle.hs_table.specs.Types.{TypeTree}
use Rattle.hs_table.specs.Entries.{Env, EntryData}
use Rattle.hs_table.specs.Follows.{Chosen, done, next_argument, choose, Follows}
use Rattle.hs_table.specs.Tables.{IsClosedTable, HasStart}
use Rattle.hs_table_laws.proofs.Places.{place_of}
use Rattle.hs_table_laws.proofs.Shapes.{follows_shape}
use Rattle.hs_verdict.specs.Premises.{IsSortedProblem, HasClosedFlow}
use Rattle.hs_verdict.specs.Terms.{term_at}
use Rattle.hs_verdict.proofs.TermLemmas.{are_terms}
use Rattle.hs_verdict.proofs.Verdict.{accepted}
use Rattle.hs_weak.specs.Strength.{AsStrongAs}
use Rattle.hs_weak.specs.Weak.{WeaklyChosen, WeaklyFollows, IsCoveredIn}
use Rattle.hs_weak.specs.Weak.{done as done', next_argument as next_argument', choose as choose'}
use Rattle.hs_weak.specs.Void.{VoidData, IsVoid}
use Rattle.hs_weak.specs.Certificate.{IsVoidEntry, IsAcceptanceCertificate}
use Rattle.hs_weak_laws.proofs.Relations.{strength, equality, Same}
use Rattle.hs_weak_laws.proofs.NeverVoid.{never_void}
use Rattle.hs_weak_laws.proofs.Reading.{InList, closed_reads, Any, all_reads}
use Rattle.hs_weak_laws.proofs.Complete.{IsEnough, complete}

abbrev Never : ℕ → Env → Type 0
Never f E = ⊥

-- with equality, what weakly follows is what follows
module _ (p : ProblemData) (C : List EntryData) where
  same_chosen : {i : ℕ} {us : List ℕ} {ss : Env} {args : List (ℕ × ℕ)} {es : List EntryData} → WeaklyChosen Same p C i us ss args es → Chosen p C i us ss args es
  same_chosen done' = done
  same_chosen (next_argument' c) = next_argument (same_chosen c)
  same_chosen (choose' at point ty c) = choose at point ty (same_chosen c)

  chosen_same : {i : ℕ} {us : List ℕ} {ss : Env} {args : List (ℕ × ℕ)} {es : List EntryData} → Chosen p C i us ss args es → WeaklyChosen Same p C i us ss args es
  chosen_same done = done'
  chosen_same (next_argument c) = next_argument' (chosen_same c)
  chosen_same (choose at point ty c) = choose' at point ty (chosen_same c)

  same_follows : (e : EntryData) → WeaklyFollows Same p C e → Follows p C e
  same_follows e (s, f) = (s, record { of = f.of; at = f.at; sets = f.sets; head = f.head; chosen = f.chosen; are = same_chosen f.are; env = f.env; union = f.union })

  follows_same : (e : EntryData) → Follows p C e → WeaklyFollows Same p C e
  follows_same e (s, f) = (s, record { of = f.of; at = f.at; sets = f.sets; head = f.head; chosen = f.chosen; are = chosen_same f.are; env = f.env; union = f.union })

  pub same_weakly : (e : EntryData) → WeaklyFollows Same p C e ↔ Follows p C e
  same_weakly e = (same_follows e, follows_same e)

module _ (p : ProblemData) (given : IsSortedProblem p) (closed : HasClosedFlow p) (C : List EntryData) where
  abbrev FailsAt : ℕ → Path → Type 0
  FailsAt n path = Fails p.sorted.scheme.rules p.sorted.automaton.transitions n 0 start path

  start_entry : (R : TypeTree → TypeTree → Type 0) (M : ℕ → ℕ → Type 0) (N : ℕ → Env → Type 0) → IsEnough R p C M N → (n : ℕ) (path : Path) → FailsAt n path → HasStart p C
  start_entry R M N enough = complete p given closed (term_at p.sorted.scheme.rules) (are_terms p.sorted.scheme.rules) R C M N enough

  void_at : (V : List VoidData) (e : EntryData) (of : PointData) → slice_get p.points.points e.point ≡ Some of → IsVoidEntry p C V e → IsVoid p C V of.rule e.env
  void_at V e of at (d, (at_d, void)) = subst (λ (k : PointData). IsVoid p C V k.rule e.env) (same_Some d of (sym at_d ∙ at)) void

  pub certificate_accepts : (V : List VoidData) (R : List (ℕ × ℕ)) → IsAcceptanceCertificate p C V R → Accepts p.sorted.scheme.rules p.sorted.automaton.transitions
  certificate_accepts V R it =
      let enough : IsEnough AsStrongAs p C (InList p R) (IsVoid p C V) = record {
        strong = strength p.sorted.automaton.states;
        reads = closed_reads p R it.reads;
        never = never_void p C V it.void;
        covered = λ e of follows matters at. elim (it.covered e follows matters) [
          | inl covered ↦ inl covered
          | inr void ↦ inr (void_at V e of at void)
        ];
      } in
      accepted p given (λ n path fails. it.no_start (start_entry AsStrongAs (InList p R) (IsVoid p C V) enough n path fails))

  -- a list that covers whatever weakly follows from it
  pub covering_has_start : ((e : EntryData) → WeaklyFollows AsStrongAs p C e → IsCoveredIn AsStrongAs p C e) → (n : ℕ) (path : Path) → FailsAt n path → HasStart p C
  covering_has_start covered = start_entry AsStrongAs (Any p) Never (record {
    strong = strength p.sorted.automaton.states;
    reads = all_reads p;
    never = λ f cs b E had void. void;
    covered = λ e of follows matters at. inl (covered e follows);
  })

  same_covered : IsClosedTable p C → (e : EntryData) → WeaklyFollows Same p C e → IsCoveredIn Same p C e
  same_covered table e follows =
      let plain = (same_weakly p C e).0 follows in
      let there = place_of C e (table e plain) in
      (there.0, e, (record { at = there.1; shape = follows_shape p C given.automaton.to e plain }, record { point = refl; ty = refl; env = λ j a m. (a, (m, refl)) }))

  pub closed_has_start : IsClosedTable p C → (n : ℕ) (path : Path) → FailsAt n path → HasStart p C
  closed_has_start table = start_entry Same (Any p) Never (record {
    strong = equality p.sorted.automaton.states;
    reads = all_reads p;
    never = λ f cs b E had void. void;
    covered = λ e of follows matters at. inl (same_covered table e follows);
  })
