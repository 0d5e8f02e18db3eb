-- The naming of a log beside the reduction of a term: step by step they go the same way.
--     LeadsBy     a move by the head of a support, with the step of the term in the state; `go` says how both go on
--     Leads       in at most so many moves the naming from an evidence with a stack ends, each of its steps is a step of the term, and at its
--               end the place's terminal is in front, which has no transition in the support's state
--     StartLeads  so from the first place of the start entry on, once the start is replaced
use Rattle.std.specs.Prelude.{◌≡◌, ℕ, zero, suc, List, [], ◌∷◌, Some, None}
use Rattle.hs_scheme.specs.declared.term.Head.{Head}
use Rattle.hs_scheme.specs.declared.term.Head.TheVariants.{Tm}
use Rattle.hs_scheme.specs.acceptance.Automaton.{next}
use Rattle.hs_scheme.specs.Tree.{Tree, Trees, node}
use Rattle.hs_scheme.specs.flow.Points.{PointData, point_at}
use Rattle.hs_scheme.specs.Problem.{ProblemData}
use Rattle.hs_scheme.specs.acceptance.Run.{start}
use Rattle.hs_scheme.specs.acceptance.Steps.{StepsTo}
use Rattle.hs_table.specs.declared.support.HeadBy.{HeadBy}
use Rattle.hs_table.specs.declared.support.HeadBy.TheVariants.{Terminal, Rule, Param}
use Rattle.hs_table.specs.Entries.{EntryData, entry_at}
use Rattle.hs_table.specs.Follows.{Support}
use Rattle.hs_verdict.specs.Evidence.{Evidence, Packs, evidence, no_packs, stacked, first, child_pack, own_evidence, packs_for}
use Rattle.hs_verdict.specs.Naming.{support_at, terminal_of, argument_packs, IsFirstStart}

abbrev pub LeadsBy : ProblemData → (ℕ → Tree Head → Evidence → Packs → Type 0) → HeadBy → ℕ → (ℕ → ℕ → Evidence) → ℕ → Tree Head → Packs → Type 0
LeadsBy p go (Terminal r None) terminal own q t stack = (r ≡ q) × ((us : Trees Head) × (t ≡ node (Tm terminal) us)) × (next p.sorted.automaton.transitions q terminal ≡ None)
LeadsBy p go (Terminal r (Some child)) terminal own q t stack =
    (s : ℕ) × (u : Tree Head) × StepsTo p.sorted.scheme.rules p.sorted.automaton.transitions q t ((terminal, child) ∷ []) s u × go s u (first (child_pack stack child)) no_packs
LeadsBy p go (Rule place) terminal own q t stack = (u : Tree Head) × StepsTo p.sorted.scheme.rules p.sorted.automaton.transitions q t [] q u × go q u (evidence place stack) no_packs
LeadsBy p go (Param x place) terminal own q t stack = go q t (own x place) stack

abbrev pub Leads : ProblemData → List EntryData → List Support → ℕ → ℕ → Tree Head → Evidence → Packs → Type 0
Leads p T supports zero q t e stack = ⊥
Leads p T supports (suc moves) q t (evidence place own) stack =
    let e : EntryData = entry_at T place in
    let s : Support = support_at supports place in
    let d : PointData = point_at p.points e.point in
    let give : ℕ → Evidence = λ m. evidence m (packs_for (own_evidence e.env own) 0 (entry_at T m).env) in
    LeadsBy p (Leads p T supports moves) s.head (terminal_of d.head) (λ x m. own_evidence e.env own x (entry_at T m).ty) q t (stacked (argument_packs give 0 d.args s.args) stack)

pub record StartLeads (p : ProblemData) (T : List EntryData) (supports : List Support) : Type 0 where
  pub place : ℕ
  pub is_first : IsFirstStart p T place
  pub body : Tree Head
  pub replaced : StepsTo p.sorted.scheme.rules p.sorted.automaton.transitions 0 start [] 0 body
  pub moves : ℕ
  pub leads : Leads p T supports moves 0 body (evidence place no_packs) no_packs
