-- The path that a log with its supports names: the supports are followed from the start entry, and each is a move of the term that
-- the start leads to.
--     argument_packs     a pack for each argument of a point: the evidences of the chosen places
--     Move               a move by the head of a support: `go` says how the naming goes on
--     Named              the naming from an evidence with a stack of packs ends after so many steps along this path
--     IsFirstStart       the first place of the start entry
--     NamesPath          the naming of the log, from there with an empty stack, names this path and needs so many steps
--     IsLong             some least log with its supports needs more steps than that
use Rattle.std.specs.Prelude.{◌≡◌, ℕ, zero, suc, ◌+◌, ◌<◌, List, [], ◌∷◌, get_or, slice_get, Some, None, nat_eq, if◌then◌else◌}
use Rattle.hs_scheme.specs.declared.term.Head.{Head}
use Rattle.hs_scheme.specs.declared.term.Head.TheVariants.{Var, Nt, Tm}
use Rattle.hs_scheme.specs.flow.Points.{PointData, point_at}
use Rattle.hs_scheme.specs.Problem.{ProblemData}
use Rattle.hs_scheme.specs.acceptance.Steps.{Path}
use Rattle.hs_table.specs.declared.support.HeadBy.{HeadBy}
use Rattle.hs_table.specs.declared.support.HeadBy.TheVariants.{Terminal, Rule, Param}
use Rattle.hs_table.specs.Entries.{EntryData, entry_at}
use Rattle.hs_table.specs.Follows.{Support}
use Rattle.hs_table.specs.Tables.{IsLeastTable, HasSupports, IsStart}
use Rattle.hs_verdict.specs.Evidence.{Evidence, Packs, Pack, evidence, no_packs, put, empty, also, stacked, first, child_pack, own_evidence, packs_for}

-- the support at a place; anything else where there is none
abbrev pub support_at : List Support → ℕ → Support
support_at supports place = get_or supports place (record { head = Terminal 0 None; args = [] })

abbrev pub terminal_of : Head → ℕ
terminal_of (Var j) = 0
terminal_of (Nt f) = 0
terminal_of (Tm a) = a

-- the evidences of the places chosen for argument i, in their order
abbrev pub chosen_pack : (ℕ → Evidence) → ℕ → List (ℕ × ℕ) → Pack
chosen_pack give i [] = empty
chosen_pack give i ((argument, place) ∷ chosen) = if nat_eq argument i then also (give place) (chosen_pack give i chosen) else chosen_pack give i chosen

-- so for arguments, the first of them number i
abbrev pub argument_packs : (ℕ → Evidence) → ℕ → List ℕ → List (ℕ × ℕ) → Packs
argument_packs give i [] chosen = no_packs
argument_packs give i (u ∷ us) chosen = put (chosen_pack give i chosen) (argument_packs give (suc i) us chosen)

-- The packs of the point's arguments are already on the stack. At a terminal with a child one step leads to the only evidence of the
-- child's pack, and without a child the naming ends. At a nonterminal one step leads to the place of its body's entry, and the packs
-- are the evidences of its parameters. At a parameter the naming goes on, without a step, at the evidence that `own` gives for the
-- parameter and the type at the place.
abbrev pub Move : (Evidence → Packs → ℕ → Path → Type 0) → HeadBy → ℕ → (ℕ → ℕ → Evidence) → Packs → ℕ → Path → Type 0
Move go (Terminal q None) terminal own stack steps path = (steps ≡ 0) × (path ≡ [])
Move go (Terminal q (Some child)) terminal own stack zero path = ⊥
Move go (Terminal q (Some child)) terminal own stack (suc steps) [] = ⊥
Move go (Terminal q (Some child)) terminal own stack (suc steps) (label ∷ path) = (label ≡ (terminal, child)) × go (first (child_pack stack child)) no_packs steps path
Move go (Rule place) terminal own stack zero path = ⊥
Move go (Rule place) terminal own stack (suc steps) path = go (evidence place stack) no_packs steps path
Move go (Param x place) terminal own stack steps path = go (own x place) stack steps path

-- in at most so many moves
abbrev pub Named : ProblemData → List EntryData → List Support → ℕ → Evidence → Packs → ℕ → Path → Type 0
Named p T supports zero e stack steps path = ⊥
Named p T supports (suc moves) (evidence place own) stack steps path =
    let e : EntryData = entry_at T place in
    let s : Support = support_at supports place in
    let d : PointData = point_at p.points e.point in
    let give : ℕ → Evidence = λ m. evidence m (packs_for (own_evidence e.env own) 0 (entry_at T m).env) in
    Move (Named p T supports moves) s.head (terminal_of d.head) (λ x m. own_evidence e.env own x (entry_at T m).ty) (stacked (argument_packs give 0 d.args s.args) stack) steps path

pub record IsFirstStart (p : ProblemData) (T : List EntryData) (place : ℕ) : Type 0 where
  pub entry : EntryData
  pub at : slice_get T place ≡ Some entry
  pub is_start : IsStart p entry
  pub is_first : (i : ℕ) (e : EntryData) → i < place → slice_get T i ≡ Some e → IsStart p e → ⊥

-- the replacement of the start nonterminal is counted
pub record NamesPath (p : ProblemData) (T : List EntryData) (supports : List Support) (need : ℕ) (path : Path) : Type 0 where
  pub place : ℕ
  pub start : IsFirstStart p T place
  pub moves : ℕ
  pub steps : ℕ
  pub named : Named p T supports moves (evidence place no_packs) no_packs steps path
  pub counted : need ≡ steps + 1

pub record IsLong (p : ProblemData) (limit : ℕ) : Type 0 where
  pub log : List EntryData
  pub supports : List Support
  pub is_least : IsLeastTable p log
  pub has_supports : HasSupports p log supports
  pub need : ℕ
  pub path : Path
  pub names : NamesPath p log supports need path
  pub longer : limit < need
