-- What a move of the naming comes to; only private contracts cite it.
--     PremisesWithin      a place's point is in range, and what its support names stands before it
--     IsContinuationAt    a continuation is at this evidence
--     owns                the evidence of a parameter for the type at a place, of the packs of the evidence at another
--     stack_at            the stack with the packs of the arguments there
--     IsStepBy            a step by this head leads to this evidence
--     Moves               a move by this head, with what is on the stack then
--     MovesAt             so by the support of a place
use Rattle.std.specs.Prelude.{◌≡◌, ℕ, ◌<◌, ◌≤◌, List, [], length, All, Option, Some, None}
use Rattle.hs_scheme.specs.Problem.{ProblemData}
use Rattle.hs_scheme.specs.flow.Points.{point_at}
use Rattle.hs_table.specs.declared.support.HeadBy.{HeadBy}
use Rattle.hs_table.specs.declared.support.HeadBy.TheVariants.{Terminal, Rule, Param}
use Rattle.hs_table.specs.Entries.{EntryData, entry_at}
use Rattle.hs_table.specs.Follows.{Support}
use Rattle.hs_verdict.specs.Evidence.{Evidence, Packs, evidence, stacked, first, child_pack, own_evidence}
use Rattle.hs_verdict.specs.Naming.{support_at, terminal_of, argument_packs}
use Rattle.hs_path.specs.declared.evidence.Store.{Store}
use Rattle.hs_path.specs.declared.evidence.Continuation.{Continuation}
use Rattle.hs_path.specs.declared.moving.NamingMove.{NamingMove}
use Rattle.hs_path.specs.declared.moving.NamingMove.TheVariants.{End, Silent, Step}
use Rattle.hs_path.specs.Stored.{IsNode, Piled, premise}

abbrev pub HeadBefore : ℕ → HeadBy → Type 0
HeadBefore i (Terminal q child) = Unit {0}
HeadBefore i (Rule place) = place < i
HeadBefore i (Param x place) = place < i

pub record PremisesWithin (p : ProblemData) (T : List EntryData) (i : ℕ) (s : Support) : Type 0 where
  pub point : (entry_at T i).point < length p.points.points
  pub head : HeadBefore i s.head
  pub args : All (λ c. c.1 < i) s.args

pub record IsContinuationAt (bound : ℕ) (s : Store) (continuation : Continuation) (e : Evidence) : Type 0 where
  pub node : IsNode bound s continuation.number continuation.node e
  pub within : continuation.number ≤ length s.nodes.items
  pub lowest : continuation.number ≡ 0 → continuation.node.place ≡ 0

abbrev pub owns : List EntryData → ℕ → Packs → ℕ → ℕ → Evidence
owns T place own x m = own_evidence (entry_at T place).env own x (entry_at T m).ty

abbrev pub stack_at : ProblemData → List EntryData → List Support → ℕ → Packs → Packs → Packs
stack_at p T supports place own packs =
    stacked (argument_packs (premise T place own) 0 (point_at p.points (entry_at T place).point).args (support_at supports place).args) packs

abbrev pub terminal_at : ProblemData → List EntryData → ℕ → ℕ
terminal_at p T place = terminal_of (point_at p.points (entry_at T place).point).head

abbrev pub IsStepBy : HeadBy → ℕ → Packs → Option (ℕ × ℕ) → Evidence → Type 0
IsStepBy head terminal packs None e = (m : ℕ) × (head ≡ Rule m) × (e ≡ evidence m packs)
IsStepBy head terminal packs (Some (a, child)) e = (q : ℕ) × (head ≡ Terminal q (Some child)) × (a ≡ terminal) × (e ≡ first (child_pack packs child))

pub record IsSilentTo (bound : ℕ) (s : Store) (below : ℕ) (head : HeadBy) (own : ℕ → ℕ → Evidence) (packs : Packs) (items : List ℕ) (continuation : Continuation) : Type 0 where
  pub x : ℕ
  pub m : ℕ
  pub is : head ≡ Param x m
  pub at : IsContinuationAt bound s continuation (own x m)
  pub lower : continuation.number < below
  pub stack : Piled bound s (length s.nodes.items) items 0 (length items) packs

pub record IsStepTo (bound : ℕ) (s : Store) (head : HeadBy) (terminal : ℕ) (packs : Packs) (items : List ℕ) (label : Option (ℕ × ℕ)) (continuation : Continuation) : Type 0 where
  pub e : Evidence
  pub at : IsContinuationAt bound s continuation e
  pub cleared : items ≡ []
  pub is : IsStepBy head terminal packs label e

abbrev pub Moves : ℕ → Store → ℕ → HeadBy → ℕ → (ℕ → ℕ → Evidence) → Packs → List ℕ → NamingMove → Type 0
Moves bound s below head terminal own packs items (End a q) = (a ≡ terminal) × (head ≡ Terminal q None)
Moves bound s below head terminal own packs items (Silent continuation) = IsSilentTo bound s below head own packs items continuation
Moves bound s below head terminal own packs items (Step label continuation) = IsStepTo bound s head terminal packs items label continuation

abbrev pub MovesAt : ProblemData → List EntryData → List Support → Store → List ℕ → Continuation → Packs → Packs → NamingMove → Type 0
MovesAt p T supports s items from own packs taken =
    Moves (length T) s from.number (support_at supports from.node.place).head (terminal_at p T from.node.place) (owns T from.node.place own)
    (stack_at p T supports from.node.place own packs) items taken
