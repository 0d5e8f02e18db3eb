-- The terms of a right side that are begun, as they lie in one list of nodes.
--     Begun       the terms before each open parenthesis, the innermost first, and the term behind it
--     nodes_of    the nodes of a term, where one is begun
--     AreBegun    the nodes are those of the terms begun, the outermost first, and each begins at its place
--     HasRoomFor  one more argument is allowed
--     IsBuilding  what holds while a right side is read
--     TakesToken  what a function says that takes a token of it: reading goes on behind it, or ends there
use Rattle.std.specs.Prelude.{◌≡◌, refl, ℕ, ◌<◌, ◌≤◌, List, [], ◌∷◌, ◌++◌, length, take, drop, reverse, Option, Some, None, Result}
use Rattle.std.specs.List.{AllByRecursion}
use Rattle.std.specs.Coded.{Coded, code_by, coded×, coded_list, coded_option}
use Rattle.hs_scheme.specs.Tree.{Tree, tree_code}
use Rattle.hs_reader.specs.declared.raw.RawName.{RawName}
use Rattle.hs_reader.specs.declared.raw.RawNode.{RawNode}
use Rattle.hs_reader.specs.declared.fault.ReadFault.{ReadFault}
use Rattle.hs_reader.specs.Raw.{Rule, coded_name}
use Rattle.hs_reader.specs.Tokens.{Placed}
use Rattle.hs_reader.specs.Faults.{arguments}
use Rattle.hs_reader.specs.Preorder.{preorder, first_term}
use Rattle.hs_reader.specs.ReadingStages.{in_body, run, Goes}

pub record Begun : Type 0 where
  pub outer : List (Option (Tree RawName))
  pub top : Option (Tree RawName)

abbrev pub coded_begun : Coded Begun
coded_begun =
    code_by (List (Option (Tree RawName)) × Option (Tree RawName)) (coded× (coded_list (coded_option (tree_code coded_name))) (coded_option (tree_code coded_name)))
    (λ b. (b.outer, b.top)) (λ p. record { outer = p.0; top = p.1 }) (λ _. refl)

abbrev pub nodes_of : Option (Tree RawName) → List RawNode
nodes_of None = []
nodes_of (Some t) = preorder t

abbrev pub term_at : List RawNode → Option (Tree RawName)
term_at [] = None
term_at (n ∷ ns) = Some (first_term (n ∷ ns))

-- the terms that begin at these places of the nodes, the last first
abbrev pub terms_from : List RawNode → List ℕ → List (Option (Tree RawName))
terms_from ns [] = []
terms_from ns (at ∷ starts) = term_at (drop at ns) ∷ terms_from (take at ns) starts

abbrev pub begun_at : List RawNode → List ℕ → ℕ → Begun
begun_at ns places start = record { outer = terms_from (take start ns) (reverse places); top = term_at (drop start ns) }

abbrev pub AreBegun : List RawNode → List ℕ → List (Option (Tree RawName)) → Type 0
AreBegun ns [] [] = ns ≡ []
AreBegun ns (at ∷ starts) (t ∷ ts) = (before : List RawNode) × (ns ≡ before ++ nodes_of t) × (length before ≡ at) × AreBegun before starts ts
AreBegun ns starts ts = ⊥

abbrev pub HasRoomFor : Option (Tree RawName) → Type 0
HasRoomFor None = Unit {0}
HasRoomFor (Some t) = arguments t < 64

abbrev pub IsWide : Option (Tree RawName) → Type 0
IsWide None = Unit {0}
IsWide (Some t) = arguments t ≤ 64

pub record IsBuilding (ns : List RawNode) (places : List ℕ) (start : ℕ) (begun : Begun) : Type 0 where
  pub are : AreBegun ns (start ∷ reverse places) (begun.top ∷ begun.outer)
  pub wide : IsWide begun.top
  pub room : AllByRecursion HasRoomFor begun.outer

abbrev pub TakesToken : {X : Type 0} → Placed → (old new : Begun) → Result X ReadFault → Type 0
TakesToken token old new result =
    (rs : List Rule) (n : RawName) (ps : List RawName) (rest : List Placed)
    → Goes (λ _. run (in_body rs n ps new.outer new.top) rest) result (run (in_body rs n ps old.outer old.top) (token ∷ rest))
