-- Tuples of closures that calls build: along a chain of sites, each of which gives the closures of its arguments under a tuple, itself
-- built, for the parameters of its own rule.
--     IsPieces p G g ds    ds is made of such pieces for the parameters of the nonterminal G from g on, as far as these go
--     IsBuilt p G cs       a built tuple: the pieces are for all parameters of G
--     IsBuiltClosure       the closures in it are a built tuple for the rule of its point
--     IsBuiltFront p c ds  a closure with a stack: all are built, and the stack is made of pieces for whatever the closure's point may become
--     ComesInFront p c ds  the closure stands in front with this stack in a reduction from the start
use Rattle.std.specs.Prelude.{◌≡◌, ℕ, ◌+◌, ◌≤◌, List, [], ◌++◌, length, slice_get, Some, Contains}
use Rattle.hs_scheme.specs.declared.term.Head.TheVariants.{Var, Nt, Tm}
use Rattle.hs_scheme.specs.declared.term.Rule.{Rule}
use Rattle.hs_scheme.specs.declared.flow.Pair.TheVariants.{OfHead}
use Rattle.hs_scheme.specs.Tree.{Trees, node, none, forest, children}
use Rattle.hs_scheme.specs.flow.Points.{PointData}
use Rattle.hs_scheme.specs.flow.Flow.{pairs_of}
use Rattle.hs_scheme.specs.Problem.{ProblemData}
use Rattle.hs_table.specs.Entries.{params_of}
use Rattle.hs_weak.specs.Sites.{SiteData, IsSite}
use Rattle.hs_weak.specs.Reads.{PointIs}
use Rattle.hs_verdict.specs.Closures.{Closure, root, argument_closures}

pub data IsPieces (p : ProblemData) : ℕ → ℕ → List Closure → Type 0 where
  full : {G g : ℕ} {ds : List Closure} → params_of p G ≤ g → IsPieces p G g ds
  no_more : {G g : ℕ} → IsPieces p G g []
  piece : {G g : ℕ} {ds rest : List Closure} (s : SiteData) (of : PointData) (cs : Trees ℕ) → s.given ≡ g → IsSite p G s of
      → IsPieces p of.rule 0 (children cs) → length (children cs) ≡ params_of p of.rule
      → ds ≡ argument_closures of.args cs ++ rest → IsPieces p G (g + length of.args) rest → IsPieces p G g ds

pub record IsBuilt (p : ProblemData) (G : ℕ) (cs : List Closure) : Type 0 where
  pub pieces : IsPieces p G 0 cs
  pub long : length cs ≡ params_of p G

abbrev pub IsBuiltClosure : ProblemData → Closure → Type 0
IsBuiltClosure p (node point cs) = (of : PointData) × ((slice_get p.points.points point ≡ Some of) × IsBuilt p of.rule (children cs))

pub record IsBuiltFront (p : ProblemData) (c : Closure) (ds : List Closure) : Type 0 where
  pub front : IsBuiltClosure p c
  pub stack : (i : ℕ) (d : Closure) → slice_get ds i ≡ Some d → IsBuiltClosure p d
  pub pieces : (G g : ℕ) → Contains (pairs_of p.flow.pairs p.flow.heads) (OfHead (record { point = root c; rule = G; given = g })) → IsPieces p G g ds

-- the start's body comes first; then the closure of a parameter, the body of a nonterminal that has all its arguments, and each child of
-- a terminal
pub data ComesInFront (p : ProblemData) : Closure → List Closure → Type 0 where
  start_comes : {body : ℕ} {r : Rule} → slice_get p.sorted.scheme.rules 0 ≡ Some r → 0 ≡ r.params → slice_get p.points.bodies 0 ≡ Some body → ComesInFront p (node body none) []
  parameter_comes : {point rule x : ℕ} {args : List ℕ} {cs : Trees ℕ} {ds : List Closure} {c : Closure} → ComesInFront p (node point cs) ds → PointIs p point rule (Var x) args
      → slice_get (children cs) x ≡ Some c → ComesInFront p c (argument_closures args cs ++ ds)
  body_comes : {point rule f body : ℕ} {args : List ℕ} {cs : Trees ℕ} {ds : List Closure} {r : Rule} → ComesInFront p (node point cs) ds → PointIs p point rule (Nt f) args
      → slice_get p.sorted.scheme.rules f ≡ Some r → length (argument_closures args cs ++ ds) ≡ r.params → slice_get p.points.bodies f ≡ Some body
      → ComesInFront p (node body (forest (argument_closures args cs ++ ds))) []
  child_comes : {point rule a : ℕ} {args : List ℕ} {cs : Trees ℕ} {ds : List Closure} {c : Closure} (i : ℕ) → ComesInFront p (node point cs) ds → PointIs p point rule (Tm a) args
      → slice_get (argument_closures args cs ++ ds) i ≡ Some c → ComesInFront p c []
