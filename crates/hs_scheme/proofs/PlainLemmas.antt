-- What the plain programs make, in the words of the definitions.
use Rattle.std.proofs.Common.{◌≡◌, ◌≢◌, refl, sym, ◌∙◌, ap, ℕ, zero, suc, ◌-◌, false, ◌&&◌, List, [], ◌∷◌, ◌++◌, length, map, Option, Some, None, ◌<◌, arith}
use Rattle.std.specs.Option.{option_map_or}
use Rattle.std.proofs.Math.Bool.{and-false}
use Rattle.hs_scheme.specs.declared.term.Head.TheVariants.{Var, Nt, Tm}
use Rattle.hs_scheme.specs.declared.term.Head.{Head}
use Rattle.hs_scheme.specs.declared.term.Rule.{Rule}
use Rattle.hs_scheme.specs.acceptance.Transition.{TransitionData}
use Rattle.hs_scheme.specs.acceptance.Automaton.{next}
use Rattle.hs_scheme.specs.Tree.{Tree, Trees, node, more, join, forest, forest-append, children-forest, each-forest}
use Rattle.hs_scheme.specs.acceptance.Replacement.{subst, substs, applied, replaced}
use Rattle.hs_scheme.specs.acceptance.Cut.{CutTree, undefined, unfolded, cut}
use Rattle.hs_scheme.specs.acceptance.Run.{run, runs}

pub substs-forest : (us ws : List (Tree Head)) → substs (forest us) ws ≡ forest (map (λ t. subst t ws) us)
substs-forest [] ws = refl
substs-forest (u ∷ us) ws = ap (more (subst u ws)) (substs-forest us ws)

-- the arguments of what stands for the head, and then the replaced ones
pub subst-node : (h top : Head) (us own ws : List (Tree Head)) → node top (forest own) ≡ replaced h ws
    → node top (forest (own ++ map (λ t. subst t ws) us)) ≡ subst (node h (forest us)) ws
subst-node h top us own ws e =
    ap (node top) (forest-append own (map (λ t. subst t ws) us) ∙ ap (join (forest own)) (sym (substs-forest us ws)))
    ∙ ap (λ r. applied r (substs (forest us) ws)) e

before : (n : ℕ) → suc n - 1 ≡ n
before n = omega arith

at_var : (rules : List Rule) (n j : ℕ) (ts : Trees Head) → cut rules n (node (Var j) ts) ≡ undefined
at_var rules zero j ts = refl
at_var rules (suc n) j ts = refl

at_none : (rules : List Rule) (n f : ℕ) (us : List (Tree Head)) → unfolded rules f us ≡ None → cut rules n (node (Nt f) (forest us)) ≡ undefined
at_none rules zero f us e = refl
at_none rules (suc n) f us e = ap (λ vs. option_map_or (cut rules n) (unfolded rules f vs) undefined) (children-forest us) ∙ ap (λ o. option_map_or (cut rules n) o undefined) e

at_some : (rules : List Rule) (n f : ℕ) (us : List (Tree Head)) (body : Tree Head) → 0 < n → unfolded rules f us ≡ Some body → cut rules n (node (Nt f) (forest us)) ≡ cut rules (n - 1) body
at_some rules zero f us body h e = absurd (omega arith)
at_some rules (suc n) f us body h e =
    ap (λ vs. option_map_or (cut rules n) (unfolded rules f vs) undefined) (children-forest us) ∙ (ap (λ o. option_map_or (cut rules n) o undefined) e ∙ ap (λ m. cut rules m body) (sym (before n)))

at_terminal : (rules : List Rule) (n a : ℕ) (us : List (Tree Head)) → 0 < n → cut rules n (node (Tm a) (forest us)) ≡ node (Some a) (forest (map (cut rules (n - 1)) us))
at_terminal rules zero a us h = absurd (omega arith)
at_terminal rules (suc n) a us h = ap (node (Some a)) (each-forest (cut rules n) us ∙ ap (λ m. forest (map (cut rules m) us)) (sym (before n)))

-- the cut of a term that is read as its head and its list of arguments
module _ (rules : List Rule) (n : ℕ) (term : Tree Head) (h : Head) (us : List (Tree Head)) (is : node h (forest us) ≡ term) where
  along : (t : CutTree) → cut rules n (node h (forest us)) ≡ t → t ≡ cut rules n term
  along t e = sym e ∙ ap (cut rules n) is

  pub cut-Var : (j : ℕ) → h ≡ Var j → undefined ≡ cut rules n term
  cut-Var j e = along undefined (ap (λ k. cut rules n (node k (forest us))) e ∙ at_var rules n j (forest us))

  pub cut-Nt_none : (f : ℕ) → h ≡ Nt f → unfolded rules f us ≡ None → undefined ≡ cut rules n term
  cut-Nt_none f e stays = along undefined (ap (λ k. cut rules n (node k (forest us))) e ∙ at_none rules n f us stays)

  pub cut-Nt_some : (f : ℕ) (body : Tree Head) → h ≡ Nt f → 0 < n → unfolded rules f us ≡ Some body → cut rules (n - 1) body ≡ cut rules n term
  cut-Nt_some f body e more_steps goes = along (cut rules (n - 1) body) (ap (λ k. cut rules n (node k (forest us))) e ∙ at_some rules n f us body more_steps goes)

  pub cut-Tm : (a : ℕ) → h ≡ Tm a → 0 < n → node (Some a) (forest (map (cut rules (n - 1)) us)) ≡ cut rules n term
  cut-Tm a e more_steps = along _ (ap (λ k. cut rules n (node k (forest us))) e ∙ at_terminal rules n a us more_steps)

pub runs-length : (ts : List TransitionData) (trees : List CutTree) (qs : List ℕ) → length qs ≢ length trees → runs ts (forest trees) qs ≡ false
runs-length ts [] [] h = absurd (h refl)
runs-length ts [] (q ∷ qs) h = refl
runs-length ts (t ∷ trees) [] h = refl
runs-length ts (t ∷ trees) (q ∷ qs) h = ap (λ b. run ts q t && b) (runs-length ts trees qs (λ e. h (ap suc e))) ∙ and-false (run ts q t)

-- a node is refused where the transition has another number of children
pub run-length : (ts : List TransitionData) (q a : ℕ) (tree : CutTree) (label : Option ℕ) (trees : List CutTree) (qs : List ℕ) → node label (forest trees) ≡ tree → label ≡ Some a
    → next ts q a ≡ Some qs → length qs ≢ length trees → false ≡ run ts q tree
run-length ts q a tree label trees qs is at there other = sym (ap (run ts q) (sym is) ∙ (ap (λ l. run ts q (node l (forest trees))) at
    ∙ (ap (λ o. option_map_or (runs ts (forest trees)) o false) there ∙ runs-length ts trees qs other)))
