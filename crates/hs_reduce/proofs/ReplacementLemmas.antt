-- Replacement in the graph is replacement of terms.
use Rattle.std.proofs.Common.{◌≡◌, refl, sym, ◌∙◌, ap, subst as along, ℕ, ◌<◌, ◌≤◌, List, [], ◌∷◌, ◌++◌, ◌+◌, ◌-◌, append_assoc, length, map, take, drop, slice_get, get_or, Option, Some, None, unwrap_or, option_map, arith}
use Rattle.std.specs.Prelude.{All}
use Rattle.std.proofs.lemmas.List.{map_push, map_more, take_all, take_rest, take-map, drop-map, length-map}
use Rattle.std.proofs.lemmas.List.Elements.{All-drop, All-push}
use Rattle.std.proofs.lemmas.Option.{slice_get-map, slice_get_within, get_or_from_slice_get}
use Rattle.hs_scheme.specs.declared.term.Head.{Head}
use Rattle.hs_scheme.specs.declared.term.Head.TheVariants.{Var, Nt, Tm}
use Rattle.hs_scheme.specs.declared.term.Rule.{Rule}
use Rattle.hs_scheme.specs.Tree.{Tree, node, none, join, forest, children, forest-children, forest-append}
use Rattle.hs_scheme.specs.acceptance.Replacement.{replaced, subst, applied}
use Rattle.hs_scheme.specs.acceptance.Cut.{unfolded, body_of}
use Rattle.hs_scheme.proofs.PlainLemmas.{subst-node}
use Rattle.hs_steps.proofs.Terms.{applied-none, unfolds}
use Rattle.hs_reduce.specs.Graph.{term_at, terms_at, head_of, arguments_of, GrowsTrees, AddsTerm, Unfolds}
use Rattle.hs_reduce.proofs.GraphLemmas.{terms_same}

-- a term is its head and its arguments
pub whole : (t : Tree Head) → node (head_of t) (forest (arguments_of t)) ≡ t
whole (node h us) = ap (node h) (forest-children us)

pub Grows-refl : (trees : List (Tree Head)) → GrowsTrees trees trees
Grows-refl trees = record { longer = omega arith; same = λ i lt. refl }

pub Grows-then : (old mid new : List (Tree Head)) → GrowsTrees old mid → GrowsTrees mid new → GrowsTrees old new
Grows-then old mid new g h = record {
  longer = omega (arith, g.longer, h.longer);
  same = λ i lt. let there : i < length mid = omega (arith, g.longer) in h.same i there ∙ g.same i lt;
}

pub unfolds_nothing : (old new : List (Tree Head)) (o : Option ℕ) (t : Option (Tree Head)) → ((place : ℕ) → o ≡ Some place → ⊥) → Unfolds old new o t → (t ≡ None) × GrowsTrees old new
unfolds_nothing old new None t nowhere h = h
unfolds_nothing old new (Some place) t nowhere h = absurd (nowhere place refl)

pub AddsTerm-after : (old mid new : List (Tree Head)) (place : ℕ) (t u : Tree Head) → GrowsTrees old mid → t ≡ u → AddsTerm mid new place t → AddsTerm old new place u
AddsTerm-after old mid new place t u g e a = record { grows = Grows-then old mid new g a.grows; within = a.within; term = a.term ∙ e }

-- what is there already
pub AddsTerm-there : (trees : List (Tree Head)) (place : ℕ) (t : Tree Head) → place < length trees → term_at trees place ≡ t → AddsTerm trees trees place t
AddsTerm-there trees place t lt e = record { grows = Grows-refl trees; within = lt; term = e }

pub All-grows : (old new : List (Tree Head)) (places : List ℕ) → GrowsTrees old new → All (λ i. i < length old) places → All (λ i. i < length new) places
All-grows old new places g within k d lt = omega (arith, within k d lt, g.longer)

pub terms-grow : (old new : List (Tree Head)) (places : List ℕ) → GrowsTrees old new → All (λ i. i < length old) places → terms_at new places ≡ terms_at old places
terms-grow old new places g within = terms_same old new (length old) places g.same within

-- the term of a parameter
at_parameter : (trees : List (Tree Head)) (with : List ℕ) (j place : ℕ) → slice_get with j ≡ Some place → slice_get (terms_at trees with) j ≡ Some (term_at trees place)
at_parameter trees with j place e = slice_get-map (term_at trees) with j ∙ ap (option_map (term_at trees)) e

pub parameter : (trees : List (Tree Head)) (with : List ℕ) (h : Head) (j place : ℕ) → h ≡ Var j → slice_get with j ≡ Some place → term_at trees place ≡ replaced h (terms_at trees with)
parameter trees with h j place is e =
    sym (ap (λ o. unwrap_or o (node (Var j) none)) (at_parameter trees with j place e)) ∙ ap (λ k. replaced k (terms_at trees with)) (sym is)

-- a head for which nothing stands
pub other_head : (trees : List (Tree Head)) (with : List ℕ) (h : Head) → ((j : ℕ) → h ≡ Var j → slice_get with j ≡ None) → node h none ≡ replaced h (terms_at trees with)
other_head trees with (Var j) not_there =
    sym (ap (λ o. unwrap_or o (node (Var j) none)) (slice_get-map (term_at trees) with j ∙ ap (option_map (term_at trees)) (not_there j refl)))
other_head trees with (Nt f) not_there = refl
other_head trees with (Tm a) not_there = refl

-- a parameter without arguments
pub alone : (trees : List (Tree Head)) (with : List ℕ) (term : Tree Head) (j place : ℕ) → term ≡ node (Var j) none → slice_get with j ≡ Some place → All (λ i. i < length trees) with
    → AddsTerm trees trees place (subst term (terms_at trees with))
alone trees with term j place is e within =
    let lt : j < length with = slice_get_within with j place e in
    let there : place < length trees = along (λ i. i < length trees) (get_or_from_slice_get with j place 0 e) (within j 0 lt) in
    AddsTerm-there trees place _ there
    (parameter trees with (Var j) j place refl e ∙ (sym (applied-none (replaced (Var j) (terms_at trees with))) ∙ ap (λ t. subst t (terms_at trees with)) (sym is)))

-- further arguments
pub further : (t : Tree Head) (us : List (Tree Head)) → node (head_of t) (forest (arguments_of t ++ us)) ≡ applied t (forest us)
further (node h ts) us = ap (node h) (forest-append (children ts) us ∙ ap (λ vs. join vs (forest us)) (forest-children ts))

pub All-one_more : (n place : ℕ) (places more : List ℕ) → more ≡ places ++ place ∷ [] → All (λ i. i < n) places → place < n → All (λ i. i < n) more
All-one_more n place places more e within lt = along (λ (ps : List ℕ). All (λ i. i < n) ps) (sym e) (All-push (λ i. i < n) places place within lt)

-- the arguments of a term, replaced one after another behind those of what stands for its head
module _ (old mid new : List (Tree Head)) (with : List ℕ) (within : All (λ i. i < length old) with) (grown : GrowsTrees old mid) (own us : List (Tree Head)) (i : ℕ) (args : List ℕ)
    (terms : terms_at mid args ≡ own ++ map (λ t. subst t (terms_at old with)) (take i us)) where
  pub one_more_argument : (d : Tree Head) (place : ℕ) (arg : Tree Head) (more : List ℕ) → All (λ j. j < length mid) args → i < length us → arg ≡ get_or us i d → more ≡ args ++ place ∷ []
      → AddsTerm mid new place (subst arg (terms_at mid with)) → terms_at new more ≡ own ++ map (λ t. subst t (terms_at old with)) (take (i + 1) us)
  one_more_argument d place arg more there lt is e a =
      let same : terms_at new args ≡ own ++ map (λ t. subst t (terms_at old with)) (take i us) = terms-grow mid new args a.grows there ∙ terms in
      let last : term_at new place ≡ subst (get_or us i d) (terms_at old with) = a.term ∙ (λ k. subst (is k) (terms-grow old mid with grown within k)) in
      ap (terms_at new) e ∙ (map_push (term_at new) args place
      ∙ ((λ k. same k ++ last k ∷ [])
      ∙ (append_assoc own (map (λ t. subst t (terms_at old with)) (take i us)) (subst (get_or us i d) (terms_at old with) ∷ [])
      ∙ ap (λ ts. own ++ ts) (sym (map_more (λ t. subst t (terms_at old with)) us i d lt)))))

  pub all_arguments : (h top : Head) (term : Tree Head) (place : ℕ) (places : List ℕ) → places ≡ args → length us ≤ i → node h (forest us) ≡ term → node top (forest own) ≡ replaced h (terms_at old with)
      → AddsTerm mid new place (node top (forest (terms_at mid places))) → AddsTerm old new place (subst term (terms_at old with))
  all_arguments h top term place places same end is stands a =
      let all : terms_at mid args ≡ own ++ map (λ t. subst t (terms_at old with)) us = terms ∙ ap (λ ts. own ++ map (λ t. subst t (terms_at old with)) ts) (take_all i us end) in
      AddsTerm-after old mid new place _ (subst term (terms_at old with)) grown
      (ap (λ ps. node top (forest (terms_at mid ps))) same ∙ (ap (λ ts. node top (forest ts)) all ∙ (subst-node h top us own (terms_at old with) stands ∙ ap (λ t. subst t (terms_at old with)) is))) a

-- a rule's body with the first of the arguments for its parameters, and the rest behind it
pub unfolding_adds : (old mid new : List (Tree Head)) (rules : List Rule) (f : ℕ) (rule : Rule) (args : List ℕ) (body place : ℕ) → slice_get rules f ≡ Some rule → rule.params ≤ length args
    → All (λ i. i < length old) args → AddsTerm old mid body (subst rule.body (terms_at old (take rule.params args)))
    → AddsTerm mid new place (applied (term_at mid body) (forest (terms_at mid (take (length args - rule.params) (drop rule.params args))))) → Unfolds old new (Some place) (unfolded rules f (terms_at old args))
unfolding_adds old mid new rules f rule args body place at enough within a b =
    let ts = terms_at old args in
    let many : rule.params ≤ length ts = omega (arith, length-map args (term_at old)) in
    let first : subst rule.body (terms_at old (take rule.params args)) ≡ subst rule.body (take rule.params ts) = ap (subst rule.body) (sym (take-map (term_at old) rule.params args)) in
    let rest : terms_at mid (take (length args - rule.params) (drop rule.params args)) ≡ drop rule.params ts =
    ap (terms_at mid) (take_rest args rule.params)
    ∙ (terms-grow old mid (drop rule.params args) a.grows (All-drop (λ i. i < length old) rule.params args within) ∙ sym (drop-map (term_at old) rule.params args)) in
    (body_of rule ts, unfolds rules f rule ts at many, AddsTerm-after old mid new place _ (body_of rule ts) a.grows (λ i. applied ((a.term ∙ first) i) (forest (rest i))) b)
