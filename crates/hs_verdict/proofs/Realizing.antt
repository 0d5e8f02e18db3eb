-- What it means that a term is rejected by a type, with an evidence and a stack of packs: the naming from there ends, and leads the term.
--     Ends              so, for a term that is rejected in a state
--     Realizes          so, for any type: with each term and pack that realize its set, the result is realized
--     RealizesAll       terms and packs, one of each for each of the sets
use Rattle.std.proofs.Common.{◌≡◌, refl, sym, ◌∙◌, ap, ℕ, zero, suc, ◌+◌, true, false, if◌then◌else◌, List, [], ◌∷◌, ◌++◌, length, slice_get, Option, Some, None, Contains, arith, inl, inr}
use Rattle.std.proofs.Common.{subst as along}
use Rattle.std.specs.Ordering.{is_eq}
use Rattle.std.proofs.lemmas.Cmp.{tied_itself}
use Rattle.std.proofs.lemmas.Option.{same_Some}
use Rattle.hs_scheme.specs.declared.term.Head.{Head}
use Rattle.hs_scheme.specs.Tree.{Tree, Trees, node, none, more, forest}
use Rattle.hs_scheme.specs.acceptance.Replacement.{applied}
use Rattle.hs_scheme.specs.Problem.{ProblemData}
use Rattle.hs_scheme.proofs.Orderings.{equal_of}
use Rattle.hs_scheme.proofs.Lists.{none_in, here, later, uncons}
use Rattle.hs_steps.proofs.Terms.{applied-none, applied-applied}
use Rattle.hs_table.specs.Types.{TypeTree, arrows, type_cmp}
use Rattle.hs_table.specs.Entries.{Env, EntryData, Has}
use Rattle.hs_table.specs.Follows.{Support}
use Rattle.hs_table_laws.proofs.Orders.{type_cmp_total, type_same}
use Rattle.hs_verdict.specs.Evidence.{Evidence, Packs, Pack, no_packs, put, empty, also, stacked, first, pack_at, pick, own_evidence, pack_for, packs_for}
use Rattle.hs_verdict.specs.Leading.{Leads}

pub stacked_none : (a : Packs) → stacked a no_packs ≡ a
stacked_none no_packs = refl
stacked_none (put p ps) = ap (put p) (stacked_none ps)

stacked_stacked : (a b c : Packs) → stacked (stacked a b) c ≡ stacked a (stacked b c)
stacked_stacked no_packs b c = refl
stacked_stacked (put p ps) b c = ap (put p) (stacked_stacked ps b c)

pub equal_same : (a b : TypeTree) → is_eq (type_cmp a b) ≡ true → a ≡ b
equal_same a b e = type_same a b (equal_of (type_cmp a b) e)

pub same_equal : (a b : TypeTree) → a ≡ b → is_eq (type_cmp a b) ≡ true
same_equal a b e = ap (λ x. is_eq (type_cmp a x)) (sym e) ∙ ap is_eq (tied_itself type_cmp_total a)

module _ (p : ProblemData) (T : List EntryData) (supports : List Support) where
  pub record Ends (q : ℕ) (t : Tree Head) (e : Evidence) (stack : Packs) : Type 0 where
    pub moves : ℕ
    pub leads : Leads p T supports moves q t e stack

  abbrev mutual
    pub Realizes : Tree (Option ℕ) → Tree Head → Evidence → Packs → Type 0
    Realizes (node (Some q) us) t e stack = Ends q t e stack
    Realizes (node None us) t e stack = RealizesArrow us t e stack

    pub RealizesArrow : Trees (Option ℕ) → Tree Head → Evidence → Packs → Type 0
    RealizesArrow none t e stack = Unit {0}
    RealizesArrow (more r us) t e stack = (d : Tree Head) (pack : Pack) → RealizesEach us d pack → Realizes r (applied t (more d none)) e (stacked stack (put pack no_packs))

    pub RealizesEach : Trees (Option ℕ) → Tree Head → Pack → Type 0
    RealizesEach none d pack = Unit {0}
    RealizesEach (more a us) d empty = ⊥
    RealizesEach (more a us) d (also e pack) = Realizes a d e no_packs × RealizesEach us d pack

  abbrev pub RealizesAll : Env → List (Tree Head) → Packs → Type 0
  RealizesAll [] [] no_packs = Unit {0}
  RealizesAll [] [] (put pack packs) = ⊥
  RealizesAll [] (d ∷ ds) packs = ⊥
  RealizesAll (s ∷ ss) [] packs = ⊥
  RealizesAll (s ∷ ss) (d ∷ ds) no_packs = ⊥
  RealizesAll (s ∷ ss) (d ∷ ds) (put pack packs) = RealizesEach (forest s) d pack × RealizesAll ss ds packs

  pub moved : (a : TypeTree) (t u : Tree Head) (e : Evidence) (x y : Packs) → t ≡ u → x ≡ y → Realizes a t e x → Realizes a u e y
  moved a t u e x y f g h = along (λ (v : Tree Head). Realizes a v e y) f (along (λ (z : Packs). Realizes a t e z) g h)

  -- where the naming goes on without a step, the place realizes what it goes on to
  mutual
    pub silent : (a : TypeTree) (t : Tree Head) (e f : Evidence) (own stack : Packs)
        → ((moves q : ℕ) (t : Tree Head) (stack : Packs) → Leads p T supports moves q t f (stacked own stack) → Leads p T supports (suc moves) q t e stack)
        → Realizes a t f (stacked own stack) → Realizes a t e stack
    silent (node (Some q) us) t e f own stack go r = record { moves = suc r.moves; leads = go r.moves q t stack r.leads }
    silent (node None us) t e f own stack go r = silent_arrow us t e f own stack go r

    silent_arrow : (us : Trees (Option ℕ)) (t : Tree Head) (e f : Evidence) (own stack : Packs)
        → ((moves q : ℕ) (t : Tree Head) (stack : Packs) → Leads p T supports moves q t f (stacked own stack) → Leads p T supports (suc moves) q t e stack)
        → RealizesArrow us t f (stacked own stack) → RealizesArrow us t e stack
    silent_arrow none t e f own stack go r = tt
    silent_arrow (more a us) t e f own stack go r = λ d pack h. silent a (applied t (more d none)) e f own (stacked stack (put pack no_packs)) go
        (along (λ (z : Packs). Realizes a (applied t (more d none)) f z) (stacked_stacked own stack (put pack no_packs)) (r d pack h))

  -- what holds behind any arguments and packs that fit
  pub push : (ss : Env) (a : TypeTree) (t : Tree Head) (e : Evidence) (stack : Packs)
      → ((ds : List (Tree Head)) (packs : Packs) → RealizesAll ss ds packs → Realizes a (applied t (forest ds)) e (stacked stack packs))
      → Realizes (arrows ss a) t e stack
  push [] a t e stack h = moved a (applied t none) t e (stacked stack no_packs) stack (applied-none t) (stacked_none stack) (h [] no_packs tt)
  push (s ∷ ss) a t e stack h = λ d pack r. push ss a (applied t (more d none)) e (stacked stack (put pack no_packs))
      (λ ds packs rs. moved a (applied t (forest (d ∷ ds))) (applied (applied t (more d none)) (forest ds)) e (stacked stack (put pack packs)) (stacked (stacked stack (put pack no_packs)) packs)
      (sym (applied-applied t (more d none) (forest ds))) (sym (stacked_stacked stack (put pack no_packs) packs)) (h (d ∷ ds) (put pack packs) (r, rs)))

  pub given : (ss : Env) (a : TypeTree) (t : Tree Head) (e : Evidence) (stack : Packs) (ds : List (Tree Head)) (packs : Packs)
      → Realizes (arrows ss a) t e stack → RealizesAll ss ds packs → Realizes a (applied t (forest ds)) e (stacked stack packs)
  given [] a t e stack [] no_packs h r = moved a t (applied t none) e stack (stacked stack no_packs) (sym (applied-none t)) (sym (stacked_none stack)) h
  given [] a t e stack [] (put pack packs) h r = absurd r
  given [] a t e stack (d ∷ ds) packs h r = absurd r
  given (s ∷ ss) a t e stack [] packs h r = absurd r
  given (s ∷ ss) a t e stack (d ∷ ds) no_packs h r = absurd r
  given (s ∷ ss) a t e stack (d ∷ ds) (put pack packs) h (r, rs) =
      moved a (applied (applied t (more d none)) (forest ds)) (applied t (forest (d ∷ ds))) e (stacked (stacked stack (put pack no_packs)) packs) (stacked stack (put pack packs))
      (applied-applied t (more d none) (forest ds)) (stacked_stacked stack (put pack no_packs) packs)
      (given ss a (applied t (more d none)) e (stacked stack (put pack no_packs)) ds packs (h d pack r) rs)

  picked : (s : List TypeTree) (d : Tree Head) (pack : Pack) (a : TypeTree) → RealizesEach (forest s) d pack → Contains s a → Realizes a d (pick s pack a) no_packs
  picked [] d pack a h m = absurd (none_in a m)
  picked (b ∷ s) d empty a h m = absurd h
  picked (b ∷ s) d (also e pack) a (h, hs) m =
      elim (is_eq (type_cmp a b)) as (λ c. is_eq (type_cmp a b) ≡ c → Realizes a d (if c then e else pick s pack a) no_packs) [
        | true ↦ λ f. along (λ (x : TypeTree). Realizes x d e no_packs) (sym (equal_same a b f)) h
        | false ↦ λ f. picked s d pack a hs (elim (uncons b a s m) [
          | inl same ↦ absurd (let g : is_eq (type_cmp a b) ≡ true = same_equal a b same in cc)
          | inr there ↦ there
        ])
      ] refl

  -- the term of a parameter, with the evidence of one of its types
  pub at_parameter : (ss : Env) (ds : List (Tree Head)) (packs : Packs) (j : ℕ) (a : TypeTree) → RealizesAll ss ds packs → Has ss j a
      → (d : Tree Head) × ((slice_get ds j ≡ Some d) × Realizes a d (own_evidence ss packs j a) no_packs)
  at_parameter [] ds packs j a h m = absurd (none_in a m)
  at_parameter (s ∷ ss) [] packs j a h m = absurd h
  at_parameter (s ∷ ss) (d ∷ ds) no_packs j a h m = absurd h
  at_parameter (s ∷ ss) (d ∷ ds) (put pack packs) zero a (h, hs) m = (d, (refl, picked s d pack a h m))
  at_parameter (s ∷ ss) (d ∷ ds) (put pack packs) (suc j) a (h, hs) m = at_parameter ss ds packs j a hs m

  each_given : (give : TypeTree → Evidence) (s : List TypeTree) (d : Tree Head) → ((a : TypeTree) → Contains s a → Realizes a d (give a) no_packs) → RealizesEach (forest s) d (pack_for give s)
  each_given give [] d h = tt
  each_given give (a ∷ s) d h = (h a (here a s), each_given give s d (λ b m. h b (later a b s m)))

  -- packs made of evidences that realize the types of the sets, of which the first is number k
  pub all_given : (give : ℕ → TypeTree → Evidence) (k : ℕ) (ss : Env) (ds : List (Tree Head)) → length ds ≡ length ss
      → ((j : ℕ) (a : TypeTree) (d : Tree Head) → slice_get ds j ≡ Some d → Has ss j a → Realizes a d (give (k + j) a) no_packs) → RealizesAll ss ds (packs_for give k ss)
  all_given give k [] [] e h = tt
  all_given give k [] (d ∷ ds) e h = absurd (omega arith)
  all_given give k (s ∷ ss) [] e h = absurd (omega arith)
  all_given give k (s ∷ ss) (d ∷ ds) e h = (
    each_given (give k) s d (λ a m. let same : k + 0 ≡ k = omega arith in along (λ (n : ℕ). Realizes a d (give n a) no_packs) same (h 0 a d refl m)),
    all_given give (suc k) ss ds (omega arith) (λ j a c at m. let same : k + suc j ≡ suc k + j = omega arith in
        along (λ (n : ℕ). Realizes a c (give n a) no_packs) same (h (suc j) a c at m)),
  )

  pub all_append : (rs ss : Env) (ds us : List (Tree Head)) (xs ys : Packs) → RealizesAll rs ds xs → RealizesAll ss us ys → RealizesAll (rs ++ ss) (ds ++ us) (stacked xs ys)
  all_append [] ss [] us no_packs ys h k = k
  all_append [] ss [] us (put pack xs) ys h k = absurd h
  all_append [] ss (d ∷ ds) us xs ys h k = absurd h
  all_append (r ∷ rs) ss [] us xs ys h k = absurd h
  all_append (r ∷ rs) ss (d ∷ ds) us no_packs ys h k = absurd h
  all_append (r ∷ rs) ss (d ∷ ds) us (put pack xs) ys (h, hs) k = (h, all_append rs ss ds us xs ys hs k)

  pub all_length : (ss : Env) (ds : List (Tree Head)) (packs : Packs) → RealizesAll ss ds packs → length ds ≡ length ss
  all_length [] [] packs h = refl
  all_length [] (d ∷ ds) packs h = absurd h
  all_length (s ∷ ss) [] packs h = absurd h
  all_length (s ∷ ss) (d ∷ ds) no_packs h = absurd h
  all_length (s ∷ ss) (d ∷ ds) (put pack packs) (h, hs) = ap suc (all_length ss ds packs hs)

  -- the pack of a set with one type has its only evidence in front
  pub at_child : (ss : Env) (ds : List (Tree Head)) (packs : Packs) (i : ℕ) (a : TypeTree) → RealizesAll ss ds packs → slice_get ss i ≡ Some (a ∷ [])
      → (d : Tree Head) × ((slice_get ds i ≡ Some d) × Realizes a d (first (pack_at packs i)) no_packs)
  at_child [] ds packs i a h e = absurd (cc)
  at_child (s ∷ ss) [] packs i a h e = absurd h
  at_child (s ∷ ss) (d ∷ ds) no_packs i a h e = absurd h
  at_child (s ∷ ss) (d ∷ ds) (put pack packs) (suc i) a (h, hs) e = at_child ss ds packs i a hs e
  at_child (s ∷ ss) (d ∷ ds) (put pack packs) zero a (h, hs) e =
      (d, (refl, front a d pack (along (λ (x : List TypeTree). RealizesEach (forest x) d pack) (same_Some s (a ∷ []) e) h)))
    where
      front : (a : TypeTree) (d : Tree Head) (pack : Pack) → RealizesEach (forest (a ∷ [])) d pack → Realizes a d (first pack) no_packs
      front a d empty h = absurd h
      front a d (also e pack) h = h.0
