-- Types and entries in shape, part by part.
use Rattle.std.proofs.Common.{◌≡◌, refl, sym, ◌∙◌, ap, subst, ℕ, zero, suc, ◌+◌, ◌<◌, List, [], ◌∷◌, ◌++◌, length, get_or, take, slice_get, Some, arith, Contains, inl, inr, ◌⊎◌}
use Rattle.std.proofs.lemmas.Option.{slice_get-get_or, same_Some}
use Rattle.hs_scheme.specs.Tree.{forest, children-forest}
use Rattle.hs_scheme.specs.declared.term.Head.TheVariants.{Tm}
use Rattle.hs_scheme.specs.flow.Points.{PointData, point_at}
use Rattle.hs_scheme.specs.Problem.{ProblemData}
use Rattle.hs_scheme.proofs.Lists.{none_in, uncons}
use Rattle.hs_table.specs.Types.{TypeTree, arrow, IsSet, IsType, AreTypes}
use Rattle.hs_table.specs.Entries.{Env, EntryData, Has, set_at, IsEnv, InShape, params_of}
use Rattle.hs_table_laws.proofs.Shapes.{arrow_shape}
use Rattle.hs_table_laws.proofs.Members.{taken_next}
use Rattle.hs_table_plain.proofs.Members.{next_member}
use Rattle.hs_checker.specs.Shape.{AreAllTypes}

all_types : (n : ℕ) (s : List TypeTree) → AreTypes n (forest s) → AreAllTypes n s
all_types n [] h a c = absurd (none_in a c)
all_types n (b ∷ s) h a c = elim (uncons b a s c) [
  | inl e ↦ subst (λ z. IsType n z) (sym e) h.0
  | inr t ↦ all_types n s h.1 a t
]

pub arrow_parts : (n : ℕ) (s : List TypeTree) (t : TypeTree) → IsType n (arrow s t) → IsType n t × (IsSet s × AreAllTypes n s)
arrow_parts n s t h = (h.0, (subst (λ xs. IsSet xs) (children-forest s) h.1, all_types n s h.2))

pub arrow_whole : (n : ℕ) (s : List TypeTree) (t : TypeTree) → IsType n t → IsSet s → AreAllTypes n s → IsType n (arrow s t)
arrow_whole n s t rest set all = arrow_shape n s t set all rest

-- sets of types in shape
pub record AreGood (n : ℕ) (env : Env) : Type 0 where
  pub sets : (j : ℕ) → IsSet (set_at env j)
  pub types : (j : ℕ) (a : TypeTree) → Has env j a → IsType n a

set_at-push : (env : Env) (s : List TypeTree) (j : ℕ) → (set_at (env ++ s ∷ []) j ≡ set_at env j) ⊎ (set_at (env ++ s ∷ []) j ≡ s)
set_at-push [] s zero = inr refl
set_at-push [] s (suc j) = inl refl
set_at-push (x ∷ env) s zero = inl refl
set_at-push (x ∷ env) s (suc j) = set_at-push env s j

pub good_more : (n : ℕ) (env : Env) (k : ℕ) (s : List TypeTree) → k < length env → s ≡ get_or env k s → AreGood n (take k env) → IsSet s → AreAllTypes n s → AreGood n (take (k + 1) env)
good_more n env k s lt read before set all = subst (λ e. AreGood n e) (sym (taken_next env k s lt read)) (record {
  sets = λ j. elim (set_at-push (take k env) s j) [
    | inl e ↦ subst (λ xs. IsSet xs) (sym e) (before.sets j)
    | inr e ↦ subst (λ xs. IsSet xs) (sym e) set
  ];
  types = λ j a c. elim (set_at-push (take k env) s j) [
    | inl e ↦ before.types j a (subst (λ xs. Contains xs a) e c)
    | inr e ↦ all a (subst (λ xs. Contains xs a) e c)
  ];
})

pub set_read : (env : Env) (k : ℕ) (s : List TypeTree) → k < length env → s ≡ get_or env k s → set_at env k ≡ s
set_read [] k s lt read = absurd (omega arith)
set_read (x ∷ env) zero s lt read = sym read
set_read (x ∷ env) (suc k) s lt read = set_read env k s (omega arith) read

module _ (p : ProblemData) (e : EntryData) (rule states params : ℕ) (lt : e.point < length p.points.points) (rule_is : rule ≡ (point_at p.points e.point).rule)
    (params_are : params ≡ params_of p rule) (states_are : states ≡ p.sorted.automaton.states) where
  there : slice_get p.points.points e.point ≡ Some (point_at p.points e.point)
  there = slice_get-get_or p.points.points e.point (record { rule = 0; head = Tm 0; args = [] }) lt

  pub shape_whole : IsEnv params e.env × ((j : ℕ) (a : TypeTree) → Has e.env j a → IsType states a) → IsType states e.ty → InShape p e
  shape_whole env ty = record {
    of = point_at p.points e.point;
    at = there;
    env = subst (λ n. IsEnv n e.env) (params_are ∙ ap (params_of p) rule_is) env.0;
    types = λ j a c. subst (λ n. IsType n a) states_are (env.1 j a c);
    ty = subst (λ n. IsType n e.ty) states_are ty;
  }

  pub shape_parts : InShape p e → (IsEnv params e.env × ((j : ℕ) (a : TypeTree) → Has e.env j a → IsType states a)) × IsType states e.ty
  shape_parts h =
      let same : h.of ≡ point_at p.points e.point = same_Some h.of (point_at p.points e.point) (sym h.at ∙ there) in
      let n : params_of p h.of.rule ≡ params = ap (λ (d : PointData). params_of p d.rule) same ∙ (ap (params_of p) (sym rule_is) ∙ sym params_are) in
      ((subst (λ m. IsEnv m e.env) n h.env, λ j a c. subst (λ m. IsType m a) (sym states_are) (h.types j a c)), subst (λ m. IsType m e.ty) (sym states_are) h.ty)

-- one more of the types is in shape
pub all_more : (n : ℕ) (ts : List TypeTree) (k : ℕ) (t : TypeTree) → k < length ts → t ≡ get_or ts k t → AreAllTypes n (take k ts) → IsType n t → AreAllTypes n (take (k + 1) ts)
all_more n ts k t lt read before own a there = elim ((next_member ts k t a lt read).0 there) [
  | inl c ↦ before a c
  | inr e ↦ subst (λ z. IsType n z) (sym e) own
]
