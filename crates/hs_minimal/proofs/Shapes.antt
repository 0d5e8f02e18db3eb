-- What weakly follows is in shape.
use Rattle.std.proofs.Common.{refl, sym, subst, ℕ, ◌<◌, List, [], length, replicate, Option, Some, None, inl, inr}
use Rattle.hs_scheme.specs.declared.term.Head.{Head}
use Rattle.hs_scheme.specs.declared.term.Head.TheVariants.{Var, Nt, Tm}
use Rattle.hs_scheme.specs.Problem.{ProblemData}
use Rattle.hs_scheme.specs.Tree.{node, none, more}
use Rattle.hs_table.specs.declared.support.HeadBy.{HeadBy}
use Rattle.hs_table.specs.declared.support.HeadBy.TheVariants.{Terminal, Rule, Param}
use Rattle.hs_table.specs.Types.{TypeTree, state, arrows, IsType}
use Rattle.hs_table.specs.Entries.{Env, EntryData, InShape}
use Rattle.hs_table.specs.Follows.{IsHeadType, IsTerminalType, rank_of, HeadHas, AnyHas}
use Rattle.hs_table_laws.proofs.Arrows.{has_within}
use Rattle.hs_table_laws.proofs.Shapes.{LeadsWithin, arrows_shape, result_shape, empties_are_sets, one_full_are_sets, next_within}
use Rattle.hs_weak.specs.Strength.{AsStrongAs}
use Rattle.hs_weak.specs.Reads.{last_state}
use Rattle.hs_weak.specs.Weak.{WeaklyChosen, done, next_argument, choose, WeaklyFollows}

module _ (p : ProblemData) (E : List EntryData) (leads : LeadsWithin p.sorted.automaton) where
  abbrev n : ℕ
  n = p.sorted.automaton.states

  abbrev Fits : TypeTree → Type 0
  Fits t = IsType n t

  terminal_shape : (a q : ℕ) (child : Option ℕ) (ty : TypeTree) → q < n → IsTerminalType p a q child ty → Fits ty
  terminal_shape a q None ty lt x = subst Fits (sym x.is) (arrows_shape n (replicate (rank_of p a) []) (state q) (empties_are_sets n (rank_of p a)) (lt, refl))
  terminal_shape a q (Some child) ty lt x =
      subst Fits (sym x.is) (arrows_shape n _ (state q) (one_full_are_sets n (length x.qs) x.place x.r (next_within p.sorted.automaton q a x.qs x.place x.r leads x.moves x.at)) (lt, refl))

  pub head_shape : (rule : ℕ) (head : Head) (by : HeadBy) (ty : TypeTree) → IsHeadType p E rule head by ty → Fits ty
  head_shape rule (Tm a) (Terminal q child) ty x = terminal_shape a q child ty x.0 x.1
  head_shape rule (Tm a) (Rule place) ty x = absurd x
  head_shape rule (Tm a) (Param y place) ty x = absurd x
  head_shape rule (Nt f) (Terminal q child) ty x = absurd x
  head_shape rule (Nt f) (Rule place) ty x =
      subst Fits (sym x.is) (arrows_shape n x.entry.env (state x.q) (record { sets = x.holds.shape.env.sets; types = x.holds.shape.types }) (subst Fits x.is_state x.holds.shape.ty))
  head_shape rule (Nt f) (Param y place) ty x = absurd x
  head_shape rule (Var j) (Terminal q child) ty x = absurd x
  head_shape rule (Var j) (Rule place) ty x = absurd x
  head_shape rule (Var j) (Param y place) ty x = subst Fits (sym x.1.is) x.1.holds.shape.ty

  pub asked_shape : (head : Head) (ty : TypeTree) (j : ℕ) (a : TypeTree) → Fits ty → HeadHas head ty j a → Fits a
  asked_shape (Var x) ty j a type (here, is) = subst Fits (sym is) type
  asked_shape (Nt f) ty j a type x = absurd x
  asked_shape (Tm b) ty j a type x = absurd x

  chosen_shape : {i : ℕ} {us : List ℕ} {ss : Env} {args : List (ℕ × ℕ)} {es : List EntryData} → WeaklyChosen AsStrongAs p E i us ss args es → (j : ℕ) (a : TypeTree) → AnyHas es j a → Fits a
  chosen_shape done j a x = absurd x
  chosen_shape (next_argument c) j a x = chosen_shape c j a x
  chosen_shape (choose at point ty c) j a (inl x) = at.shape.types j a x
  chosen_shape (choose at point ty c) j a (inr x) = chosen_shape c j a x

  pub weakly_shape : (e : EntryData) → WeaklyFollows AsStrongAs p E e → InShape p e
  weakly_shape e (s, f) =
      let type = head_shape f.of.rule f.of.head s.head (arrows f.sets e.ty) f.head in
      record {
        of = f.of;
        at = f.at;
        env = f.env;
        types = λ j a x. elim ((f.union j a (has_within e.env j a x)).0 x) [
          | inl own ↦ asked_shape f.of.head (arrows f.sets e.ty) j a type own
          | inr any ↦ chosen_shape f.are j a any
        ];
        ty = result_shape n f.sets e.ty type;
      }

-- the last state of a type is one of the states
pub last_within : (n : ℕ) (t : TypeTree) → IsType n t → last_state t < n
last_within n (node (Some q) us) h = h.0
last_within n (node None none) h = absurd h
last_within n (node None (more t us)) h = last_within n t h.0
