-- Worked examples of what follows: `S -> Tw a c. Tw f x -> f (f x).` with `q0 a -> q1. q1 a -> q2. q2 a -> q2. q0 c -> . q1 c -> .`
--     c_follows      point 2, `c`, is rejected in q2 by nothing but the lack of a transition
--     x_follows      point 5, `x`, is rejected in q2 where x is, since point 2 may stand for x
use Rattle.std.specs.Prelude.{◌≡◌, refl, ℕ, zero, suc, ◌<◌, List, [], ◌∷◌, length, slice_get, Some, None, Contains, ◌↔◌, ◌⊎◌, AllPairs}
use Rattle.std.proofs.Common.{sym, ◌∙◌, ap, subst, arith, inl, inr}
use Rattle.hs_scheme.specs.declared.term.Head.TheVariants.{Var, Tm}
use Rattle.hs_scheme.specs.flow.Points.{points_of}
use Rattle.hs_scheme.specs.sorting.Sorting.{o, arrow}
use Rattle.hs_scheme.specs.Problem.{ProblemData}
use Rattle.hs_table.specs.declared.support.HeadBy.TheVariants.{Terminal, Param}
use Rattle.hs_table.specs.Types.{TypeTree, state, IsSet}
use Rattle.hs_table.specs.Entries.{Env, EntryData, set_at, Has, IsEnv, InShape}
use Rattle.hs_table.specs.Follows.{HeadHas, AnyHas, done, FollowsBy}
use Rattle.hs_scheme.specs.acceptance.RunExamples.{rules, transitions}

abbrev pub example : ProblemData
example = record {
  sorted = record {
    scheme = record { rules = rules; ranks = 1 ∷ 0 ∷ [] };
    automaton = record { states = 3; transitions = transitions };
    names = record { rules = []; params = []; terminals = []; states = [] };
    sorts = o ∷ arrow (arrow o o) (arrow o o) ∷ [];
  };
  points = points_of rules;
  flow = record { pairs = record { rule = 1; param = 0; point = 1 } ∷ record { rule = 1; param = 1; point = 2 } ∷ []; heads = [] };
}

abbrev pub at_c : EntryData
at_c = record { point = 2; env = []; ty = state 2 }

abbrev pub at_x : EntryData
at_x = record { point = 5; env = [] ∷ (state 2 ∷ []) ∷ []; ty = state 2 }

-- a list of one type is a set, and so is that of none
one_is_set : (t : TypeTree) → IsSet (t ∷ [])
one_is_set t zero zero d before below = absurd (omega (arith, before))
one_is_set t zero (suc j) d before below = absurd (omega (arith, below))
one_is_set t (suc i) zero d before below = absurd (omega (arith, before))
one_is_set t (suc i) (suc j) d before below = absurd (omega (arith, below))

none_is_set : IsSet []
none_is_set i j d before below = absurd (omega (arith, below))

no_sets : IsEnv 0 []
no_sets = record { long = refl; sets = λ j. none_is_set }

nothing_has : (j : ℕ) (a : TypeTree) → Has [] j a → ⊥
nothing_has j a (k, below, is) = absurd (omega (arith, below))

pub c_follows : FollowsBy example [] (record { head = Terminal 2 None; args = [] }) at_c
c_follows = record {
  of = record { rule = 0; head = Tm 1; args = [] };
  at = refl;
  sets = [];
  head = (omega arith, record { moves = refl; is = refl });
  chosen = [];
  are = done;
  env = no_sets;
  union = λ j a below. absurd (omega (arith, below));
}

c_in_shape : InShape example at_c
c_in_shape = record {
  of = record { rule = 0; head = Tm 1; args = [] };
  at = refl;
  env = no_sets;
  types = λ j a has. absurd (nothing_has j a has);
  ty = (omega arith, refl);
}

abbrev env_of_x : Env
env_of_x = [] ∷ (state 2 ∷ []) ∷ []

sets_of_x : (j : ℕ) → IsSet (set_at env_of_x j)
sets_of_x zero = none_is_set
sets_of_x (suc zero) = one_is_set (state 2)
sets_of_x (suc (suc j)) = none_is_set

asks : (j : ℕ) (a : TypeTree) → j < 2 → Has env_of_x j a → HeadHas (Var 1) (state 2) j a ⊎ AnyHas [] j a
asks zero a below (k, lt, is) = absurd (omega (arith, lt))
asks (suc zero) a below (zero, lt, is) = inl (refl, sym is)
asks (suc zero) a below (suc k, lt, is) = absurd (omega (arith, lt))
asks (suc (suc j)) a below has = absurd (omega (arith, below))

asked : (j : ℕ) (a : TypeTree) → j < 2 → HeadHas (Var 1) (state 2) j a ⊎ AnyHas [] j a → Has env_of_x j a
asked zero a below (inl (e, is)) = absurd (omega (arith, e))
asked (suc zero) a below (inl (e, is)) = (0, omega arith, sym is)
asked (suc (suc j)) a below (inl (e, is)) = absurd (omega (arith, below))
asked j a below (inr none) = absurd none

pub x_follows : FollowsBy example (at_c ∷ []) (record { head = Param 1 0; args = [] }) at_x
x_follows = record {
  of = record { rule = 1; head = Var 1; args = [] };
  at = refl;
  sets = [];
  head = (refl, record { entry = at_c; holds = record { at = refl; shape = c_in_shape }; flows = (1, omega arith, refl); is = refl });
  chosen = [];
  are = done;
  env = record { long = refl; sets = sets_of_x };
  union = λ j a below. (asks j a below, asked j a below);
}
