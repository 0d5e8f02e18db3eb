-- A scheme has one problem at most, by what is asked for.
use Rattle.std.proofs.Common.{◌≡◌, ap, subst}
use Rattle.hs_scheme.specs.sorting.Unsorted.{UnsortedData}
use Rattle.hs_scheme.specs.sorting.Sorted.{SortedData}
use Rattle.hs_scheme.specs.Problem.{ProblemData}
use Rattle.hs_front.specs.Problems.{IsSortedFormOf, HasManyPoints, HasMuchFlow}
use Rattle.hs_front.proofs.OneProblem.{one_form, problem_is, few_points, little_flow, one_limit}
use Rattle.hs_app.specs.Problems.{Asked, form_asked, OfForm, HasProblem}

-- a scheme has one form that is saturated
one_asked : (asked : Asked) (u : UnsortedData) (s t : SortedData) → IsSortedFormOf u s → IsSortedFormOf u t → form_asked asked s ≡ form_asked asked t
one_asked asked u s t is other = ap (λ (x : SortedData). form_asked asked x) (one_form u s t is other)

pub one_problem : (asked : Asked) (u : UnsortedData) (p q : ProblemData) → HasProblem asked u p → HasProblem asked u q → p ≡ q
one_problem asked u p q is other =
    problem_is (form_asked asked is.form) (form_asked asked other.form) p q (one_asked asked u is.form other.form is.of other.of) is.holds other.holds

module _ (asked : Asked) (u : UnsortedData) (p : ProblemData) (is : HasProblem asked u p) where
  pub not_many_points : OfForm asked u HasManyPoints → ⊥
  not_many_points h =
      few_points (form_asked asked is.form) p is.holds
      (subst (λ (s : SortedData). HasManyPoints s) (one_asked asked u h.form is.form h.of is.of) h.holds)

  pub not_much_flow : OfForm asked u HasMuchFlow → ⊥
  not_much_flow h =
      little_flow (form_asked asked is.form) p is.holds
      (subst (λ (s : SortedData). HasMuchFlow s) (one_asked asked u h.form is.form h.of is.of) h.holds)

pub many_not_much : (asked : Asked) (u : UnsortedData) → OfForm asked u HasManyPoints → OfForm asked u HasMuchFlow → ⊥
many_not_much asked u h k =
    one_limit (form_asked asked k.form) (subst (λ (s : SortedData). HasManyPoints s) (one_asked asked u h.form k.form h.of k.of) h.holds) k.holds
