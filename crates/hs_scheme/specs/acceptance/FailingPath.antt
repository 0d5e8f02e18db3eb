-- A path at whose end an automaton fails, as plain data: each terminal on the way with the number of a child, counted from 1, the
-- terminal at the end with the state in which it is read, and how many steps lead there.
use Rattle.std.specs.Prelude.{ℕ, List, refl}
use Rattle.std.specs.Coded.{Coded, code_by, coded×, coded_ℕ, coded_list}

pub record FailingPathData : Type 0 where
  pub steps : List (ℕ × ℕ)
  pub last : ℕ
  pub state : ℕ
  pub used : ℕ

abbrev pub coded_failing_path : Coded FailingPathData
coded_failing_path =
    code_by (List (ℕ × ℕ) × (ℕ × (ℕ × ℕ))) (coded× (coded_list (coded× coded_ℕ coded_ℕ)) (coded× coded_ℕ (coded× coded_ℕ coded_ℕ)))
    (λ p. (p.steps, (p.last, (p.state, p.used)))) (λ p. record { steps = p.0; last = p.1.0; state = p.1.1.0; used = p.1.1.1 }) (λ _. refl)
