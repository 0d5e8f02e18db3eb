-- A transition as plain data.
use Rattle.std.specs.Prelude.{ℕ, List, refl}
use Rattle.std.specs.Coded.{Coded, code_by, coded×, coded_ℕ, coded_list}

-- in state `from`, at a node with this terminal, the children are read in the states `to`
pub record TransitionData : Type 0 where
  pub from : ℕ
  pub terminal : ℕ
  pub to : List ℕ

abbrev pub coded_transition : Coded TransitionData
coded_transition =
    code_by (ℕ × (ℕ × List ℕ)) (coded× coded_ℕ (coded× coded_ℕ (coded_list coded_ℕ))) (λ t. (t.from, (t.terminal, t.to)))
    (λ p. record { from = p.0; terminal = p.1.0; to = p.1.1 }) (λ _. refl)
