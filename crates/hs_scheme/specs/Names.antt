-- The names of the parts of a scheme, as plain data.
use Rattle.std.specs.Prelude.{ℕ, List, refl}
use Rattle.std.specs.Coded.{Coded, code_by, coded×, coded_ℕ, coded_list}

-- names by number: of the rules, of each rule's parameters, of the terminals and of the states
pub record NamesData : Type 0 where
  pub rules : List (List ℕ)
  pub params : List (List (List ℕ))
  pub terminals : List (List ℕ)
  pub states : List (List ℕ)

abbrev pub coded_name : Coded (List ℕ)
coded_name = coded_list coded_ℕ

abbrev pub coded_names : Coded NamesData
coded_names =
    code_by (List (List ℕ) × (List (List (List ℕ)) × (List (List ℕ) × List (List ℕ))))
    (coded× (coded_list coded_name) (coded× (coded_list (coded_list coded_name)) (coded× (coded_list coded_name) (coded_list coded_name))))
    (λ n. (n.rules, (n.params, (n.terminals, n.states))))
    (λ p. record { rules = p.0; params = p.1.0; terminals = p.1.1.0; states = p.1.1.1 }) (λ _. refl)
