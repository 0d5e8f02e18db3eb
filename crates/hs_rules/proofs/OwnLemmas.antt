-- What a head itself asks of the parameters.
use Rattle.std.proofs.Common.{ℕ, [], ◌∷◌, replicate, set}
use Rattle.hs_scheme.specs.declared.term.Head.TheVariants.{Var, Nt, Tm}
use Rattle.hs_table.specs.Types.{TypeTree}
use Rattle.hs_table_laws.proofs.Sets.{one_set}
use Rattle.hs_table_laws.proofs.Arrows.{length-empties, empties_set, empties_has, one_long, one_sets, one_has}
use Rattle.hs_rules.specs.Slots.{IsOwn}

pub own_body : (n f : ℕ) (t : TypeTree) → IsOwn n (Nt f) t (replicate n [])
own_body n f t = record { is_env = record { long = length-empties n; sets = empties_set n }; has = λ j a lt. (λ h. empties_has n j a h, λ h. absurd h) }

pub own_terminal : (n b : ℕ) (t : TypeTree) → IsOwn n (Tm b) t (replicate n [])
own_terminal n b t = record { is_env = record { long = length-empties n; sets = empties_set n }; has = λ j a lt. (λ h. empties_has n j a h, λ h. absurd h) }

pub own_param : (n x : ℕ) (t : TypeTree) → IsOwn n (Var x) t (set (replicate n []) x (t ∷ []))
own_param n x t = record { is_env = record { long = one_long n x (t ∷ []); sets = λ j. one_sets n x j (t ∷ []) (one_set t) }; has = λ j a lt. one_has n x j t a lt }
