-- What the values of the options say, from what each of them says.
use Rattle.std.proofs.Common.{◌≡◌, ◌∙◌, ap, sym, ℕ, Bool, false, List, Option, Some, None}
use Rattle.std.specs.Prelude.{◌&&◌, is_some, option_and_then, if◌then◌else◌}
use Rattle.hs_words.specs.declared.options.Settings.{Settings}
use Rattle.hs_words.specs.Words.{OptionsData, number_if, number_or, said_by_values}

abbrev bounded : Option ℕ → Option ℕ → Option ℕ → (ℕ → ℕ → ℕ → Settings) → Option Settings
bounded ws es ss of = option_and_then (λ w. option_and_then (λ e. option_and_then (λ s. Some (of w e s)) ss) es) ws

pub settings_said : (workers entries steps : Option (List ℕ)) (of said : ℕ → ℕ → ℕ → Settings) (w e s : ℕ)
    → Some w ≡ number_or 4 1 16 workers
    → Some e ≡ number_or 200000 1 1000000 entries
    → Some s ≡ number_or 1000000 1 4000000 steps
    → of w e s ≡ said w e s
    → Some (of w e s) ≡ bounded (number_or 4 1 16 workers) (number_or 200000 1 1000000 entries) (number_or 1000000 1 4000000 steps) said
settings_said workers entries steps of said w e s ws es ss same =
    ap (λ k. Some k) same ∙ (λ i. bounded (ws i) (es i) (ss i) said)

abbrev whole : Settings → Option ℕ → Option (List ℕ) → OptionsData
whole s n x = record { settings = s; cycle = n; file = x }

abbrev unless : Bool → OptionsData → Option OptionsData
unless both o = if both then None else Some o

abbrev joined : Option Settings → Option (Option ℕ) → Option (List ℕ) → Option OptionsData
joined ss ns x = option_and_then (λ s. option_and_then (λ n. unless (is_some n && is_some x) (whole s n x)) ns) ss

pub said_of : (settings : Option Settings) (cycle file x : Option (List ℕ)) (s : Settings) (n : Option ℕ)
    → Some s ≡ settings
    → Some n ≡ number_if 1 300 cycle
    → x ≡ file
    → is_some n && is_some x ≡ false
    → Some (whole s n x) ≡ said_by_values settings cycle file
said_of settings cycle file x s n ss ns xs one =
    sym (ap (λ (both : Bool). unless both (whole s n x)) one) ∙ (λ i. joined (ss i) (ns i) (xs i))
