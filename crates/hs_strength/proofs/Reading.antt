-- What is read of an interner stands for the parts of its trees.
use Rattle.std.proofs.Common.{◌≡◌, sym, ◌∙◌, ap, ℕ, zero, suc, ◌<◌, ◌≤◌, Bool, nat_eq, List, [], ◌∷◌, length, map, get_or, IsTrue, ◌↔◌, arith}
use Rattle.std.proofs.lemmas.List.{length-map}
use Rattle.hs_table.specs.Types.{TypeTree}
use Rattle.hs_table.specs.Entries.{Env, set_at}
use Rattle.hs_weak.specs.Strength.{AsStrongAs, AsksEach}
use Rattle.hs_weak.proofs.ComparingLemmas.{missing_asks}

module _ (f : ℕ → List TypeTree) where
  mapped_at : (ids : List ℕ) (k s : ℕ) → k < length ids → s ≡ get_or ids k s → set_at (map f ids) k ≡ f s
  mapped_at [] k s lt is = absurd (omega (arith, lt))
  mapped_at (i ∷ ids) zero s lt is = ap f (sym is)
  mapped_at (i ∷ ids) (suc k) s lt is = mapped_at ids k s (omega (arith, lt)) is

  -- the set at a parameter
  pub set_read_at : (ids : List ℕ) (E : Env) (k s : ℕ) → map f ids ≡ E → k < length ids → s ≡ get_or ids k s → set_at E k ≡ f s
  set_read_at ids E k s e lt is = sym (ap (λ (z : Env). set_at z k) e) ∙ mapped_at ids k s lt is

  pub long_as : (ids : List ℕ) (E : Env) → map f ids ≡ E → length E ≡ length ids
  long_as ids E e = ap (λ (z : Env). length z) (sym e) ∙ length-map ids f

  -- a set that is missing asks of the other set just where it is empty
  pub missing_set : (g : ℕ → TypeTree) (ids ms : List ℕ) (E : Env) (r : List TypeTree) (k : ℕ) (b : Bool) → map f ids ≡ E → map g ms ≡ r → length ids ≤ k → b ≡ nat_eq (length ms) 0
      → IsTrue b ↔ AsksEach AsStrongAs (set_at E k) r
  missing_set g ids ms E r k b e d past is =
      let long = long_as ids E e in
      let many : length ms ≡ length r = sym (length-map ms g) ∙ ap (λ (z : List TypeTree). length z) d in
      missing_asks E k r b (omega (arith, long, past)) (is ∙ ap (λ n. nat_eq n 0) many)
