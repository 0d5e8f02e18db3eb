-- Orders in which parameters can be dropped, by ranks.
--     rank_of counts ranks f j      the rank of the parameter, as a list by the numbers of parameters tells; never, where it is none
--     IsLater rank n keep           no parameter of a rank below n stays
--     IsInOrder rank g low t        in what is left of the term, in rule g, where parameters of ranks below n went, and low
--                                   isn't below n, none of rank n is needed
use Rattle.std.specs.Prelude.{◌≡◌, ℕ, ◌<◌, ◌≤◌, Bool, true, false, nat_lt, List, slice_get, slice_index, slice_index_or, Some, if◌then◌else◌}
use Rattle.hs_scheme.specs.declared.term.Head.{Head}
use Rattle.hs_scheme.specs.declared.term.Head.TheVariants.{Var, Nt, Tm}
use Rattle.hs_scheme.specs.declared.term.Rule.{Rule}
use Rattle.hs_scheme.specs.Tree.{Tree, Trees}
use Rattle.hs_scheme.specs.sorting.Parameters.{parameter_of}
use Rattle.hs_passes.specs.Leaving.{Keep, keeps}
use Rattle.hs_passes.specs.Unused.{needs_at}
use Rattle.hs_passes.specs.Needing.{live, live_in}

abbrev pub never : ℕ
never = 2000000000

abbrev pub rank_of : List ℕ → List ℕ → ℕ → ℕ → ℕ
rank_of counts ranks f j = if nat_lt j (slice_index counts f) then slice_index_or ranks (parameter_of counts f j) never else never

-- the rank at which an argument behind this head goes
abbrev pub rank_behind : (ℕ → ℕ → ℕ) → Head → ℕ → ℕ
rank_behind rank (Var j) i = never
rank_behind rank (Nt f) i = rank f i
rank_behind rank (Tm a) i = never

abbrev pub IsLater : (ℕ → ℕ → ℕ) → ℕ → Keep → Type 0
IsLater rank n keep = (f j : ℕ) → rank f j < n → keep f j ≡ false

abbrev pub Unneeded : (ℕ → ℕ → ℕ) → ℕ → (ℕ → ℕ → Bool) → Type 0
Unneeded rank n need = (f j : ℕ) → need f j ≡ true → rank f j ≡ n → ⊥

abbrev pub IsHeadInOrder : (ℕ → ℕ → ℕ) → ℕ → ℕ → Head → ℕ → Type 0
IsHeadInOrder rank g low h given = (n : ℕ) → n ≤ low → n < never → Unneeded rank n (λ f j. needs_at g f j h given)

abbrev pub IsInOrder : (ℕ → ℕ → ℕ) → ℕ → ℕ → Tree Head → Type 0
IsInOrder rank g low t = (keep : Keep) (n : ℕ) → n ≤ low → n < never → IsLater rank n keep → Unneeded rank n (λ f j. live keep g f j t)

abbrev pub AreInOrder : (ℕ → ℕ → ℕ) → ℕ → ℕ → Head → Trees Head → Type 0
AreInOrder rank g low h ts = (keep : Keep) (n : ℕ) → n ≤ low → n < never → IsLater rank n keep → Unneeded rank n (λ f j. live_in keep g f j (keeps keep h) ts)

-- in each body
abbrev pub AllInOrder : (ℕ → ℕ → ℕ) → List Rule → ℕ → Type 0
AllInOrder rank rules i = (g : ℕ) (r : Rule) → g < i → slice_get rules g ≡ Some r → IsInOrder rank g never r.body
