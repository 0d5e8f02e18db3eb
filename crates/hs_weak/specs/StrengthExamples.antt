-- Worked examples of strength.
--     fewer_asked          {q0} -> q1 is as strong as {q0, q2} -> q1
--     more_asked           and not the other way round
--     stronger_argument    {{q0} -> q1} -> q2 is as strong as {{} -> q1} -> q2: arguments count the other way round
--     covers, not_covered  the entry with x:{} covers the one with x:{q1}, and not the other way round
use Rattle.std.specs.Prelude.{◌≡◌, refl, ℕ, zero, suc, List, [], ◌∷◌, Option, None, Contains}
use Rattle.std.proofs.Common.{sym, subst, arith}
use Rattle.hs_scheme.specs.Tree.{Trees, node, more, children}
use Rattle.hs_scheme.proofs.Lists.{none_in, here, later, only}
use Rattle.hs_table.specs.Types.{TypeTree, state, arrow}
use Rattle.hs_table.specs.Entries.{EntryData, set_at}
use Rattle.hs_weak.specs.Strength.{AsStrongAs, SomeAsStrongAs, same_state, stronger_arrow, some, Covers}

same_states : (q r : ℕ) → AsStrongAs (state q) (state r) → q ≡ r
same_states q r same_state = refl

-- the types of a set of one type are asked
one_asked : (b : TypeTree) (rest : List TypeTree) (a c : TypeTree) → AsStrongAs b a → Contains (a ∷ []) c → SomeAsStrongAs (b ∷ rest) c
one_asked b rest a c h m = some b (here b rest) (subst (λ (t : TypeTree). AsStrongAs b t) (sym (only a c m)) h)

pub fewer_asked : AsStrongAs (arrow (state 0 ∷ []) (state 1)) (arrow (state 0 ∷ state 2 ∷ []) (state 1))
fewer_asked = stronger_arrow same_state (λ a m. one_asked (state 0) (state 2 ∷ []) (state 0) a same_state m)

lacks : SomeAsStrongAs (state 0 ∷ []) (state 2) → ⊥
lacks (some b m h) = let e : 0 ≡ 2 = same_states 0 2 (subst (λ (t : TypeTree). AsStrongAs t (state 2)) (only (state 0) b m) h) in omega (arith, e)

asked_of : {t u : TypeTree} {ss rs : Trees (Option ℕ)} → AsStrongAs (node None (more t ss)) (node None (more u rs)) → (a : TypeTree) → Contains (children ss) a → SomeAsStrongAs (children rs) a
asked_of (stronger_arrow h f) = f

pub more_asked : AsStrongAs (arrow (state 0 ∷ state 2 ∷ []) (state 1)) (arrow (state 0 ∷ []) (state 1)) → ⊥
more_asked h = lacks (asked_of h (state 2) (later (state 0) (state 2) (state 2 ∷ []) (here (state 2) [])))

pub stronger_argument : AsStrongAs (arrow (arrow (state 0 ∷ []) (state 1) ∷ []) (state 2)) (arrow (arrow [] (state 1) ∷ []) (state 2))
stronger_argument = stronger_arrow same_state (λ a m. one_asked (arrow [] (state 1)) [] (arrow (state 0 ∷ []) (state 1)) a (stronger_arrow same_state (λ b k. absurd (none_in b k))) m)

abbrev pub asks_nothing : EntryData
asks_nothing = record { point = 4; env = [] ∷ []; ty = state 1 }

abbrev pub asks_q1 : EntryData
asks_q1 = record { point = 4; env = (state 1 ∷ []) ∷ []; ty = state 1 }

nothing_asked : (j : ℕ) (a : TypeTree) → Contains (set_at ([] ∷ []) j) a → ⊥
nothing_asked zero a m = none_in a m
nothing_asked (suc j) a m = none_in a m

pub covers : Covers AsStrongAs asks_nothing asks_q1
covers = record { point = refl; ty = same_state; env = λ j a m. absurd (nothing_asked j a m) }

pub not_covered : Covers AsStrongAs asks_q1 asks_nothing → ⊥
not_covered h = let k = h.env 0 (state 1) (here (state 1) []) in none_in k.0 k.1.0
