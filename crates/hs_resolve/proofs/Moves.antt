-- The numbers of transitions, one after another, which later names don't change.
use Rattle.std.proofs.Common.{◌≡◌, sym, ◌∙◌, ap, ℕ, ◌+◌, List, [], ◌∷◌, ◌++◌, take, map, slice_get, Some}
use Rattle.std.proofs.lemmas.List.{append-nil}
use Rattle.hs_scheme.specs.acceptance.Transition.{TransitionData}
use Rattle.hs_reader.specs.declared.raw.RawName.{RawName}
use Rattle.hs_reader.specs.Raw.{Transition}
use Rattle.hs_resolve.specs.Names.{number, with_names}
use Rattle.hs_resolve.specs.Numbering.{transition_of}
use Rattle.hs_resolve.specs.Moves.{IsMove, AreMoves}
use Rattle.hs_resolve.proofs.Growing.{behind_all, all-behind}
use Rattle.hs_resolve.proofs.Lists.{pushed-more}

pub number-later : (names xs : List (List ℕ)) (x : List ℕ) (k : ℕ) → ((later : List (List ℕ)) → k ≡ number (names ++ later) x) → (later : List (List ℕ)) → k ≡ number (with_names names xs ++ later) x
number-later names xs x k is later = is (behind_all names xs later) ∙ ap (λ all. number all x) (all-behind names xs later)

grown : (xs old new later : List (List ℕ)) → new ≡ with_names old xs → old ++ behind_all old xs later ≡ new ++ later
grown xs old new later grows = all-behind old xs later ∙ ap (λ ns. ns ++ later) (sym grows)

pub numbers-more : (names : List RawName) (n : ℕ) (x : RawName) (xs old_states new_states : List (List ℕ)) (old new : List ℕ) (k : ℕ) → slice_get names n ≡ Some x → new_states ≡ with_names old_states xs
    → ((later : List (List ℕ)) → old ≡ map (λ q. number (old_states ++ later) q.text) (take n names)) → ((later : List (List ℕ)) → k ≡ number (new_states ++ later) x.text)
    → new ≡ old ++ k ∷ [] → (later : List (List ℕ)) → new ≡ map (λ q. number (new_states ++ later) q.text) (take (n + 1) names)
numbers-more names n x xs old_states new_states old new k at grows was is e later =
    pushed-more (λ q. number (new_states ++ later) q.text) names n x old new k at
    (was (behind_all old_states xs later) ∙ ap (λ all. map (λ (q : RawName). number all q.text) (take n names)) (grown xs old_states new_states later grows)) e (is later)

pub moves-more : (ts : List Transition) (n : ℕ) (t : Transition) (xs ys old_states new_states old_terminals new_terminals : List (List ℕ)) (old new : List TransitionData) (move : TransitionData)
    → slice_get ts n ≡ Some t → new_states ≡ with_names old_states xs → new_terminals ≡ with_names old_terminals ys → AreMoves old_states old_terminals (take n ts) old
    → IsMove new_states new_terminals t move → new ≡ old ++ move ∷ [] → AreMoves new_states new_terminals (take (n + 1) ts) new
moves-more ts n t xs ys old_states new_states old_terminals new_terminals old new move at states terminals was is e = λ p a.
    pushed-more (transition_of (new_states ++ p) (new_terminals ++ a)) ts n t old new move at
    (was (behind_all old_states xs p) (behind_all old_terminals ys a)
    ∙ (λ i. map (transition_of (grown xs old_states new_states p states i) (grown ys old_terminals new_terminals a terminals i)) (take n ts))) e (is p a)

pub moves-all : (states terminals : List (List ℕ)) (ts : List Transition) (moves : List TransitionData) → AreMoves states terminals ts moves → moves ≡ map (transition_of states terminals) ts
moves-all states terminals ts moves are = are [] [] ∙ (λ i. map (transition_of (append-nil states i) (append-nil terminals i)) ts)
