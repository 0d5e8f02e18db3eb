-- A place in the lists of what an environment asks for, one set after another.
use Rattle.std.proofs.Common.{◌≡◌, refl, sym, ◌∙◌, ap, subst, ℕ, ◌+◌, ◌<◌, ◌≤◌, List, [], length, get_or, map, arith, inl, inr, Contains}
use Rattle.std.proofs.lemmas.Bool.{cases_lt}
use Rattle.std.proofs.lemmas.List.{get_or-map, length-map}
use Rattle.hs_table.specs.Types.{TypeTree}
use Rattle.hs_table.specs.Entries.{Env, Has, set_at}
use Rattle.hs_table_laws.proofs.Arrows.{has_within}
use Rattle.hs_types.specs.Interned.{InternerData, set_of_id}
use Rattle.hs_replica.specs.declared.key.Key.{Key}
use Rattle.hs_replica.specs.Places.{Question, here, typed, asks, takes}
use Rattle.hs_replica.specs.Index.{Gains, ListsAll, AsksAt, AsksIn}
use Rattle.hs_replica.proofs.SetLemmas.{gains_nothing, gains_then, still_listed}

-- what the first n sets ask for is listed
pub record EnvSoFar (ids : InternerData) (point : ℕ) (env : Env) (place n : ℕ) (old new : Key → List ℕ) : Type 0 where
  pub gains : Gains ids (AsksIn point env) place old new
  pub all : (j : ℕ) → j < n → ListsAll ids (AsksAt point j (set_at env j)) place new

pub env_none : (ids : InternerData) (point : ℕ) (env : Env) (place : ℕ) (old : Key → List ℕ) → EnvSoFar ids point env place 0 old old
env_none ids point env place old = record { gains = gains_nothing ids (AsksIn point env) place old; all = λ j lt. absurd (omega arith) }

at_in : (point n : ℕ) (env : Env) (s : List TypeTree) → s ≡ set_at env n → (q : Question) → AsksAt point n s q → AsksIn point env q
at_in point n env s is (asks p j a) h = (h.0, subst (λ (k : ℕ). Has env k a) (sym h.1.0) (subst (λ (r : List TypeTree). Contains r a) is h.1.1))
at_in point n env s is (here p) h = absurd h
at_in point n env s is (typed p a) h = absurd h
at_in point n env s is (takes p j a) h = absurd h

module _ (ids : InternerData) (sets : List ℕ) (env : Env) (is : map (set_of_id ids) sets ≡ env) (point place : ℕ) where
  set_is : (n s : ℕ) → n < length sets → s ≡ get_or sets n s → set_of_id ids s ≡ set_at env n
  set_is n s lt at = ap (set_of_id ids) at ∙ (sym (get_or-map (set_of_id ids) sets n s [] lt) ∙ ap (λ (e : Env). set_at e n) is)

  module _ (n s : ℕ) (lt : n < length sets) (at : s ≡ get_or sets n s) (old mid new : Key → List ℕ) (was : EnvSoFar ids point env place n old mid)
      (gains : Gains ids (AsksAt point n (set_of_id ids s)) place mid new) where
    pub env_stopped : Gains ids (AsksIn point env) place old new
    env_stopped = gains_then ids (AsksIn point env) (AsksAt point n (set_of_id ids s)) (AsksIn point env) place old mid new (λ q h. h) (at_in point n env (set_of_id ids s) (set_is n s lt at)) was.gains gains

    pub env_more : ListsAll ids (AsksAt point n (set_of_id ids s)) place new → EnvSoFar ids point env place (n + 1) old new
    env_more all = record {
      gains = env_stopped;
      all = λ j less. elim (cases_lt j n) [
        | inl before ↦ λ q h. still_listed ids (AsksAt point n (set_of_id ids s)) place place mid new q gains (was.all j before q h)
        | inr last ↦
            let same : n ≡ j = omega arith in
            subst (λ (k : ℕ). ListsAll ids (AsksAt point k (set_at env k)) place new) same (subst (λ (r : List TypeTree). ListsAll ids (AsksAt point n r) place new) (set_is n s lt at) all)
      ];
    }

  pub env_all : (n : ℕ) (old new : Key → List ℕ) → length sets ≤ n → EnvSoFar ids point env place n old new → ListsAll ids (AsksIn point env) place new
  env_all n old new long f (asks p j a) h =
      let lt : j < n = omega (arith, has_within env j a h.1, ap length is, length-map sets (set_of_id ids)) in
      f.all j lt (asks p j a) (h.0, (refl, h.1))
  env_all n old new long f (here p) h = absurd h
  env_all n old new long f (typed p a) h = absurd h
  env_all n old new long f (takes p j a) h = absurd h
