-- The supports of a supported table, as a list.
use Rattle.std.proofs.Common.{◌≡◌, refl, subst, ap, ℕ, zero, suc, ◌+◌, List, [], ◌∷◌, length, take, slice_get, Some, arith}
use Rattle.std.proofs.lemmas.Option.{same_Some}
use Rattle.hs_scheme.specs.Problem.{ProblemData}
use Rattle.hs_table.specs.Entries.{EntryData}
use Rattle.hs_table.specs.Follows.{Support, FollowsBy, Follows}
use Rattle.hs_table.specs.Tables.{IsSupportedTable, HasSupports}

module _ (p : ProblemData) (T : List EntryData) where
  -- each entry of a list follows from the front of the table, the first of them from its first n
  abbrev FollowFrom : ℕ → List EntryData → Type 0
  FollowFrom n es = (i : ℕ) (e : EntryData) → slice_get es i ≡ Some e → Follows p (take (n + i) T) e

  behind_first : (n : ℕ) (e : EntryData) (es : List EntryData) → FollowFrom n (e ∷ es) → FollowFrom (suc n) es
  behind_first n e es f i d at =
      let same : n + suc i ≡ suc n + i = omega arith in
      subst (λ k. Follows p (take k T) d) same (f (suc i) d at)

  abbrev supports_of : (n : ℕ) (es : List EntryData) → FollowFrom n es → List Support
  supports_of n [] f = []
  supports_of n (e ∷ es) f = (f 0 e refl).0 ∷ supports_of (suc n) es (behind_first n e es f)

  each_has_one : (n : ℕ) (es : List EntryData) (f : FollowFrom n es) → length (supports_of n es f) ≡ length es
  each_has_one n [] f = refl
  each_has_one n (e ∷ es) f = ap suc (each_has_one (suc n) es (behind_first n e es f))

  each_follows : (n : ℕ) (es : List EntryData) (f : FollowFrom n es) (i : ℕ) (s : Support) (e : EntryData)
      → slice_get (supports_of n es f) i ≡ Some s → slice_get es i ≡ Some e → FollowsBy p (take (n + i) T) s e
  each_follows n [] f i s e at_s at = absurd (cc)
  each_follows n (d ∷ es) f zero s e at_s at =
      subst (λ (x : EntryData). FollowsBy p (take (n + 0) T) s x) (same_Some d e at)
      (subst (λ (x : Support). FollowsBy p (take (n + 0) T) x d) (same_Some (f 0 d refl).0 s at_s) (f 0 d refl).1)
  each_follows n (d ∷ es) f (suc i) s e at_s at =
      let same : suc n + i ≡ n + suc i = omega arith in
      subst (λ k. FollowsBy p (take k T) s e) same (each_follows (suc n) es (behind_first n d es f) i s e at_s at)

  pub with_supports : IsSupportedTable p T → (supports : List Support) × HasSupports p T supports
  with_supports supported =
      let f : FollowFrom 0 T = λ i e at. let same : i ≡ 0 + i = omega arith in subst (λ k. Follows p (take k T) e) same (supported.follows i e at) in (
        supports_of 0 T f,
        record {
          distinct = supported.distinct;
          each = each_has_one 0 T f;
          follows = λ i s e at_s at. let same : 0 + i ≡ i = omega arith in subst (λ k. FollowsBy p (take k T) s e) same (each_follows 0 T f i s e at_s at);
        },
      )
