-- One round after another.
use Rattle.std.proofs.Common.{◌≡◌, ◌≢◌, refl, sym, ◌∙◌, subst, ℕ, suc, ◌+◌, ◌<◌, ◌≤◌, List, [], ◌++◌, length, get_or, take, slice_get, Some, arith, Contains, AllPairs, inl, inr}
use Rattle.std.proofs.lemmas.List.{take_all, take-append-le, length-append}
use Rattle.std.proofs.lemmas.List.Elements.{Contains-append_left, Contains-append_right, Contains-append_cases, Contains-get_or}
use Rattle.std.proofs.lemmas.Bool.{cases_lt}
use Rattle.hs_scheme.specs.Problem.{ProblemData}
use Rattle.hs_scheme.proofs.Lists.{none_in, at_append, Contains-at, place-append, pairs_append}
use Rattle.hs_table.specs.Entries.{EntryData}
use Rattle.hs_table.specs.Follows.{Support, FollowsBy, Follows, premises}
use Rattle.hs_table.specs.Tables.{IsLeastTable}
use Rattle.hs_table_laws.proofs.Places.{place_of, to_take, within_from}
use Rattle.hs_table_laws.proofs.Growing.{follows_found, by_take}
use Rattle.hs_history.proofs.Premises.{greatest, by_none, by_greatest, premise_below}
use Rattle.hs_rank.specs.Canonical.{IsRound, HasRank, IsBefore, IsByRank}
use Rattle.hs_rank.specs.Following.{HasSeedBy, HasPlaceBy}
use Rattle.hs_rank.specs.Ranked.{HoldsRound, IsNextRound, IsAtRound}
use Rattle.hs_rank.proofs.Rounds.{round_same, round_later, not_both}

module _ (p : ProblemData) where
  pub nothing_ranked : HoldsRound p 0 []
  nothing_ranked = record {
    round = λ e there. none_in e there;
    ranked = λ e there. absurd (none_in e there);
    order = λ i j d lt below. absurd (omega (arith, below));
    supported = record {
      distinct = λ i j d lt below. absurd (omega (arith, below));
      follows = λ i e at. absurd (none_in e (Contains-at [] i e at));
    };
  }

  pub distinct_in_order : (T : List EntryData) → IsByRank p T → AllPairs (λ a b. a ≢ b) T
  distinct_in_order T order i j d lt below same =
      let own = subst (λ x. IsBefore p x (get_or T j d)) same (order i j d lt below) in not_both p (get_or T j d) (get_or T j d) own own

module _ (p : ProblemData) (n : ℕ) (log fresh : List EntryData) (a : HoldsRound p n log) (b : IsNextRound p log fresh) where
  round : IsRound p (suc n) (log ++ fresh)
  round = (
    log,
    (
      a.round,
      λ e. (
        λ c. elim (Contains-append_cases log fresh e c) [
          | inl was ↦ inl was
          | inr more ↦ inr (b.follow e more)
        ],
        λ k. elim k [
          | inl was ↦ Contains-append_left log fresh e was
          | inr follows ↦ b.all e follows
        ],
      ),
    ),
  )

  pub fresh_rank : (e : EntryData) → Contains fresh e → HasRank p (suc n) e
  fresh_rank e there = record {
    round = log ++ fresh;
    is = round;
    has = Contains-append_right log fresh e there;
    first = λ m E lt is has. b.new e there (round_later p m n E log (omega (arith, lt)) is a.round e has);
  }

  cross : (d e : EntryData) → Contains log d → Contains fresh e → IsBefore p d e
  cross d e was there =
      let r = a.ranked d was in
      record { m = r.0; n = suc n; one = r.1.0; other = fresh_rank e there; order = inl (omega (arith, r.1.1)) }

  order : IsByRank p (log ++ fresh)
  order =
      let own : AllPairs (IsBefore p) fresh = λ i j d lt below. record {
        m = suc n;
        n = suc n;
        one = fresh_rank (get_or fresh i d) (Contains-get_or fresh i d (omega (arith, lt, below)));
        other = fresh_rank (get_or fresh j d) (Contains-get_or fresh j d below);
        order = inr (refl, b.ascending i j d lt below);
      } in
      pairs_append (IsBefore p) log fresh a.order own cross

  follow_there : (i : ℕ) (e : EntryData) → slice_get (log ++ fresh) i ≡ Some e → Follows p (take i (log ++ fresh)) e
  follow_there i e at = elim (cases_lt i (length log)) [
    | inl before ↦
        let front = take-append-le i log fresh (omega (arith, before)) in
        subst (λ E. Follows p E e) (sym front) (a.supported.follows i e (elim (place-append log fresh i e at) [
          | inl was ↦ was
          | inr behind ↦ absurd (omega (arith, before, behind.is))
        ]))
    | inr behind ↦
        follows_found p log (take i (log ++ fresh))
        (λ x was. let k = place_of log x was in Contains-at (take i (log ++ fresh)) k.0 x (to_take i (log ++ fresh) k.0 x (omega (arith, behind, within_from log k.0 x k.1)) (at_append log fresh k.0 x k.1)))
        e (b.follow e (elim (place-append log fresh i e at) [
          | inl was ↦ absurd (omega (arith, behind, within_from log i e was))
          | inr there ↦ Contains-at fresh there.place e there.at
        ]))
  ]

  pub next_ranked : HoldsRound p (suc n) (log ++ fresh)
  next_ranked = record {
    round = round;
    ranked = λ e c. elim (Contains-append_cases log fresh e c) [
      | inl was ↦ let r = a.ranked e was in (r.0, (r.1.0, omega (arith, r.1.1)))
      | inr there ↦ (suc n, (fresh_rank e there, omega arith))
    ];
    order = order;
    supported = record { distinct = distinct_in_order p (log ++ fresh) order; follows = follow_there };
  }

  pub next_at : IsAtRound p (length log) (log ++ fresh)
  next_at = record {
    number = n;
    ranked = next_ranked;
    past = subst (λ E. IsRound p n E) (sym (take-append-le (length log) log fresh (omega arith) ∙ take_all (length log) log (omega arith))) a.round;
    within = omega (arith, length-append log fresh);
  }

module _ (p : ProblemData) (before : ℕ) (log : List EntryData) (a : IsAtRound p before log) where
  -- what follows from the rounds before the last one is there
  pub past_closed : (e : EntryData) → Follows p (take before log) e → Contains log e
  past_closed e follows =
      let r = a.ranked.round in
      (r.1.1 e).1 (inr (follows_found p (take before log) r.0 (round_same p a.number (take before log) r.0 a.past r.1.0) e follows))

  pub all_follow : (Is : Support → EntryData → Type 0) → ((s : Support) (e : EntryData) → Contains log e → Is s e) → ((place : ℕ) → before ≤ place → place < length log → HasPlaceBy p log place Is)
      → (s : Support) (e : EntryData) → FollowsBy p log s e → Is s e
  all_follow Is was places s e follows = elim (greatest (premises s)) [
    | inl none ↦ was s e (past_closed e (follows_found p [] (take before log) (λ x c. absurd (none_in x c)) e (s, by_none p log s e none follows)))
    | inr (i, g) ↦
        let by = by_greatest p log s e i g follows in
        let at = premise_below p log s e i follows g.there in
        elim (cases_lt i before) [
          | inl lt ↦ was s e (past_closed e (s, by_take p log (i + 1) before s e (omega (arith, lt)) by))
          | inr le ↦ places i le (within_from log i at.entry at.at) at.entry e s at.at at.depends by g.there
        ]
  ]

pub seeds_follow : (p : ProblemData) (Is : Support → EntryData → Type 0) → ((point : ℕ) → point < length p.points.points → HasSeedBy p point Is) → (s : Support) (e : EntryData) → FollowsBy p [] s e → Is s e
seeds_follow p Is seeds s e follows = seeds e.point (within_from p.points.points e.point follows.of follows.at) s e refl follows

pub least_at_end : (p : ProblemData) (before : ℕ) (log : List EntryData) → IsAtRound p before log → length log ≤ before → IsLeastTable p log
least_at_end p before log a whole = record {
  supported = a.ranked.supported;
  closed = λ e follows. past_closed p before log a e (subst (λ E. Follows p E e) (sym (take_all before log whole)) follows);
}
