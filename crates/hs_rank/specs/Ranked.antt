-- A log that is filled round by round.
--     HoldsRound p n log              the log has just the entries of round n, in order
--     IsNextRound p log fresh         what follows from the log and isn't in it, ascending
--     IsAtRound p before log          it was filled by some rounds, before the last of which it had so many entries
--     HasLeastSupport p log s e       the support is the least one by the entries of lower rank, which are those before some place
--     HaveLeastSupports p log ss      so has each entry of the log
use Rattle.std.specs.Prelude.{◌≡◌, ℕ, suc, ◌≤◌, List, ◌++◌, length, take, slice_get, Some, Contains}
use Rattle.hs_scheme.specs.flow.Flow.{IsAscending}
use Rattle.hs_scheme.specs.Problem.{ProblemData}
use Rattle.hs_table.specs.Entries.{EntryData, entry_cmp}
use Rattle.hs_table.specs.Follows.{Support, Follows}
use Rattle.hs_table.specs.Tables.{IsSupportedTable}
use Rattle.hs_rank.specs.Canonical.{IsRound, HasRank, IsByRank}
use Rattle.hs_rank.specs.Fronts.{IsFront, IsLeastSupport}

pub record HoldsRound (p : ProblemData) (n : ℕ) (log : List EntryData) : Type 0 where
  pub round : IsRound p n log
  pub ranked : (e : EntryData) → Contains log e → (m : ℕ) × (HasRank p m e × (m ≤ n))
  pub order : IsByRank p log
  pub supported : IsSupportedTable p log

pub record IsNextRound (p : ProblemData) (log fresh : List EntryData) : Type 0 where
  pub ascending : IsAscending entry_cmp fresh
  pub follow : (e : EntryData) → Contains fresh e → Follows p log e
  pub new : (e : EntryData) → Contains fresh e → Contains log e → ⊥
  pub all : (e : EntryData) → Follows p log e → Contains (log ++ fresh) e

pub record IsAtRound (p : ProblemData) (before : ℕ) (log : List EntryData) : Type 0 where
  pub number : ℕ
  pub ranked : HoldsRound p (suc number) log
  pub past : IsRound p number (take before log)
  pub within : before ≤ length log

pub record HasLeastSupport (p : ProblemData) (log : List EntryData) (s : Support) (e : EntryData) : Type 0 where
  pub rank : ℕ
  pub front : ℕ
  pub has : HasRank p rank e
  pub within : front ≤ length log
  pub is_front : IsFront p log rank front
  pub least : IsLeastSupport p (take front log) s e

pub record HaveLeastSupports (p : ProblemData) (log : List EntryData) (supports : List Support) : Type 0 where
  pub each : length supports ≡ length log
  pub least : (place : ℕ) (s : Support) (e : EntryData) → slice_get supports place ≡ Some s → slice_get log place ≡ Some e → HasLeastSupport p log s e
