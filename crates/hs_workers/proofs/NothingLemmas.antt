-- A worker that has taken nothing yet.
use Rattle.std.proofs.Common.{◌≡◌, ◌≢◌, sym, subst, ℕ, ◌<◌, ◌^◌, List, [], Option, length, All, AllPairs, arith, append-nil, ◌∙◌}
use Rattle.std.proofs.lemmas.List.Elements.{All-nil}
use Rattle.hs_table.specs.Entries.{EntryData}
use Rattle.hs_types.specs.Interned.{RowData, IsRow}
use Rattle.hs_replica.specs.Replica.{ReplicaData, IsReplica}
use Rattle.hs_replica.specs.Extending.{CanExtend}
use Rattle.hs_history.specs.declared.step.Flight.{Flight}
use Rattle.hs_workers.specs.declared.job.Job.{Job}
use Rattle.hs_workers.specs.Jobs.{keys, Carries, IsUnformed}

pub carries_none : (worker : ℕ) (flight : ℕ → Option Flight) (jobs : List Job) → jobs ≡ [] → Carries worker flight (keys jobs)
carries_none worker flight jobs none = subst (λ (js : List Job). Carries worker flight (keys js)) (sym none) tt

pub unformed_none : (jobs : List Job) → jobs ≡ [] → All IsUnformed jobs
unformed_none jobs none = subst (λ (js : List Job). All IsUnformed js) (sym none) (All-nil IsUnformed)

-- no rows, for a replica whose log is still that of a replica
pub fits_none : (old new : ReplicaData) (rows : List RowData) → new.log ≡ old.log → rows ≡ [] → IsReplica old → CanExtend new rows
fits_none old new rows same none is =
    let log = append-nil new.log ∙ same in
    subst (λ (rs : List RowData). CanExtend new rs) (sym none) (record {
      known = All-nil (IsRow new.ids);
      distinct = subst (λ (xs : List EntryData). AllPairs (λ a b. a ≢ b) xs) (sym log) is.distinct;
      short = subst (λ (xs : List EntryData). length xs < 2 ^ 32) (sym log) is.short;
      room = omega arith;
    })
