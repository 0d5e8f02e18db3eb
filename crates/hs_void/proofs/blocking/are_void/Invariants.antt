-- those so far are void
use Rattle.std.proofs.Common.{◌≡◌, List, take, Contains}
use Rattle.hs_table.specs.Entries.{Env, EntryData}
use Rattle.hs_weak.specs.Void.{VoidData, IsVoid}
use Rattle.hs_choices.specs.Numbered.{envs_of, AreNumbered}
use Rattle.hs_void.specs.Voids.{Fits}
use Rattle.hs_void.proofs.blocking.are_void.Given as goal

abbrev pub invariant-loop-env : goal.invariant-loop-env
invariant-loop-env l =
    let b = l.fn.voids.basis in
    record {
      same : l.types ≡ l.fn.types;
      fits : Fits l.types l.voids;
      basis : l.voids.basis ≡ b;
      void : (C : List EntryData) (V : List VoidData) → AreNumbered b.problem C V l.fn.types b.table b.void → (K : Env) → Contains (envs_of l.fn.types (take l.env-index l.envs)) K → IsVoid b.problem C V l.rule K;
    }
