-- A round that is published in a core.
--     HasNoStory c                       nothing has happened
--     HasNothing c                       the log is empty
--     HasPublished worker ticket c ds d  the log of c got these at its end, with their supports, and the worker holds the ticket
--     CanPublish c found places          what was found is new and follows, its places are in order, and the core has room
use Rattle.std.specs.Prelude.{◌≡◌, ℕ, ◌+◌, ◌≤◌, List, [], ◌++◌, length, map}
use Rattle.hs_rules.specs.Conclusions.{DeducedData}
use Rattle.hs_history.specs.CoreStep.{Holds}
use Rattle.hs_core.specs.Core.{CoreData, state_of, log_of}
use Rattle.hs_rank.specs.Gathering.{AreNewDeduced}
use Rattle.hs_rank.specs.Ordering.{entries_of, AreInOrder}

abbrev pub HasNoStory : CoreData → Type 0
HasNoStory c = c.story ≡ []

pub record HasNothing (c : CoreData) : Type 0 where
  pub log : log_of c ≡ []
  pub supports : (state_of c).supports ≡ []

pub record HasPublished (worker ticket : ℕ) (old : CoreData) (added : List DeducedData) (new : CoreData) : Type 0 where
  pub base : new.base ≡ old.base
  pub ids : new.ids ≡ old.ids
  pub holds : Holds (state_of new) worker ticket
  pub log : log_of new ≡ log_of old ++ entries_of old.ids added
  pub supports : (state_of new).supports ≡ (state_of old).supports ++ map (λ d. d.support) added

pub record CanPublish (c : CoreData) (found : List DeducedData) (places : List ℕ) : Type 0 where
  pub fresh : AreNewDeduced c.base.problem c.ids (log_of c) found
  pub order : AreInOrder c.ids found places
  pub room : length (log_of c) + length places ≤ c.base.budget
