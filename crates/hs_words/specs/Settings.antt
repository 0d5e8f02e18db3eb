-- How the verdict is found, and what is shown with it, as contracts see it.
--     SettingsData        the numbers of a run, and what is asked for
--     settings_of         they, from the fields
--     AreSettingsWithin   the numbers are in their ranges
use Rattle.std.specs.Prelude.{ℕ, ◌≤◌, Bool}
use Rattle.hs_words.specs.declared.options.Settings.TheInside.{Inside}

pub record SettingsData : Type 0 where
  pub workers : ℕ
  pub entries : ℕ
  pub steps : ℕ
  pub table : Bool
  pub first : Bool
  pub minimal : Bool
  pub quick : Bool
  pub explain : Bool
  pub simplify : Bool

abbrev pub settings_of : Inside → SettingsData
settings_of a = record {
  workers = a.workers;
  entries = a.entries;
  steps = a.steps;
  table = a.table;
  first = a.first;
  minimal = a.minimal;
  quick = a.quick;
  explain = a.explain;
  simplify = a.simplify;
}

pub record AreSettingsWithin (settings : SettingsData) : Type 0 where
  pub least_workers : 1 ≤ settings.workers
  pub most_workers : settings.workers ≤ 16
  pub least_entries : 1 ≤ settings.entries
  pub most_entries : settings.entries ≤ 1000000
  pub least_steps : 1 ≤ settings.steps
  pub most_steps : settings.steps ≤ 4000000
