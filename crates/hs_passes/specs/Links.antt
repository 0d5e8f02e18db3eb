-- Links from each number of a list to another one that stands for it, or to itself.
--     AreLinks      a link that leads back leads to a number that links to itself
--     Follow rep    the links lead from each number to what rep tells
use Rattle.std.specs.Prelude.{◌≡◌, ℕ, ◌<◌, List, length, slice_index}

pub record AreLinks (links : List ℕ) : Type 0 where
  pub in_range : (h : ℕ) → h < length links → slice_index links h < length links
  pub back : (h : ℕ) → h < length links → slice_index links h < h → slice_index links (slice_index links h) ≡ slice_index links h

pub record Follow (rep : ℕ → ℕ) (links : List ℕ) : Type 0 where
  pub own : (h : ℕ) → h < length links → slice_index links h ≡ h → rep h ≡ h
  pub linked : (h : ℕ) → h < length links → rep h ≡ h → slice_index links h ≡ h
  pub same : (h : ℕ) → h < length links → rep (slice_index links h) ≡ rep h
