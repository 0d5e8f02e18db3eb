-- Which evidences and packs stand under numbers; only private contracts cite it. Places are below a bound, and an evidence has its packs of
-- evidences with smaller numbers.
--     Stands        the evidence stands under this number
--     Piled         packs, whose numbers stand in a list from a place up to before another, the first of them last
--     Members       the evidences of a pack, likewise
--     IsNode        a node is this evidence; its packs are of evidences below this number
--     IsPack        the pack stands under this number
--     GrowsStore    what stood under a number still does
--     Nothing       what look-ups that find nothing give stands under number 0
--     KnowsCurrent  what is known of the current evidence, beside its place
--     premise       the evidence of a place that is made of the packs of another
--     ArePremises   from a number on stand the evidences of chosen places
use Rattle.std.specs.Prelude.{◌≡◌, ℕ, ◌+◌, ◌<◌, List, slice_get, Some}
use Rattle.hs_table.specs.Entries.{EntryData, entry_at}
use Rattle.hs_types.specs.Interned.{Begins}
use Rattle.hs_verdict.specs.Evidence.{Evidence, Packs, Pack, evidence, no_packs, put, empty, also, no_evidence, own_evidence, packs_for}
use Rattle.hs_path.specs.declared.evidence.Span.{Span}
use Rattle.hs_path.specs.declared.evidence.Node.{Node}
use Rattle.hs_path.specs.declared.evidence.Store.{Store}

abbrev mutual
  pub Stands : ℕ → Store → ℕ → Evidence → Type 0
  Stands bound s number (evidence place own) =
      (n : Node) × (slice_get s.nodes.items number ≡ Some n) × (n.place ≡ place) × (place < bound) × Piled bound s number s.owns.items n.own.from n.own.to own

  pub Piled : ℕ → Store → ℕ → List ℕ → ℕ → ℕ → Packs → Type 0
  Piled bound s below numbers from to no_packs = from ≡ to
  Piled bound s below numbers from to (put pack packs) =
      (at : ℕ) × (number : ℕ) × (span : Span) × (to ≡ at + 1) × (slice_get numbers at ≡ Some number) × (slice_get s.packs.items number ≡ Some span)
      × Members bound s below span.from span.to pack × Piled bound s below numbers from at packs

  pub Members : ℕ → Store → ℕ → ℕ → ℕ → Pack → Type 0
  Members bound s below from to empty = from ≡ to
  Members bound s below from to (also e pack) =
      (at : ℕ) × (number : ℕ) × (to ≡ at + 1) × (slice_get s.members.items at ≡ Some number) × (number < below) × Stands bound s number e
      × Members bound s below from at pack

pub record IsNode (bound : ℕ) (s : Store) (below : ℕ) (n : Node) (e : Evidence) : Type 0 where
  pub own : Packs
  pub is : e ≡ evidence n.place own
  pub within : n.place < bound
  pub packs : Piled bound s below s.owns.items n.own.from n.own.to own

pub record IsPack (bound : ℕ) (s : Store) (below number : ℕ) (pack : Pack) : Type 0 where
  pub span : Span
  pub at : slice_get s.packs.items number ≡ Some span
  pub members : Members bound s below span.from span.to pack

pub record GrowsStore (old new : Store) : Type 0 where
  pub nodes : Begins old.nodes.items new.nodes.items
  pub owns : Begins old.owns.items new.owns.items
  pub packs : Begins old.packs.items new.packs.items
  pub members : Begins old.members.items new.members.items

abbrev pub Nothing : ℕ → Store → Type 0
Nothing bound s = Stands bound s 0 no_evidence

pub record KnowsCurrent (bound : ℕ) (s : Store) (below : ℕ) (n : Node) (own : Packs) : Type 0 where
  pub nothing : Nothing bound s
  pub some : 0 < below
  pub packs : Piled bound s below s.owns.items n.own.from n.own.to own

-- the evidence of place m, made of the packs of the evidence at this place
abbrev pub premise : List EntryData → ℕ → Packs → ℕ → Evidence
premise T place own m = evidence m (packs_for (own_evidence (entry_at T place).env own) 0 (entry_at T m).env)

-- each chosen place has its evidence: from number `first` on, in their order
pub record ArePremises (bound : ℕ) (s : Store) (first : ℕ) (give : ℕ → Evidence) (chosen : List (ℕ × ℕ)) : Type 0 where
  pub each : (k argument place : ℕ) → slice_get chosen k ≡ Some (argument, place) → Stands bound s (first + k) (give place)
