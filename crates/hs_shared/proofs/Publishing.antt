-- What is published gets no new numbers.
use Rattle.std.proofs.Common.{◌≡◌, ap, ℕ, Option, Some, None}
use Rattle.hs_history.specs.Story.{Deduction}
use Rattle.hs_core.specs.declared.answers.Published.{Published}
use Rattle.hs_core.specs.declared.answers.Published.TheVariants.{Known, Added, Over}
use Rattle.hs_core.specs.Core.{CoreData, state_of}
use Rattle.hs_core.specs.Answers.{Publishes, AddsOrPasses}

passes_ids : (old : CoreData) (worker ticket : ℕ) (d : Deduction) (new : CoreData) (kept : Option Deduction) → AddsOrPasses old worker ticket d new kept → new.ids ≡ old.ids
passes_ids old worker ticket d new None h = ap (λ (c : CoreData). c.ids) h
passes_ids old worker ticket d new (Some kept) h = ap (λ (c : CoreData). c.ids) h

pub publishes_ids : (old : CoreData) (worker ticket : ℕ) (d : Deduction) (published : Published) (new : CoreData) → Publishes old worker ticket d published new → new.ids ≡ old.ids
publishes_ids old worker ticket d (Known place) new h = ap (λ (c : CoreData). c.ids) h.1
publishes_ids old worker ticket d (Added place) new h = ap (λ (c : CoreData). c.ids) h.3
publishes_ids old worker ticket d Over new h = passes_ids old worker ticket d new (state_of old).kept h.2
