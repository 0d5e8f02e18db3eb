-- What contracts see of a `Strengths`: at places questions with their answers, by the number of a type whether it was seen to be as strong as itself, and by the number of an environment the kinds of its types, where they were formed.
--     Knows known q answer              the answer to the question stands at some place
--     KnowsMore old new q answer        each answer was known, or is this one
use Rattle.std.specs.Prelude.{◌≡◌, ◌⊎◌, ℕ, Bool, List, Option, Some, Contains}
use Rattle.hs_strength.specs.declared.answers.Question.{Question}
use Rattle.hs_strength.specs.declared.answers.Known.{Known}

abbrev pub KnownAnswers : Type 0
KnownAnswers = List (Option Known)

abbrev pub Knows : KnownAnswers → Question → Bool → Type 0
Knows known q answer = Contains known (Some (record { question = q; answer = answer }))

abbrev pub KnowsMore : KnownAnswers → KnownAnswers → Question → Bool → Type 0
KnowsMore old new question own = (q : Question) (answer : Bool) → Knows new q answer → Knows old q answer ⊎ ((q ≡ question) × (answer ≡ own))

pub record MemoData : Type 0 where
  pub answers : KnownAnswers
  pub seen : List Bool
  pub kinds : List (Option ℕ)
