-- What is remembered of the strength of an interner's types and sets.
--     IsAnswer I q answer       the answer is true exactly where what is asked is so of the trees that the numbers stand for
--     Remembers I memo          all answers are so, the types that were seen are as strong as themselves, and the kinds are those of environments that ask at least what they ask themselves
--     nothing                   no answers
--     IsCovered I row rows      the entry of one of the rows covers that of the row
--     Learns, Sees, Notes       how calls change what is remembered
use Rattle.std.specs.Prelude.{◌≡◌, ℕ, ◌<◌, Bool, true, List, [], length, slice_get, Some, IsTrue, Contains, ◌⊎◌, ◌↔◌}
use Rattle.hs_weak.specs.Strength.{AsStrongAs, AsksEach, AsksAtLeast, Covers}
use Rattle.hs_types.specs.Interned.{InternerData, type_of_id, set_of_id, env_of_id, RowData, entry_of}
use Rattle.hs_strength.specs.declared.answers.Question.{Question}
use Rattle.hs_strength.specs.declared.answers.Question.TheVariants.{Types, Sets}
use Rattle.hs_strength.specs.Memo.{MemoData, Knows, KnowsMore}
use Rattle.hs_strength.specs.Kinds.{HasKinds}

abbrev pub IsAnswer : InternerData → Question → Bool → Type 0
IsAnswer I (Types t u) answer = (t < length I.types) × (u < length I.types) × (IsTrue answer ↔ AsStrongAs (type_of_id I t) (type_of_id I u))
IsAnswer I (Sets s r) answer = (s < length I.sets) × (r < length I.sets) × (IsTrue answer ↔ AsksEach AsStrongAs (set_of_id I s) (set_of_id I r))

pub record Remembers (I : InternerData) (memo : MemoData) : Type 0 where
  pub answers : (q : Question) (answer : Bool) → Knows memo.answers q answer → IsAnswer I q answer
  pub seen : (t : ℕ) → slice_get memo.seen t ≡ Some true → (t < length I.types) × AsStrongAs (type_of_id I t) (type_of_id I t)
  pub kinds : (e kinds : ℕ) → slice_get memo.kinds e ≡ Some (Some kinds) → (e < length I.envs) × HasKinds (env_of_id I e) kinds × AsksAtLeast AsStrongAs (env_of_id I e) (env_of_id I e)

abbrev pub nothing : MemoData
nothing = record { answers = []; seen = []; kinds = [] }

abbrev pub IsCovered : InternerData → RowData → List RowData → Type 0
IsCovered I row rows = (by : RowData) × (Contains rows by × Covers AsStrongAs (entry_of I by) (entry_of I row))

-- each answer was there, or is this one
pub record Learns (old new : MemoData) (question : Question) (own : Bool) : Type 0 where
  pub answers : KnowsMore old.answers new.answers question own
  pub seen : new.seen ≡ old.seen
  pub kinds : new.kinds ≡ old.kinds

-- each type was seen, or is this one
pub record Sees (old new : MemoData) (ty : ℕ) : Type 0 where
  pub answers : new.answers ≡ old.answers
  pub seen : (t : ℕ) → slice_get new.seen t ≡ Some true → (slice_get old.seen t ≡ Some true) ⊎ (t ≡ ty)
  pub kinds : new.kinds ≡ old.kinds

-- the kinds of each environment were there, or are these of this one
pub record Notes (old new : MemoData) (env own : ℕ) : Type 0 where
  pub answers : new.answers ≡ old.answers
  pub seen : new.seen ≡ old.seen
  pub kinds : (e kinds : ℕ) → slice_get new.kinds e ≡ Some (Some kinds) → (slice_get old.kinds e ≡ Some (Some kinds)) ⊎ ((e ≡ env) × (kinds ≡ own))
