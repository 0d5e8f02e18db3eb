-- What a journal tells beside its log, while both grow.
use Rattle.std.proofs.Common.{◌≡◌, refl, sym, ◌∙◌, ap, ℕ, suc, ◌<◌, List, [], ◌∷◌, ◌++◌, length, slice_get, unwrap_or, Option, Some, None, IsSome, arith}
use Rattle.std.proofs.lemmas.Bool.{false≢true}
use Rattle.std.proofs.lemmas.List.Elements.{All-head, All-tail, All-push, All-weaker}
use Rattle.hs_scheme.proofs.Lists.{slice_get-append, slice_get-push}
use Rattle.hs_table.specs.Entries.{EntryData}
use Rattle.hs_table.specs.Follows.{Support}
use Rattle.hs_types.specs.Interned.{InternerData, IsRow, Grows}
use Rattle.hs_types.proofs.Numbers.{row_stays}
use Rattle.hs_rules.specs.Conclusions.{DeducedData}
use Rattle.hs_history.specs.declared.step.Step.{Step}
use Rattle.hs_history.specs.declared.step.Event.{Event}
use Rattle.hs_history.specs.declared.step.Event.TheVariants.{Take, Added, PastBudget, Finish, GiveBack}
use Rattle.hs_history.specs.Story.{adds}
use Rattle.hs_history.specs.History.{step_told, action_told, deduction_at, no_entry, no_support}
use Rattle.hs_core.specs.Inside.{kept_in, story_in, EventIsReadable, IsReadable}

-- the deductions that the old log had are at their places in the new one
abbrev pub KeepsPlaces : List EntryData → List Support → List EntryData → List Support → Type 0
KeepsPlaces L S L' S' = (i : ℕ) → i < length L → deduction_at L' S' i ≡ deduction_at L S i

abbrev pub KeepsPast : InternerData → Option DeducedData → InternerData → Option DeducedData → Type 0
KeepsPast ids past ids' past' = IsSome past → kept_in ids' past' ≡ kept_in ids past

module _ (ids ids' : InternerData) (L L' : List EntryData) (S S' : List Support) (past past' : Option DeducedData) (places : KeepsPlaces L S L' S') (kept : KeepsPast ids past ids' past') where
  event_stays : (e : Event) → EventIsReadable (length L) past e → action_told L' S' (kept_in ids' past') e ≡ action_told L S (kept_in ids past) e
  event_stays (Take work ticket) h = refl
  event_stays (Added ticket place) h = ap (λ d. adds ticket d) (places place h)
  event_stays (PastBudget ticket) h = ap (λ k. action_told L S k (PastBudget ticket)) (kept h)
  event_stays (Finish ticket) h = refl
  event_stays (GiveBack ticket) h = refl

  pub told_stays : (journal : List Step) → IsReadable (length L) past journal → story_in ids' L' S' past' journal ≡ story_in ids L S past journal
  told_stays [] h = refl
  told_stays (s ∷ journal) h = λ i.
      (record { worker = s.worker; action = event_stays s.event (All-head (λ (x : Step). EventIsReadable (length L) past x.event) s journal h) i })
      ∷ told_stays journal (All-tail (λ (x : Step). EventIsReadable (length L) past x.event) s journal h) i

pub told_push : (ids : InternerData) (L : List EntryData) (S : List Support) (past : Option DeducedData) (journal : List Step) (s : Step)
    → story_in ids L S past (journal ++ s ∷ []) ≡ story_in ids L S past journal ++ step_told L S (kept_in ids past) s ∷ []
told_push ids L S past [] s = refl
told_push ids L S past (x ∷ journal) s = ap (λ rest. step_told L S (kept_in ids past) x ∷ rest) (told_push ids L S past journal s)

pub places_kept : (L : List EntryData) (S : List Support) (e : EntryData) (s : Support) → length S ≡ length L → KeepsPlaces L S (L ++ e ∷ []) (S ++ s ∷ [])
places_kept L S e s each = λ i lt j. record {
  entry = unwrap_or (slice_get-append L (e ∷ []) i lt j) no_entry;
  support = unwrap_or (slice_get-append S (s ∷ []) i (omega arith) j) no_support;
}

pub places_same : (L : List EntryData) (S : List Support) → KeepsPlaces L S L S
places_same L S = λ i lt. refl

-- the entry at the end
pub deduction_end : (L : List EntryData) (S : List Support) (e : EntryData) (s : Support) → length S ≡ length L
    → deduction_at (L ++ e ∷ []) (S ++ s ∷ []) (length L) ≡ record { entry = e; support = s }
deduction_end L S e s each = λ j. record {
  entry = unwrap_or (slice_get-push L e j) no_entry;
  support = unwrap_or ((ap (λ n. slice_get (S ++ s ∷ []) n) (sym each) ∙ slice_get-push S s) j) no_support;
}

-- the kept one
pub past_same : (ids : InternerData) (past : Option DeducedData) → KeepsPast ids past ids past
past_same ids past = λ some. refl

pub past_grows : (ids ids' : InternerData) (past : Option DeducedData) → Grows ids ids' → ((d : DeducedData) → past ≡ Some d → IsRow ids d.row) → kept_in ids' past ≡ kept_in ids past
past_grows ids ids' None grows rows = refl
past_grows ids ids' (Some d) grows rows = λ i. Some (record { entry = row_stays ids ids' grows d.row (rows d refl) i; support = d.support })

pub past_first : (ids : InternerData) (past : Option DeducedData) (d : DeducedData) → past ≡ None → KeepsPast ids past ids (Some d)
past_first ids None d none = λ some. absurd (false≢true some)
past_first ids (Some x) d none = absurd (cc)

-- readable still
pub event_weaker : (m n : ℕ) (past past' : Option DeducedData) → (m < suc n) → (IsSome past → IsSome past') → (e : Event) → EventIsReadable m past e → EventIsReadable n past' e
event_weaker m n past past' le some (Take work ticket) h = tt
event_weaker m n past past' le some (Added ticket place) h = omega arith
event_weaker m n past past' le some (PastBudget ticket) h = some h
event_weaker m n past past' le some (Finish ticket) h = tt
event_weaker m n past past' le some (GiveBack ticket) h = tt

pub readable_weaker : (m n : ℕ) (past past' : Option DeducedData) (journal : List Step) → (m < suc n) → (IsSome past → IsSome past') → IsReadable m past journal → IsReadable n past' journal
readable_weaker m n past past' journal le some = All-weaker (λ (s : Step). EventIsReadable m past s.event) (λ (s : Step). EventIsReadable n past' s.event) (λ s. event_weaker m n past past' le some s.event) journal

pub readable_push : (n : ℕ) (past : Option DeducedData) (journal : List Step) (s : Step) → IsReadable n past journal → EventIsReadable n past s.event → IsReadable n past (journal ++ s ∷ [])
readable_push n past journal s = All-push (λ (x : Step). EventIsReadable n past x.event) journal s
