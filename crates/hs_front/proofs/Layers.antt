-- What comes of a file, layer by layer: one refusal, or one scheme with sorts, want of memory aside.
use Rattle.std.proofs.Common.{◌≡◌, refl, sym, ◌∙◌, ap, subst, ℕ, List, slice_get, Some, Result, Ok, Err, ◌⊎◌, inl, inr}
use Rattle.hs_scheme.specs.sorting.Unsorted.{UnsortedData}
use Rattle.hs_reader.specs.Raw.{File}
use Rattle.hs_reader.specs.declared.fault.ReadFault.{ReadFault}
use Rattle.hs_reader.specs.declared.fault.ReadFault.TheVariants as read
use Rattle.hs_reader.specs.Faults.{IsAnswer}
use Rattle.hs_reader.proofs.Exact.{one_answer_is}
use Rattle.hs_resolve.specs.declared.fault.NameFault.{NameFault}
use Rattle.hs_resolve.specs.Numbering.{unsorted_of}
use Rattle.hs_resolve.specs.Answer.{IsFaultless, IsAnswered}
use Rattle.hs_resolve.proofs.FirstFault.{not_both, one_fault_is as one_name_fault}
use Rattle.hs_sorts.specs.declared.fault.SortFault.{SortFault}
use Rattle.hs_sorts.specs.declared.fault.SortFault.TheVariants as sorts
use Rattle.hs_sorts.specs.Inference.{IsInferable, IsSortFault}
use Rattle.hs_sorts.proofs.Excluding.{only_memory, inferred_inferable, one_fault_is as one_sort_fault}
use Rattle.hs_front.specs.declared.refusal.Refusal.{Refusal}
use Rattle.hs_front.specs.declared.refusal.Refusal.TheVariants.{Usage, Source, FileTooLong, Syntax, Limit, Names, IllSorted, NotFirstOrder, SortTooLarge, RuleTooLong, PointLimit, FlowLimit, EntryLimit, Sink, OutOfMemory}
use Rattle.hs_front.specs.Files.{IsSchemeOf}
use Rattle.hs_front.specs.Faults.{IsSortable, IsFileFault}
use Rattle.hs_front.proofs.OneScheme.{reads_of}

-- ---- a refusal, of which R holds, or a scheme with sorts, of which S holds

abbrev pub TellsSort : UnsortedData → SortFault → Refusal → Type 0
TellsSort u (sorts.IllSorted rule) r = r ≡ IllSorted rule
TellsSort u (sorts.TerminalNotFirstOrder a) r = (name : List ℕ) × (slice_get u.names.terminals a ≡ Some name) × (r ≡ NotFirstOrder name)
TellsSort u (sorts.SortTooLarge rule) r = r ≡ SortTooLarge rule
TellsSort u (sorts.RuleTooLong rule) r = r ≡ RuleTooLong rule
TellsSort u sorts.OutOfMemory r = ⊥

told_once : (u : UnsortedData) (f : SortFault) (a b : Refusal) → TellsSort u f a → TellsSort u f b → a ≡ b
told_once u (sorts.IllSorted rule) a b p q = p ∙ sym q
told_once u (sorts.TerminalNotFirstOrder t) a b (m, at, is) (n, at', is') =
    let e : m ≡ n = cc in is ∙ (ap (λ (name : List ℕ). NotFirstOrder name) e ∙ sym is')
told_once u (sorts.SortTooLarge rule) a b p q = p ∙ sym q
told_once u (sorts.RuleTooLong rule) a b p q = p ∙ sym q
told_once u sorts.OutOfMemory a b p q = absurd p

told_of_memory : (u : UnsortedData) (f : SortFault) (a : Refusal) → f ≡ sorts.OutOfMemory → TellsSort u f a → ⊥
told_of_memory u f a e h = subst (λ (g : SortFault). TellsSort u g a) e h

abbrev pub AtScheme : (Refusal → Type 0) → (UnsortedData → Type 0) → UnsortedData → Type 0
AtScheme R S u = ((f : SortFault) × (IsSortFault u.rules u.ranks f × ((r : Refusal) × (TellsSort u f r × R r)))) ⊎ (IsInferable u.rules u.ranks × S u)

abbrev pub AtFile : (Refusal → Type 0) → (UnsortedData → Type 0) → File → Type 0
AtFile R S file = ((f : NameFault) × (IsAnswered file f × R (Names f))) ⊎ (IsFaultless file × AtScheme R S (unsorted_of file))

abbrev pub AtBytes : (Refusal → Type 0) → (UnsortedData → Type 0) → Result File ReadFault → Type 0
AtBytes R S (Ok file) = AtFile R S file
AtBytes R S (Err (read.Syntax line)) = R (Syntax line)
AtBytes R S (Err (read.Limit which)) = R (Limit which)
AtBytes R S (Err read.OutOfMemory) = ⊥

pub record Layered (R : Refusal → Type 0) (S : UnsortedData → Type 0) (bytes : List ℕ) : Type 0 where
  pub answer : Result File ReadFault
  pub is : IsAnswer bytes answer
  pub at : AtBytes R S answer

module _ (R : Refusal → Type 0) (S : UnsortedData → Type 0) (bytes : List ℕ) where
  of_scheme : (u : UnsortedData) → IsSchemeOf bytes u → AtScheme R S u → Layered R S bytes
  of_scheme u s h = record { answer = Ok s.of.file; is = reads_of bytes u s; at = inr (s.of.faultless, subst (λ (v : UnsortedData). AtScheme R S v) s.of.is h) }

  pub of_sound : (u : UnsortedData) → IsSortable bytes u → S u → Layered R S bytes
  of_sound u s h = of_scheme u s.of_bytes (inr (inferred_inferable u s.sorted s.inferred, h))

  -- the refusals of what comes before a scheme has its sorts
  pub of_fault : (r : Refusal) → IsFileFault bytes r → R r → (r ≡ OutOfMemory) ⊎ Layered R S bytes
  of_fault Usage h k = absurd h
  of_fault Source h k = absurd h
  of_fault FileTooLong h k = absurd h
  of_fault (Syntax line) h k = inr (record { answer = Err (read.Syntax line); is = h; at = k })
  of_fault (Limit which) h k = inr (record { answer = Err (read.Limit which); is = h; at = k })
  of_fault (Names fault) h k = inr (record { answer = Ok h.file; is = h.reads; at = inl (fault, (h.fault, k)) })
  of_fault (IllSorted rule) h k = inr (of_scheme h.scheme h.of_bytes (inl (sorts.IllSorted rule, (h.fault, (IllSorted rule, (refl, k))))))
  of_fault (NotFirstOrder terminal) h k =
      inr (of_scheme h.scheme h.of_bytes (inl (sorts.TerminalNotFirstOrder h.fault.number, (h.fault.fault, (NotFirstOrder terminal, ((terminal, h.fault.named, refl), k))))))
  of_fault (SortTooLarge rule) h k = inr (of_scheme h.scheme h.of_bytes (inl (sorts.SortTooLarge rule, (h.fault, (SortTooLarge rule, (refl, k))))))
  of_fault (RuleTooLong rule) h k = inr (of_scheme h.scheme h.of_bytes (inl (sorts.RuleTooLong rule, (h.fault, (RuleTooLong rule, (refl, k))))))
  of_fault PointLimit h k = absurd h
  of_fault FlowLimit h k = absurd h
  of_fault EntryLimit h k = absurd h
  of_fault Sink h k = absurd h
  of_fault OutOfMemory h k = inl refl

-- ---- two that come of one file

module _ (Q R : Refusal → Type 0) (P S : UnsortedData → Type 0) (G : Type 0) (same : (r : Refusal) → Q r → R r → G) (both : (u : UnsortedData) → P u → S u → G) where
  meet_told : (u : UnsortedData) (f : SortFault) (a b : Refusal) → TellsSort u f a → Q a → TellsSort u f b → R b → G
  meet_told u f a b p q p' r = same b (subst Q (told_once u f a b p p') q) r

  meet_scheme : (u : UnsortedData) → AtScheme Q P u → AtScheme R S u → G
  meet_scheme u (inl (f, (is, (a, (tells, q))))) (inl (g, (is', (b, (tells', r))))) =
      elim (one_sort_fault u.rules u.ranks f g is is') [
        | inl e ↦ absurd (told_of_memory u f a e tells)
        | inr (inl e) ↦ absurd (told_of_memory u g b e tells')
        | inr (inr e) ↦ meet_told u g a b (subst (λ (k : SortFault). TellsSort u k a) e tells) q tells' r
      ]
  meet_scheme u (inl (f, (is, (a, (tells, q))))) (inr (small, s)) = absurd (told_of_memory u f a (only_memory u.rules u.ranks f small is) tells)
  meet_scheme u (inr (small, p)) (inl (g, (is, (b, (tells, r))))) = absurd (told_of_memory u g b (only_memory u.rules u.ranks g small is) tells)
  meet_scheme u (inr (small, p)) (inr (small', s)) = both u p s

  meet_file : (file : File) → AtFile Q P file → AtFile R S file → G
  meet_file file (inl (f, (is, q))) (inl (g, (is', r))) = same (Names g) (subst (λ (k : NameFault). Q (Names k)) (one_name_fault file f g is is') q) r
  meet_file file (inl (f, (is, q))) (inr (clean, at)) = absurd (not_both file f clean is)
  meet_file file (inr (clean, at)) (inl (g, (is, r))) = absurd (not_both file g clean is)
  meet_file file (inr (clean, at)) (inr (clean', at')) = meet_scheme (unsorted_of file) at at'

  meet_bytes : (answer : Result File ReadFault) → AtBytes Q P answer → AtBytes R S answer → G
  meet_bytes (Ok file) p q = meet_file file p q
  meet_bytes (Err (read.Syntax line)) p q = same (Syntax line) p q
  meet_bytes (Err (read.Limit which)) p q = same (Limit which) p q
  meet_bytes (Err read.OutOfMemory) p q = absurd p

  pub meet : (bytes : List ℕ) → Layered Q P bytes → Layered R S bytes → G
  meet bytes l m = meet_bytes m.answer (subst (λ (r : Result File ReadFault). AtBytes Q P r) (one_answer_is bytes l.answer m.answer l.is m.is) l.at) m.at
