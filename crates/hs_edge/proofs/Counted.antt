-- Counts of failures, and names, as the sources and sinks keep them.
use Rattle.std.proofs.Common.{◌≡◌, refl, sym, ◌∙◌, ap, subst, ℕ, ◌<◌, ◌≤◌, Bool, true, false, List, length, get_or, eqb, Ok, Err, arith}
use Rattle.std.specs.Prelude.{if◌then◌else◌, not, Contains}
use Rattle.std.specs.List.{AllWithin}
use Rattle.std.specs.Str.{bytes_eq}
use Rattle.std.proofs.lemmas.Bool.{eq-eqb, eqb-true}
use Rattle.std.proofs.lemmas.Slice.Eq.{bytes_eq-Decides}
use Rattle.hs_edge.specs.Count.{Rose, one_more, NextFails}
use Rattle.hs_edge.specs.FileSource.{ReaderState}
use Rattle.hs_edge.specs.MemSource.{SourceState, Starts}
use Rattle.hs_edge.specs.Reading.{Reading, started}
use Rattle.hs_edge.specs.StdSink.{StreamState}
use Rattle.hs_edge.specs.Writing.{Writing}
use Rattle.hs_edge.specs.declared.errors.Failed.{Failed}

abbrev pub reader : Reading → ℕ → ReaderState
reader reading failures = record { reading = reading; failures = failures }

abbrev pub stream : Writing → ℕ → StreamState
stream writing failures = record { writing = writing; failures = failures }

pub rose_by_one : (old kept new : ℕ) → kept ≡ old → new ≡ one_more kept → Rose old new
rose_by_one old kept new same more below = omega (arith, same, more, below)

pub not_less : (old kept new : ℕ) → kept ≡ old → kept ≤ new → old ≤ new
not_less old kept new same up = omega (arith, same, up)

-- each of two counts went up or stayed
pub both_rise : (b : Bool) (own other own' other' : ℕ) → own ≤ own' → other ≤ other'
    → (if b then own else other) ≤ (if b then own' else other')
both_rise true own other own' other' p q = p
both_rise false own other own' other' p q = q

is_not : (b : Bool) → not b ≡ false → b ≡ true
is_not true e = refl
is_not false e = absurd (cc)

-- a name that `!=` takes for the same
pub same_name : (name text own : List ℕ) (r : Bool) → r ≡ not (bytes_eq name text) → text ≡ own → r ≡ false → bytes_eq name own ≡ true
same_name name text own r told is same =
    ap (bytes_eq name) (sym is) ∙ is_not (bytes_eq name text) (sym told ∙ same)

pub same_bytes : (name own : List ℕ) → bytes_eq name own ≡ true → name ≡ own
same_bytes name own e = (bytes_eq-Decides name own).0 e

pub rose_at : (old kept new : ℕ) → kept ≡ old → Rose kept new → Rose old new
rose_at old kept new same up = subst (λ (n : ℕ). Rose n new) same up

pub own_rose : (b : Bool) (own other own' : ℕ) → b ≡ true → own' ≡ one_more own → Rose (if b then own else other) (if b then own' else other)
own_rose true own other own' e more = rose_by_one own own own' refl more
own_rose false own other own' e more = absurd (cc)

-- what `contains` answers of the calls that fail
pub next_fails : (failing taken : List ℕ) (calls call : ℕ) → taken ≡ failing → call ≡ one_more calls
    → (k : ℕ) × (k < length taken) × ((d : ℕ) → eqb (get_or taken k d) call ≡ true)
    → NextFails failing calls
next_fails failing taken calls call same next (k, below, told) =
    subst (λ (n : ℕ). Contains failing n) next
    (subst (λ (xs : List ℕ). Contains xs call) same (k, below, eqb-true (get_or taken k call) call (told call)))

pub not_next : (failing taken : List ℕ) (calls call : ℕ) → taken ≡ failing → call ≡ one_more calls
    → AllWithin (λ y. eqb y call ≡ false) taken 0 (length taken)
    → NextFails failing calls → ⊥
not_next failing taken calls call same next none fails =
    let there : Contains taken call =
    subst (λ (n : ℕ). Contains taken n) (sym next) (subst (λ (xs : List ℕ). Contains xs (one_more calls)) (sym same) fails) in
    let no : eqb (get_or taken there.0 call) call ≡ false = none there.0 call (omega arith) there.1 in
    let yes : eqb (get_or taken there.0 call) call ≡ true = eq-eqb (get_or taken there.0 call) call there.2 in
    (cc)

-- a `start` with the source's own name that failed, and one that answered `Ok`
pub failed_own : (old : SourceState) (name : List ℕ) (e : Failed) (calls own : ℕ)
    → name ≡ old.name → calls ≡ one_more old.calls → own ≡ one_more old.own_faults
    → NextFails old.failing old.calls
    → Starts old name (Err e) (record old { calls = calls; own_faults = own })
failed_own old name e calls own same next more fails = record {
  other_name = λ differs. absurd (differs same);
  own_name = λ _. ((λ _. fails), (λ _. refl));
  ok = tt;
  err_other = λ differs. absurd (differs same);
  err_own = λ _. (λ i. record old { calls = next i; own_faults = more i });
}

pub was_started : (old : SourceState) (name : List ℕ) (calls : ℕ) (reading : Reading)
    → name ≡ old.name → calls ≡ one_more old.calls → reading ≡ started name old.reading
    → (NextFails old.failing old.calls → ⊥)
    → Starts old name (Ok tt) (record old { calls = calls; reading = reading; left = old.bytes })
was_started old name calls reading same next is runs = record {
  other_name = λ differs. absurd (differs same);
  own_name = λ _. ((λ failed. absurd (cc)), (λ fails. absurd (runs fails)));
  ok = λ i. record old { calls = next i; reading = is i; left = old.bytes };
  err_other = tt;
  err_own = tt;
}
