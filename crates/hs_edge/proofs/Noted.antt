-- What a source and a sink have answered, after more reads and writes.
use Rattle.std.proofs.Common.{◌≡◌, refl, sym, ◌∙◌, ap, subst, Option, None, Some, Result, Ok, Err, ℕ, ◌+◌, ◌<◌, zero, suc, Bool, true, false, ◌||◌, List, [], ◌∷◌, ◌++◌, length, take, drop, append_assoc, arith}
use Rattle.std.specs.Prelude.{replicate, IsSomeAnd}
use Rattle.std.specs.Io.KnownBytes.{prepend_known}
use Rattle.std.proofs.Math.Seq.{take-add}
use Rattle.std.proofs.lemmas.List.{append-nil, take-append-drop}
use Rattle.hs_edge.specs.Count.{Rose}
use Rattle.hs_edge.specs.Reading.{Reading, ReadsOn, handed, meets_end}
use Rattle.hs_edge.specs.Writing.{Writing, written}
use Rattle.hs_edge.specs.declared.errors.ReadAll.{ReadAll}
use Rattle.hs_edge.specs.declared.errors.ReadAll.TheVariants.{ReadFault, TooLong, OutOfMemory}

or_true : (b : Bool) → b || true ≡ true
or_true true = refl
or_true false = refl

or_false : (b : Bool) → b || false ≡ b
or_false true = refl
or_false false = refl

not_met : (room : ℕ) (bytes : List ℕ) → 0 < length bytes → meets_end room bytes ≡ false
not_met zero bytes some = refl
not_met (suc room) [] some = absurd (omega (arith, some))
not_met (suc room) (b ∷ bytes) some = refl

met : (room : ℕ) → 0 < room → meets_end room [] ≡ true
met zero some = absurd (omega (arith, some))
met (suc room) some = refl

prepend_known-nil : (rest : Option (List ℕ)) → prepend_known [] rest ≡ rest
prepend_known-nil None = refl
prepend_known-nil (Some bytes) = refl

prepend_known-append : (xs ys : List ℕ) (rest : Option (List ℕ))
    → prepend_known xs (prepend_known ys rest) ≡ prepend_known (xs ++ ys) rest
prepend_known-append xs ys None = refl
prepend_known-append xs ys (Some bytes) = ap Some (sym (append_assoc xs ys bytes))

-- a read that gave bytes
pub reads_more : (old now new : Reading) (old_left now_left new_left : Option (List ℕ)) (bytes piece : List ℕ) (room : ℕ)
    → ReadsOn old old_left bytes old.ended now now_left
    → new ≡ handed room piece now
    → now_left ≡ prepend_known piece new_left
    → 0 < length piece
    → ReadsOn old old_left (bytes ++ piece) old.ended new new_left
reads_more old now new old_left now_left new_left bytes piece room read next lost some = record {
  begun = ap (λ (r : Reading). r.begun) next ∙ read.begun;
  starts = ap (λ (r : Reading). r.starts) next ∙ read.starts;
  given = ap (λ (r : Reading). r.given) next
      ∙ (ap (λ given. given ++ piece) read.given ∙ append_assoc old.given bytes piece);
  ended = ap (λ (r : Reading). r.ended) next
      ∙ (ap (λ b. now.ended || b) (not_met room piece some) ∙ (or_false now.ended ∙ read.ended));
  behind = λ unmet. ap (λ (r : Reading). r.behind) next
      ∙ (ap (λ b. now.behind || b) (read.ended ∙ unmet) ∙ (or_false now.behind ∙ read.behind unmet));
  left = read.left ∙ (ap (prepend_known bytes) lost ∙ prepend_known-append bytes piece new_left);
}

-- a read that gave nothing
pub reads_end : (old now new : Reading) (old_left now_left new_left : Option (List ℕ)) (bytes piece : List ℕ) (room : ℕ)
    → ReadsOn old old_left bytes old.ended now now_left
    → new ≡ handed room piece now
    → now_left ≡ prepend_known piece new_left
    → piece ≡ []
    → 0 < room
    → ReadsOn old old_left bytes true new new_left
reads_end old now new old_left now_left new_left bytes piece room read next lost none some = record {
  begun = ap (λ (r : Reading). r.begun) next ∙ read.begun;
  starts = ap (λ (r : Reading). r.starts) next ∙ read.starts;
  given = ap (λ (r : Reading). r.given) next
      ∙ (ap (λ xs. now.given ++ xs) none ∙ (append-nil now.given ∙ read.given));
  ended = ap (λ (r : Reading). r.ended) next
      ∙ (ap (λ xs. now.ended || meets_end room xs) none ∙ (ap (λ b. now.ended || b) (met room some) ∙ or_true now.ended));
  behind = λ unmet. ap (λ (r : Reading). r.behind) next
      ∙ (ap (λ b. now.behind || b) (read.ended ∙ unmet) ∙ (or_false now.behind ∙ read.behind unmet));
  left = read.left ∙ ap (prepend_known bytes) (lost ∙ (ap (λ xs. prepend_known xs new_left) none ∙ prepend_known-nil new_left));
}

-- answers that differ
pub ok_not_err : {T : Type 0} (x : T) (e : ReadAll) → ◌≡◌ {A = Result T ReadAll} (Ok x) (Err e) → ⊥
ok_not_err x e same = (cc)

pub other_error : {T : Type 0} (e f : ReadAll) → (e ≡ f → ⊥) → ◌≡◌ {A = Result T ReadAll} (Err e) (Err f) → ⊥
other_error e f differ same = differ (cc)

pub fault_not_long : ReadFault ≡ TooLong → ⊥
fault_not_long e = (cc)

pub fault_not_memory : ReadFault ≡ OutOfMemory → ⊥
fault_not_memory e = (cc)

pub long_not_memory : TooLong ≡ OutOfMemory → ⊥
long_not_memory e = (cc)

-- the failure of a read, against the counts before the reads
pub rose : (old now : Option (List ℕ)) (before at after : List ℕ → ℕ)
    → now ≡ old
    → ((any : List ℕ) → at any ≡ before any)
    → IsSomeAnd now (λ name. Rose (at name) (after name))
    → IsSomeAnd old (λ name. Rose (before name) (after name))
rose None now before at after begun same up = subst (λ (o : Option (List ℕ)). IsSomeAnd o (λ name. Rose (at name) (after name))) begun up
rose (Some name) now before at after begun same up =
    subst (λ (n : ℕ). Rose n (after name)) (same name)
    (subst (λ (o : Option (List ℕ)). IsSomeAnd o (λ any. Rose (at any) (after any))) begun up)

-- the first bytes were taken, and then some of the rest
pub takes_more : (old now new : Writing) (bytes rest : List ℕ) (done count : ℕ)
    → rest ≡ drop done bytes
    → now.taken ≡ old.taken ++ take done bytes
    → new ≡ written rest count now
    → new.taken ≡ old.taken ++ take (done + count) bytes
takes_more old now new bytes rest done count behind first next =
    ap (λ (w : Writing). w.taken) next
    ∙ (ap (λ taken. taken ++ take count rest) first
    ∙ (append_assoc old.taken (take done bytes) (take count rest)
    ∙ (ap (λ more. old.taken ++ (take done bytes ++ take count more)) behind
    ∙ ap (λ all. old.taken ++ all) (sym (take-add done count bytes)))))

snoc_replicate : {A : Type 0} (n : ℕ) (x : A) → replicate n x ++ x ∷ [] ≡ replicate (suc n) x
snoc_replicate zero x = refl
snoc_replicate (suc n) x = ap (λ xs. x ∷ xs) (snoc_replicate n x)

-- one more write that was handed all that wasn't taken yet
pub aims_more : (old now new : Writing) (bytes rest : List ℕ) (done count : ℕ)
    → rest ≡ drop done bytes
    → now.taken ≡ old.taken ++ take done bytes
    → new ≡ written rest count now
    → (writes : ℕ) × (now.aims ≡ old.aims ++ replicate writes (old.taken ++ bytes))
    → (writes : ℕ) × (new.aims ≡ old.aims ++ replicate writes (old.taken ++ bytes))
aims_more old now new bytes rest done count behind first next (writes, are) =
    let all : now.taken ++ rest ≡ old.taken ++ bytes =
    ap (λ taken. taken ++ rest) first
    ∙ (append_assoc old.taken (take done bytes) rest
    ∙ (ap (λ r. old.taken ++ (take done bytes ++ r)) behind ∙ ap (λ r. old.taken ++ r) (take-append-drop done bytes))) in (
      suc writes,
      ap (λ (w : Writing). w.aims) next
          ∙ (ap (λ aims. aims ++ (now.taken ++ rest) ∷ []) are
          ∙ (ap (λ x. (old.aims ++ replicate writes (old.taken ++ bytes)) ++ x ∷ []) all
          ∙ (append_assoc old.aims (replicate writes (old.taken ++ bytes)) ((old.taken ++ bytes) ∷ [])
          ∙ ap (λ xs. old.aims ++ xs) (snoc_replicate writes (old.taken ++ bytes))))),
    )
