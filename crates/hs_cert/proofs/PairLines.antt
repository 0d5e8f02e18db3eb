-- Where the lines of void environments stand.
use Rattle.std.proofs.Common.{◌≡◌, sym, ◌∙◌, ap, subst, ℕ, ◌+◌, ◌<◌, List, [], ◌∷◌, ◌++◌, length, map, take, drop, suc, slice_get, Option, Some, None, IfSome, IfNone, append_assoc, length-append, arith}
use Rattle.std.proofs.Math.Seq.{split_at}
use Rattle.std.proofs.lemmas.List.{append-nil, length-map, length-take, map-append}
use Rattle.std.proofs.lemmas.Option.{slice_get_within, get_or_from_slice_get}
use Rattle.std.specs.List.{flat_map}
use Rattle.hs_scheme.specs.Problem.{ProblemData}
use Rattle.hs_table.specs.Entries.{EntryData}
use Rattle.hs_weak.specs.Void.{VoidData}
use Rattle.hs_cert.specs.declared.heading.Form.{Form}
use Rattle.hs_cert.specs.declared.heading.Form.TheVariants.{Compact}
use Rattle.hs_cert.specs.Certificate.{IsLine, IsInLine, IsCertificateIn, IsCompactCertificate, ended, verdict_line, count_line, number_line, line_text, pair_text}
use Rattle.hs_cert.specs.Front.{Cut}
use Rattle.hs_cert.proofs.Items.{item_here}
use Rattle.hs_cert.proofs.LineLemmas.{line_at, cut_push, next_line}

-- a line before another one
pub earlier_line : (bytes : List ℕ) (k i : ℕ) (a : List ℕ) → IsLine bytes k a → i < k → (b : List ℕ) × IsLine bytes i b
earlier_line bytes k i a f lt =
    let r = item_here f.before i (omega (arith, lt, f.long)) in
    let cut : Cut bytes (r.0 ++ r.1 ∷ r.2) (ended a ++ f.behind) = subst (λ (ls : List (List ℕ)). Cut bytes ls (ended a ++ f.behind)) r.3 (record { are = f.are; clear = f.clear }) in
    (r.1, subst (λ n. IsLine bytes n r.1) r.4 (line_at bytes r.0 r.1 r.2 (ended a ++ f.behind) cut))

-- what stands behind the first lines
module _ (bytes : List ℕ) (before : List (List ℕ)) (rest : List ℕ) (cut : Cut bytes before rest) (n : ℕ) (long : length before ≡ n) where
  pub line_next : (line behind : List ℕ) → rest ≡ ended line ++ behind → IsInLine line → IsLine bytes n line
  line_next line behind is inside = subst (λ k. IsLine bytes k line) long (line_at bytes before line [] behind (cut_push bytes before rest line behind cut inside is))

  pub no_next : ((line behind : List ℕ) → rest ≡ ended line ++ behind → ⊥) → (text : List ℕ) → IsLine bytes n text → ⊥
  no_next nothing text line = let r = next_line bytes before rest n text cut long line in nothing text r.0 r.1

  pub no_later : ((line behind : List ℕ) → rest ≡ ended line ++ behind → ⊥) → (k : ℕ) → n < k → (text : List ℕ) → IsLine bytes k text → ⊥
  no_later nothing k lt text line = let e = earlier_line bytes k n text line lt in no_next nothing e.0 e.1

  pub some_next : {X : Type 0} (f : X → List ℕ) (o : Option X) (new : List ℕ) → IfSome o (λ x. rest ≡ ended (f x) ++ new) → IfSome o (λ x. IsInLine (f x)) → IfSome o (λ x. IsLine bytes n (f x))
  some_next f None new some inside = tt
  some_next f (Some x) new some inside = line_next (f x) new some inside

pub if_none : {X : Type 0} {A : Type 0} (o : Option X) → A → IfNone o A
if_none None h = h
if_none (Some x) h = tt

pub none_weaker : {X : Type 0} {A B : Type 0} (o : Option X) → (A → B) → IfNone o A → IfNone o B
none_weaker None f h = f h
none_weaker (Some x) f h = tt

module _ (p : ProblemData) (bytes : List ℕ) (form : Form) (number : ℕ) (table : List EntryData) (void : List VoidData) (c : IsCertificateIn form p bytes number table void) where
  abbrev before : List (List ℕ)
  before = verdict_line ∷ (count_line form (length table) ∷ (number_line form number ∷ map (line_text p) table))

  -- behind three lines and those of the entries
  pair_line : (place : ℕ) (v : VoidData) → slice_get void place ≡ Some v → IsLine bytes (3 + length table + place) (pair_text p v)
  pair_line place v at =
      let lt = slice_get_within void place v at in
      let front = take place void in
      let behind = drop (suc place) void in
      let is : void ≡ front ++ v ∷ behind = split_at void place v lt ∙ ap (λ (w : VoidData). front ++ w ∷ behind) (get_or_from_slice_get void place v v at) in
      let split : before ++ map (pair_text p) void ≡ (before ++ map (pair_text p) front) ++ pair_text p v ∷ map (pair_text p) behind =
      ap (λ (ls : List (List ℕ)). before ++ ls) (ap (map (pair_text p)) is ∙ map-append (pair_text p) front (v ∷ behind)) ∙ sym (append_assoc before (map (pair_text p) front) (pair_text p v ∷ map (pair_text p) behind)) in
      let whole : Cut bytes (before ++ map (pair_text p) void) [] = record { are = c.are ∙ sym (append-nil (flat_map ended (before ++ map (pair_text p) void))); clear = c.clear } in
      let cut : Cut bytes ((before ++ map (pair_text p) front) ++ pair_text p v ∷ map (pair_text p) behind) [] = subst (λ (ls : List (List ℕ)). Cut bytes ls []) split whole in
      let long : length (before ++ map (pair_text p) front) ≡ 3 + length table + place =
      omega (arith, length-append before (map (pair_text p) front), length-map front (pair_text p), length-map table (line_text p), length-take place void, lt) in
      subst (λ n. IsLine bytes n (pair_text p v)) long (line_at bytes (before ++ map (pair_text p) front) (pair_text p v) (map (pair_text p) behind) [] cut)

-- so in a certificate of acceptance
pub compact_pair_line : (p : ProblemData) (bytes : List ℕ) (table : List EntryData) (void : List VoidData) → IsCompactCertificate p bytes table void → (place : ℕ) (v : VoidData) → slice_get void place ≡ Some v
    → IsLine bytes (3 + length table + place) (pair_text p v)
compact_pair_line p bytes table void c place v at = pair_line p bytes Compact (length void) table void c place v at
