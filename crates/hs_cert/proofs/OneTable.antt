-- A file is a certificate of one table at most.
use Rattle.std.proofs.Common.{◌≡◌, refl, sym, ◌∙◌, ap, ℕ, suc, ◌+◌, List, [], ◌∷◌, ◌++◌, length, map, All, inl, inr, arith}
use Rattle.std.proofs.lemmas.List.{length-map}
use Rattle.hs_scheme.specs.Problem.{ProblemData}
use Rattle.hs_table.specs.Entries.{EntryData, entry_cmp}
use Rattle.hs_weak.specs.Void.{VoidData, void_cmp}
use Rattle.hs_cert.specs.declared.heading.Form.{Form}
use Rattle.hs_cert.specs.declared.heading.Heading.{Heading}
use Rattle.hs_cert.specs.Certificate.{HasOwnNames, line_text, pair_text, ended, IsInLine, Says, IsEntry, IsPair, IsFirstFaulty, certificate_lines, IsCertificateIn}
use Rattle.hs_cert.specs.Front.{text_of}
use Rattle.hs_cert.proofs.Fronts.{behind_first, all_behind, order}
use Rattle.hs_cert.proofs.LineLemmas.{same_line}
use Rattle.hs_cert.proofs.Items.{same_items}
use Rattle.hs_cert.proofs.Right.{one_heading, one_entry, one_pair, begun_of, says, all_right}

no_text : (y r : List ℕ) → [] ≡ ended y ++ r → ⊥
no_text [] r e = let f : 0 ≡ suc (length r) = ap length e in omega (arith, f)
no_text (b ∷ y) r e = let f : 0 ≡ suc (length (ended y ++ r)) = ap length e in omega (arith, f)

-- lines have one text, and a text one list of lines
same_lines : (xs ys : List (List ℕ)) → All IsInLine xs → All IsInLine ys → text_of xs ≡ text_of ys → xs ≡ ys
same_lines [] [] cx cy e = refl
same_lines [] (y ∷ ys) cx cy e = absurd (no_text y (text_of ys) e)
same_lines (x ∷ xs) [] cx cy e = absurd (no_text x (text_of xs) (sym e))
same_lines (x ∷ xs) (y ∷ ys) cx cy e =
    let p = same_line x y (text_of xs) (text_of ys) (cx 0 [] (omega arith)) (cy 0 [] (omega arith)) e in
    λ i. p.0 i ∷ same_lines xs ys (all_behind IsInLine x xs cx) (all_behind IsInLine y ys cy) p.1 i

abbrev first_line : List (List ℕ) → List ℕ
first_line [] = []
first_line (x ∷ xs) = x

same_parts : (xs ys rs ss : List (List ℕ)) → length xs ≡ length ys → xs ++ rs ≡ ys ++ ss → (xs ≡ ys) × (rs ≡ ss)
same_parts [] [] rs ss l e = (refl, e)
same_parts [] (y ∷ ys) rs ss l e = absurd (omega (arith, l))
same_parts (x ∷ xs) [] rs ss l e = absurd (omega (arith, l))
same_parts (x ∷ xs) (y ∷ ys) rs ss l e =
    let p = same_parts xs ys rs ss (omega (arith, l)) (ap behind_first e) in (λ i. ap first_line e i ∷ p.0 i, p.1)

module _ (p : ProblemData) (has : HasOwnNames p) where
  abbrev heading : Form → ℕ → ℕ → Heading
  heading form n m = record { form = form; entries = n; number = m }

  said : (form : Form) (bytes : List ℕ) (m : ℕ) (table : List EntryData) (void : List VoidData) → IsCertificateIn form p bytes m table void → Says bytes (heading form (length table) m)
  said form bytes m table void c = says p has bytes (heading form (length table) m) table void [] (begun_of p has form bytes m table void c)

  pub one_table : (bytes : List ℕ) (form kind : Form) (m n : ℕ) (one other : List EntryData) (void pairs : List VoidData) → IsCertificateIn form p bytes m one void → IsCertificateIn kind p bytes n other pairs
      → (form ≡ kind) × (m ≡ n) × (one ≡ other) × (void ≡ pairs)
  one_table bytes form kind m n one other void pairs a b =
      let heads = one_heading bytes (heading form (length one) m) (heading kind (length other) n) (said form bytes m one void a) (said kind bytes n other pairs b) in
      let lines = same_lines (certificate_lines p form m one void) (certificate_lines p kind n other pairs) a.clear b.clear (sym a.are ∙ b.are) in
      let rows : map (line_text p) one ++ map (pair_text p) void ≡ map (line_text p) other ++ map (pair_text p) pairs = ap (λ (ls : List (List ℕ)). behind_first (behind_first (behind_first ls))) lines in
      let parts = same_parts (map (line_text p) one) (map (line_text p) other) (map (pair_text p) void) (map (pair_text p) pairs)
      (length-map one (line_text p) ∙ (heads.1 ∙ sym (length-map other (line_text p)))) rows in (
        heads.0,
        heads.2,
        same_items (line_text p) (IsEntry p) entry_cmp (one_entry p has) one other (λ k d lt. record { is = refl; shape = a.shape k d lt; nested = a.nested k d lt })
            (λ k d lt. record { is = refl; shape = b.shape k d lt; nested = b.nested k d lt }) parts.0,
        same_items (pair_text p) (IsPair p) void_cmp (one_pair p has) void pairs (λ k d lt. record { is = refl; shape = a.void_shape k d lt; nested = a.void_nested k d lt })
            (λ k d lt. record { is = refl; shape = b.void_shape k d lt; nested = b.void_nested k d lt }) parts.1,
      )

  pub no_fault : (form : Form) (bytes : List ℕ) (m : ℕ) (table : List EntryData) (void : List VoidData) (line : ℕ) → IsCertificateIn form p bytes m table void → IsFirstFaulty p bytes line → ⊥
  no_fault form bytes m table void line c f = f.faulty (all_right p has form bytes m table void c f.place)

pub one_first : (p : ProblemData) (bytes : List ℕ) (one other : ℕ) → IsFirstFaulty p bytes one → IsFirstFaulty p bytes other → one ≡ other
one_first p bytes one other a b = elim (order a.place b.place) [
  | inl less ↦ absurd (a.faulty (b.first a.place less))
  | inr rest ↦ elim rest [
    | inl same ↦ a.counted ∙ (ap (λ k. k + 1) same ∙ sym b.counted)
    | inr more ↦ absurd (b.faulty (a.first b.place more))
  ]
]
