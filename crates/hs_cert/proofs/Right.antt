-- The lines of a certificate that was read so far.
use Rattle.std.proofs.Common.{◌≡◌, ◌≢◌, refl, sym, ◌∙◌, ap, subst, ℕ, zero, suc, ◌+◌, ◌-◌, ◌<◌, ◌≤◌, List, [], ◌∷◌, ◌++◌, length, map, codes, decimal, All, Result, Err, IfErr, ◌⊎◌, inl, inr, append_assoc, length-append, arith}
use Rattle.std.specs.declared.cmp.Ordering.{Ordering}
use Rattle.std.proofs.lemmas.Fmt.{decimal_injective}
use Rattle.std.proofs.lemmas.List.{append-nil, append_cancel_left, length-map, map-append}
use Rattle.hs_scheme.specs.Problem.{ProblemData}
use Rattle.hs_table.specs.Entries.{EntryData, InShape, entry_cmp}
use Rattle.hs_table_laws.proofs.Orders.{entry_cmp_total}
use Rattle.hs_weak.specs.Void.{VoidData, void_cmp, IsVoidShape}
use Rattle.hs_text.proofs.VoidOrder.{void_cmp_total}
use Rattle.hs_cert.specs.Certificate.{HasOwnNames, AreNested, IsNested, line_text, pair_text, ended, IsInLine, IsThere, verdict_line, count_line, number_line, IsWithin, pairs_of, SaysCount, Says, IsEntry, IsPair, IsRightItem, IsRight, IsFirstFaulty, IsTableFault, certificate_lines, IsCertificateIn}
use Rattle.hs_cert.specs.declared.fault.TableFault.{TableFault}
use Rattle.hs_cert.specs.declared.fault.Misread.{Misread}
use Rattle.hs_cert.specs.declared.fault.Misread.TheVariants.{Faulty, OutOfMemory}
use Rattle.hs_cert.specs.declared.heading.Form.{Form}
use Rattle.hs_cert.specs.declared.heading.Form.TheVariants.{Full, Compact}
use Rattle.hs_cert.specs.declared.heading.Heading.{Heading}
use Rattle.hs_cert.specs.Misreading.{fault_on}
use Rattle.hs_cert.specs.Front.{IsOfProblem, AreOfRules, head_lines, text_of, Cut, HasHead, HasBegun, IsNextItem}
use Rattle.hs_cert.proofs.Above.{ascending_push}
use Rattle.hs_cert.proofs.Fronts.{first}
use Rattle.hs_cert.proofs.Environments.{all_push}
use Rattle.hs_cert.proofs.Entries.{same_entry}
use Rattle.hs_cert.proofs.Pairs.{same_pair}
use Rattle.hs_cert.proofs.Items.{item_right, no_right}
use Rattle.hs_cert.proofs.LineLemmas.{same_line, cut_push, cut_front, line_at, same_text, there_left, nothing_behind}

-- ---- numbers on lines

same_count : (f g : Form) (n m : ℕ) → n ≤ 1000000 → m ≤ 1000000 → count_line f n ≡ count_line g m → (f ≡ g) × (n ≡ m)
same_count Full Full n m a b e = (refl, decimal_injective n m (omega (arith, a)) (omega (arith, b)) (append_cancel_left (codes "entries ") (decimal n) (decimal m) e))
same_count Full Compact n m a b e = absurd (let f : 101 ≡ 99 = ap first e in omega (arith, f))
same_count Compact Full n m a b e = absurd (let f : 99 ≡ 101 = ap first e in omega (arith, f))
same_count Compact Compact n m a b e = (refl, decimal_injective n m (omega (arith, a)) (omega (arith, b)) (append_cancel_left (codes "compact ") (decimal n) (decimal m) e))

same_number_line : (f : Form) (n m : ℕ) → IsWithin f n → IsWithin f m → number_line f n ≡ number_line f m → n ≡ m
same_number_line Full n m a b e = decimal_injective n m a b (append_cancel_left (codes "checked ") (decimal n) (decimal m) e)
same_number_line Compact n m a b e = decimal_injective n m (omega (arith, a)) (omega (arith, b)) (append_cancel_left (codes "void ") (decimal n) (decimal m) e)

pub one_count : (bytes : List ℕ) (f g : Form) (n m : ℕ) → SaysCount bytes f n → SaysCount bytes g m → (f ≡ g) × (n ≡ m)
one_count bytes f g n m a b = same_count f g n m a.few b.few (same_text bytes 1 (count_line f n) (count_line g m) a.line b.line)

-- a file has one heading
pub one_heading : (bytes : List ℕ) (g h : Heading) → Says bytes g → Says bytes h → (g.form ≡ h.form) × (g.entries ≡ h.entries) × (g.number ≡ h.number)
one_heading bytes g h a b =
    let c = one_count bytes g.form h.form g.entries h.entries a.count b.count in
    let line = same_text bytes 2 (number_line g.form g.number) (number_line h.form h.number) a.line b.line in
    let number = same_number_line h.form g.number h.number (subst (λ f. IsWithin f g.number) c.0 a.within) b.within (sym (ap (λ f. number_line f g.number) c.0) ∙ line) in
    (c.0, c.1, number)

either : (i n : ℕ) → (i < n) ⊎ (n ≤ i)
either i zero = inr (omega arith)
either zero (suc n) = inl (omega arith)
either (suc i) (suc n) = elim (either i n) [
  | inl less ↦ inl (omega (arith, less))
  | inr past ↦ inr (omega (arith, past))
]

-- ---- rows that were read

module _ (p : ProblemData) (has : HasOwnNames p) where
  of_problem : IsOfProblem p p.sorted.names.states
  of_problem = record { is = refl; each = has.each_state; few = has.few }

  of_rules : AreOfRules p p.sorted.names.rules
  of_rules = record { is = refl; each = has.each_rule }

  pub one_entry : (text : List ℕ) (a b : EntryData) → IsEntry p text a → IsEntry p text b → a ≡ b
  one_entry text a b f g = same_entry p p.sorted.names.states of_problem has.states has.few text a b f g

  pub one_pair : (text : List ℕ) (a b : VoidData) → IsPair p text a → IsPair p text b → a ≡ b
  one_pair text a b f g = same_pair p p.sorted.names.states p.sorted.names.rules of_problem of_rules has.states has.rules text a b f g

  module _ (bytes : List ℕ) (h : Heading) (table : List EntryData) (void : List VoidData) (rest : List ℕ) (b : HasBegun p bytes h table void rest) where
    abbrev entry_lines : List (List ℕ)
    entry_lines = head_lines h ++ map (line_text p) table

    abbrev pair_lines : List (List ℕ)
    pair_lines = map (pair_text p) void

    pub says : Says bytes h
    says = record {
      count = record {
        line = line_at bytes (verdict_line ∷ []) (count_line h.form h.entries) (number_line h.form h.number ∷ (map (line_text p) table ++ pair_lines)) rest b.cut;
        few = b.few;
      };
      line = line_at bytes (verdict_line ∷ (count_line h.form h.entries ∷ [])) (number_line h.form h.number) (map (line_text p) table ++ pair_lines) rest b.cut;
      within = b.fits;
    }

    entries_cut : Cut bytes entry_lines (text_of pair_lines ++ rest)
    entries_cut = cut_front bytes entry_lines pair_lines rest b.cut

    entries_are : All (λ e. IsEntry p (line_text p e) e) table
    entries_are = λ k d lt. record { is = refl; shape = b.shape k d lt; nested = b.nested k d lt }

    pairs_are : All (λ v. IsPair p (pair_text p v) v) void
    pairs_are = λ k d lt. record { is = refl; shape = b.void_shape k d lt; nested = b.void_nested k d lt }

    entries_long : length entry_lines ≡ 3 + length table
    entries_long = omega (arith, length-map table (line_text p))

    entry_right : (i : ℕ) → i < length table → IsRightItem (IsEntry p) entry_cmp bytes 3 (suc (suc (suc i)))
    entry_right i lt =
        item_right (line_text p) (IsEntry p) entry_cmp one_entry bytes (head_lines h) table (text_of pair_lines ++ rest) entries_cut entries_are b.ascending i (suc (suc (suc i))) (omega arith) lt

    pair_right : (i m : ℕ) → i ≡ length table + m → m < length void → length table ≡ h.entries → IsRightItem (IsPair p) void_cmp bytes (3 + h.entries) (suc (suc (suc i)))
    pair_right i m at lt all =
        let first : length entry_lines ≡ 3 + h.entries = omega (arith, entries_long, all) in
        subst (λ k. IsRightItem (IsPair p) void_cmp bytes k (suc (suc (suc i)))) first
        (item_right (pair_text p) (IsPair p) void_cmp one_pair bytes entry_lines void rest b.cut pairs_are b.void_ascending m (suc (suc (suc i))) (omega (arith, at, entries_long)) lt)

    -- so far each line is right
    pub right_so_far : (k : ℕ) → k < 3 + (length table + length void) → IsRight p bytes k
    right_so_far zero lt = line_at bytes [] verdict_line (count_line h.form h.entries ∷ (number_line h.form h.number ∷ (map (line_text p) table ++ pair_lines))) rest b.cut
    right_so_far (suc zero) lt = (h.form, h.entries, says.count)
    right_so_far (suc (suc zero)) lt = (h, says)
    right_so_far (suc (suc (suc i))) lt = λ g s.
        let same = one_heading bytes g h s says in
        let pairs : pairs_of g.form g.number ≡ pairs_of h.form h.number = λ j. pairs_of (same.0 j) (same.2 j) in (
          λ lower. elim (either i (length table)) [
            | inl less ↦ entry_right i less
            | inr past ↦ absurd (let all = b.behind (omega (arith, lt, past)) in omega (arith, all, past, lower, same.1))
          ],
          λ past lower.
              let all = b.behind (omega (arith, lt, past, same.1, b.within)) in
              subst (λ n. IsRightItem (IsPair p) void_cmp bytes (3 + n) (suc (suc (suc i)))) (sym same.1)
              (pair_right i (i - length table) (omega (arith, past, same.1, all)) (omega (arith, lt, past, same.1, all)) all),
          λ past. absurd (omega (arith, past, lt, b.within, b.pairs, same.1, pairs)),
        )

    -- the next line is the first faulty one where no pair stands there
    pub first_faulty_pair : length table ≡ h.entries → length void < pairs_of h.form h.number
        → ((v : VoidData) (behind : List ℕ) → IsNextItem (IsPair p) void_cmp void rest v behind → ⊥) → IsFirstFaulty p bytes (h.entries + length void + 4)
    first_faulty_pair all more nothing =
        record {
          place = suc (suc (suc (h.entries + length void)));
          counted = omega arith;
          faulty = λ right.
              let due = (right h says).1 (omega arith) (omega (arith, more)) in
              let first : 3 + h.entries ≡ length entry_lines = omega (arith, entries_long, all) in
              no_right (pair_text p) (IsPair p) void_cmp one_pair bytes entry_lines void rest b.cut pairs_are b.void_ascending (suc (suc (suc (h.entries + length void)))) (omega (arith, entries_long, all)) nothing
              (subst (λ k. IsRightItem (IsPair p) void_cmp bytes k (suc (suc (suc (h.entries + length void))))) first due);
          first = λ k lt. right_so_far k (omega (arith, lt, all));
        }

    all_long : length (entry_lines ++ pair_lines) ≡ suc (suc (suc (length table + length void)))
    all_long = length-append entry_lines pair_lines ∙ omega (arith, entries_long, length-map void (pair_text p))

    -- and where nothing is due there, and something is left
    pub first_beyond : length table ≡ h.entries → length void ≡ pairs_of h.form h.number → rest ≢ [] → IsFirstFaulty p bytes (h.entries + pairs_of h.form h.number + 4)
    first_beyond all whole some =
        record {
          place = suc (suc (suc (length table + length void)));
          counted = omega (arith, all, whole);
          faulty = λ right. (right h says).2 (omega (arith, all, whole)) (subst (IsThere bytes) all_long (there_left bytes (entry_lines ++ pair_lines) rest b.cut some));
          first = λ k lt. right_so_far k (omega (arith, lt));
        }

    pub certified : length table ≡ h.entries → length void ≡ pairs_of h.form h.number → rest ≡ [] → IsCertificateIn h.form p bytes h.number table void
    certified all whole end =
        let lines = λ (k : ℕ). (let ls : List (List ℕ) = verdict_line ∷ (count_line h.form k ∷ (number_line h.form h.number ∷ (map (line_text p) table ++ pair_lines))) in ls) in
        record {
          are = b.cut.are ∙ (ap (λ (x : List ℕ). text_of (lines h.entries) ++ x) end ∙ (append-nil (text_of (lines h.entries)) ∙ ap (λ k. text_of (lines k)) (sym all)));
          clear = subst (λ k. All IsInLine (lines k)) (sym all) b.cut.clear;
          few = omega (arith, all, b.few);
          within = b.fits;
          counted = whole;
          shape = b.shape;
          nested = b.nested;
          ascending = b.ascending;
          void_shape = b.void_shape;
          void_nested = b.void_nested;
          void_ascending = b.void_ascending;
        }

    -- no line is faulty where that is all
    pub right_to_the_end : length table ≡ h.entries → length void ≡ pairs_of h.form h.number → rest ≡ [] → (k : ℕ) → IsRight p bytes k
    right_to_the_end all whole end k = go k (cases k)
      where
        cases : (k : ℕ) → (k < 3 + (length table + length void)) ⊎ ((i : ℕ) × (k ≡ suc (suc (suc i))) × (length table + length void ≤ i))
        cases zero = inl (omega arith)
        cases (suc zero) = inl (omega arith)
        cases (suc (suc zero)) = inl (omega arith)
        cases (suc (suc (suc i))) = elim (either i (length table + length void)) [
          | inl less ↦ inl (omega (arith, less))
          | inr past ↦ inr (i, refl, past)
        ]

        spelled : bytes ≡ text_of (entry_lines ++ pair_lines)
        spelled = b.cut.are ∙ (ap (λ (x : List ℕ). text_of (entry_lines ++ pair_lines) ++ x) end ∙ append-nil (text_of (entry_lines ++ pair_lines)))

        beyond : (i : ℕ) → length table + length void ≤ i → IsRight p bytes (suc (suc (suc i)))
        beyond i past = λ g s.
            let same = one_heading bytes g h s says in
            let pairs : pairs_of g.form g.number ≡ pairs_of h.form h.number = λ j. pairs_of (same.0 j) (same.2 j) in (
              λ lower. absurd (omega (arith, lower, past, same.1, all)),
              λ from lower. absurd (omega (arith, lower, past, same.1, all, pairs, whole)),
              λ from there. there.some (nothing_behind (entry_lines ++ pair_lines) there.before there.behind b.cut.clear there.clear (omega (arith, there.long, past, all_long)) (sym spelled ∙ there.are)),
            )

        go : (k : ℕ) → (k < 3 + (length table + length void)) ⊎ ((i : ℕ) × (k ≡ suc (suc (suc i))) × (length table + length void ≤ i)) → IsRight p bytes k
        go k (inl lt) = right_so_far k lt
        go k (inr past) = subst (IsRight p bytes) (sym past.1) (beyond past.0 past.2)

    -- one more pair
    pub pairs_next : (behind : List ℕ) (v : VoidData) → length table ≡ h.entries → length void < pairs_of h.form h.number → IsNextItem (IsPair p) void_cmp void rest v behind
        → HasBegun p bytes h table (void ++ v ∷ []) behind
    pairs_next behind v all more next =
        record {
          cut = subst (λ (ls : List (List ℕ)). Cut bytes ls behind)
              (append_assoc entry_lines pair_lines (pair_text p v ∷ []) ∙ ap (λ (ls : List (List ℕ)). entry_lines ++ ls) (sym (map-append (pair_text p) void (v ∷ []))))
              (cut_push bytes (entry_lines ++ pair_lines) rest (pair_text p v) behind b.cut (subst IsInLine next.item.is next.inside) (next.spelled ∙ ap (λ (t : List ℕ). ended t ++ behind) next.item.is));
          few = b.few;
          fits = b.fits;
          within = b.within;
          pairs = omega (arith, more, length-append void (v ∷ []));
          behind = λ some. all;
          shape = b.shape;
          nested = b.nested;
          ascending = b.ascending;
          void_shape = all_push (IsVoidShape p) void v b.void_shape next.item.shape;
          void_nested = all_push (λ u. AreNested u.env) void v b.void_nested next.item.nested;
          void_ascending = ascending_push void_cmp void_cmp_total void v b.void_ascending next.above;
        }

  -- ---- entries, before any pair

  module _ (bytes : List ℕ) (h : Heading) (table : List EntryData) (rest : List ℕ) (b : HasBegun p bytes h table [] rest) where
    before_pairs : Cut bytes (head_lines h ++ map (line_text p) table) rest
    before_pairs = entries_cut bytes h table [] rest b

    -- the next line is the first faulty one where no entry stands there
    pub first_faulty_entry : length table < h.entries → ((e : EntryData) (behind : List ℕ) → IsNextItem (IsEntry p) entry_cmp table rest e behind → ⊥) → IsFirstFaulty p bytes (length table + 4)
    first_faulty_entry more nothing =
        record {
          place = suc (suc (suc (length table)));
          counted = omega arith;
          faulty = λ right.
              no_right (line_text p) (IsEntry p) entry_cmp one_entry bytes (head_lines h) table rest before_pairs (entries_are bytes h table [] rest b) b.ascending (suc (suc (suc (length table)))) (omega arith) nothing
              ((right h (says bytes h table [] rest b)).0 more);
          first = λ k lt. right_so_far bytes h table [] rest b k (omega (arith, lt));
        }

    pub begun_next : (behind : List ℕ) (e : EntryData) → length table < h.entries → IsNextItem (IsEntry p) entry_cmp table rest e behind → HasBegun p bytes h (table ++ e ∷ []) [] behind
    begun_next behind e more next =
        record {
          cut = subst (λ (ls : List (List ℕ)). Cut bytes ls behind)
              (append_assoc (head_lines h) (map (line_text p) table) (line_text p e ∷ []) ∙ (ap (λ (ls : List (List ℕ)). head_lines h ++ ls) (sym (map-append (line_text p) table (e ∷ []))) ∙ sym (append-nil (head_lines h ++ map (line_text p) (table ++ e ∷ [])))))
              (cut_push bytes (head_lines h ++ map (line_text p) table) rest (line_text p e) behind before_pairs (subst IsInLine next.item.is next.inside) (next.spelled ∙ ap (λ (t : List ℕ). ended t ++ behind) next.item.is));
          few = b.few;
          fits = b.fits;
          within = omega (arith, more, length-append table (e ∷ []));
          pairs = b.pairs;
          behind = λ some. absurd (omega (arith, some));
          shape = all_push (InShape p) table e b.shape next.item.shape;
          nested = all_push IsNested table e b.nested next.item.nested;
          ascending = ascending_push entry_cmp entry_cmp_total table e b.ascending next.above;
          void_shape = b.void_shape;
          void_nested = b.void_nested;
          void_ascending = b.void_ascending;
        }

  -- ---- laws

  pub begun_of : (form : Form) (bytes : List ℕ) (number : ℕ) (table : List EntryData) (void : List VoidData) → IsCertificateIn form p bytes number table void
      → HasBegun p bytes (record { form = form; entries = length table; number = number }) table void []
  begun_of form bytes number table void c =
      record {
        cut = record { are = c.are ∙ sym (append-nil (text_of (certificate_lines p form number table void))); clear = c.clear };
        few = c.few;
        fits = c.within;
        within = omega arith;
        pairs = omega (arith, c.counted);
        behind = λ some. refl;
        shape = c.shape;
        nested = c.nested;
        ascending = c.ascending;
        void_shape = c.void_shape;
        void_nested = c.void_nested;
        void_ascending = c.void_ascending;
      }

  -- no line of a certificate is faulty
  pub all_right : (form : Form) (bytes : List ℕ) (number : ℕ) (table : List EntryData) (void : List VoidData) → IsCertificateIn form p bytes number table void → (k : ℕ) → IsRight p bytes k
  all_right form bytes number table void c =
      right_to_the_end bytes (record { form = form; entries = length table; number = number }) table void [] (begun_of form bytes number table void c) refl c.counted refl

-- the item that stands on a line that was read
pub next_item : {X : Type 0} (Is : List ℕ → X → Type 0) (cmp : X → X → Ordering) (before : List X) (bytes line behind : List ℕ) (x : X) (rest : List ℕ) → bytes ≡ ended line ++ behind → IsInLine line
    → IsNextItem Is cmp before bytes x rest → Is line x
next_item Is cmp before bytes line behind x rest spelled inside h =
    subst (λ (t : List ℕ). Is t x) (sym (same_line line h.text behind rest inside h.inside (sym spelled ∙ h.spelled)).0) h.item

-- no entry was read yet
pub begun : (p : ProblemData) (bytes : List ℕ) (h : Heading) (rest : List ℕ) → HasHead bytes h rest → HasBegun p bytes h [] [] rest
begun p bytes h rest head =
    record {
      cut = head.cut;
      few = head.few;
      fits = head.fits;
      within = omega arith;
      pairs = omega arith;
      behind = λ some. absurd (omega (arith, some));
      shape = λ k d lt. absurd (omega (arith, lt));
      nested = λ k d lt. absurd (omega (arith, lt));
      ascending = λ i j d less within. absurd (omega (arith, less, within));
      void_shape = λ k d lt. absurd (omega (arith, lt));
      void_nested = λ k d lt. absurd (omega (arith, lt));
      void_ascending = λ i j d less within. absurd (omega (arith, less, within));
    }

-- the fault of a callee, handed on by `?`
pub fault_of : {T : Type 0} (r : Result T TableFault) (e f : TableFault) (P : TableFault → Type 0) → r ≡ Err e → e ≡ f → P f → IfErr r P
fault_of r e f P is same h = subst (λ s. IfErr s P) (sym is) (subst P (sym same) h)

pub on_fault : (e : Misread) (line : ℕ) (p : ProblemData) (bytes : List ℕ) → (e ≡ Faulty → IsFirstFaulty p bytes line) → IsTableFault p bytes (fault_on e line)
on_fault Faulty line p bytes f = f refl
on_fault OutOfMemory line p bytes f = tt
