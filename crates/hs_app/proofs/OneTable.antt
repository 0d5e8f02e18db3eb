-- Two reports of one problem by its whole least table are the same, whatever the number of workers.
use Rattle.std.proofs.Common.{◌≡◌, refl, sym, ◌∙◌, ap, subst, ℕ, ◌+◌, ◌-◌, ◌≤◌, Bool, true, false, List, [], ◌++◌, append_assoc, append-nil, length, Option, Some, None, Contains, ◌↔◌, inl, inr, arith}
use Rattle.std.specs.Prelude.{if◌then◌else◌, ◌^◌, min, codes}
use Rattle.std.specs.List.{flat_map}
use Rattle.hs_scheme.specs.declared.term.Head.TheVariants.{Tm}
use Rattle.hs_scheme.specs.declared.term.Rule.{Rule}
use Rattle.hs_scheme.specs.acceptance.FailingPath.{FailingPathData}
use Rattle.hs_scheme.specs.acceptance.Failing.{IsFailingPath}
use Rattle.hs_scheme.specs.acceptance.Run.{start}
use Rattle.hs_scheme.specs.acceptance.Steps.{Path, Reaches, child_numbers}
use Rattle.hs_scheme.specs.acceptance.Transition.{TransitionData}
use Rattle.hs_scheme.specs.flow.Points.{IsPoints}
use Rattle.hs_scheme.specs.sorting.Sorted.{SortedData}
use Rattle.hs_scheme.specs.Problem.{ProblemData}
use Rattle.hs_scheme.specs.Tree.{node}
use Rattle.hs_steps.proofs.PathLemmas.{same_end}
use Rattle.hs_table.specs.Entries.{EntryData, entry_cmp}
use Rattle.hs_table.specs.Follows.{Support}
use Rattle.hs_table.specs.Tables.{IsLeastTable, IsInstanceCount, Exceeds}
use Rattle.hs_table_laws.proofs.Least.{least_same, least_decides, supported_fewer}
use Rattle.hs_table_laws.proofs.Orders.{entry_cmp_total, entry_same}
use Rattle.hs_table_laws.proofs.Places.{fewer}
use Rattle.hs_table_laws.proofs.Sets.{ascending_same}
use Rattle.hs_verdict.specs.Naming.{NamesPath}
use Rattle.hs_verdict.proofs.Same.{naming_same}
use Rattle.hs_rank.specs.Canonical.{IsCanonicalLog}
use Rattle.hs_rank.proofs.Places.{canonical_same, supports_same}
use Rattle.hs_checker.specs.Checked.{IsCount}
use Rattle.hs_checker.proofs.CountLemmas.{instance_moved}
use Rattle.hs_text.specs.Report.{IsTableText, IsReport, HasCompactText, entry_line, verdict_lines, number_line_if, minimal_line_if, summary}
use Rattle.hs_text.specs.declared.minimal.Minimal.{Minimal}
use Rattle.hs_text.specs.declared.minimal.Minimal.TheVariants.{Table, More}
use Rattle.hs_text.specs.declared.verdict.Verdict as shown
use Rattle.hs_text.specs.declared.verdict.Verdict.TheVariants as shown_as
use Rattle.hs_words.specs.declared.options.Settings.{Settings}
use Rattle.hs_app.specs.declared.verdict.Decision.{Decision}
use Rattle.hs_app.specs.declared.verdict.Decision.TheVariants.{Accepted, Rejected, Long}
use Rattle.hs_app.specs.Problems.{IsRemoved}
use Rattle.hs_app.specs.Verdict.{IsSought, IsShown, ReportsAccepted, ReportsRejected, ReportsLong, ReportsBy}
use Rattle.hs_app.specs.OneReport.{IsByTable, IsToldAround, AreAlike}

pub not_both : (b : Bool) → b ≡ true → b ≡ false → ⊥
not_both b e f = let g : true ≡ false = sym e ∙ f in (cc)

-- ---- tables with the same entries

abbrev HaveSame : List EntryData → List EntryData → Type 0
HaveSame T U = (e : EntryData) → Contains T e ↔ Contains U e

module _ (p : ProblemData) (T U : List EntryData) (same : HaveSame T U) (m n : ℕ) where
  at_most : (a : IsInstanceCount p T m) (b : IsInstanceCount p U n) → length a.all ≤ length b.all
  at_most a b = fewer a.all b.all a.distinct (λ x there. (b.exact x.0 x.1).1 (instance_moved p T U (λ e shape c. (same e).0 c) x.0 x.1 ((a.exact x.0 x.1).0 there)))

back : (T U : List EntryData) → HaveSame T U → HaveSame U T
back T U same e = ((same e).1, (same e).0)

one_total : (p : ProblemData) (T U : List EntryData) → HaveSame T U → (m n : ℕ) → IsInstanceCount p T m → IsInstanceCount p U n → m ≡ n
one_total p T U same m n a b = omega (arith, at_most p T U same m n a b, at_most p U T (back T U same) n m b a, a.count, b.count)

one_count : (p : ProblemData) (T U : List EntryData) → HaveSame T U → (m n : ℕ) → IsCount p T m → IsCount p U n → m ≡ n
one_count p T U same m n a b = a.is ∙ (ap (λ (k : ℕ). min k (2 ^ 64 - 1)) (one_total p T U same a.total b.total a.instances b.instances) ∙ sym b.is)

as_long : (p : ProblemData) (T U : List EntryData) → IsLeastTable p T → IsLeastTable p U → length T ≡ length U
as_long p T U t u = omega (arith, supported_fewer p T U t.supported u.closed, supported_fewer p U T u.supported t.closed)

-- ---- the text of a report

lines_same : (p : ProblemData) (T U : List EntryData) → HaveSame T U → (one other : List ℕ) → IsTableText p T one → IsTableText p U other → one ≡ other
lines_same p T U same one other a b =
    let entries = ascending_same entry_cmp entry_cmp_total entry_same a.entries b.entries a.ascending b.ascending
    (λ e. ((λ c. (b.same e).1 ((same e).0 ((a.same e).0 c))), (λ c. (a.same e).1 ((same e).1 ((b.same e).0 c))))) in
    a.is ∙ (ap (flat_map (entry_line p)) entries ∙ sym b.is)

report_same : (p : ProblemData) (v : shown.Verdict) (listed : Bool) (T U : List EntryData) → HaveSame T U → (removed : Option ℕ) (one other : List ℕ)
    → IsReport p v (if listed then Some T else None) removed None one → IsReport p v (if listed then Some U else None) removed None other → one ≡ other
report_same p v false T U same removed one other a b = a ∙ sym b
report_same p v true T U same removed one other a b =
    a.1.1 ∙ (ap (λ (lines : List ℕ). summary p v removed None ++ lines) (lines_same p T U same a.0 b.0 a.1.0 b.1.0) ∙ sym b.1.1)

-- the lines before that on a compact list
abbrev told_before : ProblemData → shown.Verdict → Option ℕ → List ℕ
told_before p v removed = verdict_lines p.sorted.names v ++ number_line_if (codes "simplified ") removed

regroup : (v n m lines list : List ℕ) → ((v ++ (n ++ m)) ++ lines) ++ list ≡ (v ++ n) ++ (m ++ (lines ++ list))
regroup v n m lines list =
    append_assoc (v ++ (n ++ m)) lines list
    ∙ (ap (λ (xs : List ℕ). xs ++ (lines ++ list)) (sym (append_assoc v n m)) ∙ append_assoc (v ++ n) m (lines ++ list))

unlisted : (v n m : List ℕ) → v ++ (n ++ m) ≡ (v ++ n) ++ (m ++ [])
unlisted v n m = sym (append_assoc v n m) ∙ ap (λ (xs : List ℕ). (v ++ n) ++ xs) (sym (append-nil m))

-- without a list
bare : (v n m lines : List ℕ) → (v ++ (n ++ m)) ++ lines ≡ (v ++ n) ++ (m ++ (lines ++ []))
bare v n m lines = sym (append-nil ((v ++ (n ++ m)) ++ lines)) ∙ regroup v n m lines []

module _ (p : ProblemData) (v : shown.Verdict) (removed : Option ℕ) where
  with_table : (minimal : Option Minimal) (lines text : List ℕ) → HasCompactText p minimal (summary p v removed minimal ++ lines) text
      → IsToldAround (told_before p v removed) lines text
  with_table None lines text h =
      (None, ([], (inl refl, h ∙ bare (verdict_lines p.sorted.names v) (number_line_if (codes "simplified ") removed) [] lines)))
  with_table (Some (More budget)) lines text h =
      (Some (More budget), ([], (inl refl, h ∙ bare (verdict_lines p.sorted.names v) (number_line_if (codes "simplified ") removed) (minimal_line_if (Some (More budget))) lines)))
  with_table (Some (Table C)) lines text h = (
    Some (Table C),
    (
      codes "compact\n" ++ h.0,
      (
        inr (h.0, refl),
        h.1.1
            ∙ regroup (verdict_lines p.sorted.names v) (number_line_if (codes "simplified ") removed) (minimal_line_if (Some (Table C))) lines (codes "compact\n" ++ h.0),
      ),
    ),
  )

  reports_alike : (listed : Bool) (T U : List EntryData) → HaveSame T U → (minimal also : Option Minimal) (one other : List ℕ)
      → IsReport p v (if listed then Some T else None) removed minimal one → IsReport p v (if listed then Some U else None) removed also other → AreAlike one other
  reports_alike false T U same minimal also one other a b =
      let verdict = verdict_lines p.sorted.names v in
      let number = number_line_if (codes "simplified ") removed in
      let mine : IsToldAround (told_before p v removed) [] one = (minimal, ([], (inl refl, a ∙ unlisted verdict number (minimal_line_if minimal)))) in
      let its : IsToldAround (told_before p v removed) [] other = (also, ([], (inl refl, b ∙ unlisted verdict number (minimal_line_if also)))) in
      (told_before p v removed, [], (mine, its))
  reports_alike true T U same minimal also one other a b =
      let mine = subst (λ (lines : List ℕ). IsToldAround (told_before p v removed) lines one) (lines_same p T U same a.0 b.0 a.1.0 b.1.0) (with_table minimal a.0 one a.1.1) in
      (told_before p v removed, b.0, (mine, with_table also b.0 other b.1.1))

not_sought : (settings : Settings) (p : ProblemData) (minimal : Option Minimal) → settings.minimal ≡ false → IsSought settings p minimal → minimal ≡ None
not_sought settings p None e h = refl
not_sought settings p (Some (Table C)) e h = absurd (not_both settings.minimal h.0 e)
not_sought settings p (Some (More budget)) e h = absurd (not_both settings.minimal h.0 e)

-- how much weight was taken off
pub one_removed : (simplify : Bool) (s t : SortedData) (m n : Option ℕ) → IsRemoved simplify s t m → IsRemoved simplify s t n → m ≡ n
one_removed false s t m n a b = a ∙ sym b
one_removed true s t None n a b = absurd a
one_removed true s t (Some m) None a b = absurd b
one_removed true s t (Some m) (Some n) a b = let e : m ≡ n = omega (arith, a, b) in ap (λ (k : ℕ). Some k) e

-- ---- the path of a canonical log

path_same : (rules : List Rule) (ts : List TransitionData) (a b : FailingPathData) → a.used ≡ b.used → a.steps ≡ b.steps → IsFailingPath rules ts a → IsFailingPath rules ts b → a ≡ b
path_same rules ts a b used steps x y =
    let reaches = subst (λ (k : ℕ). Reaches rules ts k 0 start b.steps b.state (node (Tm b.last) y.arguments)) (sym used) y.reaches in
    let ends = same_end rules ts a.used 0 a.state b.state start (node (Tm a.last) x.arguments) (node (Tm b.last) y.arguments) a.steps b.steps (ap child_numbers steps) x.reaches reaches in
    let terms = ends.2 in
    let last : a.last ≡ b.last = cc in
    λ i. record { steps = steps i; last = last i; state = ends.1 i; used = used i }

module _ (p : ProblemData) (points : IsPoints p.points) (T U : List EntryData) (ss rs : List Support) (a : IsCanonicalLog p T ss) (b : IsCanonicalLog p U rs) where
  log_same : T ≡ U
  log_same = canonical_same p T U ss rs a b

  names_same : (m n : ℕ) (one other : Path) → NamesPath p T ss m one → NamesPath p U rs n other → (m ≡ n) × (one ≡ other)
  names_same m n one other x y =
      naming_same p U rs m n one other
      (subst (λ (V : List EntryData). NamesPath p V rs m one) log_same (subst (λ (supports : List Support). NamesPath p T supports m one) (supports_same p T U ss rs a b points) x)) y

-- ---- two reports

module _ (s : Settings) (n : ℕ) (by : IsByTable s) (rules : List Rule) (ts : List TransitionData) (p : ProblemData) (points : IsPoints p.points) (removed also : Option ℕ) (as_much : removed ≡ also) (one other : List ℕ) where
  abbrev with_n : Settings
  with_n = record s { workers = n }

  abbrev IsSame : Type 0
  IsSame = (s.minimal ≡ false → one ≡ other) × AreAlike one other

  text_alike : (v w : shown.Verdict) (T U : List EntryData) → v ≡ w → HaveSame T U → IsShown s p v T removed one → IsShown with_n p w U also other → AreAlike one other
  text_alike v w T U verdicts same a b =
      reports_alike p w also s.table T U same a.0 b.0 one other
      (subst (λ (r : Option ℕ). IsReport p w (if s.table then Some T else None) r a.0 one) as_much
      (subst (λ (x : shown.Verdict). IsReport p x (if s.table then Some T else None) removed a.0 one) verdicts a.1.1)) b.1.1

  text_equal : (v w : shown.Verdict) (T U : List EntryData) → v ≡ w → HaveSame T U → IsShown s p v T removed one → IsShown with_n p w U also other → s.minimal ≡ false → one ≡ other
  text_equal v w T U verdicts same a b plain =
      let mine = subst (λ (m : Option Minimal). IsReport p v (if s.table then Some T else None) removed m one) (not_sought s p a.0 plain a.1.0) a.1.1 in
      let its = subst (λ (m : Option Minimal). IsReport p w (if s.table then Some U else None) also m other) (not_sought with_n p b.0 plain b.1.0) b.1.1 in
      report_same p w s.table T U same also one other
      (subst (λ (r : Option ℕ). IsReport p w (if s.table then Some T else None) r None one) as_much (subst (λ (x : shown.Verdict). IsReport p x (if s.table then Some T else None) removed None one) verdicts mine)) its

  text_same : (v w : shown.Verdict) (T U : List EntryData) → v ≡ w → HaveSame T U → IsShown s p v T removed one → IsShown with_n p w U also other → IsSame
  text_same v w T U verdicts same a b = (text_equal v w T U verdicts same a b, text_alike v w T U verdicts same a b)

  both_accepted : ReportsAccepted s rules ts p removed one → ReportsAccepted with_n rules ts p also other → IsSame
  both_accepted a b =
      let same = least_same p a.table b.table a.least b.least in
      let long = as_long p a.table b.table a.least b.least in
      let count = one_count p a.table b.table same a.checked b.checked a.count b.count in
      text_same (shown_as.Accepted (length a.table) a.checked) (shown_as.Accepted (length b.table) b.checked) a.table b.table (λ i. shown_as.Accepted (long i) (count i)) same a.tells b.tells

  both_rejected : ReportsRejected s rules ts p removed one → ReportsRejected with_n rules ts p also other → IsSame
  both_rejected a b =
      let mine = a.canonical by.0 in
      let its = b.canonical by.0 in
      let named = names_same p points a.table b.table a.supports b.supports mine its a.path.used b.path.used a.path.steps b.path.steps a.names b.names in
      let path = path_same (if s.simplify then p.sorted.scheme.rules else rules) ts a.path b.path named.0 named.1 a.walked b.walked in
      let long = as_long p a.table b.table mine.least its.least in
      text_same (shown_as.Rejected (length a.table) a.path) (shown_as.Rejected (length b.table) b.path) a.table b.table (λ i. shown_as.Rejected (long i) (path i))
      (least_same p a.table b.table mine.least its.least) a.tells b.tells

  both_long : ReportsLong s rules ts p removed one → ReportsLong with_n rules ts p also other → IsSame
  both_long a b =
      let mine = a.canonical by.0 in
      let its = b.canonical by.0 in
      let long = as_long p a.table b.table mine.least its.least in
      text_same (shown_as.Long (length a.table) s.steps) (shown_as.Long (length b.table) s.steps) a.table b.table (λ i. shown_as.Long (long i) s.steps)
      (least_same p a.table b.table mine.least its.least) a.tells b.tells

  ends_or_not : ReportsRejected s rules ts p removed one → ReportsLong with_n rules ts p also other → ⊥
  ends_or_not a b =
      let named = names_same p points a.table b.table a.supports b.supports (a.canonical by.0) (b.canonical by.0) a.path.used b.need a.path.steps b.whole a.names b.names in
      omega (arith, a.few, b.longer, named.0)

  not_or_ends : ReportsLong s rules ts p removed one → ReportsRejected with_n rules ts p also other → ⊥
  not_or_ends a b =
      let named = names_same p points a.table b.table a.supports b.supports (a.canonical by.0) (b.canonical by.0) a.need b.path.used a.whole b.path.steps a.names b.names in
      omega (arith, a.longer, b.few, named.0)

  pub reports_same : (v w : Decision) → ReportsBy s rules ts p removed v one → ReportsBy with_n rules ts p also w other → (w ≡ v) × IsSame
  reports_same Accepted Accepted a b = (refl, both_accepted a b)
  reports_same Accepted Rejected a b = absurd (b.rejects a.accepts)
  reports_same Accepted Long a b = absurd (b.rejects a.accepts)
  reports_same Rejected Accepted a b = absurd (a.rejects b.accepts)
  reports_same Rejected Rejected a b = (refl, both_rejected a b)
  reports_same Rejected Long a b = absurd (ends_or_not a b)
  reports_same Long Accepted a b = absurd (a.rejects b.accepts)
  reports_same Long Rejected a b = absurd (not_or_ends a b)
  reports_same Long Long a b = (refl, both_long a b)

-- a least table that is reported is within the budget
within : (s : Settings) (p : ProblemData) (T : List EntryData) → IsLeastTable p T → length T ≤ s.entries → Exceeds p s.entries → ⊥
within s p T least few exceeds = omega (arith, (least_decides p T s.entries least).0 exceeds, few)

pub reported_within : (s : Settings) → IsByTable s → (rules : List Rule) (ts : List TransitionData) (p : ProblemData) (removed : Option ℕ) (text : List ℕ) (v : Decision)
    → ReportsBy s rules ts p removed v text → Exceeds p s.entries → ⊥
reported_within s by rules ts p removed text Accepted r = within s p r.table r.least r.within
reported_within s by rules ts p removed text Rejected r = within s p r.table (r.canonical by.0).least r.within
reported_within s by rules ts p removed text Long r = within s p r.table (r.canonical by.0).least r.within
