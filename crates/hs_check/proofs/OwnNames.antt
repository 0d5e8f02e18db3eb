-- The states and the rules of a scheme that was read have names of their own.
use Rattle.std.proofs.Common.{◌≡◌, ◌≢◌, sym, ◌∙◌, ap, subst, ℕ, Bool, true, false, not, List, [], ◌∷◌, ◌++◌, filter, length, map, All, AllPairs, Ok, IsTrue, arith}
use Rattle.std.specs.Prelude.{cond}
use Rattle.std.specs.List.{AllByRecursion, flat_map, list_all}
use Rattle.std.proofs.lemmas.List.Elements.{All-filter, All-from_recursion, recursion_from_All}
use Rattle.std.proofs.lemmas.List.Kept.{AllPairs-cons, AllPairs-filter}
use Rattle.std.specs.Str.{bytes_eq}
use Rattle.hs_scheme.specs.flow.Flow.{IsClosed, pairs_of}
use Rattle.hs_scheme.specs.Problem.{ProblemData}
use Rattle.hs_scheme.specs.sorting.Sorted.{SortedData}
use Rattle.hs_scheme.specs.sorting.Unsorted.{UnsortedData}
use Rattle.hs_scheme.specs.Names.{NamesData}
use Rattle.hs_reader.specs.declared.raw.RawName.{RawName}
use Rattle.hs_reader.specs.Raw.{Rule, Transition, File}
use Rattle.hs_reader.specs.Tokens.{is_name_byte, IsName}
use Rattle.hs_reader.specs.Limits.{rule_names, transition_names, IsRaw}
use Rattle.hs_reader.proofs.Exact.{answer_read, read_is_raw}
use Rattle.hs_resolve.specs.Names.{texts, distinct}
use Rattle.hs_resolve.specs.Numbering.{left_names, states_in, state_names}
use Rattle.hs_resolve.specs.Answer.{IsFaultless}
use Rattle.hs_resolve.proofs.Distinct.{same_self}
use Rattle.hs_resolve.proofs.Members.{all-append}
use Rattle.hs_resolve.proofs.Sound.{left-apart}
use Rattle.hs_front.specs.Yields.{Yields}
use Rattle.hs_front.proofs.OneScheme.{reads_of}
use Rattle.hs_cert.specs.Certificate.{AreNames, HasOwnNames}
use Rattle.hs_verdict.specs.Premises.{HasClosedFlow}

abbrev IsWord : List ℕ → Type 0
IsWord text = (text ≢ []) × IsTrue (list_all is_name_byte text)

both : {X : Type 0} (P : X → Type 0) (xs ys : List X) → AllByRecursion P xs → AllByRecursion P ys → AllByRecursion P (xs ++ ys)
both P [] ys h k = k
both P (x ∷ xs) ys h k = (h.0, both P xs ys h.1 k)

text_words : (ns : List RawName) → AllByRecursion IsName ns → AllByRecursion IsWord (texts ns)
text_words [] h = tt
text_words (n ∷ ns) h = (h.0, text_words ns h.1)

state_words : (ts : List Transition) → AllByRecursion IsName (flat_map transition_names ts) → AllByRecursion IsWord (flat_map states_in ts)
state_words [] h = tt
state_words (t ∷ ts) h =
    let parts = all-append IsName (transition_names t) (flat_map transition_names ts) h in
    both IsWord (states_in t) (flat_map states_in ts) (parts.0.0, text_words t.to parts.0.1.1) (state_words ts parts.1)

rule_words : (rs : List Rule) → AllByRecursion IsName (flat_map rule_names rs) → AllByRecursion IsWord (texts (map (λ r. r.name) rs))
rule_words [] h = tt
rule_words (r ∷ rs) h = let parts = all-append IsName (rule_names r) (flat_map rule_names rs) h in (parts.0.0, rule_words rs parts.1)

-- ---- the names without repeats

distinct_all : (P : List ℕ → Type 0) (xs : List (List ℕ)) → AllByRecursion P xs → All P (distinct xs)
distinct_all P [] h = All-from_recursion P [] tt
distinct_all P (x ∷ xs) h =
    let test : List ℕ → Bool = λ y. not (bytes_eq x y) in
    All-from_recursion P (x ∷ filter test (distinct xs)) (h.0, recursion_from_All P (filter test (distinct xs)) (All-filter test P (distinct xs) (distinct_all P xs h.1)))

kept : (x y : List ℕ) (rest : List (List ℕ)) (b : Bool) → not (bytes_eq x y) ≡ b → AllByRecursion (λ z. x ≢ z) rest → AllByRecursion (λ z. x ≢ z) (cond b (y ∷ rest) rest)
kept x y rest true e h = (λ same. differs same, h)
  where
    differs : x ≡ y → ⊥
    differs same =
        let g : bytes_eq x y ≡ true = subst (λ (z : List ℕ). bytes_eq x z ≡ true) same (same_self x) in
        let f : false ≡ true = sym (ap not g) ∙ e in (cc)
kept x y rest false e h = h

all_other : (x : List ℕ) (ys : List (List ℕ)) → AllByRecursion (λ z. x ≢ z) (filter (λ y. not (bytes_eq x y)) ys)
all_other x [] = tt
all_other x (y ∷ ys) = kept x y (filter (λ z. not (bytes_eq x z)) ys) (not (bytes_eq x y)) (λ i. not (bytes_eq x y)) (all_other x ys)

distinct_differ : (xs : List (List ℕ)) → AllPairs (λ a b. a ≢ b) (distinct xs)
distinct_differ [] = λ i j d less within. absurd (omega (arith, less, within))
distinct_differ (x ∷ xs) =
    let test : List ℕ → Bool = λ y. not (bytes_eq x y) in
    AllPairs-cons (λ a b. a ≢ b) x (filter test (distinct xs)) (All-from_recursion (λ z. x ≢ z) (filter test (distinct xs)) (all_other x (distinct xs)))
    (AllPairs-filter (λ a b. a ≢ b) test (distinct xs) (distinct_differ xs))

file_states : (file : File) → IsRaw file → AreNames (state_names file)
file_states file raw = record {
  words = distinct_all IsWord (flat_map states_in file.transitions)
      (state_words file.transitions (all-append IsName (flat_map rule_names file.rules) (flat_map transition_names file.transitions) raw.each_name).1);
  differ = distinct_differ (flat_map states_in file.transitions);
}

file_rules : (file : File) → IsRaw file → IsFaultless file → AreNames (left_names file)
file_rules file raw clean = record {
  words = All-from_recursion IsWord (left_names file) (rule_words file.rules (all-append IsName (flat_map rule_names file.rules) (flat_map transition_names file.transitions) raw.each_name).0);
  differ = subst (AllPairs (λ a b. a ≢ b)) (left-apart file raw clean) (distinct_differ (left_names file));
}

-- ---- of the problem of a file

module _ (bytes : List ℕ) (p : ProblemData) (h : Yields bytes (Ok p)) where
  raw : IsRaw h.1.of.of_bytes.of.file
  raw = read_is_raw bytes h.1.of.of_bytes.of.file h.0 (answer_read bytes (Ok h.1.of.of_bytes.of.file) (reads_of bytes h.1.of.scheme h.1.of.of_bytes))

  pub states_of : AreNames p.sorted.names.states
  states_of =
      let of_file : h.1.of.scheme.names.states ≡ state_names h.1.of.of_bytes.of.file = ap (λ (u : UnsortedData). u.names.states) h.1.of.of_bytes.of.is in
      let of_form : h.1.form.names.states ≡ h.1.of.scheme.names.states = ap (λ (n : NamesData). n.states) h.1.of.form.inferred.names in
      let of_problem : p.sorted.names.states ≡ h.1.form.names.states = ap (λ (s : SortedData). s.names.states) h.1.holds.same in
      subst AreNames (sym (of_problem ∙ (of_form ∙ of_file))) (file_states h.1.of.of_bytes.of.file raw)

  pub rules_of : AreNames p.sorted.names.rules
  rules_of =
      let of_file : h.1.of.scheme.names.rules ≡ left_names h.1.of.of_bytes.of.file = ap (λ (u : UnsortedData). u.names.rules) h.1.of.of_bytes.of.is in
      let of_names : h.1.form.names.rules ≡ h.1.of.scheme.names.rules = ap (λ (n : NamesData). n.rules) h.1.of.form.inferred.names in
      let of_problem : p.sorted.names.rules ≡ h.1.form.names.rules = ap (λ (s : SortedData). s.names.rules) h.1.holds.same in
      subst AreNames (sym (of_problem ∙ (of_names ∙ of_file))) (file_rules h.1.of.of_bytes.of.file raw h.1.of.of_bytes.of.faultless)

  pub has_names : HasOwnNames p
  has_names = record {
    states = states_of;
    rules = rules_of;
    each_state = subst (λ (s : SortedData). length s.names.states ≡ s.automaton.states) (sym h.1.holds.same) h.1.of.form.is_sorted.names.each_state;
    each_rule = subst (λ (s : SortedData). length s.names.rules ≡ length s.scheme.rules) (sym h.1.holds.same) h.1.of.form.is_sorted.names.each_rule;
    few = h.1.holds.few_points;
  }

  pub closed_flow : HasClosedFlow p
  closed_flow = subst (λ (s : SortedData). IsClosed s.scheme.rules (pairs_of p.flow.pairs p.flow.heads)) (sym h.1.holds.same) h.1.holds.flow.closed
