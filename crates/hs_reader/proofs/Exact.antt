-- Reading gives the answer to the bytes, and there is no other.
use Rattle.std.proofs.Common.{◌≡◌, ℕ, ◌<◌, ◌≤◌, List, [], ◌∷◌, ◌++◌, length, Option, Some, None, Result, Ok, Err, refl, sym, ap, subst, ◌∙◌, inl, inr, ◌⊎◌, append_assoc, arith}
use Rattle.std.specs.Prelude.{IfOk, IfErr}
use Rattle.std.specs.List.{AllByRecursion}
use Rattle.std.proofs.lemmas.List.{map-append, append-nil}
use Rattle.hs_reader.specs.declared.fault.ReadFault.{ReadFault}
use Rattle.hs_reader.specs.declared.fault.ReadFault.TheVariants.{Syntax, Limit, OutOfMemory}
use Rattle.hs_reader.specs.declared.fault.Which.{Which}
use Rattle.hs_reader.specs.Raw.{File}
use Rattle.hs_reader.specs.Tokens.{IsName, Token, Placed, end_of_file, bad, Lexes}
use Rattle.hs_reader.specs.Grammar.{IsUpper, IsLower, IsRule, IsTransition, Sequence, IsFile}
use Rattle.hs_reader.specs.Limits.{IsShort, IsRaw}
use Rattle.hs_reader.specs.Reading.{tokens}
use Rattle.hs_reader.specs.Faults.{kinds, BeginsFile, PassesLimit, order, NoLimit, IsFileWithin, ReachesToken, IsSyntaxFault, IsLimitFault, IsFaultOf, IsAnswer}
use Rattle.hs_reader.specs.ReadingStages.{steps, Stage, start, in_rules, in_head, in_body, between, in_transitions, in_transition, before_arrow, in_children, closed, finished, step, passed, judged, file_at, ◌>>=◌, run, read, Goes}
use Rattle.hs_reader.proofs.Lexing.{tokens_lex, lexes_tokens}
use Rattle.hs_reader.proofs.Running.{on, over}
use Rattle.hs_reader.proofs.Stages.{steps_on, steps_rest, steps_through, steps_split, reaches}
use Rattle.hs_reader.proofs.Completeness.{file_steps, same_stage, begins_from, begins_leads}
use Rattle.hs_reader.proofs.Passing.{passes_passed, passed_passes, order_is}
use Rattle.hs_reader.proofs.Names.{words, file_words, cut_names, cut_count, cut_last}
use Rattle.hs_reader.proofs.Counts.{file_fits, run_short}

-- ---- tokens none of which offends

pub record Clean (pre : List Placed) (s : Stage) : Type 0 where
  pub leads : steps start (kinds pre) ≡ Some s
  pub free : NoLimit (kinds pre)

pub kinds_append : (xs ys : List Placed) → kinds (xs ++ ys) ≡ kinds xs ++ kinds ys
kinds_append xs ys = map-append (λ (p : Placed). p.token) xs ys

-- where a list with one element more is split
abbrev Splits : List Token → List Token → Token → Token → List Token → Type 0
Splits xs before t u after = ((xs ≡ before) × (t ≡ u)) ⊎ ((rest : List Token) × (xs ≡ before ++ u ∷ rest))

not_nil : {A : Type 0} (xs : List A) (x : A) (ys : List A) → (xs ++ x ∷ ys) ≡ [] → ⊥
not_nil [] x ys e = cc
not_nil (y ∷ xs) x ys e = cc

splits_more : (x b : Token) (xs bs : List Token) (t u : Token) (after : List Token) → x ≡ b → Splits xs bs t u after → Splits (x ∷ xs) (b ∷ bs) t u after
splits_more x b xs bs t u after e (inl p) = inl ((λ i. e i ∷ p.0 i), p.1)
splits_more x b xs bs t u after e (inr p) = inr (p.0, λ i. e i ∷ p.1 i)

split_last : (xs before : List Token) (t u : Token) (after : List Token) → xs ++ t ∷ [] ≡ before ++ u ∷ after → Splits xs before t u after
split_last [] [] t u after e = inl (refl, cc)
split_last [] (b ∷ before) t u after e = let f : before ++ u ∷ after ≡ [] = cc in absurd (not_nil before u after f)
split_last (x ∷ xs) [] t u after e = let h : x ≡ u = cc in inr (xs, ap (λ (k : Token). k ∷ xs) h)
split_last (x ∷ xs) (b ∷ before) t u after e = let h : x ≡ b = cc in let f : xs ++ t ∷ [] ≡ before ++ u ∷ after = cc in splits_more x b xs before t u after h (split_last xs before t u after f)

more_free : (pre : List Token) (s next : Stage) (t : Token) → steps start pre ≡ Some s → NoLimit pre → step s t ≡ Some next → passed s t ≡ None → NoLimit (pre ++ t ∷ [])
more_free pre s next t leads free h none before u after e which p = go (split_last pre before t u after e)
  where
    go : Splits pre before t u after → ⊥
    go (inl q) =
        let here : PassesLimit which pre t = subst (λ (w : List Token). PassesLimit which w t) (sym q.0) (subst (PassesLimit which before) (sym q.1) p) in
        let w = passes_passed which pre t s next leads h here in
        let both : Some w.other ≡ None = sym w.is ∙ none in
        cc
    go (inr q) = free before u q.0 q.1 which p

one_step : (pre : List Token) (s next : Stage) (t : Token) → steps start pre ≡ Some s → step s t ≡ Some next → steps start (pre ++ t ∷ []) ≡ Some next
unfolding steps
one_step pre s next t leads h = steps_through pre (t ∷ []) start s next leads (steps_on s next t [] h)

clean_more : (pre : List Placed) (s next : Stage) (p : Placed) → Clean pre s → step s p.token ≡ Some next → passed s p.token ≡ None → Clean (pre ++ p ∷ []) next
clean_more pre s next p c h none = record {
  leads = ap (steps start) (kinds_append pre (p ∷ [])) ∙ one_step (kinds pre) s next p.token c.leads h;
  free = subst NoLimit (sym (kinds_append pre (p ∷ []))) (more_free (kinds pre) s next p.token c.leads c.free h none);
}

no_begin : (pre : List Token) (s : Stage) (t : Token) → steps start pre ≡ Some s → step s t ≡ None → BeginsFile (pre ++ t ∷ []) → ⊥
no_begin pre s t leads h begins =
    let l = begins_leads (pre ++ t ∷ []) begins in
    let r = steps_split pre (t ∷ []) start l.0 l.1 in
    let same : r.0 ≡ s = same_stage pre r.0 s r.1 leads in
    let q = steps_rest r.0 l.0 t [] r.2 in
    let some : step s t ≡ Some q.0 = ap (λ (k : Stage). step k t) (sym same) ∙ q.1 in
    let both : Some q.0 ≡ None = sym some ∙ h in
    cc

some_which : (v w : Which) (o : Option Which) → o ≡ Some v → o ≡ Some w → v ≡ w
some_which v w o p q = let e : Some v ≡ Some w = sym p ∙ q in cc

-- ---- what is read is the answer

nothing_free : NoLimit []
nothing_free [] t after e which p = cc
nothing_free (b ∷ before) t after e which p = cc

nothing_clean : Clean [] start
unfolding steps
nothing_clean = record { leads = refl; free = nothing_free }

syntax_is : (bytes : List ℕ) (pre ps : List Placed) (p : Placed) (s : Stage) → Lexes bytes (pre ++ p ∷ ps) → Clean pre s → step s p.token ≡ None → IsSyntaxFault bytes p.line
syntax_is bytes pre ps p s lexes c h = record {
  before = pre;
  at = p;
  first = record { after = ps; lexes = lexes; begins = begins_from (kinds pre) s c.leads; within = c.free };
  offends = no_begin (kinds pre) s p.token c.leads h;
  line_is = refl;
}

limit_is : (bytes : List ℕ) (pre ps : List Placed) (p : Placed) (s next : Stage) (w : Which) → Lexes bytes (pre ++ p ∷ ps) → Clean pre s → step s p.token ≡ Some next → passed s p.token ≡ Some w → IsLimitFault bytes w
limit_is bytes pre ps p s next w lexes c h limit = record {
  before = pre;
  at = p;
  first = record { after = ps; lexes = lexes; begins = begins_from (kinds pre) s c.leads; within = c.free };
  in_grammar = begins_from (kinds pre ++ p.token ∷ []) next (one_step (kinds pre) s next p.token c.leads h);
  passes = passed_passes p.token s w (kinds pre) c.leads limit;
  no_earlier = λ other lt passes.
      let v = passes_passed other (kinds pre) p.token s next c.leads h passes in
      let same : v.other ≡ w = some_which v.other w (passed s p.token) v.is limit in
      let equal : order v.other ≡ order w = ap order same in
      omega (arith, v.no_later);
}

-- the last token ends reading
end_finishes : (s last : Stage) (t : Token) → (t ≡ end_of_file) ⊎ (t ≡ bad) → step s t ≡ Some last → (f : File) × (last ≡ finished f)
end_finishes s last t (inl e) h = at_end s (ap (step s) (sym e) ∙ h)
  where
    at_end : (s : Stage) → step s end_of_file ≡ Some last → (f : File) × (last ≡ finished f)
    at_end (closed rs us) h = (record { rules = rs; transitions = us }, cc)
    at_end start h = absurd cc
    at_end (in_rules rs) h = absurd cc
    at_end (in_head rs n ps) h = absurd cc
    at_end (in_body rs n ps outer top) h = absurd cc
    at_end (between rs) h = absurd cc
    at_end (in_transitions rs us) h = absurd cc
    at_end (in_transition rs us q) h = absurd cc
    at_end (before_arrow rs us q a) h = absurd cc
    at_end (in_children rs us q a to) h = absurd cc
    at_end (finished f) h = absurd cc
end_finishes s last t (inr e) h = at_bad s (ap (step s) (sym e) ∙ h)
  where
    at_bad : (s : Stage) → step s bad ≡ Some last → (f : File) × (last ≡ finished f)
    at_bad start h = absurd cc
    at_bad (in_rules rs) h = absurd cc
    at_bad (in_head rs n ps) h = absurd cc
    at_bad (in_body rs n ps outer top) h = absurd cc
    at_bad (between rs) h = absurd cc
    at_bad (in_transitions rs us) h = absurd cc
    at_bad (in_transition rs us q) h = absurd cc
    at_bad (before_arrow rs us q a) h = absurd cc
    at_bad (in_children rs us q a to) h = absurd cc
    at_bad (closed rs us) h = absurd cc
    at_bad (finished f) h = absurd cc

all_finishes : (bytes : List ℕ) (ts : List Placed) (s : Stage) → Lexes bytes ts → steps start (kinds ts) ≡ Some s → (f : File) × (s ≡ finished f)
unfolding steps
all_finishes bytes ts s lexes leads =
    let l = cut_last lexes.pieces 1 bytes lexes.last lexes.cut in
    let same : kinds ts ≡ kinds l.front ++ l.last.token ∷ [] = ap kinds (lexes.are ∙ l.are) ∙ kinds_append l.front (l.last ∷ []) in
    let r = steps_split (kinds l.front) (l.last.token ∷ []) start s (ap (steps start) (sym same) ∙ leads) in
    let q = steps_rest r.0 s l.last.token [] r.2 in
    let end = end_finishes r.0 q.0 l.last.token l.ends q.1 in
    (end.0, sym (stops q.0 q.2) ∙ end.1)
  where
    stops : (next : Stage) → steps next [] ≡ Some s → next ≡ s
    stops next e = cc

finished_answer : (bytes : List ℕ) (pre : List Placed) (s : Stage) → Lexes bytes pre → Clean pre s → IsAnswer bytes (file_at s)
finished_answer bytes pre s lexes c =
    let end = all_finishes bytes pre s lexes c.leads in
    subst (λ (k : Stage). IsAnswer bytes (file_at k)) (sym end.1)
    (record { tokens = pre; lexes = lexes; is_file = reaches (kinds pre) (finished end.0) (c.leads ∙ ap (λ (k : Stage). Some k) end.1); within = c.free })

run_answer : (bytes : List ℕ) (ps pre : List Placed) (s : Stage) → Lexes bytes (pre ++ ps) → Clean pre s → IsAnswer bytes (run s ps)
unfolding run
run_answer bytes [] pre s lexes c = finished_answer bytes pre s (subst (Lexes bytes) (append-nil pre) lexes) c
run_answer bytes (p ∷ ps) pre s lexes c =
    go (step s p.token) (passed s p.token) refl refl
    (λ next h none. run_answer bytes ps (pre ++ p ∷ []) next (subst (Lexes bytes) (sym (append_assoc pre (p ∷ []) ps)) lexes) (clean_more pre s next p c h none))
  where
    go : (o : Option Stage) (w : Option Which) → step s p.token ≡ o → passed s p.token ≡ w → ((next : Stage) → step s p.token ≡ Some next → passed s p.token ≡ None → IsAnswer bytes (run next ps)) → IsAnswer bytes (judged p.line o w >>= λ next. run next ps)
    go None w h k later = syntax_is bytes pre ps p s lexes c h
    go (Some next) (Some v) h k later = limit_is bytes pre ps p s next v lexes c h k
    go (Some next) None h k later = later next h k

pub read_answer : (bytes : List ℕ) → IsAnswer bytes (read start 1 bytes)
read_answer bytes = run_answer bytes (tokens 1 bytes) [] start (tokens_lex bytes) nothing_clean

-- ---- and there is no other

no_which : (pre : List Token) (s : Stage) (t : Token) (after : List Token) (o : Option Which) → steps start pre ≡ Some s → passed s t ≡ o → NoLimit (pre ++ t ∷ after) → o ≡ None
no_which pre s t after None leads e free = refl
no_which pre s t after (Some w) leads e free = absurd (free pre t after refl w (passed_passes t s w pre leads e))

-- tokens none of which offends are read on
run_through : (before pre rest : List Placed) (s last : Stage) → steps start (kinds pre) ≡ Some s → steps s (kinds before) ≡ Some last → NoLimit (kinds pre ++ kinds before) → run s (before ++ rest) ≡ run last rest
unfolding steps
run_through [] pre rest s last leads h free = let same : s ≡ last = cc in ap (λ (k : Stage). run k rest) same
run_through (p ∷ before) pre rest s last leads h free =
    let r = steps_rest s last p.token (kinds before) h in
    on s r.0 p.line p.token (p ∷ (before ++ rest)) (before ++ rest) refl r.1 (no_which (kinds pre) s p.token (kinds before) (passed s p.token) leads refl free)
    ∙ run_through before (pre ++ p ∷ []) rest r.0 last (ap (steps start) (kinds_append pre (p ∷ [])) ∙ one_step (kinds pre) s r.0 p.token leads r.1) r.2
    (subst NoLimit (sym (ap (λ (w : List Token). w ++ kinds before) (kinds_append pre (p ∷ [])) ∙ append_assoc (kinds pre) (p.token ∷ []) (kinds before))) free)

reached_run : (bytes : List ℕ) (before : List Placed) (at : Placed) (first : ReachesToken bytes before at) (s : Stage) → steps start (kinds before) ≡ Some s → read start 1 bytes ≡ run s (at ∷ first.after)
unfolding steps
reached_run bytes before at first s leads =
    ap (run start) (sym (lexes_tokens bytes (before ++ at ∷ first.after) first.lexes))
    ∙ run_through before [] (at ∷ first.after) start s refl leads first.within

off_run : (s : Stage) (p : Placed) (ps : List Placed) → step s p.token ≡ None → run s (p ∷ ps) ≡ Err (Syntax p.line)
unfolding run
off_run s p ps h = ap (λ (o : Option Stage). judged p.line o (passed s p.token) >>= λ next. run next ps) h

none_or : (o : Option Stage) → ((next : Stage) → o ≡ Some next → ⊥) → o ≡ None
none_or None h = refl
none_or (Some next) h = absurd (h next refl)

file_read : (bytes : List ℕ) (f : File) → IsFileWithin bytes f → read start 1 bytes ≡ Ok f
unfolding steps run
file_read bytes f is =
    ap (run start) (sym (lexes_tokens bytes is.tokens is.lexes) ∙ sym (append-nil is.tokens))
    ∙ run_through is.tokens [] [] start (finished f) refl (file_steps (kinds is.tokens) f is.is_file) is.within

syntax_read : (bytes : List ℕ) (line : ℕ) → IsSyntaxFault bytes line → read start 1 bytes ≡ Err (Syntax line)
syntax_read bytes line is =
    let l = begins_leads (kinds is.before) is.first.begins in
    let none : step l.0 is.at.token ≡ None = none_or (step l.0 is.at.token) (λ next h. is.offends (begins_from (kinds is.before ++ is.at.token ∷ []) next (one_step (kinds is.before) l.0 next is.at.token l.1 h))) in
    reached_run bytes is.before is.at is.first l.0 l.1 ∙ off_run l.0 is.at is.first.after none ∙ ap (λ (k : ℕ). Err (Syntax k)) is.line_is

limit_read : (bytes : List ℕ) (w : Which) → IsLimitFault bytes w → read start 1 bytes ≡ Err (Limit w)
limit_read bytes w is =
    let l = begins_leads (kinds is.before) is.first.begins in
    let l2 = begins_leads (kinds is.before ++ is.at.token ∷ []) is.in_grammar in
    let r = steps_split (kinds is.before) (is.at.token ∷ []) start l2.0 l2.1 in
    let q = steps_rest r.0 l2.0 is.at.token [] r.2 in
    let taken : step l.0 is.at.token ≡ Some q.0 = ap (λ (k : Stage). step k is.at.token) (sym (same_stage (kinds is.before) r.0 l.0 r.1 l.1)) ∙ q.1 in
    let v = passes_passed w (kinds is.before) is.at.token l.0 q.0 l.1 taken is.passes in
    let said : PassesLimit v.other (kinds is.before) is.at.token = passed_passes is.at.token l.0 v.other (kinds is.before) l.1 v.is in
    let same : v.other ≡ w = order_is v.other w (least (order v.other) (order w) v.no_later (λ lt. is.no_earlier v.other lt said)) in
    reached_run bytes is.before is.at is.first l.0 l.1
    ∙ over l.0 q.0 is.at.line is.at.token w (is.at ∷ is.first.after) is.first.after refl taken (v.is ∙ ap (λ (k : Which). Some k) same)
  where
    least : (m n : ℕ) → m ≤ n → (m < n → ⊥) → m ≡ n
    least m n le above = omega arith

pub answer_read : (bytes : List ℕ) (a : Result File ReadFault) → IsAnswer bytes a → read start 1 bytes ≡ a
answer_read bytes (Ok f) is = file_read bytes f is
answer_read bytes (Err (Syntax line)) is = syntax_read bytes line is
answer_read bytes (Err (Limit w)) is = limit_read bytes w is
answer_read bytes (Err OutOfMemory) is = absurd is

pub one_answer_is : (bytes : List ℕ) (a b : Result File ReadFault) → IsAnswer bytes a → IsAnswer bytes b → a ≡ b
one_answer_is bytes a b p q = sym (answer_read bytes a p) ∙ answer_read bytes b q

pub one_file_is : (ts : List Token) (a b : File) → IsFile ts a → IsFile ts b → a ≡ b
one_file_is ts a b p q = let e : finished a ≡ finished b = same_stage ts (finished a) (finished b) (file_steps ts a p) (file_steps ts b q) in cc

-- ---- what the functions say

pub file_of : (bytes : List ℕ) (r : Result File ReadFault) → Goes (λ f. Ok f) r (read start 1 bytes) → IfOk r (λ raw. IsFileWithin bytes raw)
file_of bytes (Ok f) h = subst (IsAnswer bytes) h (read_answer bytes)
file_of bytes (Err e) h = tt

pub fault_of : (bytes : List ℕ) (r : Result File ReadFault) → Goes (λ f. Ok f) r (read start 1 bytes) → IfErr r (IsFaultOf bytes)
fault_of bytes (Ok f) h = tt
fault_of bytes (Err OutOfMemory) h = tt
fault_of bytes (Err (Syntax line)) h = subst (IsAnswer bytes) h (read_answer bytes)
fault_of bytes (Err (Limit w)) h = subst (IsAnswer bytes) h (read_answer bytes)

pub only_of : (bytes : List ℕ) (r : Result File ReadFault) → Goes (λ f. Ok f) r (read start 1 bytes) → (a : Result File ReadFault) → IsAnswer bytes a → (r ≡ a) ⊎ (r ≡ Err OutOfMemory)
only_of bytes (Ok f) h a is = inl (sym h ∙ answer_read bytes a is)
only_of bytes (Err OutOfMemory) h a is = inr refl
only_of bytes (Err (Syntax line)) h a is = inl (sym h ∙ answer_read bytes a is)
only_of bytes (Err (Limit w)) h a is = inl (sym h ∙ answer_read bytes a is)

-- ---- the invariant of a file that was read

sequence_all : {A : Type 0} (Is : List Token → A → Type 0) (P : A → Type 0) → ((ts : List Token) (x : A) → Is ts x → P x) → (xs : List A) (ts : List Token) → Sequence Is ts xs → AllByRecursion P xs
sequence_all Is P each [] ts h = tt
sequence_all Is P each (x ∷ xs) ts h = (each h.0 x h.3, sequence_all Is P each xs h.1 h.4)

pub read_is_raw : (bytes : List ℕ) (f : File) → length bytes ≤ 16777216 → read start 1 bytes ≡ Ok f → IsRaw f
read_is_raw bytes f small e =
    let is : IsFileWithin bytes f = subst (IsAnswer bytes) e (read_answer bytes) in
    let same = file_words (kinds is.tokens) f is.is_file in
    let fits = file_fits (tokens 1 bytes) f e in
    let lexed = lexes_tokens bytes is.tokens is.lexes in
    let cut = ap (λ (ts : List Placed). words (kinds ts)) (sym is.lexes.are) ∙ same in
    record {
      has_rule = is.is_file.has_rule;
      has_transition = is.is_file.has_transition;
      each_name = subst (AllByRecursion IsName) cut (cut_names is.lexes.pieces 1 bytes is.lexes.last is.lexes.cut);
      rule_names_upper = sequence_all IsRule (λ r. IsUpper r.name) (λ ts r h. h.name) f.rules is.is_file.rule_tokens is.is_file.rules;
      parameters_lower = sequence_all IsRule (λ r. AllByRecursion IsLower r.params) (λ ts r h. h.params) f.rules is.is_file.rule_tokens is.is_file.rules;
      terminals_lower = sequence_all IsTransition (λ t. IsLower t.terminal) (λ ts t h. h.terminal) f.transitions is.is_file.transition_tokens is.is_file.transitions;
      within = record {
        names = subst (AllByRecursion IsShort) (ap (λ (ts : List Placed). words (kinds ts)) (sym lexed) ∙ same) (run_short (tokens 1 bytes) start f e);
        rules = fits.0.count;
        parameters = fits.0.params;
        arguments = fits.0.few;
        transitions = fits.1.count;
        children = fits.1.few;
      };
      count = omega (arith, cut_count is.lexes.pieces 1 bytes is.lexes.last is.lexes.cut, ap length cut);
    }
