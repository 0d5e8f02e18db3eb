-- What reading gives, one token further on.
use Rattle.std.proofs.Common.{◌≡◌, ℕ, Bool, true, false, not, eqb, List, [], ◌∷◌, length, Option, Some, None, Result, Ok, Err, refl, sym, ap, subst, ◌∙◌, arith}
use Rattle.std.proofs.Common.{eq-eqb}
use Rattle.std.proofs.lemmas.Bool.{ne_eqb}
use denote.Ref.{Bor}
use Rattle.hs_scheme.specs.Tree.{Tree}
use Rattle.hs_reader.specs.declared.raw.RawName.{RawName}
use Rattle.hs_reader.specs.declared.fault.ReadFault.{ReadFault}
use Rattle.hs_reader.specs.declared.fault.ReadFault.TheVariants.{Syntax, Limit, OutOfMemory}
use Rattle.hs_reader.specs.declared.fault.Which.{Which}
use Rattle.hs_reader.specs.declared.fault.Which.TheVariants as which
use Rattle.hs_reader.specs.declared.token.Token.{Token as Read}
use Rattle.hs_reader.specs.declared.token.Token.TheVariants as read
use Rattle.hs_reader.specs.Raw.{Rule, Transition, File}
use Rattle.hs_reader.specs.Tokens.{Token, Placed, word, rules_begin, rules_end, automaton_begin, automaton_end, arrow, dot, left, right, end_of_file, bad}
use Rattle.hs_reader.specs.Grammar.{begins_upper}
use Rattle.hs_reader.specs.Reading.{view, place, as_word, from_token, tokens}
use Rattle.hs_reader.specs.ReadingStages.{Stage, closed, finished, when, any, from_start, from_rules, from_head, from_body, from_between, from_transitions, from_transition, from_arrow, from_children, from_closed, step, which_if, first_of, is_long, at_word, passed, accept, ◌>>=◌, run, named, FailsWith, IsNameFault, IsCasedFault}

-- ---- a token is taken, is no token of the grammar, or passes a limit

go_on : (s : Stage) (p : Placed) (ts rest : List Placed) (r : Result Stage ReadFault) → ts ≡ p ∷ rest → accept s p ≡ r → run s ts ≡ (r >>= λ next. run next rest)
unfolding run
go_on s p ts rest r e h = ap (run s) e ∙ ap (λ (o : Result Stage ReadFault). o >>= λ next. run next rest) h

pub on : (s next : Stage) (line : ℕ) (t : Token) (ts rest : List Placed) → ts ≡ place line t ∷ rest → step s t ≡ Some next → passed s t ≡ None → run s ts ≡ run next rest
on s next line t ts rest e h free = go_on s (place line t) ts rest (Ok next) e (rw (h, free) refl)

pub off_at : (s : Stage) (line : ℕ) (t : Token) (ts rest : List Placed) → ts ≡ place line t ∷ rest → step s t ≡ None → run s ts ≡ Err (Syntax line)
off_at s line t ts rest e h = go_on s (place line t) ts rest (Err (Syntax line)) e (rw h refl)

pub over : (s next : Stage) (line : ℕ) (t : Token) (w : Which) (ts rest : List Placed) → ts ≡ place line t ∷ rest → step s t ≡ Some next → passed s t ≡ Some w → run s ts ≡ Err (Limit w)
over s next line t w ts rest e h limit = go_on s (place line t) ts rest (Err (Limit w)) e (rw (h, limit) refl)

pub off : (s : Stage) (line : ℕ) (t : Token) (rest : List ℕ) (ts : List Placed) → ts ≡ from_token tokens line (t, rest) → step s t ≡ None → run s ts ≡ Err (Syntax line)
off s line end_of_file rest ts e h = off_at s line end_of_file ts [] e h
off s line bad rest ts e h = off_at s line bad ts [] e h
off s line (word n) rest ts e h = off_at s line (word n) ts (tokens line rest) e h
off s line rules_begin rest ts e h = off_at s line rules_begin ts (tokens line rest) e h
off s line rules_end rest ts e h = off_at s line rules_end ts (tokens line rest) e h
off s line automaton_begin rest ts e h = off_at s line automaton_begin ts (tokens line rest) e h
off s line automaton_end rest ts e h = off_at s line automaton_end ts (tokens line rest) e h
off s line arrow rest ts e h = off_at s line arrow ts (tokens line rest) e h
off s line dot rest ts e h = off_at s line dot ts (tokens line rest) e h
off s line left rest ts e h = off_at s line left ts (tokens line rest) e h
off s line right rest ts e h = off_at s line right ts (tokens line rest) e h

-- ---- names

word_passes : (s : Stage) (line : ℕ) (bytes : List ℕ) (b : Bool) → is_long bytes ≡ b → passed s (as_word line bytes) ≡ first_of (which_if b which.Name) (at_word s)
word_passes s line bytes b h = ap (λ (t : Bool). first_of (which_if t which.Name) (at_word s)) h

pub word_on : (s : Stage) (next : RawName → Stage) (line : ℕ) (bytes : List ℕ) (n : RawName) (ts rest : List Placed) → ts ≡ named line bytes ∷ rest → n ≡ record { text = bytes; line = line } → is_long bytes ≡ false
    → step s (as_word line bytes) ≡ Some (next (record { text = bytes; line = line })) → at_word s ≡ None → run s ts ≡ run (next n) rest
word_on s next line bytes n ts rest e is short h free =
    on s (next (record { text = bytes; line = line })) line (as_word line bytes) ts rest e h (word_passes s line bytes false short ∙ free)
    ∙ ap (λ (m : RawName). run (next m) rest) (sym is)

pub word_full : (s next : Stage) (line : ℕ) (bytes : List ℕ) (w : Which) (ts rest : List Placed) → ts ≡ named line bytes ∷ rest → is_long bytes ≡ false → step s (as_word line bytes) ≡ Some next → at_word s ≡ Some w → run s ts ≡ Err (Limit w)
word_full s next line bytes w ts rest e short h full = over s next line (as_word line bytes) w ts rest e h (word_passes s line bytes false short ∙ full)

word_long : (s next : Stage) (line : ℕ) (bytes : List ℕ) (w : Which) (ts rest : List Placed) → ts ≡ named line bytes ∷ rest → step s (as_word line bytes) ≡ Some next → w ≡ which.Name → is_long bytes ≡ true → run s ts ≡ Err (Limit w)
word_long s next line bytes w ts rest e h is long = over s next line (as_word line bytes) which.Name ts rest e h (word_passes s line bytes true long) ∙ ap (λ (v : Which). Err (Limit v)) (sym is)

pub word_fault : (s next : Stage) (line : ℕ) (bytes : List ℕ) (f : ReadFault) (ts rest : List Placed) → ts ≡ named line bytes ∷ rest → step s (as_word line bytes) ≡ Some next → IsNameFault f bytes → FailsWith f (run s ts)
word_fault s next line bytes (Syntax at) ts rest e h fault = absurd fault
word_fault s next line bytes (Limit w) ts rest e h fault = word_long s next line bytes w ts rest e h fault.0 fault.1
word_fault s next line bytes OutOfMemory ts rest e h fault = tt

pub cased_fault : (s next : Stage) (line : ℕ) (bytes : List ℕ) (upper : Bool) (f : ReadFault) (ts rest : List Placed) → ts ≡ named line bytes ∷ rest → (begins_upper bytes ≡ not upper → step s (as_word line bytes) ≡ None) → (begins_upper bytes ≡ upper → step s (as_word line bytes) ≡ Some next)
    → IsCasedFault f upper line bytes → FailsWith f (run s ts)
cased_fault s next line bytes upper (Syntax at) ts rest e refused taken fault = off_at s line (as_word line bytes) ts rest e (refused fault.1) ∙ ap (λ (k : ℕ). Err (Syntax k)) (sym fault.0)
cased_fault s next line bytes upper (Limit w) ts rest e refused taken fault = word_long s next line bytes w ts rest e (taken fault.0) fault.1 fault.2
cased_fault s next line bytes upper OutOfMemory ts rest e refused taken fault = tt

-- a fault stays one where reading gives the same
pub continues : (f : ReadFault) (read later : Result File ReadFault) → read ≡ later → FailsWith f later → FailsWith f read
continues f read later e h = subst (FailsWith f) (sym e) h

-- ---- tests

pub full_at : (n m : ℕ) (w : Which) → n ≡ m → which_if (eqb n m) w ≡ Some w
full_at n m w e = ap (λ (t : Bool). which_if t w) (eq-eqb n m e)

pub free_at : (n m : ℕ) (w : Which) → (n ≡ m → ⊥) → which_if (eqb n m) w ≡ None
free_at n m w h = ap (λ (t : Bool). which_if t w) (ne_eqb n m h)

pub any_none : {A : Type 0} (xs : List A) (s : Stage) → length xs ≡ 0 → when (any xs) s ≡ None
any_none [] s h = refl
any_none (x ∷ xs) s h = absurd (omega arith)

pub any_some : {A : Type 0} (xs : List A) (s : Stage) → (length xs ≡ 0 → ⊥) → when (any xs) s ≡ Some s
any_some [] s h = absurd (h refl)
any_some (x ∷ xs) s h = refl

-- ---- tokens that a stage doesn't take

pub start_other : (line : ℕ) (t : Read) → (t ≡ read.RulesBegin → ⊥) → from_start (view line t) ≡ None
start_other line read.RulesBegin p = absurd (p refl)
start_other line t p = refl

pub rules_other : (rs : List Rule) (line : ℕ) (t : Read) → ((x : Bor (List ℕ)) → t ≡ read.Name x → ⊥) → (t ≡ read.RulesEnd → ⊥) → from_rules rs (view line t) ≡ None
rules_other rs line (read.Name x) p q = absurd (p x refl)
rules_other rs line read.RulesEnd p q = absurd (q refl)
rules_other rs line t p q = refl

pub head_other : (rs : List Rule) (n : RawName) (ps : List RawName) (line : ℕ) (t : Read) → ((x : Bor (List ℕ)) → t ≡ read.Name x → ⊥) → (t ≡ read.Arrow → ⊥) → from_head rs n ps (view line t) ≡ None
head_other rs n ps line (read.Name x) p q = absurd (p x refl)
head_other rs n ps line read.Arrow p q = absurd (q refl)
head_other rs n ps line t p q = refl

pub body_other : (rs : List Rule) (n : RawName) (ps : List RawName) (outer : List (Option (Tree RawName))) (top : Option (Tree RawName)) (line : ℕ) (t : Read) → ((x : Bor (List ℕ)) → t ≡ read.Name x → ⊥) → (t ≡ read.Left → ⊥) → (t ≡ read.Right → ⊥) → (t ≡ read.Dot → ⊥) → from_body rs n ps outer top (view line t) ≡ None
body_other rs n ps outer top line (read.Name x) p q r d = absurd (p x refl)
body_other rs n ps outer top line read.Left p q r d = absurd (q refl)
body_other rs n ps outer top line read.Right p q r d = absurd (r refl)
body_other rs n ps outer top line read.Dot p q r d = absurd (d refl)
body_other rs n ps outer top line t p q r d = refl

pub between_other : (rs : List Rule) (line : ℕ) (t : Read) → (t ≡ read.AutomatonBegin → ⊥) → from_between rs (view line t) ≡ None
between_other rs line read.AutomatonBegin p = absurd (p refl)
between_other rs line t p = refl

pub transitions_other : (rs : List Rule) (us : List Transition) (line : ℕ) (t : Read) → ((x : Bor (List ℕ)) → t ≡ read.Name x → ⊥) → (t ≡ read.AutomatonEnd → ⊥) → from_transitions rs us (view line t) ≡ None
transitions_other rs us line (read.Name x) p q = absurd (p x refl)
transitions_other rs us line read.AutomatonEnd p q = absurd (q refl)
transitions_other rs us line t p q = refl

pub terminal_other : (rs : List Rule) (us : List Transition) (q : RawName) (line : ℕ) (t : Read) → ((x : Bor (List ℕ)) → t ≡ read.Name x → ⊥) → from_transition rs us q (view line t) ≡ None
terminal_other rs us q line (read.Name x) p = absurd (p x refl)
terminal_other rs us q line t p = refl

pub arrow_other : (rs : List Rule) (us : List Transition) (q a : RawName) (line : ℕ) (t : Read) → (t ≡ read.Arrow → ⊥) → from_arrow rs us q a (view line t) ≡ None
arrow_other rs us q a line read.Arrow p = absurd (p refl)
arrow_other rs us q a line t p = refl

pub child_other : (rs : List Rule) (us : List Transition) (q a : RawName) (to : List RawName) (line : ℕ) (t : Read) → ((x : Bor (List ℕ)) → t ≡ read.Name x → ⊥) → (t ≡ read.Dot → ⊥) → from_children rs us q a to (view line t) ≡ None
child_other rs us q a to line (read.Name x) p d = absurd (p x refl)
child_other rs us q a to line read.Dot p d = absurd (d refl)
child_other rs us q a to line t p d = refl

pub end_other : (rs : List Rule) (us : List Transition) (line : ℕ) (t : Read) → (t ≡ read.End → ⊥) → from_closed rs us (view line t) ≡ None
end_other rs us line read.End p = absurd (p refl)
end_other rs us line t p = refl

pub file_ends : (rs : List Rule) (us : List Transition) (line : ℕ) (ts : List Placed) → ts ≡ place line end_of_file ∷ [] → run (closed rs us) ts ≡ Ok (record { rules = rs; transitions = us })
unfolding run
file_ends rs us line ts e = on (closed rs us) (finished (record { rules = rs; transitions = us })) line end_of_file ts [] e refl refl
