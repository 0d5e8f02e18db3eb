-- One token of a rule's right side.
use Rattle.std.proofs.Common.{◌≡◌, ℕ, Bool, true, false, eqb, List, ◌∷◌, length, Option, Some, None, ok_or, Result, Ok, Err, OnOk, IfErr, refl, sym, ap, ◌∙◌}
use Rattle.std.specs.Option.{option_map}
use Rattle.hs_scheme.specs.Tree.{Tree}
use Rattle.hs_reader.specs.declared.raw.RawName.{RawName}
use Rattle.hs_reader.specs.declared.fault.ReadFault.{ReadFault}
use Rattle.hs_reader.specs.declared.fault.ReadFault.TheVariants.{Syntax, Limit, OutOfMemory}
use Rattle.hs_reader.specs.declared.fault.Which.{Which}
use Rattle.hs_reader.specs.declared.fault.Which.TheVariants as which
use Rattle.hs_reader.specs.Raw.{Rule, File}
use Rattle.hs_reader.specs.Tokens.{Placed, left, right, dot}
use Rattle.hs_reader.specs.Reading.{place}
use Rattle.hs_reader.specs.ReadingStages.{in_rules, in_body, leaf, added, is_full, is_long, when, which_if, first_of, closes, ends, passed, named, run, with_rule, Goes, IsMemory}
use Rattle.hs_reader.proofs.Running.{on, over, off_at, word_on, word_full, full_at, free_at}

which_is : (b c : Bool) (w : Which) → b ≡ c → which_if b w ≡ which_if c w
which_is b c w e = ap (λ (t : Bool). which_if t w) e

-- nothing but want of memory keeps a token from being taken
pub unless_memory : {X : Type 0} (r : Result X ReadFault) (Done : Type 0) (here behind : Result File ReadFault) → OnOk r Done → IfErr r IsMemory → (Done → here ≡ behind) → Goes (λ _. behind) r here
unless_memory (Ok x) Done here behind done fault same = same done
unless_memory (Err (Syntax line)) Done here behind done fault same = absurd fault
unless_memory (Err (Limit w)) Done here behind done fault same = absurd fault
unless_memory (Err OutOfMemory) Done here behind done fault same = tt

module _ (rs : List Rule) (n : RawName) (ps : List RawName) where
  pub body_word : (outer : List (Option (Tree RawName))) (begun : Option (Tree RawName)) (line : ℕ) (bytes : List ℕ) (m : RawName) (u : Tree RawName) (ts rest : List Placed) → ts ≡ named line bytes ∷ rest → m ≡ record { text = bytes; line = line } → is_long bytes ≡ false → is_full begun ≡ false → u ≡ added begun (leaf m)
      → run (in_body rs n ps outer begun) ts ≡ run (in_body rs n ps outer (Some u)) rest
  body_word outer begun line bytes m u ts rest e is short room made =
      word_on (in_body rs n ps outer begun) (λ (k : RawName). in_body rs n ps outer (Some (added begun (leaf k)))) line bytes m ts rest e is short refl (which_is (is_full begun) false which.Arguments room)
      ∙ ap (λ (t : Tree RawName). run (in_body rs n ps outer (Some t)) rest) (sym made)

  pub body_word_full : (outer : List (Option (Tree RawName))) (begun : Option (Tree RawName)) (line : ℕ) (bytes : List ℕ) (ts rest : List Placed) → ts ≡ named line bytes ∷ rest → is_long bytes ≡ false → is_full begun ≡ true
      → run (in_body rs n ps outer begun) ts ≡ Err (Limit which.Arguments)
  body_word_full outer begun line bytes ts rest e short full =
      word_full (in_body rs n ps outer begun) (in_body rs n ps outer (Some (added begun (leaf (record { text = bytes; line = line }))))) line bytes which.Arguments ts rest e short refl (which_is (is_full begun) true which.Arguments full)

  -- the limits at a `(`
  left_limits : (outer : List (Option (Tree RawName))) (begun : Option (Tree RawName)) (a b : Option Which) → which_if (eqb (length outer) 200) which.Depth ≡ a → which_if (is_full begun) which.Arguments ≡ b → passed (in_body rs n ps outer begun) left ≡ first_of a b
  left_limits outer begun a b p q = ap (λ (w : Option Which). first_of w (which_if (is_full begun) which.Arguments)) p ∙ ap (first_of a) q

  pub left_on : (outer : List (Option (Tree RawName))) (begun : Option (Tree RawName)) (line : ℕ) (ts rest : List Placed) → ts ≡ place line left ∷ rest → (length outer ≡ 200 → ⊥) → is_full begun ≡ false
      → run (in_body rs n ps outer begun) ts ≡ run (in_body rs n ps (begun ∷ outer) None) rest
  left_on outer begun line ts rest e shallow room =
      on (in_body rs n ps outer begun) (in_body rs n ps (begun ∷ outer) None) line left ts rest e refl (left_limits outer begun None None (free_at (length outer) 200 which.Depth shallow) (which_is (is_full begun) false which.Arguments room))

  pub left_deep : (outer : List (Option (Tree RawName))) (begun : Option (Tree RawName)) (line : ℕ) (ts rest : List Placed) → ts ≡ place line left ∷ rest → length outer ≡ 200
      → run (in_body rs n ps outer begun) ts ≡ Err (Limit which.Depth)
  left_deep outer begun line ts rest e deep =
      over (in_body rs n ps outer begun) (in_body rs n ps (begun ∷ outer) None) line left which.Depth ts rest e refl (left_limits outer begun (Some which.Depth) (which_if (is_full begun) which.Arguments) (full_at (length outer) 200 which.Depth deep) refl)

  pub left_full : (outer : List (Option (Tree RawName))) (begun : Option (Tree RawName)) (line : ℕ) (ts rest : List Placed) → ts ≡ place line left ∷ rest → (length outer ≡ 200 → ⊥) → is_full begun ≡ true
      → run (in_body rs n ps outer begun) ts ≡ Err (Limit which.Arguments)
  left_full outer begun line ts rest e shallow full =
      over (in_body rs n ps outer begun) (in_body rs n ps (begun ∷ outer) None) line left which.Arguments ts rest e refl (left_limits outer begun None (Some which.Arguments) (free_at (length outer) 200 which.Depth shallow) (which_is (is_full begun) true which.Arguments full))

  pub right_on : (outer others : List (Option (Tree RawName))) (begun top : Option (Tree RawName)) (closed : Bool) (line : ℕ) (ts rest : List Placed) → ts ≡ place line right ∷ rest
      → closes rs n ps outer begun ≡ when closed (in_body rs n ps others top) → closed ≡ true → run (in_body rs n ps outer begun) ts ≡ run (in_body rs n ps others top) rest
  right_on outer others begun top closed line ts rest e closes is =
      on (in_body rs n ps outer begun) (in_body rs n ps others top) line right ts rest e (closes ∙ ap (λ (b : Bool). when b (in_body rs n ps others top)) is) refl

  pub right_off : (outer others : List (Option (Tree RawName))) (begun top : Option (Tree RawName)) (closed : Bool) (line : ℕ) (ts rest : List Placed) → ts ≡ place line right ∷ rest
      → closes rs n ps outer begun ≡ when closed (in_body rs n ps others top) → closed ≡ false → run (in_body rs n ps outer begun) ts ≡ Err (Syntax line)
  right_off outer others begun top closed line ts rest e closes is =
      off_at (in_body rs n ps outer begun) line right ts rest e (closes ∙ ap (λ (b : Bool). when b (in_body rs n ps others top)) is)

  pub dot_goes : (outer : List (Option (Tree RawName))) (begun term : Option (Tree RawName)) (line : ℕ) (rest : List Placed) → ends rs n ps outer begun ≡ option_map (λ u. in_rules (with_rule rs n ps u)) term
      → Goes (λ t. run (in_rules (with_rule rs n ps t)) rest) (ok_or term (Syntax line)) (run (in_body rs n ps outer begun) (place line dot ∷ rest))
  dot_goes outer begun None line rest ends = off_at (in_body rs n ps outer begun) line dot (place line dot ∷ rest) rest refl ends
  dot_goes outer begun (Some t) line rest ends = on (in_body rs n ps outer begun) (in_rules (with_rule rs n ps t)) line dot (place line dot ∷ rest) rest refl ends refl
