-- What `clap` makes of the words.
use Rattle.std.proofs.Common.{◌≡◌, refl, sym, ◌∙◌, ap, inl, inr, Bool, true, false, List, [], ◌∷◌, None}
use Rattle.std.specs.Prelude.{if◌then◌else◌, length}
use Rattle.std.proofs.Math.Dec.{eqb-suc-zero}
use Rattle.clap.specs.Kinds.{HasKind, IsAmong, Kinds}
use Rattle.clap.specs.Values.{kind_of}
use Rattle.clap.specs.declared.error.Error.{Error}
use Rattle.clap.specs.declared.error.kind.ErrorKind.{ErrorKind}
use Rattle.clap.specs.Faults.{fault_of, is_simple_and_free}
use Rattle.clap.specs.Simple.{App, HasMatchesOf, is_simple, matches_of}
use Rattle.clap.specs.Matches.{found_of}
use Rattle.clap.specs.Walk.{Text, is_empty, rows_of}
use Rattle.clap.specs.declared.parser.matches.ArgMatches.{ArgMatches}
use Rattle.clap.proofs.OnLiterals.{clap_on_literals}
use Rattle.hs_words.specs.Fault.{fault_of_kind}
use Rattle.hs_words.specs.declared.fault.WordsFault.TheVariants as words
use Rattle.hs_words.specs.Words.{horsat, said, options_of}

simple_and_free : is_simple_and_free horsat ≡ true
unfolding clap_on_literals
simple_and_free = refl

simple : is_simple horsat ≡ true
unfolding clap_on_literals
simple = refl

some_kind : (k : ErrorKind) (kinds : Kinds) → IsAmong k kinds → is_empty kinds ≡ false
some_kind k [] among = absurd among
some_kind k (x ∷ kinds) among = eqb-suc-zero (length kinds)

module _ (app : App) (same : app ≡ horsat) (texts : List Text) where
  pub is_simple_and_free_app : is_simple_and_free app ≡ true
  is_simple_and_free_app = ap is_simple_and_free same ∙ simple_and_free

  pub taken : (m : ArgMatches) → HasMatchesOf app texts m → fault_of app texts ≡ [] → options_of texts ≡ said (rows_of (found_of m))
  taken m matches none =
      let faultless : fault_of horsat texts ≡ [] = ap (λ a. fault_of a texts) (sym same) ∙ none in
      let rows : rows_of (found_of m) ≡ matches_of horsat texts = (matches (ap is_simple same ∙ simple)).0 ∙ ap (λ a. matches_of a texts) same in
      ap (λ (f : Kinds). if is_empty f then said (matches_of horsat texts) else None) faultless ∙ ap said (sym rows)

  pub refused : (e : Error) → HasKind (fault_of app texts) e → fault_of_kind (kind_of e) ≡ words.Usage → options_of texts ≡ None
  refused e (inl memory) usage = absurd (let both : words.OutOfMemory ≡ words.Usage = ap fault_of_kind (sym memory) ∙ usage in cc)
  refused e (inr among) usage =
      let some : is_empty (fault_of horsat texts) ≡ false = ap (λ a. is_empty (fault_of a texts)) (sym same) ∙ some_kind (kind_of e) (fault_of app texts) among in
      ap (λ (b : Bool). if b then said (matches_of horsat texts) else None) some
