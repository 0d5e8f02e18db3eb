-- A file that is read from its front on.
use Rattle.std.proofs.Common.{◌≡◌, sym, ◌∙◌, ap, subst, ℕ, ◌<◌, ◌≤◌, Bool, true, List, [], ◌++◌, append-nil, length, length-append, Option, Some, None, arith}
use Rattle.std.specs.Option.{IfSome}
use Rattle.std.specs.Io.KnownBytes.{prepend_known}
use Rattle.hs_edge.specs.Reading.{Reading, started, ReadsOn}
use Rattle.hs_front.specs.Outside.{SourceRun, IsReadFromFront}
use Rattle.hs_front.specs.Telling.{IsReadWhole}

-- where the file of this name was started
module _ (name : List ℕ) (source : SourceRun) (begun : Reading) (left : Option (List ℕ)) (is : begun ≡ started name source.before) (is_left : left ≡ source.file name) where
  given_is : (bytes : List ℕ) (met : Bool) → ReadsOn begun left bytes met source.after source.left_after → source.after.given ≡ bytes
  given_is bytes met on = on.given ∙ ap (λ (r : Reading). r.given ++ bytes) is

  from_front : (bytes : List ℕ) (met : Bool) → ReadsOn begun left bytes met source.after source.left_after → (met ≡ true → IfSome source.left_after (λ l. l ≡ [])) → IsReadFromFront source met name
  from_front bytes met on all = record {
    begun = on.begun ∙ ap (λ (r : Reading). r.begun) is;
    once = on.starts ∙ ap (λ (r : Reading). r.starts) is;
    ended = on.ended;
    not_behind = on.behind (ap (λ (r : Reading). r.ended) is) ∙ ap (λ (r : Reading). r.behind) is;
    told = sym is_left ∙ (on.left ∙ ap (λ (b : List ℕ). prepend_known b source.left_after) (sym (given_is bytes met on)));
    all = all;
  }

  pub read_whole : (limit : ℕ) (bytes : List ℕ) → ReadsOn begun left bytes true source.after source.left_after → length bytes ≤ limit → IfSome source.left_after (λ l. l ≡ []) → IsReadWhole limit name source bytes
  read_whole limit bytes on short all = record { given = sym (given_is bytes true on); within = short; read = from_front bytes true on (λ met. all) }

-- ---- the file that was read

-- the file that was read up to its end has the bytes that were handed out
pub whole_bytes : (P : List ℕ → Type 0) (given : List ℕ) (told left : Option (List ℕ)) → told ≡ prepend_known given left → IfSome left (λ l. l ≡ []) → P given → IfSome told P
whole_bytes P given told None is all p = subst (λ (o : Option (List ℕ)). IfSome o P) (sym is) tt
whole_bytes P given told (Some l) is all p =
    subst (λ (o : Option (List ℕ)). IfSome o P) (sym is) (subst P (sym (ap (λ (k : List ℕ). given ++ k) all ∙ append-nil given)) p)

-- a file of which so much was handed out is longer
pub part_bytes : (limit : ℕ) (given : List ℕ) (told left : Option (List ℕ)) → told ≡ prepend_known given left → limit < length given → IfSome told (λ bytes. limit < length bytes)
part_bytes limit given told None is p = subst (λ (o : Option (List ℕ)). IfSome o (λ bytes. limit < length bytes)) (sym is) tt
part_bytes limit given told (Some l) is p =
    subst (λ (o : Option (List ℕ)). IfSome o (λ bytes. limit < length bytes)) (sym is) (rw (length-append given l) (omega (arith, p)))
