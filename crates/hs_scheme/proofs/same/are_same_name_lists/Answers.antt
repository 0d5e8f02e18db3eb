use Rattle.std.proofs.Common.{◌≡◌, refl, sym, ◌∙◌, true, false, ℕ, ◌<◌, List, length, map, Vec, arith}
use Rattle.std.specs.declared.alloc.Global.{Global}
use Rattle.std.proofs.lemmas.List.{length-map}
use Rattle.hs_scheme.specs.declared.name.Name.{Name}
use Rattle.hs_scheme.proofs.SameLemmas.{same_more, same_item, item_map}
use Rattle.hs_scheme.proofs.same.are_same_name_lists.Goals as goal

abbrev names_of : Vec Name Global → List (List ℕ)
names_of v = v.items

never : false ≡ true → ⊥
never e = (cc)

pub returns-then-not-are_same_names : goal.returns-then-not-are_same_names
returns-then-not-are_same_names c =
    let a = c.args.a.now in let b = c.args.b.now in let i = c.loop-place.place in
    let within : i < length b = omega arith in (
      λ e. absurd (never e),
      λ e. c.if-not-are_same_names.ensures.1 (c.as_slice.ensures.value ∙ (same_item (map names_of a) (map names_of b) i (names_of c.index-a-place.result) (names_of c.index-b-place.result)
          (item_map names_of a i c.index-a-place.result c.loop-place-test.true c.index-a-place.is) (item_map names_of b i c.index-b-place.result within c.index-b-place.is)
          (omega (arith, length-map a names_of)) e ∙ sym c.as_slice-in-loop-place.ensures.value)),
    )

pub loop-place-preserved : goal.loop-place-preserved
loop-place-preserved c =
    let a = c.args.a.now in let b = c.args.b.now in let i = c.loop-place.place in
    let within : i < length b = omega arith in
    same_more (map names_of a) (map names_of b) i (names_of c.index-a-place.result) (names_of c.index-b-place.result) (omega (arith, length-map a names_of)) (omega (arith, length-map b names_of))
    (item_map names_of a i c.index-a-place.result c.loop-place-test.true c.index-a-place.is) (item_map names_of b i c.index-b-place.result within c.index-b-place.is) c.loop-place.invariant
    (sym c.as_slice.ensures.value ∙ (c.if-not-are_same_names.ensures.0 refl ∙ c.as_slice-in-loop-place.ensures.value))
