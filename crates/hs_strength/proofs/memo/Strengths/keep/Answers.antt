use Rattle.std.proofs.Common.{ap, subst, inl, inr}
use Rattle.hs_strength.specs.Memo.{MemoData, Knows}
use Rattle.hs_strength.proofs.memo.Strengths.keep.Goals as goal

pub returns : goal.returns
returns c = record {
  answers = λ q b m. elim (c.keep.ensures q b m) [
    | inl was ↦ inl (subst (λ (k : MemoData). Knows k.answers q b) c.self.view_is was)
    | inr own ↦ inr own
  ];
  seen = ap (λ (k : MemoData). k.seen) c.self.view_is;
  kinds = ap (λ (k : MemoData). k.kinds) c.self.view_is;
}
