-- What an exit of a `?` says, where the answer is promised something in the case of success alone.
use Rattle.std.proofs.Common.{◌≡◌, sym, subst, Result, Err, IfOk, OnOk}

pub if_ok_err : {T E : Type 0} {r : Result T E} {e : E} (P : T → Type 0) → r ≡ Err e → IfOk r P
if_ok_err P is = subst (λ s. IfOk s P) (sym is) tt

pub on_ok_err : {T E : Type 0} {r : Result T E} {e : E} (P : Type 0) → r ≡ Err e → OnOk r P
on_ok_err P is = subst (λ s. OnOk s P) (sym is) tt
