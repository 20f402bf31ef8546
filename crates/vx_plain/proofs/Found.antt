-- What is held of what was found.
use Rattle.std.proofs.Common.{◌≡◌, None, Option, Some, subst}
use Rattle.std.proofs.lemmas.Result.{IfOk-weaker}
use Rattle.std.specs.Prelude.{IfOk, IfSome, Result}

pub some_is : {T : Type 0} (P : T → Type 0) (found : Option T) (it : T) → found ≡ Some it → IfSome found P → P it
some_is P None it e h = cc e
some_is P (Some other) it e h =
    let same : other ≡ it = cc in
    subst P same h

pub held_is : {T E : Type 0} (P : T → Type 0) (found : Option T) (r : Result T E) → IfSome found P → IfOk r (λ it. found ≡ Some it) → IfOk r P
held_is P found r h held = IfOk-weaker r (λ it. found ≡ Some it) P (λ it e. some_is P found it e h) held
