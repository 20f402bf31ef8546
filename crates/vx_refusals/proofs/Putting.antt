-- Texts that are put one behind the other.
use Rattle.std.proofs.Common.{List, ap, append_assoc, subst, sym, ℕ, ◌++◌, ◌∙◌, ◌≡◌}
use Rattle.std.specs.Prelude.{Err, Ok, OnOk, Result}

pub both : (old mid now a b : List ℕ) → mid ≡ old ++ a → now ≡ mid ++ b → now ≡ old ++ (a ++ b)
both old mid now a b first second = second ∙ ap (λ text. text ++ b) first ∙ append_assoc old a b

pub both_put : {T E : Type 0} (r p : Result T E) (old mid now new a b : List ℕ) → r ≡ p → OnOk r (new ≡ now) → mid ≡ old ++ a → OnOk p (now ≡ mid ++ b) → OnOk r (new ≡ old ++ (a ++ b))
both_put {T} {E} r p old mid now new a b same ok first second = by r ok (subst (λ (q : Result T E). OnOk q (now ≡ mid ++ b)) (sym same) second)
  where
    by : (r : Result T E) → OnOk r (new ≡ now) → OnOk r (now ≡ mid ++ b) → OnOk r (new ≡ old ++ (a ++ b))
    by (Ok x) is behind = is ∙ both old mid now a b first behind
    by (Err e) is behind = tt
