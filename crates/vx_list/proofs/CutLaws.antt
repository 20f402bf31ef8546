-- Lists that are cut back to what they held.
use Rattle.std.proofs.Common.{List, ap, length, take, ℕ, ◌++◌, ◌∙◌, ◌≡◌}
use Rattle.std.proofs.lemmas.List.{take_at}
use Rattle.std.specs.Prelude.{Err, Ok, OnErr, Result}

pub always_on_err : {T E P : Type 0} (r : Result T E) → P → OnErr r P
always_on_err (Ok x) h = tt
always_on_err (Err e) h = h

-- a list to which something was appended, and that is cut back
pub cut_back : {A : Type 0} (old now mid new rest : List A) (held : ℕ) → new ≡ take held mid → mid ≡ now → now ≡ old ++ rest → length old ≡ held → new ≡ old
cut_back old now mid new rest held cut same is count = cut ∙ ap (take held) (same ∙ is) ∙ take_at old rest held count
