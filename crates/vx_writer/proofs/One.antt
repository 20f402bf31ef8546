-- One attribute behind its number.
use Rattle.std.specs.Prelude.{◌≡◌, List, ℕ, [], ◌∷◌, ◌++◌, Result, Ok, Err, OnOk}
use Rattle.std.proofs.Common.{append_assoc, ap, ◌∙◌}
use Rattle.std.proofs.lemmas.List.{append-nil}
use Rattle.vx_class.specs.Spelling.{u2, Attribute, attribute_bytes, attributes_bytes}

-- the bytes of one attribute, behind those that are there
one_attribute : (out : List ℕ) (a : Attribute) → (out ++ u2 1) ++ attribute_bytes a ≡ out ++ attributes_bytes (a ∷ [])
one_attribute out a = simp (append_assoc, append-nil)

-- the same for what a call wrote, of which nothing was cut back
pub one_written : {E : Type 0} (r put : Result (Unit {0}) E) (out numbered written new : List ℕ) (a : Attribute) → r ≡ put → OnOk r (new ≡ written) → numbered ≡ out ++ u2 1
    → OnOk put (written ≡ numbered ++ attribute_bytes a) → OnOk r (new ≡ out ++ attributes_bytes (a ∷ []))
one_written (Ok x) put out numbered written new a same kept e h = kept ∙ (rw (← same) at h) ∙ ap (λ m. m ++ attribute_bytes a) e ∙ one_attribute out a
one_written (Err x) put out numbered written new a same kept e h = tt
