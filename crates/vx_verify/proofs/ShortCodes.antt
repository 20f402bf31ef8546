-- Each code of a program is short.
use Rattle.std.proofs.Common.{Bool, List, None, Option, Some, [], length, refl, subst, suc, true, zero, ℕ, ◌<◌, ◌∷◌, ◌≡◌}
use Rattle.std.proofs.lemmas.Bool.{ltb-true}
use Rattle.std.specs.List.{list_all}
use Rattle.vx_class.specs.declared.class_file.Code.{Code}
use Rattle.vx_link.specs.Parts.{method_at, no_method}
use Rattle.vx_link.specs.declared.program.Program.{Program}
use Rattle.vx_list.specs.Places.{item_or}
use Rattle.vx_types.proofs.Tests.{both_first, both_second}
use Rattle.vx_verify.specs.Verdict.{has_short_code}

item_passes : {A : Type 0} (test : A → Bool) (xs : List A) (i : ℕ) (d : A) → list_all test xs ≡ true → test d ≡ true → test (item_or xs i d) ≡ true
item_passes test [] i d h k = k
item_passes test (x ∷ xs) zero d h k = both_first (test x) (list_all test xs) h
item_passes test (x ∷ xs) (suc i) d h k = item_passes test xs i d (both_second (test x) (list_all test xs) h) k

abbrev IsShort : Option Code → Type 0
IsShort None = Unit {0}
IsShort (Some k) = length k.bytes < 65536

short_of : (o : Option Code) (code : Code) → has_short_code o ≡ true → o ≡ Some code → length code.bytes < 65536
short_of None code h e = absurd cc
short_of (Some c) code h e = subst (λ (k : Option Code). IsShort k) e (ltb-true (length c.bytes) 65536 h)

pub is_short : (p : Program) (m : ℕ) (code : Code) → list_all (λ k. has_short_code k.code) p.methods ≡ true → (method_at p m).code ≡ Some code → length code.bytes < 65536
is_short p m code codes e = short_of (method_at p m).code code (item_passes (λ k. has_short_code k.code) p.methods m no_method codes refl) e
