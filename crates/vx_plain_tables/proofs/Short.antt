-- The descriptors and the code of methods are short.
use Rattle.std.proofs.Common.{◌≡◌, ℕ, ◌<◌, ◌≤◌, ◌^◌, zero, suc, Bool, true, false, List, [], ◌∷◌, refl, sym, ap, ◌∙◌, arith, length}
use Rattle.std.proofs.lemmas.Bool.Decides.{nat_tests}
use Rattle.std.specs.List.{list_all}
use Rattle.std.specs.Prelude.{None, Option, Some, ◌&&◌, nat_lt}
use Rattle.vx_class.specs.declared.class_file.Code.{Code}
use Rattle.vx_link.specs.Parts.{method_at, no_method}
use Rattle.vx_link.specs.declared.program.LinkedMethod.{LinkedMethod}
use Rattle.vx_link.specs.declared.program.Program.{Program}
use Rattle.vx_list.specs.Places.{item_or}
use Rattle.vx_plain_tables.specs.Tables.{IsShort, has_short_bytes, has_short_code, has_short_descriptor}

first_true : (a b : Bool) → a && b ≡ true → a ≡ true
first_true true b e = refl
first_true false b e = cc

second_true : (a b : Bool) → a && b ≡ true → b ≡ true
second_true true b e = e
second_true false b e = cc

at : (test : LinkedMethod → Bool) (ms : List LinkedMethod) (m : ℕ) → test no_method ≡ true → list_all test ms ≡ true → test (item_or ms m no_method) ≡ true
at test [] m none e = none
at test (x ∷ xs) zero none e = first_true (test x) (list_all test xs) e
at test (x ∷ xs) (suc m) none e = at test xs m none (second_true (test x) (list_all test xs) e)

below : (n : ℕ) → nat_lt n 65536 ≡ true → n < 65536
below n e = grind (arith, nat_tests)

pub short_descriptor : (p : Program) (m : ℕ) → IsShort p → length (method_at p m).descriptor < 2 ^ 32
short_descriptor p m v =
    let few = below (length (method_at p m).descriptor) (at has_short_descriptor p.methods m refl v.descriptors) in
    omega (arith, few)

pub short_code : (p : Program) (m : ℕ) (code : Code) → IsShort p → (method_at p m).code ≡ Some code → length code.bytes ≤ 65535
short_code p m code v is =
    let few = below (length code.bytes) (sym (ap has_short_bytes is) ∙ at has_short_code p.methods m refl v.codes) in
    omega (arith, few)
