-- The numbers of the array classes over a class.
use Rattle.std.proofs.Common.{◌≡◌, ℕ, ◌+◌, ◌-◌, ◌*◌, ◌/◌, ◌%◌, ◌≤◌, Bool, true, false, refl, ◌∙◌, ap, arith, nat_lt, not, if◌then◌else◌}
use Rattle.std.proofs.lemmas.Bool.{ltb-false}
use Rattle.std.proofs.lemmas.Nat.{div-add-mod'}
use Rattle.vx_link.specs.ClassNames.{array_class, array_over}
use Rattle.vx_link.specs.Parts.{class_count}
use Rattle.vx_link.specs.declared.program.Program.{Program}

-- one dimension more is so many numbers further
pub array_over_is : (p : Program) (c : ℕ) → array_over p c ≡ c + (class_count p + 8)
array_over_is p c = cases (nat_lt c (class_count p)) refl
  where
    n : ℕ
    n = class_count p

    cases : (b : Bool) → nat_lt c n ≡ b → array_class p ((if not b then (c - n) / (n + 8) + 1 else 0) + 1) (if not b then (c - n) % (n + 8) else 8 + c) ≡ c + (n + 8)
    cases true e = omega arith
    cases false e =
        let above : n ≤ c = ltb-false c n e in
        let parts : (c - n) / (n + 8) * (n + 8) + (c - n) % (n + 8) ≡ c - n = div-add-mod' (c - n) (n + 8) in
        next ((c - n) / (n + 8)) ((c - n) % (n + 8)) above parts
      where
        next : (q r : ℕ) → n ≤ c → q * (n + 8) + r ≡ c - n → n + (q + 1 + 1 - 1) * (n + 8) + r ≡ c + (n + 8)
        next q r above parts =
            let more : (q + 1) * (n + 8) ≡ q * (n + 8) + (n + 8) = omega arith in
            let one_more : q + 1 + 1 - 1 ≡ q + 1 = omega arith in
            ap (λ k. n + k * (n + 8) + r) one_more ∙ omega (arith, more, above, parts)
