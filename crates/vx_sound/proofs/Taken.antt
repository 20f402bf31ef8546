-- Operands that are taken as they are wanted: what they are, and what stands under them.
use Rattle.std.proofs.Common.{Bool, List, None, Option, Some, [], false, refl, true, ℕ, ℤ, ◌∷◌, ◌≡◌}
use Rattle.std.specs.Prelude.{if◌then◌else◌, option_map}
use Rattle.vx_java.specs.Machine.{Int, Long, Null, Object, Ref, Value}
use Rattle.vx_link.specs.declared.program.Program.{Program}
use Rattle.vx_sound.proofs.Values.{IsReference, int_value, long_value, reference_value}
use Rattle.vx_sound.specs.Values.{type_of_reference, type_of_value, types_of_values}
use Rattle.vx_types.specs.Flow.{after, meets, put, taken, with_operands}
use Rattle.vx_types.specs.Plain.{int, long, reference}
use Rattle.vx_types.specs.Types.{VerState}
use Rattle.vx_types.specs.declared.types.Row.TheVariants.{Takes}
use Rattle.vx_types.specs.declared.types.VerType.{VerType}
use Rattle.vx_types.specs.declared.types.Want.{Want}

-- what a row makes that takes operands and gives a value or none
pub record IsTaken (p : Program) (wanted : List Want) (given : Option VerType) (before made : VerState) : Type 0 where
  pub rest : List VerType
  pub takes : taken p wanted before.operands ≡ Some rest
  pub is : record before { operands = put given rest } ≡ made

pub taken_from : (p : Program) (wanted : List Want) (given : Option VerType) (before made : VerState) → after p (Takes wanted given) before ≡ Some made → IsTaken p wanted given before made
taken_from p wanted given before made e = by (taken p wanted before.operands) refl e
  where
    by : (o : Option (List VerType)) → taken p wanted before.operands ≡ o → with_operands before (option_map (put given) o) ≡ Some made → IsTaken p wanted given before made
    by None q e = absurd cc
    by (Some rest) q e = record { rest = rest; takes = q; is = cc }

module _ (p : Program) (heap : List Object) where
  -- the operand on top is such as is wanted
  pub on_top : (P : List Value → Type 0) (w : Want) (ws : List Want) (values : List Value) (rest : List VerType) → taken p (w ∷ ws) (types_of_values p heap values) ≡ Some rest
      → ((v : Value) (under : List Value) → meets p w (type_of_value p heap v) ≡ true → taken p ws (types_of_values p heap under) ≡ Some rest → P (v ∷ under)) → P values
  on_top P w ws [] rest e each = absurd cc
  on_top P w ws (v ∷ values) rest e each = by (meets p w (type_of_value p heap v)) refl e
    where
      by : (b : Bool) → meets p w (type_of_value p heap v) ≡ b → (if b then taken p ws (types_of_values p heap values) else None) ≡ Some rest → P (v ∷ values)
      by true met e = each v values met e
      by false met e = absurd cc

  pub int_on_top : (P : List Value → Type 0) (ws : List Want) (values : List Value) (rest : List VerType) → taken p (int ∷ ws) (types_of_values p heap values) ≡ Some rest
      → ((n : ℤ) (under : List Value) → taken p ws (types_of_values p heap under) ≡ Some rest → P (Int n ∷ under)) → P values
  int_on_top P ws values rest e each = on_top P int ws values rest e (λ v under met k. int_value p heap (λ w. P (w ∷ under)) v met (λ n. each n under k))

  pub long_on_top : (P : List Value → Type 0) (ws : List Want) (values : List Value) (rest : List VerType) → taken p (long ∷ ws) (types_of_values p heap values) ≡ Some rest
      → ((n : ℤ) (under : List Value) → taken p ws (types_of_values p heap under) ≡ Some rest → P (Long n ∷ under)) → P values
  long_on_top P ws values rest e each = on_top P long ws values rest e (λ v under met k. long_value p heap (λ w. P (w ∷ under)) v met (λ n. each n under k))

  pub reference_on_top : (P : List Value → Type 0) (ws : List Want) (values : List Value) (rest : List VerType) → taken p (reference ∷ ws) (types_of_values p heap values) ≡ Some rest
      → ((under : List Value) → taken p ws (types_of_values p heap under) ≡ Some rest → P (Null ∷ under))
      → ((r : ℕ) (under : List Value) → IsReference (type_of_reference p heap r) → taken p ws (types_of_values p heap under) ≡ Some rest → P (Ref r ∷ under)) → P values
  reference_on_top P ws values rest e null each =
      on_top P reference ws values rest e (λ v under met k. reference_value p heap (λ w. P (w ∷ under)) v met (null under k) (λ r q. each r under q k))
