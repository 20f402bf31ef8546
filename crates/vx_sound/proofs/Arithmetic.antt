-- Arithmetic, comparisons and conversions on operands of the types that they want.
use Rattle.std.proofs.Common.{List, None, Option, Some, [], codes, refl, ℤ, ◌∷◌, ◌≡◌}
use Rattle.vx_java.specs.Calculation.{int_arithmetic, int_result, int_shift, long_arithmetic, long_compare, long_result, long_shift, on_int, on_long}
use Rattle.vx_java.specs.Machine.{Here, Int, Long, Value}
use Rattle.vx_sound.proofs.Sites.{AtSite, LeadsTo, Typed, behind, pushes, raises, types_in, types_with}
use Rattle.vx_sound.proofs.Taken.{int_on_top, long_on_top}
use Rattle.vx_sound.specs.Typed.{Typings}
use Rattle.vx_sound.specs.Values.{type_of_value}
use Rattle.vx_types.specs.Flow.{taken}
use Rattle.vx_types.specs.Plain.{int, long}
use Rattle.vx_types.specs.declared.types.VerType.{VerType}
use Rattle.vx_types.specs.declared.types.VerType.TheVariants as is
use Rattle.vx_value.specs.Arithmetic.{compare_long_of, int_op_of, long_op_of, shift_int_of, shift_long_of}
use Rattle.vx_value.specs.declared.operation.IntOp.{IntOp}
use Rattle.vx_value.specs.declared.operation.ShiftOp.{ShiftOp}

module _ (typings : Typings) (h : Here) (site : AtSite typings h) where
  int_given : (under : List Value) (rest : List VerType) → Some (types_in h under) ≡ Some rest → LeadsTo typings h (behind h ∷ []) (types_with h (is.Int ∷ rest)) → (o : Option ℤ) → Typed typings h (int_result h under o)
  int_given under rest same leads (Some n) = pushes typings h site (Int n) under is.Int rest refl same leads
  int_given under rest same leads None = raises typings h site "java/lang/ArithmeticException" (Some (codes "/ by zero")) refl

  long_given : (under : List Value) (rest : List VerType) → Some (types_in h under) ≡ Some rest → LeadsTo typings h (behind h ∷ []) (types_with h (is.Long ∷ rest)) → (o : Option ℤ) → Typed typings h (long_result h under o)
  long_given under rest same leads (Some n) = pushes typings h site (Long n) under is.Long rest refl same leads
  long_given under rest same leads None = raises typings h site "java/lang/ArithmeticException" (Some (codes "/ by zero")) refl

  pub int_arithmetic_typed : (op : IntOp) (operands : List Value) (rest : List VerType) → taken h.program (int ∷ int ∷ []) (types_in h operands) ≡ Some rest
      → LeadsTo typings h (behind h ∷ []) (types_with h (is.Int ∷ rest)) → Typed typings h (int_arithmetic h op operands)
  int_arithmetic_typed op operands rest e leads =
      int_on_top h.program h.state.heap (λ ops. Typed typings h (int_arithmetic h op ops)) (int ∷ []) operands rest e (λ b under k.
      int_on_top h.program h.state.heap (λ ops. Typed typings h (int_arithmetic h op (Int b ∷ ops))) [] under rest k (λ a last l.
      int_given last rest l leads (int_op_of op a b)))

  pub long_arithmetic_typed : (op : IntOp) (operands : List Value) (rest : List VerType) → taken h.program (long ∷ long ∷ []) (types_in h operands) ≡ Some rest
      → LeadsTo typings h (behind h ∷ []) (types_with h (is.Long ∷ rest)) → Typed typings h (long_arithmetic h op operands)
  long_arithmetic_typed op operands rest e leads =
      long_on_top h.program h.state.heap (λ ops. Typed typings h (long_arithmetic h op ops)) (long ∷ []) operands rest e (λ b under k.
      long_on_top h.program h.state.heap (λ ops. Typed typings h (long_arithmetic h op (Long b ∷ ops))) [] under rest k (λ a last l.
      long_given last rest l leads (long_op_of op a b)))

  pub on_int_typed : (f : ℤ → Value) (t : VerType) → ((n : ℤ) → type_of_value h.program h.state.heap (f n) ≡ t) → (operands : List Value) (rest : List VerType)
      → taken h.program (int ∷ []) (types_in h operands) ≡ Some rest → LeadsTo typings h (behind h ∷ []) (types_with h (t ∷ rest)) → Typed typings h (on_int h f operands)
  on_int_typed f t is operands rest e leads =
      int_on_top h.program h.state.heap (λ ops. Typed typings h (on_int h f ops)) [] operands rest e (λ a under k. pushes typings h site (f a) under t rest (is a) k leads)

  pub on_long_typed : (f : ℤ → Value) (t : VerType) → ((n : ℤ) → type_of_value h.program h.state.heap (f n) ≡ t) → (operands : List Value) (rest : List VerType)
      → taken h.program (long ∷ []) (types_in h operands) ≡ Some rest → LeadsTo typings h (behind h ∷ []) (types_with h (t ∷ rest)) → Typed typings h (on_long h f operands)
  on_long_typed f t is operands rest e leads =
      long_on_top h.program h.state.heap (λ ops. Typed typings h (on_long h f ops)) [] operands rest e (λ a under k. pushes typings h site (f a) under t rest (is a) k leads)

  pub int_shift_typed : (op : ShiftOp) (operands : List Value) (rest : List VerType) → taken h.program (int ∷ int ∷ []) (types_in h operands) ≡ Some rest
      → LeadsTo typings h (behind h ∷ []) (types_with h (is.Int ∷ rest)) → Typed typings h (int_shift h op operands)
  int_shift_typed op operands rest e leads =
      int_on_top h.program h.state.heap (λ ops. Typed typings h (int_shift h op ops)) (int ∷ []) operands rest e (λ n under k.
      int_on_top h.program h.state.heap (λ ops. Typed typings h (int_shift h op (Int n ∷ ops))) [] under rest k (λ a last l.
      pushes typings h site (Int (shift_int_of op a n)) last is.Int rest refl l leads))

  pub long_shift_typed : (op : ShiftOp) (operands : List Value) (rest : List VerType) → taken h.program (int ∷ long ∷ []) (types_in h operands) ≡ Some rest
      → LeadsTo typings h (behind h ∷ []) (types_with h (is.Long ∷ rest)) → Typed typings h (long_shift h op operands)
  long_shift_typed op operands rest e leads =
      int_on_top h.program h.state.heap (λ ops. Typed typings h (long_shift h op ops)) (long ∷ []) operands rest e (λ n under k.
      long_on_top h.program h.state.heap (λ ops. Typed typings h (long_shift h op (Int n ∷ ops))) [] under rest k (λ a last l.
      pushes typings h site (Long (shift_long_of op a n)) last is.Long rest refl l leads))

  pub long_compare_typed : (operands : List Value) (rest : List VerType) → taken h.program (long ∷ long ∷ []) (types_in h operands) ≡ Some rest
      → LeadsTo typings h (behind h ∷ []) (types_with h (is.Int ∷ rest)) → Typed typings h (long_compare h operands)
  long_compare_typed operands rest e leads =
      long_on_top h.program h.state.heap (λ ops. Typed typings h (long_compare h ops)) (long ∷ []) operands rest e (λ b under k.
      long_on_top h.program h.state.heap (λ ops. Typed typings h (long_compare h (Long b ∷ ops))) [] under rest k (λ a last l.
      pushes typings h site (Int (compare_long_of a b)) last is.Int rest refl l leads))
