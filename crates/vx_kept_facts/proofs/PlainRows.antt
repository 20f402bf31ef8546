-- What rows come to that change the frame on top alone: locals, the operand stack, arithmetic, constants, jumps.
use Rattle.vx_java.specs.FirstObjects.{literal_object}
use Rattle.vx_list.specs.Places.{item_or}
use Rattle.vx_value.specs.Arithmetic.{compare_long_of, shift_int_of, shift_long_of}
use Rattle.std.proofs.Common.{Bool, List, None, Option, Some, [], codes, refl, ℕ, ℤ, ◌∷◌}
use Rattle.vx_java.specs.Calculation.{int_arithmetic, int_result, int_shift, long_arithmetic, long_compare, long_result, long_shift, on_int, on_long}
use Rattle.vx_java.specs.Constants.{push_entry}
use Rattle.vx_java.specs.Jumps.{branch, if_int, if_ints, if_null, if_same, jump}
use Rattle.vx_java.specs.Locals.{increase, load, store}
use Rattle.vx_java.specs.Machine.{Here, Int, Long, Null, Ref, Top, Value, go}
use Rattle.vx_java.specs.Operation.{constant_word, float_word}
use Rattle.vx_java.specs.StackForms.{lower, lower_taken, stack, upper, upper_taken, values_reordered, words}
use Rattle.vx_java.specs.declared.operation.Shuffle.{Shuffle}
use Rattle.vx_java.specs.declared.operation.Sort.{Sort}
use Rattle.vx_java.specs.declared.operation.Test.{Test}
use Rattle.vx_link.specs.Names.{utf8}
use Rattle.vx_pool.specs.declared.pool.Entry.{Entry}
use Rattle.vx_pool.specs.declared.pool.Entry.TheVariants as entry
use Rattle.vx_value.specs.declared.operation.IntOp.{IntOp}
use Rattle.vx_value.specs.declared.operation.ShiftOp.{ShiftOp}
use Rattle.vx_kept_facts.proofs.Claims.{chosen}
use Rattle.vx_kept_facts.proofs.RowClaims.{OfEntry, RowClaim, class_there, settles}

module _ (rows : RowClaim) where
  -- ---- locals

  pub load_comes : (h : Here) → rows.claim.At h → (sort : Sort) (n : ℕ) → rows.claim.May h.program (load h sort n)
  load_comes h at sort n = chosen rows.claim h.program _ _ _ (settles rows h at (item_or h.state.top.locals n Top ∷ h.state.top.operands)) (rows.claim.breaks h)

  pub store_comes : (h : Here) → rows.claim.At h → (sort : Sort) (n : ℕ) (operands : List Value) → rows.claim.May h.program (store h sort n operands)
  store_comes h at sort n [] = rows.claim.breaks h
  store_comes h at sort n (v ∷ operands) = chosen rows.claim h.program _ _ _ (rows.claim.passes h at) (rows.claim.breaks h)

  pub increase_comes : (h : Here) → rows.claim.At h → (n : ℕ) (by : ℤ) (v : Value) → rows.claim.May h.program (increase h n by v)
  increase_comes h at n by (Int a) = rows.claim.passes h at
  increase_comes h at n by _ = rows.claim.breaks h

  -- ---- the operand stack

  lower_comes : (h : Here) → rows.claim.At h → (form : Shuffle) (a : List Value) (taken : Option (List Value × List Value)) → rows.claim.May h.program (lower_taken h form a taken)
  lower_comes h at form a None = rows.claim.breaks h
  lower_comes h at form a (Some (b, rest)) = settles rows h at (values_reordered form a b rest)

  upper_comes : (h : Here) → rows.claim.At h → (form : Shuffle) (taken : Option (List Value × List Value)) → rows.claim.May h.program (upper_taken h form taken)
  upper_comes h at form None = rows.claim.breaks h
  upper_comes h at form (Some (a, rest)) = lower_comes h at form a (words (lower form) rest)

  pub stack_comes : (h : Here) → rows.claim.At h → (form : Shuffle) → rows.claim.May h.program (stack h form)
  stack_comes h at form = upper_comes h at form (words (upper form) h.state.top.operands)

  -- ---- arithmetic

  int_result_comes : (h : Here) → rows.claim.At h → (rest : List Value) (n : Option ℤ) → rows.claim.May h.program (int_result h rest n)
  int_result_comes h at rest (Some n) = settles rows h at (Int n ∷ rest)
  int_result_comes h at rest None = rows.claim.raises h at "java/lang/ArithmeticException" refl

  long_result_comes : (h : Here) → rows.claim.At h → (rest : List Value) (n : Option ℤ) → rows.claim.May h.program (long_result h rest n)
  long_result_comes h at rest (Some n) = settles rows h at (Long n ∷ rest)
  long_result_comes h at rest None = rows.claim.raises h at "java/lang/ArithmeticException" refl

  pub int_arithmetic_comes : (h : Here) → rows.claim.At h → (op : IntOp) (operands : List Value) → rows.claim.May h.program (int_arithmetic h op operands)
  int_arithmetic_comes h at op (Int b ∷ Int a ∷ rest) = int_result_comes h at rest _
  int_arithmetic_comes h at op _ = rows.claim.breaks h

  pub long_arithmetic_comes : (h : Here) → rows.claim.At h → (op : IntOp) (operands : List Value) → rows.claim.May h.program (long_arithmetic h op operands)
  long_arithmetic_comes h at op (Long b ∷ Long a ∷ rest) = long_result_comes h at rest _
  long_arithmetic_comes h at op _ = rows.claim.breaks h

  pub on_int_comes : (h : Here) → rows.claim.At h → (f : ℤ → Value) (operands : List Value) → rows.claim.May h.program (on_int h f operands)
  on_int_comes h at f (Int a ∷ rest) = settles rows h at (f a ∷ rest)
  on_int_comes h at f _ = rows.claim.breaks h

  pub on_long_comes : (h : Here) → rows.claim.At h → (f : ℤ → Value) (operands : List Value) → rows.claim.May h.program (on_long h f operands)
  on_long_comes h at f (Long a ∷ rest) = settles rows h at (f a ∷ rest)
  on_long_comes h at f _ = rows.claim.breaks h

  pub int_shift_comes : (h : Here) → rows.claim.At h → (op : ShiftOp) (operands : List Value) → rows.claim.May h.program (int_shift h op operands)
  int_shift_comes h at op (Int n ∷ Int a ∷ rest) = settles rows h at (Int (shift_int_of op a n) ∷ rest)
  int_shift_comes h at op _ = rows.claim.breaks h

  pub long_shift_comes : (h : Here) → rows.claim.At h → (op : ShiftOp) (operands : List Value) → rows.claim.May h.program (long_shift h op operands)
  long_shift_comes h at op (Int n ∷ Long a ∷ rest) = settles rows h at (Long (shift_long_of op a n) ∷ rest)
  long_shift_comes h at op _ = rows.claim.breaks h

  pub long_compare_comes : (h : Here) → rows.claim.At h → (operands : List Value) → rows.claim.May h.program (long_compare h operands)
  long_compare_comes h at (Long b ∷ Long a ∷ rest) = settles rows h at (Int (compare_long_of a b) ∷ rest)
  long_compare_comes h at _ = rows.claim.breaks h

  -- ---- constants

  pub push_entry_comes : (h : Here) → rows.claim.At h → (e : Option Entry) → OfEntry rows h.pool e → rows.claim.May h.program (push_entry h e)
  push_entry_comes h at (Some (entry.Integer n)) asks = settles rows h at (Int n ∷ h.state.top.operands)
  push_entry_comes h at (Some (entry.Long n)) asks = settles rows h at (Long n ∷ h.state.top.operands)
  push_entry_comes h at (Some (entry.Text i)) asks = settles rows h at (Ref (literal_object h.program h.pool (entry.Text i)) ∷ h.state.top.operands)
  push_entry_comes h at (Some (entry.Class i)) asks = class_there rows h at (utf8 h.pool i) _ asks (λ c. settles rows h at (Ref (literal_object h.program h.pool (entry.Class i)) ∷ h.state.top.operands))
  push_entry_comes h at (Some (entry.Float n)) asks = rows.lacks h at float_word (codes "-") asks
  push_entry_comes h at (Some (entry.Double n)) asks = rows.lacks h at float_word (codes "-") asks
  push_entry_comes h at (Some (entry.MethodHandle kind i)) asks = rows.lacks h at constant_word (codes "-") asks
  push_entry_comes h at (Some (entry.MethodType i)) asks = rows.lacks h at constant_word (codes "-") asks
  push_entry_comes h at _ asks = rows.claim.breaks h

  -- ---- jumps

  branch_comes : (h : Here) → rows.claim.At h → (taken : Bool) (offset : ℤ) (operands : List Value) → rows.Lands h offset → rows.claim.May h.program (branch h taken offset operands)
  branch_comes h at taken offset operands lands = chosen rows.claim h.program taken (jump h offset operands) (go h operands) (rows.jumps h at offset operands lands) (rows.claim.passes h at)

  pub if_int_comes : (h : Here) → rows.claim.At h → (test : Test) (offset : ℤ) (operands : List Value) → rows.Lands h offset → rows.claim.May h.program (if_int h test offset operands)
  if_int_comes h at test offset (Int a ∷ rest) lands = branch_comes h at _ offset rest lands
  if_int_comes h at test offset _ lands = rows.claim.breaks h

  pub if_ints_comes : (h : Here) → rows.claim.At h → (test : Test) (offset : ℤ) (operands : List Value) → rows.Lands h offset → rows.claim.May h.program (if_ints h test offset operands)
  if_ints_comes h at test offset (Int b ∷ Int a ∷ rest) lands = branch_comes h at _ offset rest lands
  if_ints_comes h at test offset _ lands = rows.claim.breaks h

  pub if_same_comes : (h : Here) → rows.claim.At h → (wanted : Bool) (offset : ℤ) (operands : List Value) → rows.Lands h offset → rows.claim.May h.program (if_same h wanted offset operands)
  if_same_comes h at wanted offset (b ∷ a ∷ rest) lands = chosen rows.claim h.program _ _ _ (branch_comes h at _ offset rest lands) (rows.claim.breaks h)
  if_same_comes h at wanted offset _ lands = rows.claim.breaks h

  pub if_null_comes : (h : Here) → rows.claim.At h → (wanted : Bool) (offset : ℤ) (operands : List Value) → rows.Lands h offset → rows.claim.May h.program (if_null h wanted offset operands)
  if_null_comes h at wanted offset (Null ∷ rest) lands = branch_comes h at wanted offset rest lands
  if_null_comes h at wanted offset (Ref r ∷ rest) lands = branch_comes h at _ offset rest lands
  if_null_comes h at wanted offset _ lands = rows.claim.breaks h
