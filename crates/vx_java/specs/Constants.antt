-- Constants of the pool (JVMS 6.5 ldc, ldc_w, ldc2_w).
use Rattle.std.specs.Prelude.{Option, Some, codes}
use Rattle.vx_java.specs.Checks.{with_class}
use Rattle.vx_java.specs.FirstObjects.{literal_object}
use Rattle.vx_java.specs.Machine.{Here, Int, Long, Outcome, Ref, illegal, push, unsupported}
use Rattle.vx_java.specs.Operation.{constant_word, float_word}
use Rattle.vx_link.specs.Names.{utf8}
use Rattle.vx_pool.specs.declared.pool.Entry.{Entry}
use Rattle.vx_pool.specs.declared.pool.Entry.TheVariants.{Integer, Float as FloatEntry, Long as LongEntry, Double as DoubleEntry, Class as ClassEntry, Text as TextEntry, MethodHandle, MethodType}

-- a number; the object of a string literal; the class object of a class that is there
abbrev pub push_entry : Here → Option Entry → Outcome
push_entry h (Some (Integer n)) = push h (Int n) h.state.top.operands
push_entry h (Some (LongEntry n)) = push h (Long n) h.state.top.operands
push_entry h (Some (TextEntry i)) = push h (Ref (literal_object h.program h.pool (TextEntry i))) h.state.top.operands
push_entry h (Some (ClassEntry i)) =
    with_class h (utf8 h.pool i) (λ c. push h (Ref (literal_object h.program h.pool (ClassEntry i))) h.state.top.operands)
push_entry h (Some (FloatEntry n)) = unsupported h float_word (codes "-")
push_entry h (Some (DoubleEntry n)) = unsupported h float_word (codes "-")
push_entry h (Some (MethodHandle kind i)) = unsupported h constant_word (codes "-")
push_entry h (Some (MethodType i)) = unsupported h constant_word (codes "-")
push_entry h _ = illegal h
