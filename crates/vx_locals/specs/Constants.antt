-- What an entry of the pool is to a load of a constant (JVMS 6.5 ldc).
use Rattle.std.specs.Prelude.{Option, Some}
use Rattle.vx_java.specs.Operation.{constant_word, float_word}
use Rattle.vx_pool.specs.declared.pool.Entry.{Entry}
use Rattle.vx_pool.specs.declared.pool.Entry.TheVariants as entry
use Rattle.vx_value.specs.declared.slot.Slot.TheVariants.{Int, Long}
use Rattle.vx_locals.specs.declared.constant.Constant.{Constant}
use Rattle.vx_locals.specs.declared.constant.Constant.TheVariants.{Class, LeftOut, Literal, Number, Unloadable}

abbrev pub constant_of : Option Entry → Constant
constant_of (Some (entry.Integer n)) = Number (Int n)
constant_of (Some (entry.Long n)) = Number (Long n)
constant_of (Some (entry.Text i)) = Literal
constant_of (Some (entry.Class i)) = Class i
constant_of (Some (entry.Float n)) = LeftOut float_word
constant_of (Some (entry.Double n)) = LeftOut float_word
constant_of (Some (entry.MethodHandle kind i)) = LeftOut constant_word
constant_of (Some (entry.MethodType i)) = LeftOut constant_word
constant_of _ = Unloadable
