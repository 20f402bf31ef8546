-- Which method a call selects (JVMS 6.5 invokevirtual, invokeinterface, invokespecial, Java SE 8; packages are not looked at), and which catch row takes an exception (JVMS 2.10).
use Rattle.std.specs.Prelude.{Bool, List, None, Option, Some, [], false, if◌then◌else◌, nat_le, nat_lt, position, true, ℕ, ◌&&◌, ◌==◌, ◌∷◌}
use Rattle.vx_class.specs.declared.class_file.Catch.{Catch}
use Rattle.vx_class.specs.declared.class_file.Code.{Code}
use Rattle.vx_java.specs.declared.selected.Selected.{Selected}
use Rattle.vx_java.specs.declared.selected.Selected.TheVariants.{Abstract, Conflict, Method}
use Rattle.vx_link.specs.Assignability.{assignable}
use Rattle.vx_link.specs.ClassNames.{class_named, is_array, object_class}
use Rattle.vx_link.specs.Hierarchy.{superclasses}
use Rattle.vx_link.specs.Names.{class_name}
use Rattle.vx_link.specs.Parts.{PRIVATE, class_at, has, is_abstract, is_inherited, is_instance, is_interface, method_at}
use Rattle.vx_link.specs.Resolution.{first_given, own_method, specific_methods}
use Rattle.vx_link.specs.declared.program.LinkedMethod.{LinkedMethod}
use Rattle.vx_link.specs.declared.program.Program.{Program}
use Rattle.vx_pool.specs.declared.pool.Pool.{Pool}

-- ---- selection

abbrev pub selected_method : ℕ → Selected
selected_method m = Method (record { 0 = m })

-- one method unless it is abstract
abbrev pub selected_if_concrete : Program → ℕ → Selected
selected_if_concrete p m = if is_abstract (method_at p m) then Abstract else selected_method m

-- of the maximally-specific methods: the only one, or a conflict
abbrev pub of_specific : List ℕ → Selected
of_specific [] = Abstract
of_specific (m ∷ []) = selected_method m
of_specific (m ∷ n ∷ ms) = Conflict

-- a method found from the class up, else those of the superinterfaces
abbrev pub found_or : Program → Option ℕ → List ℕ → Selected
found_or p (Some m) specific = selected_if_concrete p m
found_or p None specific = of_specific specific

-- the first inherited method of a name and descriptor from a class up, else the one maximally-specific superinterface method that is not abstract
abbrev pub select_from : Program → ℕ → LinkedMethod → Selected
select_from p c m =
    found_or p (first_given (own_method p is_inherited m.name m.descriptor) (superclasses p c)) (specific_methods p m.name m.descriptor c)

-- an array has the methods of Object
abbrev pub class_of_receiver : Program → ℕ → ℕ
class_of_receiver p c = if is_array p c then object_class p else c

-- invokevirtual and invokeinterface: a private resolved method is itself selected, and is an abstract selection where it is abstract
abbrev pub select : Program → (receiver resolved : ℕ) → Selected
select p receiver resolved =
    if has PRIVATE (method_at p resolved).flags then selected_if_concrete p resolved
    else select_from p (class_of_receiver p receiver) (method_at p resolved)

-- invokespecial where a search begins: at a class as above; at an interface its own instance method, then that of Object
abbrev pub select_special : Program → (from resolved : ℕ) → Selected
select_special p from resolved =
    let m = method_at p resolved in
    if is_interface p from
    then found_or p (first_given (own_method p is_instance m.name m.descriptor) (superclasses p from)) (specific_methods p m.name m.descriptor from)
    else select_from p from m

-- ---- catch rows

-- a catch class that is not there takes nothing
abbrev pub takes_class : Program → (thrown : ℕ) → Option ℕ → Bool
takes_class p thrown None = false
takes_class p thrown (Some c) = assignable p thrown c

-- a row of class 0 takes every object
abbrev pub takes : Program → Pool → Catch → ℕ → Bool
takes p pool row thrown =
    elim (row.class == 0) [ true ↦ true | false ↦ takes_class p thrown (class_named p (class_name pool row.class)) ]

-- start inclusive, end exclusive
abbrev pub covers : Catch → ℕ → Bool
covers row position = nat_le row.start position && nat_lt position row.end

abbrev pub handler_in : Program → Pool → List Catch → (position thrown : ℕ) → Option ℕ
handler_in p pool [] position thrown = None
handler_in p pool (row ∷ rows) position thrown =
    elim (covers row position && takes p pool row thrown)
    [ true ↦ Some row.handler | false ↦ handler_in p pool rows position thrown ]

abbrev pub catches_of : Option Code → List Catch
catches_of None = []
catches_of (Some code) = code.catches

-- the handler of the first row of a method that covers a position and takes a thrown class
abbrev pub handler_for : Program → (method position thrown : ℕ) → Option ℕ
handler_for p m position thrown =
    handler_in p (class_at p (method_at p m).class.0).pool (catches_of (method_at p m).code) position thrown
