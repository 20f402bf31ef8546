-- What each operation needs and gives, in the order of the machine's rows (JVMS 4.10.1.9). Where program and instruction alone end the run
-- or raise, before an operand is looked at, nothing is needed and nothing follows.
use Rattle.std.specs.Prelude.{Bool, List, None, Option, Some, [], false, if◌then◌else◌, map, replicate, reverse, true, ℕ, ◌++◌, ◌-◌, ◌||◌, ◌∷◌}
use Rattle.vx_class.specs.Members.{ABSTRACT, STATIC}
use Rattle.vx_pool.specs.Lookups.{entry_of}
use Rattle.vx_desc.specs.Descriptors.{field_type}
use Rattle.vx_desc.specs.Names.{is_init}
use Rattle.vx_desc.specs.declared.java_type.Base.{Base}
use Rattle.vx_desc.specs.declared.java_type.Base.TheVariants as base
use Rattle.vx_desc.specs.declared.java_type.JavaType.{JavaType}
use Rattle.vx_java.specs.Arrays.{element_bases, elements_of_numbers}
use Rattle.vx_java.specs.Checks.{same_bool, sort_of_base}
use Rattle.vx_java.specs.Ids.{as_class}
use Rattle.vx_java.specs.Returns.{agrees}
use Rattle.vx_java.specs.declared.operation.Element.{Element}
use Rattle.vx_java.specs.declared.operation.Element.TheVariants.{Bytes, Chars, Ints, Longs, References, Shorts}
use Rattle.vx_java.specs.declared.operation.Mode.{Mode}
use Rattle.vx_java.specs.declared.operation.Mode.TheVariants.{Interface, Special, Static}
use Rattle.vx_java.specs.declared.operation.Operation.{Operation}
use Rattle.vx_java.specs.declared.operation.Operation.TheVariants.{CheckCast, GetField, GetStatic, Invoke, Length, LoadElement, New, NewGrid, NewPrimitives, NewReferences, PushEntry, PutField, PutStatic, Return, Stack, StoreElement, Throw}
use Rattle.vx_java.specs.declared.operation.Operation.TheVariants as operation
use Rattle.vx_java.specs.declared.operation.Sort.{Sort}
use Rattle.vx_link.specs.ClassNames.{class_named, int_element, object_class}
use Rattle.vx_link.specs.Names.{Member, class_name, member, utf8}
use Rattle.vx_link.specs.Parts.{PRIVATE, class_at, has, is_interface, is_static_field, method_at}
use Rattle.vx_link.specs.Resolution.{is_array_clone, resolve_field, resolve_method}
use Rattle.vx_link.specs.Signature.{signature}
use Rattle.vx_link.specs.declared.program.Program.{Program}
use Rattle.vx_list.specs.Places.{item_or}
use Rattle.vx_pool.specs.declared.pool.Entry.{Entry}
use Rattle.vx_pool.specs.declared.pool.Entry.TheVariants as entry
use Rattle.vx_pool.specs.declared.pool.Pool.{Pool}
use Rattle.vx_types.specs.Plain.{computes, gives, int, long, plain_row, reference, takes}
use Rattle.vx_types.specs.Types.{arrays_over, class_type, core_type, object_type, ref_of, type_of}
use Rattle.vx_types.specs.declared.types.ElementType.TheVariants as element
use Rattle.vx_types.specs.declared.types.Row.{Row}
use Rattle.vx_types.specs.declared.types.Row.TheVariants.{Ends, Increase, Leaves, Load, LoadReference, Move, Refused, Store}
use Rattle.vx_types.specs.declared.types.VerType.{VerType}
use Rattle.vx_types.specs.declared.types.VerType.TheVariants.{Int, Long, Ref}
use Rattle.vx_types.specs.declared.types.Want.{Want}
use Rattle.vx_types.specs.declared.types.Want.TheVariants.{Fits, FitsBoth, FitsOne}

-- ---- what instructions name

-- the class whose method is typed, and its pool
abbrev pub current_class : Program → (method : ℕ) → ℕ
current_class p m = (method_at p m).class.0

abbrev pub pool_of : Program → (method : ℕ) → Pool
pool_of p m = (class_at p (current_class p m)).pool

-- a class that an instruction names, which has to be there
abbrev pub if_there : Option ℕ → (ℕ → Row) → Row
if_there None rest = Ends
if_there (Some c) rest = rest c

abbrev pub with_class : Program → (name : List ℕ) → (ℕ → Row) → Row
with_class p name rest = if_there (class_named p name) rest

-- what a value of a type has to be: nothing is a float or a double
abbrev pub want : Option VerType → Want
want None = FitsOne []
want (Some t) = Fits t

abbrev pub wanted_of : Program → List ℕ → JavaType → Want
wanted_of p descriptor t = want (type_of p descriptor t)

-- takes these, and gives what a type of a descriptor says, none for void; where that is a float or a double, the run ends before it is used
abbrev pub given_as : List Want → Option VerType → Row
given_as wanted None = Leaves wanted
given_as wanted (Some t) = computes wanted t

abbrev pub with_result : Program → List ℕ → List Want → Option JavaType → Row
with_result p descriptor wanted None = takes wanted
with_result p descriptor wanted (Some t) = given_as wanted (type_of p descriptor t)

-- ---- constants

abbrev pub push_entry : Program → Pool → Option Entry → Row
push_entry p pool (Some (entry.Integer n)) = gives Int
push_entry p pool (Some (entry.Long n)) = gives Long
push_entry p pool (Some (entry.Text i)) = gives (core_type p "java/lang/String")
push_entry p pool (Some (entry.Class i)) = with_class p (utf8 pool i) (λ c. gives (core_type p "java/lang/Class"))
push_entry p pool (Some (entry.Float n)) = Ends
push_entry p pool (Some (entry.Double n)) = Ends
push_entry p pool (Some (entry.MethodHandle kind i)) = Ends
push_entry p pool (Some (entry.MethodType i)) = Ends
push_entry p pool _ = Refused

-- ---- arrays

abbrev pub primitives : Base → VerType
primitives b = Ref 0 (element.Primitives b)

abbrev pub references : Program → VerType
references p = Ref 1 (element.Class (as_class (object_class p)))

-- the arrays that an instruction of elements works on
abbrev pub arrays_of : Program → Element → Want
arrays_of p Ints = Fits (primitives base.Int)
arrays_of p Longs = Fits (primitives base.Long)
arrays_of p References = Fits (references p)
arrays_of p Bytes = FitsOne (primitives base.Byte ∷ primitives base.Bool ∷ [])
arrays_of p Chars = Fits (primitives base.Char)
arrays_of p Shorts = Fits (primitives base.Short)

-- any array
abbrev pub any_array : Program → Want
any_array p = FitsOne (references p ∷ map primitives element_bases)

abbrev pub load_element : Program → Element → Row
load_element p Longs = computes (int ∷ arrays_of p Longs ∷ []) Long
load_element p References = LoadReference
load_element p e = computes (int ∷ arrays_of p e ∷ []) Int

abbrev pub stored_in : Element → Want
stored_in Longs = long
stored_in References = reference
stored_in _ = int

abbrev pub store_element : Program → Element → Row
store_element p e = takes (stored_in e ∷ int ∷ arrays_of p e ∷ [])

-- newarray by the number of its type; a float or a double ends the run
abbrev pub base_of_number : ℕ → Base
base_of_number number = item_or element_bases (item_or elements_of_numbers (number - 4) int_element) base.Int

abbrev pub new_primitives_of : Base → Option Sort → Row
new_primitives_of b None = Ends
new_primitives_of b (Some s) = computes (int ∷ []) (primitives b)

abbrev pub new_primitives : ℕ → Row
new_primitives number = let b = base_of_number number in new_primitives_of b (sort_of_base b)

-- ---- fields

abbrev pub if_agreeing : Bool → Row → Row
if_agreeing true row = row
if_agreeing false row = Ends

abbrev pub if_field : Program → (static : Bool) → Option ℕ → Row → Row
if_field p static None row = Ends
if_field p static (Some f) row = if_agreeing (same_bool static (is_static_field p f)) row

abbrev pub if_accepted : Program → Member → (static : Bool) → Option VerType → (VerType → Row) → Row
if_accepted p m static None rest = Ends
if_accepted p m static (Some t) rest =
    with_class p m.class (λ named. if_field p static (resolve_field p named m.name m.descriptor) (rest t))

abbrev pub if_type : Program → Member → (static : Bool) → Option JavaType → (VerType → Row) → Row
if_type p m static None rest = Refused
if_type p m static (Some t) rest = if_accepted p m static (type_of p m.descriptor t) rest

-- what is done with a field that is there and is static or not as it is wanted, by its type
abbrev pub with_field : Program → Member → (static : Bool) → (VerType → Row) → Row
with_field p m static rest = if_type p m static (field_type m.descriptor) rest

-- the class that holds a member, as an operand
abbrev pub holder : Program → Member → Want
holder p m = Fits (ref_of p m.class)

-- ---- calls

-- of invokespecial of another name than <init> the receiver is also of the class that has the call
abbrev pub receiver : Program → (method : ℕ) → Mode → Member → Want
receiver p at Special m = if is_init m.name then holder p m else FitsBoth (ref_of p m.class) (class_type p (current_class p at))
receiver p at mode m = holder p m

-- the arguments, the last one on top
abbrev pub arguments : Program → Member → List Want
arguments p m = reverse (map (wanted_of p m.descriptor) (signature m.descriptor).arguments)

abbrev pub call_with : Program → Member → List Want → Row
call_with p m under = with_result p m.descriptor (arguments p m ++ under) (signature m.descriptor).result

abbrev pub call_instance : Program → (method : ℕ) → Mode → Member → Row
call_instance p at mode m = call_with p m (receiver p at mode m ∷ [])

-- static against instance, or a private method by invokeinterface
abbrev pub call_resolved : Program → (method : ℕ) → Mode → Member → ℕ → Row
call_resolved p at Static m resolved = if has STATIC (method_at p resolved).flags then call_with p m [] else Ends
call_resolved p at Interface m resolved =
    if has STATIC (method_at p resolved).flags || has PRIVATE (method_at p resolved).flags then Ends else call_instance p at Interface m
call_resolved p at mode m resolved = if has STATIC (method_at p resolved).flags then Ends else call_instance p at mode m

abbrev pub if_method : Program → (method : ℕ) → Mode → Member → Option ℕ → Row
if_method p at mode m None = Ends
if_method p at mode m (Some resolved) = call_resolved p at mode m resolved

-- the clone of an array
abbrev pub clone_array : Program → (method : ℕ) → Mode → Member → Row
clone_array p at Static m = Ends
clone_array p at mode m = computes (receiver p at mode m ∷ []) (object_type p)

abbrev pub on_class : Program → (method : ℕ) → Mode → Member → ℕ → Row
on_class p at mode m named =
    elim (is_array_clone p named m.name m.descriptor) [
      | true ↦ clone_array p at mode m
      | false ↦ if_method p at mode m (resolve_method p named m.name m.descriptor)
    ]

-- a Methodref names a class, an InterfaceMethodref an interface
abbrev pub invoke : Program → (method : ℕ) → Mode → Member → Row
invoke p at mode m =
    with_class p m.class (λ named. if same_bool m.by_interface (is_interface p named) then on_class p at mode m named else Ends)

-- ---- returns

abbrev pub return_wants : Program → List ℕ → Option JavaType → List Want
return_wants p descriptor None = []
return_wants p descriptor (Some t) = wanted_of p descriptor t ∷ []

abbrev pub return_from : Program → List ℕ → Option Sort → Row
return_from p descriptor s =
    let result = (signature descriptor).result in if agrees s result then Leaves (return_wants p descriptor result) else Refused

-- ---- new objects

abbrev pub new_of_class : Program → List ℕ → ℕ → Row
new_of_class p name c = if has ABSTRACT (class_at p c).flags || is_interface p c then Ends else gives (ref_of p name)

abbrev pub new_instance : Program → List ℕ → Row
new_instance p name = with_class p name (new_of_class p name)

abbrev pub new_references : Program → List ℕ → Row
new_references p name = with_class p name (λ c. computes (int ∷ []) (arrays_over p 1 name))

abbrev pub new_grid : Program → List ℕ → ℕ → Row
new_grid p name d = with_class p name (λ c. computes (replicate d int) (ref_of p name))

-- ---- the table

-- what an operation of a method's code needs and gives: what its program decides, and else what no program does
abbrev pub row_of : Program → (method : ℕ) → Operation → Row
row_of p m (PushEntry i) = push_entry p (pool_of p m) (entry_of (pool_of p m) i)
row_of p m (operation.Load s n) = Load s n
row_of p m (operation.Store s n) = Store s n
row_of p m (LoadElement e) = load_element p e
row_of p m (StoreElement e) = store_element p e
row_of p m (Stack form) = Move form
row_of p m (operation.Increase n by) = Increase n
row_of p m (Return s) = return_from p (method_at p m).descriptor s
row_of p m (GetStatic i) = with_field p (member (pool_of p m) i) true (λ t. gives t)
row_of p m (PutStatic i) = with_field p (member (pool_of p m) i) true (λ t. takes (Fits t ∷ []))
row_of p m (GetField i) = with_field p (member (pool_of p m) i) false (λ t. computes (holder p (member (pool_of p m) i) ∷ []) t)
row_of p m (PutField i) = with_field p (member (pool_of p m) i) false (λ t. takes (Fits t ∷ holder p (member (pool_of p m) i) ∷ []))
row_of p m (Invoke mode i) = invoke p m mode (member (pool_of p m) i)
row_of p m (New i) = new_instance p (class_name (pool_of p m) i)
row_of p m (NewPrimitives number) = new_primitives number
row_of p m (NewReferences i) = new_references p (class_name (pool_of p m) i)
row_of p m (NewGrid i d) = new_grid p (class_name (pool_of p m) i) d
row_of p m Length = computes (any_array p ∷ []) Int
row_of p m Throw = Leaves (Fits (core_type p "java/lang/Throwable") ∷ [])
row_of p m (CheckCast i) = computes (reference ∷ []) (ref_of p (class_name (pool_of p m) i))
row_of p m o = plain_row o
