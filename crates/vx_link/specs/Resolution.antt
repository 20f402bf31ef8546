-- Resolution of fields (JVMS 5.4.3.2) and of methods (JVMS 5.4.3.3 and 5.4.3.4, Java SE 8; no access checks).
use Rattle.std.specs.List.{filter_map, list_any}
use Rattle.std.specs.Option.{option_or}
use Rattle.std.specs.Prelude.{Bool, List, None, Option, Some, [], bytes_eq, codes, filter, find, flat_map, if◌then◌else◌, is_some, not, true, ℕ, ◌&&◌, ◌==◌, ◌∷◌}
use Rattle.vx_desc.specs.Names.{is_init}
use Rattle.vx_link.specs.ClassNames.{is_array, object_class}
use Rattle.vx_link.specs.Hierarchy.{interfaces_below, is_among, superclasses, superinterfaces}
use Rattle.vx_link.specs.Parts.{field_at, fields_of, is_abstract, is_inherited, method_at, methods_of}
use Rattle.vx_link.specs.declared.program.LinkedMethod.{LinkedMethod}
use Rattle.vx_link.specs.declared.program.Program.{Program}

-- what the first of these classes that gives something gives
abbrev pub first_given : (ℕ → Option ℕ) → List ℕ → Option ℕ
first_given f [] = None
first_given f (c ∷ cs) = elim (f c) [ Some m ↦ Some m | None ↦ first_given f cs ]

-- ---- fields

-- the field of this name and descriptor that a class declares
abbrev pub own_field : Program → (name descriptor : List ℕ) → ℕ → Option ℕ
own_field p name descriptor c =
    find (λ f. bytes_eq (field_at p f).name name && bytes_eq (field_at p f).descriptor descriptor) (fields_of p c)

-- a class, then its direct superinterfaces in file order, each directly followed by its own, then its superclass in the same way
abbrev pub field_order : Program → ℕ → List ℕ
field_order p c = flat_map (λ d. d ∷ interfaces_below p d) (superclasses p c)

-- an array class has no field
abbrev pub resolve_field : Program → ℕ → (name descriptor : List ℕ) → Option ℕ
resolve_field p c name descriptor = if is_array p c then None else first_given (own_field p name descriptor) (field_order p c)

-- ---- methods

-- the method of this name and descriptor that a class declares and that passes a test
abbrev pub own_method : Program → (LinkedMethod → Bool) → (name descriptor : List ℕ) → ℕ → Option ℕ
own_method p test name descriptor c =
    find
    (λ m. bytes_eq (method_at p m).name name && (bytes_eq (method_at p m).descriptor descriptor && test (method_at p m)))
    (methods_of p c)

abbrev pub any_method : LinkedMethod → Bool
any_method m = true

-- each number once, where it comes first
abbrev pub distinct : List ℕ → List ℕ
distinct [] = []
distinct (x ∷ xs) = let rest = distinct xs in x ∷ filter (λ y. not (x == y)) rest

-- the superinterfaces that declare such a method, neither private nor static
abbrev pub declaring_interfaces : Program → (name descriptor : List ℕ) → ℕ → List ℕ
declaring_interfaces p name descriptor c =
    filter (λ i. is_some (own_method p is_inherited name descriptor i)) (distinct (superinterfaces p c))

-- those of them below which no other stands
abbrev pub maximally_specific : Program → List ℕ → List ℕ
maximally_specific p interfaces = filter (λ i. not (list_any (λ j. is_among i (interfaces_below p j)) interfaces)) interfaces

-- the maximally-specific superinterface methods of a class that are not abstract
abbrev pub specific_methods : Program → (name descriptor : List ℕ) → ℕ → List ℕ
specific_methods p name descriptor c =
    filter
    (λ m. not (is_abstract (method_at p m)))
    (filter_map (own_method p is_inherited name descriptor) (maximally_specific p (declaring_interfaces p name descriptor c)))

-- the element of a list that has just one
abbrev pub only : List ℕ → Option ℕ
only [] = None
only (m ∷ []) = Some m
only (m ∷ n ∷ ms) = None

-- an <init> in the class alone; another method in the class and its superclasses, then the one maximally-specific method that is not abstract, then the first method of the superinterfaces that is neither private nor static
abbrev pub resolve_in_class : Program → ℕ → (name descriptor : List ℕ) → Option ℕ
resolve_in_class p c name descriptor =
    if is_init name
    then own_method p any_method name descriptor c
    else option_or
    (first_given (own_method p any_method name descriptor) (superclasses p c))
    (option_or
    (only (specific_methods p name descriptor c))
    (first_given (own_method p is_inherited name descriptor) (superinterfaces p c)))

-- an array class has the methods of Object, but no <init>
abbrev pub resolve_method : Program → ℕ → (name descriptor : List ℕ) → Option ℕ
resolve_method p c name descriptor =
    if is_array p c && is_init name
    then None
    else resolve_in_class p (if is_array p c then object_class p else c) name descriptor

-- and a clone, which is no method of the program
abbrev pub is_array_clone : Program → ℕ → (name descriptor : List ℕ) → Bool
is_array_clone p c name descriptor =
    is_array p c && (bytes_eq name (codes "clone") && bytes_eq descriptor (codes "()Ljava/lang/Object;"))
