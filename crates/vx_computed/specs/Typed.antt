-- Types of local variables and operands in a small program: which fits which, and what instructions make of them.
use Rattle.std.specs.Prelude.{List, None, Option, Some, [], codes, false, map, true, ℕ, ◌∷◌, ◌≡◌}
use Prim.Native.String.{String}
use Rattle.vx_computed.specs.Examples.{coded}
use Rattle.vx_class.specs.declared.class_file.Code.{Code}
use Rattle.vx_java.specs.declared.operation.Element.TheVariants.{Bytes}
use Rattle.vx_java.specs.declared.operation.Mode.TheVariants.{Special, Static, Virtual}
use Rattle.vx_java.specs.declared.operation.Operation.TheVariants.{CheckCast, GetField, Invoke, LoadElement, New}
use Rattle.vx_java.specs.declared.operation.Shuffle.TheVariants.{Dup2, Pop2, Swap}
use Rattle.vx_java.specs.declared.operation.Sort.TheVariants as sort
use Rattle.vx_link.specs.Linked.{program_of}
use Rattle.vx_link.specs.Written.{WrittenClass, a_class, a_field, a_method, class_file, index_of, plain, references_at}
use Rattle.vx_link.specs.declared.program.Program.{Program}
use Rattle.vx_types.specs.Fits.{fits}
use Rattle.vx_types.specs.Flow.{Next, Refuses, after, flow_of}
use Rattle.vx_types.specs.Plain.{takes}
use Rattle.vx_types.specs.Rows.{row_of}
use Rattle.vx_types.specs.Types.{VerState, object_type, ref_of}
use Rattle.vx_types.specs.declared.types.Row.TheVariants.{Ends, Leaves, LoadReference, Move, Store}
use Rattle.vx_types.specs.declared.types.VerType.{VerType}
use Rattle.vx_types.specs.declared.types.VerType.TheVariants.{Int, Long, Null, Top}
use Rattle.vx_types.specs.declared.types.Want.TheVariants.{Fits, FitsBoth, FitsOne}

-- ---- a program

abbrev pub class_of : String → Option String → ℕ → WrittenClass
class_of name superclass flags =
    record { major = 51; name = name; superclass = superclass; interfaces = []; flags = flags; fields = []; methods = []; references = [] }

abbrev pub main_class : WrittenClass
main_class =
    record {
      major = 51;
      name = "Main";
      superclass = Some "Mid";
      interfaces = [];
      flags = 0x0021;
      fields = record { name = "f"; descriptor = "F"; flags = 0x0000 } ∷ [];
      methods = coded 0x0009 "m" "()V" 2 0 (plain 0x00 [] ∷ []) [] ∷ coded 0x0001 "n" "(FI)F" 0 3 (plain 0x00 [] ∷ []) [] ∷ [];
      references = a_class "Gone" ∷ a_field "Main" "f" "F" ∷ a_method "Base" "m" "()V" ∷ a_method "Main" "m" "()V" ∷ a_method "Main" "n" "(FI)F" ∷ [];
    }

-- Object, an interface I, and Main below Mid below Base
abbrev pub written : List WrittenClass
written =
    class_of "java/lang/Object" None 0x0021
    ∷ class_of "I" (Some "java/lang/Object") 0x0601
    ∷ record (class_of "Base" (Some "java/lang/Object") 0x0021) { methods = coded 0x0001 "m" "()V" 0 1 (plain 0xb1 [] ∷ []) [] ∷ [] }
    ∷ class_of "Mid" (Some "Base") 0x0021
    ∷ main_class
    ∷ []

abbrev pub world : Program
world = program_of (map class_file written) [] [] [] (codes "Main")

-- the number of Main's method m: each of the classes before it has an initialiser, and Base a method
abbrev pub m_of_main : ℕ
m_of_main = 5

-- the index of one of Main's references
abbrev pub entry : ℕ → ℕ
entry reference = index_of (references_at main_class) reference

abbrev pub t : String → VerType
t name = ref_of world (codes name)

abbrev pub state : List VerType → List VerType → VerState
state locals operands = record { locals = locals; operands = operands }

-- ---- which type fits which

-- an interface counts as Object, also as a component
abbrev pub InterfacesCountAsObject : Type 0
InterfacesCountAsObject = (t "I" ≡ object_type world) × (t "[LI;" ≡ t "[Ljava/lang/Object;")

abbrev pub ClassesFit : Type 0
ClassesFit =
    (fits world (t "Main") (t "Base") ≡ true) × (fits world (t "Base") (t "Mid") ≡ false) × (fits world (t "Base") (t "java/lang/Object") ≡ true)
    × (fits world Null (t "Base") ≡ true) × (fits world Int (t "Base") ≡ false) × (fits world (t "Base") Top ≡ true)

-- a class that isn't there fits itself and Object alone
abbrev pub MissingClassesFit : Type 0
MissingClassesFit =
    (fits world (t "Gone") (t "Gone") ≡ true) × (fits world (t "Gone") (t "java/lang/Object") ≡ true) × (fits world (t "Gone") (t "Base") ≡ false)
    × (fits world (t "Gone") (t "Lost") ≡ false) × (fits world (t "Base") (t "Gone") ≡ false) × (fits world (t "[LGone;") (t "[Ljava/lang/Object;") ≡ true)

abbrev pub ArraysFit : Type 0
ArraysFit =
    (fits world (t "[LMid;") (t "[LBase;") ≡ true) × (fits world (t "[I") (t "[J") ≡ false) × (fits world (t "[I") (t "java/lang/Object") ≡ true)
    × (fits world (t "[[I") (t "[Ljava/lang/Object;") ≡ true) × (fits world (t "[I") (t "[Ljava/lang/Object;") ≡ false) × (fits world (t "[[LMid;") (t "[LBase;") ≡ false)

-- ---- what instructions make of types

-- the other half of a long cannot be read once one half is overwritten
abbrev pub HalvesOfLongs : Type 0
HalvesOfLongs =
    (after world (Store sort.Int 1) (state (Long ∷ Top ∷ []) (Int ∷ [])) ≡ Some (state (Top ∷ Int ∷ []) []))
    × (after world (Store sort.Long 1) (state (Long ∷ Top ∷ Int ∷ []) (Long ∷ [])) ≡ Some (state (Top ∷ Long ∷ Top ∷ []) []))

-- values are moved by their words
abbrev pub WordsMoved : Type 0
WordsMoved =
    (after world (Move Dup2) (state [] (Long ∷ Int ∷ [])) ≡ Some (state [] (Long ∷ Long ∷ Int ∷ [])))
    × (after world (Move Pop2) (state [] (Int ∷ Long ∷ [])) ≡ None)
    × (after world (Move Swap) (state [] (Int ∷ Null ∷ [])) ≡ Some (state [] (Null ∷ Int ∷ [])))

-- the component of null is null, and that of an array of arrays an array
abbrev pub ComponentsLoaded : Type 0
ComponentsLoaded =
    (after world LoadReference (state [] (Int ∷ Null ∷ [])) ≡ Some (state [] (Null ∷ [])))
    × (after world LoadReference (state [] (Int ∷ t "[[I" ∷ [])) ≡ Some (state [] (t "[I" ∷ [])))
    × (after world LoadReference (state [] (Int ∷ t "[I" ∷ [])) ≡ None)

-- bytes and booleans have instructions in common
abbrev pub BytesLoaded : Type 0
BytesLoaded =
    (after world (row_of world m_of_main (LoadElement Bytes)) (state [] (Int ∷ t "[Z" ∷ [])) ≡ Some (state [] (Int ∷ [])))
    × (after world (row_of world m_of_main (LoadElement Bytes)) (state [] (Int ∷ t "[B" ∷ [])) ≡ Some (state [] (Int ∷ [])))
    × (after world (row_of world m_of_main (LoadElement Bytes)) (state [] (Int ∷ t "[C" ∷ [])) ≡ None)

-- a class that isn't there: nothing follows new, but a cast has an operand and goes on
abbrev pub MissingClassesNamed : Type 0
MissingClassesNamed =
    (row_of world m_of_main (New (entry 0)) ≡ Ends)
    × (after world (row_of world m_of_main (CheckCast (entry 0))) (state [] (Null ∷ [])) ≡ Some (state [] (t "Gone" ∷ [])))

-- a float field ends the run; a float argument has nothing that fits it, and behind a call with a float result nothing follows
abbrev pub FloatsNamed : Type 0
FloatsNamed =
    (row_of world m_of_main (GetField (entry 1)) ≡ Ends)
    × (row_of world m_of_main (Invoke Virtual (entry 4)) ≡ Leaves (Fits Int ∷ FitsOne [] ∷ Fits (t "Main") ∷ []))

-- the receiver of invokespecial of another name than <init> is of the class that has the call too
abbrev pub SpecialCalls : Type 0
SpecialCalls =
    (row_of world m_of_main (Invoke Special (entry 2)) ≡ takes (FitsBoth (t "Base") (t "Main") ∷ []))
    × (row_of world m_of_main (Invoke Virtual (entry 2)) ≡ takes (Fits (t "Base") ∷ []))
    × (row_of world m_of_main (Invoke Virtual (entry 3)) ≡ Ends)
    × (row_of world m_of_main (Invoke Static (entry 3)) ≡ takes [])

abbrev pub nops : Code
nops = record { max_stack = 0; max_locals = 0; bytes = 0x00 ∷ 0x00 ∷ []; catches = [] }

-- the end of the code is no position of it
abbrev pub EndOfCode : Type 0
EndOfCode =
    (flow_of world m_of_main nops 0 (state [] []) ≡ Next (state [] []) (1 ∷ []))
    × (flow_of world m_of_main nops 1 (state [] []) ≡ Refuses)
