-- The refusals of linking, in words (own).
use Rattle.std.specs.List.{zip}
use Rattle.std.specs.Prelude.{List, None, Option, Some, [], bytes_eq, codes, find, flat_map, if◌then◌else◌, not, ℕ, ◌&&◌, ◌++◌}
use Rattle.vx_link.specs.declared.fault.LinkFault.{LinkFault}
use Rattle.vx_link.specs.declared.fault.LinkFault.TheVariants.{Cycle, FinalSuper, NoMain, NoMemory, NoOption, NoSuper, Twice}
use Rattle.vx_model.specs.declared.model.FieldPlace.{FieldPlace}
use Rattle.vx_model.specs.declared.model.OptionField.{OptionField}
use Rattle.vx_value.specs.Words.{word_of}
use Rattle.vx_outlines.specs.declared.outline.Outline.{Outline}

-- a line of a word between two texts
unfoldable pub word_line : (before word behind : List ℕ) → List ℕ
word_line before word behind = before ++ word_of word ++ behind ++ codes "\n"

-- a line for each of these names
abbrev pub names_text : (before : List ℕ) → List (List ℕ) → List ℕ
names_text before names = flat_map (λ name. word_line before name (codes "")) names

-- the first class of a name
abbrev pub named : List Outline → List ℕ → Option Outline
named all name = find (λ o. bytes_eq o.name name) all

-- ---- parents that do not fit

-- what is wrong with a superclass
abbrev pub parent_line : (child : Outline) → (name : List ℕ) → Option Outline → List ℕ
parent_line child name None = word_line (codes "superclass ") name (codes " is neither in the folder nor a core class")
parent_line child name (Some parent) =
    if parent.is_interface then word_line (codes "superclass ") name (codes " is an interface")
    else if child.is_interface && not (bytes_eq name (codes "java/lang/Object"))
    then word_line (codes "superclass ") name (codes " of an interface is not java/lang/Object")
    else []

abbrev pub parent_text : List Outline → (child : Outline) → Option (List ℕ) → List ℕ
parent_text all child None = []
parent_text all child (Some name) = parent_line child name (named all name)

-- what is wrong with a superinterface
abbrev pub interface_lines : (name : List ℕ) → Option Outline → List ℕ
interface_lines name None = word_line (codes "superinterface ") name (codes " is neither in the folder nor a core class")
interface_lines name (Some parent) = if parent.is_interface then [] else word_line (codes "superinterface ") name (codes " is a class")

abbrev pub interfaces_text : List Outline → List (List ℕ) → List ℕ
interfaces_text all names = flat_map (λ name. interface_lines name (named all name)) names

abbrev pub parent_lines : List Outline → (child : Outline) → List ℕ
parent_lines all child = parent_text all child child.parent ++ interfaces_text all child.interfaces

abbrev pub misfits_of : List Outline → Option Outline → List ℕ
misfits_of all None = []
misfits_of all (Some child) = parent_lines all child

abbrev pub parents_text : (classes core : List Outline) → (name : List ℕ) → List ℕ
parents_text classes core name =
    word_line (codes "class ") name (codes " does not fit its superclass or a superinterface") ++ misfits_of (classes ++ core) (named classes name)

-- ---- a class that is there twice

-- the line of a class with the path of its file
abbrev pub file_line : (name : List ℕ) → Outline × List ℕ → List ℕ
file_line name (class, path) = if bytes_eq class.name name then word_line (codes "file ") path (codes "") else []

-- the paths of the files whose classes have a name
abbrev pub files_text : (name : List ℕ) → List Outline → (paths : List (List ℕ)) → List ℕ
files_text name classes paths = flat_map (file_line name) (zip classes paths)

abbrev pub core_of : (name : List ℕ) → Option Outline → List ℕ
core_of name None = []
core_of name (Some class) = word_line (codes "core class ") name (codes "")

abbrev pub core_line : List Outline → (name : List ℕ) → List ℕ
core_line core name = core_of name (named core name)

abbrev pub twice_text : List Outline → List (List ℕ) → (core : List Outline) → (name : List ℕ) → List ℕ
twice_text classes paths core name =
    word_line (codes "class ") name (codes " is there twice") ++ files_text name classes paths ++ core_line core name

-- ---- superclasses that are final, and cycles

abbrev pub superclass_text : Option (List ℕ) → List ℕ
superclass_text None = []
superclass_text (Some name) = word_line (codes "superclass ") name (codes "")

abbrev pub final_of : Option Outline → List ℕ
final_of None = []
final_of (Some child) = superclass_text child.parent

abbrev pub final_text : List Outline → (name : List ℕ) → List ℕ
final_text classes name = word_line (codes "class ") name (codes " has a superclass that is final") ++ final_of (named classes name)

abbrev pub ancestors_text : Outline → List ℕ
ancestors_text child = superclass_text child.parent ++ names_text (codes "superinterface ") child.interfaces

abbrev pub cycle_of : Option Outline → List ℕ
cycle_of None = []
cycle_of (Some child) = ancestors_text child

abbrev pub cycle_text : List Outline → (name : List ℕ) → List ℕ
cycle_text classes name = word_line (codes "class ") name (codes " is its own ancestor") ++ cycle_of (named classes name)

-- ---- a class without a main

abbrev pub main_line : Outline → List ℕ
main_line class = if class.has_main then word_line (codes "main ") class.name (codes "") else []

abbrev pub main_of : (name : List ℕ) → Option Outline → List ℕ
main_of name None = word_line (codes "class ") name (codes " is not in the folder")
main_of name (Some class) = word_line (codes "class ") name (codes " has no public static void main(String[]) with code")

abbrev pub main_text : List Outline → (name : List ℕ) → List ℕ
main_text classes name = main_of name (named classes name)

abbrev pub no_main_text : List Outline → (name : List ℕ) → List ℕ
no_main_text classes name = main_text classes name ++ flat_map main_line classes

-- ---- an option without its field

-- the fields of a class that an option can have
abbrev pub flags_text : (name : List ℕ) → Outline → List ℕ
flags_text name class =
    word_line (codes "class ") name (codes " has these static fields of type boolean") ++ names_text (codes "field ") class.flags

abbrev pub choice_of : (name : List ℕ) → Option Outline → List ℕ
choice_of name None = word_line (codes "class ") name (codes " is not in the folder")
choice_of name (Some class) = flags_text name class

abbrev pub choice_text : List Outline → (name : List ℕ) → List ℕ
choice_text classes name = choice_of name (named classes name)

abbrev pub place_text : List Outline → Option FieldPlace → List ℕ
place_text classes None = []
place_text classes (Some place) =
    word_line (codes "field ") place.field (codes " is not there") ++ choice_text classes place.class

abbrev pub option_named : List OptionField → List ℕ → Option OptionField
option_named options name = find (λ o. bytes_eq o.name name) options

abbrev pub option_of : List Outline → Option OptionField → List ℕ
option_of classes None = []
option_of classes (Some option) = place_text classes option.place

abbrev pub no_option_text : List Outline → List OptionField → (name : List ℕ) → List ℕ
no_option_text classes options name =
    word_line (codes "option ") name (codes " has a field that is no static one of type boolean")
    ++ option_of classes (option_named options name)

-- ---- any refusal

abbrev pub refusal_text : List Outline → (paths : List (List ℕ)) → (core : List Outline) → List OptionField → (main : List ℕ) → LinkFault → List ℕ
refusal_text classes paths core options main NoMemory = []
refusal_text classes paths core options main (Twice class) = twice_text classes paths core class
refusal_text classes paths core options main (NoSuper class) = parents_text classes core class
refusal_text classes paths core options main (FinalSuper class) = final_text classes class
refusal_text classes paths core options main (Cycle class) = cycle_text classes class
refusal_text classes paths core options main (NoOption option) = no_option_text classes options option
refusal_text classes paths core options main NoMain = no_main_text classes main
