-- The core classes that are named are there.
use Rattle.std.proofs.Common.{Bool, List, [], ap, codes, false, refl, true, ◌++◌, ◌∙◌, ◌∷◌, ◌≡◌}
use Prim.Native.String.{String}
use Rattle.std.specs.Cmp.Derive.{both_true}
use Rattle.std.specs.List.{list_all}
use Rattle.std.specs.Prelude.{not}
use Rattle.vx_class.specs.declared.class_file.ClassFile.{ClassFile}
use Rattle.vx_pool.specs.Holding.{and_true}
use Rattle.vx_link.specs.ClassNames.{class_of_name}
use Rattle.vx_link.specs.Faults.{is_interface_file}
use Rattle.vx_link.specs.declared.program.Program.{Program}
use Rattle.vx_sound.specs.Sound.{HasCore, array_interfaces, is_class_there, named_classes}
use Rattle.vx_sound_classes.proofs.CoreFacts.{IsCore, is_class_file_in, is_interface_file_in}
use Rattle.vx_sound_classes.proofs.Linked.{interface_is, passing, place_is}
use Rattle.vx_sound_classes.proofs.Programs.{IsLinked, kept}

follow : {A : Type 0} (given test : A → Bool) → ((x : A) → given x ≡ true → test x ≡ true) → (xs : List A) → list_all given xs ≡ true → list_all test xs ≡ true
follow given test law [] h = refl
follow given test law (x ∷ xs) h = let parts = and_true _ _ h in both_true (law x parts.0) (follow given test law xs parts.1)

class_there : (p : Program) (classes core : List ClassFile) → IsLinked p classes core → (name : String) → is_class_file_in core (codes name) ≡ true
    → is_class_there p false (class_of_name p (codes name)) ≡ true
class_there p classes core is name h =
    let s = passing (classes ++ core) (λ c. not (is_interface_file c)) (codes name) (kept classes core is.once _ (codes name) h) in
    ap (is_class_there p false) (place_is p (classes ++ core) is.of (codes name) ∙ s.found.place)
    ∙ ap not (interface_is p (classes ++ core) is.of s.found.at s.file s.found.there)
    ∙ s.test_is

interface_there : (p : Program) (classes core : List ClassFile) → IsLinked p classes core → (name : String) → is_interface_file_in core (codes name) ≡ true
    → is_class_there p true (class_of_name p (codes name)) ≡ true
interface_there p classes core is name h =
    let s = passing (classes ++ core) is_interface_file (codes name) (kept classes core is.once _ (codes name) h) in
    ap (is_class_there p true) (place_is p (classes ++ core) is.of (codes name) ∙ s.found.place)
    ∙ interface_is p (classes ++ core) is.of s.found.at s.file s.found.there
    ∙ s.test_is

pub has_core : (p : Program) (classes core : List ClassFile) → IsCore core → IsLinked p classes core → HasCore p
has_core p classes core facts is = record {
  classes = follow (λ name. is_class_file_in core (codes name)) (λ name. is_class_there p false (class_of_name p (codes name))) (class_there p classes core is) named_classes facts.classes;
  interfaces = follow (λ name. is_interface_file_in core (codes name)) (λ name. is_class_there p true (class_of_name p (codes name))) (interface_there p classes core is) array_interfaces facts.interfaces;
}
