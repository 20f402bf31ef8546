-- The program of class files whose codes lead from instruction to instruction has such codes alone.
use Rattle.std.proofs.Common.{All, Bool, Err, List, None, Ok, Option, Result, Some, [], ap, false, if◌then◌else◌, is_some, length, refl, subst, suc, true, ℕ, ◌∙◌, ◌∷◌, ◌≡◌}
use Rattle.std.proofs.lemmas.List.Folds.{list_all-append}
use Rattle.std.specs.List.{list_all}
use Rattle.vx_class.specs.File.{Holds}
use Rattle.vx_class.specs.declared.class_file.ClassFile.{ClassFile}
use Rattle.vx_class.specs.declared.class_file.Method.{Method}
use Rattle.vx_link.specs.Faults.{link_fault}
use Rattle.vx_link.specs.Linked.{empty_clinit, linked_methods, methods_from, methods_of_class, own_clinit, program_of, unless_fault}
use Rattle.vx_link.specs.declared.fault.LinkFault.{LinkFault}
use Rattle.vx_link.specs.declared.program.LinkedMethod.{LinkedMethod}
use Rattle.vx_link.specs.declared.program.Program.{Program}
use Rattle.vx_model.specs.declared.model.OptionField.{OptionField}
use Rattle.vx_opcode.specs.Decode.{instruction_at, shaped_at}
use Rattle.vx_pool.specs.declared.pool.Pool.{Pool}
use Rattle.std.specs.Cmp.Derive.{both_true}
use Rattle.vx_pool.specs.Holding.{and_true}
use Rattle.vx_jump_targets.proofs.Lists.{all_pass}
use Rattle.vx_jump_targets.proofs.PlacedFiles.{is_placed_file, placed_file}
use Rattle.vx_jump_targets.specs.Placed.{are_well_placed, has_placed_code}

abbrev is_placed : LinkedMethod → Bool
is_placed m = has_placed_code m.code

placed_methods_of : (class : ℕ) (pool : Pool) (methods : List Method) (numbers : List ℕ)
    → list_all (λ m. has_placed_code m.code) methods ≡ true → list_all is_placed (linked_methods class pool methods numbers) ≡ true
placed_methods_of class pool [] numbers h = refl
placed_methods_of class pool (m ∷ methods) [] h = both_true (and_true _ _ h).0 (placed_methods_of class pool methods [] (and_true _ _ h).1)
placed_methods_of class pool (m ∷ methods) (n ∷ numbers) h = both_true (and_true _ _ h).0 (placed_methods_of class pool methods numbers (and_true _ _ h).1)

placed_clinit : (class : ℕ) (own : Bool) → list_all is_placed (if own then [] else empty_clinit class ∷ []) ≡ true
unfolding instruction_at shaped_at
placed_clinit class true = refl
placed_clinit class false = refl

placed_methods_in : (class : ℕ) (c : ClassFile) (numbers : List ℕ) → is_placed_file c ≡ true → list_all is_placed (methods_of_class class c numbers) ≡ true
placed_methods_in class c numbers h =
    list_all-append is_placed (linked_methods class c.pool c.methods numbers) (if is_some (own_clinit c) then [] else empty_clinit class ∷ [])
    ∙ both_true (placed_methods_of class c.pool c.methods numbers h) (placed_clinit class (is_some (own_clinit c)))

placed_methods : (class : ℕ) (files : List ClassFile) (numbers : List (List ℕ)) → list_all is_placed_file files ≡ true
    → list_all is_placed (methods_from class files numbers) ≡ true
placed_methods class [] numbers h = refl
placed_methods class (c ∷ files) [] h =
    list_all-append is_placed (methods_of_class class c []) (methods_from (suc class) files [])
    ∙ both_true (placed_methods_in class c [] (and_true _ _ h).0) (placed_methods (suc class) files [] (and_true _ _ h).1)
placed_methods class (c ∷ files) (ns ∷ numbers) h =
    list_all-append is_placed (methods_of_class class c ns) (methods_from (suc class) files numbers)
    ∙ both_true (placed_methods_in class c ns (and_true _ _ h).0) (placed_methods (suc class) files numbers (and_true _ _ h).1)

pub made_is : (fault : Option LinkFault) (made p : Program) → unless_fault fault made ≡ Ok p → made ≡ p
made_is None made p is = ap (program_in made) is
  where
    program_in : Program → Result Program LinkFault → Program
    program_in other (Ok p) = p
    program_in other (Err fault) = other
made_is (Some fault) made p is = cc

-- with any core classes whose codes do
pub placed : (core : List ClassFile) (numbers : List (List ℕ)) → list_all is_placed_file core ≡ true
    → (classes : List ClassFile) (options : List OptionField) (main : List ℕ) (p : Program) → All Holds classes
    → unless_fault (link_fault classes core options main) (program_of classes core numbers options main) ≡ Ok p → are_well_placed p ≡ true
placed core numbers placed_core classes options main p holds is =
    let P : Program → Type 0 = λ q. are_well_placed q ≡ true in
    subst P (made_is (link_fault classes core options main) (program_of classes core numbers options main) p is)
    (list_all-append is_placed (methods_from 0 classes []) (methods_from (length classes) core numbers)
    ∙ both_true
    (placed_methods 0 classes [] (all_pass Holds is_placed_file placed_file classes holds))
    (placed_methods (length classes) core numbers placed_core))
