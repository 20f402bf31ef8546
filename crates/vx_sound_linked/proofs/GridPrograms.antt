-- So it is in the program that class files link to.
use Rattle.std.proofs.Common.{List, Option, Some, [], ap, arith, inl, inr, length, refl, slice_get, subst, sym, true, ℕ, ◌&&◌, ◌++◌, ◌+◌, ◌∙◌, ◌≡◌, ◌⊎◌}
use Rattle.std.proofs.lemmas.Bool.{leb-true}
use Rattle.std.specs.List.{list_all}
use Rattle.std.specs.Prelude.{nat_le}
use Rattle.vx_class.specs.File.{Holds}
use Rattle.vx_class.specs.declared.class_file.ClassFile.{ClassFile}
use Rattle.vx_class.specs.declared.class_file.Code.{Code}
use Rattle.vx_class.specs.declared.class_file.Method.{Method}
use Rattle.vx_pool.specs.Holding.{and_true}
use Rattle.vx_pool.specs.Instructions.{dimensions}
use Rattle.vx_java.specs.declared.operation.Operation.{Operation}
use Rattle.vx_jump_targets.proofs.Lists.{all_pass}
use Rattle.vx_jump_targets.proofs.WellPlaced.{made_is}
use Rattle.vx_jump_targets.specs.Placed.{starts_in}
use Rattle.vx_kept_facts.proofs.Places.{passes_there}
use Rattle.vx_link.specs.CoreFiles.{core_files, native_numbers}
use Rattle.vx_link.specs.Faults.{link_fault}
use Rattle.vx_link.specs.Linked.{empty_clinit, methods_from, program_of}
use Rattle.vx_link.specs.Names.{class_name}
use Rattle.vx_link.specs.Parts.{class_at, no_method}
use Rattle.vx_link.specs.Tables.{names_of}
use Rattle.vx_link.specs.declared.program.LinkedMethod.{LinkedMethod}
use Rattle.vx_link.specs.declared.program.Program.{Program}
use Rattle.vx_list.specs.Places.{item_or}
use Rattle.vx_model.specs.declared.model.OptionField.{OptionField}
use Rattle.vx_opcode.specs.Decode.{instruction_at, shaped_at}
use Rattle.vx_opcode.specs.declared.instruction.Instruction.{Instruction}
use Rattle.vx_pool.specs.declared.pool.Pool.{Pool}
use Rattle.vx_sound.specs.Sound.{HasGrids}
use Rattle.vx_sound_linked.proofs.GridCore.{fitting_core}
use Rattle.vx_sound_linked.proofs.GridFiles.{file_fits, is_fitting_code, is_fitting_file, is_fitting_instruction, is_fitting_operation}
use Rattle.vx_sound_linked.proofs.MethodFiles.{IsFrom, IsOfClass, at_place, file_behind, file_front, in_either, item_cases, method_from, pool_from}
use Rattle.vx_sound_linked.specs.Law.{LinkedHaveGrids}

clinit_fits : (pool : Pool) (class : ℕ) → is_fitting_code pool (empty_clinit class).code ≡ true
unfolding instruction_at shaped_at
clinit_fits pool class = refl

module _ (classes core : List ClassFile) (numbers : List (List ℕ)) (options : List OptionField) (main : List ℕ) (folder : list_all is_fitting_file classes ≡ true) (others : list_all is_fitting_file core ≡ true) where
  abbrev p : Program
  p = program_of classes core numbers options main

  -- the code of a method fits with the pool of its class
  abbrev Fits : LinkedMethod → Type 0
  Fits m = is_fitting_code (class_at p m.class.0).pool m.code ≡ true

  of_class : (class : ℕ) (c : ClassFile) (ns : List ℕ) (m : LinkedMethod) → slice_get (classes ++ core) class ≡ Some c → is_fitting_file c ≡ true → IsOfClass class c ns m → Fits m
  of_class class c ns m there fits (inl q) =
      subst Fits (sym q.is)
      (subst (λ (pool : Pool). is_fitting_code pool q.file.code ≡ true) (sym (pool_from (names_of (classes ++ core)) (classes ++ core) 0 0 class c there))
      (at_place (λ (f : Method). is_fitting_code c.pool f.code) c.methods q.place q.file fits q.there))
  of_class class c ns m there fits (inr q) = subst Fits (sym q) (clinit_fits (class_at p class).pool class)

  method_fits : (m : LinkedMethod) → (IsFrom 0 classes [] m) ⊎ (IsFrom (length classes) core numbers m) → Fits m
  method_fits m (inl q) =
      let same : 0 + q.place ≡ q.place = omega arith in
      of_class (0 + q.place) q.file (item_or [] q.place []) m (ap (slice_get (classes ++ core)) same ∙ file_front classes core q.place q.file q.there) (at_place is_fitting_file classes q.place q.file folder q.there) q.method
  method_fits m (inr q) =
      of_class (length classes + q.place) q.file (item_or numbers q.place []) m (file_behind classes core q.place q.file q.there) (at_place is_fitting_file core q.place q.file others q.there) q.method

  all_fit : (n : ℕ) → Fits (item_or p.methods n no_method)
  all_fit n = elim (item_cases p.methods n no_method) [
    | inl none ↦ subst Fits (sym none) refl
    | inr found ↦ subst Fits (sym found.2) (elim (in_either (methods_from 0 classes []) (methods_from (length classes) core numbers) n found.0 found.1) [
      | inl front ↦ method_fits found.0 (inl (method_from 0 classes [] n found.0 front))
      | inr back ↦ method_fits found.0 (inr (method_from (length classes) core numbers back.0 found.0 back.1))
    ])
  ]

  pub grids : HasGrids p
  grids = record {
    lengths = λ n code at i index d coded start there is.
        let fits : is_fitting_code (class_at p (item_or p.methods n no_method).class.0).pool (Some code) ≡ true =
        subst (λ (o : Option Code). is_fitting_code (class_at p (item_or p.methods n no_method).class.0).pool o ≡ true) coded (all_fit n) in
        let pool : Pool = (class_at p (item_or p.methods n no_method).class.0).pool in
        let here = passes_there (λ k. is_fitting_instruction pool (instruction_at code.bytes k)) (starts_in code) at fits start in
        let one : is_fitting_instruction pool (Some i) ≡ true = subst (λ (o : Option Instruction). is_fitting_instruction pool o ≡ true) there here in
        let bounds : (nat_le 1 d && nat_le d (dimensions (class_name pool index))) ≡ true = subst (λ (o : Operation). is_fitting_operation pool o ≡ true) is one in
        let parts = and_true (nat_le 1 d) (nat_le d (dimensions (class_name pool index))) bounds in
        (leb-true 1 d parts.0, leb-true d (dimensions (class_name pool index)) parts.1);
  }

pub linked_grids : LinkedHaveGrids
linked_grids classes options main p holds is =
    subst HasGrids (made_is (link_fault classes core_files options main) (program_of classes core_files native_numbers options main) p is)
    (grids classes core_files native_numbers options main (all_pass Holds is_fitting_file file_fits classes holds) fitting_core)
