-- How many words operands take, by their slots and by their plain values.
use Rattle.std.proofs.Common.{◌≡◌, ◌<◌, Bool, List, sym, ◌∙◌, ap, arith, map, reverse}
use Rattle.std.proofs.lemmas.List.{reverse-reverse}
use Rattle.std.specs.Prelude.{None, Option, Some}
use Rattle.vx_desc.specs.declared.java_type.JavaType.{JavaType}
use Rattle.vx_group_states.specs.Widths.{slots_size}
use Rattle.vx_group_states.proofs.Fitting.{slots_size-reverse, stack_size_of}
use Rattle.vx_heap.specs.Heap.{HeapView, value_of}
use Rattle.vx_java.specs.Checks.{sort_of, width_of_optional, width_of_type}
use Rattle.vx_java.specs.Machine.{stack_size}
use Rattle.vx_java.specs.declared.operation.Sort.{Sort}
use Rattle.vx_java.specs.declared.operation.Sort.TheVariants as sort
use Rattle.vx_space.specs.Sets.{Sets}
use Rattle.vx_value.specs.declared.slot.Slot.{Slot}

pub plain_size : {S I : Type 0} (sets : Sets I) (heap : HeapView S I) (c : List Bool) (slots : List Slot) → stack_size (map (value_of sets heap c) slots) ≡ slots_size slots
plain_size sets heap c slots =
    ap (λ xs. stack_size (map (value_of sets heap c) xs)) (sym (reverse-reverse slots))
    ∙ stack_size_of sets heap c (reverse slots)
    ∙ slots_size-reverse slots

-- a value of a type takes two words at most
pub width_small : (type : JavaType) → width_of_type type < 3
width_small type = small (sort_of type)
  where
    small : (s : Option Sort) → width_of_optional s < 3
    small None = omega arith
    small (Some sort.Int) = omega arith
    small (Some sort.Long) = omega arith
    small (Some sort.Reference) = omega arith
