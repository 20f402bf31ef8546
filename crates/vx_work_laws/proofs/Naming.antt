-- The pools of the workload have the name of the attribute that holds code.
use Prim.Native.String.{String}
use Rattle.std.proofs.Common.{All, List, [], ap, codes, map, refl, ℕ, ◌+◌, ◌∷◌}
use Rattle.std.specs.List.{AllByRecursion}
use Rattle.vx_class.specs.Members.{is_given}
use Rattle.vx_gen.specs.Workload.{keep_class, main_class, option_field, step_class, turn_class, work_file, work_files}
use Rattle.vx_link.specs.Written.{field_files}
use Rattle.vx_pool.specs.declared.pool.Pool.{Pool}
use Rattle.vx_work_laws.proofs.MainPool.{code_name, code_name_at}
use Rattle.vx_work_laws.proofs.Stands.{all_four}
use Rattle.vx_writer.specs.Written.{IsNamed, IsNamedField}
use Rattle.std.specs.Prelude.{false}

fields_named : (pool : Pool) (names : List String) (at : ℕ) → AllByRecursion (IsNamedField pool false) (field_files at (map option_field names))
fields_named pool [] at = tt
fields_named pool (n ∷ names) at = (tt, fields_named pool names (at + 2))

main_named : (seed : ℕ) (names : List String) → IsNamed (work_file (main_class seed names))
main_named seed names = record {
  fields = fields_named (work_file (main_class seed names)).pool names 5;
  methods = ((code_name_at names, ap (is_given (codes "Code")) (code_name names)), tt);
}

step_named : IsNamed (work_file step_class)
step_named = record { fields = tt; methods = (tt, tt) }

keep_named : IsNamed (work_file keep_class)
keep_named = record { fields = tt; methods = ((17, refl), ((17, refl), tt)) }

turn_named : IsNamed (work_file turn_class)
turn_named = record { fields = tt; methods = ((17, refl), ((17, refl), tt)) }

pub files_named : (seed : ℕ) (names : List String) → All IsNamed (work_files seed names)
files_named seed names =
    all_four IsNamed (work_file (main_class seed names)) (work_file step_class) (work_file keep_class) (work_file turn_class) (main_named seed names) step_named keep_named turn_named
