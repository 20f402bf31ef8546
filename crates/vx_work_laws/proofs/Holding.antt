-- The class files of the workload are class files that a reading can give.
use Prim.Native.String.{String}
use Rattle.std.proofs.Common.{All, List, Some, [], ap, arith, codes, false, length, map, not, refl, subst, true, ℕ, ◌+◌, ◌≡◌, ◌∷◌}
use Rattle.std.proofs.lemmas.List.{length-map}
use Rattle.std.specs.List.{flat_map, list_all}
use Rattle.vx_class.specs.File.{CodeHolds, Holds, MethodHolds}
use Rattle.vx_pool.specs.Lookups.{is_array}
use Rattle.vx_desc.specs.Descriptors.{element_at, field_of, method_of, method_slots, result_at, type_at, types_at}
use Rattle.vx_desc.specs.Names.{is_class_name, is_field_name, is_method_name}
use Rattle.vx_work_laws.proofs.MainCode.{main_code_holds, main_names}
use Rattle.vx_work_laws.proofs.MainPool.{AreGood, all_are_checked, fields_hold, main_descriptor, main_name, main_name_at, main_pool, main_references_at, pool_is, references_at_is}
use Rattle.vx_work_laws.proofs.References.{AreChecked, is_plain, placed, pool_with}
use Rattle.vx_work_laws.proofs.Stands.{all_four}
use Rattle.vx_work_laws.proofs.Walks.{code_holds, index_decodes, plain_decoded, simple}
use Rattle.vx_gen.specs.Workload.{keep_class, keep_items, main_at, main_class, main_items, option_field, step_class, stepping_class, turn_class, turn_items, work_file, work_files}
use Rattle.vx_link.specs.Written.{Item, WrittenField, field_files, item_bytes, naming, plain}
use Rattle.vx_opcode.specs.declared.instruction.Instruction.{Instruction}
use Rattle.vx_opcode.specs.declared.instruction.Operand.TheVariants as operand
use Rattle.vx_pool.specs.declared.pool.Entry.{Entry}
use Rattle.vx_pool.specs.declared.pool.Entry.TheVariants as entry
use Rattle.vx_assembled.proofs.Decoded.{made}

-- ---- Main

field_count : (at : ℕ) (fields : List WrittenField) → length (field_files at fields) ≡ length fields
field_count at [] = refl
field_count at (f ∷ fields) = let rest = field_count (at + 2) fields in omega (arith, rest)

-- its method
main_method_holds : (seed : ℕ) (names : List String) → AreGood names
    → MethodHolds (pool_with (main_pool names)) 51 []
    (record {
      flags = 0x0009;
      name = main_name_at names;
      descriptor = main_name_at names + 1;
      code = Some (record { max_stack = 6; max_locals = 4; bytes = flat_map (item_bytes (main_references_at names)) (main_items (main_at (length names)) seed names); catches = [] });
    })
unfolding is_method_name method_slots method_of types_at type_at element_at result_at is_class_name
main_method_holds seed names are =
    let at = main_references_at names in
    let place = references_at_is names in
    let few = are.few in
    let meant : at ≡ main_at (length names) = omega (arith, place) in
    let code = main_code_holds names (main_pool names) at seed few (omega (arith, place, few)) (main_names names) in
    record {
      name = codes "main";
      descriptor = codes "([Ljava/lang/String;)V";
      is_name = main_name names;
      is_descriptor = main_descriptor names;
      flags = omega arith;
      lawful_name = refl;
      lawful_descriptor = refl;
      new = refl;
      initialiser = refl;
      code = (
        refl,
        subst (λ k. CodeHolds (pool_with (main_pool names)) 51 1 (record { max_stack = 6; max_locals = 4; bytes = flat_map (item_bytes at) (main_items k seed names); catches = [] })) meant code,
      );
    }

pub main_holds : (seed : ℕ) (names : List String) → AreGood names → Holds (work_file (main_class seed names))
main_holds seed names are =
    let fields = field_count 5 (map option_field names) in
    let count = length-map names option_field in
    let few = are.few in
    record {
      minor = omega arith;
      old = omega arith;
      new = omega arith;
      pool = pool_is names are;
      entries = all_are_checked names are;
      flags = omega arith;
      this_class = (refl, refl);
      super_class = (refl, refl);
      few_interfaces = omega arith;
      interfaces = tt;
      few_fields = omega (arith, fields, count, few);
      fields = fields_hold names are;
      few_methods = omega arith;
      methods = (main_method_holds seed names are, tt);
    }

-- ---- the steps

abbrev step_entries : List Entry
step_entries = entry.Class 2 ∷ entry.Utf8 (codes "Step") ∷ entry.Class 4 ∷ entry.Utf8 (codes "java/lang/Object") ∷ entry.Utf8 (codes "f") ∷ entry.Utf8 (codes "(II)I") ∷ entry.Utf8 (codes "Code") ∷ []

pub step_holds : Holds (work_file step_class)
unfolding is_field_name is_method_name is_class_name method_slots method_of types_at type_at element_at result_at
step_holds = record {
  minor = omega arith;
  old = omega arith;
  new = omega arith;
  pool = record { entries = step_entries; are = refl; placed = placed step_entries refl; few = omega arith };
  entries = (refl, (refl, (refl, (refl, (refl, (refl, (refl, (refl, tt))))))));
  flags = omega arith;
  this_class = (refl, refl);
  super_class = (refl, refl);
  few_interfaces = omega arith;
  interfaces = tt;
  few_fields = omega arith;
  fields = tt;
  few_methods = omega arith;
  methods = (
    record {
      name = codes "f";
      descriptor = codes "(II)I";
      is_name = refl;
      is_descriptor = refl;
      flags = omega arith;
      lawful_name = refl;
      lawful_descriptor = refl;
      new = refl;
      initialiser = refl;
      code = refl;
    },
    tt,
  );
}

-- what stands behind the first, unusable entry of a class that implements the step
abbrev stepping_entries : (name : List ℕ) → List Entry
stepping_entries name =
    entry.Class 2 ∷ entry.Utf8 name ∷ entry.Class 4 ∷ entry.Utf8 (codes "java/lang/Object") ∷ entry.Class 6 ∷ entry.Utf8 (codes "Step")
    ∷ entry.Utf8 (codes "<init>") ∷ entry.Utf8 (codes "()V") ∷ entry.Utf8 (codes "f") ∷ entry.Utf8 (codes "(II)I")
    ∷ entry.Method 12 14 ∷ entry.Class 13 ∷ entry.Utf8 (codes "java/lang/Object") ∷ entry.NameAndType 15 16 ∷ entry.Utf8 (codes "<init>") ∷ entry.Utf8 (codes "()V")
    ∷ entry.Utf8 (codes "Code")
    ∷ []

abbrev stepping_pool : (name : List ℕ) → List Entry
stepping_pool name = entry.Unusable ∷ stepping_entries name

abbrev constructor_items : List Item
constructor_items = plain 0x2a [] ∷ naming 0xb7 0 [] ∷ plain 0xb1 [] ∷ []

abbrev constructor_instructions : List Instruction
constructor_instructions = simple 0x2a ∷ made 0xb7 3 (operand.Pool 11) ∷ simple 0xb1 ∷ []

constructor_holds : (name : List ℕ)
    → CodeHolds (pool_with (stepping_pool name)) 51 1 (record { max_stack = 1; max_locals = 1; bytes = flat_map (item_bytes 11) constructor_items; catches = [] })
constructor_holds name =
    code_holds (pool_with (stepping_pool name)) 51 1 1 1 11 constructor_items constructor_instructions
    (plain_decoded 0x2a (omega arith) refl, (index_decodes 0xb7 11 (omega arith) refl (omega arith), (plain_decoded 0xb1 (omega arith) refl, tt)))
    (refl, (refl, (refl, tt)))
    (λ code. refl, (λ code. refl, (λ code. refl, tt)))
    (omega arith) (omega arith) (omega arith) (omega arith) (omega arith)

-- the code of its step, of instructions without operands
abbrev StepHolds : (name : List ℕ) → List Item → Type 0
StepHolds name items = CodeHolds (pool_with (stepping_pool name)) 51 3 (record { max_stack = 2; max_locals = 3; bytes = flat_map (item_bytes 11) items; catches = [] })

stepping_holds : (name : String) (items : List Item) → list_all is_plain (stepping_entries (codes name)) ≡ true → AreChecked (stepping_pool (codes name)) (stepping_pool (codes name))
    → is_array (codes name) ≡ false → StepHolds (codes name) items → Holds (work_file (stepping_class name items))
unfolding is_field_name is_method_name is_class_name method_slots method_of types_at type_at element_at result_at
stepping_holds name items spelled checks other code = record {
  minor = omega arith;
  old = omega arith;
  new = omega arith;
  pool = record { entries = stepping_entries (codes name); are = refl; placed = placed (stepping_entries (codes name)) spelled; few = omega arith };
  entries = checks;
  flags = omega arith;
  this_class = (refl, ap not other);
  super_class = (refl, refl);
  few_interfaces = omega arith;
  interfaces = (refl, tt);
  few_fields = omega arith;
  fields = tt;
  few_methods = omega arith;
  methods = (
    record {
      name = codes "<init>";
      descriptor = codes "()V";
      is_name = refl;
      is_descriptor = refl;
      flags = omega arith;
      lawful_name = refl;
      lawful_descriptor = refl;
      new = refl;
      initialiser = refl;
      code = (refl, constructor_holds (codes name));
    },
    (
      record {
        name = codes "f";
        descriptor = codes "(II)I";
        is_name = refl;
        is_descriptor = refl;
        flags = omega arith;
        lawful_name = refl;
        lawful_descriptor = refl;
        new = refl;
        initialiser = refl;
        code = (refl, code);
      },
      tt,
    ),
  );
}

keep_step : StepHolds (codes "Keep") keep_items
keep_step =
    code_holds (pool_with (stepping_pool (codes "Keep"))) 51 3 2 3 11 keep_items (simple 0x1b ∷ simple 0xac ∷ [])
    (plain_decoded 0x1b (omega arith) refl, (plain_decoded 0xac (omega arith) refl, tt))
    (refl, (refl, tt))
    (λ code. refl, (λ code. refl, tt))
    (omega arith) (omega arith) (omega arith) (omega arith) (omega arith)

turn_step : StepHolds (codes "Turn") turn_items
turn_step =
    code_holds (pool_with (stepping_pool (codes "Turn"))) 51 3 2 3 11 turn_items (simple 0x1b ∷ simple 0x1c ∷ simple 0x60 ∷ simple 0x06 ∷ simple 0x7e ∷ simple 0xac ∷ []) (
      plain_decoded 0x1b (omega arith) refl,
      (
        plain_decoded 0x1c (omega arith) refl,
        (
          plain_decoded 0x60 (omega arith) refl,
          (plain_decoded 0x06 (omega arith) refl, (plain_decoded 0x7e (omega arith) refl, (plain_decoded 0xac (omega arith) refl, tt))),
        ),
      ),
    )
    (refl, (refl, (refl, (refl, (refl, (refl, tt))))))
    (λ code. refl, (λ code. refl, (λ code. refl, (λ code. refl, (λ code. refl, (λ code. refl, tt))))))
    (omega arith) (omega arith) (omega arith) (omega arith) (omega arith)

keep_checked : AreChecked (stepping_pool (codes "Keep")) (stepping_pool (codes "Keep"))
unfolding field_of is_field_name is_method_name is_class_name method_slots method_of types_at type_at element_at result_at
keep_checked = (refl, (refl, (refl, (refl, (refl, (refl, (refl, (refl, (refl, (refl, (refl, (refl, (refl, (refl, (refl, (refl, (refl, (refl, tt))))))))))))))))))

turn_checked : AreChecked (stepping_pool (codes "Turn")) (stepping_pool (codes "Turn"))
unfolding field_of is_field_name is_method_name is_class_name method_slots method_of types_at type_at element_at result_at
turn_checked = (refl, (refl, (refl, (refl, (refl, (refl, (refl, (refl, (refl, (refl, (refl, (refl, (refl, (refl, (refl, (refl, (refl, (refl, tt))))))))))))))))))

pub keep_holds : Holds (work_file keep_class)
keep_holds = stepping_holds "Keep" keep_items refl keep_checked refl keep_step

pub turn_holds : Holds (work_file turn_class)
turn_holds = stepping_holds "Turn" turn_items refl turn_checked refl turn_step

-- ---- all of them

pub files_hold : (seed : ℕ) (names : List String) → AreGood names → All Holds (work_files seed names)
files_hold seed names are =
    all_four Holds (work_file (main_class seed names)) (work_file step_class) (work_file keep_class) (work_file turn_class) (main_holds seed names are) step_holds keep_holds turn_holds
