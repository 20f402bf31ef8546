-- Lists over names as bytes are those over names as texts.
use Prim.Native.String.{String}
use Rattle.std.proofs.Common.{List, None, [], ap, append_assoc, arith, codes, length, map, refl, suc, sym, take, zero, ℕ, ◌*◌, ◌++◌, ◌+◌, ◌-◌, ◌/◌, ◌%◌, ◌∙◌, ◌∷◌, ◌≡◌}
use Rattle.std.proofs.lemmas.List.{length-map, take-map}
use Rattle.std.specs.Borrow.{Bor}
use Rattle.std.specs.Cmp.Derive.{both_true}
use Rattle.std.specs.List.{flat_map, list_all}
use Rattle.std.specs.Prelude.{nat_lt, ◌==◌}
use Rattle.vx_class.specs.declared.class_file.ClassFile.{ClassFile}
use Rattle.vx_class.specs.declared.class_file.Field.{Field}
use Rattle.vx_class.specs.declared.class_file.Method.{Method}
use Rattle.vx_pool.specs.Holding.{and_true}
use Rattle.vx_gen.proofs.Loops.{four}
use Rattle.vx_gen.specs.Parts.{AreNames, AreShort, code_part, coded_method, field_list, field_parts, file_of, fixed_parts, head_part, main_entries, option_of, option_parts, reference_part, signature_part, stepping_entries, stepping_methods}
use Rattle.vx_gen.specs.Workload.{all_option_items, first_items, fixed_references, last_items, main_at, main_class, main_items, option_field, option_items, option_reference, step_class, stepping_class, work_file, work_model, work_option}
use Rattle.vx_gen.specs.declared.pool.Kind.TheVariants as kind
use Rattle.vx_link.specs.Written.{Item, Reference, field_entries, field_files, item_bytes, methods_at, reference_entries, references_at, written_pool}
use Rattle.vx_model.specs.declared.model.Model.{Model}
use Rattle.vx_model.specs.declared.model.OptionField.{OptionField}
use Rattle.vx_pool.specs.declared.pool.Entry.{Entry}
use Rattle.vx_pool.specs.declared.pool.Entry.TheVariants as entry
use Rattle.vx_pool.specs.declared.pool.Pool.{Pool}

pub same_length : (names : List (Bor (List ℕ))) (texts : List String) → AreNames names texts → length names ≡ length texts
same_length names texts are =
    sym (length-map names (λ (n : Bor (List ℕ)). n.now)) ∙ ap (length {A = List ℕ}) are ∙ length-map texts codes

same_fields : (names : List (Bor (List ℕ))) (texts : List String) → AreNames names texts → field_parts names ≡ flat_map field_entries (map option_field texts)
same_fields [] [] are = refl
same_fields [] (t ∷ texts) are = cc
same_fields (n ∷ names) [] are = cc
same_fields (n ∷ names) (t ∷ texts) are =
    let first : n.now ≡ codes t = cc in
    let rest : map (λ (n : Bor (List ℕ)). n.now) names ≡ map codes texts = cc in
    λ i. entry.Utf8 (first i) ∷ entry.Utf8 (codes "Z") ∷ same_fields names texts rest i

same_options : (at : ℕ) (names : List (Bor (List ℕ))) (texts : List String) → AreNames names texts → option_parts at names ≡ reference_entries at (map option_reference texts)
same_options at [] [] are = refl
same_options at [] (t ∷ texts) are = cc
same_options at (n ∷ names) [] are = cc
same_options at (n ∷ names) (t ∷ texts) are =
    let first : n.now ≡ codes t = cc in
    let rest : map (λ (n : Bor (List ℕ)). n.now) names ≡ map codes texts = cc in
    λ i.
    entry.Field (at + 1) (at + 3) ∷ entry.Class (at + 2) ∷ entry.Utf8 (codes "Main") ∷ entry.NameAndType (at + 4) (at + 5) ∷ entry.Utf8 (first i) ∷ entry.Utf8 (codes "Z")
    ∷ same_options (at + 6) names texts rest i

same_files : (at : ℕ) (names : List (Bor (List ℕ))) (texts : List String) → AreNames names texts → field_list at names ≡ field_files at (map option_field texts)
same_files at [] [] are = refl
same_files at [] (t ∷ texts) are = cc
same_files at (n ∷ names) [] are = cc
same_files at (n ∷ names) (t ∷ texts) are =
    let rest : map (λ (n : Bor (List ℕ)). n.now) names ≡ map codes texts = cc in
    ap (λ fields. record { flags = 0x0009; name = at; descriptor = at + 1; constant = 0 } ∷ fields) (same_files (at + 2) names texts rest)

same_items : (reference seed : ℕ) (names : List (Bor (List ℕ))) (texts : List String) → length names ≡ length texts → all_option_items reference seed names ≡ all_option_items reference seed texts
same_items reference seed [] [] same = refl
same_items reference seed [] (t ∷ texts) same = cc
same_items reference seed (n ∷ names) [] same = cc
same_items reference seed (n ∷ names) (t ∷ texts) same =
    ap (λ items. option_items reference (seed % 2 == 1) ++ items) (same_items (reference + 1) (seed / 2) names texts (omega (arith, same)))

same_model_options : (names : List (Bor (List ℕ))) (texts : List String) → AreNames names texts → map (λ n. option_of n.now) names ≡ map work_option texts
same_model_options [] [] are = refl
same_model_options [] (t ∷ texts) are = cc
same_model_options (n ∷ names) [] are = cc
same_model_options (n ∷ names) (t ∷ texts) are =
    let first : n.now ≡ codes t = cc in
    let rest : map (λ (n : Bor (List ℕ)). n.now) names ≡ map codes texts = cc in
    λ i. option_of (first i) ∷ same_model_options names texts rest i

pub same_model : (names : List (Bor (List ℕ))) (options : List OptionField) → options ≡ map (λ n. option_of n.now) names
    → (texts : List String) → AreNames names texts → ◌≡◌ {A = Model} (record { options = options; rules = [] }) (work_model texts)
same_model names options is texts are = λ i. record { options = (is ∙ same_model_options names texts are) i; rules = [] }

-- ---- a class that implements the step

pub is_stepping : (name code : List ℕ) (text : String) (items : List Item) → name ≡ codes text → code ≡ flat_map (item_bytes 11) items
    → file_of 0x0021 (record { entries = stepping_entries name }) (5 ∷ []) [] (stepping_methods code) ≡ work_file (stepping_class text items)
is_stepping name code text items first second = λ i. file_of 0x0021 (record { entries = stepping_entries (first i) }) (5 ∷ []) [] (stepping_methods (second i))

-- ---- Main

-- the references before those of the options stand six entries from one another
fixed_same : (at : ℕ) (rest : List Reference) → fixed_parts at ++ reference_entries (at + 30) rest ≡ reference_entries at (fixed_references ++ rest)
fixed_same at rest =
    let third : at + 12 ≡ at + 6 + 6 = omega arith in
    let fourth : at + 18 ≡ at + 6 + 6 + 6 = omega arith in
    let fifth : at + 24 ≡ at + 6 + 6 + 6 + 6 = omega arith in
    let behind : at + 30 ≡ at + 6 + 6 + 6 + 6 + 6 = omega arith in
    λ i.
    reference_part at kind.Method (codes "Keep") (codes "<init>") (codes "()V")
    ++ (reference_part (at + 6) kind.Method (codes "Turn") (codes "<init>") (codes "()V")
    ++ (reference_part (third i) kind.InterfaceMethod (codes "Step") (codes "f") (codes "(II)I")
    ++ (reference_part (fourth i) kind.Field (codes "java/lang/System") (codes "out") (codes "Ljava/io/PrintStream;")
    ++ (reference_part (fifth i) kind.Method (codes "java/io/PrintStream") (codes "println") (codes "(I)V")
    ++ reference_entries (behind i) rest))))

references_same : (at : ℕ) (names : List (Bor (List ℕ))) (texts : List String) → AreNames names texts → at ≡ references_at (main_class 0 texts)
    → fixed_parts at ++ (option_parts (at + 30) names ++ code_part)
    ≡ reference_entries (references_at (main_class 0 texts)) (fixed_references ++ map option_reference texts) ++ code_part
references_same at names texts are begins =
    ap (λ options. fixed_parts at ++ (options ++ code_part)) (same_options (at + 30) names texts are)
    ∙ sym (append_assoc (fixed_parts at) (reference_entries (at + 30) (map option_reference texts)) code_part)
    ∙ ap (λ entries. entries ++ code_part)
    (fixed_same at (map option_reference texts) ∙ ap (λ k. reference_entries k (fixed_references ++ map option_reference texts)) begins)

-- the pool of Main, whose seed shows in its code alone
pool_same : (at seed : ℕ) (names : List (Bor (List ℕ))) (texts : List String) → AreNames names texts → at ≡ references_at (main_class 0 texts)
    → main_entries at names ≡ written_pool (main_class seed texts) ++ code_part
pool_same at seed names texts are begins =
    let fields = flat_map field_entries (map option_field texts) in
    let main = signature_part (codes "main") (codes "([Ljava/lang/String;)V") in
    let references = reference_entries (references_at (main_class 0 texts)) (fixed_references ++ map option_reference texts) in
    let behind = references_same at names texts are begins in
    (λ i. head_part (codes "Main") ++ (same_fields names texts are i ++ (main ++ behind i)))
    ∙ ap (λ entries. head_part (codes "Main") ++ entries) (sym (append_assoc fields (main ++ references) code_part))

pub is_main : (at seed : ℕ) (names : List (Bor (List ℕ))) → at ≡ 7 + 2 * length names → (texts : List String) → AreNames names texts
    → file_of 0x0021 (record { entries = main_entries at names }) [] (field_list 5 names) (coded_method 0x0009 (at - 2) 6 4 (flat_map (item_bytes at) (main_items at seed names)) ∷ [])
    ≡ work_file (main_class seed texts)
is_main at seed names begins texts are =
    let same = same_length names texts are in
    let counted = length-map texts option_field in
    let here : at ≡ references_at (main_class 0 texts) = omega (arith, begins, same, counted) in
    let name : at - 2 ≡ methods_at (main_class 0 texts) = omega (arith, begins, same, counted) in
    let meant : at ≡ main_at (length texts) = omega (arith, begins, same) in
    let pool = pool_same at seed names texts are here in
    let fields = same_files 5 names texts are in
    let items = same_items 5 seed names texts same in
    λ i.
    file_of 0x0021 (record { entries = pool i }) [] (fields i)
    (coded_method 0x0009 (name i) 6 4 (flat_map (item_bytes (here i)) (first_items (meant i) ++ (items i ++ last_items))) ∷ [])

-- the interface
pub is_step :
    file_of 0x0601 (record { entries = (head_part (codes "Step") ++ signature_part (codes "f") (codes "(II)I")) ++ code_part }) [] []
    (record { flags = 0x0401; name = 5; descriptor = 6; code = None } ∷ [])
    ≡ work_file step_class
is_step = refl

-- what stands in the fields of a class file
pub filed : {flags : ℕ} {file whole : ClassFile} {pool meant_pool : Pool} {interfaces meant_interfaces : List ℕ} {fields meant_fields : List Field} {methods meant_methods : List Method}
    → file ≡ file_of flags pool interfaces fields methods
    → pool ≡ meant_pool → interfaces ≡ meant_interfaces → fields ≡ meant_fields → methods ≡ meant_methods
    → file_of flags meant_pool meant_interfaces meant_fields meant_methods ≡ whole → file ≡ whole
filed {flags = flags} is p i f m e = is ∙ (λ k. file_of flags (p k) (i k) (f k) (m k)) ∙ e

pub in_pool : {pool : Pool} {now meant : List Entry} → pool ≡ record { entries = now } → now ≡ meant → pool ≡ record { entries = meant }
in_pool is e = is ∙ (λ i. record { entries = e i })

-- what is put into an empty list
pub alone : {A : Type 0} {all none : List A} {x : A} → all ≡ none ++ x ∷ [] → none ≡ [] → all ≡ x ∷ []
alone {x = x} is e = is ∙ ap (λ old. old ++ x ∷ []) e

-- four class files put behind one another
pub gathered : (none one two three all : List ClassFile) (a b c d p q r s : ClassFile) → none ≡ []
    → one ≡ none ++ a ∷ [] → two ≡ one ++ b ∷ [] → three ≡ two ++ c ∷ [] → all ≡ three ++ d ∷ []
    → a ≡ p → b ≡ q → c ≡ r → d ≡ s → all ≡ p ∷ q ∷ r ∷ s ∷ []
gathered none one two three all a b c d p q r s is first second third fourth e f g h =
    four none one two three all (a ∷ []) (b ∷ []) (c ∷ []) (d ∷ []) (a ∷ b ∷ c ∷ d ∷ []) first second third fourth refl
    ∙ ap (λ x. x ++ (a ∷ b ∷ c ∷ d ∷ [])) is
    ∙ (λ i. e i ∷ f i ∷ g i ∷ h i ∷ [])

-- what equals something that is meant
pub then_same : {A : Type 0} (x y z : A) → y ≡ z → x ≡ y → x ≡ z
then_same x y z e f = f ∙ e

-- the names of the first options
pub front_names : (names front : List (Bor (List ℕ))) (texts : List String) (count : ℕ) → AreNames names texts → front ≡ take count names → AreNames front (take count texts)
front_names names front texts count are is =
    ap (map (λ (n : Bor (List ℕ)). n.now)) is ∙ sym (take-map (λ (n : Bor (List ℕ)). n.now) count names) ∙ ap (take count) are ∙ take-map codes count texts

pub front_short : (names front : List (Bor (List ℕ))) (count : ℕ) → AreShort names → front ≡ take count names → AreShort front
front_short names front count short is = ap (list_all (λ n. nat_lt (length n.now) 65536)) is ∙ short_front names count short
  where
    short_front : (names : List (Bor (List ℕ))) (count : ℕ) → AreShort names → AreShort (take count names)
    short_front [] zero short = refl
    short_front [] (suc n) short = refl
    short_front (n ∷ names) zero short = refl
    short_front (n ∷ names) (suc count) short = both_true (and_true _ _ short).0 (short_front names count (and_true _ _ short).1)
