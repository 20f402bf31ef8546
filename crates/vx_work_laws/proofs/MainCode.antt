-- The code of main: its instructions, and that they meet their checks.
use Prim.Native.String.{String}
use Rattle.std.proofs.Common.{Bool, List, Some, [], ap, append_assoc, arith, codes, eq-eqb, false, if◌then◌else◌, length, length-append, option_map, pos, refl, subst, suc, sym, true, ℕ, ◌%◌, ◌*◌, ◌++◌, ◌+◌, ◌/◌, ◌<◌, ◌≤◌, ◌∙◌, ◌∷◌, ◌≡◌, ◌||◌}
use Rattle.std.proofs.Math.Bool.{or-true}
use Rattle.std.proofs.lemmas.Bool.{or_left}
use Rattle.std.proofs.lemmas.Grind.{flat_map-append}
use Rattle.std.proofs.lemmas.Option.{slice_get-map}
use Rattle.std.specs.List.{flat_map, slice_get}
use Rattle.std.specs.Prelude.{◌==◌}
use Rattle.vx_assembled.proofs.Decoded.{Decodes, made}
use Rattle.vx_class.specs.File.{CodeHolds}
use Rattle.vx_pool.specs.Checks.{all_hold}
use Rattle.vx_pool.specs.Instructions.{is_start, jump_checks, operand_checks}
use Rattle.vx_pool.specs.Lookups.{is_array}
use Rattle.vx_desc.specs.Descriptors.{element_at, method_of, method_slots, result_at, type_at, types_at}
use Rattle.vx_work_laws.proofs.MainPool.{main_pool, main_reference, main_references, main_references_at}
use Rattle.vx_work_laws.proofs.References.{IsMember, is_member, pool_with}
use Rattle.vx_work_laws.proofs.Stands.{Stands, item_there}
use Rattle.vx_work_laws.proofs.Walks.{AllAt, AreDecoded, Leads, Meets, Walks, all_at_append, any_left, any_right, code_holds, decoded_append, end_of, index_decodes, interface_item_decodes, jump_decodes, places, places_append, plain_decoded, simple, walk}
use Rattle.vx_gen.specs.Workload.{all_option_items, first_items, last_items, main_items, object_items, option_items, option_reference}
use Rattle.vx_link.specs.Written.{a_field, a_method, an_interface_method, item_bytes}
use Rattle.vx_opcode.specs.Table.{shape_of}
use Rattle.vx_opcode.specs.declared.instruction.Instruction.{Instruction}
use Rattle.vx_opcode.specs.declared.instruction.Operand.TheVariants as operand
use Rattle.vx_opcode.specs.declared.shape.Shape.TheVariants as shape
use Rattle.vx_pool.specs.declared.pool.Entry.{Entry}
use Rattle.vx_pool.specs.declared.pool.Entry.TheVariants as entry

-- ---- instructions

abbrev pub naming_at : (op index : ℕ) → Instruction
naming_at op index = made op 3 (operand.Pool index)

abbrev pub object_instructions : (index store : ℕ) → List Instruction
object_instructions index store = naming_at 0xbb (index + 1) ∷ simple 0x59 ∷ naming_at 0xb7 index ∷ simple store ∷ []

abbrev pub first_instructions : (at : ℕ) → List Instruction
first_instructions at = simple 0x03 ∷ simple 0x3c ∷ object_instructions (at + 6 * 0) 0x4d ++ object_instructions (at + 6 * 1) 0x4e

abbrev pub option_instructions : (at index : ℕ) → (odd : Bool) → List Instruction
option_instructions at index odd =
    naming_at 0xb2 index ∷ made 0x99 3 (operand.Jump (pos 7)) ∷ simple 0x2d ∷ made 0xa7 3 (operand.Jump (pos 4)) ∷ simple 0x2c
    ∷ simple 0x1b ∷ simple (if odd then 0x06 else 0x04) ∷ made 0xb9 5 (operand.Interface (at + 6 * 2) 3) ∷ simple 0x3c
    ∷ []

abbrev pub all_option_instructions : (at reference seed : ℕ) → List String → List Instruction
all_option_instructions at reference seed [] = []
all_option_instructions at reference seed (n ∷ names) =
    option_instructions at (at + 6 * reference) (seed % 2 == 1) ++ all_option_instructions at (reference + 1) (seed / 2) names

abbrev pub last_instructions : (at : ℕ) → List Instruction
last_instructions at = naming_at 0xb2 (at + 6 * 3) ∷ simple 0x1b ∷ naming_at 0xb6 (at + 6 * 4) ∷ simple 0xb1 ∷ []

abbrev pub main_instructions : (at seed : ℕ) → List String → List Instruction
main_instructions at seed names = first_instructions at ++ (all_option_instructions at 5 seed names ++ last_instructions at)

-- ---- they are what the items spell

constant_decoded : (odd : Bool) → Decodes ((if odd then 0x06 else 0x04) ∷ []) (simple (if odd then 0x06 else 0x04))
constant_decoded true = plain_decoded 0x06 (omega arith) refl
constant_decoded false = plain_decoded 0x04 (omega arith) refl

object_decoded : (at reference store : ℕ) → at + 6 * reference < 65535 → store < 256 → shape_of store ≡ Some shape.Plain → AreDecoded at (object_items at reference store) (object_instructions (at + 6 * reference) store)
object_decoded at reference store few lt is = (
  index_decodes 0xbb (at + 6 * reference + 1) (omega arith) refl (omega (arith, few)),
  (plain_decoded 0x59 (omega arith) refl, (index_decodes 0xb7 (at + 6 * reference) (omega arith) refl (omega (arith, few)), (plain_decoded store lt is, tt))),
)

first_decoded : (at : ℕ) → at < 60000 → AreDecoded at (first_items at) (first_instructions at)
first_decoded at few = (
  plain_decoded 0x03 (omega arith) refl,
  (
    plain_decoded 0x3c (omega arith) refl,
    decoded_append at (object_items at 0 0x4d) (object_instructions (at + 6 * 0) 0x4d) (object_items at 1 0x4e) (object_instructions (at + 6 * 1) 0x4e)
        (object_decoded at 0 0x4d (omega (arith, few)) (omega arith) refl) (object_decoded at 1 0x4e (omega (arith, few)) (omega arith) refl),
  ),
)

option_decoded : (at reference : ℕ) (odd : Bool) → at + 6 * reference + 12 < 65536 → AreDecoded at (option_items reference odd) (option_instructions at (at + 6 * reference) odd)
option_decoded at reference odd few = (
  index_decodes 0xb2 (at + 6 * reference) (omega arith) refl (omega (arith, few)),
  (
    jump_decodes 0x99 7 (omega arith) refl (omega arith) refl,
    (
      plain_decoded 0x2d (omega arith) refl,
      (
        jump_decodes 0xa7 4 (omega arith) refl (omega arith) refl,
        (
          plain_decoded 0x2c (omega arith) refl,
          (
            plain_decoded 0x1b (omega arith) refl,
            (
              constant_decoded odd,
              (
                interface_item_decodes (at + 6 * 2) 3 (omega (arith, few)) (omega arith),
                (plain_decoded 0x3c (omega arith) refl, tt),
              ),
            ),
          ),
        ),
      ),
    ),
  ),
)

options_decoded : (at reference seed : ℕ) (names : List String) → at + 6 * (reference + length names) + 12 < 65536 → AreDecoded at (all_option_items reference seed names) (all_option_instructions at reference seed names)
options_decoded at reference seed [] few = tt
options_decoded at reference seed (n ∷ names) few =
    decoded_append at (option_items reference (seed % 2 == 1)) (option_instructions at (at + 6 * reference) (seed % 2 == 1)) (all_option_items (reference + 1) (seed / 2) names) (all_option_instructions at (reference + 1) (seed / 2) names)
    (option_decoded at reference (seed % 2 == 1) (omega (arith, few))) (options_decoded at (reference + 1) (seed / 2) names (omega (arith, few)))

last_decoded : (at : ℕ) → at < 60000 → AreDecoded at last_items (last_instructions at)
last_decoded at few = (
  index_decodes 0xb2 (at + 6 * 3) (omega arith) refl (omega (arith, few)),
  (plain_decoded 0x1b (omega arith) refl, (index_decodes 0xb6 (at + 6 * 4) (omega arith) refl (omega (arith, few)), (plain_decoded 0xb1 (omega arith) refl, tt))),
)

pub main_decoded : (at seed : ℕ) (names : List String) → at + 6 * (5 + length names) + 12 < 60000 → AreDecoded at (main_items at seed names) (main_instructions at seed names)
main_decoded at seed names few =
    decoded_append at (first_items at) (first_instructions at) (all_option_items 5 seed names ++ last_items) (all_option_instructions at 5 seed names ++ last_instructions at)
    (first_decoded at (omega (arith, few)))
    (decoded_append at (all_option_items 5 seed names) (all_option_instructions at 5 seed names) last_items (last_instructions at)
    (options_decoded at 5 seed names (omega (arith, few))) (last_decoded at (omega (arith, few))))

-- ---- what they name

-- what a method's reference says
pub record IsCallee (pool : List Entry) (first : Entry) (at : ℕ) (class name descriptor : List ℕ) : Type 0 where
  pub is : slice_get pool at ≡ Some first
  pub member : IsMember pool at class name descriptor

callee : (pool : List Entry) (at : ℕ) (first : Entry) (class name descriptor : List ℕ)
    → Stands pool at (first ∷ entry.Class (at + 2) ∷ entry.Utf8 class ∷ entry.NameAndType (at + 4) (at + 5) ∷ entry.Utf8 name ∷ entry.Utf8 descriptor ∷ []) → IsCallee pool first at class name descriptor
callee pool at first class name descriptor s = record {
  is = item_there pool at (first ∷ entry.Class (at + 2) ∷ entry.Utf8 class ∷ entry.NameAndType (at + 4) (at + 5) ∷ entry.Utf8 name ∷ entry.Utf8 descriptor ∷ []) s 0 at (omega arith);
  member = is_member pool at first class name descriptor s;
}

pub record Names (names : List String) (pool : List Entry) (at : ℕ) : Type 0 where
  pub keep : IsCallee pool (entry.Method (at + 6 * 0 + 1) (at + 6 * 0 + 3)) (at + 6 * 0) (codes "Keep") (codes "<init>") (codes "()V")
  pub turn : IsCallee pool (entry.Method (at + 6 * 1 + 1) (at + 6 * 1 + 3)) (at + 6 * 1) (codes "Turn") (codes "<init>") (codes "()V")
  pub step : IsCallee pool (entry.InterfaceMethod (at + 6 * 2 + 1) (at + 6 * 2 + 3)) (at + 6 * 2) (codes "Step") (codes "f") (codes "(II)I")
  pub out : IsCallee pool (entry.Field (at + 6 * 3 + 1) (at + 6 * 3 + 3)) (at + 6 * 3) (codes "java/lang/System") (codes "out") (codes "Ljava/io/PrintStream;")
  pub println : IsCallee pool (entry.Method (at + 6 * 4 + 1) (at + 6 * 4 + 3)) (at + 6 * 4) (codes "java/io/PrintStream") (codes "println") (codes "(I)V")
  pub options : (number : ℕ) (name : String) → slice_get names number ≡ Some name
      → IsCallee pool (entry.Field (at + 6 * (5 + number) + 1) (at + 6 * (5 + number) + 3)) (at + 6 * (5 + number)) (codes "Main") (codes name) (codes "Z")

option_there : (names : List String) (number : ℕ) (name : String) → slice_get names number ≡ Some name → slice_get (main_references names) (5 + number) ≡ Some (option_reference name)
option_there names number name there = ap (slice_get (main_references names)) (five number) ∙ slice_get-map option_reference names number ∙ ap (option_map option_reference) there
  where
    five : (n : ℕ) → 5 + n ≡ suc (suc (suc (suc (suc n))))
    five n = omega arith

pub main_names : (names : List String) → Names names (main_pool names) (main_references_at names)
main_names names =
    let at = main_references_at names in
    let pool = main_pool names in
    record {
      keep = callee pool (at + 6 * 0) _ (codes "Keep") (codes "<init>") (codes "()V") (main_reference names 0 (at + 6 * 0) (a_method "Keep" "<init>" "()V") refl refl);
      turn = callee pool (at + 6 * 1) _ (codes "Turn") (codes "<init>") (codes "()V") (main_reference names 1 (at + 6 * 1) (a_method "Turn" "<init>" "()V") refl refl);
      step = callee pool (at + 6 * 2) _ (codes "Step") (codes "f") (codes "(II)I") (main_reference names 2 (at + 6 * 2) (an_interface_method "Step" "f" "(II)I") refl refl);
      out = callee pool (at + 6 * 3) _ (codes "java/lang/System") (codes "out") (codes "Ljava/io/PrintStream;") (main_reference names 3 (at + 6 * 3) (a_field "java/lang/System" "out" "Ljava/io/PrintStream;") refl refl);
      println = callee pool (at + 6 * 4) _ (codes "java/io/PrintStream") (codes "println") (codes "(I)V") (main_reference names 4 (at + 6 * 4) (a_method "java/io/PrintStream" "println" "(I)V") refl refl);
      options = λ number name there.
          callee pool (at + 6 * (5 + number)) _ (codes "Main") (codes name) (codes "Z") (main_reference names (5 + number) (at + 6 * (5 + number)) (option_reference name) (option_there names number name there) refl);
    }

-- ---- their checks

new_meets : (pool : List Entry) (first : Entry) (at : ℕ) (class name descriptor : List ℕ) → IsCallee pool first at class name descriptor → is_array class ≡ false
    → all_hold (operand_checks (pool_with pool) 51 4 0xbb (operand.Pool (at + 1))) ≡ true
new_meets pool first at class name descriptor c plain = rw (c.member.class_is, c.member.named, plain) refl

special_meets : (pool : List Entry) (at : ℕ) (class descriptor : List ℕ) → IsCallee pool (entry.Method (at + 1) (at + 3)) at class (codes "<init>") descriptor
    → all_hold (operand_checks (pool_with pool) 51 4 0xb7 (operand.Pool at)) ≡ true
special_meets pool at class descriptor c = rw (c.is, c.member.typed, c.member.name_is) refl

virtual_meets : (pool : List Entry) (at : ℕ) (class descriptor : List ℕ) → IsCallee pool (entry.Method (at + 1) (at + 3)) at class (codes "println") descriptor
    → all_hold (operand_checks (pool_with pool) 51 4 0xb6 (operand.Pool at)) ≡ true
virtual_meets pool at class descriptor c = rw (c.is, c.member.typed, c.member.name_is) refl

interface_meets : (pool : List Entry) (at : ℕ) (class : List ℕ) → IsCallee pool (entry.InterfaceMethod (at + 1) (at + 3)) at class (codes "f") (codes "(II)I")
    → all_hold (operand_checks (pool_with pool) 51 4 0xb9 (operand.Interface at 3)) ≡ true
unfolding method_slots method_of types_at type_at element_at result_at
interface_meets pool at class c = rw (c.is, c.member.typed, c.member.name_is, c.member.descriptor_is) refl

static_meets : (pool : List Entry) (at : ℕ) (class name descriptor : List ℕ) → IsCallee pool (entry.Field (at + 1) (at + 3)) at class name descriptor
    → all_hold (operand_checks (pool_with pool) 51 4 0xb2 (operand.Pool at)) ≡ true
static_meets pool at class name descriptor c = rw c.is refl

constant_meets : (pool : List Entry) (odd : Bool) → all_hold (operand_checks (pool_with pool) 51 4 (if odd then 0x06 else 0x04) operand.Nothing) ≡ true
constant_meets pool true = refl
constant_meets pool false = refl

first_meet : (names : List String) (pool : List Entry) (at p : ℕ) → Names names pool at → AllAt (Meets (pool_with pool) 51 4) p (first_instructions at)
first_meet names pool at p n = (
  refl,
  (
    refl,
    (
      new_meets pool _ (at + 6 * 0) _ _ _ n.keep refl,
      (
        refl,
        (
          special_meets pool (at + 6 * 0) _ _ n.keep,
          (
            refl,
            (
              new_meets pool _ (at + 6 * 1) _ _ _ n.turn refl,
              (
                refl,
                (
                  special_meets pool (at + 6 * 1) _ _ n.turn,
                  (refl, tt),
                ),
              ),
            ),
          ),
        ),
      ),
    ),
  ),
)

option_meets : (names : List String) (pool : List Entry) (at p number : ℕ) (name : String) (odd : Bool) → Names names pool at → slice_get names number ≡ Some name
    → AllAt (Meets (pool_with pool) 51 4) p (option_instructions at (at + 6 * (5 + number)) odd)
option_meets names pool at p number name odd n there = (
  static_meets pool (at + 6 * (5 + number)) _ _ _ (n.options number name there),
  (refl, (refl, (refl, (refl, (refl, (constant_meets pool odd, (interface_meets pool (at + 6 * 2) _ n.step, (refl, tt)))))))),
)

-- those of the names that are left, behind so many others
options_meet : (names : List String) (pool : List Entry) (at : ℕ) → Names names pool at → (left : List String) (number reference seed p : ℕ) → reference ≡ 5 + number
    → ((k : ℕ) (name : String) → slice_get left k ≡ Some name → slice_get names (number + k) ≡ Some name) → AllAt (Meets (pool_with pool) 51 4) p (all_option_instructions at reference seed left)
options_meet names pool at n [] number reference seed p is there = tt
options_meet names pool at n (name ∷ left) number reference seed p is there =
    let here : slice_get names number ≡ Some name = let same : number ≡ number + 0 = omega arith in ap (slice_get names) same ∙ there 0 name refl in
    all_at_append (Meets (pool_with pool) 51 4) p (option_instructions at (at + 6 * reference) (seed % 2 == 1)) (all_option_instructions at (reference + 1) (seed / 2) left)
    (subst (λ r. AllAt (Meets (pool_with pool) 51 4) p (option_instructions at (at + 6 * r) (seed % 2 == 1))) (sym is) (option_meets names pool at p number name (seed % 2 == 1) n here))
    (options_meet names pool at n left (number + 1) (reference + 1) (seed / 2) _ (omega (arith, is))
    (λ k other found. let next : number + 1 + k ≡ number + suc k = omega arith in ap (slice_get names) next ∙ there (suc k) other found))

last_meet : (names : List String) (pool : List Entry) (at p : ℕ) → Names names pool at → AllAt (Meets (pool_with pool) 51 4) p (last_instructions at)
last_meet names pool at p n = (
  static_meets pool (at + 6 * 3) _ _ _ n.out,
  (refl, (virtual_meets pool (at + 6 * 4) _ _ n.println, (refl, tt))),
)

pub main_meets : (names : List String) (pool : List Entry) (at seed : ℕ) → Names names pool at → AllAt (Meets (pool_with pool) 51 4) 0 (main_instructions at seed names)
main_meets names pool at seed n =
    all_at_append (Meets (pool_with pool) 51 4) 0 (first_instructions at) (options ++ last_instructions at) (first_meet names pool at 0 n)
    (all_at_append (Meets (pool_with pool) 51 4) behind options (last_instructions at)
    (options_meet names pool at n names 0 5 seed behind (omega arith) (λ k name found. let same : 0 + k ≡ k = omega arith in ap (slice_get names) same ∙ found))
    (last_meet names pool at (end_of behind options) n))
  where
    options : List Instruction
    options = all_option_instructions at 5 seed names

    behind : ℕ
    behind = end_of 0 (first_instructions at)

-- ---- jumps

lead_there : (starts : List ℕ) (p d : ℕ) → is_start starts (p + d) ≡ true → (code : List ℕ) → all_hold (jump_checks starts code p (operand.Jump (pos d))) ≡ true
lead_there starts p d is code = rw is refl

first_lead : (starts : List ℕ) (at p : ℕ) → AllAt (Leads starts) p (first_instructions at)
first_lead starts at p =
    (λ code. refl, (λ code. refl, (λ code. refl, (λ code. refl, (λ code. refl, (λ code. refl, (λ code. refl, (λ code. refl, (λ code. refl, (λ code. refl, tt))))))))))

-- a place among others
start_here : (x k : ℕ) (xs : List ℕ) → x ≡ k → is_start (x ∷ xs) k ≡ true
start_here x k xs same = or_left (x == k) (is_start xs k) (eq-eqb x k same)

start_behind : (x k : ℕ) (xs : List ℕ) → is_start xs k ≡ true → is_start (x ∷ xs) k ≡ true
start_behind x k xs among = ap (λ t. (x == k) || t) among ∙ or-true (x == k)

fifth_start : (a b c d e k : ℕ) (xs : List ℕ) → e ≡ k → is_start (a ∷ b ∷ c ∷ d ∷ e ∷ xs) k ≡ true
fifth_start a b c d e k xs same =
    start_behind a k (b ∷ c ∷ d ∷ e ∷ xs) (start_behind b k (c ∷ d ∷ e ∷ xs) (start_behind c k (d ∷ e ∷ xs) (start_behind d k (e ∷ xs) (start_here e k xs same))))

-- the jumps of an option lead to the fifth and the sixth of its places
option_leads : (starts front rest : List ℕ) (at index p : ℕ) (odd : Bool) → starts ≡ front ++ (places p (option_instructions at index odd) ++ rest) → AllAt (Leads starts) p (option_instructions at index odd)
option_leads starts front rest at index p odd is = (
  λ code. refl,
  (
    lead_there starts (p + 3) 7 (there (p + 3 + 7) (fifth_start p (p + 3) (p + 3 + 3) (p + 3 + 3 + 1) (p + 3 + 3 + 1 + 3) (p + 3 + 7) ((p + 3 + 3 + 1 + 3 + 1) ∷ last) (omega arith))),
    (
      λ code. refl,
      (
        lead_there starts (p + 3 + 3 + 1) 4 (there (p + 3 + 3 + 1 + 4) sixth),
        (λ code. refl, (λ code. refl, (λ code. refl, (λ code. refl, (λ code. refl, tt))))),
      ),
    ),
  ),
)
  where
    own : List ℕ
    own = places p (option_instructions at index odd)

    -- where its last three instructions stand
    last : List ℕ
    last = places (p + 3 + 3 + 1 + 3 + 1 + 1) (simple (if odd then 0x06 else 0x04) ∷ made 0xb9 5 (operand.Interface (at + 6 * 2) 3) ∷ simple 0x3c ∷ [])

    there : (k : ℕ) → is_start own k ≡ true → is_start starts k ≡ true
    there k among = ap (λ s. is_start s k) is ∙ any_right (λ s. s == k) front (own ++ rest) (any_left (λ s. s == k) own rest among)

    sixth : is_start own (p + 3 + 3 + 1 + 4) ≡ true
    sixth =
        start_behind p (p + 3 + 3 + 1 + 4) ((p + 3) ∷ (p + 3 + 3) ∷ (p + 3 + 3 + 1) ∷ (p + 3 + 3 + 1 + 3) ∷ (p + 3 + 3 + 1 + 3 + 1) ∷ last)
        (fifth_start (p + 3) (p + 3 + 3) (p + 3 + 3 + 1) (p + 3 + 3 + 1 + 3) (p + 3 + 3 + 1 + 3 + 1) (p + 3 + 3 + 1 + 4) last (omega arith))

options_lead : (starts front rest : List ℕ) (at reference seed p : ℕ) (names : List String) → starts ≡ front ++ (places p (all_option_instructions at reference seed names) ++ rest)
    → AllAt (Leads starts) p (all_option_instructions at reference seed names)
options_lead starts front rest at reference seed p [] is = tt
options_lead starts front rest at reference seed p (n ∷ names) is =
    all_at_append (Leads starts) p here others
    (option_leads starts front (places next others ++ rest) at (at + 6 * reference) p (seed % 2 == 1) (split ∙ ap (λ x. front ++ x) (append_assoc (places p here) (places next others) rest)))
    (options_lead starts (front ++ places p here) rest at (reference + 1) (seed / 2) next names
    (split ∙ ap (λ x. front ++ x) (append_assoc (places p here) (places next others) rest) ∙ sym (append_assoc front (places p here) (places next others ++ rest))))
  where
    here : List Instruction
    here = option_instructions at (at + 6 * reference) (seed % 2 == 1)

    others : List Instruction
    others = all_option_instructions at (reference + 1) (seed / 2) names

    next : ℕ
    next = end_of p here

    split : starts ≡ front ++ ((places p here ++ places next others) ++ rest)
    split = is ∙ ap (λ x. front ++ (x ++ rest)) (places_append p here others)

last_lead : (starts : List ℕ) (at p : ℕ) → AllAt (Leads starts) p (last_instructions at)
last_lead starts at p = (λ code. refl, (λ code. refl, (λ code. refl, (λ code. refl, tt))))

pub main_leads : (at seed : ℕ) (names : List String) → AllAt (Leads (places 0 (main_instructions at seed names))) 0 (main_instructions at seed names)
main_leads at seed names =
    all_at_append (Leads starts) 0 (first_instructions at) (options ++ last_instructions at) (first_lead starts at 0)
    (all_at_append (Leads starts) behind options (last_instructions at)
    (options_lead starts (places 0 (first_instructions at)) (places (end_of behind options) (last_instructions at)) at 5 seed behind names split)
    (last_lead starts at (end_of behind options)))
  where
    options : List Instruction
    options = all_option_instructions at 5 seed names

    starts : List ℕ
    starts = places 0 (main_instructions at seed names)

    behind : ℕ
    behind = end_of 0 (first_instructions at)

    split : starts ≡ places 0 (first_instructions at) ++ (places behind options ++ places (end_of behind options) (last_instructions at))
    split = places_append 0 (first_instructions at) (options ++ last_instructions at) ∙ ap (λ x. places 0 (first_instructions at) ++ x) (places_append behind options (last_instructions at))

-- ---- the code

abbrev pub main_bytes : (at seed : ℕ) → List String → List ℕ
main_bytes at seed names = flat_map (item_bytes at) (main_items at seed names)

-- what holds of each instruction holds at each place where one stands
pub main_walks : (P : ℕ → Instruction → Type 0) (at seed : ℕ) (names : List String) → at + 6 * (5 + length names) + 12 < 60000 → AllAt P 0 (main_instructions at seed names)
    → Walks P (main_bytes at seed names) 0 (places 0 (main_instructions at seed names))
main_walks P at seed names few holds = walk P at (main_items at seed names) (main_instructions at seed names) (main_bytes at seed names) [] 0 (main_decoded at seed names few) holds refl refl

option_size : (at reference : ℕ) (odd : Bool) → length (flat_map (item_bytes at) (option_items reference odd)) ≡ 19
option_size at reference odd = refl

options_size : (at reference seed : ℕ) (names : List String) → length (flat_map (item_bytes at) (all_option_items reference seed names)) ≡ 19 * length names
options_size at reference seed [] = refl
options_size at reference seed (n ∷ names) =
    let split = ap (length {A = ℕ}) (flat_map-append (item_bytes at) (option_items reference (seed % 2 == 1)) (all_option_items (reference + 1) (seed / 2) names)) in
    let both = length-append (flat_map (item_bytes at) (option_items reference (seed % 2 == 1))) (flat_map (item_bytes at) (all_option_items (reference + 1) (seed / 2) names)) in
    let rest = options_size at (reference + 1) (seed / 2) names in
    omega (arith, split, both, rest)

main_size : (at seed : ℕ) (names : List String) → length (main_bytes at seed names) ≡ 26 + 19 * length names
main_size at seed names =
    let split = ap (length {A = ℕ}) (flat_map-append (item_bytes at) (first_items at) (all_option_items 5 seed names ++ last_items)) in
    let first = length-append (flat_map (item_bytes at) (first_items at)) (flat_map (item_bytes at) (all_option_items 5 seed names ++ last_items)) in
    let behind = ap (length {A = ℕ}) (flat_map-append (item_bytes at) (all_option_items 5 seed names) last_items) in
    let second = length-append (flat_map (item_bytes at) (all_option_items 5 seed names)) (flat_map (item_bytes at) last_items) in
    let options = options_size at 5 seed names in
    omega (arith, split, first, behind, second, options)

pub main_code_holds : (names : List String) (pool : List Entry) (at seed : ℕ) → length names ≤ 64 → at ≤ 135 → Names names pool at
    → CodeHolds (pool_with pool) 51 1 (record { max_stack = 6; max_locals = 4; bytes = main_bytes at seed names; catches = [] })
main_code_holds names pool at seed few low n =
    let size = main_size at seed names in
    code_holds (pool_with pool) 51 1 6 4 at (main_items at seed names) (main_instructions at seed names) (main_decoded at seed names (omega (arith, few, low)))
    (main_meets names pool at seed n) (main_leads at seed names) (omega arith) (omega arith) (omega arith) (omega (arith, size)) (omega (arith, size, few))
