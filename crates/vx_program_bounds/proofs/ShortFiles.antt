-- A class file that a reading can give is short: its texts and its codes are below 65,536 bytes, and its codes have local variables for the arguments.
use Rattle.std.proofs.Common.{Bool, List, None, Option, Some, [], arith, ap, false, if◌then◌else◌, is_some, length, option_map, refl, slice_get, slice_index, sum_by, suc, sym, true, unwrap_or, zero, ℕ, ◌&&◌, ◌++◌, ◌+◌, ◌-◌, ◌<◌, ◌==◌, ◌∙◌, ◌∷◌, ◌≡◌, ◌||◌}
use Rattle.std.proofs.lemmas.Bool.{le-leb}
use Rattle.std.proofs.lemmas.Nat.{and_or_self}
use Rattle.std.specs.Prelude.{bit_and, bit_or, is_none, nat_le}
use Rattle.std.specs.List.{list_all}
use Rattle.vx_class.specs.File.{CodeIs, EachBehind, Holds, MethodHolds}
use Rattle.vx_class.specs.Members.{ABSTRACT, NATIVE, STATIC, has as has_flag, is_static, slots_of}
use Rattle.vx_class.specs.declared.class_file.ClassFile.{ClassFile}
use Rattle.vx_class.specs.declared.class_file.Code.{Code}
use Rattle.vx_class.specs.declared.class_file.Method.{Method}
use Rattle.vx_pool.specs.Lookups.{utf8 as utf8_of}
use Rattle.vx_desc.specs.Descriptors.{method_of, method_slots, slots_of as type_slots}
use Rattle.vx_desc.specs.Names.{is_clinit}
use Rattle.vx_desc.specs.declared.java_type.Descriptor.{Descriptor}
use Rattle.vx_families.specs.Bounds.{argument_words, has_argument_room, has_short_code, is_short, is_short_entry}
use Rattle.vx_java.specs.Initialisation.{max_locals}
use Rattle.vx_link.specs.Linked.{linked_method, method_flags}
use Rattle.vx_link.specs.Names.{utf8}
use Rattle.vx_link.specs.Signature.{signature}
use Rattle.vx_program_bounds.proofs.ListLaws.{both, first_holds, second_holds}
use Rattle.vx_pool.specs.Pool.{is_wide}
use Rattle.vx_pool.specs.Spelling.{ArePlaced, Fits, IsPool}
use Rattle.vx_pool.specs.declared.pool.Entry.{Entry}
use Rattle.vx_pool.specs.declared.pool.Entry.TheVariants as entry
use Rattle.vx_pool.specs.declared.pool.Pool.{Pool}

-- the code of a method, and the local variables that it has for the arguments: of the number of the class nothing depends
abbrev pub is_short_in : Pool → Method → Bool
is_short_in pool m = has_short_code m.code && has_argument_room (linked_method 0 pool m 0)

-- the texts of its pool and the codes of its methods
abbrev pub is_short_file : ClassFile → Bool
is_short_file c = list_all is_short_entry c.pool.entries && list_all (is_short_in c.pool) c.methods

short : (n : ℕ) → n < 65536 → is_short n ≡ true
short n few = grind (arith, few)

-- ---- texts

short_entry : (e : Entry) → Fits e → is_short_entry e ≡ true
short_entry (entry.Utf8 text) fits = short (length text) fits.1
short_entry _ fits = refl

short_entries : (es : List Entry) (second : Bool) → ArePlaced es second → list_all is_short_entry es ≡ true
short_entries [] second placed = refl
short_entries (e ∷ es) true placed = both (ap is_short_entry placed.0) (short_entries es false placed.1)
short_entries (e ∷ es) false placed = both (short_entry e placed.0) (short_entries es (is_wide e) placed.1)

short_pool : (pool : Pool) → IsPool pool → list_all is_short_entry pool.entries ≡ true
short_pool pool is = ap (list_all is_short_entry) is.are ∙ short_entries is.entries false is.placed

short_text_of : (e : Entry) → is_short_entry e ≡ true → is_short (length (unwrap_or (utf8_of (Some e)) [])) ≡ true
short_text_of (entry.Utf8 text) h = h
short_text_of _ h = refl

short_text_at : (es : List Entry) (i : ℕ) → list_all is_short_entry es ≡ true → is_short (length (unwrap_or (utf8_of (slice_get es i)) [])) ≡ true
short_text_at [] i h = refl
short_text_at (e ∷ es) zero h = short_text_of e (first_holds _ _ h)
short_text_at (e ∷ es) (suc i) h = short_text_at es i (second_holds _ _ h)

-- a text by its index
pub short_text : (pool : Pool) (i : ℕ) → list_all is_short_entry pool.entries ≡ true → is_short (length (utf8 pool i)) ≡ true
short_text pool i h = short_text_at pool.entries i h

-- ---- codes

short_code : (pool : Pool) (major slots : ℕ) (takes : Bool) (code : Option Code) → CodeIs pool major slots takes code → has_short_code code ≡ true
short_code pool major slots takes None is = refl
short_code pool major slots takes (Some code) is = short (length code.bytes) is.1.few

-- ---- local variables for the arguments

-- a lawful descriptor of a method takes as many as its types say
types_say : (descriptor : List ℕ) → is_some (method_slots descriptor) ≡ true → unwrap_or (method_slots descriptor) 0 ≡ sum_by type_slots (signature descriptor).arguments
unfolding method_slots
types_say descriptor h = by (slice_index descriptor 0 == 40) (method_of descriptor) h
  where
    by : (b : Bool) (o : Option Descriptor) → is_some (if b then option_map (λ d. sum_by type_slots d.arguments) o else None) ≡ true
        → unwrap_or (if b then option_map (λ d. sum_by type_slots d.arguments) o else None) 0 ≡ sum_by type_slots (unwrap_or o (record { arguments = []; result = None })).arguments
    by true (Some d) h = refl
    by true None h = cc
    by false o h = cc

-- the receiver takes one where the method isn't static, and <clinit> is
abbrev receiver : Bool → ℕ
receiver static = if static then 0 else 1

receiver_same : (clinit : Bool) (flags : ℕ) → receiver (has_flag (if clinit then bit_or (bit_and flags (0xffff - (ABSTRACT + NATIVE))) STATIC else flags) STATIC) ≡ receiver (clinit || has_flag flags STATIC)
receiver_same true flags = ap (λ n. receiver (n == STATIC)) (and_or_self STATIC (bit_and flags (0xffff - (ABSTRACT + NATIVE))))
receiver_same false flags = refl

code_room : (pool : Pool) (major slots words : ℕ) (takes : Bool) (code : Option Code) → CodeIs pool major slots takes code → words ≡ slots → (is_none code || nat_le words (max_locals code)) ≡ true
code_room pool major slots words takes None is same = refl
code_room pool major slots words takes (Some code) is same = le-leb words code.max_locals (omega (arith, is.1.arguments, same))

short_method : (pool : Pool) (major : ℕ) (front : List Method) (m : Method) → MethodHolds pool major front m → is_short_in pool m ≡ true
short_method pool major front m holds =
    let name : utf8 pool m.name ≡ holds.name = ap (λ o. unwrap_or o []) holds.is_name in
    let descriptor : utf8 pool m.descriptor ≡ holds.descriptor = ap (λ o. unwrap_or o []) holds.is_descriptor in
    let types : sum_by type_slots (signature (utf8 pool m.descriptor)).arguments ≡ unwrap_or (method_slots holds.descriptor) 0 =
    ap (λ d. sum_by type_slots (signature d).arguments) descriptor ∙ sym (types_say holds.descriptor holds.lawful_descriptor) in
    let own : receiver (has_flag (method_flags (utf8 pool m.name) m.flags) STATIC) ≡ receiver (is_static m.flags holds.name) =
    receiver_same (is_clinit (utf8 pool m.name)) m.flags ∙ ap (λ n. receiver (is_clinit n || has_flag m.flags STATIC)) name in
    both
    (short_code pool major _ _ m.code holds.code)
    (code_room pool major (slots_of m.flags holds.name holds.descriptor) (argument_words (linked_method 0 pool m 0)) _ m.code holds.code (λ i. types i + own i))

short_codes : (pool : Pool) (major : ℕ) (front methods : List Method) → EachBehind (MethodHolds pool major) front methods → list_all (is_short_in pool) methods ≡ true
short_codes pool major front [] holds = refl
short_codes pool major front (m ∷ methods) holds = both (short_method pool major front m holds.0) (short_codes pool major (front ++ m ∷ []) methods holds.1)

-- ---- the file

pub short_file : (c : ClassFile) → Holds c → is_short_file c ≡ true
short_file c holds = both (short_pool c.pool holds.pool) (short_codes c.pool c.major [] c.methods holds.methods)
