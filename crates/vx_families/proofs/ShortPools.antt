-- The descriptors of a bounded program are short.
use Rattle.std.proofs.Common.{◌≡◌, ℕ, ◌<◌, ◌^◌, zero, suc, Bool, true, List, [], ◌∷◌, refl, arith, length}
use Rattle.std.proofs.lemmas.Bool.Decides.{nat_tests}
use Rattle.std.specs.Prelude.{Option, Some, None, nat_lt, option_and_then, slice_get, unwrap_or}
use Rattle.std.specs.List.{list_all}
use Rattle.vx_pool.specs.Lookups.{entry_of, member_descriptor, name_and_type, text, utf8}
use Rattle.vx_families.specs.Bounds.{IsBounded, has_short_texts, is_short, is_short_entry}
use Rattle.vx_link.specs.Names.{member, member_named}
use Rattle.vx_link.specs.Parts.{class_at, method_at, no_class, no_method}
use Rattle.vx_link.specs.declared.program.LinkedClass.{LinkedClass}
use Rattle.vx_link.specs.declared.program.LinkedMethod.{LinkedMethod}
use Rattle.vx_link.specs.declared.program.Program.{Program}
use Rattle.vx_list.specs.Places.{item_or}
use Rattle.vx_pool.specs.declared.pool.Entry.{Entry}
use Rattle.vx_pool.specs.declared.pool.Entry.TheVariants as entry
use Rattle.vx_pool.specs.declared.pool.Pool.{Pool}
use Rattle.vx_group_states.proofs.StateLaws.{both_first, both_second}

abbrev IsShort : List ℕ → Type 0
IsShort bytes = length bytes < 65536

abbrev short_if : Option Entry → Bool
short_if None = true
short_if (Some e) = is_short_entry e

passes_if : (xs : List Entry) (i : ℕ) → list_all is_short_entry xs ≡ true → short_if (slice_get xs i) ≡ true
passes_if [] i h = refl
passes_if (x ∷ xs) zero h = both_first (is_short_entry x) (list_all is_short_entry xs) h
passes_if (x ∷ xs) (suc i) h = passes_if xs i (both_second (is_short_entry x) (list_all is_short_entry xs) h)

pub below : (n : ℕ) → nat_lt n 65536 ≡ true → n < 65536
below n h = grind (arith, nat_tests)

utf8_short : (o : Option Entry) → short_if o ≡ true → IsShort (unwrap_or (utf8 o) [])
utf8_short None h = omega arith
utf8_short (Some (entry.Utf8 bytes)) h = below (length bytes) h
utf8_short (Some _) h = omega arith

module _ (pool : Pool) (h : list_all is_short_entry pool.entries ≡ true) where
  text_short : (i : ℕ) → IsShort (unwrap_or (text pool i) [])
  text_short i = utf8_short (entry_of pool i) (passes_if pool.entries i h)

  descriptor_short : (i : ℕ) → IsShort (unwrap_or (member_descriptor pool i) [])
  descriptor_short i = by_type (name_and_type (entry_of pool i))
    where
      by_type : (o : Option (ℕ × ℕ)) → IsShort (unwrap_or (option_and_then (λ (p : ℕ × ℕ). text pool p.1) o) [])
      by_type None = omega arith
      by_type (Some p) = text_short p.1

  named_short : (o : Option Entry) → IsShort (member_named pool o).descriptor
  named_short (Some (entry.Field c t)) = descriptor_short t
  named_short (Some (entry.Method c t)) = descriptor_short t
  named_short (Some (entry.InterfaceMethod c t)) = descriptor_short t
  named_short (Some _) = descriptor_short 0
  named_short None = descriptor_short 0

class_pool : (classes : List LinkedClass) (c : ℕ) → list_all has_short_texts classes ≡ true → has_short_texts (item_or classes c no_class) ≡ true
class_pool [] c h = refl
class_pool (x ∷ xs) zero h = both_first (has_short_texts x) (list_all has_short_texts xs) h
class_pool (x ∷ xs) (suc c) h = class_pool xs c (both_second (has_short_texts x) (list_all has_short_texts xs) h)

pub descriptor_of_member : (p : Program) (c i : ℕ) → IsBounded p → length (member (class_at p c).pool i).descriptor < 2 ^ 32
descriptor_of_member p c i b =
    let pool = (class_at p c).pool in
    let short : length (member pool i).descriptor < 65536 = named_short pool (class_pool p.classes c b.texts) (entry_of pool i) in
    omega (arith, short)

-- ---- methods

-- what all items pass each one does, as does what is read behind the last one if that passes
pub item_passes : {A : Type 0} (test : A → Bool) (xs : List A) (i : ℕ) (d : A) → list_all test xs ≡ true → test d ≡ true → test (item_or xs i d) ≡ true
item_passes test [] i d h e = e
item_passes test (x ∷ xs) zero d h e = both_first (test x) (list_all test xs) h
item_passes test (x ∷ xs) (suc i) d h e = item_passes test xs i d (both_second (test x) (list_all test xs) h) e

pub short_descriptor : (p : Program) (n : ℕ) → IsBounded p → length (method_at p n).descriptor < 2 ^ 32
short_descriptor p n b =
    let short = below (length (method_at p n).descriptor) (item_passes (λ (m : LinkedMethod). is_short (length m.descriptor)) p.methods n no_method b.signatures refl) in
    omega (arith, short)
