-- References to members in a pool: their entries meet their checks, and can be spelled.
use Rattle.std.proofs.Math.Bool.{or-true}
use Rattle.std.proofs.Common.{Bool, List, Some, [], ap, arith, codes, false, length, refl, subst, suc, true, zero, ℕ, ◌&&◌, ◌*◌, ◌+◌, ◌<◌, ◌∙◌, ◌∷◌, ◌≡◌, ◌≤◌}
use Rattle.std.proofs.lemmas.Bool.{lt-ltb, ltb-true, or_left}
use Rattle.std.proofs.lemmas.List.Folds.{list_all-append}
use Rattle.std.proofs.lemmas.Option.{same_Some}
use Rattle.std.specs.Cmp.Derive.{both_true}
use Rattle.std.specs.List.{AllByRecursion, list_all, slice_get}
use Rattle.std.specs.Prelude.{IsTrue, nat_lt, ◌||◌}
use Rattle.vx_pool.specs.Checks.{all_hold}
use Rattle.vx_pool.specs.Entries.{checks_of, member_checks}
use Rattle.vx_pool.specs.Holding.{and_true}
use Rattle.vx_pool.specs.Lookups.{is_class_text}
use Rattle.vx_desc.specs.Descriptors.{is_field_descriptor, is_method_descriptor}
use Rattle.vx_desc.specs.Names.{is_field_name, is_method_name}
use Rattle.vx_work_laws.proofs.Stands.{Stands, all_append, first_stands, item_there, rest_stands}
use Rattle.vx_link.specs.Written.{Reference, a_class, a_field, a_method, a_text, an_interface_method, entries_of_reference, reference_entries}
use Rattle.vx_pool.specs.Spelling.{ArePlaced}
use Rattle.vx_pool.specs.Text.{is_text}
use Rattle.vx_pool.specs.declared.pool.Entry.{Entry}
use Rattle.vx_pool.specs.declared.pool.Entry.TheVariants as entry
use Rattle.vx_pool.specs.declared.pool.Pool.{Pool}

-- ---- what is good

-- a text that a pool can hold
abbrev pub is_held : List ℕ → Bool
is_held text = is_text text && nat_lt (length text) 65536

abbrev pub are_held : (class name descriptor : List ℕ) → Bool
are_held class name descriptor = is_held class && (is_held name && is_held descriptor)

abbrev pub is_good_field : (class name descriptor : List ℕ) → Bool
is_good_field class name descriptor = are_held class name descriptor && (is_class_text class && (is_field_name name && is_field_descriptor descriptor))

abbrev pub is_good_method : (class name descriptor : List ℕ) → Bool
is_good_method class name descriptor =
    are_held class name descriptor && (is_class_text class && (is_field_name name && (is_method_name name && is_method_descriptor descriptor)))

-- a reference to a member that meets the checks
abbrev pub is_good : Reference → Bool
is_good (a_field class name descriptor) = is_good_field (codes class) (codes name) (codes descriptor)
is_good (a_method class name descriptor) = is_good_method (codes class) (codes name) (codes descriptor)
is_good (an_interface_method class name descriptor) = is_good_method (codes class) (codes name) (codes descriptor)
is_good _ = false

or_right : (a b : Bool) → b ≡ true → (a || b) ≡ true
or_right a b e = ap (λ t. a || t) e ∙ or-true a

-- ---- the checks of its entries

abbrev pub pool_with : List Entry → Pool
pool_with entries = record { entries = entries }

abbrev pub AreChecked : (pool entries : List Entry) → Type 0
AreChecked pool entries = AllByRecursion (λ e. IsTrue (all_hold (checks_of (pool_with pool) e))) entries

-- the five entries behind the first one of a reference
pub record IsMember (pool : List Entry) (at : ℕ) (class name descriptor : List ℕ) : Type 0 where
  pub class_is : slice_get pool (at + 1) ≡ Some (entry.Class (at + 2))
  pub named : slice_get pool (at + 2) ≡ Some (entry.Utf8 class)
  pub typed : slice_get pool (at + 3) ≡ Some (entry.NameAndType (at + 4) (at + 5))
  pub name_is : slice_get pool (at + 4) ≡ Some (entry.Utf8 name)
  pub descriptor_is : slice_get pool (at + 5) ≡ Some (entry.Utf8 descriptor)

pub is_member : (pool : List Entry) (at : ℕ) (first : Entry) (class name descriptor : List ℕ)
    → Stands pool at (first ∷ entry.Class (at + 2) ∷ entry.Utf8 class ∷ entry.NameAndType (at + 4) (at + 5) ∷ entry.Utf8 name ∷ entry.Utf8 descriptor ∷ []) → IsMember pool at class name descriptor
is_member pool at first class name descriptor s =
    let part : List Entry = first ∷ entry.Class (at + 2) ∷ entry.Utf8 class ∷ entry.NameAndType (at + 4) (at + 5) ∷ entry.Utf8 name ∷ entry.Utf8 descriptor ∷ [] in
    record {
      class_is = item_there pool at part s 1 (at + 1) refl;
      named = item_there pool at part s 2 (at + 2) refl;
      typed = item_there pool at part s 3 (at + 3) refl;
      name_is = item_there pool at part s 4 (at + 4) refl;
      descriptor_is = item_there pool at part s 5 (at + 5) refl;
    }

member_checked : (pool : List Entry) (at : ℕ) (class name descriptor : List ℕ) (is_name is_descriptor : List ℕ → Bool) → IsMember pool at class name descriptor
    → is_name name ≡ true → is_descriptor descriptor ≡ true → all_hold (member_checks is_name is_descriptor (pool_with pool) (at + 1) (at + 3)) ≡ true
member_checked pool at class name descriptor is_name is_descriptor m good_name good_descriptor =
    rw (m.class_is, m.typed, m.name_is, m.descriptor_is, good_name, good_descriptor) refl

class_checked : (pool : List Entry) (at : ℕ) (class name descriptor : List ℕ) → IsMember pool at class name descriptor → is_class_text class ≡ true
    → all_hold (checks_of (pool_with pool) (entry.Class (at + 2))) ≡ true
class_checked pool at class name descriptor m good = rw (m.named, good) refl

typed_checked : (pool : List Entry) (at : ℕ) (class name descriptor : List ℕ) → IsMember pool at class name descriptor → is_field_name name ≡ true
    → (is_field_descriptor descriptor || is_method_descriptor descriptor) ≡ true → all_hold (checks_of (pool_with pool) (entry.NameAndType (at + 4) (at + 5))) ≡ true
typed_checked pool at class name descriptor m good_name good_descriptor = rw (m.name_is, m.descriptor_is, good_name, good_descriptor) refl

-- that of a field, and that of a method
field_checked : (pool : List Entry) (at : ℕ) (class name descriptor : List ℕ)
    → Stands pool at (entry.Field (at + 1) (at + 3) ∷ entry.Class (at + 2) ∷ entry.Utf8 class ∷ entry.NameAndType (at + 4) (at + 5) ∷ entry.Utf8 name ∷ entry.Utf8 descriptor ∷ [])
    → is_good_field class name descriptor ≡ true
    → AreChecked pool (entry.Field (at + 1) (at + 3) ∷ entry.Class (at + 2) ∷ entry.Utf8 class ∷ entry.NameAndType (at + 4) (at + 5) ∷ entry.Utf8 name ∷ entry.Utf8 descriptor ∷ [])
field_checked pool at class name descriptor s good =
    let m = is_member pool at (entry.Field (at + 1) (at + 3)) class name descriptor s in
    let rules = (and_true (are_held class name descriptor) _ good).1 in
    let class_good = and_true (is_class_text class) _ rules in
    let both = and_true (is_field_name name) (is_field_descriptor descriptor) class_good.1 in (
      member_checked pool at class name descriptor is_field_name is_field_descriptor m both.0 both.1,
      (
        class_checked pool at class name descriptor m class_good.0,
        (refl, (typed_checked pool at class name descriptor m both.0 (or_left (is_field_descriptor descriptor) (is_method_descriptor descriptor) both.1), (refl, (refl, tt)))),
      ),
    )

-- what a method's entry and an interface method's ask is the same
method_rules : (pool : List Entry) (at : ℕ) (class name descriptor : List ℕ) → IsMember pool at class name descriptor → is_good_method class name descriptor ≡ true
    → (all_hold (member_checks is_method_name is_method_descriptor (pool_with pool) (at + 1) (at + 3)) ≡ true)
    × AreChecked pool (entry.Class (at + 2) ∷ entry.Utf8 class ∷ entry.NameAndType (at + 4) (at + 5) ∷ entry.Utf8 name ∷ entry.Utf8 descriptor ∷ [])
method_rules pool at class name descriptor m good =
    let rules = (and_true (are_held class name descriptor) _ good).1 in
    let class_good = and_true (is_class_text class) _ rules in
    let name_good = and_true (is_field_name name) _ class_good.1 in
    let both = and_true (is_method_name name) (is_method_descriptor descriptor) name_good.1 in (
      member_checked pool at class name descriptor is_method_name is_method_descriptor m both.0 both.1,
      (
        class_checked pool at class name descriptor m class_good.0,
        (refl, (typed_checked pool at class name descriptor m name_good.0 (or_right (is_field_descriptor descriptor) (is_method_descriptor descriptor) both.1), (refl, (refl, tt)))),
      ),
    )

checked : (pool : List Entry) (at : ℕ) (r : Reference) → Stands pool at (entries_of_reference at r) → is_good r ≡ true → AreChecked pool (entries_of_reference at r)
checked pool at (a_field class name descriptor) s good = field_checked pool at (codes class) (codes name) (codes descriptor) s good
checked pool at (a_method class name descriptor) s good =
    let m = is_member pool at (entry.Method (at + 1) (at + 3)) (codes class) (codes name) (codes descriptor) s in
    let rules = method_rules pool at (codes class) (codes name) (codes descriptor) m good in
    (rules.0, rules.1)
checked pool at (an_interface_method class name descriptor) s good =
    let m = is_member pool at (entry.InterfaceMethod (at + 1) (at + 3)) (codes class) (codes name) (codes descriptor) s in
    let rules = method_rules pool at (codes class) (codes name) (codes descriptor) m good in
    (rules.0, rules.1)
checked pool at (a_class name) s good = cc
checked pool at (a_text text) s good = cc

pub six : (at : ℕ) (r : Reference) → length (entries_of_reference at r) ≡ 6
six at (a_field class name descriptor) = refl
six at (a_method class name descriptor) = refl
six at (an_interface_method class name descriptor) = refl
six at (a_class name) = refl
six at (a_text text) = refl

next_stands : (pool : List Entry) (at : ℕ) (r : Reference) (rest : List Reference) → Stands pool at (reference_entries at (r ∷ rest)) → Stands pool (at + 6) (reference_entries (at + 6) rest)
next_stands pool at r rest s =
    let count = six at r in
    rest_stands pool at (at + 6) (entries_of_reference at r) (reference_entries (at + 6) rest) s (omega (arith, count))

pub all_checked : (pool : List Entry) (at : ℕ) (references : List Reference) → Stands pool at (reference_entries at references) → list_all is_good references ≡ true
    → AreChecked pool (reference_entries at references)
all_checked pool at [] s good = tt
all_checked pool at (r ∷ rest) s good =
    all_append _ (entries_of_reference at r) (reference_entries (at + 6) rest)
    (checked pool at r (first_stands pool at (entries_of_reference at r) (reference_entries (at + 6) rest) s) (and_true _ _ good).0)
    (all_checked pool (at + 6) rest (next_stands pool at r rest s) (and_true _ _ good).1)

-- ---- a reference by its number

pub reference_stands : (pool : List Entry) (at : ℕ) (references : List Reference) (number index : ℕ) (r : Reference) → Stands pool at (reference_entries at references)
    → slice_get references number ≡ Some r → index ≡ at + 6 * number → Stands pool index (entries_of_reference index r)
reference_stands pool at [] number index r s there is = cc
reference_stands pool at (first ∷ rest) zero index r s there is =
    let same : at ≡ index = omega (arith, is) in
    let one : first ≡ r = same_Some first r there in
    subst (λ k. Stands pool k (entries_of_reference k r)) same
    (subst (λ q. Stands pool at (entries_of_reference at q)) one (first_stands pool at (entries_of_reference at first) (reference_entries (at + 6) rest) s))
reference_stands pool at (first ∷ rest) (suc number) index r s there is =
    reference_stands pool (at + 6) rest number index r (next_stands pool at first rest s) there (omega (arith, is))

-- ---- entries that can be spelled, and take one index each

abbrev pub is_index : ℕ → Bool
is_index n = nat_lt n 65536

abbrev pub is_plain : Entry → Bool
is_plain (entry.Utf8 text) = is_held text
is_plain (entry.Class i) = is_index i
is_plain (entry.Field i j) = is_index i && is_index j
is_plain (entry.Method i j) = is_index i && is_index j
is_plain (entry.InterfaceMethod i j) = is_index i && is_index j
is_plain (entry.NameAndType i j) = is_index i && is_index j
is_plain _ = false

two_placed : (i j : ℕ) {rest : Type 0} → (is_index i && is_index j) ≡ true → rest → ((i < 65536) × (j < 65536)) × rest
two_placed i j plain rest = let both = and_true (is_index i) (is_index j) plain in ((ltb-true i 65536 both.0, ltb-true j 65536 both.1), rest)

pub placed : (entries : List Entry) → list_all is_plain entries ≡ true → ArePlaced entries false
placed [] plain = refl
placed (entry.Utf8 text ∷ rest) plain =
    let first = and_true (is_held text) _ plain in
    let both = and_true (is_text text) _ first.0 in
    ((both.0, ltb-true (length text) 65536 both.1), placed rest first.1)
placed (entry.Class i ∷ rest) plain = let first = and_true (is_index i) _ plain in (ltb-true i 65536 first.0, placed rest first.1)
placed (entry.Field i j ∷ rest) plain = two_placed i j (and_true (is_index i && is_index j) _ plain).0 (placed rest (and_true (is_index i && is_index j) _ plain).1)
placed (entry.Method i j ∷ rest) plain = two_placed i j (and_true (is_index i && is_index j) _ plain).0 (placed rest (and_true (is_index i && is_index j) _ plain).1)
placed (entry.InterfaceMethod i j ∷ rest) plain = two_placed i j (and_true (is_index i && is_index j) _ plain).0 (placed rest (and_true (is_index i && is_index j) _ plain).1)
placed (entry.NameAndType i j ∷ rest) plain = two_placed i j (and_true (is_index i && is_index j) _ plain).0 (placed rest (and_true (is_index i && is_index j) _ plain).1)
placed (_ ∷ rest) plain = cc

index_plain : (n : ℕ) → n < 65536 → is_index n ≡ true
index_plain n few = lt-ltb n 65536 few

-- the five entries behind the first one
member_plain : (at : ℕ) (class name descriptor : List ℕ) → at + 6 ≤ 65536 → are_held class name descriptor ≡ true
    → list_all is_plain (entry.Class (at + 2) ∷ entry.Utf8 class ∷ entry.NameAndType (at + 4) (at + 5) ∷ entry.Utf8 name ∷ entry.Utf8 descriptor ∷ []) ≡ true
member_plain at class name descriptor few held =
    let first = and_true (is_held class) _ held in
    let others = and_true (is_held name) (is_held descriptor) first.1 in
    let two = index_plain (at + 2) (omega (arith, few)) in
    let four = index_plain (at + 4) (omega (arith, few)) in
    let five = index_plain (at + 5) (omega (arith, few)) in
    both_true two (both_true first.0 (both_true (both_true four five) (both_true others.0 (both_true others.1 refl))))

first_plain : (at : ℕ) → at + 6 ≤ 65536 → (is_index (at + 1) && is_index (at + 3)) ≡ true
first_plain at few = both_true (index_plain (at + 1) (omega (arith, few))) (index_plain (at + 3) (omega (arith, few)))

plain : (at : ℕ) (r : Reference) → at + 6 ≤ 65536 → is_good r ≡ true → list_all is_plain (entries_of_reference at r) ≡ true
plain at (a_field class name descriptor) few good =
    both_true (first_plain at few) (member_plain at (codes class) (codes name) (codes descriptor) few (and_true (are_held (codes class) (codes name) (codes descriptor)) _ good).0)
plain at (a_method class name descriptor) few good =
    both_true (first_plain at few) (member_plain at (codes class) (codes name) (codes descriptor) few (and_true (are_held (codes class) (codes name) (codes descriptor)) _ good).0)
plain at (an_interface_method class name descriptor) few good =
    both_true (first_plain at few) (member_plain at (codes class) (codes name) (codes descriptor) few (and_true (are_held (codes class) (codes name) (codes descriptor)) _ good).0)
plain at (a_class name) few good = cc
plain at (a_text text) few good = cc

pub all_plain : (at : ℕ) (references : List Reference) → at + 6 * length references ≤ 65536 → list_all is_good references ≡ true → list_all is_plain (reference_entries at references) ≡ true
all_plain at [] few good = refl
all_plain at (r ∷ rest) few good =
    list_all-append is_plain (entries_of_reference at r) (reference_entries (at + 6) rest)
    ∙ both_true (plain at r (omega (arith, few)) (and_true _ _ good).0) (all_plain (at + 6) rest (omega (arith, few)) (and_true _ _ good).1)
