-- The pool as it grows: a constant that is there stays at its index, and its entry says it.
use Rattle.std.proofs.Common.{◌≡◌, ℕ, suc, ◌+◌, ◌<◌, ◌≤◌, ◌%◌, List, [], ◌∷◌, ◌++◌, length, Bool, true, false, ◌&&◌, ◌||◌, Option, Some, None, slice_get, if◌then◌else◌, refl, sym, ap, ◌∙◌, append_assoc, append-nil, arith, mod-eq_of_lt}
use Rattle.std.proofs.lemmas.Bool.{and_parts, and_from, or_left, or_right}
use Rattle.std.proofs.lemmas.Bool.Decides.{Decides-int_eq}
use Rattle.std.proofs.lemmas.List.Concat.{flat_map-cons}
use Rattle.std.proofs.lemmas.List.Folds.{list_any-append}
use Rattle.std.proofs.lemmas.List.Sums.{sum_by-cons}
use Rattle.std.proofs.lemmas.Slice.Eq.{bytes_eq-Decides}
use Rattle.std.specs.List.{list_any, flat_map, sum_by, AllByRecursion}
use Rattle.std.specs.Str.{bytes_eq}
use Rattle.vx_pool.specs.declared.pool.Entry.{Entry}
use Rattle.vx_pool.specs.declared.pool.Entry.TheVariants as entry
use Rattle.vx_pool.specs.Lookups as lookups
use Rattle.vx_class_parts.specs.Constants.{is_same_kind, is_same, with, with_text, with_class, with_literal, with_name_and_type, with_member, with_constant, width, index_from, index_of, places, in_file, in_file_or_zero, entry_of, entries_of, pool_of}
use Rattle.vx_class_parts.specs.declared.constants.Constant.{Constant}
use Rattle.vx_class_parts.specs.declared.constants.Constant.TheVariants as constant
use Rattle.vx_class_parts.specs.declared.constants.Kind.{Kind}
use Rattle.vx_class_parts.specs.declared.constants.Kind.TheVariants as kind

-- ---- one constant

bytes_same : (a b : List ℕ) → bytes_eq a b ≡ true → a ≡ b
bytes_same a b e = (bytes_eq-Decides a b).0 e

bytes_own : (a : List ℕ) → bytes_eq a a ≡ true
bytes_own a = (bytes_eq-Decides a a).1 refl

kind_same : (k l : Kind) → is_same_kind k l ≡ true → k ≡ l
kind_same kind.Field kind.Field e = refl
kind_same kind.Method kind.Method e = refl
kind_same kind.InterfaceMethod kind.InterfaceMethod e = refl
kind_same _ _ e = absurd cc

kind_own : (k : Kind) → is_same_kind k k ≡ true
kind_own kind.Field = refl
kind_own kind.Method = refl
kind_own kind.InterfaceMethod = refl

pub same_is : (c d : Constant) → is_same c d ≡ true → c ≡ d
same_is (constant.Text a) (constant.Text b) e = ap constant.Text (bytes_same a b e)
same_is (constant.Integer a) (constant.Integer b) e = ap constant.Integer ((Decides-int_eq a b).0 e)
same_is (constant.Long a) (constant.Long b) e = ap constant.Long ((Decides-int_eq a b).0 e)
same_is (constant.Class a) (constant.Class b) e = ap constant.Class (bytes_same a b e)
same_is (constant.Literal a) (constant.Literal b) e = ap constant.Literal (bytes_same a b e)
same_is (constant.NameAndType a b) (constant.NameAndType c d) e =
    let p = and_parts (bytes_eq a c) (bytes_eq b d) e in
    let first = bytes_same a c p.0 in
    let second = bytes_same b d p.1 in
    λ i. constant.NameAndType (first i) (second i)
same_is (constant.Member k a b c) (constant.Member l d f g) e =
    let p = and_parts (is_same_kind k l && bytes_eq a d && bytes_eq b f) (bytes_eq c g) e in
    let q = and_parts (is_same_kind k l && bytes_eq a d) (bytes_eq b f) p.0 in
    let r = and_parts (is_same_kind k l) (bytes_eq a d) q.0 in
    let kinds = kind_same k l r.0 in
    let first = bytes_same a d r.1 in
    let second = bytes_same b f q.1 in
    let third = bytes_same c g p.1 in
    λ i. constant.Member (kinds i) (first i) (second i) (third i)
same_is _ _ e = absurd cc

pub same_own : (c : Constant) → is_same c c ≡ true
same_own (constant.Text a) = bytes_own a
same_own (constant.Integer n) = (Decides-int_eq n n).1 refl
same_own (constant.Long n) = (Decides-int_eq n n).1 refl
same_own (constant.Class a) = bytes_own a
same_own (constant.Literal a) = bytes_own a
same_own (constant.NameAndType a b) = and_from (bytes_eq a a) (bytes_eq b b) (bytes_own a) (bytes_own b)
same_own (constant.Member k a b c) =
    and_from (is_same_kind k k && bytes_eq a a && bytes_eq b b) (bytes_eq c c)
    (and_from (is_same_kind k k && bytes_eq a a) (bytes_eq b b) (and_from (is_same_kind k k) (bytes_eq a a) (kind_own k) (bytes_own a)) (bytes_own b)) (bytes_own c)

-- ---- a pool that grew

pub record IsGrown (old new : List Constant) : Type 0 where
  pub more : List Constant
  pub is : new ≡ old ++ more

pub grown_same : (pool : List Constant) → IsGrown pool pool
grown_same pool = record { more = []; is = sym (append-nil pool) }

pub grown_then : {a b c : List Constant} → IsGrown a b → IsGrown b c → IsGrown a c
grown_then {a} {b} {c} h k = record { more = h.more ++ k.more; is = k.is ∙ ap (λ (p : List Constant). p ++ k.more) h.is ∙ append_assoc a h.more k.more }

pub Has : List Constant → Constant → Type 0
Has pool c = list_any (is_same c) pool ≡ true

pub has_grown : {old new : List Constant} → IsGrown old new → (c : Constant) → Has old c → Has new c
unfolding Has
has_grown {old} {new} g c h =
    ap (list_any (is_same c)) g.is ∙ list_any-append (is_same c) old g.more ∙ or_left (list_any (is_same c) old) (list_any (is_same c) g.more) h

with_grown : (pool : List Constant) (c : Constant) → IsGrown pool (with pool c)
unfolding with
with_grown pool c = by_test (list_any (is_same c) pool)
  where
    by_test : (b : Bool) → IsGrown pool (if b then pool else pool ++ c ∷ [])
    by_test true = grown_same pool
    by_test false = record { more = c ∷ []; is = refl }

with_has : (pool : List Constant) (c : Constant) → Has (with pool c) c
unfolding with Has
with_has pool c = by_test (list_any (is_same c) pool) refl
  where
    by_test : (b : Bool) → list_any (is_same c) pool ≡ b → list_any (is_same c) (if b then pool else pool ++ c ∷ []) ≡ true
    by_test true e = e
    by_test false e =
        list_any-append (is_same c) pool (c ∷ []) ∙ or_right (list_any (is_same c) pool) (list_any (is_same c) (c ∷ [])) (or_left (is_same c c) false (same_own c))

-- what holds of all constants
pub all_more : (P : Constant → Type 0) (xs ys : List Constant) → AllByRecursion P xs → AllByRecursion P ys → AllByRecursion P (xs ++ ys)
all_more P [] ys h k = k
all_more P (x ∷ xs) ys h k = (h.0, all_more P xs ys h.1 k)

with_all : (P : Constant → Type 0) (pool : List Constant) (c : Constant) → AllByRecursion P pool → P c → AllByRecursion P (with pool c)
unfolding with
with_all P pool c all this = by_test (list_any (is_same c) pool)
  where
    by_test : (b : Bool) → AllByRecursion P (if b then pool else pool ++ c ∷ [])
    by_test true = all
    by_test false = all_more P pool (c ∷ []) all (this, tt)

-- ---- a constant with all that it refers to

abbrev pub IsHeld : List Constant → Constant → Type 0
IsHeld pool (constant.Text text) = Has pool (constant.Text text)
IsHeld pool (constant.Integer n) = Has pool (constant.Integer n)
IsHeld pool (constant.Long n) = Has pool (constant.Long n)
IsHeld pool (constant.Class name) = Has pool (constant.Class name) × Has pool (constant.Text name)
IsHeld pool (constant.Literal text) = Has pool (constant.Literal text) × Has pool (constant.Text text)
IsHeld pool (constant.NameAndType name descriptor) =
    Has pool (constant.NameAndType name descriptor) × Has pool (constant.Text name) × Has pool (constant.Text descriptor)
IsHeld pool (constant.Member k class name descriptor) =
    Has pool (constant.Member k class name descriptor)
    × (Has pool (constant.Class class) × Has pool (constant.Text class))
    × (Has pool (constant.NameAndType name descriptor) × Has pool (constant.Text name) × Has pool (constant.Text descriptor))

pub held_has : (pool : List Constant) (c : Constant) → IsHeld pool c → Has pool c
held_has pool (constant.Text text) h = h
held_has pool (constant.Integer n) h = h
held_has pool (constant.Long n) h = h
held_has pool (constant.Class name) h = h.0
held_has pool (constant.Literal text) h = h.0
held_has pool (constant.NameAndType name descriptor) h = h.0
held_has pool (constant.Member k class name descriptor) h = h.0

pub held_grown : {old new : List Constant} → IsGrown old new → (c : Constant) → IsHeld old c → IsHeld new c
held_grown g (constant.Text text) h = has_grown g (constant.Text text) h
held_grown g (constant.Integer n) h = has_grown g (constant.Integer n) h
held_grown g (constant.Long n) h = has_grown g (constant.Long n) h
held_grown g (constant.Class name) h = (has_grown g (constant.Class name) h.0, has_grown g (constant.Text name) h.1)
held_grown g (constant.Literal text) h = (has_grown g (constant.Literal text) h.0, has_grown g (constant.Text text) h.1)
held_grown g (constant.NameAndType name descriptor) h =
    (has_grown g (constant.NameAndType name descriptor) h.0, has_grown g (constant.Text name) h.1, has_grown g (constant.Text descriptor) h.2)
held_grown g (constant.Member k class name descriptor) h = (
  has_grown g (constant.Member k class name descriptor) h.0,
  (has_grown g (constant.Class class) h.1.0, has_grown g (constant.Text class) h.1.1),
  (has_grown g (constant.NameAndType name descriptor) h.2.0, has_grown g (constant.Text name) h.2.1, has_grown g (constant.Text descriptor) h.2.2),
)

-- the constant that something needs, where it needs one
abbrev pub IsNeeded : List Constant → Option Constant → Type 0
IsNeeded pool None = Unit {0}
IsNeeded pool (Some c) = IsHeld pool c

pub needed_held : {old new : List Constant} → IsGrown old new → (needed : Option Constant) → IsNeeded old needed → IsNeeded new needed
needed_held g None h = tt
needed_held g (Some c) h = held_grown g c h

pub with_text_grown : (pool : List Constant) (text : List ℕ) → IsGrown pool (with_text pool text)
with_text_grown pool text = with_grown pool (constant.Text text)

pub with_text_has : (pool : List Constant) (text : List ℕ) → Has (with_text pool text) (constant.Text text)
with_text_has pool text = with_has pool (constant.Text text)

pub with_class_grown : (pool : List Constant) (name : List ℕ) → IsGrown pool (with_class pool name)
with_class_grown pool name = grown_then (with_grown pool (constant.Class name)) (with_text_grown (with pool (constant.Class name)) name)

pub with_class_held : (pool : List Constant) (name : List ℕ) → IsHeld (with_class pool name) (constant.Class name)
with_class_held pool name =
    let one = with pool (constant.Class name) in
    (has_grown (with_text_grown one name) (constant.Class name) (with_has pool (constant.Class name)), with_text_has one name)

with_literal_grown : (pool : List Constant) (text : List ℕ) → IsGrown pool (with_literal pool text)
with_literal_grown pool text = grown_then (with_grown pool (constant.Literal text)) (with_text_grown (with pool (constant.Literal text)) text)

with_literal_held : (pool : List Constant) (text : List ℕ) → IsHeld (with_literal pool text) (constant.Literal text)
with_literal_held pool text =
    let one = with pool (constant.Literal text) in
    (has_grown (with_text_grown one text) (constant.Literal text) (with_has pool (constant.Literal text)), with_text_has one text)

with_name_and_type_grown : (pool : List Constant) (name descriptor : List ℕ) → IsGrown pool (with_name_and_type pool name descriptor)
with_name_and_type_grown pool name descriptor =
    let one = with pool (constant.NameAndType name descriptor) in
    grown_then (with_grown pool (constant.NameAndType name descriptor)) (grown_then (with_text_grown one name) (with_text_grown (with_text one name) descriptor))

with_name_and_type_held : (pool : List Constant) (name descriptor : List ℕ) → IsHeld (with_name_and_type pool name descriptor) (constant.NameAndType name descriptor)
with_name_and_type_held pool name descriptor =
    let one = with pool (constant.NameAndType name descriptor) in
    let two = with_text one name in (
      has_grown (grown_then (with_text_grown one name) (with_text_grown two descriptor)) (constant.NameAndType name descriptor) (with_has pool (constant.NameAndType name descriptor)),
      has_grown (with_text_grown two descriptor) (constant.Text name) (with_text_has one name),
      with_text_has two descriptor,
    )

with_member_grown : (pool : List Constant) (k : Kind) (class name descriptor : List ℕ) → IsGrown pool (with_member pool k class name descriptor)
with_member_grown pool k class name descriptor =
    let one = with pool (constant.Member k class name descriptor) in
    grown_then (with_grown pool (constant.Member k class name descriptor)) (grown_then (with_class_grown one class) (with_name_and_type_grown (with_class one class) name descriptor))

with_member_held : (pool : List Constant) (k : Kind) (class name descriptor : List ℕ) → IsHeld (with_member pool k class name descriptor) (constant.Member k class name descriptor)
with_member_held pool k class name descriptor =
    let one = with pool (constant.Member k class name descriptor) in
    let two = with_class one class in
    let last = with_name_and_type_grown two name descriptor in (
      has_grown (grown_then (with_class_grown one class) last) (constant.Member k class name descriptor) (with_has pool (constant.Member k class name descriptor)),
      held_grown last (constant.Class class) (with_class_held one class),
      with_name_and_type_held two name descriptor,
    )

pub with_constant_grown : (pool : List Constant) (c : Constant) → IsGrown pool (with_constant pool c)
with_constant_grown pool (constant.Text text) = with_text_grown pool text
with_constant_grown pool (constant.Integer n) = with_grown pool (constant.Integer n)
with_constant_grown pool (constant.Long n) = with_grown pool (constant.Long n)
with_constant_grown pool (constant.Class name) = with_class_grown pool name
with_constant_grown pool (constant.Literal text) = with_literal_grown pool text
with_constant_grown pool (constant.NameAndType name descriptor) = with_name_and_type_grown pool name descriptor
with_constant_grown pool (constant.Member k class name descriptor) = with_member_grown pool k class name descriptor

pub with_constant_held : (pool : List Constant) (c : Constant) → IsHeld (with_constant pool c) c
with_constant_held pool (constant.Text text) = with_text_has pool text
with_constant_held pool (constant.Integer n) = with_has pool (constant.Integer n)
with_constant_held pool (constant.Long n) = with_has pool (constant.Long n)
with_constant_held pool (constant.Class name) = with_class_held pool name
with_constant_held pool (constant.Literal text) = with_literal_held pool text
with_constant_held pool (constant.NameAndType name descriptor) = with_name_and_type_held pool name descriptor
with_constant_held pool (constant.Member k class name descriptor) = with_member_held pool k class name descriptor

-- what holds of a constant and all that it refers to
abbrev pub HoldsOf : (Constant → Type 0) → Constant → Type 0
HoldsOf P (constant.Text text) = P (constant.Text text)
HoldsOf P (constant.Integer n) = P (constant.Integer n)
HoldsOf P (constant.Long n) = P (constant.Long n)
HoldsOf P (constant.Class name) = P (constant.Class name) × P (constant.Text name)
HoldsOf P (constant.Literal text) = P (constant.Literal text) × P (constant.Text text)
HoldsOf P (constant.NameAndType name descriptor) = P (constant.NameAndType name descriptor) × P (constant.Text name) × P (constant.Text descriptor)
HoldsOf P (constant.Member k class name descriptor) =
    P (constant.Member k class name descriptor)
    × (P (constant.Class class) × P (constant.Text class))
    × (P (constant.NameAndType name descriptor) × P (constant.Text name) × P (constant.Text descriptor))

pub with_text_all : (P : Constant → Type 0) (pool : List Constant) (text : List ℕ) → AllByRecursion P pool → P (constant.Text text) → AllByRecursion P (with_text pool text)
with_text_all P pool text all h = with_all P pool (constant.Text text) all h

pub with_class_all : (P : Constant → Type 0) (pool : List Constant) (name : List ℕ) → AllByRecursion P pool → HoldsOf P (constant.Class name) → AllByRecursion P (with_class pool name)
with_class_all P pool name all h = with_text_all P (with pool (constant.Class name)) name (with_all P pool (constant.Class name) all h.0) h.1

with_name_and_type_all : (P : Constant → Type 0) (pool : List Constant) (name descriptor : List ℕ) → AllByRecursion P pool → HoldsOf P (constant.NameAndType name descriptor)
    → AllByRecursion P (with_name_and_type pool name descriptor)
with_name_and_type_all P pool name descriptor all h =
    let one = with pool (constant.NameAndType name descriptor) in
    with_text_all P (with_text one name) descriptor (with_text_all P one name (with_all P pool (constant.NameAndType name descriptor) all h.0) h.1) h.2

pub with_constant_all : (P : Constant → Type 0) (pool : List Constant) (c : Constant) → AllByRecursion P pool → HoldsOf P c → AllByRecursion P (with_constant pool c)
with_constant_all P pool (constant.Text text) all h = with_text_all P pool text all h
with_constant_all P pool (constant.Integer n) all h = with_all P pool (constant.Integer n) all h
with_constant_all P pool (constant.Long n) all h = with_all P pool (constant.Long n) all h
with_constant_all P pool (constant.Class name) all h = with_class_all P pool name all h
with_constant_all P pool (constant.Literal text) all h = with_text_all P (with pool (constant.Literal text)) text (with_all P pool (constant.Literal text) all h.0) h.1
with_constant_all P pool (constant.NameAndType name descriptor) all h = with_name_and_type_all P pool name descriptor all h
with_constant_all P pool (constant.Member k class name descriptor) all h =
    let one = with pool (constant.Member k class name descriptor) in
    with_name_and_type_all P (with_class one class) name descriptor (with_class_all P one class (with_all P pool (constant.Member k class name descriptor) all h.0) h.1) h.2

-- ---- indices

index_same : (c : Constant) (more pool : List Constant) (i : ℕ) → list_any (is_same c) pool ≡ true → index_from i c (pool ++ more) ≡ index_from i c pool
index_same c more [] i h = absurd cc
index_same c more (x ∷ xs) i h = by_test (λ k. index_same c more xs (i + width x) k) (is_same c x) h
  where
    by_test : (list_any (is_same c) xs ≡ true → index_from (i + width x) c (xs ++ more) ≡ index_from (i + width x) c xs) → (b : Bool) → (b || list_any (is_same c) xs) ≡ true
        → (if b then i else index_from (i + width x) c (xs ++ more)) ≡ (if b then i else index_from (i + width x) c xs)
    by_test others true k = refl
    by_test others false k = others k

-- the index of a constant stays
pub index_grown : {old new : List Constant} → IsGrown old new → (c : Constant) → Has old c → in_file old c ≡ in_file new c
unfolding index_of Has
index_grown {old} {new} g c h = sym (ap (λ (p : List Constant). index_from 1 c p % 65536) g.is ∙ ap (λ (i : ℕ). i % 65536) (index_same c g.more old 1 h))

get_behind : {A : Type 0} (xs ys : List A) (k : ℕ) → slice_get (xs ++ ys) (length xs + k) ≡ slice_get ys k
get_behind [] ys k = ap (slice_get ys) (omega arith)
get_behind (x ∷ xs) ys k =
    let e : length (x ∷ xs) + k ≡ suc (length xs + k) = omega arith in
    rw e (get_behind xs ys k)

pub one_length : (all : List Constant) (c : Constant) → length (entries_of all c) ≡ width c
one_length all (constant.Long n) = refl
one_length all (constant.Text text) = refl
one_length all (constant.Integer n) = refl
one_length all (constant.Class name) = refl
one_length all (constant.Literal text) = refl
one_length all (constant.NameAndType name descriptor) = refl
one_length all (constant.Member k class name descriptor) = refl

first_entry : (all : List Constant) (c : Constant) (others : List Entry) → slice_get (entries_of all c ++ others) 0 ≡ Some (entry_of all c)
first_entry all (constant.Long n) others = refl
first_entry all (constant.Text text) others = refl
first_entry all (constant.Integer n) others = refl
first_entry all (constant.Class name) others = refl
first_entry all (constant.Literal text) others = refl
first_entry all (constant.NameAndType name descriptor) others = refl
first_entry all (constant.Member k class name descriptor) others = refl

-- where a constant is found
record IsFound (all pool : List Constant) (c : Constant) (from index : ℕ) : Type 0 where
  place : ℕ
  is : index ≡ from + place
  below : place < sum_by width pool
  there : slice_get (flat_map (entries_of all) pool) place ≡ Some (entry_of all c)

width_some : (c : Constant) → 1 ≤ width c
width_some (constant.Long n) = omega arith
width_some (constant.Text text) = omega arith
width_some (constant.Integer n) = omega arith
width_some (constant.Class name) = omega arith
width_some (constant.Literal text) = omega arith
width_some (constant.NameAndType name descriptor) = omega arith
width_some (constant.Member k class name descriptor) = omega arith

found : (all pool : List Constant) (c : Constant) (from : ℕ) → list_any (is_same c) pool ≡ true → IsFound all pool c from (index_from from c pool)
found all [] c from h = absurd cc
found all (x ∷ xs) c from h = by_test (found all xs c (from + width x)) (is_same c x) refl h
  where
    sum : sum_by width (x ∷ xs) ≡ width x + sum_by width xs
    sum = sum_by-cons width x xs

    by_test : (list_any (is_same c) xs ≡ true → IsFound all xs c (from + width x) (index_from (from + width x) c xs)) → (b : Bool) → is_same c x ≡ b → (b || list_any (is_same c) xs) ≡ true
        → IsFound all (x ∷ xs) c from (if b then from else index_from (from + width x) c xs)
    by_test others true e k = record {
      place = 0;
      is = omega arith;
      below = let w = width_some x in omega (arith, w, sum);
      there = ap (λ (es : List Entry). slice_get es 0) (flat_map-cons (entries_of all) x xs) ∙ first_entry all x (flat_map (entries_of all) xs)
          ∙ ap (λ (y : Constant). Some (entry_of all y)) (sym (same_is c x e));
    }
    by_test others false e k =
        let f = others k in
        record {
          place = width x + f.place;
          is = let i = f.is in omega (arith, i);
          below = let b = f.below in omega (arith, b, sum);
          there = ap (λ (es : List Entry). slice_get es (width x + f.place)) (flat_map-cons (entries_of all) x xs)
              ∙ ap (λ (n : ℕ). slice_get (entries_of all x ++ flat_map (entries_of all) xs) (n + f.place)) (sym (one_length all x))
              ∙ get_behind (entries_of all x) (flat_map (entries_of all) xs) f.place ∙ f.there;
        }

pub needed_grown : {old new : List Constant} → IsGrown old new → (needed : Option Constant) → IsNeeded old needed → in_file_or_zero old needed ≡ in_file_or_zero new needed
needed_grown g None h = refl
needed_grown {old} {new} g (Some c) h = index_grown g c (held_has old c h)

-- the entry at the index of a constant that is there
pub record IsPlaced (pool : List Constant) (c : Constant) : Type 0 where
  pub some : 0 < in_file pool c
  pub few : in_file pool c < 65536
  pub there : lookups.entry_of (pool_of pool) (in_file pool c) ≡ Some (entry_of pool c)

pub placed : (pool : List Constant) (c : Constant) → places pool < 65536 → Has pool c → IsPlaced pool c
unfolding index_of Has
placed pool c few h =
    let f = found pool pool c 1 h in
    let i = f.is in
    let below = f.below in
    let index : index_from 1 c pool ≡ suc f.place = omega (arith, i) in
    let small : index_from 1 c pool < 65536 = omega (arith, i, below, few) in
    let whole : index_from 1 c pool % 65536 ≡ index_from 1 c pool = mod-eq_of_lt small in
    record {
      some = omega (arith, whole, index);
      few = omega (arith, whole, small);
      there = ap (slice_get (entry.Unusable ∷ flat_map (entries_of pool) pool)) (whole ∙ index) ∙ f.there;
    }
