-- Bytes that hold a class tell the lines of each of its methods.
use Rattle.std.proofs.Common.{◌≡◌, ℕ, ◌+◌, ◌*◌, ◌<◌, ◌^◌, List, [], ◌∷◌, ◌++◌, length, filter, Bool, true, false, cond, Option, Some, None, Result, Ok, Err, refl, sym, ap, subst, ◌∙◌, append_assoc, length-append, arith}
use Rattle.std.proofs.lemmas.List.{append-nil}
use Rattle.std.proofs.lemmas.List.Concat.{flat_map-cons}
use Rattle.std.specs.List.{flat_map, AllByRecursion}
use Rattle.vx_pool.specs.Place.{Place, place}
use Rattle.vx_pool.specs.Reading.{Fault, Read, ◌>>=◌, number, bytes, steps, item_step}
use Rattle.vx_pool.specs.ReadingAgain.{Reads, number_reads, bytes_reads, reads_then, reads_last}
use Rattle.vx_pool.specs.declared.pool.Pool.{Pool}
use Rattle.vx_pool.specs.Pool.{pool_at}
use Rattle.vx_pool.specs.Spelling.{pool_bytes, IsPool}
use Rattle.vx_pool.specs.Again.{pool_reads}
use Rattle.vx_pool.specs.Lookups.{text}
use Rattle.vx_class.specs.declared.class_file.Catch.{Catch}
use Rattle.vx_class.specs.declared.class_file.ClassFile.{ClassFile}
use Rattle.vx_class.specs.declared.class_file.Code.{Code}
use Rattle.vx_class.specs.declared.class_file.Field.{Field}
use Rattle.vx_class.specs.declared.class_file.Method.{Method}
use Rattle.vx_class.specs.Code.{content_at}
use Rattle.vx_class.specs.Members.{has, INTERFACE, slots_of, takes_code}
use Rattle.vx_class.specs.Spelling.{u2, u4, MAGIC, Attribute, attribute_bytes, attributes_bytes, catch_bytes, code_bytes, IsAttribute, AreAttributes, One, is_code, IsCode, FieldSpells, MethodSpells, AllSpell}
use Rattle.vx_class.specs.File.{CodeHolds, CodeIs, EachBehind, MethodHolds, File}
use Rattle.vx_class.proofs.CodeReads.{index_fits, text_usable, some_there, content_reads, at_cons, at_nil}
use Rattle.vx_lines.specs.declared.table.LineRow.{LineRow}
use Rattle.vx_lines.specs.declared.table.MethodLines.{MethodLines}
use Rattle.vx_lines.specs.Sources.{file_step, source_of, sources_at, with_index}
use Rattle.vx_lines.specs.Tables.{with_rows, attribute_at, pass_step, table_step, code_at, content_rows_at, method_step, method_at, field_at, field_step, head_at, methods_at, lines_of}

-- some value is read off a text, wherever it stands
abbrev ReadsSome : {A : Type 0} → (Place → Read A) → List ℕ → Type 0
ReadsSome {A} read text = (x : A) × Reads read text x

-- so many bytes
taken : (n : ℕ) (text : List ℕ) → length text ≡ n → Reads (bytes n) text text
taken n text is = subst (λ (k : ℕ). Reads (bytes k) text text) is (bytes_reads text)

if_true : {A : Type 0} (b : Bool) (x y z : A) → b ≡ true → x ≡ z → cond b x y ≡ z
if_true true x y z e h = h
if_true false x y z e h = absurd cc

if_false : {A : Type 0} (b : Bool) (x y z : A) → b ≡ false → y ≡ z → cond b x y ≡ z
if_false true x y z e h = absurd cc
if_false false x y z e h = h

-- ---- attributes

name_fits : (pool : Pool) (a : Attribute) → length pool.entries < 256 ^ 2 → IsAttribute pool a → a.name < 256 ^ 2
name_fits pool a few is = let t = some_there (text pool a.name) is.0 in index_fits pool a.name few (text_usable pool a.name t.0 t.1)

attribute_reads : (pool : Pool) (a : Attribute) → length pool.entries < 256 ^ 2 → IsAttribute pool a → Reads attribute_at (attribute_bytes a) (a.name, a.content)
unfolding attribute_at
attribute_reads pool a few is at rest =
    reads_then (number 2) _ (u2 a.name) (u4 (length a.content) ++ a.content) a.name (a.name, a.content) at rest (number_reads 2 a.name (name_fits pool a few is))
    (reads_last content_at _ (u4 (length a.content) ++ a.content) a.content (a.name, a.content) (at + length (u2 a.name)) rest (content_reads a.content is.1) refl)

-- steps over attributes, one after the other
steps_read : {A : Type 0} (P : Attribute → Type 0) (step : A → Place → Read A) → ((x : A) (a : Attribute) → P a → ReadsSome (step x) (attribute_bytes a))
    → (attributes : List Attribute) (x : A) → AllByRecursion P attributes → ReadsSome (λ s. steps step x (length attributes) s) (flat_map attribute_bytes attributes)
unfolding steps
steps_read P step each [] x all = (x, λ at rest. at_nil x at rest)
steps_read P step each (a ∷ others) x all =
    let first = each x a all.0 in
    let behind = steps_read P step each others first.0 all.1 in (
      behind.0,
      λ at rest. at_cons (λ s. steps step x (length (a ∷ others)) s) behind.0 attribute_bytes a others at rest
          (reads_then (step x) (λ y. steps step y.0 (length others) y.1) (attribute_bytes a) (flat_map attribute_bytes others) first.0 behind.0 at rest first.1 (behind.1 (at + length (attribute_bytes a)) rest)),
    )

-- behind their number
attributes_read : {A : Type 0} (P : Attribute → Type 0) (step : A → Place → Read A) → ((x : A) (a : Attribute) → P a → ReadsSome (step x) (attribute_bytes a))
    → (attributes : List Attribute) (x : A) → length attributes < 256 ^ 2 → AllByRecursion P attributes → ReadsSome (λ s. number 2 s >>= λ count. steps step x count.0 count.1) (attributes_bytes attributes)
attributes_read P step each attributes x few all =
    let made = steps_read P step each attributes x all in (
      made.0,
      λ at rest. reads_then (number 2) (λ count. steps step x count.0 count.1) (u2 (length attributes)) (flat_map attribute_bytes attributes) (length attributes) made.0 at rest
          (number_reads 2 (length attributes) few) (made.1 (at + length (u2 (length attributes))) rest),
    )

passes : (pool : Pool) → length pool.entries < 256 ^ 2 → (x : Unit {0}) (a : Attribute) → IsAttribute pool a → ReadsSome (pass_step x) (attribute_bytes a)
passes pool few x a is = (tt, λ at rest. reads_last attribute_at _ (attribute_bytes a) (a.name, a.content) tt at rest (attribute_reads pool a few is) refl)

gives_rows : (pool : Pool) → length pool.entries < 256 ^ 2 → (x : List LineRow) (a : Attribute) → IsAttribute pool a → ReadsSome (table_step pool x) (attribute_bytes a)
gives_rows pool few x a is =
    let rows = with_rows pool x (a.name, a.content) in
    (rows, λ at rest. reads_last attribute_at _ (attribute_bytes a) (a.name, a.content) rows at rest (attribute_reads pool a few is) refl)

-- ---- code

catches_length : (rows : List Catch) → length (flat_map catch_bytes rows) ≡ 8 * length rows
catches_length [] = refl
catches_length (row ∷ rows) =
    let eight : length (catch_bytes row) ≡ 8 = refl in
    omega (arith, ap length (flat_map-cons catch_bytes row rows), length-append (catch_bytes row) (flat_map catch_bytes rows), eight, catches_length rows)

in_parts : (a b c d e f g : List ℕ) → a ++ (b ++ (c ++ (d ++ ((e ++ f) ++ g)))) ≡ (a ++ b) ++ ((c ++ d) ++ (e ++ (f ++ g)))
in_parts a b c d e f g = simp append_assoc

code_reads : (pool : Pool) (front : List LineRow) (code : Code) (skipped : List Attribute) → length pool.entries < 256 ^ 2 → AreAttributes pool skipped → length code.bytes < 256 ^ 4 → length code.catches < 256 ^ 2
    → ReadsSome (code_at pool front) (code_bytes code skipped)
unfolding code_at
code_reads pool front code skipped few are short few_rows =
    let made = attributes_read (IsAttribute pool) (table_step pool) (gives_rows pool few) skipped front are.few are.each in
    let sizes = u2 code.max_stack ++ u2 code.max_locals in
    let content = u4 (length code.bytes) ++ code.bytes in
    let n = length code.catches in
    let rows = flat_map catch_bytes code.catches in
    let tail = attributes_bytes skipped in
    let four : length sizes ≡ 4 = refl in (
      made.0,
      λ at rest.
          let a1 = at + length sizes in
          let a2 = a1 + length content in
          let a3 = a2 + length (u2 n) in
          let a4 = a3 + length rows in
          subst (λ (t : List ℕ). code_at pool front (place at (t ++ rest)) ≡ Ok (made.0, place (at + length t) rest)) (sym (in_parts (u2 code.max_stack) (u2 code.max_locals) (u4 (length code.bytes)) code.bytes (u2 n) rows tail))
          (reads_then (bytes 4) _ sizes (content ++ (u2 n ++ (rows ++ tail))) sizes made.0 at rest (taken 4 sizes four)
          (reads_then content_at _ content (u2 n ++ (rows ++ tail)) code.bytes made.0 a1 rest (content_reads code.bytes short)
          (reads_then (number 2) _ (u2 n) (rows ++ tail) n made.0 a2 rest (number_reads 2 n few_rows)
          (reads_then (bytes (8 * n)) _ rows tail rows made.0 a3 rest (taken (8 * n) rows (catches_length code.catches)) (made.1 a4 rest))))),
    )

-- ---- the attributes of a method

-- the content of one that is code
abbrev IsCodeHere : Pool → Attribute → Type 0
IsCodeHere pool a = (code : Code) × (skipped : List Attribute) × AreAttributes pool skipped × (a.content ≡ code_bytes code skipped) × (length code.bytes < 65536) × (length code.catches < 256 ^ 2)

record Stands (pool : Pool) (a : Attribute) : Type 0 where
  is : IsAttribute pool a
  code : is_code pool a ≡ true → IsCodeHere pool a

content_by_test : (pool : Pool) (x : List LineRow) (a : Attribute) (b : Bool) → length pool.entries < 256 ^ 2 → Stands pool a → is_code pool a ≡ b
    → ReadsSome (content_rows_at pool x a.name) (u4 (length a.content) ++ a.content)
unfolding content_rows_at
content_by_test pool x a true few h e =
    let here = h.code e in
    let short : length here.0.bytes < 256 ^ 4 = omega (arith, here.4) in
    let made = code_reads pool x here.0 here.1 few here.2 short here.5 in
    let read = subst (λ (t : List ℕ). Reads (code_at pool x) t made.0) (sym here.3) made.1 in (
      made.0,
      λ at rest. reads_then (number 4) _ (u4 (length a.content)) a.content (length a.content) made.0 at rest (number_reads 4 (length a.content) h.is.1)
          (if_true (is_code pool a) _ _ _ e (read (at + length (u4 (length a.content))) rest)),
    )
content_by_test pool x a false few h e = (
  x,
  λ at rest. reads_then (number 4) _ (u4 (length a.content)) a.content (length a.content) x at rest (number_reads 4 (length a.content) h.is.1)
      (if_false (is_code pool a) _ _ _ e (reads_last (bytes (length a.content)) _ a.content a.content x (at + length (u4 (length a.content))) rest (bytes_reads a.content) refl)),
)

content_gives : (pool : Pool) (x : List LineRow) (a : Attribute) → length pool.entries < 256 ^ 2 → Stands pool a → ReadsSome (content_rows_at pool x a.name) (u4 (length a.content) ++ a.content)
content_gives pool x a few h = content_by_test pool x a (is_code pool a) few h refl

method_gives : (pool : Pool) → length pool.entries < 256 ^ 2 → (x : List LineRow) (a : Attribute) → Stands pool a → ReadsSome (method_step pool x) (attribute_bytes a)
unfolding method_step
method_gives pool few x a h =
    let made = content_gives pool x a few h in (
      made.0,
      λ at rest. reads_then (number 2) _ (u2 a.name) (u4 (length a.content) ++ a.content) a.name made.0 at rest (number_reads 2 a.name (name_fits pool a few h.is)) (made.1 (at + length (u2 a.name)) rest),
    )

-- what is said of each attribute of a kind
abbrev OfKind : (Attribute → Bool) → (Attribute → Type 0) → List Attribute → Type 0
OfKind mine X attributes = AllByRecursion (λ a. mine a ≡ true → X a) attributes

none_step : (X : Attribute → Type 0) (mine : Attribute → Bool) (a : Attribute) (others : List Attribute) (b : Bool) → (filter mine others ≡ [] → OfKind mine X others) → mine a ≡ b
    → filter mine (a ∷ others) ≡ [] → OfKind mine X (a ∷ others)
none_step X mine a others true rest t e =
    let other : a ∷ filter mine others ≡ [] = subst (λ (b : Bool). cond b (a ∷ filter mine others) (filter mine others) ≡ []) t e in
    absurd cc
none_step X mine a others false rest t e =
    (λ m. absurd cc, rest (subst (λ (b : Bool). cond b (a ∷ filter mine others) (filter mine others) ≡ []) t e))

none_mine : (X : Attribute → Type 0) (mine : Attribute → Bool) (attributes : List Attribute) → filter mine attributes ≡ [] → OfKind mine X attributes
none_mine X mine [] e = tt
none_mine X mine (a ∷ others) e = none_step X mine a others (mine a) (none_mine X mine others) refl e

-- the one of a kind
abbrev IsFound : {B : Type 0} → (B → List ℕ → Type 0) → Option B → Attribute → Type 0
IsFound {B} H found a = (b : B) × (found ≡ Some b) × H b a.content

first_of : {B : Type 0} (H : B → List ℕ → Type 0) (a : Attribute) (rest : List Attribute) (f : Option B) → One H (a ∷ rest) f → IsFound H f a × (rest ≡ [])
first_of H a [] None h = absurd h
first_of H a [] (Some b) h = ((b, refl, h), refl)
first_of H a (c ∷ rest) None h = absurd h
first_of H a (c ∷ rest) (Some b) h = absurd h

one_step : {B : Type 0} (mine : Attribute → Bool) (H : B → List ℕ → Type 0) (a : Attribute) (others : List Attribute) (found : Option B) (b : Bool)
    → (One H (filter mine others) found → OfKind mine (IsFound H found) others) → mine a ≡ b → One H (filter mine (a ∷ others)) found → OfKind mine (IsFound H found) (a ∷ others)
one_step mine H a others found true rest t one =
    let first = first_of H a (filter mine others) found (subst (λ (b : Bool). One H (cond b (a ∷ filter mine others) (filter mine others)) found) t one) in
    (λ m. first.0, none_mine (IsFound H found) mine others first.1)
one_step mine H a others found false rest t one =
    (λ m. absurd cc, rest (subst (λ (b : Bool). One H (cond b (a ∷ filter mine others) (filter mine others)) found) t one))

-- what is said of the one of a kind holds of each that is of the kind
each_one : {B : Type 0} (mine : Attribute → Bool) (H : B → List ℕ → Type 0) (attributes : List Attribute) (found : Option B) → One H (filter mine attributes) found
    → OfKind mine (IsFound H found) attributes
each_one mine H [] found one = tt
each_one mine H (a ∷ others) found one = one_step mine H a others found (mine a) (each_one mine H others found) refl one

holds_of : (pool : Pool) (major slots : ℕ) (takes : Bool) (found : Option Code) (code : Code) → CodeIs pool major slots takes found → found ≡ Some code → CodeHolds pool major slots code
holds_of pool major slots takes None code is e = absurd cc
holds_of pool major slots takes (Some c) code is e = let same : c ≡ code = cc in subst (CodeHolds pool major slots) same is.1

stand : (pool : Pool) (major slots : ℕ) (takes : Bool) (found : Option Code) → CodeIs pool major slots takes found → (attributes : List Attribute) → AllByRecursion (IsAttribute pool) attributes
    → OfKind (is_code pool) (IsFound (IsCode pool) found) attributes → AllByRecursion (Stands pool) attributes
stand pool major slots takes found is [] all ones = tt
stand pool major slots takes found is (a ∷ others) all ones = (
  record {
    is = all.0;
    code = λ e.
        let c = ones.0 e in
        let holds = holds_of pool major slots takes found c.0 is c.1 in
        (c.0, c.2.0, c.2.1, c.2.2, holds.few, holds.few_rows);
  },
  stand pool major slots takes found is others all.1 ones.1,
)

-- ---- members

in_two : (a b c d : List ℕ) → a ++ (b ++ (c ++ d)) ≡ (a ++ (b ++ c)) ++ d
in_two a b c d = simp append_assoc

method_reads : (pool : Pool) (major : ℕ) (front : List Method) (m : Method) (bytes_of : List ℕ) → length pool.entries < 256 ^ 2 → MethodHolds pool major front m → MethodSpells pool m bytes_of
    → ReadsSome (method_at pool) bytes_of
unfolding method_at
method_reads pool major front m bytes_of few holds spells =
    let attributes = spells.0 in
    let slots = slots_of m.flags holds.name holds.descriptor in
    let takes = takes_code m.flags holds.name in
    let all = stand pool major slots takes m.code holds.code attributes spells.2.each (each_one (is_code pool) (IsCode pool) attributes m.code spells.3) in
    let made = steps_read (Stands pool) (method_step pool) (method_gives pool few) attributes [] all in
    let six = u2 m.flags ++ (u2 m.name ++ u2 m.descriptor) in
    let k = length attributes in
    let those = flat_map attribute_bytes attributes in
    let is_six : length six ≡ 6 = refl in
    let lines : MethodLines = record { rows = made.0 } in (
      lines,
      λ at rest.
          subst (λ (t : List ℕ). method_at pool (place at (t ++ rest)) ≡ Ok (lines, place (at + length t) rest)) (sym (spells.1 ∙ in_two (u2 m.flags) (u2 m.name) (u2 m.descriptor) (attributes_bytes attributes)))
          (reads_then (bytes 6) _ six (u2 k ++ those) six lines at rest (taken 6 six is_six)
          (reads_then (number 2) _ (u2 k) those k lines (at + length six) rest (number_reads 2 k spells.2.few)
          (reads_last (λ s. steps (method_step pool) [] k s) _ those made.0 lines (at + length six + length (u2 k)) rest made.1 refl))),
    )

-- as many as the class has
methods_read : (pool : Pool) (major : ℕ) → length pool.entries < 256 ^ 2 → (methods front : List Method) (done : List MethodLines) (bytes_of : List ℕ)
    → AllSpell (MethodSpells pool) methods bytes_of → EachBehind (MethodHolds pool major) front methods
    → (all : List MethodLines) × (length all ≡ length done + length methods) × Reads (λ s. steps (item_step (method_at pool)) done (length methods) s) bytes_of all
unfolding steps
methods_read pool major few [] front done bytes_of spells holds = (
  done,
  omega arith,
  λ at rest. subst (λ (t : List ℕ). (let made : List MethodLines × Place → Read (List MethodLines) = λ z. Ok z in made (done, place at (t ++ rest)) ≡ made (done, place (at + length t) rest))) (sym spells) (at_nil done at rest),
)
methods_read pool major few (m ∷ methods) front done bytes_of spells holds =
    let one = method_reads pool major front m spells.0 few holds.0 spells.3 in
    let more = done ++ one.0 ∷ [] in
    let others = methods_read pool major few methods (front ++ m ∷ []) more spells.1 spells.4 holds.1 in (
      others.0,
      omega (arith, others.1, length-append done (one.0 ∷ [])),
      λ at rest. subst (λ (t : List ℕ). steps (item_step (method_at pool)) done (length (m ∷ methods)) (place at (t ++ rest)) ≡ Ok (others.0, place (at + length t) rest)) (sym spells.2)
          (reads_then (item_step (method_at pool) done) (λ y. steps (item_step (method_at pool)) y.0 (length methods) y.1) spells.0 spells.1 more others.0 at rest
          (λ at rest. reads_last (method_at pool) _ spells.0 one.0 more at rest one.1 refl) (others.2 (at + length spells.0) rest)),
    )

field_reads : (pool : Pool) (interface : Bool) (f : Field) (bytes_of : List ℕ) → length pool.entries < 256 ^ 2 → FieldSpells pool interface f bytes_of → ReadsSome field_at bytes_of
unfolding field_at
field_reads pool interface f bytes_of few spells =
    let attributes = spells.0 in
    let made = attributes_read (IsAttribute pool) pass_step (passes pool few) attributes tt spells.2.few spells.2.each in
    let six = u2 f.flags ++ (u2 f.name ++ u2 f.descriptor) in
    let is_six : length six ≡ 6 = refl in (
      made.0,
      λ at rest.
          subst (λ (t : List ℕ). field_at (place at (t ++ rest)) ≡ Ok (made.0, place (at + length t) rest)) (sym (spells.1 ∙ in_two (u2 f.flags) (u2 f.name) (u2 f.descriptor) (attributes_bytes attributes)))
          (reads_then (bytes 6) _ six (attributes_bytes attributes) six made.0 at rest (taken 6 six is_six) (made.1 (at + length six) rest)),
    )

fields_read : (pool : Pool) (interface : Bool) → length pool.entries < 256 ^ 2 → (fields : List Field) (x : Unit {0}) (bytes_of : List ℕ) → AllSpell (FieldSpells pool interface) fields bytes_of
    → ReadsSome (λ s. steps field_step x (length fields) s) bytes_of
unfolding steps
fields_read pool interface few [] x bytes_of spells = (
  x,
  λ at rest. subst (λ (t : List ℕ). (let made : Unit {0} × Place → Read (Unit {0}) = λ z. Ok z in made (x, place at (t ++ rest)) ≡ made (x, place (at + length t) rest))) (sym spells) (at_nil x at rest),
)
fields_read pool interface few (f ∷ fields) x bytes_of spells =
    let one = field_reads pool interface f spells.0 few spells.3 in
    let others = fields_read pool interface few fields one.0 spells.1 spells.4 in (
      others.0,
      λ at rest. subst (λ (t : List ℕ). steps field_step x (length (f ∷ fields)) (place at (t ++ rest)) ≡ Ok (others.0, place (at + length t) rest)) (sym spells.2)
          (reads_then (field_step x) (λ y. steps field_step y.0 (length fields) y.1) spells.0 spells.1 one.0 others.0 at rest one.1 (others.1 (at + length spells.0) rest)),
    )

-- ---- the class

pairs_length : (xs : List ℕ) → length (flat_map u2 xs) ≡ 2 * length xs
pairs_length [] = refl
pairs_length (x ∷ xs) =
    let two : length (u2 x) ≡ 2 = refl in
    omega (arith, ap length (flat_map-cons u2 x xs), length-append (u2 x) (flat_map u2 xs), two, pairs_length xs)

abbrev head_bytes : ClassFile → List ℕ
head_bytes c = (u4 MAGIC ++ (u2 c.minor ++ u2 c.major)) ++ (pool_bytes c.pool ++ ((u2 c.flags ++ (u2 c.this_class ++ u2 c.super_class)) ++ (u2 (length c.interfaces) ++ flat_map u2 c.interfaces)))

head_reads : (c : ClassFile) → IsPool c.pool → length c.interfaces < 256 ^ 2 → Reads head_at (head_bytes c) tt
unfolding head_at
head_reads c is few at rest =
    let eight = u4 MAGIC ++ (u2 c.minor ++ u2 c.major) in
    let six = u2 c.flags ++ (u2 c.this_class ++ u2 c.super_class) in
    let n = length c.interfaces in
    let pairs = flat_map u2 c.interfaces in
    let is_eight : length eight ≡ 8 = refl in
    let is_six : length six ≡ 6 = refl in
    let a1 = at + length eight in
    let a2 = a1 + length (pool_bytes c.pool) in
    let a3 = a2 + length six in
    let a4 = a3 + length (u2 n) in
    reads_then (bytes 8) _ eight (pool_bytes c.pool ++ (six ++ (u2 n ++ pairs))) eight tt at rest (taken 8 eight is_eight)
    (reads_then pool_at _ (pool_bytes c.pool) (six ++ (u2 n ++ pairs)) c.pool tt a1 rest (pool_reads c.pool is)
    (reads_then (bytes 6) _ six (u2 n ++ pairs) six tt a2 rest (taken 6 six is_six)
    (reads_then (number 2) _ (u2 n) pairs n tt a3 rest (number_reads 2 n few)
    (reads_last (bytes (2 * n)) _ pairs pairs tt a4 rest (taken (2 * n) pairs (pairs_length c.interfaces)) refl))))

in_order : (a b c d e f g h i j : List ℕ) → (a ++ (b ++ c)) ++ ((d ++ e) ++ ((f ++ g) ++ ((h ++ i) ++ j))) ≡ ((a ++ (b ++ (c ++ (d ++ e)))) ++ (f ++ (g ++ (h ++ i)))) ++ j
in_order a b c d e f g h i j = simp append_assoc

pub never_bad : (r : Result (List MethodLines) Fault) (x : List MethodLines) (f : Fault) → r ≡ Ok x → r ≡ Err f → ⊥
never_bad (Ok y) x f e h = cc
never_bad (Err g) x f e h = cc

-- the lines of the methods, and the attributes of the class behind them
pub record AreRead (file : List ℕ) (c : ClassFile) : Type 0 where
  pub lines : List MethodLines
  pub at : ℕ
  pub skipped : List Attribute
  pub are : AreAttributes c.pool skipped
  pub read : methods_at c.pool (place 0 file) ≡ Ok (lines, place at (attributes_bytes skipped))
  pub each : length lines ≡ length c.methods

pub methods_there : (file : List ℕ) (c : ClassFile) → File file c → AreRead file c
unfolding methods_at
methods_there file c f =
    let h = f.holds in
    let s = f.spelled in
    let few = h.pool.few in
    let n = length c.fields in
    let k = length c.methods in
    let made = methods_read c.pool c.major few c.methods [] [] s.methods s.are_methods h.methods in
    let passed = fields_read c.pool (has c.flags INTERFACE) few c.fields tt s.fields s.are_fields in
    let whole = head_bytes c ++ (u2 n ++ (s.fields ++ (u2 k ++ s.methods))) in
    let a1 = 0 + length (head_bytes c) in
    let a2 = a1 + length (u2 n) in
    let a3 = a2 + length s.fields in
    let a4 = a3 + length (u2 k) in
    let tail = attributes_bytes s.skipped in
    let all : methods_at c.pool (place 0 (whole ++ tail)) ≡ Ok (made.0, place (0 + length whole) tail) =
    reads_then head_at _ (head_bytes c) (u2 n ++ (s.fields ++ (u2 k ++ s.methods))) tt made.0 0 tail (head_reads c h.pool h.few_interfaces)
    (reads_then (number 2) _ (u2 n) (s.fields ++ (u2 k ++ s.methods)) n made.0 a1 tail (number_reads 2 n h.few_fields)
    (reads_then (λ t. steps field_step tt n t) _ s.fields (u2 k ++ s.methods) passed.0 made.0 a2 tail passed.1
    (reads_then (number 2) _ (u2 k) s.methods k made.0 a3 tail (number_reads 2 k h.few_methods) (made.2 a4 tail)))) in
    let eight = u4 MAGIC ++ (u2 c.minor ++ u2 c.major) in
    let six = u2 c.flags ++ (u2 c.this_class ++ u2 c.super_class) in
    let parts : file ≡ whole ++ tail =
    s.parts ∙ in_order eight (pool_bytes c.pool) six (u2 (length c.interfaces)) (flat_map u2 c.interfaces) (u2 n) s.fields (u2 k) s.methods tail in
    record {
      lines = made.0;
      at = 0 + length whole;
      skipped = s.skipped;
      are = s.are_skipped;
      read = ap (λ (t : List ℕ). methods_at c.pool (place 0 t)) parts ∙ all;
      each = omega (arith, made.1);
    }

pub record IsThere (file : List ℕ) (c : ClassFile) : Type 0 where
  pub lines : List MethodLines
  pub read : lines_of file c.pool ≡ Ok lines
  pub each : length lines ≡ length c.methods

pub lines_there : (file : List ℕ) (c : ClassFile) → File file c → IsThere file c
unfolding lines_of
lines_there file c f =
    let there = methods_there file c f in
    record {
      lines = there.lines;
      read = ap (λ (r : Read (List MethodLines)). r >>= λ methods. Ok methods.0) there.read;
      each = there.each;
    }

-- ---- the source file

gives_index : (pool : Pool) → length pool.entries < 256 ^ 2 → (x : Option ℕ) (a : Attribute) → IsAttribute pool a → ReadsSome (file_step pool x) (attribute_bytes a)
gives_index pool few x a is =
    let index = with_index pool x (a.name, a.content) in
    (index, λ at rest. reads_last attribute_at _ (attribute_bytes a) (a.name, a.content) index at rest (attribute_reads pool a few is) refl)

pub record HasSource (file : List ℕ) (c : ClassFile) : Type 0 where
  pub index : Option ℕ
  pub read : source_of file c.pool ≡ Ok index

pub source_there : (file : List ℕ) (c : ClassFile) → File file c → HasSource file c
unfolding source_of sources_at
source_there file c f =
    let few = f.holds.pool.few in
    let there = methods_there file c f in
    let made = attributes_read (IsAttribute c.pool) (file_step c.pool) (gives_index c.pool few) there.skipped None there.are.few there.are.each in
    let tail = attributes_bytes there.skipped in
    let behind : Place → Read (Option ℕ) = λ s. number 2 s >>= λ count. steps (file_step c.pool) None count.0 count.1 in
    let last : behind (place there.at tail) ≡ Ok (made.0, place (there.at + length tail) []) =
    subst (λ (t : List ℕ). behind (place there.at t) ≡ Ok (made.0, place (there.at + length tail) [])) (append-nil tail) (made.1 there.at []) in
    record {
      index = made.0;
      read =
          ap (λ (r : Read (List MethodLines)). (r >>= λ methods. behind methods.1) >>= λ found. Ok found.0) there.read
          ∙ ap (λ (r : Read (Option ℕ)). r >>= λ found. Ok found.0) last;
    }

pub never_faulty : (r : Result (Option ℕ) Fault) (x : Option ℕ) (f : Fault) → r ≡ Ok x → r ≡ Err f → ⊥
never_faulty (Ok y) x f e h = cc
never_faulty (Err g) x f e h = cc

same_lines : (r : Result (List MethodLines) Fault) (x y : List MethodLines) → r ≡ Ok x → r ≡ Ok y → x ≡ y
same_lines (Ok z) x y e h = cc
same_lines (Err g) x y e h = absurd cc

pub lines_counted : (lines : List MethodLines) (file : List ℕ) (c : ClassFile) → File file c → lines_of file c.pool ≡ Ok lines → length lines ≡ length c.methods
lines_counted lines file c f e =
    let there = lines_there file c f in
    ap length (same_lines (lines_of file c.pool) lines there.lines e there.read) ∙ there.each
