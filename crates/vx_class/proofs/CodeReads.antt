-- Attributes and code that are spelled so, and meet their checks, are read.
use Rattle.std.proofs.Common.{◌≡◌, ℕ, ◌+◌, ◌<◌, ◌≤◌, ◌^◌, List, [], ◌∷◌, ◌++◌, length, Bool, true, false, Option, Some, None, Ok, refl, sym, ap, subst, ◌∙◌, inl, inr, append_assoc, arith, ◌&&◌, ◌||◌}
use Rattle.std.specs.Prelude.{is_some, nat_lt, nat_le, ◌==◌, IsTrue, slice_get}
use Rattle.std.proofs.lemmas.List.{append-nil}
use Rattle.std.proofs.lemmas.Option.{slice_get_past}
use Rattle.std.proofs.lemmas.Bool.{cases_lt, eqb-true, eq-eqb, le-leb, leb-true, lt-ltb, ltb-true}
use Rattle.std.proofs.lemmas.List.Concat.{flat_map-cons}
use Rattle.std.specs.List.{flat_map, list_any, AllByRecursion}
use Rattle.vx_pool.specs.Place.{Place, place}
use Rattle.vx_pool.specs.Reading.{Read, ◌>>=◌, check, number, bytes, steps, item_step, items}
use Rattle.vx_pool.specs.ReadingAgain.{Reads, number_reads, bytes_reads, room_again, reads_then, reads_last, check_passes}
use Rattle.vx_pool.specs.declared.pool.Entry.{Entry}
use Rattle.vx_pool.specs.declared.pool.Entry.TheVariants as entry
use Rattle.vx_pool.specs.declared.pool.Pool.{Pool}
use Rattle.vx_opcode.specs.Bounds.{lies}
use Rattle.vx_pool.specs.Lookups.{entry_of, is_usable, utf8, class, text}
use Rattle.vx_pool.specs.Checks.{all_hold}
use Rattle.vx_pool.specs.Entries.{usable}
use Rattle.vx_pool.specs.Instructions.{is_start, starts_of, jumps_at, jumps_checked, AreInstructions, JumpsHold}
use Rattle.vx_pool.specs.Holding.{none_fails-from, and_true, each_holds-from, walk_holds-from, jumps_hold-from}
use Rattle.vx_class.specs.declared.class_file.Catch.{Catch}
use Rattle.vx_class.specs.declared.class_file.Code.{Code}
use Rattle.vx_class.specs.declared.code.Parts.{Parts}
use Rattle.vx_class.specs.Code.{text_given, utf8_at, content_at, skipped_at, skip_step, all_skipped_at, catch_at, catches_at, catch_checks, row_checked, catches_checked, parts_at, code_checked, code_at}
use Rattle.vx_class.specs.Spelling.{u2, u4, Attribute, attribute_bytes, attributes_bytes, catch_bytes, code_bytes, IsAttribute, AreAttributes, IsCode}
use Rattle.vx_class.specs.File.{CodeHolds}

-- ---- indices of the pool

-- the index of an entry is below the number of entries
there : {A : Type 0} (xs : List A) (i : ℕ) (P : Option A → Type 0) → (P None → ⊥) → P (slice_get xs i) → i < length xs
there xs i P nothing h =
    elim (cases_lt i (length xs)) [
      | inl lt ↦ lt
      | inr le ↦ absurd (nothing (subst P (slice_get_past xs i le) h))
    ]

usable_utf8 : (o : Option Entry) (t : List ℕ) → utf8 o ≡ Some t → is_usable o ≡ true
usable_utf8 (Some (entry.Utf8 x)) t e = refl
usable_utf8 _ t e = absurd cc

usable_class : (o : Option Entry) → is_some (class o) ≡ true → is_usable o ≡ true
usable_class (Some (entry.Class i)) e = refl
usable_class _ e = absurd cc

pub index_fits : (pool : Pool) (i : ℕ) → length pool.entries < 256 ^ 2 → is_usable (entry_of pool i) ≡ true → i < 256 ^ 2
index_fits pool i few is =
    let lt : i < length pool.entries = there pool.entries i (λ (o : Option Entry). is_usable o ≡ true) (λ e. absurd cc) is in
    omega (arith, lt, few)

pub text_usable : (pool : Pool) (i : ℕ) (t : List ℕ) → text pool i ≡ Some t → usable pool i ≡ true
text_usable pool i t is = usable_utf8 (entry_of pool i) t is

pub class_usable : (pool : Pool) (i : ℕ) → is_some (class (entry_of pool i)) ≡ true → usable pool i ≡ true
class_usable pool i is = usable_class (entry_of pool i) is

-- ---- attributes

pub utf8_reads : (pool : Pool) (i : ℕ) (t : List ℕ) → length pool.entries < 256 ^ 2 → text pool i ≡ Some t → Reads (utf8_at pool) (u2 i) (i, t)
unfolding utf8_at
utf8_reads pool i t few is at rest =
    let is_there = text_usable pool i t is in
    reads_last (number 2) (λ index. check (usable pool index.0) at 5 (text_given (utf8 (entry_of pool index.0)) at index.0 index.1)) (u2 i) i (i, t) at rest (number_reads 2 i (index_fits pool i few is_there))
    (check_passes (usable pool i) at 5 _ _ is_there (ap (λ (o : Option (List ℕ)). text_given o at i (place (at + length (u2 i)) rest)) is))

pub content_reads : (x : List ℕ) → length x < 256 ^ 4 → Reads content_at (u4 (length x) ++ x) x
unfolding content_at
content_reads x lt at rest = reads_then (number 4) _ (u4 (length x)) x (length x) x at rest (number_reads 4 (length x) lt) (bytes_reads x (at + length (u4 (length x))) rest)

pub some_there : {A : Type 0} (o : Option A) → is_some o ≡ true → (x : A) × (o ≡ Some x)
some_there (Some x) e = (x, refl)
some_there None e = absurd cc

skipped_reads : (pool : Pool) (a : Attribute) → length pool.entries < 256 ^ 2 → IsAttribute pool a → Reads (skipped_at pool) (attribute_bytes a) tt
unfolding skipped_at
skipped_reads pool a few is at rest =
    let t = some_there (text pool a.name) is.0 in
    reads_then (utf8_at pool) _ (u2 a.name) (u4 (length a.content) ++ a.content) (a.name, t.0) tt at rest (utf8_reads pool a.name t.0 few t.1)
    (reads_last content_at _ (u4 (length a.content) ++ a.content) a.content tt (at + length (u2 a.name)) rest (content_reads a.content is.1) refl)

-- a reader of several items, spelled one after the other
pub at_cons : {A B : Type 0} (read : Place → Read A) (y : A) (spell : B → List ℕ) (b : B) (bs : List B) (at : ℕ) (rest : List ℕ)
    → read (place at ((spell b ++ flat_map spell bs) ++ rest)) ≡ Ok (y, place (at + length (spell b ++ flat_map spell bs)) rest)
    → read (place at (flat_map spell (b ∷ bs) ++ rest)) ≡ Ok (y, place (at + length (flat_map spell (b ∷ bs))) rest)
at_cons read y spell b bs at rest h =
    subst (λ (t : List ℕ). read (place at (t ++ rest)) ≡ Ok (y, place (at + length t) rest)) (sym (flat_map-cons spell b bs)) h

pub at_nil : {A : Type 0} (x : A) (at : ℕ) (rest : List ℕ) → (let done : A × Place → Read A = λ z. Ok z in done (x, place at rest) ≡ done (x, place (at + 0) rest))
at_nil x at rest = ap (λ (k : ℕ). Ok (x, place k rest)) (omega arith)

skips_read : (pool : Pool) (skipped : List Attribute) → length pool.entries < 256 ^ 2 → AllByRecursion (IsAttribute pool) skipped
    → Reads (λ s. steps (skip_step pool) tt (length skipped) s) (flat_map attribute_bytes skipped) tt
unfolding steps
skips_read pool [] few are at rest = at_nil tt at rest
skips_read pool (a ∷ others) few are at rest =
    at_cons (λ s. steps (skip_step pool) tt (length (a ∷ others)) s) tt attribute_bytes a others at rest
    (reads_then (skip_step pool tt) (λ y. steps (skip_step pool) y.0 (length others) y.1) (attribute_bytes a) (flat_map attribute_bytes others) tt tt at rest
    (skipped_reads pool a few are.0) (skips_read pool others few are.1 (at + length (attribute_bytes a)) rest))

pub all_skipped_reads : (pool : Pool) (skipped : List Attribute) → length pool.entries < 256 ^ 2 → AreAttributes pool skipped → Reads (all_skipped_at pool) (attributes_bytes skipped) tt
unfolding all_skipped_at
all_skipped_reads pool skipped few are at rest =
    reads_then (number 2) _ (u2 (length skipped)) (flat_map attribute_bytes skipped) (length skipped) tt at rest (number_reads 2 (length skipped) are.few)
    (skips_read pool skipped few are.each (at + length (u2 (length skipped))) rest)

-- ---- items

items_read : {A : Type 0} (item : Place → Read A) (spell : A → List ℕ) (front xs : List A) → AllByRecursion (λ x. Reads item (spell x) x) xs
    → Reads (λ s. steps (item_step item) front (length xs) s) (flat_map spell xs) (front ++ xs)
unfolding steps
items_read item spell front [] all at rest = ap (λ ys. Ok (ys, place at rest)) (sym (append-nil front)) ∙ at_nil (front ++ []) at rest
items_read {A = A} item spell front (x ∷ xs) all at rest =
    at_cons (λ s. steps (item_step item) front (length (x ∷ xs)) s) (front ++ (x ∷ xs)) spell x xs at rest
    (reads_then (item_step item front) (λ y. steps (item_step item) y.0 (length xs) y.1) (spell x) (flat_map spell xs) (front ++ x ∷ []) (front ++ (x ∷ xs)) at rest
    (λ at rest. reads_last item _ (spell x) x (front ++ x ∷ []) at rest all.0 refl)
    (items_read item spell (front ++ x ∷ []) xs all.1 (at + length (spell x)) rest
    ∙ ap (λ (ys : List A). Ok (ys, place (at + length (spell x) + length (flat_map spell xs)) rest)) (append_assoc front (x ∷ []) xs)))

-- so many items behind their number
pub counted_reads : {A : Type 0} (item : Place → Read A) (spell : A → List ℕ) (xs : List A) → length xs < 256 ^ 2 → AllByRecursion (λ x. Reads item (spell x) x) xs
    → Reads (λ s. number 2 s >>= λ count. items item count.0 count.1) (u2 (length xs) ++ flat_map spell xs) xs
counted_reads item spell xs few all at rest =
    reads_then (number 2) (λ count. items item count.0 count.1) (u2 (length xs)) (flat_map spell xs) (length xs) xs at rest (number_reads 2 (length xs) few)
    (items_read item spell [] xs all (at + length (u2 (length xs))) rest)

-- ---- code

pub record RowFits (row : Catch) : Type 0 where
  pub start : row.start < 256 ^ 2
  pub end : row.end < 256 ^ 2
  pub handler : row.handler < 256 ^ 2
  pub class : row.class < 256 ^ 2

catch_reads : (row : Catch) → RowFits row → Reads catch_at (catch_bytes row) row
unfolding catch_at
catch_reads row fits at rest =
    reads_then (number 2) _ (u2 row.start) (u2 row.end ++ (u2 row.handler ++ u2 row.class)) row.start row at rest (number_reads 2 row.start fits.start)
    (reads_then (number 2) _ (u2 row.end) (u2 row.handler ++ u2 row.class) row.end row (at + length (u2 row.start)) rest (number_reads 2 row.end fits.end)
    (reads_then (number 2) _ (u2 row.handler) (u2 row.class) row.handler row (at + length (u2 row.start) + length (u2 row.end)) rest (number_reads 2 row.handler fits.handler)
    (reads_last (number 2) _ (u2 row.class) row.class row (at + length (u2 row.start) + length (u2 row.end) + length (u2 row.handler)) rest (number_reads 2 row.class fits.class) refl)))

-- the places of instructions lie in the code
start_within : (code : List ℕ) (from : ℕ) (starts : List ℕ) (at : ℕ) → AreInstructions code from starts → is_start starts at ≡ true → at < length code
start_within code from [] at are is = absurd cc
start_within code from (s ∷ starts) at are is = by_test (start_within code (from + are.1.length) starts at are.3) (s == at) refl is
  where
    by_test : (list_any (λ k. k == at) starts ≡ true → at < length code) → (b : Bool) → (s == at) ≡ b → (b || list_any (λ k. k == at) starts) ≡ true → at < length code
    by_test others true t e =
        let l = lies code from are.1 are.2 in
        let same : s ≡ at = eqb-true s at t in
        omega (arith, l.some, l.within, are.0, same)
    by_test others false t e = others e

class_fits : (pool : Pool) (i : ℕ) → length pool.entries < 256 ^ 2 → (i == 0 || usable pool i) ≡ true → i < 256 ^ 2
class_fits pool i few e = by_test (i == 0) refl e
  where
    by_test : (b : Bool) → (i == 0) ≡ b → (b || usable pool i) ≡ true → i < 256 ^ 2
    by_test true t e = let none : i ≡ 0 = eqb-true i 0 t in omega (arith, none)
    by_test false t e = index_fits pool i few e

row_fits : (pool : Pool) (code starts : List ℕ) (row : Catch) → length pool.entries < 256 ^ 2 → length code < 65536 → AreInstructions code 0 starts → all_hold (catch_checks pool starts code row) ≡ true → RowFits row
row_fits pool code starts row few short are holds =
    let places = and_true _ _ holds in
    let class = and_true _ _ places.1 in
    let fourth = and_true _ _ places.0 in
    let third = and_true _ _ fourth.0 in
    let second = and_true _ _ third.0 in
    let first = and_true _ _ second.0 in
    let lt : row.start < row.end = ltb-true row.start row.end first.0 in
    let le : row.end ≤ length code = leb-true row.end (length code) first.1 in
    let handler = start_within code 0 starts row.handler are third.1 in
    record { start = omega (arith, lt, le, short); end = omega (arith, le, short); handler = omega (arith, handler, short); class = class_fits pool row.class few class.0 }

rows_read : (pool : Pool) (code starts : List ℕ) (rows : List Catch) → length pool.entries < 256 ^ 2 → length code < 65536 → AreInstructions code 0 starts
    → AllByRecursion (λ row. IsTrue (all_hold (catch_checks pool starts code row))) rows → AllByRecursion (λ row. Reads catch_at (catch_bytes row) row) rows
rows_read pool code starts [] few short are all = tt
rows_read pool code starts (row ∷ rows) few short are all = (catch_reads row (row_fits pool code starts row few short are all.0), rows_read pool code starts rows few short are all.1)

abbrev parts_of : Code → ℕ → ℕ → Parts
parts_of code base rows = record { code = code; base = base; rows = rows }

parts_reads : (pool : Pool) (major slots : ℕ) (code : Code) (skipped : List Attribute) (at : ℕ) (rest : List ℕ) → length pool.entries < 256 ^ 2 → AreAttributes pool skipped → CodeHolds pool major slots code
    → (base : ℕ) × (rows : ℕ) × (parts_at pool slots (place at (code_bytes code skipped ++ rest)) ≡ Ok (parts_of code base rows, place (at + length (code_bytes code skipped)) rest))
unfolding parts_at catches_at
parts_reads pool major slots code skipped at rest few are holds =
    let rows = u2 (length code.catches) ++ flat_map catch_bytes code.catches in
    let stack = u2 code.max_stack in
    let locals = u2 code.max_locals in
    let len = u4 (length code.bytes) in
    let skips = attributes_bytes skipped in
    let a1 = at + length stack in
    let a2 = a1 + length locals in
    let a3 = a2 + length len in
    let a4 = a3 + length code.bytes in
    let a5 = a4 + length rows in
    let made = parts_of code a3 (a4 + 2) in
    let is_long : (nat_lt 0 (length code.bytes) && nat_lt (length code.bytes) 65536) ≡ true = rw (lt-ltb 0 (length code.bytes) holds.some, lt-ltb (length code.bytes) 65536 holds.few) refl in
    let enough : nat_le slots code.max_locals ≡ true = le-leb slots code.max_locals holds.arguments in
    let length_fits : length code.bytes < 256 ^ 4 = omega (arith, holds.few) in (
      a3,
      a4 + 2,
      reads_then (number 2) _ stack (locals ++ (len ++ (code.bytes ++ (rows ++ skips)))) code.max_stack made at rest (number_reads 2 code.max_stack holds.stack)
          (reads_then (number 2) _ locals (len ++ (code.bytes ++ (rows ++ skips))) code.max_locals made a1 rest (number_reads 2 code.max_locals holds.locals)
          (check_passes (nat_le slots code.max_locals) a1 12 _ _ enough
          (reads_then (number 4) _ len (code.bytes ++ (rows ++ skips)) (length code.bytes) made a2 rest (number_reads 4 (length code.bytes) length_fits)
          (check_passes (nat_lt 0 (length code.bytes) && nat_lt (length code.bytes) 65536) a2 9 _ _ is_long
          (reads_then (bytes_of (length code.bytes)) _ code.bytes (rows ++ skips) code.bytes made a3 rest (bytes_reads code.bytes)
          (reads_then (λ s. number 2 s >>= λ count. items catch_at count.0 count.1) _ rows skips code.catches made a4 rest (counted_reads catch_at catch_bytes code.catches holds.few_rows (rows_read pool code.bytes holds.starts code.catches few holds.few holds.instructions holds.rows))
          (reads_last (all_skipped_at pool) _ skips tt made a5 rest (all_skipped_reads pool skipped few are) refl))))))),
    )
  where
    bytes_of : ℕ → Place → Read (List ℕ)
    bytes_of n s = bytes n s

code_passes : (pool : Pool) (major slots : ℕ) (code : Code) (base rows : ℕ) → CodeHolds pool major slots code → code_checked pool major (parts_of code base rows) ≡ Ok tt
unfolding code_checked
code_passes pool major slots code base rows holds =
    let walked : starts_of pool major code.max_locals code.bytes base ≡ Ok holds.starts = walk_holds-from pool major code.max_locals code.bytes base (length code.bytes) 0 [] holds.starts (omega arith) holds.instructions holds.operands in
    let jumps : jumps_checked holds.starts code.bytes base ≡ Ok tt = each_holds-from (λ at _. jumps_at holds.starts code.bytes base at) (λ _. 0) (JumpsHold holds.starts code.bytes) (λ at _ h. jumps_hold-from holds.starts code.bytes base at h) holds.starts 0 holds.jumps in
    let are_rows : catches_checked pool holds.starts code.bytes code.catches rows ≡ Ok tt = each_holds-from (row_checked pool holds.starts code.bytes) (λ _. 8) (λ row. IsTrue (all_hold (catch_checks pool holds.starts code.bytes row))) (λ row at h. none_fails-from at (catch_checks pool holds.starts code.bytes row) h) code.catches rows holds.rows in
    rw (walked, jumps) are_rows

pub code_reads : (pool : Pool) (major slots name : ℕ) (code : Code) (content : List ℕ) → length pool.entries < 256 ^ 2 → IsCode pool code content → length content < 256 ^ 4 → CodeHolds pool major slots code
    → Reads (code_at pool major slots name) (u4 (length content) ++ content) code
unfolding code_at
code_reads pool major slots name code content few is short holds at rest =
    let a1 = at + length (u4 (length content)) in
    let parts = parts_reads pool major slots code is.0 a1 rest few is.1 holds in
    let read : parts_at pool slots (place a1 (content ++ rest)) ≡ Ok (parts_of code parts.0 parts.1, place (a1 + length content) rest) =
    subst (λ (t : List ℕ). parts_at pool slots (place a1 (t ++ rest)) ≡ Ok (parts_of code parts.0 parts.1, place (a1 + length t) rest)) (sym is.2) parts.2 in
    let full : (a1 + length content == a1 + length content) ≡ true = eq-eqb (a1 + length content) (a1 + length content) refl in
    reads_then (number 4) _ (u4 (length content)) content (length content) code at rest (number_reads 4 (length content) short)
    (rw (room_again content rest a1, read, full, code_passes pool major slots code parts.0 parts.1 holds) refl)
