-- Literals that are among those gathered.
use Rattle.std.proofs.Common.{◌≡◌, ◌∙◌, ◌++◌, ◌||◌, Bool, true, false, List, [], ◌∷◌, ℕ, Option, Some, None, if◌then◌else◌, ap, refl}
use Rattle.std.proofs.lemmas.Slice.Eq.{bytes_eq-Decides}
use Rattle.std.specs.List.{list_any}
use Rattle.std.specs.Prelude.{bytes_eq}
use Rattle.vx_initial_heap.proofs.Gathering.{any-append}
use Rattle.vx_initial_heap.proofs.RememberedLaws.{right_more}
use Rattle.vx_initial_heap.specs.Literals.{has_one, IsListed, with_entry, with_first, with_one}
use Rattle.vx_initial_heap.specs.Remembered.{IsRight, classes_with, texts_with}
use Rattle.vx_initial_heap.specs.declared.remembered.Remembered.{Remembered}
use Rattle.vx_java.specs.FirstObjects.{First, first_of_entry, for_class, for_text, same_first, units_of}
use Rattle.vx_link.specs.Names.{utf8}
use Rattle.vx_pool.specs.declared.pool.Entry.{Entry}
use Rattle.vx_pool.specs.declared.pool.Entry.TheVariants.{Class, Text}
use Rattle.vx_pool.specs.declared.pool.Pool.{Pool}

-- what is there stays
any_more : (p : First → Bool) (listed : List First) (x : First) → list_any p listed ≡ true → list_any p (listed ++ x ∷ []) ≡ true
any_more p listed x h = any-append p listed (x ∷ []) ∙ ap (λ b. b || list_any p (x ∷ [])) h

with_first_has : (p : First → Bool) (listed : List First) (x : First) (b : Bool) → list_any p listed ≡ true → list_any p (if b then listed else listed ++ x ∷ []) ≡ true
with_first_has p listed x true h = h
with_first_has p listed x false h = any_more p listed x h

one_more : (listed : List First) (new o : Option First) → has_one listed o ≡ true → has_one (with_one listed new) o ≡ true
one_more listed new None h = refl
one_more listed None (Some y) h = h
one_more listed (Some x) (Some y) h = with_first_has (same_first y) listed x (list_any (same_first x) listed) h

-- one that was put is there
put_there : (listed : List First) (x : First) (b : Bool) → same_first x x ≡ true → list_any (same_first x) listed ≡ b → list_any (same_first x) (if b then listed else listed ++ x ∷ []) ≡ true
put_there listed x true same h = h
put_there listed x false same h = any-append (same_first x) listed (x ∷ []) ∙ (rw (h, same) refl)

same_bytes : (bytes : List ℕ) → bytes_eq bytes bytes ≡ true
same_bytes bytes = (bytes_eq-Decides bytes bytes).1 refl

literal_there : (listed : List First) (x : First) → same_first x x ≡ true → has_one (with_first listed x) (Some x) ≡ true
literal_there listed x same = put_there listed x (list_any (same_first x) listed) same refl

entry_there : (listed : List First) (pool : Pool) (e : Entry) → has_one (with_entry pool listed e) (first_of_entry pool e) ≡ true
entry_there listed pool (Text i) = literal_there listed (for_text (units_of (utf8 pool i))) (same_bytes (units_of (utf8 pool i)))
entry_there listed pool (Class i) = literal_there listed (for_class (utf8 pool i)) (same_bytes (utf8 pool i))
entry_there listed pool _ = refl

-- the entries that are remembered, with one more
pub listed_more : (listed : List First) (pool : Pool) (e : Entry) (r s : Remembered) → s.texts.items ≡ texts_with r.texts.items e 1 → s.classes.items ≡ classes_with r.classes.items e 1
    → IsRight (IsListed listed pool) r → IsRight (IsListed (with_entry pool listed e) pool) s
listed_more listed pool e r s texts classes all =
    right_more (IsListed (with_entry pool listed e) pool) r s e 1 texts classes
    (record { each = λ f some. one_more listed (first_of_entry pool e) (first_of_entry pool f) (all.each f some) })
    (entry_there listed pool e)
