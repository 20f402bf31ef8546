-- A pool that is spelled so is read.
use Rattle.std.specs.Prelude.{◌≡◌, ℕ, ◌+◌, ◌-◌, ◌<◌, ◌≤◌, ◌^◌, List, [], ◌∷◌, ◌++◌, length, Bool, true, false, Result, Ok, nat_le, refl}
use Rattle.std.proofs.Common.{sym, ap, subst, ◌∙◌, append_assoc, arith}
use Rattle.std.proofs.lemmas.Bool.{le-leb}
use Rattle.std.proofs.lemmas.Int.{to_z-of_z, ints}
use Rattle.std.proofs.lemmas.List.Concat.{flat_map-cons}
use Rattle.std.specs.List.{flat_map}
use Rattle.std.specs.Int.{w32, w64, cast_signed, cast_unsigned}
use Rattle.byteorder.specs.Endian.{big_bytes}
use Rattle.vx_pool.specs.declared.fault.ClassFault.{ClassFault}
use Rattle.vx_pool.specs.declared.pool.Entry.{Entry}
use Rattle.vx_pool.specs.declared.pool.Entry.TheVariants as entry
use Rattle.vx_pool.specs.declared.pool.Pool.{Pool}
use Rattle.vx_pool.specs.ReadingAgain.{number_again, bytes_again, read_as, Reads, number_reads, reads_then}
use Rattle.vx_pool.specs.Place.{Place, place}
use Rattle.vx_pool.specs.Reading.{Read, ◌>>=◌, with_front, check, number, Gives, IsReadAs}
use Rattle.vx_pool.specs.Text.{is_text}
use Rattle.vx_pool.specs.Pool.{text_at, one_at, two_at, wide_at, body_at, entry_at, is_wide, entries_at, pool_at}
use Rattle.vx_pool.specs.Spelling.{entry_bytes, pool_of, pool_bytes, Fits, ArePlaced, IsPool}

-- ---- entries

one_again : (n : ℕ) (make : ℕ → Entry) (x at : ℕ) (rest : List ℕ) → x < 256 ^ n → one_at n make (place at (big_bytes n x ++ rest)) ≡ Ok (make x, place (at + n) rest)
unfolding one_at
one_again n make x at rest lt = rw (number_again n x at rest lt) refl

two_again : (n : ℕ) (make : ℕ → ℕ → Entry) (x y at : ℕ) (rest : List ℕ) → x < 256 ^ n → y < 256 ^ 2 → two_at n make (place at ((big_bytes n x ++ big_bytes 2 y) ++ rest)) ≡ Ok (make x y, place (at + n + 2) rest)
unfolding two_at
two_again n make x y at rest a b =
    ap (λ (t : List ℕ). two_at n make (place at t)) (append_assoc (big_bytes n x) (big_bytes 2 y) rest)
    ∙ rw (number_again n x at (big_bytes 2 y ++ rest) a, number_again 2 y (at + n) rest b) refl

text_again : (tag at : ℕ) (text rest : List ℕ) → is_text text ≡ true → length text < 256 ^ 2 → text_at tag (place at ((big_bytes 2 (length text) ++ text) ++ rest)) ≡ Ok (entry.Utf8 text, place (at + 2 + length text) rest)
unfolding text_at
text_again tag at text rest good lt =
    ap (λ (t : List ℕ). text_at tag (place at t)) (append_assoc (big_bytes 2 (length text)) text rest)
    ∙ rw (number_again 2 (length text) at (text ++ rest) lt, bytes_again text rest (at + 2), good) refl

-- behind a tag stands what its shape says
tagged : (behind tag at : ℕ) (text rest : List ℕ) → tag < 256 ^ 1 → entry_at behind (place at ((big_bytes 1 tag ++ text) ++ rest)) ≡ body_at behind at tag (place (at + 1) (text ++ rest))
unfolding entry_at
tagged behind tag at text rest lt =
    ap (λ (t : List ℕ). entry_at behind (place at t)) (append_assoc (big_bytes 1 tag) text rest) ∙ rw (number_again 1 tag at (text ++ rest) lt) refl

-- an entry that isn't wide, and one that is
pub entry_again : (e : Entry) (behind at : ℕ) (rest : List ℕ) → Fits e → (is_wide e ≡ true → 1 ≤ behind)
    → (place' : ℕ) × (entry_at behind (place at (entry_bytes e ++ rest)) ≡ Ok (e, place place' rest)) × (place' ≡ at + length (entry_bytes e))
unfolding body_at wide_at
entry_again entry.Unusable behind at rest fits room = elim fits [ ]
entry_again (entry.Utf8 text) behind at rest fits room = (at + 1 + 2 + length text, tagged behind 1 at (big_bytes 2 (length text) ++ text) rest (omega arith) ∙ text_again at (at + 1) text rest fits.0 fits.1, omega arith)
entry_again (entry.Integer z) behind at rest fits room =
    let back : cast_signed w32 (cast_unsigned w32 z) ≡ z = to_z-of_z w32 z fits in (
      at + 1 + 4,
      tagged behind 3 at (big_bytes 4 (cast_unsigned w32 z)) rest (omega arith)
          ∙ one_again 4 (λ n. entry.Integer (cast_signed w32 n)) (cast_unsigned w32 z) (at + 1) rest (omega (arith, ints, fits))
          ∙ ap (λ y. Ok (entry.Integer y, place (at + 1 + 4) rest)) back,
      omega arith,
    )
entry_again (entry.Float n) behind at rest fits room = (at + 1 + 4, tagged behind 4 at (big_bytes 4 n) rest (omega arith) ∙ one_again 4 entry.Float n (at + 1) rest fits, omega arith)
entry_again (entry.Long z) behind at rest fits room =
    let enough : nat_le 1 behind ≡ true = le-leb 1 behind (room refl) in
    let back : cast_signed w64 (cast_unsigned w64 z) ≡ z = to_z-of_z w64 z fits in (
      at + 1 + 8,
      tagged behind 5 at (big_bytes 8 (cast_unsigned w64 z)) rest (omega arith)
          ∙ rw enough (one_again 8 (λ n. entry.Long (cast_signed w64 n)) (cast_unsigned w64 z) (at + 1) rest (omega (arith, ints, fits)))
          ∙ ap (λ y. Ok (entry.Long y, place (at + 1 + 8) rest)) back,
      omega arith,
    )
entry_again (entry.Double n) behind at rest fits room =
    let enough : nat_le 1 behind ≡ true = le-leb 1 behind (room refl) in
    (at + 1 + 8, tagged behind 6 at (big_bytes 8 n) rest (omega arith) ∙ rw enough (one_again 8 entry.Double n (at + 1) rest fits), omega arith)
entry_again (entry.Class i) behind at rest fits room = (at + 1 + 2, tagged behind 7 at (big_bytes 2 i) rest (omega arith) ∙ one_again 2 entry.Class i (at + 1) rest fits, omega arith)
entry_again (entry.Text i) behind at rest fits room = (at + 1 + 2, tagged behind 8 at (big_bytes 2 i) rest (omega arith) ∙ one_again 2 entry.Text i (at + 1) rest fits, omega arith)
entry_again (entry.Field i j) behind at rest fits room = (at + 1 + 2 + 2, tagged behind 9 at (big_bytes 2 i ++ big_bytes 2 j) rest (omega arith) ∙ two_again 2 entry.Field i j (at + 1) rest fits.0 fits.1, omega arith)
entry_again (entry.Method i j) behind at rest fits room = (at + 1 + 2 + 2, tagged behind 10 at (big_bytes 2 i ++ big_bytes 2 j) rest (omega arith) ∙ two_again 2 entry.Method i j (at + 1) rest fits.0 fits.1, omega arith)
entry_again (entry.InterfaceMethod i j) behind at rest fits room = (at + 1 + 2 + 2, tagged behind 11 at (big_bytes 2 i ++ big_bytes 2 j) rest (omega arith) ∙ two_again 2 entry.InterfaceMethod i j (at + 1) rest fits.0 fits.1, omega arith)
entry_again (entry.NameAndType i j) behind at rest fits room = (at + 1 + 2 + 2, tagged behind 12 at (big_bytes 2 i ++ big_bytes 2 j) rest (omega arith) ∙ two_again 2 entry.NameAndType i j (at + 1) rest fits.0 fits.1, omega arith)
entry_again (entry.MethodHandle k i) behind at rest fits room = (at + 1 + 1 + 2, tagged behind 15 at (big_bytes 1 k ++ big_bytes 2 i) rest (omega arith) ∙ two_again 1 entry.MethodHandle k i (at + 1) rest fits.0 fits.1, omega arith)
entry_again (entry.MethodType i) behind at rest fits room = (at + 1 + 2, tagged behind 16 at (big_bytes 2 i) rest (omega arith) ∙ one_again 2 entry.MethodType i (at + 1) rest fits, omega arith)
entry_again (entry.InvokeDynamic i j) behind at rest fits room = (at + 1 + 2 + 2, tagged behind 18 at (big_bytes 2 i ++ big_bytes 2 j) rest (omega arith) ∙ two_again 2 entry.InvokeDynamic i j (at + 1) rest fits.0 fits.1, omega arith)

-- ---- the pool

room_behind : (es : List Entry) (e : Entry) → ArePlaced es (is_wide e) → is_wide e ≡ true → 1 ≤ length es
room_behind [] e placed wide = absurd cc
room_behind (f ∷ es) e placed wide = omega arith

entry_reads : (e : Entry) (behind : ℕ) → Fits e → (is_wide e ≡ true → 1 ≤ behind) → Reads (entry_at behind) (entry_bytes e) e
entry_reads e behind fits room at rest =
    let again = entry_again e behind at rest fits room in
    again.1 ∙ ap (λ (k : ℕ). Ok (e, place k rest)) again.2

entries_again : (es : List Entry) (second : Bool) → ArePlaced es second → Reads (entries_at (length es) second) (flat_map entry_bytes es) es
unfolding entries_at
entries_again [] second placed at rest = ap (λ (k : ℕ). Ok ([], place k rest)) (omega arith)
entries_again (e ∷ es) true placed at rest =
    let text_is : flat_map entry_bytes (e ∷ es) ≡ flat_map entry_bytes es = flat_map-cons entry_bytes e es ∙ ap (λ (f : Entry). entry_bytes f ++ flat_map entry_bytes es) placed.0 in
    ap (λ (t : List ℕ). entries_at (length (e ∷ es)) true (place at (t ++ rest))) text_is
    ∙ rw (entries_again es false placed.1 at rest) (ap (λ (f : Entry). Ok (f ∷ es, place (at + length (flat_map entry_bytes es)) rest)) (sym placed.0))
    ∙ ap (λ (t : List ℕ). Ok (e ∷ es, place (at + length t) rest)) (sym text_is)
entries_again (e ∷ es) false placed at rest =
    let text_is = flat_map-cons entry_bytes e es in
    ap (λ (t : List ℕ). entries_at (length (e ∷ es)) false (place at (t ++ rest))) text_is
    ∙ reads_then (entry_at (length es)) (λ first. with_front (first.0 ∷ []) (entries_at (length es) (is_wide first.0) first.1)) (entry_bytes e) (flat_map entry_bytes es) e (e ∷ es) at rest
    (entry_reads e (length es) placed.0 (room_behind es e placed.1))
    (rw (entries_again es (is_wide e) placed.1 (at + length (entry_bytes e)) rest) refl)
    ∙ ap (λ (t : List ℕ). Ok (e ∷ es, place (at + length t) rest)) (sym text_is)

pub pool_reads : (p : Pool) → IsPool p → Reads pool_at (pool_bytes p) p
unfolding pool_at
pool_reads p is at rest =
    let es = is.entries in
    let n = length (entry.Unusable ∷ es) in
    let few : n < 256 ^ 2 = subst (λ (xs : List Entry). length xs < 256 ^ 2) is.are is.few in
    let text_is : pool_bytes p ≡ big_bytes 2 n ++ flat_map entry_bytes es =
    ap (λ (xs : List Entry). big_bytes 2 (length xs) ++ flat_map entry_bytes xs) is.are ∙ ap (λ (t : List ℕ). big_bytes 2 n ++ t) (flat_map-cons entry_bytes entry.Unusable es) in
    let one_less : n - 1 ≡ length es = omega arith in
    let some : nat_le 1 n ≡ true = le-leb 1 n (omega arith) in
    let made : ℕ × Place → Read Pool = λ count. with_front (entry.Unusable ∷ []) (entries_at (count.0 - 1) false count.1) >>= λ xs. Ok (pool_of xs.0, xs.1) in
    ap (λ (t : List ℕ). pool_at (place at (t ++ rest))) text_is
    ∙ reads_then (number 2) (λ count. check (nat_le 1 count.0) at 5 (made count)) (big_bytes 2 n) (flat_map entry_bytes es) n p at rest (number_reads 2 n few)
    (rw (some, one_less, entries_again es false is.placed (at + length (big_bytes 2 n)) rest) (ap (λ (xs : List Entry). Ok (pool_of xs, place (at + length (big_bytes 2 n) + length (flat_map entry_bytes es)) rest)) (sym is.are)))
    ∙ ap (λ (t : List ℕ). Ok (p, place (at + length t) rest)) (sym text_is)

pub pool_only : (s new : Place) (r : Result Pool ClassFault) → Gives r new (pool_at s) → (p : Pool) (rest : List ℕ) → IsPool p → s.rest ≡ pool_bytes p ++ rest → IsReadAs p r
pool_only s new r given p rest is spelled =
    read_as p (place (s.at + length (pool_bytes p)) rest) new r (pool_at s) given (ap (λ (t : List ℕ). pool_at (place s.at t)) spelled ∙ pool_reads p is s.at rest)
