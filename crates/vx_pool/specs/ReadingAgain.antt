-- What is spelled so is read.
use Rattle.std.specs.Prelude.{◌≡◌, ℕ, ◌+◌, ◌<◌, ◌^◌, List, ◌++◌, length, take, drop, Bool, true, false, Result, Ok, Err, nat_le, refl}
use Rattle.std.proofs.Common.{sym, ap, subst, ◌∙◌, append_assoc, length-append, arith}
use Rattle.std.proofs.Math.Seq.{take-append_seam, drop-append_seam}
use Rattle.std.proofs.lemmas.Bool.{le-leb}
use Rattle.byteorder.specs.Endian.{big_number, big_bytes}
use Rattle.byteorder.specs.Numbers.{big_number-reads_back, length-bytes_high_first}
use Rattle.vx_pool.specs.declared.fault.ClassFault.{ClassFault}
use Rattle.vx_pool.specs.declared.fault.ClassFault.TheVariants as fault
use Rattle.vx_pool.specs.Place.{Place, place}
use Rattle.vx_pool.specs.Reading.{Fault, Read, ◌>>=◌, check, number, room, bytes, Gives, IsReadAs}
use Rattle.vx_pool.specs.Took.{ok_is}

pub number_again : (n x at : ℕ) (rest : List ℕ) → x < 256 ^ n → number n (place at (big_bytes n x ++ rest)) ≡ Ok (x, place (at + n) rest)
unfolding number
number_again n x at rest lt =
    let len : length (big_bytes n x) ≡ n = length-bytes_high_first n x in
    let fits : nat_le n (length (big_bytes n x ++ rest)) ≡ true = le-leb n (length (big_bytes n x ++ rest)) (omega (arith, len, length-append (big_bytes n x) rest)) in
    let back : big_number n (big_bytes n x ++ rest) ≡ x = big_number-reads_back n x rest lt in
    let left : drop n (big_bytes n x ++ rest) ≡ rest = subst (λ (k : ℕ). drop k (big_bytes n x ++ rest) ≡ rest) len (drop-append_seam (big_bytes n x) rest) in
    rw (fits, back, left) refl

pub bytes_again : (text rest : List ℕ) (at : ℕ) → bytes (length text) (place at (text ++ rest)) ≡ Ok (text, place (at + length text) rest)
unfolding bytes
bytes_again text rest at =
    let fits : nat_le (length text) (length (text ++ rest)) ≡ true = le-leb (length text) (length (text ++ rest)) (omega (arith, length-append text rest)) in
    let front : take (length text) (text ++ rest) ≡ text = take-append_seam text rest in
    let left : drop (length text) (text ++ rest) ≡ rest = drop-append_seam text rest in
    rw (fits, front, left) refl

-- what a function that reads returns
pub read_as : {A : Type 0} (x : A) (t new : Place) (r : Result A ClassFault) (read : Read A) → Gives r new read → read ≡ Ok (x, t) → IsReadAs x r
read_as {A = A} x t new (Ok y) read given e = ap (λ (z : A × Place). z.0) (ok_is (y, new) (x, t) (sym given ∙ e))
read_as x t new (Err fault.NoMemory) read given e = tt
read_as x t new (Err (fault.Bad at reason)) read given e = absurd cc

pub room_again : (text rest : List ℕ) (at : ℕ) → room (length text) (place at (text ++ rest)) ≡ Ok tt
unfolding room
room_again text rest at =
    let fits : nat_le (length text) (length (text ++ rest)) ≡ true = le-leb (length text) (length (text ++ rest)) (omega (arith, length-append text rest)) in
    rw fits refl

-- ---- a reader that gives a value, and stands behind its text, wherever the text stands

abbrev pub Reads : {A : Type 0} → (Place → Read A) → List ℕ → A → Type 0
Reads read text x = (at : ℕ) (rest : List ℕ) → read (place at (text ++ rest)) ≡ Ok (x, place (at + length text) rest)

pub number_reads : (n x : ℕ) → x < 256 ^ n → Reads (number n) (big_bytes n x) x
number_reads n x lt at rest = number_again n x at rest lt ∙ ap (λ (k : ℕ). Ok (x, place (at + k) rest)) (sym (length-bytes_high_first n x))

pub bytes_reads : (text : List ℕ) → Reads (bytes (length text)) text text
bytes_reads text at rest = bytes_again text rest at

-- one after the other
pub reads_then : {A B : Type 0} (read : Place → Read A) (next : A × Place → Read B) (a b : List ℕ) (x : A) (y : B) (at : ℕ) (rest : List ℕ) → Reads read a x
    → next (x, place (at + length a) (b ++ rest)) ≡ Ok (y, place (at + length a + length b) rest) → (read (place at ((a ++ b) ++ rest)) >>= next) ≡ Ok (y, place (at + length (a ++ b)) rest)
reads_then read next a b x y at rest first others =
    let behind : at + length a + length b ≡ at + length (a ++ b) = omega (arith, length-append a b) in
    ap (λ (t : List ℕ). read (place at t) >>= next) (append_assoc a b rest)
    ∙ rw (first at (b ++ rest)) (others ∙ ap (λ (k : ℕ). Ok (y, place k rest)) behind)

-- the last of several
pub reads_last : {A B : Type 0} (read : Place → Read A) (next : A × Place → Read B) (a : List ℕ) (x : A) (y : B) (at : ℕ) (rest : List ℕ) → Reads read a x
    → next (x, place (at + length a) rest) ≡ Ok (y, place (at + length a) rest) → (read (place at (a ++ rest)) >>= next) ≡ Ok (y, place (at + length a) rest)
reads_last read next a x y at rest first end = rw (first at rest) end

pub check_passes : {A : Type 0} (test : Bool) (at reason : ℕ) (next z : Result A Fault) → test ≡ true → next ≡ z → check test at reason next ≡ z
check_passes true at reason next z e h = h
check_passes false at reason next z e h = absurd cc
