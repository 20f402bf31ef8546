-- The bytes that are read are those of a pool.
use Rattle.std.specs.Prelude.{◌≡◌, ℕ, zero, suc, ◌<◌, ◌≤◌, ◌-◌, ◌^◌, List, [], ◌∷◌, ◌++◌, length, Bool, true, false, Option, Some, None, Ok, Err, nat_le, ◌==◌, refl}
use Rattle.std.proofs.Common.{sym, ap, subst, arith, cond}
use Rattle.std.proofs.lemmas.Int.{of_z-to_z}
use Rattle.std.proofs.Math.Facts.{sfits_to_z, Fits-of_lt}
use Rattle.std.proofs.lemmas.Bool.{eqb-true, leb-true}
use Rattle.std.proofs.lemmas.Option.{same_Some}
use Rattle.std.proofs.lemmas.List.Concat.{flat_map-cons}
use Rattle.std.specs.List.{flat_map}
use Rattle.std.specs.Int.{w32, w64, cast_signed}
use Rattle.byteorder.specs.Endian.{big_bytes}
use Rattle.vx_pool.specs.declared.pool.Entry.{Entry}
use Rattle.vx_pool.specs.declared.pool.Entry.TheVariants as entry
use Rattle.vx_pool.specs.declared.pool.Pool.{Pool}
use Rattle.vx_pool.specs.Place.{Place}
use Rattle.vx_pool.specs.Reading.{Read, ◌>>=◌, with_front, check, number, bytes}
use Rattle.vx_pool.specs.Text.{is_text}
use Rattle.vx_pool.specs.Pool.{Shape, Bytes, One, Wide, Two, shapes, shape_in, text_at, one_at, two_at, wide_at, shaped_at, body_at, entry_at, is_wide, entries_at, pool_at}
use Rattle.vx_pool.specs.Place.{IsBytes}
use Rattle.vx_pool.specs.Spelling.{entry_bytes, pool_of, pool_bytes, Fits, ArePlaced, IsPool}
use Rattle.vx_pool.specs.Took.{bind_ok, check_ok, ok_is, Took, Took-then, IsWidth, width1, width2, width4, width8, number_took, bytes_took}

-- an entry that is made behind a tag: it is spelled so, and a file can hold it
abbrev pub IsMade : ℕ → List ℕ → Entry → Type 0
IsMade tag text e = (entry_bytes e ≡ big_bytes 1 tag ++ text) × Fits e

-- one that takes one index
abbrev pub IsNarrow : ℕ → List ℕ → Entry → Type 0
IsNarrow tag text e = IsMade tag text e × (is_wide e ≡ false)

-- the entries of a shape are spelled by their tag and their numbers
abbrev pub IsSpelled : ℕ → Shape → Type 0
IsSpelled tag Bytes = (text : List ℕ) → is_text text ≡ true → length text < 256 ^ 2 → IsNarrow tag (big_bytes 2 (length text) ++ text) (entry.Utf8 text)
IsSpelled tag (One n make) = IsWidth n × ((x : ℕ) → x < 256 ^ n → IsNarrow tag (big_bytes n x) (make x))
IsSpelled tag (Wide make) = (x : ℕ) → x < 256 ^ 8 → IsMade tag (big_bytes 8 x) (make x)
IsSpelled tag (Two n make) = IsWidth n × ((x y : ℕ) → x < 256 ^ n → y < 256 ^ 2 → IsNarrow tag (big_bytes n x ++ big_bytes 2 y) (make x y))

abbrev pub AllSpelled : List (ℕ × Shape) → Type 0
AllSpelled [] = Unit {0}
AllSpelled (row ∷ rows) = IsSpelled row.0 row.1 × AllSpelled rows

text_row : IsSpelled 1 Bytes
text_row = λ text good few. ((refl, (good, few)), refl)

integer_row : IsSpelled 3 (One 4 (λ n. entry.Integer (cast_signed w32 n)))
integer_row = (width4, λ x lt. ((ap (λ (n : ℕ). big_bytes 1 3 ++ big_bytes 4 n) (of_z-to_z w32 x lt), sfits_to_z {w = w32} (Fits-of_lt lt)), refl))

long_row : IsSpelled 5 (Wide (λ n. entry.Long (cast_signed w64 n)))
long_row = λ x lt. (ap (λ (n : ℕ). big_bytes 1 5 ++ big_bytes 8 n) (of_z-to_z w64 x lt), sfits_to_z {w = w64} (Fits-of_lt lt))

-- the rule of the table, row by row
all_spelled : AllSpelled shapes
all_spelled = (
  text_row,
  (
    integer_row,
    (
      (width4, λ x lt. ((refl, lt), refl)),
      (
        long_row,
        (
          λ x lt. (refl, lt),
          (
            (width2, λ x lt. ((refl, lt), refl)),
            (
              (width2, λ x lt. ((refl, lt), refl)),
              (
                (width2, λ x y a b. ((refl, (a, b)), refl)),
                (
                  (width2, λ x y a b. ((refl, (a, b)), refl)),
                  (
                    (width2, λ x y a b. ((refl, (a, b)), refl)),
                    (
                      (width2, λ x y a b. ((refl, (a, b)), refl)),
                      ((width1, λ x y a b. ((refl, (a, b)), refl)), ((width2, λ x lt. ((refl, lt), refl)), ((width2, λ x y a b. ((refl, (a, b)), refl)), tt))),
                    ),
                  ),
                ),
              ),
            ),
          ),
        ),
      ),
    ),
  ),
)

-- the row that a search finds
spelled_in : (rows : List (ℕ × Shape)) (tag : ℕ) (shape : Shape) → AllSpelled rows → shape_in rows tag ≡ Some shape → IsSpelled tag shape
spelled_in [] tag shape all e = absurd cc
spelled_in (row ∷ rows) tag shape all e = by_test (λ f. spelled_in rows tag shape all.1 f) (tag == row.0) refl e
  where
    by_test : (shape_in rows tag ≡ Some shape → IsSpelled tag shape) → (b : Bool) → (tag == row.0) ≡ b → cond b (Some row.1) (shape_in rows tag) ≡ Some shape → IsSpelled tag shape
    by_test others true t e =
        let same : row.0 ≡ tag = sym (eqb-true tag row.0 t) in
        subst (λ (k : ℕ). IsSpelled k shape) same (subst (IsSpelled row.0) (same_Some row.1 shape e) all.0)
    by_test others false t e = others e

-- ---- entries

text_took : (tag : ℕ) (s t : Place) (x : Entry) → IsBytes s.rest → text_at tag s ≡ Ok (x, t) → (text : List ℕ) × (x ≡ entry.Utf8 text) × Took s (big_bytes 2 (length text) ++ text) t × (is_text text ≡ true) × (length text < 256 ^ 2)
unfolding text_at
text_took tag s t x fits e =
    let len = bind_ok (number 2 s) (λ len. bytes len.0 len.1 >>= λ text. check (is_text text.0) tag 7 (Ok (entry.Utf8 text.0, text.1))) (x, t) e in
    let text = bind_ok (bytes len.0.0 len.0.1) (λ text. check (is_text text.0) tag 7 (Ok (entry.Utf8 text.0, text.1))) (x, t) len.2 in
    let good = check_ok (is_text text.0.0) tag 7 (Ok (entry.Utf8 text.0.0, text.0.1)) (x, t) text.2 in
    let one = number_took 2 s len.0.1 len.0.0 width2 fits len.1 in
    let two = bytes_took len.0.0 len.0.1 text.0.1 text.0.0 one.0.rest_fits text.1 in
    let both = Took-then s len.0.1 text.0.1 (big_bytes 2 len.0.0) text.0.0 one.0 two.0 in
    let made : Entry × Place = (entry.Utf8 text.0.0, text.0.1) in
    let is = ok_is made (x, t) good.1 in (
      text.0.0,
      sym (ap (λ (y : Entry × Place). y.0) is),
      subst (λ (u : Place). Took s (big_bytes 2 (length text.0.0) ++ text.0.0) u) (ap (λ (y : Entry × Place). y.1) is)
          (subst (λ (k : ℕ). Took s (big_bytes 2 k ++ text.0.0) text.0.1) (sym two.1) both),
      good.0,
      subst (λ (k : ℕ). k < 256 ^ 2) (sym two.1) one.1,
    )

one_took : (n : ℕ) (make : ℕ → Entry) (s t : Place) (x : Entry) → IsWidth n → IsBytes s.rest → one_at n make s ≡ Ok (x, t) → (m : ℕ) × (m < 256 ^ n) × (x ≡ make m) × Took s (big_bytes n m) t
unfolding one_at
one_took n make s t x width fits e =
    let m = bind_ok (number n s) (λ m. Ok (make m.0, m.1)) (x, t) e in
    let one = number_took n s m.0.1 m.0.0 width fits m.1 in
    let made : Entry × Place = (make m.0.0, m.0.1) in
    let is = ok_is made (x, t) m.2 in
    (m.0.0, one.1, sym (ap (λ (y : Entry × Place). y.0) is), subst (λ (u : Place). Took s (big_bytes n m.0.0) u) (ap (λ (y : Entry × Place). y.1) is) one.0)

two_took : (n : ℕ) (make : ℕ → ℕ → Entry) (s t : Place) (x : Entry) → IsWidth n → IsBytes s.rest → two_at n make s ≡ Ok (x, t) → (a : ℕ) × (b : ℕ) × (x ≡ make a b) × Took s (big_bytes n a ++ big_bytes 2 b) t × (a < 256 ^ n) × (b < 256 ^ 2)
unfolding two_at
two_took n make s t x width fits e =
    let a = bind_ok (number n s) (λ a. number 2 a.1 >>= λ b. Ok (make a.0 b.0, b.1)) (x, t) e in
    let b = bind_ok (number 2 a.0.1) (λ b. Ok (make a.0.0 b.0, b.1)) (x, t) a.2 in
    let one = number_took n s a.0.1 a.0.0 width fits a.1 in
    let two = number_took 2 a.0.1 b.0.1 b.0.0 width2 one.0.rest_fits b.1 in
    let made : Entry × Place = (make a.0.0 b.0.0, b.0.1) in
    let is = ok_is made (x, t) b.2 in (
      a.0.0,
      b.0.0,
      sym (ap (λ (y : Entry × Place). y.0) is),
      subst (λ (u : Place). Took s (big_bytes n a.0.0 ++ big_bytes 2 b.0.0) u) (ap (λ (y : Entry × Place). y.1) is) (Took-then s a.0.1 b.0.1 (big_bytes n a.0.0) (big_bytes 2 b.0.0) one.0 two.0),
      one.1,
      two.1,
    )

wide_took : (behind at : ℕ) (make : ℕ → Entry) (s t : Place) (x : Entry) → IsBytes s.rest → wide_at behind at make s ≡ Ok (x, t) → (m : ℕ) × (m < 256 ^ 8) × (x ≡ make m) × Took s (big_bytes 8 m) t × (1 ≤ behind)
unfolding wide_at
wide_took behind at make s t x fits e =
    let some = check_ok (nat_le 1 behind) at 5 (one_at 8 make s) (x, t) e in
    let one = one_took 8 make s t x width8 fits some.1 in
    (one.0, one.1, one.2, one.3, leb-true 1 behind some.0)

-- what stands behind a tag makes, with the tag, the bytes of the entry; a wide one has an index behind its own
abbrev Rests : ℕ → ℕ → Place → Entry → Place → Type 0
Rests tag behind s x t = (text : List ℕ) × IsMade tag text x × (is_wide x ≡ true → 1 ≤ behind) × Took s text t

narrow : (e : Entry) (behind : ℕ) → is_wide e ≡ false → is_wide e ≡ true → 1 ≤ behind
narrow e behind is_not is = absurd (cc)

rests : (tag behind : ℕ) (s t : Place) (x y : Entry) (text : List ℕ) → x ≡ y → IsMade tag text y → (is_wide y ≡ true → 1 ≤ behind) → Took s text t → Rests tag behind s x t
rests tag behind s t x y text is made room took = subst (λ (e : Entry). Rests tag behind s e t) (sym is) (text, made, room, took)

shaped_took : (shape : Option Shape) (tag behind at : ℕ) (s t : Place) (x : Entry) → ((sh : Shape) → shape ≡ Some sh → IsSpelled tag sh) → IsBytes s.rest → shaped_at behind at shape s ≡ Ok (x, t) → Rests tag behind s x t
shaped_took None tag behind at s t x spelled fits e = absurd cc
shaped_took (Some Bytes) tag behind at s t x spelled fits e =
    let p = text_took at s t x fits e in
    let made = spelled Bytes refl p.0 p.3 p.4 in
    rests tag behind s t x (entry.Utf8 p.0) (big_bytes 2 (length p.0) ++ p.0) p.1 made.0 (narrow (entry.Utf8 p.0) behind made.1) p.2
shaped_took (Some (One n make)) tag behind at s t x spelled fits e =
    let rule = spelled (One n make) refl in
    let p = one_took n make s t x rule.0 fits e in
    let made = rule.1 p.0 p.1 in
    rests tag behind s t x (make p.0) (big_bytes n p.0) p.2 made.0 (narrow (make p.0) behind made.1) p.3
shaped_took (Some (Wide make)) tag behind at s t x spelled fits e =
    let p = wide_took behind at make s t x fits e in
    rests tag behind s t x (make p.0) (big_bytes 8 p.0) p.2 (spelled (Wide make) refl p.0 p.1) (λ wide. p.4) p.3
shaped_took (Some (Two n make)) tag behind at s t x spelled fits e =
    let rule = spelled (Two n make) refl in
    let p = two_took n make s t x rule.0 fits e in
    let made = rule.1 p.0 p.1 p.4 p.5 in
    rests tag behind s t x (make p.0 p.1) (big_bytes n p.0 ++ big_bytes 2 p.1) p.2 made.0 (narrow (make p.0 p.1) behind made.1) p.3

entry_took : (behind : ℕ) (s t : Place) (x : Entry) → IsBytes s.rest → entry_at behind s ≡ Ok (x, t) → Took s (entry_bytes x) t × Fits x × (is_wide x ≡ true → 1 ≤ behind)
unfolding entry_at body_at
entry_took behind s t x fits e =
    let kind = bind_ok (number 1 s) (λ kind. body_at behind s.at kind.0 kind.1) (x, t) e in
    let one = number_took 1 s kind.0.1 kind.0.0 width1 fits kind.1 in
    let rest = shaped_took (shape_in shapes kind.0.0) kind.0.0 behind s.at kind.0.1 t x (λ sh f. spelled_in shapes kind.0.0 sh all_spelled f) one.0.rest_fits kind.2 in
    (subst (λ (b : List ℕ). Took s b t) (sym rest.1.0) (Took-then s kind.0.1 t (big_bytes 1 kind.0.0) rest.0 one.0 rest.3), rest.1.1, rest.2)

-- ---- all entries

front_ok : (front : List Entry) (r : Read (List Entry)) (y : List Entry × Place) → with_front front r ≡ Ok y → (x : List Entry) × (r ≡ Ok (x, y.1)) × (y.0 ≡ front ++ x)
front_ok front (Ok x) y e = (x.0, ap (λ (t : Place). Ok (x.0, t)) (ap (λ (z : List Entry × Place). z.1) (ok_is (front ++ x.0, x.1) y e)), sym (ap (λ (z : List Entry × Place). z.0) (ok_is (front ++ x.0, x.1) y e)))
front_ok front (Err f) y e = absurd cc

-- no entry is left open as the first half of a wide one
ends_narrow : (wide : Bool) (n : ℕ) → (wide ≡ true → 1 ≤ n) → n ≡ 0 → wide ≡ false
ends_narrow true n room none = absurd (omega (arith, room refl, none))
ends_narrow false n room none = refl

entries_took : (n : ℕ) (second : Bool) (s t : Place) (es : List Entry) → (second ≡ true → 1 ≤ n) → IsBytes s.rest → entries_at n second s ≡ Ok (es, t)
    → Took s (flat_map entry_bytes es) t × (length es ≡ n) × ArePlaced es second
unfolding entries_at
entries_took zero second s t es room fits e =
    let is = ok_is ([], s) (es, t) e in
    subst (λ (y : List Entry × Place). Took s (flat_map entry_bytes y.0) y.1 × (length y.0 ≡ 0) × ArePlaced y.0 second) is
    (record { parts = refl; at = omega arith; rest_fits = fits }, refl, ends_narrow second 0 room refl)
entries_took (suc n) true s t es room fits e =
    let f = front_ok (entry.Unusable ∷ []) (entries_at n false s) (es, t) e in
    let others = entries_took n false s t f.0 (λ h. absurd cc) fits f.1 in
    subst (λ (y : List Entry). Took s (flat_map entry_bytes y) t × (length y ≡ suc n) × ArePlaced y true) (sym f.2)
    (rw flat_map-cons others.0, ap suc others.1, (refl, others.2))
entries_took (suc n) false s t es room fits e =
    let first = bind_ok (entry_at n s) (λ first. with_front (first.0 ∷ []) (entries_at n (is_wide first.0) first.1)) (es, t) e in
    let f = front_ok (first.0.0 ∷ []) (entries_at n (is_wide first.0.0) first.0.1) (es, t) first.2 in
    let one = entry_took n s first.0.1 first.0.0 fits first.1 in
    let others = entries_took n (is_wide first.0.0) first.0.1 t f.0 one.2 one.0.rest_fits f.1 in
    subst (λ (y : List Entry). Took s (flat_map entry_bytes y) t × (length y ≡ suc n) × ArePlaced y false) (sym f.2)
    (rw flat_map-cons (Took-then s first.0.1 t (entry_bytes first.0.0) (flat_map entry_bytes f.0) one.0 others.0), ap suc others.1, (one.1, others.2))

-- The bytes that were read are those of a pool, each of them.
pub pool_took : (s t : Place) (p : Pool) → IsBytes s.rest → pool_at s ≡ Ok (p, t) → Took s (pool_bytes p) t × IsPool p
unfolding pool_at
pool_took s t p fits e =
    let made = λ (count : ℕ × Place). with_front (entry.Unusable ∷ []) (entries_at (count.0 - 1) false count.1) >>= λ es. Ok (pool_of es.0, es.1) in
    let count = bind_ok (number 2 s) (λ count. check (nat_le 1 count.0) s.at 5 (made count)) (p, t) e in
    let good = check_ok (nat_le 1 count.0.0) s.at 5 (made count.0) (p, t) count.2 in
    let one = number_took 2 s count.0.1 count.0.0 width2 fits count.1 in
    let es = bind_ok (with_front (entry.Unusable ∷ []) (entries_at (count.0.0 - 1) false count.0.1)) (λ es. Ok (pool_of es.0, es.1)) (p, t) good.1 in
    let f = front_ok (entry.Unusable ∷ []) (entries_at (count.0.0 - 1) false count.0.1) es.0 es.1 in
    let others = entries_took (count.0.0 - 1) false count.0.1 es.0.1 f.0 (λ h. absurd cc) one.0.rest_fits f.1 in
    let is = ok_is (pool_of es.0.0, es.0.1) (p, t) es.2 in
    let le : 1 ≤ count.0.0 = leb-true 1 count.0.0 good.0 in
    let n : count.0.0 ≡ length (entry.Unusable ∷ f.0) = omega (arith, le, others.1) in
    let all : Took s (big_bytes 2 count.0.0 ++ flat_map entry_bytes (entry.Unusable ∷ f.0)) es.0.1 = Took-then s count.0.1 es.0.1 (big_bytes 2 count.0.0) (flat_map entry_bytes (entry.Unusable ∷ f.0)) one.0 (rw flat_map-cons others.0) in
    let whole : Took s (pool_bytes (pool_of (entry.Unusable ∷ f.0))) es.0.1 = subst (λ (k : ℕ). Took s (big_bytes 2 k ++ flat_map entry_bytes (entry.Unusable ∷ f.0)) es.0.1) n all in
    let is_pool : IsPool (pool_of (entry.Unusable ∷ f.0)) = record { entries = f.0; are = refl; placed = others.2; few = subst (λ (k : ℕ). k < 256 ^ 2) n one.1 } in
    subst (λ (y : Pool × Place). Took s (pool_bytes y.0) y.1 × IsPool y.0) is (subst (λ (y : List Entry). Took s (pool_bytes (pool_of y)) es.0.1 × IsPool (pool_of y)) (sym f.2) (whole, is_pool))
