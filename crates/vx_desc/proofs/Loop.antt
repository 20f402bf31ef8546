-- Reading types one after the other, as a loop does.
use Rattle.std.proofs.Common.{◌≡◌, ℕ, suc, ◌-◌, ◌+◌, ◌≤◌, ◌<◌, List, [], ◌∷◌, ◌++◌, Option, Some, None, slice_index, refl, sym, ap, ◌∙◌, append_assoc, arith}
use Rattle.std.proofs.lemmas.List.{append-nil}
use Rattle.std.proofs.lemmas.Bool.{ne_eqb}
use Rattle.vx_desc.specs.declared.java_type.JavaType.{JavaType}
use Rattle.vx_desc.specs.Descriptors.{◌>>=◌, type_at, types_at}

-- what was read before, and what is still read
abbrev pub with_front : List JavaType → Option (List JavaType × ℕ) → Option (List JavaType × ℕ)
with_front front read = read >>= λ x. Some (front ++ x.0, x.1)

regroup : (front : List JavaType) (t : JavaType) (read : Option (List JavaType × ℕ)) → with_front front (read >>= λ x. Some (t ∷ x.0, x.1)) ≡ with_front (front ++ t ∷ []) read
regroup front t (Some x) = ap (λ (ts : List JavaType). Some (ts, x.1)) (simp append_assoc)
regroup front t None = refl

pub goes_on : (front : List JavaType) (count i : ℕ) (bytes : List ℕ) (at : ℕ) (t : JavaType × ℕ) (total : Option (List JavaType × ℕ)) → i < count → (slice_index bytes at ≡ 41 → ⊥) → type_at bytes at ≡ Some t
    → with_front front (types_at (count - i) bytes at) ≡ total → with_front (front ++ t.0 ∷ []) (types_at (count - (i + 1)) bytes t.1) ≡ total
unfolding types_at
goes_on front count i bytes at t total lt unclosed h so_far =
    let k : count - i ≡ suc (count - (i + 1)) = omega arith in
    let one : with_front front (types_at (count - i) bytes at) ≡ with_front (front ++ t.0 ∷ []) (types_at (count - (i + 1)) bytes t.1) = rw (k, ne_eqb (slice_index bytes at) 41 unclosed, h) (regroup front t.0 (types_at (count - (i + 1)) bytes t.1)) in
    sym one ∙ so_far

pub ends : (front : List JavaType) (count i : ℕ) (bytes : List ℕ) (at : ℕ) (total : Option (List JavaType × ℕ)) → i < count → (slice_index bytes at ≡ 41 → ⊥) → type_at bytes at ≡ None
    → with_front front (types_at (count - i) bytes at) ≡ total → total ≡ None
unfolding types_at
ends front count i bytes at total lt unclosed h so_far =
    let k : count - i ≡ suc (count - (i + 1)) = omega arith in
    let one : with_front front (types_at (count - i) bytes at) ≡ None = rw (k, ne_eqb (slice_index bytes at) 41 unclosed, h) refl in
    sym so_far ∙ one

pub is_done : (front : List JavaType) (count i : ℕ) (bytes : List ℕ) (at : ℕ) (total : Option (List JavaType × ℕ)) → i < count → slice_index bytes at ≡ 41
    → with_front front (types_at (count - i) bytes at) ≡ total → total ≡ Some (front, at + 1)
unfolding types_at
is_done front count i bytes at total lt closed so_far =
    let k : count - i ≡ suc (count - (i + 1)) = omega arith in
    let one : with_front front (types_at (count - i) bytes at) ≡ Some (front, at + 1) = rw (k, closed) (ap (λ (ts : List JavaType). Some (ts, at + 1)) (append-nil front)) in
    sym so_far ∙ one

pub runs_out : (front : List JavaType) (count i : ℕ) (bytes : List ℕ) (at : ℕ) (total : Option (List JavaType × ℕ)) → count ≤ i
    → with_front front (types_at (count - i) bytes at) ≡ total → total ≡ None
unfolding types_at
runs_out front count i bytes at total le so_far =
    let k : count - i ≡ 0 = omega arith in
    let one : with_front front (types_at (count - i) bytes at) ≡ None = rw k refl in
    sym so_far ∙ one
