-- Reading entries one after the other, as a loop does.
use Rattle.std.proofs.Common.{◌≡◌, ℕ, suc, List, [], ◌∷◌, ◌++◌, Ok, Err, Bool, true, false, refl, sym, ap, subst, ◌∙◌, append_assoc}
use Rattle.std.proofs.lemmas.List.{append-nil}
use Rattle.vx_pool.specs.declared.fault.ClassFault.{ClassFault}
use Rattle.vx_pool.specs.declared.fault.ClassFault.TheVariants as fault
use Rattle.vx_pool.specs.declared.pool.Entry.{Entry}
use Rattle.vx_pool.specs.declared.pool.Entry.TheVariants.{Unusable}
use Rattle.vx_pool.specs.Place.{Place}
use Rattle.vx_pool.specs.Reading.{Read, with_front, Fails}
use Rattle.vx_pool.specs.Pool.{entry_at, is_wide, entries_at}

-- what was read before the front of what is read
pub with_front-with_front : {A : Type 0} (a b : List A) (read : Read (List A)) → with_front a (with_front b read) ≡ with_front (a ++ b) read
with_front-with_front a b (Ok x) = ap (λ v. Ok (v, x.1)) (simp append_assoc)
with_front-with_front a b (Err e) = refl

pub is_done : {A : Type 0} (front : List A) (s : Place) (total : Read (List A)) → with_front front (Ok ([], s)) ≡ total → total ≡ Ok (front, s)
is_done front s total so_far = sym so_far ∙ ap (λ v. Ok (v, s)) (append-nil front)

-- A loop over indices: the second place of a wide entry, the next entry, an entry that is refused, the end.

pub done : (front : List Entry) (left : ℕ) (second : Bool) (s : Place) (total : Read (List Entry)) → left ≡ 0 → with_front front (entries_at left second s) ≡ total → total ≡ Ok (front, s)
unfolding entries_at
done front left second s total none so_far =
    is_done front s total (subst (λ n. with_front front (entries_at n second s) ≡ total) none so_far)

pub passes : (front : List Entry) (left behind : ℕ) (second : Bool) (s : Place) (total : Read (List Entry)) → left ≡ suc behind → second ≡ true
    → with_front front (entries_at left second s) ≡ total → with_front (front ++ Unusable ∷ []) (entries_at behind false s) ≡ total
unfolding entries_at
passes front left behind second s total k t so_far =
    let one : with_front front (entries_at left second s) ≡ with_front (front ++ Unusable ∷ []) (entries_at behind false s) = rw (k, t) (with_front-with_front front (Unusable ∷ []) (entries_at behind false s)) in
    sym one ∙ so_far

pub goes_on : (front : List Entry) (left behind : ℕ) (second : Bool) (s t : Place) (e : Entry) (total : Read (List Entry)) → left ≡ suc behind → second ≡ false → entry_at behind s ≡ Ok (e, t)
    → with_front front (entries_at left second s) ≡ total → with_front (front ++ e ∷ []) (entries_at behind (is_wide e) t) ≡ total
unfolding entries_at
goes_on front left behind second s t e total k f h so_far =
    let one : with_front front (entries_at left second s) ≡ with_front (front ++ e ∷ []) (entries_at behind (is_wide e) t) = rw (k, f, h) (with_front-with_front front (e ∷ []) (entries_at behind (is_wide e) t)) in
    sym one ∙ so_far

pub ends : (e : ClassFault) (front : List Entry) (left behind : ℕ) (second : Bool) (s : Place) (total : Read (List Entry)) → left ≡ suc behind → second ≡ false → Fails e (entry_at behind s)
    → with_front front (entries_at left second s) ≡ total → Fails e total
unfolding entries_at
ends fault.NoMemory front left behind second s total k f h so_far = tt
ends (fault.Bad at reason) front left behind second s total k f h so_far =
    let one : with_front front (entries_at left second s) ≡ Err (record { at = at; reason = reason }) = rw (k, f, h) refl in
    sym so_far ∙ one
