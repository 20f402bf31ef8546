-- What an inference knows once a position has other types, or its store has more.
use Rattle.std.proofs.Common.{List, None, Option, Some, [], ap, arith, get_or, length, refl, suc, sym, true, zero, ℕ, ◌<◌, ◌∙◌, ◌∷◌, ◌≡◌}
use Rattle.std.specs.BTreeSet.{Updates}
use Rattle.std.specs.Ordering.{nat_cmp}
use Rattle.std.specs.Prelude.{option_map, slice_set}
use Rattle.vx_list.specs.Places.{item_or}
use Rattle.vx_verify.proofs.Marks.{mark_elsewhere, mark_here}
use Rattle.vx_verify.proofs.Putting.{IsPutAt}
use Rattle.vx_verify.proofs.StoreLaws.{state_kept}
use Rattle.vx_verify.specs.Inference.{known_of, marked_of, state_of}
use Rattle.vx_verify.specs.States.{IsLater, IsStore, Stands, state_at}
use Rattle.vx_verify.specs.declared.inference.Inference.{Inference}
use Rattle.vx_verify.specs.declared.inference.Subject.{Subject}
use Rattle.vx_verify.specs.declared.rows.State.{State}

-- ---- one place of a list

pub item_set_here : {A : Type 0} (xs : List A) (i : ℕ) (v d : A) → i < length xs → item_or (slice_set xs i v) i d ≡ v
item_set_here [] i v d l = absurd (omega (arith, l))
item_set_here (x ∷ xs) zero v d l = refl
item_set_here (x ∷ xs) (suc i) v d l = item_set_here xs i v d (omega (arith, l))

pub item_set_elsewhere : {A : Type 0} (xs : List A) (i q : ℕ) (v d : A) → ¬ (q ≡ i) → item_or (slice_set xs i v) q d ≡ item_or xs q d
item_set_elsewhere [] i q v d other = refl
item_set_elsewhere (x ∷ xs) zero zero v d other = absurd (other refl)
item_set_elsewhere (x ∷ xs) zero (suc q) v d other = refl
item_set_elsewhere (x ∷ xs) (suc i) zero v d other = refl
item_set_elsewhere (x ∷ xs) (suc i) (suc q) v d other = item_set_elsewhere xs i q v d (λ e. other (ap suc e))

-- what is read at a place
pub item_read : {A : Type 0} (xs : List A) (i : ℕ) (x d : A) → i < length xs → x ≡ get_or xs i x → x ≡ item_or xs i d
item_read [] i x d l e = absurd (omega (arith, l))
item_read (y ∷ xs) zero x d l e = e
item_read (y ∷ xs) (suc i) x d l e = item_read xs i x d (omega (arith, l)) e

pub get_read : {A : Type 0} (xs : List A) (i : ℕ) (x d : A) → i < length xs → x ≡ get_or xs i x → get_or xs i d ≡ x
get_read [] i x d l e = absurd (omega (arith, l))
get_read (y ∷ xs) zero x d l e = sym e
get_read (y ∷ xs) (suc i) x d l e = get_read xs i x d (omega (arith, l)) e

-- ---- states in a later store

pub known_kept : (s : Subject) (i j : Inference) → IsStore i.store → IsLater i.store j.store → (o : Option State) → ((state : State) → o ≡ Some state → Stands i.store s.frame state)
    → option_map (state_at j.store s.frame) o ≡ option_map (state_at i.store s.frame) o
known_kept s i j is later None stands = refl
known_kept s i j is later (Some state) stands = ap Some (state_kept i.store j.store s.frame state is later (stands state refl))

-- ---- a position is put

pub known_put : (s : Subject) (i j : Inference) (position : ℕ) (made : State) → j.states.items ≡ slice_set i.states.items position (Some made)
    → Updates nat_cmp i.marked j.marked position true → position < length i.states.items → IsStore i.store → IsLater i.store j.store
    → ((q : ℕ) (state : State) → state_of i q ≡ Some state → Stands i.store s.frame state)
    → IsPutAt (known_of s i) (known_of s j) (marked_of i) (marked_of j) position (state_at j.store s.frame made)
known_put s i j position made states marks within is later stands = record {
  here = ap (λ (xs : List (Option State)). option_map (state_at j.store s.frame) (item_or xs position None)) states
      ∙ ap (option_map (state_at j.store s.frame)) (item_set_here i.states.items position (Some made) None within);
  elsewhere = λ q other.
      ap (λ (xs : List (Option State)). option_map (state_at j.store s.frame) (item_or xs q None)) states
      ∙ ap (option_map (state_at j.store s.frame)) (item_set_elsewhere i.states.items position q (Some made) None other)
      ∙ known_kept s i j is later (state_of i q) (stands q);
  mark = mark_here i.marked j.marked position true marks;
  marks = λ q other. mark_elsewhere i.marked j.marked position q true marks other;
}
