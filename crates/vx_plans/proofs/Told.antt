-- What plans that read one file within a room gave, in terms of the files.
use Rattle.std.proofs.Common.{◌≡◌, ◌≤◌, ◌<◌, ◌+◌, ℕ, Bool, true, false, List, take, length, IfSome, Option, None, Some, Result, Ok, Err, inl, inr, ◌⊎◌, refl, ap, sym, ◌∙◌, arith, ltb, ltb-true, ltb-false, length-take, take_all, min}
use Rattle.vx_pool.specs.Place.{IsBytes}
use Rattle.vx_io.specs.Call.{Call, Reading}
use Rattle.vx_io.specs.Held.{Held, FilesState, contents}
use Rattle.vx_plans.specs.declared.status.Status.{Status}
use Rattle.vx_plans.specs.declared.status.Status.TheVariants.{ReadFault, TooLarge}
use Rattle.vx_plans.specs.Plan.{Plan, MayGive, unless, attempt, Outcome}
use Rattle.vx_plans.specs.Sized.{read_sized, too_large}

-- ---- what is told

pub told_map : {A : Type 0} (o : Option A) (P Q : A → Type 0) → ((x : A) → P x → Q x) → IfSome o P → IfSome o Q
told_map None P Q f h = tt
told_map (Some x) P Q f h = f x h

pub told_both : {A : Type 0} (o : Option A) (P Q R : A → Type 0) → ((x : A) → P x → Q x → R x) → IfSome o P → IfSome o Q → IfSome o R
told_both None P Q R f h k = tt
told_both (Some x) P Q R f h k = f x h k

-- ---- reasons to refuse

pub unless_cases : (held : Option Held) (before after : Call → ℕ) (reason : Option Status) (plan : Plan) (outcome : Outcome) → MayGive held before after (unless reason plan) outcome
    → ((status : Status) × (reason ≡ Some status) × (outcome ≡ Err status)) ⊎ ((reason ≡ None) × MayGive held before after plan outcome)
unless_cases held before after None plan outcome g = inr (refl, g)
unless_cases held before after (Some status) plan outcome g = inl (status, refl, g)

pub large_cases : (shown : List ℕ) (room size : ℕ) → ((too_large shown room size ≡ None) × (size ≤ room)) ⊎ ((too_large shown room size ≡ Some (TooLarge shown room)) × (room < size))
large_cases shown room size = by_test (ltb room size) refl
  where
    by_test : (b : Bool) → ltb room size ≡ b → ((too_large shown room size ≡ None) × (size ≤ room)) ⊎ ((too_large shown room size ≡ Some (TooLarge shown room)) × (room < size))
    by_test true e = inr (rw e, ltb-true room size e)
    by_test false e = inl (rw e, ltb-false room size e)

-- a file that gave no more than its room gave all
pub whole : (n : ℕ) (bytes c : List ℕ) → bytes ≡ take (n + 1) c → length bytes ≤ n → (length c ≤ n) × (bytes ≡ c)
whole n bytes c e small =
    let size : length bytes ≡ min (n + 1) (length c) = ap length e ∙ length-take (n + 1) c in
    let few : length c ≤ n = omega (arith, size, small) in
    (few, e ∙ take_all (n + 1) c (omega (arith, few)))

-- one that gave more has more
pub more : (n : ℕ) (bytes c : List ℕ) → bytes ≡ take (n + 1) c → n < length bytes → n < length c
more n bytes c e large =
    let size : length bytes ≡ min (n + 1) (length c) = ap length e ∙ length-take (n + 1) c in
    omega (arith, size, large)

-- ---- a file of a limited size

-- the bytes of a file within its room
abbrev pub IsText : FilesState → ℕ → List ℕ → List ℕ → Type 0
IsText old room path bytes = IfSome old.held (λ held. (length (contents held path) ≤ room) × (bytes ≡ contents held path))

abbrev pub SizedShows : FilesState → FilesState → ℕ → List ℕ → List ℕ → (List ℕ → Plan) → Outcome → Type 0
SizedShows old new room place shown next outcome =
    (((old.faults (Reading place) < new.faults (Reading place)) × (outcome ≡ Err (ReadFault shown)))
    ⊎ (IfSome old.held (λ held. room < length (contents held place)) × (outcome ≡ Err (TooLarge shown room))))
    ⊎ ((bytes : List ℕ) × IsText old room place bytes × IsBytes bytes × MayGive old.held old.faults new.faults (next bytes) outcome)

pub sized_shows : (old new : FilesState) (room : ℕ) (place shown : List ℕ) (next : List ℕ → Plan) (outcome : Outcome) → MayGive old.held old.faults new.faults (read_sized room place shown next) outcome → SizedShows old new room place shown next outcome
sized_shows old new room place shown next outcome (inl g) = inl (inl g)
sized_shows old new room place shown next outcome (inr g) = by_size (large_cases shown room (length g.0))
  where
    by_size : ((too_large shown room (length g.0) ≡ None) × (length g.0 ≤ room)) ⊎ ((too_large shown room (length g.0) ≡ Some (TooLarge shown room)) × (room < length g.0)) → SizedShows old new room place shown next outcome
    by_size (inl fits) = inr (g.0, told_map old.held _ _ (λ held told. whole room g.0 (contents held place) told fits.1) g.3, g.2, (rw fits.0 at g.4))
    by_size (inr large) = inl (inr (told_map old.held _ _ (λ held told. more room g.0 (contents held place) told large.1) g.3, (rw large.0 at g.4)))

-- ---- values

-- a value, or the refusal in its place
pub attempt_cases : {A : Type 0} (held : Option Held) (before after : Call → ℕ) (value : Result A Status) (next : A → Plan) (outcome : Outcome) → MayGive held before after (attempt value next) outcome
    → ((status : Status) × (value ≡ Err status) × (outcome ≡ Err status)) ⊎ ((x : A) × (value ≡ Ok x) × MayGive held before after (next x) outcome)
attempt_cases held before after (Ok x) next outcome g = inr (x, refl, g)
attempt_cases held before after (Err status) next outcome g = inl (status, refl, g)

pub ok_and_err : {A E : Type 0} (x : A) (e : E) (r : Result A E) → r ≡ Ok x → r ≡ Err e → ⊥
ok_and_err x e r h k = let clash : Ok x ≡ Err e = sym h ∙ k in cc

pub same_value : {A E : Type 0} (x y : A) (r : Result A E) → r ≡ Ok x → r ≡ Ok y → x ≡ y
same_value x y r h k = let e : Ok x ≡ Ok y = sym h ∙ k in cc
