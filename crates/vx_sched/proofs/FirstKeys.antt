-- The keys of the first groups of a list, while groups come and go.
use Rattle.std.proofs.Common.{◌≡◌, ℕ, ◌+◌, ◌<◌, ◌≤◌, List, [], ◌∷◌, ◌++◌, refl, sym, ◌∙◌, ap, zero, suc, length, length-append, map, arith}
use Rattle.std.proofs.lemmas.List.{length-map}
use Rattle.std.specs.List.{remove}
use Rattle.std.proofs.Math.ListN.{get_or}
use Rattle.vx_value.specs.declared.key.KeyPart.{KeyPart}
use Rattle.vx_group.specs.Group.{GroupView, key_of}
use Rattle.vx_sched.specs.Keys.{AreFirstKeys}
use Rattle.vx_sched.specs.Picks.{IsFirstKey}
use Rattle.vx_sched.proofs.PlaceLaws.{only_first}

pub first_pushed : {S I : Type 0} (keys : List (List KeyPart)) (groups : List (GroupView S I)) (group : GroupView S I) → AreFirstKeys keys groups → AreFirstKeys keys (groups ++ group ∷ [])
first_pushed [] groups group h = tt
first_pushed (key ∷ keys) [] group h = absurd h
first_pushed (key ∷ keys) (g ∷ groups) group h = (h.0, first_pushed keys groups group h.1)

pub first_removed : {S I : Type 0} (keys : List (List KeyPart)) (groups : List (GroupView S I)) (place : ℕ) → AreFirstKeys keys groups → AreFirstKeys (remove keys place) (remove groups place)
first_removed [] groups zero h = tt
first_removed [] groups (suc place) h = tt
first_removed (key ∷ keys) [] place h = absurd h
first_removed (key ∷ keys) (g ∷ groups) zero h = h.1
first_removed (key ∷ keys) (g ∷ groups) (suc place) h = (h.0, first_removed keys groups place h.1)

-- nothing stands at a place past the end
pub removed_past : {A : Type 0} (xs : List A) (place : ℕ) → length xs ≤ place → remove xs place ≡ xs
removed_past [] zero l = refl
removed_past [] (suc place) l = refl
removed_past (x ∷ xs) zero l = absurd (omega (arith, l))
removed_past (x ∷ xs) (suc place) l = ap (λ ys. x ∷ ys) (removed_past xs place (omega (arith, l)))

-- the key of the next group
pub first_more : {S I : Type 0} (keys : List (List KeyPart)) (groups : List (GroupView S I)) (place : ℕ) (group : GroupView S I) → length keys ≡ place → place < length groups → group ≡ get_or groups place group → AreFirstKeys keys groups → AreFirstKeys (keys ++ key_of group ∷ []) groups
first_more keys [] place group n l e h = absurd (omega (arith, l))
first_more [] (g ∷ groups) zero group n l e h = (ap key_of e, tt)
first_more [] (g ∷ groups) (suc place) group n l e h = absurd (omega (arith, n))
first_more (key ∷ keys) (g ∷ groups) zero group n l e h = absurd (omega (arith, n))
first_more (key ∷ keys) (g ∷ groups) (suc place) group n l e h = (h.0, first_more keys groups place group (omega (arith, n)) (omega (arith, l)) e h.1)

-- as many keys as groups are the keys of all
pub first_all : {S I : Type 0} (keys : List (List KeyPart)) (groups : List (GroupView S I)) → length groups ≤ length keys → AreFirstKeys keys groups → keys ≡ map key_of groups
first_all [] [] l h = refl
first_all [] (g ∷ groups) l h = absurd (omega (arith, l))
first_all (key ∷ keys) [] l h = absurd h
first_all (key ∷ keys) (g ∷ groups) l h = λ i. h.0 i ∷ first_all keys groups (omega (arith, l)) h.1 i

pub first_few : {S I : Type 0} (keys : List (List KeyPart)) (groups : List (GroupView S I)) → AreFirstKeys keys groups → length keys ≤ length groups
first_few [] groups h = omega arith
first_few (key ∷ keys) [] h = absurd h
first_few (key ∷ keys) (g ∷ groups) h = let rest = first_few keys groups h.1 in omega (arith, rest)

-- a key that is alone is the first
pub alone_first : (keys : List (List KeyPart)) → length keys ≡ 1 → IsFirstKey keys 0
alone_first keys one = record {
  in_range = omega (arith, one);
  first = λ other l. only_first keys other (omega (arith, l, one));
}

-- one key more
pub first_step : {S I : Type 0} (keys : List (List KeyPart)) (groups : List (GroupView S I)) (place : ℕ) (group : GroupView S I) → (length keys ≡ place) × AreFirstKeys keys groups → place < length groups → group ≡ get_or groups place group → (length (keys ++ key_of group ∷ []) ≡ place + 1) × AreFirstKeys (keys ++ key_of group ∷ []) groups
first_step keys groups place group h l e =
    let made = h.0 in
    (simp length-append (omega (arith, made)), first_more keys groups place group h.0 l e h.1)

pub same_length : {S I : Type 0} (keys : List (List KeyPart)) (groups : List (GroupView S I)) → keys ≡ map key_of groups → length keys ≡ length groups
same_length keys groups e = ap length e ∙ length-map groups key_of
