-- How many attempts all runs have left at most, and how many the runs of a set may make.
use Rattle.std.proofs.Common.{◌≡◌, ℕ, zero, suc, ◌*◌, ◌^◌, ◌≤◌, ◌∙◌, Bool, true, false, List, ap, cond, length, length-append, map, refl, arith}
use Rattle.std.proofs.lemmas.List.{length-map}
use Rattle.std.proofs.lemmas.List.Sums.{sum-map, sum_by-le, sum_by-le-sum_by}
use Rattle.std.specs.Prelude.{None, Option, Some, slice_index_or, sum}
use Rattle.vx_group.specs.Group.{GroupView}
use Rattle.vx_group_states.proofs.StateLaws.{map_same}
use Rattle.vx_standing.specs.State.{StateView, attempts_in, attempts_left, configurations, group_of, left_of}
use Rattle.vx_space.specs.Sets.{Sets}

pub length-configurations : (n : ℕ) → length (configurations n) ≡ 2 ^ n
length-configurations zero = refl
length-configurations (suc n) =
    let half = length-configurations n in
    simp (length-append, length-map) (omega (arith, half))

-- the attempts left are at most the limit, and none where no group stands
left_le : {S I : Type 0} (sets : Sets I) (n : ℕ) (c : List Bool) (inside : Bool) (o : Option (GroupView S I)) → (inside ≡ false → o ≡ None) → left_of sets n c o ≤ cond inside n 0
left_le sets n c true None h = omega arith
left_le sets n c true (Some group) h = omega arith
left_le sets n c false None h = omega arith
left_le sets n c false (Some group) h = cc (h refl)

pub attempts_left_most : {S I : Type 0} (sets : Sets I) (allowed : I) (st : StateView S I) → ((c : List Bool) → sets.test allowed c ≡ false → group_of sets st.groups c ≡ None) → attempts_left sets st ≤ attempts_in sets allowed st.limit
attempts_left_most sets allowed st h =
    let term : List Bool → ℕ = λ c. left_of sets st.limit c (group_of sets st.groups c) in
    let most : List Bool → ℕ = λ c. cond (sets.test allowed c) st.limit 0 in
    let all = configurations sets.options in
    rw (sum-map term all, sum-map most all) (sum_by-le-sum_by term most all (λ c. left_le sets st.limit c (sets.test allowed c) (group_of sets st.groups c) (h c)))

inside_le : (inside : Bool) (n : ℕ) → cond inside n 0 ≤ n
inside_le true n = omega arith
inside_le false n = omega arith

pub attempts_in-most : {I : Type 0} (sets : Sets I) (set : I) (limit : ℕ) → attempts_in sets set limit ≤ 2 ^ sets.options * limit
attempts_in-most sets set limit =
    let term : List Bool → ℕ = λ c. cond (sets.test set c) limit 0 in
    let all = configurations sets.options in
    let most = sum_by-le term limit all (λ k d l. inside_le (sets.test set (slice_index_or all k d)) limit) in
    rw (sum-map term all) (rw (← length-configurations sets.options) most)

-- a set that stays has as many
pub attempts_in-same : {I : Type 0} (old new : Sets I) (set : I) (limit : ℕ) → new.options ≡ old.options → ((c : List Bool) → new.test set c ≡ old.test set c) → attempts_in new set limit ≡ attempts_in old set limit
attempts_in-same old new set limit o h =
    ap sum (map_same (λ c. cond (new.test set c) limit 0) (λ c. cond (old.test set c) limit 0) (λ c. ap (λ b. cond b limit 0) (h c)) (configurations new.options)
    ∙ ap (λ n. map (λ c. cond (old.test set c) limit 0) (configurations n)) o)
