-- What stays through rounds one behind the other.
use Rattle.std.proofs.Common.{arith, ◌≡◌, ◌≤◌, ◌<◌, ◌+◌, ℕ, Bool, List, [], ◌∷◌, length, suc, zero, refl, sym, subst, inl, inr, ap, ◌∙◌}
use Rattle.std.specs.Prelude.{◌==◌, false, true}
use Rattle.std.proofs.lemmas.Bool.{eqb-true, true≢false}
use Rattle.std.proofs.lemmas.List.{nil_from_length}
use Rattle.vx_engine.specs.Rounds.{AreRounds, HasGoneOn, IsNext, none, next}
use Rattle.vx_java.specs.Step.{Config}
use Rattle.vx_link.specs.declared.program.Program.{Program}
use Rattle.vx_lockstep.proofs.Falling.{attempts_fall, round_steps}
use Rattle.vx_lockstep.proofs.Underway.{IsUnderway, goes_on, own_allowed}
use Rattle.vx_space.specs.Sets.{Sets}
use Rattle.vx_standing.specs.State.{IsState, StateView, attempts_left}

-- runs that are under way still are
pub keep_on : {S I : Type 0} (p : Program) (First : Type 0) (old : Sets I) (before : StateView S I) (options : ℕ) (is_allowed : Config → Bool) (limit : ℕ) → IsUnderway p old options is_allowed limit First before → (n : ℕ) (new : Sets I) (after : StateView S I) → AreRounds p First old before n new after → IsUnderway p new options is_allowed limit First after
keep_on p First old before options is_allowed limit u n new after none = u
keep_on p First old before options is_allowed limit u n new after (next m between _ st _ rounds one) =
    goes_on p between new options is_allowed limit First st after one.place one.group one.lawful one.still_lawful (keep_on p First old before options is_allowed limit u m between st rounds) one.there one.first one.round

-- the state is one of the same runs
pub still_state : {S I : Type 0} (p : Program) (First : Type 0) (old : Sets I) (before : StateView S I) → IsState p old before.heap.allowed before → (n : ℕ) (new : Sets I) (after : StateView S I) → AreRounds p First old before n new after → IsState p new after.heap.allowed after
still_state p First old before h n new after none = h
still_state p First old before h n new after (next m between _ st _ rounds one) = own_allowed p new st.heap.allowed after one.round.is_state

one_falls : {S I : Type 0} (p : Program) (First : Type 0) (old new : Sets I) (before after : StateView S I) → IsState p old before.heap.allowed before → IsNext p First old new before after → attempts_left new after < attempts_left old before
one_falls p First old new before after h one =
    attempts_fall p old new before after one.place one.group one.lawful h.groups h.running one.there (round_steps p old new before.heap.allowed before after one.group one.round)

-- each round takes an attempt
pub rounds_fall : {S I : Type 0} (p : Program) (First : Type 0) (old : Sets I) (before : StateView S I) → IsState p old before.heap.allowed before → (n : ℕ) (new : Sets I) (after : StateView S I) → AreRounds p First old before n new after → attempts_left new after + n ≤ attempts_left old before
rounds_fall p First old before h n new after none = omega (arith)
rounds_fall p First old before h n new after (next m between _ st _ rounds one) =
    let first = rounds_fall p First old before h m between st rounds in
    let last = one_falls p First between new st after (still_state p First old before h m between st rounds) one in
    omega (arith, first, last)

none_made : {S I : Type 0} (p : Program) (First : Type 0) (old : Sets I) (before : StateView S I) (n : ℕ) (new : Sets I) (after : StateView S I) → n ≡ 0 → AreRounds p First old before n new after → before ≡ after
none_made p First old before n new after e none = refl
none_made p First old before n new after e (next m _ _ _ _ rounds one) = absurd (omega (arith, e))

-- where a group goes on, a number of rounds that is not 0 takes an attempt
pub made_falls : {S I : Type 0} (p : Program) (First : Type 0) (most : ℕ) (old new : Sets I) (before after : StateView S I) → IsState p old before.heap.allowed before → 0 < length before.groups → 0 < most → HasGoneOn p First most old new before after → attempts_left new after < attempts_left old before
made_falls p First most old new before after h some positive made = by made.made refl
  where
    by : (n : ℕ) → made.made ≡ n → attempts_left new after < attempts_left old before
    by (suc k) e = let all = rounds_fall p First old before h made.made new after made.rounds in omega (arith, all, e)
    by zero e = elim made.all [
      | inl empty ↦ let same = ap (λ st. length st.groups) (none_made p First old before made.made new after e made.rounds) ∙ ap length empty in omega (arith, same, some)
      | inr full ↦ omega (arith, full, e, positive)
    ]

-- they are counted
pub rounds_counted : {S I : Type 0} (p : Program) (First : Type 0) (old : Sets I) (before : StateView S I) (n : ℕ) (new : Sets I) (after : StateView S I) → AreRounds p First old before n new after → after.rounds ≡ before.rounds + n
rounds_counted p First old before n new after none = omega (arith)
rounds_counted p First old before n new after (next m between _ st _ rounds one) =
    let front = rounds_counted p First old before m between st rounds in
    let last = one.round.rounds in
    omega (arith, front, last)

some_in : {A : Type 0} (xs : List A) → (length xs == 0) ≡ false → 0 < length xs
some_in [] e = absurd (true≢false e)
some_in (x ∷ xs) e = omega (arith)

-- a list that was found not to be empty
pub some_there : {A : Type 0} (xs ys : List A) (test : Bool) → test ≡ false → test ≡ (length xs == 0) → xs ≡ ys → 0 < length ys
some_there xs ys test f e same = subst (λ list. 0 < length list) same (some_in xs (sym e ∙ f))

-- a list that was found to be empty
pub none_there : {A : Type 0} (xs ys : List A) (test : Bool) → test ≡ true → test ≡ (length xs == 0) → xs ≡ ys → ys ≡ []
none_there xs ys test t e same = sym same ∙ nil_from_length xs (eqb-true (length xs) 0 (sym e ∙ t))
