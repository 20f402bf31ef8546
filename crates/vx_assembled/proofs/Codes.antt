-- The code of an assembled body meets the checks of code.
use Rattle.std.proofs.Common.{◌≡◌, ℕ, zero, suc, ◌+◌, ◌<◌, ◌≤◌, List, [], ◌∷◌, ◌++◌, length, map, drop, slice_index, true, nat_lt, nat_le, ◌==◌, ◌&&◌, ◌||◌, Option, Some, None, is_some, IsTrue, ◌⊎◌, inl, inr, refl, sym, ap, subst, ◌∙◌, append_assoc, append-nil, arith, length-append, mod-eq_of_lt, drop_at}
use Rattle.std.proofs.lemmas.Bool.{and_parts, and_from, or_left, or_right, lt-ltb, le-leb, eq-eqb, cases_lt}
use Rattle.std.specs.List.{AllByRecursion}
use Rattle.vx_pool.specs.declared.pool.Pool.{Pool}
use Rattle.vx_pool.specs.Checks.{all_hold}
use Rattle.vx_pool.specs.Entries.{usable}
use Rattle.vx_pool.specs.Instructions.{is_start, AreInstructions, OperandHolds, JumpsHold}
use Rattle.vx_pool.specs.Lookups as lookups
use Rattle.vx_class.specs.declared.class_file.Catch.{Catch}
use Rattle.vx_class.specs.Code.{catch_checks}
use Rattle.vx_class.specs.File.{CodeHolds}
use Rattle.vx_class_parts.specs.Constants.{places, in_file, pool_of}
use Rattle.vx_class_parts.specs.declared.constants.Constant.{Constant}
use Rattle.vx_class_parts.specs.declared.constants.Constant.TheVariants as constant
use Rattle.vx_code_parts.specs.Drafts.{size, next_place, draft_bytes, code_bytes, reaches, all_reach}
use Rattle.vx_code_parts.specs.declared.drafts.Draft.{Draft}
use Rattle.vx_asm.specs.Bodies.{places_from, places_of, caught_index, place_in_file, catch_of, code_of}
use Rattle.vx_asm.specs.declared.class_draft.Body.{Body}
use Rattle.vx_asm.specs.declared.class_draft.Covered.{Covered}
use Rattle.vx_assembled.proofs.Bytes.{Stands}
use Rattle.vx_assembled.proofs.Drafts.{IsDraft, draft_length, size_some, draft_there}
use Rattle.vx_assembled.proofs.Entries.{class_there}
use Rattle.vx_assembled.proofs.Pools.{IsHeld}
use Rattle.vx_assembled.proofs.Switches.{Leads}

-- ---- places

-- the place behind drafts, the first of which stands at a place
end_from : ℕ → List Draft → ℕ
end_from at [] = at
end_from at (d ∷ ds) = end_from (next_place at d) ds

-- the places where they stand
pub starts_from : ℕ → List Draft → List ℕ
starts_from at [] = []
starts_from at (d ∷ ds) = at ∷ starts_from (next_place at d) ds

end_is : (at : ℕ) (ds : List Draft) → slice_index (places_from at ds) (length ds) ≡ end_from at ds
unfolding places_from end_from
end_is at [] = refl
end_is at (d ∷ ds) = end_is (next_place at d) ds

next_few : (at : ℕ) (d : Draft) → next_place at d ≤ 65536
next_few at d = omega arith

end_above : (at : ℕ) (ds : List Draft) → at ≤ 65536 → at ≤ end_from at ds
unfolding end_from
end_above at [] few = omega arith
end_above at (d ∷ ds) few =
    let others = end_above (next_place at d) ds (next_few at d) in
    omega (arith, others, few)

-- where the code ends below 65,536, each instruction has its size
next_is : (at : ℕ) (d : Draft) (ds : List Draft) → at ≤ 65536 → end_from (next_place at d) ds < 65536 → next_place at d ≡ at + size at d
next_is at d ds few small =
    let others = end_above (next_place at d) ds (next_few at d) in
    omega (arith, others, small)

place_few : (at : ℕ) (ds : List Draft) (k : ℕ) → at ≤ 65536 → k ≤ length ds → slice_index (places_from at ds) k ≤ end_from at ds
unfolding places_from end_from
place_few at [] zero few le = omega arith
place_few at [] (suc k) few le = absurd (omega (arith, le))
place_few at (d ∷ ds) zero few le = let e = end_above at (d ∷ ds) few in e
place_few at (d ∷ ds) (suc k) few le = place_few (next_place at d) ds k (next_few at d) (omega (arith, le))

place_least : (at : ℕ) (ds : List Draft) (k : ℕ) → at ≤ 65536 → k ≤ length ds → at ≤ slice_index (places_from at ds) k
unfolding places_from
place_least at [] zero few le = omega arith
place_least at [] (suc k) few le = absurd (omega (arith, le))
place_least at (d ∷ ds) zero few le = omega arith
place_least at (d ∷ ds) (suc k) few le =
    let others = place_least (next_place at d) ds k (next_few at d) (omega (arith, le)) in
    omega (arith, others, few)

pub is_start_there : (at : ℕ) (ds : List Draft) (k : ℕ) → k < length ds → is_start (starts_from at ds) (slice_index (places_from at ds) k) ≡ true
unfolding places_from starts_from
is_start_there at [] k lt = absurd (omega (arith, lt))
is_start_there at (d ∷ ds) zero lt = or_left (at == at) (is_start (starts_from (next_place at d) ds) at) (eq-eqb at at refl)
is_start_there at (d ∷ ds) (suc k) lt =
    or_right (at == slice_index (places_from (next_place at d) ds) k) (is_start (starts_from (next_place at d) ds) (slice_index (places_from (next_place at d) ds) k))
    (is_start_there (next_place at d) ds k (omega (arith, lt)))

-- places ascend
places_ascend : (pool : Pool) (major max_locals n at : ℕ) (ds : List Draft) (i j : ℕ) → at ≤ 65536 → end_from at ds < 65536 → AllByRecursion (IsDraft pool major max_locals n) ds → i < j → j ≤ length ds
    → slice_index (places_from at ds) i < slice_index (places_from at ds) j
unfolding places_from end_from
places_ascend pool major max_locals n at [] i j few small all lt le = absurd (omega (arith, lt, le))
places_ascend pool major max_locals n at (d ∷ ds) i zero few small all lt le = absurd (omega (arith, lt))
places_ascend pool major max_locals n at (d ∷ ds) zero (suc j) few small all lt le =
    let next = next_is at d ds few small in
    let some = size_some pool major max_locals n at d all.0 in
    let others = place_least (next_place at d) ds j (next_few at d) (omega (arith, le)) in
    omega (arith, next, some, others)
places_ascend pool major max_locals n at (d ∷ ds) (suc i) (suc j) few small all lt le =
    places_ascend pool major max_locals n (next_place at d) ds i j (next_few at d) small all.1 (omega (arith, lt)) (omega (arith, le))

code_length : (pool : Pool) (major max_locals n : ℕ) (places : List ℕ) (at : ℕ) (ds : List Draft) → at ≤ 65536 → end_from at ds < 65536 → at + length (code_bytes places at ds) ≡ end_from at ds
unfolding code_bytes end_from
code_length pool major max_locals n places at [] few small = omega arith
code_length pool major max_locals n places at (d ∷ ds) few small =
    let one = draft_length pool major max_locals n places at d in
    let next = next_is at d ds few small in
    let others = code_length pool major max_locals n places (next_place at d) ds (next_few at d) small in
    let all = length-append (draft_bytes places at d) (code_bytes places (next_place at d) ds) in
    omega (arith, one, next, others, all)

-- ---- instructions one after the other

-- what is known of the whole code
record IsCode (pool : Pool) (major max_locals n : ℕ) (starts code places : List ℕ) : Type 0 where
  leads : (t : ℕ) → t < n → Leads starts places t

record Walks (pool : Pool) (major max_locals : ℕ) (starts code : List ℕ) (at : ℕ) (new : List ℕ) : Type 0 where
  instructions : AreInstructions code at new
  operands : AllByRecursion (OperandHolds pool major max_locals code) new
  jumps : AllByRecursion (JumpsHold starts code) new

walks : (pool : Pool) (major max_locals n : ℕ) (starts code places : List ℕ) → IsCode pool major max_locals n starts code places → (ds : List Draft) (at : ℕ) (before : List ℕ)
    → code ≡ before ++ code_bytes places at ds → length before ≡ at → at ≤ 65536 → end_from at ds < 65536 → all_reach places at ds ≡ true → AllByRecursion (IsDraft pool major max_locals n) ds
    → Walks pool major max_locals starts code at (starts_from at ds)
unfolding code_bytes end_from starts_from all_reach
walks pool major max_locals n starts code places is [] at before whole len few small reach all = record {
  instructions = sym len ∙ ap (length {A = ℕ}) (sym (append-nil before) ∙ sym whole);
  operands = tt;
  jumps = tt;
}
walks pool major max_locals n starts code places is (d ∷ ds) at before whole len few small reach all =
    let text = draft_bytes places at d in
    let rest = code_bytes places (next_place at d) ds in
    let p = and_parts (reaches places at d) (all_reach places (next_place at d) ds) reach in
    let next : next_place at d ≡ at + size at d = next_is at d ds few small in
    let below = end_above (next_place at d) ds (next_few at d) in
    let stands : Stands code at text = (rest, ap (drop at) whole ∙ drop_at before (text ++ rest) at len) in
    let t = draft_there pool major max_locals n starts code places at d is.leads (omega (arith, next, below, small)) all.0 p.0 stands in
    let one = draft_length pool major max_locals n places at d in
    let here : at + t.i.length ≡ next_place at d = let l = t.length in omega (arith, l, next) in
    let longer : length (before ++ text) ≡ next_place at d = let l = length-append before text in omega (arith, l, len, one, next) in
    let others = walks pool major max_locals n starts code places is ds (next_place at d) (before ++ text) (whole ∙ sym (append_assoc before text rest)) longer (next_few at d) small p.1 all.1 in
    record {
      instructions = (refl, t.i, t.there, subst (λ (k : ℕ). AreInstructions code k (starts_from (next_place at d) ds)) (sym here) others.instructions);
      operands = ((t.i, t.there, t.operand), others.operands);
      jumps = ((t.i, t.there, t.jumps), others.jumps);
    }

-- ---- catch rows

abbrev pub IsCaughtHere : List Constant → Option (List ℕ) → Type 0
IsCaughtHere pool None = Unit {0}
IsCaughtHere pool (Some name) = IsHeld pool (constant.Class name)

-- a row of a body with so many instructions
pub record IsCovered (pool : List Constant) (n : ℕ) (row : Covered) : Type 0 where
  pub some : row.start < row.end
  pub end : row.end ≤ n
  pub handler : row.handler < n
  pub class : IsCaughtHere pool row.class

class_checked : (pool : List Constant) (class : Option (List ℕ)) → places pool < 65536 → IsCaughtHere pool class
    → ((caught_index pool class == 0 || usable (pool_of pool) (caught_index pool class)) ≡ true)
    × ((caught_index pool class == 0 || is_some (lookups.class (lookups.entry_of (pool_of pool) (caught_index pool class)))) ≡ true)
class_checked pool None few h = (refl, refl)
class_checked pool (Some name) few h =
    let e = class_there pool name few h.0 in
    let i = in_file pool (constant.Class name) in (
      or_right (i == 0) (usable (pool_of pool) i) (ap lookups.is_usable e),
      or_right (i == 0) (is_some (lookups.class (lookups.entry_of (pool_of pool) i))) (ap (λ o. is_some (lookups.class o)) e),
    )

row_checked : (pool : Pool) (starts code : List ℕ) (row : Catch) → row.start < row.end → row.end ≤ length code → is_start starts row.start ≡ true → is_start starts row.handler ≡ true
    → (is_start starts row.end || row.end == length code) ≡ true → (row.class == 0 || usable pool row.class) ≡ true
    → (row.class == 0 || is_some (lookups.class (lookups.entry_of pool row.class))) ≡ true → all_hold (catch_checks pool starts code row) ≡ true
row_checked pool starts code row lt le a b c d e =
    and_from (nat_lt row.start row.end && nat_le row.end (length code) && is_start starts row.start && is_start starts row.handler && (is_start starts row.end || row.end == length code)) _ places_hold
    (and_from (row.class == 0 || usable pool row.class) _ d (and_from (row.class == 0 || is_some (lookups.class (lookups.entry_of pool row.class))) true e refl))
  where
    first_two : (nat_lt row.start row.end && nat_le row.end (length code)) ≡ true
    first_two = and_from (nat_lt row.start row.end) (nat_le row.end (length code)) (lt-ltb row.start row.end lt) (le-leb row.end (length code) le)

    first_three : (nat_lt row.start row.end && nat_le row.end (length code) && is_start starts row.start) ≡ true
    first_three = and_from (nat_lt row.start row.end && nat_le row.end (length code)) (is_start starts row.start) first_two a

    places_hold : (nat_lt row.start row.end && nat_le row.end (length code) && is_start starts row.start && is_start starts row.handler && (is_start starts row.end || row.end == length code)) ≡ true
    places_hold =
        and_from (nat_lt row.start row.end && nat_le row.end (length code) && is_start starts row.start && is_start starts row.handler) (is_start starts row.end || row.end == length code)
        (and_from (nat_lt row.start row.end && nat_le row.end (length code) && is_start starts row.start) (is_start starts row.handler) first_three b) c

-- ---- the whole code

pub record IsBody (pool : List Constant) (major slots : ℕ) (b : Body) : Type 0 where
  pub few : places pool < 65536
  pub stack : b.max_stack < 65536
  pub locals : b.max_locals < 65536
  pub arguments : slots ≤ b.max_locals
  pub drafts : AllByRecursion (IsDraft (pool_of pool) major b.max_locals (length b.drafts)) b.drafts
  pub rows : AllByRecursion (IsCovered pool (length b.drafts)) b.rows
  pub some : 0 < length b.drafts
  pub small : slice_index (places_of b.drafts) (length b.drafts) < 65536
  pub reach : all_reach (places_of b.drafts) 0 b.drafts ≡ true
  pub few_rows : length b.rows < 65536

length-rows : (f : Covered → Catch) (rows : List Covered) → length (map f rows) ≡ length rows
length-rows f [] = refl
length-rows f (r ∷ rs) = ap suc (length-rows f rs)

pub code_holds : (pool : List Constant) (major slots : ℕ) (b : Body) → IsBody pool major slots b → CodeHolds (pool_of pool) major slots (code_of pool (places_of b.drafts) b)
code_holds pool major slots b is = record {
  stack = is.stack;
  locals = is.locals;
  arguments = is.arguments;
  some = let l = length_is in let p = last_above in omega (arith, l, p);
  few = let l = length_is in omega (arith, l, small);
  starts = starts;
  instructions = all.instructions;
  operands = all.operands;
  jumps = all.jumps;
  few_rows = let l = length-rows (catch_of pool ps) b.rows in let f = is.few_rows in omega (arith, l, f);
  rows = all_rows b.rows is.rows;
}
  where
    ps : List ℕ
    ps = places_of b.drafts

    code : List ℕ
    code = code_bytes ps 0 b.drafts

    n : ℕ
    n = length b.drafts

    starts : List ℕ
    starts = starts_from 0 b.drafts

    small : end_from 0 b.drafts < 65536
    small = subst (λ (k : ℕ). k < 65536) (end_is 0 b.drafts) is.small

    length_is : length code ≡ end_from 0 b.drafts
    length_is = let l = code_length (pool_of pool) major b.max_locals n ps 0 b.drafts (omega arith) small in omega (arith, l)

    -- the place of the first instruction is below that behind the last
    last_above : 0 < end_from 0 b.drafts
    last_above =
        let a = places_ascend (pool_of pool) major b.max_locals n 0 b.drafts 0 n (omega arith) small is.drafts is.some (omega arith) in
        let e = end_is 0 b.drafts in
        omega (arith, a, e)

    leads : (t : ℕ) → t < n → Leads starts ps t
    leads t lt = record {
      few = let f = place_few 0 b.drafts t (omega arith) (omega (arith, lt)) in omega (arith, f, small);
      is = is_start_there 0 b.drafts t lt;
    }

    all : Walks (pool_of pool) major b.max_locals starts code 0 starts
    all = walks (pool_of pool) major b.max_locals n starts code ps (record { leads = leads }) b.drafts 0 [] refl refl (omega arith) small is.reach is.drafts

    -- a place as it stands in the file
    place_is : (k : ℕ) → k ≤ n → place_in_file ps k ≡ slice_index ps k
    place_is k le = mod-eq_of_lt (let f = place_few 0 b.drafts k (omega arith) le in omega (arith, f, small))

    start_is : (k : ℕ) → k < n → is_start starts (place_in_file ps k) ≡ true
    start_is k lt = ap (is_start starts) (place_is k (omega (arith, lt))) ∙ is_start_there 0 b.drafts k lt

    end_ok : (k : ℕ) → k ≤ n → (is_start starts (place_in_file ps k) || place_in_file ps k == length code) ≡ true
    end_ok k le = by_order (cases_lt k n)
      where
        by_order : (k < n) ⊎ (n ≤ k) → (is_start starts (place_in_file ps k) || place_in_file ps k == length code) ≡ true
        by_order (inl lt) = or_left (is_start starts (place_in_file ps k)) (place_in_file ps k == length code) (start_is k lt)
        by_order (inr ge) =
            let same : k ≡ n = omega (arith, le, ge) in
            let here : place_in_file ps k ≡ length code = place_is k le ∙ ap (slice_index ps) same ∙ end_is 0 b.drafts ∙ sym length_is in
            or_right (is_start starts (place_in_file ps k)) (place_in_file ps k == length code) (eq-eqb (place_in_file ps k) (length code) here)

    row_holds : (row : Covered) → IsCovered pool n row → IsTrue (all_hold (catch_checks (pool_of pool) starts code (catch_of pool ps row)))
    row_holds row h =
        let lt = h.some in
        let le = h.end in
        let a = place_is row.start (omega (arith, lt, le)) in
        let z = place_is row.end le in
        let up = places_ascend (pool_of pool) major b.max_locals n 0 b.drafts row.start row.end (omega arith) small is.drafts lt le in
        let top = place_few 0 b.drafts row.end (omega arith) le in
        let class = class_checked pool row.class is.few h.class in
        row_checked (pool_of pool) starts code (catch_of pool ps row) (omega (arith, a, z, up)) (omega (arith, z, top, length_is))
        (start_is row.start (omega (arith, lt, le))) (start_is row.handler h.handler) (end_ok row.end le) class.0 class.1

    all_rows : (rows : List Covered) → AllByRecursion (IsCovered pool n) rows → AllByRecursion (λ row. IsTrue (all_hold (catch_checks (pool_of pool) starts code row))) (map (catch_of pool ps) rows)
    all_rows [] h = tt
    all_rows (r ∷ rs) h = (row_holds r h.0, all_rows rs h.1)
