-- From the arrays that lengths make at each configuration of a group to the attempt.
use Rattle.std.proofs.Common.{◌≡◌, ℕ, ℤ, zero, suc, ◌+◌, ◌-◌, ◌*◌, ◌<◌, ◌≤◌, ◌^◌, ◌⊎◌, Bool, true, false, List, [], ◌∷◌, ◌++◌, refl, sym, ◌∙◌, ap, arith, drop, inl, inr, length, map, reverse, subst, take}
use Rattle.std.proofs.lemmas.List.{append-nil, length-drop, length-map, length-reverse, map-append, reverse-append, take-append-drop}
use Rattle.std.specs.List.{list_any}
use Rattle.std.specs.Prelude.{Option, Some, None, ◌||◌, nat_lt, if◌then◌else◌, option_and_then, option_map}
use Rattle.vx_cells.specs.Making.{Making, Makes, Raises, made_row}
use Rattle.vx_cells.proofs.Making.{attempts_after, making-attempts, making-ready}
use Rattle.vx_cond.specs.Cond.{Conditional, cond_at}
use Rattle.vx_cond.specs.Row.{Conditionals}
use Rattle.vx_cond.specs.Slots.{or_top, slots_at}
use Rattle.vx_frame.specs.declared.frame.Frame.{Frame}
use Rattle.vx_group.specs.Group.{GroupView, IsGroup, path_of}
use Rattle.vx_group_states.specs.Answering.{AreHeld, IsReady, answered_by}
use Rattle.vx_group_states.specs.Sites.{Gives, GivesAt, here}
use Rattle.vx_group_states.specs.Stands.{state_at}
use Rattle.vx_group_states.specs.declared.answer.Answer.{Answer}
use Rattle.vx_group_states.specs.declared.site.Site.{Site}
use Rattle.vx_group_states.proofs.SettleLaws.{stack_scope}
use Rattle.vx_families.proofs.ChangeLaws.{unchanged}
use Rattle.vx_heap.specs.Heap.{HeapView, value_of}
use Rattle.vx_java.specs.Arrays.{array_of, grid, grid_cells, lengths_off, new_array, new_grid_of}
use Rattle.vx_java.specs.Ids.{as_class}
use Rattle.vx_java.specs.Machine.{Go, Here, Outcome as PlainOutcome, State, Value, illegal, illegal_in, length_bound, past, push_new, raise, when, with_objects}
use Rattle.vx_java.specs.Machine.{Int as IntValue, Long as LongValue, Null as NullValue, Ref as RefValue, Text as TextValue, Top as TopValue}
use Rattle.vx_link.specs.ClassNames.{core_class}
use Rattle.vx_link.specs.declared.program.Program.{Program}
use Rattle.vx_outcome.specs.declared.outcome.Outcome.{Outcome}
use Rattle.vx_families.specs.Attempts.{AttemptsBy}
use Rattle.vx_ready.specs.Running.{IsRunning}
use Rattle.vx_space.specs.Sets.{Sets, Extends}
use Rattle.vx_space.proofs.Spaces.{Extends-refl}
use Rattle.vx_value.specs.Arithmetic.{natural, negative}
use Rattle.vx_value.specs.declared.slot.Slot.{Slot}
use Rattle.vx_value.specs.declared.slot.Slot.TheVariants.{Int, Long, Null, Ref, Text, Top}
use Rattle.vx_arrays.specs.Making.{AreGridsAnswered, grid_made, grids_made, lengths_of, slots_from}

-- ---- the lengths on top of operands

-- those of slots, the top first, before those that were taken already
abbrev taken : List Slot → (deeper : List ℤ) → Option (List ℤ)
taken [] lengths = Some lengths
taken (Int n ∷ slots) lengths = taken slots (n ∷ lengths)
taken (slot ∷ slots) lengths = None

abbrev taken_one : Slot → List ℤ → Option (List ℤ)
taken_one (Int n) lengths = Some (n ∷ lengths)
taken_one slot lengths = None

taken_last : (slots : List Slot) (slot : Slot) (lengths : List ℤ) → taken (slots ++ slot ∷ []) lengths ≡ option_and_then (taken_one slot) (taken slots lengths)
taken_last [] Top lengths = refl
taken_last [] (Int n) lengths = refl
taken_last [] (Long n) lengths = refl
taken_last [] Null lengths = refl
taken_last [] (Ref n) lengths = refl
taken_last [] (Text n) lengths = refl
taken_last (Top ∷ slots) slot lengths = refl
taken_last (Int n ∷ slots) slot lengths = taken_last slots slot (n ∷ lengths)
taken_last (Long n ∷ slots) slot lengths = refl
taken_last (Null ∷ slots) slot lengths = refl
taken_last (Ref n ∷ slots) slot lengths = refl
taken_last (Text n ∷ slots) slot lengths = refl

-- the lengths of a slot and those behind it
abbrev with_first : Slot → Option (List ℤ) → Option (List ℤ)
with_first (Int n) o = option_map (λ ns. n ∷ ns) o
with_first slot o = None

lengths_first : (slot : Slot) (slots : List Slot) → with_first slot (lengths_of slots) ≡ lengths_of (slot ∷ slots)
lengths_first Top slots = refl
lengths_first (Int n) slots = refl
lengths_first (Long n) slots = refl
lengths_first Null slots = refl
lengths_first (Ref n) slots = refl
lengths_first (Text n) slots = refl

taken_reverse : (slots : List Slot) (lengths : List ℤ) → taken (reverse slots) lengths ≡ option_map (λ ns. ns ++ lengths) (lengths_of slots)
taken_reverse [] lengths = refl
taken_reverse (slot ∷ slots) lengths =
    ap (λ xs. taken xs lengths) (reverse-append (slot ∷ []) slots)
    ∙ taken_last (reverse slots) slot lengths
    ∙ ap (λ o. option_and_then (taken_one slot) o) (taken_reverse slots lengths)
    ∙ step slot (lengths_of slots)
    ∙ ap (λ o. option_map (λ ns. ns ++ lengths) o) (lengths_first slot slots)
  where
    step : (slot : Slot) (o : Option (List ℤ)) → option_and_then (taken_one slot) (option_map (λ ns. ns ++ lengths) o) ≡ option_map (λ ns. ns ++ lengths) (with_first slot o)
    step Top None = refl
    step Top (Some ns) = refl
    step (Int n) None = refl
    step (Int n) (Some ns) = refl
    step (Long n) None = refl
    step (Long n) (Some ns) = refl
    step Null None = refl
    step Null (Some ns) = refl
    step (Ref n) None = refl
    step (Ref n) (Some ns) = refl
    step (Text n) None = refl
    step (Text n) (Some ns) = refl

-- the plain operands
off_taken : {S I : Type 0} (sets : Sets I) (heap : HeapView S I) (c : List Bool) (slots : List Slot) (lengths : List ℤ) (rest : List Value) → lengths_off (length slots) lengths (map (value_of sets heap c) slots ++ rest) ≡ option_map (λ ns. (ns, rest)) (taken slots lengths)
off_taken sets heap c [] lengths rest = refl
off_taken sets heap c (Top ∷ slots) lengths rest = refl
off_taken sets heap c (Int n ∷ slots) lengths rest = off_taken sets heap c slots (n ∷ lengths) rest
off_taken sets heap c (Long n ∷ slots) lengths rest = refl
off_taken sets heap c (Null ∷ slots) lengths rest = refl
off_taken sets heap c (Ref n ∷ slots) lengths rest = refl
off_taken sets heap c (Text n ∷ slots) lengths rest = refl

drop_behind : {A : Type 0} (xs ys : List A) (n : ℕ) → length xs ≡ n → drop n (xs ++ ys) ≡ ys
drop_behind [] ys zero l = refl
drop_behind [] ys (suc n) l = absurd (omega (arith, l))
drop_behind (x ∷ xs) ys zero l = absurd (omega (arith, l))
drop_behind (x ∷ xs) ys (suc n) l = drop_behind xs ys n (omega (arith, l))

map_none : (o : Option (List ℤ)) → option_map (λ (ns : List ℤ). ns ++ []) o ≡ o
map_none None = refl
map_none (Some ns) = ap Some (append-nil ns)

slot_count : {S I : Type 0} (sets : Sets I) (stack : Conditionals Slot S I) (c : List Bool) → length (slots_at sets stack c) ≡ length stack.conds
slot_count {S = S} {I = I} sets stack c = length-map (map (λ (cond : Conditional Slot S I). cond_at sets cond c) stack.conds) or_top ∙ length-map stack.conds (λ (cond : Conditional Slot S I). cond_at sets cond c)

-- the lengths of so many dimensions, by the slots and by the plain values
row_lengths : {S I : Type 0} (sets : Sets I) (heap : HeapView S I) (stack : Conditionals Slot S I) (d : ℕ) (c : List Bool) → d ≤ length stack.conds → lengths_off d [] (map (value_of sets heap c) (reverse (slots_at sets stack c))) ≡ option_map (λ ns. (ns, drop d (map (value_of sets heap c) (reverse (slots_at sets stack c))))) (lengths_of (slots_from sets stack d 0 c))
row_lengths sets heap stack d c enough =
    ap (lengths_off d []) parts
    ∙ ap (λ n. lengths_off n [] (map value upper ++ rest)) (sym count)
    ∙ off_taken sets heap c upper [] rest
    ∙ ap (option_map (λ ns. (ns, rest))) (taken_reverse (drop place slots) [] ∙ map_none (lengths_of (drop place slots)))
    ∙ ap (λ (vs : List Value). option_map (λ (ns : List ℤ). (ns, vs)) (lengths_of (drop place slots))) (sym (ap (drop d) parts ∙ drop_behind (map value upper) rest d (length-map upper value ∙ count)))
  where
    slots : List Slot
    slots = slots_at sets stack c

    value : Slot → Value
    value = value_of sets heap c

    place : ℕ
    place = length stack.conds - d + 0

    upper : List Slot
    upper = reverse (drop place slots)

    rest : List Value
    rest = map value (reverse (take place slots))

    parts : map value (reverse slots) ≡ map value upper ++ rest
    parts =
        ap (λ xs. map value (reverse xs)) (sym (take-append-drop place slots))
        ∙ ap (map value) (reverse-append (take place slots) (drop place slots))
        ∙ map-append value upper (reverse (take place slots))

    count : length upper ≡ d
    count =
        let all : length slots ≡ length stack.conds = slot_count sets stack c in
        let left : length (drop place slots) ≡ length slots - place = length-drop place slots in
        length-reverse (drop place slots) ∙ left ∙ omega (arith, all, enough)

-- fewer operands
lengths_short : (d : ℕ) (lengths : List ℤ) (values : List Value) → length values < d → lengths_off d lengths values ≡ None
lengths_short zero lengths values l = absurd (omega (arith, l))
lengths_short (suc d) lengths [] l = refl
lengths_short (suc d) lengths (TopValue ∷ values) l = refl
lengths_short (suc d) lengths (IntValue n ∷ values) l = lengths_short d (n ∷ lengths) values (omega (arith, l))
lengths_short (suc d) lengths (LongValue n ∷ values) l = refl
lengths_short (suc d) lengths (NullValue ∷ values) l = refl
lengths_short (suc d) lengths (RefValue n ∷ values) l = refl
lengths_short (suc d) lengths (TextValue n ∷ values) l = refl

-- some slots have some lengths
lengths_some : (slots : List Slot) → lengths_of slots ≡ Some [] → length slots ≡ 0
lengths_some [] e = refl
lengths_some (Top ∷ slots) e = cc e
lengths_some (Int n ∷ slots) e = more (lengths_of slots) e
  where
    more : (o : Option (List ℤ)) → option_map (λ ns. n ∷ ns) o ≡ Some [] → suc (length slots) ≡ 0
    more None q = cc q
    more (Some ns) q = cc q
lengths_some (Long n ∷ slots) e = cc e
lengths_some (Null ∷ slots) e = cc e
lengths_some (Ref n ∷ slots) e = cc e
lengths_some (Text n ∷ slots) e = cc e

nonempty : {S I : Type 0} (sets : Sets I) (stack : Conditionals Slot S I) (d : ℕ) (c : List Bool) → 0 < d → d ≤ length stack.conds → lengths_of (slots_from sets stack d 0 c) ≡ Some [] → ⊥
nonempty sets stack d c some enough e =
    let all : length (slots_at sets stack c) ≡ length stack.conds = slot_count sets stack c in
    let left : length (slots_from sets stack d 0 c) ≡ length (slots_at sets stack c) - (length stack.conds - d + 0) = length-drop (length stack.conds - d + 0) (slots_at sets stack c) in
    let none = lengths_some (slots_from sets stack d 0 c) e in
    omega (arith, all, left, none, some, enough)

-- ---- the row

grid_row : (h : Here) (class : ℕ) (rest : List Value) (lengths : Option (List ℤ)) → (lengths ≡ Some [] → ⊥) → made_row h rest (grid_made h.program class lengths) ≡ new_grid_of h class (option_map (λ ns. (ns, rest)) lengths)
grid_row h class rest None n = refl
grid_row h class rest (Some []) n = absurd (n refl)
grid_row h class rest (Some (x ∷ xs)) n = cases (list_any negative (x ∷ xs)) (list_any (nat_lt length_bound) (map natural (x ∷ xs))) (nat_lt length_bound (grid_cells (map natural (x ∷ xs))))
  where
    p : Program
    p = h.program

    cases : (negatives large many : Bool) → made_row h rest (if negatives then Raises (as_class (core_class p "java/lang/NegativeArraySizeException")) else if negatives || large || many then Raises (as_class (core_class p "java/lang/OutOfMemoryError")) else Makes (grid p class (map natural (x ∷ xs)))) ≡ when negatives (raise h "java/lang/NegativeArraySizeException") (when (large || many) (raise h "java/lang/OutOfMemoryError") (Go (past h (with_objects h.state (grid p class (map natural (x ∷ xs)) (length h.state.heap))) (RefValue (length h.state.heap) ∷ rest))))
    cases true large many = refl
    cases false true many = refl
    cases false false true = refl
    cases false false false = refl

-- ---- attempts

module _ {S I : Type 0} (site : Site) (class d : ℕ) {s0 : Sets I} (before : HeapView S I) (group : GroupView S I) (running : IsRunning site s0 before group) where
  abbrev says : State → PlainOutcome
  says s = new_grid_of (here site s) class (lengths_off d [] s.top.operands)

  -- the operands of a state of the group
  abbrev values : List Bool → List Value
  values c = map (value_of s0 before c) (reverse (slots_at s0 group.top.stack c))

  -- too few operands, or no dimension
  pub illegal-attempts : (outcomes : List (Outcome S I)) → (d ≡ 0) ⊎ (length group.top.stack.conds < d) → Gives site.program.now (illegal_in site.program.now) s0 s0 group outcomes → AttemptsBy site says s0 s0 before before group outcomes
  illegal-attempts outcomes why gives =
      attempts_after site says (λ _ _. illegal_in site.program.now) before before (λ c g. g) group outcomes running.is_heap running.is_for (Extends-refl s0) (Extends-refl s0)
      (unchanged s0 before (s0.test (path_of group)) (λ c g. g) running.is_heap (λ c t. refl))
      (λ tree c t. sym (none (here site (state_at s0 before tree group c)) c why))
      (gives before)
    where
      none : (h : Here) (c : List Bool) → (d ≡ 0) ⊎ (length group.top.stack.conds < d) → new_grid_of h class (lengths_off d [] (values c)) ≡ illegal h
      none h c (inl e) = ap (λ n. new_grid_of h class (lengths_off n [] (values c))) e
      none h c (inr l) =
          let count : length (values c) ≡ length group.top.stack.conds = length-map (reverse (slots_at s0 group.top.stack c)) (value_of s0 before c) ∙ length-reverse (slots_at s0 group.top.stack c) ∙ slot_count s0 group.top.stack c in
          ap (new_grid_of h class) (lengths_short d [] (values c) (omega (arith, count, l)))

  module _ {s1 : Sets I} (after : HeapView S I) (answers : Conditional Answer S I) (some : 0 < d) (enough : d ≤ length group.top.stack.conds) (e : Extends s0 s1) (made : AreGridsAnswered site.program.now class (λ c. lengths_of (slots_from s0 group.top.stack d 0 c)) s0 s1 before after (path_of group) answers) where
    abbrev made_at : List Bool → Making
    made_at = grids_made site.program.now class (λ c. lengths_of (slots_from s0 group.top.stack d 0 c))

    pub grids-ready : length group.top.stack.conds < 2 ^ 32 → IsReady site s1 group d answers
    grids-ready few = making-ready site d made_at before after group answers running.is_group e made running.past some enough few

    pub grids-attempts : {s2 : Sets I} (outcomes : List (Outcome S I)) → Extends s1 s2 → ((heap : HeapView S I) → AreHeld s1 heap (path_of group) answers → GivesAt site.program.now (answered_by site d s1 answers) s1 s2 group outcomes heap) → AttemptsBy site says s0 s2 before after group outcomes
    grids-attempts outcomes f gives =
        making-attempts site d made_at before after group answers running.is_group e made says outcomes running.is_heap running.is_for f
        (λ tree c t.
        let s = state_at s0 before tree group c in
        grid_row (here site s) class (drop d s.top.operands) (lengths_of (slots_from s0 group.top.stack d 0 c)) (nonempty s0 group.top.stack d c some enough)
        ∙ ap (new_grid_of (here site s) class) (sym (row_lengths s0 before group.top.stack d c enough)))
        gives

-- what answers say of the frame on top that was lent is said of the group's
pub grids-of : {S I : Type 0} (p : Program) (class d : ℕ) {s0 s1 : Sets I} (before after : HeapView S I) (group : GroupView S I) (top : Frame S I) (answers : Conditional Answer S I) → top ≡ group.top → IsGroup s0 group → AreGridsAnswered p class (λ c. lengths_of (slots_from s0 top.stack d 0 c)) s0 s1 before after top.stack.scope answers → AreGridsAnswered p class (λ c. lengths_of (slots_from s0 group.top.stack d 0 c)) s0 s1 before after (path_of group) answers
grids-of {S = S} {I = I} p class d {s0 = s0} {s1 = s1} before after group top answers e v made =
    let P : Frame S I → Type 0 = λ f. AreGridsAnswered p class (λ c. lengths_of (slots_from s0 f.stack d 0 c)) s0 s1 before after f.stack.scope answers in
    let Q : I → Type 0 = λ path. AreGridsAnswered p class (λ c. lengths_of (slots_from s0 group.top.stack d 0 c)) s0 s1 before after path answers in
    subst Q (stack_scope s0 group v) (subst P e made)

-- ---- one dimension

pub one_length : (h : Here) (class : ℕ) (operands : List Value) → new_grid_of h class (lengths_off 1 [] operands) ≡ new_array h class operands
one_length h class [] = refl
one_length h class (TopValue ∷ rest) = refl
one_length h class (IntValue n ∷ rest) =
    (λ j. when (first (negative n) j) (raise h "java/lang/NegativeArraySizeException") (when (second j) (raise h "java/lang/OutOfMemoryError") (push_new h (array_of h.program class (natural n)) rest)))
  where
    first : (b : Bool) → (b || false) ≡ b
    first true = refl
    first false = refl

    both : (b : Bool) → ((b || false) || b) ≡ b
    both true = refl
    both false = refl

    second : ((nat_lt length_bound (natural n) || false) || nat_lt length_bound (natural n + natural n * 0)) ≡ nat_lt length_bound (natural n)
    second =
        let same : natural n + natural n * 0 ≡ natural n = omega arith in
        ap (λ k. (nat_lt length_bound (natural n) || false) || nat_lt length_bound k) same ∙ both (nat_lt length_bound (natural n))
one_length h class (LongValue n ∷ rest) = refl
one_length h class (NullValue ∷ rest) = refl
one_length h class (RefValue n ∷ rest) = refl
one_length h class (TextValue n ∷ rest) = refl
