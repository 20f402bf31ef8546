-- Rows of locals that values are put into.
use Rattle.std.proofs.Common.{◌≡◌, ◌⊎◌, ℕ, ◌+◌, ◌≤◌, Bool, true, false, List, [], ◌∷◌, ◌++◌, refl, sym, ◌∙◌, ap, subst, inl, inr, arith, map, length, replicate, append_assoc}
use Rattle.std.proofs.lemmas.Bool.{true_from_ne_false, true≢false}
use Rattle.std.proofs.lemmas.List.{append-nil, length-append, replicate_more}
use Rattle.std.specs.Prelude.{Some, None, if◌then◌else◌, is_some}
use Rattle.vx_value.specs.declared.slot.Slot.{Slot}
use Rattle.vx_value.specs.declared.slot.Slot.TheVariants.{Top, Int, Long, Null, Ref, Text}
use Rattle.vx_value.specs.Slot.{slot_cmp}
use Rattle.vx_space.specs.Sets.{Sets, IsLawful}
use Rattle.vx_space.proofs.Differences.{some_difference}
use Rattle.vx_cond.specs.declared.cond.Leaf.{Leaf}
use Rattle.vx_cond.specs.Leaves.{AreLeaves, value_at, value_within}
use Rattle.vx_cond.specs.Cond.{Conditional, IsCond, IsCondOf}
use Rattle.vx_cond.specs.Row.{AreConds, Conditionals, IsRow, conds_at}
use Rattle.vx_cond.specs.Slots.{or_top, slot_at, slots_at}
use Rattle.vx_cond.proofs.CondLaws.{IsCond-of, cond_at-of}
use Rattle.vx_cond.proofs.RowSteps.{IsRow-push, slots_at-push}
use Rattle.vx_frames.specs.Entering.{AreArguments, AreLongs, arguments_at, is_long, locals_taken, slots_in_locals}
use Rattle.vx_frames.specs.Locals.{AreAppended, ArePut, IsAppended, begins_long, locals_of}

-- ---- locals behind others

pub AreAppended-none : {S I : Type 0} (sets : Sets I) (row : Conditionals Slot S I) → IsRow slot_cmp sets row → AreAppended sets row 0 (λ _. []) row
AreAppended-none sets row v = record { scope = refl; is_row = v; number = omega arith; slots = λ c. sym (append-nil (slots_at sets row c)) }

pub AreAppended-trans : {S I : Type 0} (sets : Sets I) (before middle after : Conditionals Slot S I) (m n : ℕ) (f g : List Bool → List Slot) → AreAppended sets before m f middle → AreAppended sets middle n g after → AreAppended sets before (m + n) (λ c. f c ++ g c) after
AreAppended-trans sets before middle after m n f g a b = record {
  scope = b.scope ∙ a.scope;
  is_row = b.is_row;
  number = omega (arith, a.number, b.number);
  slots = λ c. b.slots c ∙ ap (λ slots. slots ++ g c) (a.slots c) ∙ append_assoc (slots_at sets before c) (f c) (g c);
}

pub AreAppended-as : {S I : Type 0} (sets : Sets I) (before after : Conditionals Slot S I) (m n : ℕ) (f g : List Bool → List Slot) → m ≡ n → ((c : List Bool) → f c ≡ g c) → AreAppended sets before m f after → AreAppended sets before n g after
AreAppended-as sets before after m n f g e h a = record {
  scope = a.scope;
  is_row = a.is_row;
  number = a.number ∙ ap (λ k. length before.conds + k) e;
  slots = λ c. a.slots c ∙ ap (λ slots. slots_at sets before c ++ slots) (h c);
}

-- one more
pub AreAppended-one : {S I : Type 0} (sets : Sets I) (row : Conditionals Slot S I) (cond : Conditional Slot S I) → IsRow slot_cmp sets row → IsCond slot_cmp sets cond → cond.scope ≡ row.scope → AreAppended sets row 1 (λ c. slot_at sets cond c ∷ []) (record row { conds = row.conds ++ cond ∷ [] })
AreAppended-one sets row cond v w e = record {
  scope = refl;
  is_row = IsRow-push slot_cmp sets row cond v w e;
  number = length-append row.conds (cond ∷ []);
  slots = λ c. slots_at-push sets row cond c;
}

-- ---- locals that can't be read

top_within : (b : Bool) → or_top (if b then Some Top else None) ≡ Top
top_within true = refl
top_within false = refl

pub AreAppended-top : {S I : Type 0} (sets : Sets I) (row : Conditionals Slot S I) (scope : I) (cond : Conditional Slot S I) → IsRow slot_cmp sets row → scope ≡ row.scope → cond.scope ≡ scope → IsCondOf slot_cmp sets (value_within sets scope (λ _. Some Top)) cond → AreAppended sets row 1 (λ _. Top ∷ []) (record row { conds = row.conds ++ cond ∷ [] })
AreAppended-top {S = S} {I = I} sets row scope cond v s e w =
    let after : Conditionals Slot S I = record row { conds = row.conds ++ cond ∷ [] } in
    let value = value_within sets scope (λ _. Some Top) in
    AreAppended-as sets row after 1 1 (λ c. slot_at sets cond c ∷ []) (λ _. Top ∷ []) refl
    (λ c. ap (λ slot. slot ∷ []) (ap or_top (cond_at-of slot_cmp sets value cond c w) ∙ top_within (sets.test scope c)))
    (AreAppended-one sets row cond v (IsCond-of slot_cmp sets value cond w) (e ∙ s))

pub AreTops-start : {S I : Type 0} (sets : Sets I) (row : Conditionals Slot S I) → IsRow slot_cmp sets row → AreAppended sets row 0 (λ _. replicate 0 Top) row
AreTops-start sets row v = AreAppended-none sets row v

pub AreTops-step : {S I : Type 0} (sets : Sets I) (before row made : Conditionals Slot S I) (i : ℕ) → AreAppended sets before i (λ _. replicate i Top) row → AreAppended sets row 1 (λ _. Top ∷ []) made → AreAppended sets before (i + 1) (λ _. replicate (i + 1) Top) made
AreTops-step sets before row made i a b = AreAppended-as sets before made (i + 1) (i + 1) (λ _. replicate i Top ++ Top ∷ []) (λ _. replicate (i + 1) Top) refl (λ c. replicate_more i Top) (AreAppended-trans sets before row made i 1 (λ _. replicate i Top) (λ _. Top ∷ []) a b)

pub AreTops-end : {S I : Type 0} (sets : Sets I) (before row : Conditionals Slot S I) (i n : ℕ) → i ≡ n → AreAppended sets before i (λ _. replicate i Top) row → AreAppended sets before n (λ _. replicate n Top) row
AreTops-end sets before row i n e a = subst (λ k. AreAppended sets before k (λ _. replicate k Top) row) e a

-- ---- one value

pub IsAppended-short : {S I : Type 0} (sets : Sets I) (row : Conditionals Slot S I) (value : Conditional Slot S I) (long : Bool) → long ≡ begins_long value.leaves → long ≡ false → IsRow slot_cmp sets row → IsCond slot_cmp sets value → value.scope ≡ row.scope → IsAppended sets row value (record row { conds = row.conds ++ value ∷ [] })
IsAppended-short {S = S} {I = I} sets row value long e n v w s =
    let P : Bool → Type 0 = λ b. AreAppended sets row (length (locals_of b Top)) (λ c. locals_of b (slot_at sets value c)) (record row { conds = row.conds ++ value ∷ [] }) in
    subst P (sym n ∙ e) (AreAppended-one sets row value v w s)

pub IsAppended-long : {S I : Type 0} (sets : Sets I) (row made : Conditionals Slot S I) (value : Conditional Slot S I) (long : Bool) → long ≡ begins_long value.leaves → long ≡ true → IsRow slot_cmp sets row → IsCond slot_cmp sets value → value.scope ≡ row.scope → AreAppended sets (record row { conds = row.conds ++ value ∷ [] }) 1 (λ _. Top ∷ []) made → IsAppended sets row value made
IsAppended-long {S = S} {I = I} sets row made value long e y v w s a =
    let P : Bool → Type 0 = λ b. AreAppended sets row (length (locals_of b Top)) (λ c. locals_of b (slot_at sets value c)) made in
    let middle : Conditionals Slot S I = record row { conds = row.conds ++ value ∷ [] } in
    subst P (sym y ∙ e) (AreAppended-as sets row made (1 + 1) 2 (λ c. (slot_at sets value c ∷ []) ++ Top ∷ []) (λ c. locals_of true (slot_at sets value c)) (omega arith) (λ c. refl) (AreAppended-trans sets row middle made 1 1 (λ c. slot_at sets value c ∷ []) (λ _. Top ∷ []) (AreAppended-one sets row value v w s) a))

-- ---- values

-- a value that is a long where that is said begins with a long just there, or is nowhere
long_said : {S I : Type 0} {sets : Sets I} → IsLawful sets → (path : I) (long : Bool) (leaves : List (Leaf Slot S I)) → AreLeaves slot_cmp sets leaves → ((c : List Bool) → is_some (value_at sets leaves c) ≡ sets.test path c) → ((c : List Bool) → sets.test path c ≡ true → is_long (or_top (value_at sets leaves c)) ≡ long) → (begins_long leaves ≡ long) ⊎ ((c : List Bool) → sets.test path c ≡ false)
long_said lawful path long [] are covers said = inr (λ c. sym (covers c))
long_said {sets = sets} lawful path long (leaf ∷ leaves) are covers said =
    let found = some_difference lawful leaf.condition sets.never are.0.known lawful.never_known are.0.nonempty in
    let c = found.0 in
    let there = true_from_ne_false (sets.test leaf.condition c) (λ e. found.1 (e ∙ sym (lawful.never_test c))) in
    let value : value_at sets (leaf ∷ leaves) c ≡ Some leaf.value = ap (λ b. if b then Some leaf.value else value_at sets leaves c) there in
    inl (ap (λ o. is_long (or_top o)) (sym value) ∙ said c (sym (covers c) ∙ ap is_some value))

value_said : {S I : Type 0} {sets : Sets I} → IsLawful sets → (path : I) (long : Bool) (value : Conditional Slot S I) → IsCond slot_cmp sets value → value.scope ≡ path → ((c : List Bool) → sets.test path c ≡ true → is_long (slot_at sets value c) ≡ long) → (begins_long value.leaves ≡ long) ⊎ ((c : List Bool) → sets.test path c ≡ false)
unfolding IsCond
value_said {sets = sets} lawful path long value v e said = long_said lawful path long value.leaves v.are_leaves (λ c. v.covers c ∙ ap (λ id. sets.test id c) e) said

-- it takes no more locals than that says
taken : (begins long : Bool) → (begins ≡ long) ⊎ (begins ≡ false) → (longs : List Bool) → length (locals_of begins Top) + locals_taken longs ≤ locals_taken (long ∷ longs)
taken true true h longs = omega arith
taken true false h longs = elim h [ inl e ↦ cc e | inr e ↦ cc e ]
taken false true h longs = omega arith
taken false false h longs = omega arith

none_begins : {S I : Type 0} {sets : Sets I} → IsLawful sets → (path : I) (value : Conditional Slot S I) → IsCond slot_cmp sets value → value.scope ≡ path → ((c : List Bool) → sets.test path c ≡ false) → begins_long value.leaves ≡ false
unfolding IsCond
none_begins {S = S} {I = I} {sets = sets} lawful path value v e none = from value.leaves v.are_leaves (λ c. v.covers c ∙ ap (λ id. sets.test id c) e ∙ none c)
  where
    from : (leaves : List (Leaf Slot S I)) → AreLeaves slot_cmp sets leaves → ((c : List Bool) → is_some (value_at sets leaves c) ≡ false) → begins_long leaves ≡ false
    from [] are h = refl
    from (leaf ∷ leaves) are h =
        let found = some_difference lawful leaf.condition sets.never are.0.known lawful.never_known are.0.nonempty in
        let there = true_from_ne_false (sets.test leaf.condition found.0) (λ e. found.1 (e ∙ sym (lawful.never_test found.0))) in
        let value : value_at sets (leaf ∷ leaves) found.0 ≡ Some leaf.value = ap (λ b. if b then Some leaf.value else value_at sets leaves found.0) there in
        absurd (true≢false (sym (ap is_some value) ∙ h found.0))

-- the slots of a value and of the values behind it
behind : (long : Bool) (slot : Slot) (slots : List Slot) → is_long slot ≡ long → locals_of long slot ++ slots_in_locals slots ≡ slots_in_locals (slot ∷ slots)
behind true Top slots e = cc
behind true (Int n) slots e = cc
behind true (Long n) slots e = refl
behind true Null slots e = cc
behind true (Ref n) slots e = cc
behind true (Text n) slots e = cc
behind false Top slots e = refl
behind false (Int n) slots e = refl
behind false (Long n) slots e = cc
behind false Null slots e = refl
behind false (Ref n) slots e = refl
behind false (Text n) slots e = refl

-- values of which some are put already
pub record ArePutting {S I : Type 0} (sets : Sets I) (path : I) (most : ℕ) (whole left : List (Conditional Slot S I)) (row : Conditionals Slot S I) : Type 0 where
  pub conds : AreConds slot_cmp sets path left
  pub longs : List Bool
  pub are_longs : AreLongs sets path left longs
  pub room : length row.conds + locals_taken longs ≤ most
  pub scope : row.scope ≡ path
  pub is_row : IsRow slot_cmp sets row
  pub slots : (c : List Bool) → sets.test path c ≡ true → slots_at sets row c ++ slots_in_locals (arguments_at sets left c) ≡ slots_in_locals (arguments_at sets whole c)

pub ArePutting-start : {S I : Type 0} (sets : Sets I) (most : ℕ) (whole : List (Conditional Slot S I)) (row : Conditionals Slot S I) → IsRow slot_cmp sets row → row.conds ≡ [] → AreArguments sets row.scope most whole → ArePutting sets row.scope most whole whole row
ArePutting-start sets most whole row v e a = record {
  conds = a.conds;
  longs = a.longs;
  are_longs = a.are_longs;
  room = let none : length row.conds ≡ 0 = ap length e in omega (arith, none, a.room);
  scope = refl;
  is_row = v;
  slots = λ c t. ap (λ conds. map or_top (conds_at sets conds c) ++ slots_in_locals (arguments_at sets whole c)) e;
}

pub ArePutting-step : {S I : Type 0} {sets : Sets I} → IsLawful sets → (path : I) (most : ℕ) (whole : List (Conditional Slot S I)) (value : Conditional Slot S I) (left : List (Conditional Slot S I)) (row made : Conditionals Slot S I) → ArePutting sets path most whole (value ∷ left) row → IsAppended sets row value made → ArePutting sets path most whole left made
ArePutting-step {S = S} {I = I} {sets = sets} lawful path most whole value left row made p a = from p.longs p.are_longs p.room
  where
    slots : (long : Bool) → ((c : List Bool) → sets.test path c ≡ true → is_long (slot_at sets value c) ≡ long) → (c : List Bool) → sets.test path c ≡ true → slots_at sets made c ++ slots_in_locals (arguments_at sets left c) ≡ slots_in_locals (arguments_at sets whole c)
    slots long said c t =
        let begins : is_long (slot_at sets value c) ≡ begins_long value.leaves = elim (value_said lawful path long value p.conds.0 p.conds.1 said) [ inl e ↦ said c t ∙ sym e | inr none ↦ cc (none c, t) ] in
        ap (λ slots. slots ++ slots_in_locals (arguments_at sets left c)) (a.slots c)
        ∙ append_assoc (slots_at sets row c) (locals_of (begins_long value.leaves) (slot_at sets value c)) (slots_in_locals (arguments_at sets left c))
        ∙ ap (λ slots. slots_at sets row c ++ slots) (behind (begins_long value.leaves) (slot_at sets value c) (arguments_at sets left c) begins)
        ∙ p.slots c t

    room : (long : Bool) (longs : List Bool) → ((c : List Bool) → sets.test path c ≡ true → is_long (slot_at sets value c) ≡ long) → length row.conds + locals_taken (long ∷ longs) ≤ most → length made.conds + locals_taken longs ≤ most
    room long longs said l =
        let begins : (begins_long value.leaves ≡ long) ⊎ (begins_long value.leaves ≡ false) = elim (value_said lawful path long value p.conds.0 p.conds.1 said) [ inl e ↦ inl e | inr none ↦ inr (none_begins lawful path value p.conds.0 p.conds.1 none) ] in
        omega (arith, a.number, taken (begins_long value.leaves) long begins longs, l)

    from : (longs : List Bool) → AreLongs sets path (value ∷ left) longs → length row.conds + locals_taken longs ≤ most → ArePutting sets path most whole left made
    from [] are l = absurd are
    from (long ∷ longs) are l = record {
      conds = p.conds.2;
      longs = longs;
      are_longs = are.1;
      room = room long longs are.0 l;
      scope = a.scope ∙ p.scope;
      is_row = a.is_row;
      slots = slots long are.0;
    }

pub ArePutting-within : {S I : Type 0} (sets : Sets I) (path : I) (most : ℕ) (whole left : List (Conditional Slot S I)) (row : Conditionals Slot S I) → ArePutting sets path most whole left row → length row.conds ≤ most
ArePutting-within sets path most whole left row p = omega (arith, p.room)

pub ArePutting-end : {S I : Type 0} (sets : Sets I) (path : I) (most : ℕ) (whole left : List (Conditional Slot S I)) (row : Conditionals Slot S I) → left ≡ [] → ArePutting sets path most whole left row → ArePut sets path whole row
ArePutting-end {S = S} {I = I} sets path most whole left row e p = record {
  scope = p.scope;
  is_row = p.is_row;
  slots = λ c t. sym (append-nil (slots_at sets row c)) ∙ ap (λ xs. slots_at sets row c ++ slots_in_locals (arguments_at sets xs c)) (sym e) ∙ p.slots c t;
}

-- arguments by other names of their path and of the number of locals
pub AreArguments-at : {S I : Type 0} (sets : Sets I) (path other : I) (m n : ℕ) (values : List (Conditional Slot S I)) → other ≡ path → n ≡ m → AreArguments sets path m values → AreArguments sets other n values
AreArguments-at {S = S} {I = I} sets path other m n values e f a =
    let P : I → Type 0 = λ id. AreArguments sets id m values in
    let Q : ℕ → Type 0 = λ k. AreArguments sets other k values in
    subst Q (sym f) (subst P (sym e) a)

-- the first of the values that are left
pub first_left : {S I : Type 0} (sets : Sets I) (path : I) (most : ℕ) (whole : List (Conditional Slot S I)) (value : Conditional Slot S I) (left : List (Conditional Slot S I)) (row : Conditionals Slot S I) → ArePutting sets path most whole (value ∷ left) row → IsCond slot_cmp sets value × (value.scope ≡ row.scope)
first_left sets path most whole value left row p = (p.conds.0, p.conds.1 ∙ sym p.scope)
