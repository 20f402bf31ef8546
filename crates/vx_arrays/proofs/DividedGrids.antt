-- Lengths of dimensions, one leaf of a conditional length after the other.
use Rattle.std.proofs.Common.{◌≡◌, ℕ, ℤ, zero, suc, ◌+◌, ◌-◌, ◌<◌, ◌≤◌, Bool, true, false, List, [], ◌∷◌, ◌++◌, refl, sym, ◌∙◌, ap, arith, drop, get_or, length, map, subst, take}
use Rattle.std.proofs.lemmas.List.{append-nil, drop_all, length-append, length-map, take_all}
use Rattle.std.specs.Prelude.{Option, Some, None, ◌&&◌, ◌||◌, is_some, if◌then◌else◌, option_map, slice_get}
use Rattle.vx_cells.proofs.Making.{AreMade-all, AreMade-extends, AreMade-none, AreMade-then}
use Rattle.vx_cond.specs.Cond.{AreDisjoint, Conditional, IsCond, cond_at}
use Rattle.vx_cond.specs.Leaves.{AreLeaves, value_at}
use Rattle.vx_cond.specs.Row.{Conditionals, IsRow}
use Rattle.vx_cond.specs.Slots.{or_top, slot_at, slots_at}
use Rattle.vx_cond.specs.declared.cond.Leaf.{Leaf}
use Rattle.vx_cond.proofs.LeafLoops.{IsNext, next_leaf}
use Rattle.vx_cond.proofs.RowSteps.{IsRow-get, slots_at-get}
use Rattle.vx_cond.proofs.SideLaws.{IsRow-scope_known, cond_at-covers, row_at-extends}
use Rattle.vx_group_states.proofs.Gathering.{AreLeaves-of, leaf_value}
use Rattle.vx_group_states.proofs.StateLaws.{both_first, both_second}
use Rattle.vx_group_states.specs.Answers.{answer_cmp}
use Rattle.vx_group_states.specs.declared.answer.Answer.{Answer}
use Rattle.vx_heap.specs.Heap.{HeapView, IsHeap}
use Rattle.vx_link.specs.declared.program.Program.{Program}
use Rattle.vx_space.specs.Sets.{Sets, Extends, IsLawful, IsSet}
use Rattle.vx_space.proofs.Spaces.{Extends-refl, Extends-trans}
use Rattle.vx_value.specs.Slot.{slot_cmp}
use Rattle.vx_value.specs.declared.slot.Slot.{Slot}
use Rattle.vx_value.specs.declared.slot.Slot.TheVariants.{Int}
use Rattle.vx_arrays.specs.Making.{AreGridsAnswered, AreGridsMade, grid_made, grids_made, lengths_behind, lengths_of, slots_from}
use Rattle.vx_arrays.proofs.MadeGrids.{lengths_more}

-- ---- slots of a stack

drop_here : {A : Type 0} (xs : List A) (i : ℕ) (x : A) → Some x ≡ slice_get xs i → drop i xs ≡ x ∷ drop (suc i) xs
drop_here [] i x e = cc e
drop_here (y ∷ ys) zero x e =
    let same : y ≡ x = cc e in
    ap (λ z. z ∷ ys) same
drop_here (y ∷ ys) (suc i) x e = drop_here ys i x e

-- over a later space
slots_later : {S I : Type 0} {old new : Sets I} → Extends old new → (stack : Conditionals Slot S I) → IsRow slot_cmp old stack → (c : List Bool) → slots_at new stack c ≡ slots_at old stack c
slots_later e stack v c = ap (λ os. map or_top os) (row_at-extends slot_cmp e stack v c)

-- behind the last dimension there are none
pub lengths_all : {S I : Type 0} (sets : Sets I) (stack : Conditionals Slot S I) (dimensions : ℕ) (lengths : List ℤ) → dimensions ≤ length stack.conds → dimensions ≤ length lengths → (c : List Bool) → lengths_behind lengths (slots_from sets stack dimensions (length lengths) c) ≡ Some lengths
lengths_all {S = S} {I = I} sets stack dimensions lengths enough all c =
    let count : length (slots_at sets stack c) ≡ length stack.conds = length-map (map (λ (cond : Conditional Slot S I). cond_at sets cond c) stack.conds) or_top ∙ length-map stack.conds (λ (cond : Conditional Slot S I). cond_at sets cond c) in
    let none : slots_from sets stack dimensions (length lengths) c ≡ [] = drop_all (length stack.conds - dimensions + length lengths) (slots_at sets stack c) (omega (arith, enough, all, count)) in
    ap (lengths_behind lengths) none ∙ ap Some (append-nil lengths)

-- no lengths before those of the slots
pub lengths_first : (slots : List Slot) → lengths_behind [] slots ≡ lengths_of slots
lengths_first slots = cases (lengths_of slots)
  where
    cases : (o : Option (List ℤ)) → option_map (λ more. [] ++ more) o ≡ o
    cases None = refl
    cases (Some ns) = refl

-- ---- lengths that are told otherwise

module _ {S I : Type 0} (p : Program) (class : ℕ) (s0 s1 : Sets I) (before after : HeapView S I) (stack : Conditionals Slot S I) (dimensions : ℕ) (answers made : Conditional Answer S I) where
  -- all dimensions have their lengths
  pub AreGridsMade-whole : (lengths : List ℤ) (set : List Bool → Bool) → dimensions ≤ length stack.conds → dimensions ≤ length lengths → AreGridsMade p class (λ _. Some lengths) s0 s1 before after set answers made → AreGridsMade p class (λ c. lengths_behind lengths (slots_from s0 stack dimensions (length lengths) c)) s0 s1 before after set answers made
  AreGridsMade-whole lengths set enough all h =
      let P : (List Bool → Option (List ℤ)) → Type 0 = λ l. AreGridsMade p class l s0 s1 before after set answers made in
      subst P (λ j c. sym (lengths_all s0 stack dimensions lengths enough all c) j) h

  -- one dimension more has its length
  pub AreGridsMade-more : (lengths more : List ℤ) (size : ℤ) (next : Slot) (set : List Bool → Bool) → more ≡ lengths ++ size ∷ [] → next ≡ Int size → AreGridsMade p class (λ c. lengths_behind more (slots_from s0 stack dimensions (length more) c)) s0 s1 before after set answers made → AreGridsMade p class (λ c. lengths_behind lengths (next ∷ slots_from s0 stack dimensions (length lengths + 1) c)) s0 s1 before after set answers made
  AreGridsMade-more lengths more size next set e q h =
      let P : (List Bool → Option (List ℤ)) → Type 0 = λ l. AreGridsMade p class l s0 s1 before after set answers made in
      subst P (λ j c. same c j) h
    where
      same : (c : List Bool) → lengths_behind more (slots_from s0 stack dimensions (length more) c) ≡ lengths_behind lengths (next ∷ slots_from s0 stack dimensions (length lengths + 1) c)
      same c =
          (λ j. lengths_behind (e j) (slots_from s0 stack dimensions (length (e j)) c))
          ∙ ap (λ n. lengths_behind (lengths ++ size ∷ []) (slots_from s0 stack dimensions n c)) (length-append lengths (size ∷ []))
          ∙ lengths_more lengths size (slots_from s0 stack dimensions (length lengths + 1) c)
          ∙ ap (λ slot. lengths_behind lengths (slot ∷ slots_from s0 stack dimensions (length lengths + 1) c)) (sym q)

  -- none has its length, and there were no answers
  pub AreGridsMade-scope : IsLawful s0 → IsLawful s1 → Extends s0 s1 → (path : I) → s0.is_known path ≡ true → answers.scope ≡ s0.never → AreGridsMade p class (λ c. lengths_behind [] (slots_from s0 stack dimensions 0 c)) s0 s1 before after (s0.test path) answers made → AreGridsAnswered p class (λ c. lengths_of (slots_from s0 stack dimensions 0 c)) s0 s1 before after path made
  AreGridsMade-scope l0 l1 e path k n h =
      let P : (List Bool → Option (List ℤ)) → Type 0 = λ l. AreGridsMade p class l s0 s1 before after (s0.test path) answers made in
      AreMade-all (grids_made p class (λ c. lengths_of (slots_from s0 stack dimensions 0 c))) l0 l1 e before after path answers made k n (subst P (λ j c. lengths_first (slots_from s0 stack dimensions 0 c) j) h)

-- ---- the loop over the leaves

pub record IsDividing {S I : Type 0} (p : Program) (class : ℕ) (lengths : List Bool → Option (List ℤ)) (start sets : Sets I) (before now : HeapView S I) (condition : I) (leaves : List (Leaf Slot S I)) (i : ℕ) (answers made : Conditional Answer S I) : Type 0 where
  pub extends : Extends start sets
  pub grids : AreGridsMade p class lengths start sets before now (λ c. start.test condition c && is_some (value_at start (take i leaves) c)) answers made

and_false : (b : Bool) → (b && false) ≡ false
and_false true = refl
and_false false = refl

pub IsDividing-start : {S I : Type 0} (p : Program) (class : ℕ) (lengths : List Bool → Option (List ℤ)) (sets : Sets I) (heap : HeapView S I) (condition : I) (leaves : List (Leaf Slot S I)) (answers : Conditional Answer S I) → IsHeap sets heap → IsCond answer_cmp sets answers → IsDividing p class lengths sets sets heap heap condition leaves 0 answers answers
IsDividing-start p class lengths sets heap condition leaves answers v w = record {
  extends = Extends-refl sets;
  grids = AreMade-none (grids_made p class lengths) sets heap (λ c. sets.test condition c && is_some (value_at sets (take 0 leaves) c)) answers v w (λ c. and_false (sets.test condition c));
}

-- what the leaves of one dimension are
pub record AreSizes {S I : Type 0} (sets : Sets I) (stack : Conditionals Slot S I) (place : ℕ) (leaves : List (Leaf Slot S I)) : Type 0 where
  pub are_leaves : AreLeaves slot_cmp sets leaves
  pub covers : (c : List Bool) → is_some (value_at sets leaves c) ≡ sets.test stack.scope c
  pub slots : (c : List Bool) → drop place (slots_at sets stack c) ≡ or_top (value_at sets leaves c) ∷ drop (suc place) (slots_at sets stack c)

pub AreSizes-of : {S I : Type 0} (sets : Sets I) (stack : Conditionals Slot S I) (place : ℕ) (cond : Conditional Slot S I) (leaves : List (Leaf Slot S I)) → IsRow slot_cmp sets stack → Some cond ≡ slice_get stack.conds place → leaves ≡ cond.leaves → AreSizes sets stack place leaves
AreSizes-of {S = S} {I = I} sets stack place cond leaves v e is =
    let got = IsRow-get slot_cmp sets stack place cond v e in
    let P : List (Leaf Slot S I) → Type 0 = λ xs. AreSizes sets stack place xs in
    subst P (sym is) (record {
      are_leaves = AreLeaves-of slot_cmp sets cond got.0;
      covers = λ c. cond_at-covers slot_cmp sets cond got.0 c ∙ ap (λ i. sets.test i c) got.1;
      slots = λ c. drop_here (slots_at sets stack c) place (slot_at sets cond c) (slots_at-get sets stack place cond c e);
    })

module _ {S I : Type 0} (p : Program) (class : ℕ) (s0 : Sets I) (stack : Conditionals Slot S I) (dimensions : ℕ) (lengths : List ℤ) (condition : I) (leaves : List (Leaf Slot S I)) (before : HeapView S I) (answers : Conditional Answer S I) where
  -- what the lengths come to at each configuration
  abbrev all_lengths : List Bool → Option (List ℤ)
  all_lengths c = lengths_behind lengths (slots_from s0 stack dimensions (length lengths) c)

  abbrev Divides : (sets : Sets I) → (now : HeapView S I) → (i : ℕ) → (made : Conditional Answer S I) → Type 0
  Divides sets now i made = IsDividing p class all_lengths s0 sets before now condition leaves i answers made

  -- the condition of a leaf inside the condition
  pub inner_at : {s1 s2 : Sets I} → Extends s0 s1 → s0.is_known condition ≡ true → (x : Leaf Slot S I) → s0.is_known x.condition ≡ true → (inner : I) → IsSet s2 inner (λ c. s1.test condition c && s1.test x.condition c) → (c : List Bool) → s2.test inner c ≡ (s0.test condition c && s0.test x.condition c)
  inner_at e k x l inner n c = n.test c ∙ (λ j. e.test condition c k j && e.test x.condition c l j)

  -- it has no answers yet
  pub IsDividing-apart : {s1 s2 : Sets I} → Extends s1 s2 → (now : HeapView S I) (i : ℕ) (x : Leaf Slot S I) (inner : I) (made : Conditional Answer S I) → s0.is_known condition ≡ true → AreDisjoint s0 answers.scope condition → AreSizes s0 stack (length stack.conds - dimensions + length lengths) leaves → i < length leaves → x ≡ get_or leaves i x → Divides s1 now i made → IsSet s2 inner (λ c. s1.test condition c && s1.test x.condition c) → s1.is_known made.scope ≡ true → AreDisjoint s2 made.scope inner
  IsDividing-apart {s1 = s1} {s2 = s2} e now i x inner made k d sizes l q h n m = record {
    apart = λ c t. outside c (s2.test inner c) refl (sym (e.test made.scope c m ∙ h.grids.scope c) ∙ t);
  }
    where
      next : IsNext s0 leaves i x
      next = next_leaf slot_cmp s0 leaves i x sizes.are_leaves l q

      outside : (c : List Bool) (b : Bool) → s2.test inner c ≡ b → (s0.test answers.scope c || (s0.test condition c && is_some (value_at s0 (take i leaves) c))) ≡ true → b ≡ false
      outside c false t u = refl
      outside c true t u =
          let here = sym (inner_at h.extends k x next.known inner n c) ∙ t in
          let inside = both_first (s0.test condition c) (s0.test x.condition c) here in
          absurd (nothing (s0.test answers.scope c) refl
          (sym (ap (λ o. s0.test answers.scope c || (s0.test condition c && is_some o)) (next.before.none c (both_second (s0.test condition c) (s0.test x.condition c) here)) ∙ ap (λ b. s0.test answers.scope c || b) (and_false (s0.test condition c))) ∙ u) inside)
        where
          nothing : (a : Bool) → s0.test answers.scope c ≡ a → (a || false) ≡ true → s0.test condition c ≡ true → ⊥
          nothing true v w inside =
              let not_inside = d.apart c v in
              cc (inside, not_inside)
          nothing false v w inside = cc w

  -- it is inside the scope of the operands
  pub IsDividing-inside : {s1 s2 : Sets I} → Extends s1 s2 → (now : HeapView S I) (i : ℕ) (x : Leaf Slot S I) (inner : I) (made : Conditional Answer S I) → IsRow slot_cmp s0 stack → s0.is_known condition ≡ true → ((c : List Bool) → s0.test condition c ≡ true → s0.test stack.scope c ≡ true) → AreSizes s0 stack (length stack.conds - dimensions + length lengths) leaves → i < length leaves → x ≡ get_or leaves i x → Divides s1 now i made → IsSet s2 inner (λ c. s1.test condition c && s1.test x.condition c) → (c : List Bool) → s2.test inner c ≡ true → s2.test stack.scope c ≡ true
  IsDividing-inside e now i x inner made v k inside sizes l q h n c t =
      (Extends-trans h.extends e).test stack.scope c (IsRow-scope_known slot_cmp s0 stack v)
      ∙ inside c (both_first (s0.test condition c) (s0.test x.condition c) (sym (inner_at h.extends k x (next_leaf slot_cmp s0 leaves i x sizes.are_leaves l q).known inner n c) ∙ t))

  -- a leaf whose condition has nothing of the condition
  pub IsDividing-skip : {s1 s2 : Sets I} → IsLawful s2 → Extends s1 s2 → (now : HeapView S I) (i : ℕ) (x : Leaf Slot S I) (inner : I) (made : Conditional Answer S I) → s0.is_known condition ≡ true → AreSizes s0 stack (length stack.conds - dimensions + length lengths) leaves → i < length leaves → x ≡ get_or leaves i x → Divides s1 now i made → IsSet s2 inner (λ c. s1.test condition c && s1.test x.condition c) → inner ≡ s2.never → Divides s2 now (i + 1) made
  IsDividing-skip {s1 = s1} {s2 = s2} lawful e now i x inner made k sizes l q h n never =
      let P : (List Bool → Bool) → Type 0 = λ set. AreGridsMade p class all_lengths s0 s2 before now set answers made in
      record {
        extends = Extends-trans h.extends e;
        grids = subst P (λ j c. sym (same c) j) (AreMade-extends (grids_made p class all_lengths) e before now (λ c. s0.test condition c && is_some (value_at s0 (take i leaves) c)) answers made h.grids);
      }
    where
      next : IsNext s0 leaves i x
      next = next_leaf slot_cmp s0 leaves i x sizes.are_leaves l q

      cases : (a b : Bool) (o : Option Slot) → (a && b) ≡ false → (a && is_some (if b then Some x.value else o)) ≡ (a && is_some o)
      cases true true o f = cc f
      cases true false o f = refl
      cases false b o f = refl

      same : (c : List Bool) → (s0.test condition c && is_some (value_at s0 (take (i + 1) leaves) c)) ≡ (s0.test condition c && is_some (value_at s0 (take i leaves) c))
      same c =
          ap (λ o. s0.test condition c && is_some o) (next.more c)
          ∙ cases (s0.test condition c) (s0.test x.condition c) (value_at s0 (take i leaves) c) (sym (inner_at h.extends k x next.known inner n c) ∙ ap (λ j. s2.test j c) never ∙ lawful.never_test c)

  -- another leaf, whose lengths were answered
  pub IsDividing-step : {s1 s2 s3 : Sets I} → Extends s1 s2 → Extends s2 s3 → (now after : HeapView S I) (i : ℕ) (x : Leaf Slot S I) (inner : I) (made last : Conditional Answer S I) → IsRow slot_cmp s0 stack → s0.is_known condition ≡ true → AreSizes s0 stack (length stack.conds - dimensions + length lengths) leaves → i < length leaves → x ≡ get_or leaves i x → Divides s1 now i made → IsSet s2 inner (λ c. s1.test condition c && s1.test x.condition c) → AreGridsMade p class (λ c. lengths_behind lengths (x.value ∷ slots_from s2 stack dimensions (length lengths + 1) c)) s2 s3 now after (s2.test inner) made last → Divides s3 after (i + 1) last
  IsDividing-step {s1 = s1} {s2 = s2} {s3 = s3} e f now after i x inner made last v k sizes l q h n g = record {
    extends = Extends-trans h.extends (Extends-trans e f);
    grids = AreMade-then (grids_made p class all_lengths) (grids_made p class (λ c. lengths_behind lengths (x.value ∷ slots_from s2 stack dimensions (length lengths + 1) c))) f before now after
        (λ c. s0.test condition c && is_some (value_at s0 (take i leaves) c)) (s2.test inner) (λ c. s0.test condition c && is_some (value_at s0 (take (i + 1) leaves) c))
        answers made last apart (λ c t. ap (grid_made p class) (agree c t)) union
        (AreMade-extends (grids_made p class all_lengths) e before now (λ c. s0.test condition c && is_some (value_at s0 (take i leaves) c)) answers made h.grids)
        g;
  }
    where
      next : IsNext s0 leaves i x
      next = next_leaf slot_cmp s0 leaves i x sizes.are_leaves l q

      at : (c : List Bool) → s2.test inner c ≡ (s0.test condition c && s0.test x.condition c)
      at c = inner_at h.extends k x next.known inner n c

      here : (c : List Bool) → s2.test inner c ≡ true → s0.test x.condition c ≡ true
      here c t = both_second (s0.test condition c) (s0.test x.condition c) (sym (at c) ∙ t)

      apart : (c : List Bool) → s2.test inner c ≡ true → (s0.test condition c && is_some (value_at s0 (take i leaves) c)) ≡ false
      apart c t = ap (λ o. s0.test condition c && is_some o) (next.before.none c (here c t)) ∙ and_false (s0.test condition c)

      agree : (c : List Bool) → s2.test inner c ≡ true → lengths_behind lengths (x.value ∷ slots_from s2 stack dimensions (length lengths + 1) c) ≡ all_lengths c
      agree c t =
          let value : or_top (value_at s0 leaves c) ≡ x.value = ap or_top (leaf_value slot_cmp s0 leaves i x c sizes.are_leaves l q (here c t)) in
          let number : length stack.conds - dimensions + (length lengths + 1) ≡ suc (length stack.conds - dimensions + length lengths) = omega arith in
          let later = slots_later (Extends-trans h.extends e) stack v c in
          ap (lengths_behind lengths) ((λ j. sym value j ∷ drop (number j) (later j)) ∙ sym (sizes.slots c))

      cases : (a b : Bool) (o : Option Slot) → (a && is_some (if b then Some x.value else o)) ≡ ((a && is_some o) || (a && b))
      cases true true None = refl
      cases true true (Some y) = refl
      cases true false None = refl
      cases true false (Some y) = refl
      cases false b o = refl

      union : (c : List Bool) → (s0.test condition c && is_some (value_at s0 (take (i + 1) leaves) c)) ≡ ((s0.test condition c && is_some (value_at s0 (take i leaves) c)) || s2.test inner c)
      union c =
          ap (λ o. s0.test condition c && is_some o) (next.more c)
          ∙ cases (s0.test condition c) (s0.test x.condition c) (value_at s0 (take i leaves) c)
          ∙ ap (λ b. (s0.test condition c && is_some (value_at s0 (take i leaves) c)) || b) (sym (at c))

  -- after the last leaf
  pub IsDividing-end : {s1 : Sets I} → (now : HeapView S I) (i : ℕ) (made : Conditional Answer S I) → AreSizes s0 stack (length stack.conds - dimensions + length lengths) leaves → ((c : List Bool) → s0.test condition c ≡ true → s0.test stack.scope c ≡ true) → length leaves ≤ i → Divides s1 now i made → AreGridsMade p class all_lengths s0 s1 before now (s0.test condition) answers made
  IsDividing-end {s1 = s1} now i made sizes inside l h =
      let P : (List Bool → Bool) → Type 0 = λ set. AreGridsMade p class all_lengths s0 s1 before now set answers made in
      subst P (λ j c. same c j) h.grids
    where
      absorbed : (a b : Bool) → (a ≡ true → b ≡ true) → (a && b) ≡ a
      absorbed true b f = f refl
      absorbed false b f = refl

      same : (c : List Bool) → (s0.test condition c && is_some (value_at s0 (take i leaves) c)) ≡ s0.test condition c
      same c =
          ap (λ ys. s0.test condition c && is_some (value_at s0 ys c)) (take_all i leaves l)
          ∙ ap (λ b. s0.test condition c && b) (sizes.covers c)
          ∙ absorbed (s0.test condition c) (s0.test stack.scope c) (inside c)
