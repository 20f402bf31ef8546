-- What copying an object makes of a heap.
use Rattle.std.proofs.Common.{◌≡◌, ℕ, ◌+◌, ◌<◌, ◌≤◌, zero, suc, Bool, true, List, [], ◌∷◌, ◌++◌, refl, sym, ◌∙◌, ap, arith, get_or, length, map, take}
use Rattle.std.proofs.lemmas.List.{length-append, map-append, take_all, take_more}
use Rattle.std.specs.Prelude.{Some}
use Rattle.vx_cond.specs.Cond.{Conditional, IsCondOf, IsInside, cond_at}
use Rattle.vx_cond.specs.Leaves.{value_within}
use Rattle.vx_cond.specs.Slots.{or_top}
use Rattle.vx_cond.proofs.CondLaws.{IsCond-of, cond_at-of}
use Rattle.vx_cond.proofs.RowLaws.{scope_is}
use Rattle.vx_cond.proofs.SideLaws.{cond_at-covers}
use Rattle.vx_heap.specs.Cells.{AreCells, AreCellsWithin, IsCell, IsCellInside, IsCellOf, IsCellWithin, cell_slot, cells_at}
use Rattle.vx_heap.specs.Changing.{IsMadeAt, named_object, with_object}
use Rattle.vx_heap.specs.Heap.{HeapView, IsHeap, IsObject, are_held, object_in, object_of, value_of}
use Rattle.vx_heap.specs.declared.cell_list.Cell.{Cell}
use Rattle.vx_heap.specs.declared.cell_list.Cell.TheVariants.{Plain}
use Rattle.vx_heap.specs.declared.object.HeapObject.{HeapObject}
use Rattle.vx_heap.proofs.Cells.{holds_in, is_object_in, named, object_there}
use Rattle.vx_heap.proofs.CellWrites.{Holds, cell_inside, new_cell, new_slot, read_inside, slot_of}
use Rattle.vx_heap.proofs.HeapLaws.{AreCells-extends, IsHeap-extends, are_held-extends, cells_at-extends, globals_at-extends, value_of-extends}
use Rattle.vx_heap.proofs.Making.{made_changed, made_held}
use Rattle.vx_heap.proofs.Written.{some_within, within_there}
use Rattle.vx_java.specs.Machine.{no_object}
use Rattle.vx_space.specs.Sets.{Extends, IsLawful, Sets}
use Rattle.vx_space.proofs.Spaces.{Extends-refl, Extends-trans}
use Rattle.vx_value.specs.Slot.{slot_cmp}
use Rattle.vx_value.specs.declared.slot.Slot.{Slot}

-- ---- one cell

pub IsCellWithin-plain : {S I : Type 0} (sets : Sets I) (path : I) (x : Cell S I) (slot : Slot) → x ≡ Plain slot → IsCellWithin sets sets path x (Plain slot)
IsCellWithin-plain sets path x slot e = record {
  is_cell = tt;
  at = λ c t. ap (cell_slot sets c) (sym e);
}

pub IsCellWithin-made : {S I : Type 0} {old new : Sets I} → IsLawful new → Extends old new → (path : I) (x cell : Cell S I) (cond made : Conditional Slot S I) → Holds x cond → IsCellInside old path x → old.is_known path ≡ true → IsCondOf slot_cmp new (value_within old path (cond_at old cond)) made → IsCellOf made cell → IsCellWithin old new path x cell
IsCellWithin-made {old = old} {new = new} lawful e path x cell cond made q h k m is =
    let value = value_within old path (slot_of old x) in
    let read = read_inside old new path x cond made q h m in
    let valid = IsCond-of slot_cmp new value made read in
    let scope : made.scope ≡ path = scope_is slot_cmp lawful value made path (old.test path) read (record { known = e.known path k; test = λ c. e.test path c k }) (λ c. some_within (old.test path c) (cell_slot old c x)) in
    record {
      is_cell = new_cell new path made cell is valid scope;
      at = λ c t. new_slot new made cell c is (cond_at-covers slot_cmp new made valid c ∙ ap (λ i. new.test i c) scope ∙ e.test path c k ∙ t) ∙ ap or_top (cond_at-of slot_cmp new value made c read ∙ within_there (old.test path c) (Some (cell_slot old c x)) t);
    }

-- ---- cells one by one

cell_at_place : {S I : Type 0} (sets : Sets I) (presence : I) (cells : List (Cell S I)) (i : ℕ) (x : Cell S I) → AreCells sets presence cells → i < length cells → x ≡ get_or cells i x → IsCell sets presence x
cell_at_place sets presence [] i x h l e = absurd (omega (arith, l))
cell_at_place sets presence (y ∷ ys) zero x h l e = rw e h.0
cell_at_place sets presence (y ∷ ys) (suc i) x h l e = cell_at_place sets presence ys i x h.1 (omega (arith, l)) e

AreCells-push : {S I : Type 0} (sets : Sets I) (presence : I) (cells : List (Cell S I)) (x : Cell S I) → AreCells sets presence cells → IsCell sets presence x → AreCells sets presence (cells ++ x ∷ [])
AreCells-push sets presence [] x h k = (k, tt)
AreCells-push sets presence (y ∷ ys) x h k = (h.0, AreCells-push sets presence ys x h.1 k)

first_same : (a b : Slot) → a ∷ [] ≡ b ∷ [] → a ≡ b
first_same a b e = cc

-- what the loop keeps: the cells so far
pub record IsCopying {S I : Type 0} (start sets : Sets I) (path : I) (xs : List (Cell S I)) (i : ℕ) (made : List (Cell S I)) : Type 0 where
  pub extends : Extends start sets
  pub cells : AreCells sets path made
  pub count : length made ≡ length (take i xs)
  pub at : (c : List Bool) → start.test path c ≡ true → cells_at sets made c ≡ cells_at start (take i xs) c

pub IsCopying-start : {S I : Type 0} (sets : Sets I) (path : I) (xs : List (Cell S I)) → IsCopying sets sets path xs 0 []
IsCopying-start sets path xs = record { extends = Extends-refl sets; cells = tt; count = refl; at = λ c t. refl }

module _ {S I : Type 0} {s0 s1 : Sets I} (path presence : I) (xs : List (Cell S I)) (i : ℕ) (x : Cell S I) (made : List (Cell S I)) (valid : AreCells s0 presence xs) (l : i < length xs) (e : x ≡ get_or xs i x) (k : s0.is_known path ≡ true) (g : IsCopying s0 s1 path xs i made) where
  -- the next cell may be read
  pub next_inside : s0.is_known presence ≡ true → IsInside s0 path presence → IsCellInside s1 path x
  next_inside known inside =
      let later : IsInside s1 path presence = record { inside = λ c t. g.extends.test presence c known ∙ inside.inside c (sym (g.extends.test path c k) ∙ t) } in
      let here : AreCells s1 presence (x ∷ []) = AreCells-extends g.extends presence (x ∷ []) (cell_at_place s0 presence xs i x valid l e, tt) in
      cell_inside s1 presence path x later here.0

  pub IsCopying-step : {s2 : Sets I} (y : Cell S I) → Extends s1 s2 → IsCellWithin s1 s2 path x y → IsCopying s0 s2 path xs (i + 1) (made ++ y ∷ [])
  IsCopying-step {s2 = s2} y f w = record {
    extends = Extends-trans g.extends f;
    cells = AreCells-push s2 path made y (AreCells-extends f path made g.cells) w.is_cell;
    count =
        let before = length-append made (y ∷ []) in
        let after = length-append (take i xs) (x ∷ []) in
        let more : length (take (i + 1) xs) ≡ length (take i xs ++ x ∷ []) = ap length (take_more xs i x l ∙ sym (ap (λ z. take i xs ++ z ∷ []) e)) in
        omega (arith, before, after, more, g.count);
    at = λ c t.
        let before : cells_at s2 made c ≡ cells_at s0 (take i xs) c = cells_at-extends f path made g.cells c ∙ g.at c t in
        let same : cell_slot s1 c x ≡ cell_slot s0 c x = first_same (cell_slot s1 c x) (cell_slot s0 c x) (cells_at-extends g.extends presence (x ∷ []) (cell_at_place s0 presence xs i x valid l e, tt) c) in
        let next : cell_slot s2 c y ≡ cell_slot s0 c x = w.at c (g.extends.test path c k ∙ t) ∙ same in
        map-append (cell_slot s2 c) made (y ∷ [])
        ∙ (λ j. before j ++ next j ∷ [])
        ∙ sym (map-append (cell_slot s0 c) (take i xs) (x ∷ []))
        ∙ ap (λ cells. cells_at s0 cells c) (ap (λ z. take i xs ++ z ∷ []) e ∙ sym (take_more xs i x l));
  }

pub AreCellsWithin-end : {S I : Type 0} {s0 s1 : Sets I} (path : I) (xs : List (Cell S I)) (i : ℕ) (made : List (Cell S I)) → IsCopying s0 s1 path xs i made → length xs ≤ i → AreCellsWithin s0 s1 path xs made
AreCellsWithin-end {s0 = s0} path xs i made g l = record {
  cells = g.cells;
  count = g.count ∙ ap length (take_all i xs l);
  at = λ c t. g.at c t ∙ ap (λ cells. cells_at s0 cells c) (take_all i xs l);
}

-- ---- the object

-- the object that a reference names where it is there
pub named_is : {S I : Type 0} (sets : Sets I) (heap : HeapView S I) (reference : ℕ) (c : List Bool) → reference < length heap.objects → sets.test (object_in heap reference).presence c ≡ true → named_object sets heap reference c ≡ object_of sets heap c (object_in heap reference)
named_is sets heap reference c l t = named sets (object_of sets heap c) heap.objects c reference (object_in heap reference) no_object l (object_there heap reference (object_in heap reference) l refl) t

-- at each configuration of the path the copy stands for what the object stands for there
pub IsMadeAt-copied : {S I : Type 0} {old new : Sets I} → Extends old new → (heap : HeapView S I) (reference : ℕ) (path : I) (o : HeapObject S I) (cells : List (Cell S I)) → IsHeap old heap → reference < length heap.objects → o ≡ object_in heap reference → old.is_known path ≡ true → IsInside old path o.presence → AreCellsWithin old new path o.cells cells → IsMadeAt old new heap path (named_object old heap reference) (record heap { objects = heap.objects ++ record { class = o.class; length = o.length; presence = path; cells = cells } ∷ [] }) (length heap.objects)
IsMadeAt-copied {S = S} {I = I} {old = old} {new = new} e heap reference path o cells v l q k n w =
    let there = object_there heap reference o l q in
    let known = is_object_in old heap reference o v l q in
    let later = IsHeap-extends e heap v in
    let made : HeapObject S I = record { class = o.class; length = o.length; presence = path; cells = cells } in
    let is : IsObject new made = record { known = e.known path k; cells = w.cells; short = known.short; sized = rw w.count known.sized } in
    let inside : (c : List Bool) → new.test path c ≡ true → old.test path c ≡ true = λ c t. sym (e.test path c k) ∙ t in
    let held : (c : List Bool) → new.test path c ≡ true → are_held new heap c (cells_at new cells c) ≡ true = λ c t.
    ap (are_held new heap c) (w.at c (inside c t)) ∙ are_held-extends e heap v c (cells_at old o.cells c) ∙ holds_in old heap reference o v l q c (n.inside c (inside c t)) in
    let stands : (c : List Bool) → new.test path c ≡ true → object_of new heap c made ≡ named_object old heap reference c = λ c t.
    let values : map (value_of new heap c) (cells_at new cells c) ≡ map (value_of old heap c) (cells_at old o.cells c) = ap (map (value_of new heap c)) (w.at c (inside c t)) ∙ values_extend (cells_at old o.cells c) c in
    (λ j. record { class = o.class.0; size = o.length; cells = values j }) ∙ sym (named old (object_of old heap c) heap.objects c reference o no_object l there (n.inside c (inside c t))) in
    let changed = made_changed new heap made (named_object old heap reference) later is held stands in
    record {
      changed = record {
        is_heap = changed.is_heap;
        grows = changed.grows;
        keeps = changed.keeps;
        inside = λ c t. changed.inside c (e.test path c k ∙ t) ∙ ap (with_object (named_object old heap reference c)) (globals_at-extends e heap v c);
        outside = λ c t. changed.outside c (e.test path c k ∙ t) ∙ globals_at-extends e heap v c;
      };
      reference_is = refl;
      held = λ c t. made_held new heap made c (e.test path c k ∙ t);
    }
  where
    values_extend : (slots : List Slot) (c : List Bool) → map (value_of new heap c) slots ≡ map (value_of old heap c) slots
    values_extend [] c = refl
    values_extend (slot ∷ slots) c = λ j. value_of-extends e heap v c slot j ∷ values_extend slots c j
