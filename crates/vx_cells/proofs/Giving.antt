-- What places come to where the values of cells are given, one leaf after the other.
use Rattle.std.proofs.Common.{◌≡◌, ℕ, ◌+◌, ◌<◌, ◌≤◌, Bool, true, false, List, refl, sym, ◌∙◌, ap, take, get_or, length, subst}
use Rattle.std.proofs.lemmas.List.{take_all}
use Rattle.std.specs.Option.{option_or}
use Rattle.std.specs.Prelude.{Option, Some, None, is_some, if◌then◌else◌, unwrap_or}
use Rattle.vx_space.specs.Sets.{Sets, Extends, IsLawful}
use Rattle.vx_space.proofs.Spaces.{Extends-refl, Extends-trans}
use Rattle.vx_cond.specs.declared.cond.Leaf.{Leaf}
use Rattle.vx_cond.specs.Leaves.{IsLifted, first_of, value_at}
use Rattle.vx_cond.specs.Cond.{Conditional, IsCond, IsCondLifting, IsCondOf, IsInside, cond_at}
use Rattle.vx_cond.specs.Slots.{or_top, slot_at}
use Rattle.vx_cond.proofs.CondLaws.{IsCond-extends, IsCond-of, cond_at-extends, cond_at-of}
use Rattle.vx_cond.proofs.LeafLoops.{IsNext, next_leaf}
use Rattle.vx_cond.proofs.RowLaws.{scope_is}
use Rattle.vx_cond.proofs.SideLaws.{cond_at-covers, first_absent, first_there}
use Rattle.vx_group_states.proofs.Gathering.{AreLeaves-of}
use Rattle.vx_group_states.proofs.SettleLaws.{lifting_at}
use Rattle.vx_group_states.specs.Answering.{answer_at}
use Rattle.vx_group_states.specs.Answers.{answer_cmp}
use Rattle.vx_group_states.specs.declared.answer.Answer.{Answer}
use Rattle.vx_group_states.specs.declared.answer.Answer.TheVariants as answer
use Rattle.vx_heap.specs.Heap.{HeapView, IsCellRead, IsHeap}
use Rattle.vx_heap.specs.Changing.{Grows}
use Rattle.vx_heap.proofs.Growing.{is_held-grown}
use Rattle.vx_heap.proofs.HeapLaws.{globals_at-extends, is_held-extends, name_at-extends, value_of-extends}
use Rattle.vx_heap.proofs.Known.{cond_known}
use Rattle.vx_heap.proofs.Written.{either_scope}
use Rattle.vx_java.specs.Machine.{no_object}
use Rattle.vx_java.specs.Machine.{Top as TopValue}
use Rattle.vx_link.specs.declared.program.Program.{Program}
use Rattle.vx_list.specs.Places.{item_or}
use Rattle.vx_value.specs.Slot.{slot_cmp}
use Rattle.vx_value.specs.declared.slot.Slot.{Slot}
use Rattle.vx_value.specs.declared.slot.Slot.TheVariants.{Ref}
use Rattle.vx_cells.specs.Places.{place_cmp}
use Rattle.vx_cells.specs.Through.{AreAnswers, ArePlacesHeld, IsAnswered, IsGivenFrom, IsGivenWhereCell, IsPass, is_cell, is_place_held, place_at}
use Rattle.vx_cells.specs.declared.place.Place.{Place}
use Rattle.vx_cells.specs.declared.place.Place.TheVariants.{At, Illegal, Null, Outside, Refused}
use Rattle.vx_cells.proofs.WrittenThrough.{leaf_place}

-- ---- one cell

answer_of : (R : Slot → Answer → Type 0) → ((s : Slot) (a : Answer) → R s a → a ≡ answer.Give s) → (s : Option Slot) (a : Option Answer) → is_some s ≡ true → IsLifted R s a → unwrap_or a answer.Illegal ≡ answer.Give (or_top s)
answer_of R law None a t l = cc
answer_of R law (Some s) None t l = absurd l
answer_of R law (Some s) (Some a) t l = law s a l

-- the values that were read are given
pub given_at : {S I : Type 0} {s0 s1 : Sets I} (s2 : Sets I) → Extends s0 s1 → (heap : HeapView S I) (reference cell : ℕ) (path : I) (value : Conditional Slot S I) (given : Conditional Answer S I) (R : Slot → Answer → Type 0) → ((s : Slot) (a : Answer) → R s a → a ≡ answer.Give s) → IsHeap s0 heap → s0.is_known path ≡ true → IsCellRead s0 s1 heap reference cell path value → IsCondLifting answer_cmp s2 R (cond_at s1 value) given → (c : List Bool) → s0.test path c ≡ true → IsGivenFrom s0 heap c reference cell (answer_at s2 given c)
given_at {s0 = s0} {s1 = s1} s2 e heap reference cell path value given R law v k read l c t =
    let there = cond_at-covers slot_cmp s1 value read.is_cond c ∙ ap (λ i. s1.test i c) read.scope ∙ e.test path c k ∙ t in
    record {
      slot = slot_at s1 value c;
      is = answer_of R law (cond_at s1 value c) (cond_at s2 given c) there (lifting_at answer_cmp s2 R (cond_at s1 value) given l c);
      value = sym (value_of-extends e heap v c (slot_at s1 value c)) ∙ read.at c t;
      held = sym (is_held-extends e heap v c (slot_at s1 value c)) ∙ read.held c t;
    }

-- ---- the loop

-- what stands at a place so far: its value where it is a cell whose leaf was read, else the answer before
abbrev pub IsGivenOf : {S I : Type 0} → Sets I → HeapView S I → List Bool → Option Place → (before after : Answer) → Type 0
IsGivenOf sets heap c None before after = after ≡ before
IsGivenOf sets heap c (Some place) before after = IsGivenWhereCell sets heap c place before after

pub record IsGiving {S I : Type 0} (start sets : Sets I) (heap : HeapView S I) (places : Conditional Place S I) (answers : Conditional Answer S I) (i : ℕ) (made : Conditional Answer S I) : Type 0 where
  pub extends : Extends start sets
  pub is_cond : IsCond answer_cmp sets made
  pub scope : made.scope ≡ places.scope
  pub at : (c : List Bool) → IsGivenOf start heap c (value_at start (take i places.leaves) c) (answer_at start answers c) (answer_at sets made c)

pub IsGiving-start : {S I : Type 0} (sets : Sets I) (heap : HeapView S I) (places : Conditional Place S I) (answers : Conditional Answer S I) → IsCond answer_cmp sets answers → answers.scope ≡ places.scope → IsGiving sets sets heap places answers 0 answers
IsGiving-start sets heap places answers v s = record { extends = Extends-refl sets; is_cond = v; scope = s; at = λ c. refl }

-- a leaf that is no cell
pub IsGiving-skip : {S I : Type 0} (s0 s1 : Sets I) (heap : HeapView S I) (places : Conditional Place S I) (answers made : Conditional Answer S I) (i : ℕ) (x : Leaf Place S I) → IsCond place_cmp s0 places → i < length places.leaves → x ≡ get_or places.leaves i x → is_cell x.value ≡ false → IsGiving s0 s1 heap places answers i made → IsGiving s0 s1 heap places answers (i + 1) made
IsGiving-skip s0 s1 heap places answers made i x v l e n h = record {
  extends = h.extends;
  is_cond = h.is_cond;
  scope = h.scope;
  at = λ c.
      let P : Option Place → Type 0 = λ o. IsGivenOf s0 heap c o (answer_at s0 answers c) (answer_at s1 made c) in
      subst P (sym (next.more c)) (cases c (s0.test x.condition c) (value_at s0 (take i places.leaves) c) (λ t. next.before.none c t) (h.at c));
}
  where
    next : IsNext s0 places.leaves i x
    next = next_leaf place_cmp s0 places.leaves i x (AreLeaves-of place_cmp s0 places v) l e

    no_cell : (c : List Bool) (p : Place) (before after : Answer) → is_cell p ≡ false → after ≡ before → IsGivenWhereCell s0 heap c p before after
    no_cell c Illegal before after n e = e
    no_cell c Null before after n e = e
    no_cell c (Outside k) before after n e = e
    no_cell c Refused before after n e = e
    no_cell c (At r cell) before after n e = cc n

    cases : (c : List Bool) (b : Bool) (o : Option Place) → (b ≡ true → o ≡ None) → IsGivenOf s0 heap c o (answer_at s0 answers c) (answer_at s1 made c) → IsGivenOf s0 heap c (if b then Some x.value else o) (answer_at s0 answers c) (answer_at s1 made c)
    cases c true o f k =
        let P : Option Place → Type 0 = λ r. IsGivenOf s0 heap c r (answer_at s0 answers c) (answer_at s1 made c) in
        no_cell c x.value (answer_at s0 answers c) (answer_at s1 made c) n (subst P (f refl) k)
    cases c false o f k = k

-- over an earlier space
earlier_given : {S I : Type 0} {s0 s1 : Sets I} → Extends s0 s1 → (heap : HeapView S I) → IsHeap s0 heap → (c : List Bool) (r cell : ℕ) (a : Answer) → IsGivenFrom s1 heap c r cell a → IsGivenFrom s0 heap c r cell a
earlier_given e heap v c r cell a h = record {
  slot = h.slot;
  is = h.is;
  value =
      sym (value_of-extends e heap v c h.slot)
      ∙ h.value
      ∙ (
      let globals = globals_at-extends e heap v c in
      let name = name_at-extends e heap v c r in
      λ i. item_or (item_or ((globals i).objects) (name i) no_object).cells cell TopValue);
  held = sym (is_held-extends e heap v c h.slot) ∙ h.held;
}

pub IsGiving-step : {S I : Type 0} {s0 s1 s2 s3 : Sets I} → IsLawful s3 → Extends s1 s2 → Extends s2 s3 → (heap : HeapView S I) (places : Conditional Place S I) (answers made given after : Conditional Answer S I) (i : ℕ) (x : Leaf Place S I) (r cell : ℕ) → IsHeap s0 heap → IsCond place_cmp s0 places → i < length places.leaves → x ≡ get_or places.leaves i x → x.value ≡ At r cell → IsGiving s0 s1 heap places answers i made → IsCond answer_cmp s2 given → given.scope ≡ x.condition → ((c : List Bool) → s1.test x.condition c ≡ true → IsGivenFrom s1 heap c r cell (answer_at s2 given c)) → IsCondOf answer_cmp s3 (first_of (cond_at s2 given) (cond_at s2 made)) after → IsGiving s0 s3 heap places answers (i + 1) after
IsGiving-step {S = S} {I = I} {s0 = s0} {s1 = s1} {s2 = s2} {s3 = s3} lawful e f heap places answers made given after i x r cell v w l q is h g scope said m = record {
  extends = Extends-trans (Extends-trans h.extends e) f;
  is_cond = IsCond-of answer_cmp s3 (first_of (cond_at s2 given) (cond_at s2 made)) after m;
  scope = scope_is answer_cmp lawful (first_of (cond_at s2 given) (cond_at s2 made)) after places.scope (s0.test places.scope) m
      (record { known = f.known places.scope (e.known places.scope (h.extends.known places.scope known)); test = λ c. f.test places.scope c (e.known places.scope (h.extends.known places.scope known)) ∙ to2 c })
      (λ c. either_scope (cond_at s2 given c) (cond_at s2 made c) (s2.test x.condition c) (s0.test places.scope c) (cond_at-covers answer_cmp s2 given g c ∙ ap (λ k. s2.test k c) scope) (cond_at-covers answer_cmp s2 made (IsCond-extends answer_cmp e made h.is_cond) c ∙ ap (λ k. s2.test k c) h.scope ∙ to2 c) (λ t. (leaf_place s0 places i x c w l q (sym (condition c) ∙ t)).1));
  at = λ c.
      let P : Option Place → Type 0 = λ o. IsGivenOf s0 heap c o (answer_at s0 answers c) (answer_at s3 after c) in
      subst P (sym (next.more c)) (cases c (s0.test x.condition c) refl);
}
  where
    next : IsNext s0 places.leaves i x
    next = next_leaf place_cmp s0 places.leaves i x (AreLeaves-of place_cmp s0 places w) l q

    known : s0.is_known places.scope ≡ true
    known = (cond_known place_cmp s0 places w).0

    to2 : (c : List Bool) → s2.test places.scope c ≡ s0.test places.scope c
    to2 c = e.test places.scope c (h.extends.known places.scope known) ∙ h.extends.test places.scope c known

    condition : (c : List Bool) → s2.test x.condition c ≡ s0.test x.condition c
    condition c = e.test x.condition c (h.extends.known x.condition next.known) ∙ h.extends.test x.condition c next.known

    some : (c : List Bool) → is_some (cond_at s2 given c) ≡ s0.test x.condition c
    some c = cond_at-covers answer_cmp s2 given g c ∙ ap (λ k. s2.test k c) scope ∙ condition c

    value : (c : List Bool) → cond_at s3 after c ≡ option_or (cond_at s2 given c) (cond_at s2 made c)
    value c = cond_at-of answer_cmp s3 (first_of (cond_at s2 given) (cond_at s2 made)) after c m

    cases : (c : List Bool) (b : Bool) → s0.test x.condition c ≡ b → IsGivenOf s0 heap c (if b then Some x.value else value_at s0 (take i places.leaves) c) (answer_at s0 answers c) (answer_at s3 after c)
    cases c true t =
        let here : answer_at s3 after c ≡ answer_at s2 given c = ap (λ o. unwrap_or o answer.Illegal) (value c ∙ first_there (cond_at s2 given c) (cond_at s2 made c) (some c ∙ t)) in
        let P : Answer → Type 0 = λ a. IsGivenFrom s0 heap c r cell a in
        let Q : Place → Type 0 = λ p. IsGivenWhereCell s0 heap c p (answer_at s0 answers c) (answer_at s3 after c) in
        subst Q (sym is) (subst P (sym here) (earlier_given h.extends heap v c r cell (answer_at s2 given c) (said c (h.extends.test x.condition c next.known ∙ t))))
    cases c false t =
        let here : answer_at s3 after c ≡ answer_at s1 made c = ap (λ o. unwrap_or o answer.Illegal) (value c ∙ first_absent (cond_at s2 given c) (cond_at s2 made c) (some c ∙ t) ∙ cond_at-extends answer_cmp e made h.is_cond c) in
        let P : Answer → Type 0 = λ a. IsGivenOf s0 heap c (value_at s0 (take i places.leaves) c) (answer_at s0 answers c) a in
        subst P (sym here) (h.at c)

-- the values of a leaf are inside the scope of all
pub given_within : {S I : Type 0} {s0 s1 s2 : Sets I} → Extends s1 s2 → (heap : HeapView S I) (places : Conditional Place S I) (answers made given : Conditional Answer S I) (i : ℕ) (x : Leaf Place S I) → IsCond place_cmp s0 places → i < length places.leaves → x ≡ get_or places.leaves i x → IsGiving s0 s1 heap places answers i made → given.scope ≡ x.condition → IsInside s2 given.scope made.scope
given_within {s0 = s0} {s1 = s1} {s2 = s2} e heap places answers made given i x w l q h scope = record {
  inside = λ c t.
      let to2 = Extends-trans h.extends e in
      let here : s0.test x.condition c ≡ true = sym (to2.test x.condition c (next_leaf place_cmp s0 places.leaves i x (AreLeaves-of place_cmp s0 places w) l q).known) ∙ sym (ap (λ k. s2.test k c) scope) ∙ t in
      ap (λ k. s2.test k c) h.scope ∙ to2.test places.scope c ((cond_known place_cmp s0 places w).0) ∙ (leaf_place s0 places i x c w l q here).1;
}

pub IsGiving-end : {S I : Type 0} (s0 s1 : Sets I) (heap : HeapView S I) (places : Conditional Place S I) (answers made : Conditional Answer S I) (i : ℕ) → IsCond place_cmp s0 places → length places.leaves ≤ i → IsGiving s0 s1 heap places answers i made → (c : List Bool) → s0.test places.scope c ≡ true → IsGivenWhereCell s0 heap c (place_at s0 places c) (answer_at s0 answers c) (answer_at s1 made c)
IsGiving-end s0 s1 heap places answers made i v l h c t =
    by (cond_at s0 places c) refl (cond_at-covers place_cmp s0 places v c ∙ t)
  where
    by : (o : Option Place) → cond_at s0 places c ≡ o → is_some o ≡ true → IsGivenWhereCell s0 heap c (place_at s0 places c) (answer_at s0 answers c) (answer_at s1 made c)
    by None e u = cc u
    by (Some place) e u =
        let P : Option Place → Type 0 = λ o. IsGivenOf s0 heap c o (answer_at s0 answers c) (answer_at s1 made c) in
        let Q : Place → Type 0 = λ p. IsGivenWhereCell s0 heap c p (answer_at s0 answers c) (answer_at s1 made c) in
        subst Q (sym (ap (λ o. unwrap_or o Illegal) e)) (subst P (ap (λ ys. value_at s0 ys c) (take_all i places.leaves l) ∙ e) (h.at c))

-- ---- answers of places with the values given

-- a place that is passed, and then given where it is a cell, is read
pub read_answer : {S I : Type 0} (p : Program) (sets : Sets I) (heap : HeapView S I) (c : List Bool) (place : Place) (before after : Answer) → IsAnswered p heap IsPass place before → IsGivenWhereCell sets heap c place before after → IsAnswered p heap (IsGivenFrom sets heap c) place after
read_answer p sets heap c Illegal before after h k = k ∙ h
read_answer p sets heap c Null before after h k = k ∙ h
read_answer p sets heap c (Outside i) before after h k = record { text = h.text; is = k ∙ h.is; number = h.number }
read_answer p sets heap c Refused before after h k = k ∙ h
read_answer p sets heap c (At r cell) before after h k = k

earlier_place : {S I : Type 0} {s0 s1 : Sets I} → Extends s0 s1 → (heap : HeapView S I) → IsHeap s0 heap → (c : List Bool) (place : Place) (before after : Answer) → IsGivenWhereCell s1 heap c place before after → IsGivenWhereCell s0 heap c place before after
earlier_place e heap v c Illegal before after h = h
earlier_place e heap v c Null before after h = h
earlier_place e heap v c (Outside i) before after h = h
earlier_place e heap v c Refused before after h = h
earlier_place e heap v c (At r cell) before after h = earlier_given e heap v c r cell after h

-- ---- places over a later heap

later_place : {S I : Type 0} {s0 s1 : Sets I} → Extends s0 s1 → (places : Conditional Place S I) → IsCond place_cmp s0 places → (c : List Bool) → place_at s1 places c ≡ place_at s0 places c
later_place e places v c = ap (λ o. unwrap_or o Illegal) (cond_at-extends place_cmp e places v c)

pub ArePlacesHeld-later : {S I : Type 0} {s0 s1 : Sets I} → Extends s0 s1 → (before after : HeapView S I) (places : Conditional Place S I) → IsHeap s0 before → Grows before after → IsCond place_cmp s0 places → ArePlacesHeld s0 before places → ArePlacesHeld s1 after places
ArePlacesHeld-later {s0 = s0} {s1 = s1} e before after places v k w h = record {
  held = λ c t.
      let here : s0.test places.scope c ≡ true = sym (e.test places.scope c ((cond_known place_cmp s0 places w).0)) ∙ t in
      ap (is_place_held s1 after c) (later_place e places w c) ∙ grown c (place_at s0 places c) (h.held c here);
}
  where
    grown : (c : List Bool) (place : Place) → is_place_held s0 before c place ≡ true → is_place_held s1 after c place ≡ true
    grown c Illegal h = refl
    grown c Null h = refl
    grown c (Outside i) h = refl
    grown c Refused h = refl
    grown c (At r cell) h = is_held-grown e before after v k c (Ref r) h

-- places that are passed, and then given where they are cells, are read
pub AreAnswers-read : {S I : Type 0} (p : Program) {s0 s1 s2 : Sets I} → Extends s0 s1 → Extends s1 s2 → (heap : HeapView S I) (places : Conditional Place S I) (passes answers : Conditional Answer S I) → IsHeap s0 heap → IsCond place_cmp s0 places → AreAnswers p s0 s1 heap (λ _. IsPass) places passes → IsCond answer_cmp s2 answers → answers.scope ≡ places.scope → ((c : List Bool) → s1.test places.scope c ≡ true → IsGivenWhereCell s1 heap c (place_at s1 places c) (answer_at s1 passes c) (answer_at s2 answers c)) → AreAnswers p s0 s2 heap (IsGivenFrom s0 heap) places answers
AreAnswers-read p {s0 = s0} {s1 = s1} {s2 = s2} e f heap places passes answers v w h u s given = record {
  is_cond = u;
  scope = s;
  at = λ c t.
      let there : s1.test places.scope c ≡ true = e.test places.scope c ((cond_known place_cmp s0 places w).0) ∙ t in
      let P : Place → Type 0 = λ place. IsGivenWhereCell s1 heap c place (answer_at s1 passes c) (answer_at s2 answers c) in
      read_answer p s0 heap c (place_at s0 places c) (answer_at s1 passes c) (answer_at s2 answers c) (h.at c t) (earlier_place e heap v c (place_at s0 places c) (answer_at s1 passes c) (answer_at s2 answers c) (subst P (later_place e places w c) (given c there)));
}
