-- A class that is made ready inside a path: marks put one after the other, and where the row proceeds.
use Rattle.std.proofs.Common.{◌≡◌, ℕ, ◌+◌, ◌<◌, ◌≤◌, zero, suc, Bool, true, false, List, [], ◌∷◌, ◌++◌, ◌&&◌, refl, sym, ◌∙◌, ap, subst, arith, get_or, length, map, take}
use Rattle.std.proofs.lemmas.List.{length-map, take_all, take_more}
use Rattle.std.specs.Prelude.{if◌then◌else◌, not}
use Rattle.vx_heap.specs.Heap.{Globals, HeapView, IsHeap, globals_at, inits_at}
use Rattle.vx_java.specs.Initialisation.{init_chain, quiet_chain}
use Rattle.vx_link.specs.declared.program.Program.{Program}
use Rattle.vx_space.specs.Sets.{Extends, IsSet, Sets}
use Rattle.vx_space.proofs.Spaces.{Extends-refl, Extends-trans, IsSet-extends}
use Rattle.vx_ready.specs.Changing.{IsChanged}
use Rattle.vx_ready.specs.Initialising.{AreMarks, IsReadied, goes_on, has_failed, marked_at, numbers_of, readied, with_done, with_state}
use Rattle.vx_ready.specs.declared.initialising.Mark.{Mark}
use Rattle.vx_ready.specs.declared.initialising.Readiness.{Readiness}
use Rattle.vx_ready.proofs.Changes.{IsChanged-before, IsChanged-none, IsChanged-trans, with_state-append}
use Rattle.vx_value.specs.declared.ids.ClassId.{ClassId}
use Rattle.vx_value.specs.declared.slot.InitState.{InitState}
use Rattle.vx_ready.proofs.Climbing.{inits_later, marked_at-append, marked_at-extends}
use Rattle.vx_group_states.proofs.StateLaws.{both_first}

-- what the loop keeps: the marks so far are put
pub record IsMarking {S I : Type 0} (start sets : Sets I) (before heap : HeapView S I) (state : InitState) (marks : List (Mark S I)) (i : ℕ) : Type 0 where
  pub extends : Extends start sets
  pub changed : IsChanged start sets before heap (λ c. with_state state (marked_at start (take i marks) c))

pub IsMarking-start : {S I : Type 0} (sets : Sets I) (heap : HeapView S I) (state : InitState) (marks : List (Mark S I)) → IsHeap sets heap → IsMarking sets sets heap heap state marks 0
IsMarking-start sets heap state marks v = record {
  extends = Extends-refl sets;
  changed = IsChanged-before (Extends-refl sets) heap heap (λ c g. g) (λ c. with_state state (marked_at sets (take 0 marks) c)) v (λ c. refl) (IsChanged-none (Extends-refl sets) heap v);
}

mark_at : {S I : Type 0} (sets : Sets I) (set : List Bool → Bool) (marks : List (Mark S I)) (i : ℕ) (x : Mark S I) → AreMarks sets set marks → i < length marks → x ≡ get_or marks i x → AreMarks sets set (x ∷ [])
mark_at sets set [] i x h l e = absurd (omega arith)
mark_at sets set (m ∷ ms) zero x h l e = rw e (h.0, h.1, tt)
mark_at sets set (m ∷ ms) (suc i) x h l e = mark_at sets set ms i x h.2 (omega arith) e

pub mark_known : {S I : Type 0} {start sets : Sets I} → Extends start sets → (set : List Bool → Bool) (marks : List (Mark S I)) (i : ℕ) (x : Mark S I) → AreMarks start set marks → i < length marks → x ≡ get_or marks i x → sets.is_known x.condition ≡ true
mark_known {start = start} e set marks i x h l at = e.known x.condition (mark_at start set marks i x h l at).0

pub mark_inside : {S I : Type 0} {start sets : Sets I} → Extends start sets → (set : List Bool → Bool) (marks : List (Mark S I)) (i : ℕ) (x : Mark S I) → AreMarks start set marks → i < length marks → x ≡ get_or marks i x → (c : List Bool) → sets.test x.condition c ≡ true → set c ≡ true
mark_inside {start = start} e set marks i x h l at c t =
    let here = mark_at start set marks i x h l at in
    here.1 c (sym (e.test x.condition c here.0) ∙ t)

pub IsMarking-step : {S I : Type 0} {s0 s1 s2 : Sets I} (set : List Bool → Bool) (before middle after : HeapView S I) (state : InitState) (marks : List (Mark S I)) (i : ℕ) (x : Mark S I) → AreMarks s0 set marks → i < length marks → x ≡ get_or marks i x → IsMarking s0 s1 before middle state marks i → Extends s1 s2 → IsChanged s1 s2 middle after (λ c. with_state state (marked_at s1 (x ∷ []) c)) → IsMarking s0 s2 before after state marks (i + 1)
IsMarking-step {S = S} {I = I} {s0 = s0} {s1 = s1} {s2 = s2} set before middle after state marks i x h l at g e w =
    let here = mark_at s0 set marks i x h l at in
    let whole = IsChanged-trans before middle after (λ c. with_state state (marked_at s0 (take i marks) c)) (λ c. with_state state (marked_at s1 (x ∷ []) c)) g.changed w in
    record {
      extends = Extends-trans g.extends e;
      changed = record {
        is_heap = whole.is_heap;
        same = whole.same;
        statics = whole.statics;
        inits = whole.inits;
        at = λ c.
            whole.at c
            ∙ ap (λ cs. with_state state cs (with_state state (marked_at s0 (take i marks) c) (globals_at s0 before c))) (marked_at-extends g.extends set (x ∷ []) here c)
            ∙ sym (with_state-append state (marked_at s0 (take i marks) c) (marked_at s0 (x ∷ []) c) (globals_at s0 before c))
            ∙ ap (λ cs. with_state state cs (globals_at s0 before c)) (sym (ap (λ ms. marked_at s0 ms c) (take_more marks i x l ∙ ap (λ y. take i marks ++ y ∷ []) (sym at)) ∙ marked_at-append s0 (take i marks) (x ∷ []) c));
      };
    }

pub IsMarking-end : {S I : Type 0} (s0 s1 : Sets I) (before after : HeapView S I) (state : InitState) (marks : List (Mark S I)) (i : ℕ) → length marks ≤ i → IsMarking s0 s1 before after state marks i → IsChanged s0 s1 before after (λ c. with_state state (marked_at s0 marks c))
IsMarking-end s0 s1 before after state marks i l g = record {
  is_heap = g.changed.is_heap;
  same = g.changed.same;
  statics = g.changed.statics;
  inits = g.changed.inits;
  at = λ c. g.changed.at c ∙ ap (λ ms. with_state state (marked_at s0 ms c) (globals_at s0 before c)) (take_all i marks l);
}

-- ---- marks in one condition

abbrev pub marks_in : {S I : Type 0} → I → List ClassId → List (Mark S I)
marks_in condition classes = map (λ class. record { class = class; condition = condition }) classes

pub marks_in-are : (S : Type 0) {I : Type 0} (sets : Sets I) (set : List Bool → Bool) (condition : I) (classes : List ClassId) → sets.is_known condition ≡ true → ((c : List Bool) → sets.test condition c ≡ true → set c ≡ true) → AreMarks {S = S} sets set (marks_in condition classes)
marks_in-are S sets set condition [] k i = tt
marks_in-are S sets set condition (d ∷ classes) k i = (k, i, marks_in-are S sets set condition classes k i)

pub marks_in-at : (S : Type 0) {I : Type 0} (sets : Sets I) (condition : I) (classes : List ClassId) (c : List Bool) → marked_at {S = S} sets (marks_in condition classes) c ≡ (if sets.test condition c then numbers_of classes else [])
marks_in-at S sets condition [] c = none (sets.test condition c)
  where
    none : (b : Bool) → [] ≡ (if b then numbers_of [] else [])
    none true = refl
    none false = refl
marks_in-at S sets condition (d ∷ classes) c = more (sets.test condition c) (marks_in-at S sets condition classes c)
  where
    more : (b : Bool) {ds : List ℕ} → ds ≡ (if b then numbers_of classes else []) → (if b then d.0 ∷ ds else ds) ≡ (if b then numbers_of (d ∷ classes) else [])
    more true h = ap (λ ds. d.0 ∷ ds) h
    more false h = h

pub mark_of : {S I : Type 0} (condition : I) (classes : List ClassId) (i : ℕ) (x : Mark S I) (d : ClassId) → i < length classes → x ≡ record { class = get_or classes i d; condition = condition } → x ≡ get_or (marks_in condition classes) i x
mark_of condition [] i x d l h = absurd (omega arith)
mark_of condition (y ∷ classes) zero x d l h = h
mark_of condition (y ∷ classes) (suc i) x d l h = mark_of condition classes i x d (omega arith) h

pub mark_among : (S : Type 0) {I : Type 0} (condition : I) (classes : List ClassId) (i : ℕ) → i < length classes → i < length (marks_in {S = S} condition classes)
mark_among S condition classes i l =
    let same : length (marks_in {S = S} condition classes) ≡ length classes = simp length-map in
    omega (arith, same, l)

pub marked_classes : {S I : Type 0} (s0 s1 : Sets I) (before after : HeapView S I) (condition : I) (classes : List ClassId) (state : InitState) (i : ℕ) → length classes ≤ i → IsMarking s0 s1 before after state (marks_in condition classes) i → IsChanged s0 s1 before after (λ c. with_state state (if s0.test condition c then numbers_of classes else []))
marked_classes {S = S} s0 s1 before after condition classes state i l g =
    let same : length (marks_in {S = S} condition classes) ≡ length classes = simp length-map in
    let done = IsMarking-end s0 s1 before after state (marks_in condition classes) i (omega (arith, same, l)) g in
    record {
      is_heap = done.is_heap;
      same = done.same;
      statics = done.statics;
      inits = done.inits;
      at = λ c. done.at c ∙ ap (λ cs. with_state state cs (globals_at s0 before c)) (marks_in-at S s0 condition classes c);
    }

-- ---- the whole

proceeds_test : (p f q r b : Bool) → r ≡ (p && not (p && f)) → b ≡ (r && not q) → (r && not b) ≡ (p && (not f && q))
proceeds_test p f q r b h k = rw (k, h) (cases p f q)
  where
    cases : (p f q : Bool) → ((p && not (p && f)) && not ((p && not (p && f)) && not q)) ≡ (p && (not f && q))
    cases false f q = refl
    cases true true q = refl
    cases true false true = refl
    cases true false false = refl

done_where : (t : Bool) (x : Globals) (cs : List ℕ) → with_done (if t then cs else []) x ≡ (if t then with_done cs x else x)
done_where true x cs = refl
done_where false x cs = refl

-- marks inside a wider set
pub AreMarks-inside : {S I : Type 0} (sets : Sets I) (set wider : List Bool → Bool) (marks : List (Mark S I)) → ((c : List Bool) → set c ≡ true → wider c ≡ true) → AreMarks sets set marks → AreMarks sets wider marks
AreMarks-inside sets set wider [] i h = tt
AreMarks-inside sets set wider (m ∷ ms) i h = (h.0, (λ c t. i c (h.1 c t)), AreMarks-inside sets set wider ms i h.2)

-- the rest is inside the path
pub rest_inside : {I : Type 0} {s0 s1 : Sets I} (s2 : Sets I) (path fails rest : I) → s0.is_known path ≡ true → Extends s0 s1 → IsSet s2 rest (λ c. s1.test path c && not (s1.test fails c)) → (c : List Bool) → s2.test rest c ≡ true → s0.test path c ≡ true
rest_inside {s1 = s1} s2 path fails rest k e r c t = sym (e.test path c k) ∙ both_first (s1.test path c) (not (s1.test fails c)) (sym (r.test c) ∙ t)

module _ {S I : Type 0} (p : Program) (s0 s1 s2 s3 s4 : Sets I) (before : HeapView S I) (class : ℕ) (path fails rest begins proceeds : I) (v : IsHeap s0 before) (k : s0.is_known path ≡ true) (e01 : Extends s0 s1) (f : IsSet s1 fails (λ c. s0.test path c && has_failed (inits_at s0 before c) class)) (e12 : Extends s1 s2) (r : IsSet s2 rest (λ c. s1.test path c && not (s1.test fails c))) (e23 : Extends s2 s3) (b : IsSet s3 begins (λ c. s2.test rest c && not (quiet_chain p (inits_at s2 before c) class))) (g : IsSet s4 proceeds (λ c. s3.test rest c && not (s3.test begins c))) where
  proceeds_at : (c : List Bool) → s4.test proceeds c ≡ (s0.test path c && goes_on p (inits_at s0 before c) class)
  proceeds_at c =
      let inits = inits_at s0 before c in
      let e02 = Extends-trans e01 e12 in
      let rest_is : s2.test rest c ≡ (s0.test path c && not (s0.test path c && has_failed inits class)) = r.test c ∙ (λ i. e01.test path c k i && not (f.test c i)) in
      let begins_is : s3.test begins c ≡ (s2.test rest c && not (quiet_chain p inits class)) = b.test c ∙ ap (λ is. s2.test rest c && not (quiet_chain p is class)) (inits_later e02 before v c) in
      g.test c
      ∙ ap (λ x. x && not (s3.test begins c)) (e23.test rest c r.known)
      ∙ proceeds_test (s0.test path c) (has_failed inits class) (quiet_chain p inits class) (s2.test rest c) (s3.test begins c) rest_is begins_is

  -- and what proceeds too
  pub proceeds_inside : (c : List Bool) → s4.test proceeds c ≡ true → s0.test path c ≡ true
  proceeds_inside c t = both_first (s0.test path c) (goes_on p (inits_at s0 before c) class) (sym (proceeds_at c) ∙ t)

  pub IsReadied-made : Extends s3 s4 → {s5 s6 : Sets I} (after : HeapView S I) (marks : List (Mark S I)) → Extends s4 s5 → ((c : List Bool) → marked_at s5 marks c ≡ (if s4.test proceeds c then init_chain p (inits_at s4 before c) class else [])) → Extends s5 s6 → IsChanged s5 s6 before after (λ c. with_done (marked_at s5 marks c)) → (readiness : Readiness S I) → readiness ≡ record { proceeds = proceeds; fails = fails } → IsReadied p s0 s6 before after class path readiness
  IsReadied-made e34 {s5 = s5} {s6 = s6} after marks e45 m e56 w readiness is =
      let e04 = Extends-trans e01 (Extends-trans e12 (Extends-trans e23 e34)) in
      let e14 = Extends-trans e12 (Extends-trans e23 e34) in
      let e46 = Extends-trans e45 e56 in
      let P : Readiness S I → Type 0 = λ x. IsReadied p s0 s6 before after class path x in
      subst P (sym is) (record {
        fails = IsSet-extends (Extends-trans e14 e46) fails _ f;
        proceeds = IsSet-extends e46 proceeds _ (record { known = g.known; test = proceeds_at });
        changed = IsChanged-before (Extends-trans e04 e45) before after (λ c. with_done (marked_at s5 marks c)) (λ c. readied p class (s0.test path c)) v (λ c.
            ap (λ cs. with_done cs (globals_at s0 before c)) (m c ∙ (λ i. if proceeds_at c i then init_chain p (inits_later e04 before v c i) class else []))
            ∙ done_where (s0.test path c && goes_on p (inits_at s0 before c) class) (globals_at s0 before c) (init_chain p (inits_at s0 before c) class)) w;
      })
