-- The walk up the superclasses of a class, for all configurations of a path at once.
use Rattle.std.proofs.Common.{◌≡◌, ℕ, ◌-◌, ◌<◌, ◌≤◌, zero, suc, Bool, true, false, List, [], ◌∷◌, ◌++◌, ◌&&◌, ◌||◌, refl, sym, ◌∙◌, ap, arith, length, append_assoc}
use Rattle.std.specs.Prelude.{Option, Some, None, if◌then◌else◌, not}
use Rattle.vx_cond.specs.Cond.{IsInside}
use Rattle.vx_heap.specs.Heap.{HeapView, IsHeap, inits_at}
use Rattle.vx_heap.proofs.HeapLaws.{globals_at-extends}
use Rattle.vx_java.specs.Initialisation.{init_chain, is_failed, is_not, quiet_chain}
use Rattle.vx_java.specs.Machine.{init_at}
use Rattle.vx_java.proofs.Chains.{begins_goes_on, begins_stops, begins_with, not_begun, quiet_above, quiet_goes_on, quiet_on, quiet_stops}
use Rattle.vx_java.proofs.Walks.{chain_from, chain_row}
use Rattle.vx_link.specs.Parts.{class_at}
use Rattle.vx_link.specs.declared.program.Program.{Program}
use Rattle.vx_space.specs.Sets.{Extends, IsLawful, IsSet, Sets}
use Rattle.vx_space.proofs.Spaces.{Extends-refl, Extends-trans}
use Rattle.vx_group_states.proofs.StateLaws.{both_first}
use Rattle.vx_value.specs.declared.ids.ClassId.{ClassId}
use Rattle.vx_value.specs.declared.slot.InitState.{InitState}
use Rattle.vx_value.specs.declared.slot.InitState.TheVariants.{Not, Running, Done, Failed}
use Rattle.vx_ready.specs.Initialising.{AreMarks, has_failed, is_quiet, marked_at}
use Rattle.vx_ready.specs.declared.initialising.Mark.{Mark}
use Rattle.vx_heap.proofs.Written.{allowed_known}

-- ---- the end of a walk

chain_none : (p : Program) (n : ℕ) → chain_from p n None ≡ []
chain_none p zero = refl
chain_none p (suc n) = refl

chain_zero : (p : Program) (n : ℕ) (next : Option ClassId) → n ≤ 0 → chain_from p n next ≡ []
chain_zero p zero next l = refl
chain_zero p (suc n) next l = absurd (omega arith)

-- the states stay where the space is extended
pub inits_later : {S I : Type 0} {s0 s1 : Sets I} → Extends s0 s1 → (heap : HeapView S I) → IsHeap s0 heap → (c : List Bool) → inits_at s1 heap c ≡ inits_at s0 heap c
inits_later e heap v c = λ i. (globals_at-extends e heap v c i).inits

-- ---- where the chain isn't quiet

-- what the walk keeps: the chain isn't quiet where that is known already, and where it goes on and isn't quiet from here on
pub record IsClimbing {S I : Type 0} (p : Program) (start sets : Sets I) (heap : HeapView S I) (class : ℕ) (path : I) (left : ℕ) (next : Option ClassId) (climbing unquiet : I) : Type 0 where
  pub extends : Extends start sets
  pub climbing_known : sets.is_known climbing ≡ true
  pub unquiet_known : sets.is_known unquiet ≡ true
  pub inside : (c : List Bool) → sets.test climbing c ≡ true → start.test path c ≡ true
  pub at : (c : List Bool) → (sets.test unquiet c || (sets.test climbing c && not (quiet_on p (inits_at start heap c) (chain_from p left next)))) ≡ (start.test path c && not (quiet_chain p (inits_at start heap c) class))

nothing_or : (a b : Bool) → a ≡ false → (a || b) ≡ b
nothing_or a b h = rw h refl

pub IsClimbing-start : {S I : Type 0} (p : Program) {sets : Sets I} → IsLawful sets → (heap : HeapView S I) (class : ClassId) (path : I) → sets.is_known path ≡ true → IsClimbing p sets sets heap class.0 path (length p.classes) (Some class) path sets.never
IsClimbing-start p {sets = sets} lawful heap class path k = record {
  extends = Extends-refl sets;
  climbing_known = k;
  unquiet_known = lawful.never_known;
  inside = λ c t. t;
  at = λ c. nothing_or (sets.test sets.never c) _ (lawful.never_test c);
}

none_left : (u k q : Bool) → q ≡ true → (u || (k && not q)) ≡ u
none_left true k q h = refl
none_left false true q h = rw h refl
none_left false false q h = refl

none_climbs : (u k q : Bool) → k ≡ false → (u || (k && not q)) ≡ u
none_climbs true k q h = refl
none_climbs false k q h = rw h refl

pub unquiet_none : {S I : Type 0} (p : Program) {start sets : Sets I} (heap : HeapView S I) (class : ℕ) (path : I) (left : ℕ) (next : Option ClassId) (climbing unquiet : I) → IsClimbing p start sets heap class path left next climbing unquiet → next ≡ None → IsSet sets unquiet (λ c. start.test path c && not (quiet_chain p (inits_at start heap c) class))
unquiet_none p {start = start} {sets = sets} heap class path left next climbing unquiet g e = record {
  known = g.unquiet_known;
  test = λ c. sym (none_left (sets.test unquiet c) (sets.test climbing c) _ (ap (λ o. quiet_on p (inits_at start heap c) (chain_from p left o)) e ∙ ap (quiet_on p (inits_at start heap c)) (chain_none p left))) ∙ g.at c;
}

pub unquiet_end : {S I : Type 0} (p : Program) {start sets : Sets I} (heap : HeapView S I) (class : ℕ) (path : I) (left : ℕ) (next : Option ClassId) (climbing unquiet : I) → IsClimbing p start sets heap class path left next climbing unquiet → left ≤ 0 → IsSet sets unquiet (λ c. start.test path c && not (quiet_chain p (inits_at start heap c) class))
unquiet_end p {start = start} {sets = sets} heap class path left next climbing unquiet g l = record {
  known = g.unquiet_known;
  test = λ c. sym (none_left (sets.test unquiet c) (sets.test climbing c) _ (ap (quiet_on p (inits_at start heap c)) (chain_zero p left next l))) ∙ g.at c;
}

pub unquiet_never : {S I : Type 0} (p : Program) {start sets : Sets I} → IsLawful sets → (heap : HeapView S I) (class : ℕ) (path : I) (left : ℕ) (next : Option ClassId) (climbing unquiet : I) → IsClimbing p start sets heap class path left next climbing unquiet → climbing ≡ sets.never → IsSet sets unquiet (λ c. start.test path c && not (quiet_chain p (inits_at start heap c) class))
unquiet_never p {start = start} {sets = sets} lawful heap class path left next climbing unquiet g n = record {
  known = g.unquiet_known;
  test = λ c. sym (none_climbs (sets.test unquiet c) (sets.test climbing c) _ (ap (λ i. sets.test i c) n ∙ lawful.never_test c)) ∙ g.at c;
}

not_failed : (s : InitState) → is_not s ≡ true → is_failed s ≡ false
not_failed Not h = refl
not_failed Running h = cc
not_failed Done h = cc
not_failed Failed h = cc

-- a class whose marking has no other effect
quiet_step : (u k b f r w : Bool) → (b ≡ true → f ≡ false) → (b ≡ true → w ≡ r) → (b ≡ false → w ≡ not f) → ((u || (k && f)) || ((k && b) && not r)) ≡ (u || (k && not w))
quiet_step u k true f r w g h i = rw (g refl, h refl) (cases u k)
  where
    cases : (u k : Bool) → ((u || (k && false)) || ((k && true) && not r)) ≡ (u || (k && not r))
    cases true k = refl
    cases false true = refl
    cases false false = refl
quiet_step u k false f r w g h i = rw (i refl) (cases u k f)
  where
    cases : (u k f : Bool) → ((u || (k && f)) || ((k && false) && not r)) ≡ (u || (k && not (not f)))
    cases true k f = refl
    cases false true true = refl
    cases false true false = refl
    cases false false f = refl

-- a class whose marking has one
loud_step : (u k b f w : Bool) → (b ≡ true → f ≡ false) → (b ≡ true → w ≡ false) → (b ≡ false → w ≡ not f) → ((u || (k && f)) || (k && b)) ≡ (u || (k && not w))
loud_step u k true f w g h i = rw (g refl, h refl) (cases u k)
  where
    cases : (u k : Bool) → ((u || (k && false)) || (k && true)) ≡ (u || (k && not false))
    cases true k = refl
    cases false true = refl
    cases false false = refl
loud_step u k false f w g h i = rw (i refl) (cases u k f)
  where
    cases : (u k f : Bool) → ((u || (k && f)) || (k && false)) ≡ (u || (k && not (not f)))
    cases true k f = refl
    cases false true true = refl
    cases false true false = refl
    cases false false f = refl

module _ {S I : Type 0} (p : Program) (s0 s1 s2 s3 s4 : Sets I) (heap : HeapView S I) (path : I) (left : ℕ) (next : Option ClassId) (class d : ClassId) (climbing unquiet failed wider higher : I) (v : IsHeap s0 heap) (g : IsClimbing p s0 s1 heap class.0 path left next climbing unquiet) (some : 0 < left) (is : next ≡ Some d) (e12 : Extends s1 s2) (f : IsSet s2 failed (λ c. s1.test climbing c && has_failed (inits_at s1 heap c) d.0)) (e23 : Extends s2 s3) (w : IsSet s3 wider (λ c. s2.test unquiet c || s2.test failed c)) (e34 : Extends s3 s4) (h : IsSet s4 higher (λ c. s3.test climbing c && is_not (init_at (inits_at s3 heap c) d.0))) where
  wider_test : (c : List Bool) → s4.test wider c ≡ (s1.test unquiet c || (s1.test climbing c && has_failed (inits_at s0 heap c) d.0))
  wider_test c =
      e34.test wider c w.known ∙ w.test c
      ∙ (λ i. e12.test unquiet c g.unquiet_known i || f.test c i)
      ∙ ap (λ is. s1.test unquiet c || (s1.test climbing c && has_failed is d.0)) (inits_later g.extends heap v c)

  higher_test : (c : List Bool) → s4.test higher c ≡ (s1.test climbing c && not_begun (inits_at s0 heap c) d.0)
  higher_test c =
      h.test c
      ∙ (λ i. ((e23.test climbing c (e12.known climbing g.climbing_known)) ∙ e12.test climbing c g.climbing_known) i && not_begun (inits_later (Extends-trans g.extends (Extends-trans e12 e23)) heap v c i) d.0)

  pub IsClimbing-step : (above : Option ClassId) → above ≡ (class_at p d.0).superclass → is_quiet p d.0 ≡ true → IsClimbing p s0 s4 heap class.0 path (left - 1) above higher wider
  IsClimbing-step above up quiet = record {
    extends = Extends-trans g.extends (Extends-trans e12 (Extends-trans e23 e34));
    climbing_known = h.known;
    unquiet_known = e34.known wider w.known;
    inside = λ c t. g.inside c (both_first (s1.test climbing c) (not_begun (inits_at s0 heap c) d.0) (sym (higher_test c) ∙ t));
    at = λ c.
        let inits = inits_at s0 heap c in
        let rest = chain_from p (left - 1) above in
        (λ i. wider_test c i || (higher_test c i && not (quiet_on p inits rest)))
        ∙ quiet_step (s1.test unquiet c) (s1.test climbing c) (not_begun inits d.0) (has_failed inits d.0) (quiet_on p inits rest) (quiet_on p inits (d.0 ∷ rest)) (not_failed (init_at inits d.0)) (λ b. quiet_goes_on p inits d.0 rest b quiet) (λ b. quiet_above p inits d.0 rest b)
        ∙ ap (λ cs. s1.test unquiet c || (s1.test climbing c && not (quiet_on p inits cs))) (sym (chain_row p left next d above is some up))
        ∙ g.at c;
  }

  pub unquiet_loud : {s5 : Sets I} (all : I) → is_quiet p d.0 ≡ false → IsSet s5 all (λ c. s4.test wider c || s4.test higher c) → IsSet s5 all (λ c. s0.test path c && not (quiet_chain p (inits_at s0 heap c) class.0))
  unquiet_loud all loud a = record {
    known = a.known;
    test = λ c.
        let inits = inits_at s0 heap c in
        let above = (class_at p d.0).superclass in
        let rest = chain_from p (left - 1) above in
        a.test c
        ∙ (λ i. wider_test c i || higher_test c i)
        ∙ loud_step (s1.test unquiet c) (s1.test climbing c) (not_begun inits d.0) (has_failed inits d.0) (quiet_on p inits (d.0 ∷ rest)) (not_failed (init_at inits d.0)) (λ b. quiet_stops p inits d.0 rest b loud) (λ b. quiet_above p inits d.0 rest b)
        ∙ ap (λ cs. s1.test unquiet c || (s1.test climbing c && not (quiet_on p inits cs))) (sym (chain_row p left next d above is some refl))
        ∙ g.at c;
  }

-- ---- the classes of the chain

-- marks over a later space, and with one more
AreMarks-extends : {S I : Type 0} {old new : Sets I} → Extends old new → (set : List Bool → Bool) (marks : List (Mark S I)) → AreMarks old set marks → AreMarks new set marks
AreMarks-extends e set [] h = tt
AreMarks-extends e set (m ∷ ms) h = (e.known m.condition h.0, (λ c t. h.1 c (sym (e.test m.condition c h.0) ∙ t)), AreMarks-extends e set ms h.2)

AreMarks-push : {S I : Type 0} (sets : Sets I) (set : List Bool → Bool) (marks : List (Mark S I)) (mark : Mark S I) → AreMarks sets set marks → sets.is_known mark.condition ≡ true → ((c : List Bool) → sets.test mark.condition c ≡ true → set c ≡ true) → AreMarks sets set (marks ++ mark ∷ [])
AreMarks-push sets set [] mark h k i = (k, i, tt)
AreMarks-push sets set (m ∷ ms) mark h k i = (h.0, h.1, AreMarks-push sets set ms mark h.2 k i)

pub marked_at-extends : {S I : Type 0} {old new : Sets I} → Extends old new → (set : List Bool → Bool) (marks : List (Mark S I)) → AreMarks old set marks → (c : List Bool) → marked_at new marks c ≡ marked_at old marks c
marked_at-extends e set [] h c = refl
marked_at-extends e set (m ∷ ms) h c = λ i. if e.test m.condition c h.0 i then m.class.0 ∷ marked_at-extends e set ms h.2 c i else marked_at-extends e set ms h.2 c i

pub marked_at-append : {S I : Type 0} (sets : Sets I) (xs ys : List (Mark S I)) (c : List Bool) → marked_at sets (xs ++ ys) c ≡ marked_at sets xs c ++ marked_at sets ys c
marked_at-append sets [] ys c = refl
marked_at-append sets (m ∷ ms) ys c = cases (sets.test m.condition c) _ _ (marked_at-append sets ms ys c)
  where
    cases : (b : Bool) {cs : List ℕ} (ds es : List ℕ) → cs ≡ ds ++ es → (if b then m.class.0 ∷ cs else cs) ≡ (if b then m.class.0 ∷ ds else ds) ++ es
    cases true ds es h = ap (λ xs. m.class.0 ∷ xs) h
    cases false ds es h = h

-- what the walk keeps: the marks so far, and where it goes on what has not begun from here on
pub record IsCollecting {S I : Type 0} (p : Program) (start sets : Sets I) (heap : HeapView S I) (class : ℕ) (path : I) (left : ℕ) (next : Option ClassId) (climbing : I) (marks : List (Mark S I)) : Type 0 where
  pub extends : Extends start sets
  pub climbing_known : sets.is_known climbing ≡ true
  pub inside : (c : List Bool) → sets.test climbing c ≡ true → start.test path c ≡ true
  pub are_marks : AreMarks sets (start.test path) marks
  pub at : (c : List Bool) → (marked_at sets marks c ++ (if sets.test climbing c then begins_with (inits_at start heap c) (chain_from p left next) else [])) ≡ (if start.test path c then init_chain p (inits_at start heap c) class else [])

pub IsCollecting-start : {S I : Type 0} (p : Program) (sets : Sets I) (heap : HeapView S I) (class : ClassId) (path : I) → sets.is_known path ≡ true → IsCollecting p sets sets heap class.0 path (length p.classes) (Some class) path []
IsCollecting-start p sets heap class path k = record { extends = Extends-refl sets; climbing_known = k; inside = λ c t. t; are_marks = tt; at = λ c. refl }

append_nothing : (xs ys : List ℕ) → ys ≡ [] → xs ++ ys ≡ xs
append_nothing [] ys h = h
append_nothing (x ∷ xs) ys h = ap (λ zs. x ∷ zs) (append_nothing xs ys h)

either_none : (b : Bool) (xs : List ℕ) → xs ≡ [] → (if b then xs else []) ≡ []
either_none true xs h = h
either_none false xs h = refl

left_out : (b : Bool) (xs : List ℕ) → b ≡ false → (if b then xs else []) ≡ []
left_out b xs h = rw h refl

module _ {S I : Type 0} (p : Program) {start sets : Sets I} (heap : HeapView S I) (class : ℕ) (path : I) (left : ℕ) (next : Option ClassId) (climbing : I) (marks : List (Mark S I)) (g : IsCollecting p start sets heap class path left next climbing marks) where
  pub marks_none : next ≡ None → (c : List Bool) → marked_at sets marks c ≡ (if start.test path c then init_chain p (inits_at start heap c) class else [])
  marks_none e c = sym (append_nothing (marked_at sets marks c) _ (either_none (sets.test climbing c) _ (ap (λ o. begins_with (inits_at start heap c) (chain_from p left o)) e ∙ ap (begins_with (inits_at start heap c)) (chain_none p left)))) ∙ g.at c

  pub marks_end : left ≤ 0 → (c : List Bool) → marked_at sets marks c ≡ (if start.test path c then init_chain p (inits_at start heap c) class else [])
  marks_end l c = sym (append_nothing (marked_at sets marks c) _ (either_none (sets.test climbing c) _ (ap (begins_with (inits_at start heap c)) (chain_zero p left next l)))) ∙ g.at c

  pub marks_never : IsLawful sets → climbing ≡ sets.never → (c : List Bool) → marked_at sets marks c ≡ (if start.test path c then init_chain p (inits_at start heap c) class else [])
  marks_never lawful n c = sym (append_nothing (marked_at sets marks c) _ (left_out (sets.test climbing c) _ (ap (λ i. sets.test i c) n ∙ lawful.never_test c))) ∙ g.at c

chain_step : (k b : Bool) (d : ℕ) (rest whole : List ℕ) → (b ≡ true → whole ≡ d ∷ rest) → (b ≡ false → whole ≡ []) → (if (k && b) then d ∷ [] else []) ++ (if (k && b) then rest else []) ≡ (if k then whole else [])
chain_step true true d rest whole h i = sym (h refl)
chain_step true false d rest whole h i = sym (i refl)
chain_step false b d rest whole h i = refl

pub IsCollecting-step : {S I : Type 0} (p : Program) {s0 s1 s2 : Sets I} (heap : HeapView S I) (path : I) (left : ℕ) (next : Option ClassId) (class d : ClassId) (above : Option ClassId) (climbing higher : I) (marks : List (Mark S I)) → IsHeap s0 heap → IsCollecting p s0 s1 heap class.0 path left next climbing marks → 0 < left → next ≡ Some d → above ≡ (class_at p d.0).superclass → Extends s1 s2 → IsSet s2 higher (λ c. s1.test climbing c && is_not (init_at (inits_at s1 heap c) d.0)) → IsCollecting p s0 s2 heap class.0 path (left - 1) above higher (marks ++ record { class = d; condition = higher } ∷ [])
IsCollecting-step {S = S} {I = I} p {s0 = s0} {s1 = s1} {s2 = s2} heap path left next class d above climbing higher marks v g some is up e h =
    let mark : Mark S I = record { class = d; condition = higher } in
    let higher_test : (c : List Bool) → s2.test higher c ≡ (s1.test climbing c && not_begun (inits_at s0 heap c) d.0) = λ c. h.test c ∙ ap (λ is. s1.test climbing c && not_begun is d.0) (inits_later g.extends heap v c) in
    let within : (c : List Bool) → s2.test higher c ≡ true → s0.test path c ≡ true = λ c t. g.inside c (both_first (s1.test climbing c) (not_begun (inits_at s0 heap c) d.0) (sym (higher_test c) ∙ t)) in
    record {
      extends = Extends-trans g.extends e;
      climbing_known = h.known;
      inside = within;
      are_marks = AreMarks-push s2 (s0.test path) marks mark (AreMarks-extends e (s0.test path) marks g.are_marks) h.known within;
      at = λ c.
          let inits = inits_at s0 heap c in
          let rest = chain_from p (left - 1) above in
          let before = marked_at s1 marks c in
          ap (λ cs. cs ++ (if s2.test higher c then begins_with inits rest else [])) (marked_at-append s2 marks (mark ∷ []) c ∙ ap (λ cs. cs ++ (if s2.test higher c then d.0 ∷ [] else [])) (marked_at-extends e (s0.test path) marks g.are_marks c))
          ∙ append_assoc before _ _
          ∙ ap (λ b. before ++ ((if b then d.0 ∷ [] else []) ++ (if b then begins_with inits rest else []))) (higher_test c)
          ∙ ap (λ cs. before ++ cs) (chain_step (s1.test climbing c) (not_begun inits d.0) d.0 (begins_with inits rest) (begins_with inits (d.0 ∷ rest)) (begins_goes_on inits d.0 rest) (begins_stops inits d.0 rest))
          ∙ ap (λ cs. before ++ (if s1.test climbing c then begins_with inits cs else [])) (sym (chain_row p left next d above is some up))
          ∙ g.at c;
    }

-- ---- both walks

-- a set inside a path that runs, over a later space
pub runs_inside : {S I : Type 0} {s0 s1 s2 : Sets I} → Extends s0 s1 → Extends s1 s2 → (heap : HeapView S I) (path climbing : I) → IsHeap s0 heap → IsInside s0 path heap.allowed → s1.is_known climbing ≡ true → ((c : List Bool) → s1.test climbing c ≡ true → s0.test path c ≡ true) → IsInside s2 climbing heap.allowed
runs_inside {s0 = s0} e f heap path climbing v i k h = record { inside = λ c t. (Extends-trans e f).test heap.allowed c (allowed_known s0 heap v) ∙ i.inside c (h c (sym (f.test climbing c k) ∙ t)) }
