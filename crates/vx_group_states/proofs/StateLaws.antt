-- What a group stands for where its space is extended, where it is a part of another, and where it got another frame on top.
use Rattle.std.proofs.Common.{◌≡◌, ℕ, Bool, true, false, List, [], ◌∷◌, refl, sym, ◌∙◌, ap, map, length, reverse}
use Rattle.std.specs.Prelude.{Option, ◌&&◌}
use Rattle.std.specs.Ordering.{nat_cmp}
use Rattle.std.specs.List.{list_all}
use Rattle.vx_value.specs.declared.slot.Slot.{Slot}
use Rattle.vx_space.specs.Sets.{Sets, Extends}
use Rattle.vx_value.specs.Slot.{slot_cmp}
use Rattle.vx_cond.specs.Row.{Conditionals, IsRow}
use Rattle.vx_cond.specs.Slots.{slots_at}
use Rattle.vx_cond.proofs.CondLaws.{IsCond-extends}
use Rattle.vx_cond.proofs.RowLaws.{IsRow-extends}
use Rattle.vx_frame.specs.Frame.{PlainFrame, frame_at, shape_of}
use Rattle.vx_frame.proofs.FrameLaws.{IsFrame-locals, IsFrame-rows, frame_at-extends}
use Rattle.vx_group.specs.declared.callers.Caller.{Caller}
use Rattle.vx_group.specs.Callers.{callers_of, frames_at}
use Rattle.vx_group.specs.Group.{GroupView, IsGroup, IsGroupIn, IsPartOf, path_of}
use Rattle.vx_group.proofs.GroupLaws.{IsGroupIn-group, IsGroupIn-same_callers, IsGroup-extends, IsGroup-attempts, IsGroup-of_parts, IsGroup-one_scope, IsGroup-path_known, IsGroup-top, attempts_at-extends, frames_at-same_callers}
use Rattle.vx_heap.specs.Heap.{HeapView, IsHeap, are_held, is_held, value_of}
use Rattle.vx_heap.proofs.HeapLaws.{globals_at-extends, is_held-extends, value_of-extends}
use Rattle.vx_java.specs.Machine.{at_position}
use Rattle.vx_link.specs.declared.program.Program.{Program}
use Rattle.vx_group_states.specs.Stands.{Continues, StandsIn, frame_held, is_shaped, plain_frame, state_at, state_of}
use Rattle.vx_heap.proofs.Written.{allowed_known}

pub map_same : {A B : Type 0} (f g : A → B) → ((a : A) → f a ≡ g a) → (xs : List A) → map f xs ≡ map g xs
map_same f g h [] = refl
map_same f g h (x ∷ xs) = λ i. h x i ∷ map_same f g h xs i

pub all_same : {A : Type 0} (f g : A → Bool) → ((a : A) → f a ≡ g a) → (xs : List A) → list_all f xs ≡ list_all g xs
all_same f g h [] = refl
all_same f g h (x ∷ xs) = λ i. h x i && all_same f g h xs i

pub both_first : (a b : Bool) → (a && b) ≡ true → a ≡ true
both_first true b h = refl
both_first false b h = cc

pub both_second : (a b : Bool) → (a && b) ≡ true → b ≡ true
both_second true b h = h
both_second false b h = cc

pub both : (a b : Bool) → a ≡ true → b ≡ true → (a && b) ≡ true
both a b p q = rw (p, q) refl

-- ---- the space is extended

pub plain_frame-extends : {S I : Type 0} {old new : Sets I} → Extends old new → (heap : HeapView S I) → IsHeap old heap → (c : List Bool) (f : PlainFrame) → plain_frame new heap c f ≡ plain_frame old heap c f
plain_frame-extends {old = old} {new = new} e heap v c f =
    let values = map_same (value_of new heap c) (value_of old heap c) (value_of-extends e heap v c) in
    λ i. record { kind = f.kind; method = f.method; position = f.position; locals = values f.locals i; operands = values f.operands i }

pub frame_held-extends : {S I : Type 0} {old new : Sets I} → Extends old new → (heap : HeapView S I) → IsHeap old heap → (c : List Bool) (f : PlainFrame) → frame_held new heap c f ≡ frame_held old heap c f
frame_held-extends {old = old} {new = new} e heap v c f =
    let held = all_same (is_held new heap c) (is_held old heap c) (is_held-extends e heap v c) in
    λ i. held f.locals i && held f.operands i

-- ---- another frame on top, over the same callers

-- the plain state, by the plain frame on top
pub state_at-same_callers : {S I : Type 0} {old new : Sets I} (tree : List (Option (Caller S I))) → Extends old new → (heap : HeapView S I) → IsHeap old heap → (group after : GroupView S I) → IsGroupIn old tree group → after.below ≡ group.below → after.caller ≡ group.caller → (c : List Bool) (f : PlainFrame) → frame_at new after.top c ≡ f → state_at new heap tree after c ≡ record (state_at old heap tree group c) { top = plain_frame old heap c f }
state_at-same_callers {old = old} {new = new} tree e heap v group after w b n c f h =
    let globals = globals_at-extends e heap v c in
    let top = ap (plain_frame new heap c) h ∙ plain_frame-extends e heap v c f in
    let callers = ap (map (plain_frame new heap c)) (frames_at-same_callers tree e group after w b n c) ∙ map_same (plain_frame new heap c) (plain_frame old heap c) (plain_frame-extends e heap v c) (frames_at old (callers_of tree (length group.below) group.caller) c) in
    λ i. state_of (globals i) (top i) (callers i)

pub StandsIn-same_callers : {S I : Type 0} {old new : Sets I} (p : Program) (tree : List (Option (Caller S I))) → Extends old new → (heap : HeapView S I) → IsHeap old heap → (group after : GroupView S I) → StandsIn p old heap tree group → IsGroup new after → after.below ≡ group.below → after.caller ≡ group.caller → ((c : List Bool) → new.test (path_of after) c ≡ true → old.test (path_of group) c ≡ true) → is_shaped p (shape_of after.top) ≡ true → ((c : List Bool) → new.test (path_of after) c ≡ true → frame_held old heap c (frame_at new after.top c) ≡ true) → StandsIn p new heap tree after
StandsIn-same_callers {old = old} {new = new} p tree e heap v group after s w b n inside shaped held = record {
  is_group = IsGroupIn-same_callers tree e group after s.is_group w b n inside;
  runs = record { inside = λ c t. e.test heap.allowed c (allowed_known old heap v) ∙ s.runs.inside c (inside c t) };
  held = λ c t.
      let frames = ap (list_all (frame_held new heap c)) (frames_at-same_callers tree e group after s.is_group b n c) ∙ all_same (frame_held new heap c) (frame_held old heap c) (frame_held-extends e heap v c) (frames_at old (callers_of tree (length group.below) group.caller) c) in
      both _ _ (frame_held-extends e heap v c (frame_at new after.top c) ∙ held c t) (frames ∙ both_second (frame_held old heap c (frame_at old group.top c)) _ (s.held c (inside c t)));
  shaped = rw (b, n) (both _ _ shaped (both_second (is_shaped p (shape_of group.top)) _ s.shaped));
}

-- what a group stands for over a later space
pub state_at-extends : {S I : Type 0} {old new : Sets I} (tree : List (Option (Caller S I))) → Extends old new → (heap : HeapView S I) → IsHeap old heap → (group : GroupView S I) → IsGroupIn old tree group → (c : List Bool) → state_at new heap tree group c ≡ state_at old heap tree group c
state_at-extends {old = old} tree e heap v group w c = state_at-same_callers tree e heap v group group w refl refl c (frame_at old group.top c) (frame_at-extends e group.top (IsGroup-top old group (IsGroupIn-group old tree group w)) c)

-- the frame on top holds what is there
pub top_held : {S I : Type 0} (p : Program) (sets : Sets I) (heap : HeapView S I) (tree : List (Option (Caller S I))) (group : GroupView S I) → StandsIn p sets heap tree group → (c : List Bool) → sets.test (path_of group) c ≡ true → frame_held sets heap c (frame_at sets group.top c) ≡ true
top_held p sets heap tree group s c t = both_first (frame_held sets heap c (frame_at sets group.top c)) _ (s.held c t)

pub top_shaped : {S I : Type 0} (p : Program) (sets : Sets I) (heap : HeapView S I) (tree : List (Option (Caller S I))) (group : GroupView S I) → StandsIn p sets heap tree group → is_shaped p (shape_of group.top) ≡ true
top_shaped p sets heap tree group s = both_first (is_shaped p (shape_of group.top)) _ s.shaped

path_known : {S I : Type 0} (p : Program) (sets : Sets I) (heap : HeapView S I) (tree : List (Option (Caller S I))) (group : GroupView S I) → StandsIn p sets heap tree group → sets.is_known (path_of group) ≡ true
path_known p sets heap tree group s = IsGroup-path_known sets group (IsGroupIn-group sets tree group s.is_group)

-- ---- a part of a group

pub Continues-part : {S I : Type 0} {old new : Sets I} (p : Program) (tree : List (Option (Caller S I))) → Extends old new → (heap : HeapView S I) → IsHeap old heap → (set : List Bool → Bool) (group part : GroupView S I) → ((c : List Bool) → set c ≡ true → old.test (path_of group) c ≡ true) → StandsIn p old heap tree group → IsPartOf old new set group part → Continues p old new heap tree group part
unfolding IsPartOf
Continues-part {old = old} {new = new} p tree e heap v set group part i s q =
    let inside : (c : List Bool) → new.test (path_of part) c ≡ true → old.test (path_of group) c ≡ true = λ c t. i c (sym (q.path.test c) ∙ t) in
    record {
      stands = StandsIn-same_callers p tree e heap v group part s q.is_group q.below q.caller inside (ap (is_shaped p) q.shape ∙ top_shaped p old heap tree group s) (λ c t. ap (λ top. frame_held old heap c top.frame) (q.at c t) ∙ top_held p old heap tree group s c (inside c t));
      inside = inside;
      attempts = λ c t. ap (λ top. top.attempts) (q.at c t);
    }

pub StandsIn-part : {S I : Type 0} {old new : Sets I} (p : Program) (tree : List (Option (Caller S I))) → Extends old new → (heap : HeapView S I) → IsHeap old heap → (set : List Bool → Bool) (group part : GroupView S I) → ((c : List Bool) → set c ≡ true → old.test (path_of group) c ≡ true) → StandsIn p old heap tree group → IsPartOf old new set group part → StandsIn p new heap tree part
StandsIn-part p tree e heap v set group part i s q = (Continues-part p tree e heap v set group part i s q).stands

pub state_at-part : {S I : Type 0} {old new : Sets I} (p : Program) (tree : List (Option (Caller S I))) → Extends old new → (heap : HeapView S I) → IsHeap old heap → (set : List Bool → Bool) (group part : GroupView S I) → StandsIn p old heap tree group → IsPartOf old new set group part → (c : List Bool) → set c ≡ true → state_at new heap tree part c ≡ state_at old heap tree group c
unfolding IsPartOf
state_at-part {old = old} p tree e heap v set group part s q c t = state_at-same_callers tree e heap v group part s.is_group q.below q.caller c (frame_at old group.top c) (ap (λ top. top.frame) (q.at c (q.path.test c ∙ t)))

-- ---- a group goes on from another

pub Continues-trans : {S I : Type 0} (p : Program) (s0 s1 s2 : Sets I) (heap before : HeapView S I) (tree earlier : List (Option (Caller S I))) (group middle after : GroupView S I) → Continues p s0 s1 before earlier group middle → Continues p s1 s2 heap tree middle after → Continues p s0 s2 heap tree group after
Continues-trans p s0 s1 s2 heap before tree earlier group middle after f g = record {
  stands = g.stands;
  inside = λ c t. f.inside c (g.inside c t);
  attempts = λ c t. g.attempts c t ∙ f.attempts c (g.inside c t);
}

-- over a later space
pub StandsIn-extends : {S I : Type 0} {old new : Sets I} (p : Program) (tree : List (Option (Caller S I))) → Extends old new → (heap : HeapView S I) → IsHeap old heap → (group : GroupView S I) → StandsIn p old heap tree group → StandsIn p new heap tree group
StandsIn-extends {old = old} {new = new} p tree e heap v group s =
    let alone = IsGroupIn-group old tree group s.is_group in
    let path : (c : List Bool) → new.test (path_of group) c ≡ true → old.test (path_of group) c ≡ true = λ c t. sym (e.test (path_of group) c (path_known p old heap tree group s)) ∙ t in
    StandsIn-same_callers p tree e heap v group group s (IsGroup-extends e group alone) refl refl path (top_shaped p old heap tree group s) (λ c t. ap (frame_held old heap c) (frame_at-extends e group.top (IsGroup-top old group alone) c) ∙ top_held p old heap tree group s c (path c t))

pub Continues-same : {S I : Type 0} {old new : Sets I} (p : Program) (tree : List (Option (Caller S I))) → Extends old new → (heap : HeapView S I) → IsHeap old heap → (group : GroupView S I) → StandsIn p old heap tree group → Continues p old new heap tree group group
Continues-same {old = old} {new = new} p tree e heap v group s = record {
  stands = StandsIn-extends p tree e heap v group s;
  inside = λ c t. sym (e.test (path_of group) c (path_known p old heap tree group s)) ∙ t;
  attempts = λ c t. attempts_at-extends e group (IsGroupIn-group old tree group s.is_group) c;
}

pub Continues-extends : {S I : Type 0} (p : Program) (s0 : Sets I) {s1 s2 : Sets I} (tree : List (Option (Caller S I))) → Extends s1 s2 → (heap : HeapView S I) → IsHeap s1 heap → (group after : GroupView S I) → Continues p s0 s1 heap tree group after → Continues p s0 s2 heap tree group after
Continues-extends p s0 {s1 = s1} {s2 = s2} tree e heap v group after f =
    let path : (c : List Bool) → s2.test (path_of after) c ≡ true → s1.test (path_of after) c ≡ true = λ c t. sym (e.test (path_of after) c (path_known p s1 heap tree after f.stands)) ∙ t in
    record {
      stands = StandsIn-extends p tree e heap v after f.stands;
      inside = λ c t. f.inside c (path c t);
      attempts = λ c t. attempts_at-extends e after (IsGroupIn-group s1 tree after f.stands.is_group) c ∙ f.attempts c (path c t);
    }

-- ---- other operands, and another position

-- a group whose frame on top has another position and other operands of the same scope
pub IsGroup-moved : {S I : Type 0} {s0 s1 : Sets I} → Extends s0 s1 → (group : GroupView S I) (stack : Conditionals Slot S I) (position : ℕ) → IsGroup s0 group → IsRow slot_cmp s1 stack → stack.scope ≡ path_of group → IsGroup s1 (record group { top = record (group.top) { position = position; stack = stack } })
IsGroup-moved {s0 = s0} {s1 = s1} e group stack position v r h =
    let top = IsGroup-top s0 group v in
    let one = IsGroup-one_scope s0 group v in
    let frame = IsFrame-rows s1 (record (group.top) { position = position; stack = stack }) (IsRow-extends slot_cmp e group.top.locals (IsFrame-locals s0 group.top top)) r (h ∙ sym one) in
    IsGroup-of_parts s1 (record group { top = record (group.top) { position = position; stack = stack } }) (IsCond-extends nat_cmp e group.attempts (IsGroup-attempts s0 group v)) frame one

-- the plain frame then
moved_frame : {S I : Type 0} {s0 s1 : Sets I} → Extends s0 s1 → (group : GroupView S I) (stack : Conditionals Slot S I) (position : ℕ) → IsGroup s0 group → (c : List Bool) (operands : List Slot) → reverse (slots_at s1 stack c) ≡ operands → frame_at s1 (record (group.top) { position = position; stack = stack }) c ≡ record (frame_at s0 group.top c) { position = position; operands = operands }
moved_frame {s0 = s0} e group stack position v c operands h =
    let locals = ap (λ f. f.locals) (frame_at-extends e group.top (IsGroup-top s0 group v) c) in
    λ i. record { kind = group.top.kind; method = group.top.method.0; position = position; locals = locals i; operands = h i }

pub Continues-moved : {S I : Type 0} {s0 s1 : Sets I} (p : Program) (tree : List (Option (Caller S I))) → Extends s0 s1 → (heap : HeapView S I) → IsHeap s0 heap → (group : GroupView S I) (stack : Conditionals Slot S I) (position : ℕ) (operands : List Bool → List Slot) → StandsIn p s0 heap tree group → IsRow slot_cmp s1 stack → stack.scope ≡ path_of group → ((c : List Bool) → s0.test (path_of group) c ≡ true → reverse (slots_at s1 stack c) ≡ operands c) → ((c : List Bool) → s0.test (path_of group) c ≡ true → are_held s0 heap c (operands c) ≡ true) → Continues p s0 s1 heap tree group (record group { top = record (group.top) { position = position; stack = stack } })
Continues-moved {s0 = s0} {s1 = s1} p tree e heap v group stack position operands s r h at held =
    let alone = IsGroupIn-group s0 tree group s.is_group in
    let after = record group { top = record (group.top) { position = position; stack = stack } } in
    let inside : (c : List Bool) → s1.test (path_of group) c ≡ true → s0.test (path_of group) c ≡ true = λ c t. sym (e.test (path_of group) c (path_known p s0 heap tree group s)) ∙ t in
    record {
      stands = StandsIn-same_callers p tree e heap v group after s (IsGroup-moved e group stack position alone r h) refl refl inside (top_shaped p s0 heap tree group s) (λ c t. ap (frame_held s0 heap c) (moved_frame e group stack position alone c (operands c) (at c (inside c t))) ∙ both _ _ (both_first (are_held s0 heap c (frame_at s0 group.top c).locals) _ (top_held p s0 heap tree group s c (inside c t))) (held c (inside c t)));
      inside = inside;
      attempts = λ c t. attempts_at-extends e group alone c;
    }

pub state_at-moved : {S I : Type 0} {s0 s1 : Sets I} (p : Program) (tree : List (Option (Caller S I))) → Extends s0 s1 → (heap : HeapView S I) → IsHeap s0 heap → (group : GroupView S I) (stack : Conditionals Slot S I) (position : ℕ) → StandsIn p s0 heap tree group → (c : List Bool) (operands : List Slot) → reverse (slots_at s1 stack c) ≡ operands → state_at s1 heap tree (record group { top = record (group.top) { position = position; stack = stack } }) c ≡ at_position (state_at s0 heap tree group c) position (map (value_of s0 heap c) operands)
state_at-moved {s0 = s0} p tree e heap v group stack position s c operands h = state_at-same_callers tree e heap v group (record group { top = record (group.top) { position = position; stack = stack } }) s.is_group refl refl c (record (frame_at s0 group.top c) { position = position; operands = operands }) (moved_frame e group stack position (IsGroupIn-group s0 tree group s.is_group) c operands h)

-- the operands of a group are held
pub operands_held : {S I : Type 0} (p : Program) (sets : Sets I) (heap : HeapView S I) (tree : List (Option (Caller S I))) (group : GroupView S I) → StandsIn p sets heap tree group → (c : List Bool) → sets.test (path_of group) c ≡ true → are_held sets heap c (frame_at sets group.top c).operands ≡ true
operands_held p sets heap tree group s c t = both_second (are_held sets heap c (frame_at sets group.top c).locals) _ (top_held p sets heap tree group s c t)

pub locals_held : {S I : Type 0} (p : Program) (sets : Sets I) (heap : HeapView S I) (tree : List (Option (Caller S I))) (group : GroupView S I) → StandsIn p sets heap tree group → (c : List Bool) → sets.test (path_of group) c ≡ true → are_held sets heap c (frame_at sets group.top c).locals ≡ true
locals_held p sets heap tree group s c t = both_first (are_held sets heap c (frame_at sets group.top c).locals) _ (top_held p sets heap tree group s c t)
