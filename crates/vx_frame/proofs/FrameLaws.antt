-- Laws of frames, for callers.
use Rattle.std.proofs.Common.{◌≡◌, Bool, true, false, List, refl, sym, ◌∙◌, ap, length, reverse, map}
use Rattle.std.specs.Prelude.{◌&&◌, ◌||◌, if◌then◌else◌}
use Rattle.vx_value.specs.declared.slot.Slot.{Slot}
use Rattle.vx_value.specs.Slot.{slot_cmp}
use Rattle.vx_space.specs.Sets.{Sets, Extends, IsSet, IsLawful, AreKept}
use Rattle.vx_space.proofs.Spaces.{Extends-trans}
use Rattle.vx_cond.specs.Keeping.{AreKept-append_left, AreKept-append_right}
use Rattle.vx_cond.specs.Row.{Conditionals, IsRow, IsRowOf, conds_at, values_within, firsts_of, row_ids}
use Rattle.vx_cond.specs.Slots.{or_top}
use Rattle.vx_cond.proofs.RowLaws.{IsRow-extends, IsRow-of, IsRowOf-extends, IsRow-kept}
use Rattle.vx_cond.proofs.SideLaws.{conds_at-within, conds_at-first, conds_at-second, length-within, length-joined, row_at-extends, IsRow-scope_known}
use Rattle.vx_frame.specs.declared.frame.Frame.{Frame}
use Rattle.vx_frame.specs.Frame.{PlainFrame, IsFrame, IsFrameOf, frame_at, frame_ids, scope_of, shape_of, Shape, side_at}

-- the parts of a frame
pub IsFrame-locals : {S I : Type 0} (sets : Sets I) (frame : Frame S I) → IsFrame sets frame → IsRow slot_cmp sets frame.locals
unfolding IsFrame
IsFrame-locals sets frame v = v.locals

pub IsFrame-stack : {S I : Type 0} (sets : Sets I) (frame : Frame S I) → IsFrame sets frame → IsRow slot_cmp sets frame.stack
unfolding IsFrame
IsFrame-stack sets frame v = v.stack

pub IsFrame-one_scope : {S I : Type 0} (sets : Sets I) (frame : Frame S I) → IsFrame sets frame → frame.stack.scope ≡ frame.locals.scope
unfolding IsFrame
IsFrame-one_scope sets frame v = v.one_scope

pub IsFrame-scope_known : {S I : Type 0} (sets : Sets I) (frame : Frame S I) → IsFrame sets frame → sets.is_known (scope_of frame) ≡ true
IsFrame-scope_known sets frame v = IsRow-scope_known slot_cmp sets frame.locals (IsFrame-locals sets frame v)

-- a frame of two rows of one scope
pub IsFrame-rows : {S I : Type 0} (sets : Sets I) (frame : Frame S I) → IsRow slot_cmp sets frame.locals → IsRow slot_cmp sets frame.stack → frame.stack.scope ≡ frame.locals.scope → IsFrame sets frame
unfolding IsFrame
IsFrame-rows sets frame l s e = record { locals = l; stack = s; one_scope = e }

-- a frame stays one, with its plain frames, where the space is extended
pub IsFrame-extends : {S I : Type 0} {old new : Sets I} → Extends old new → (frame : Frame S I) → IsFrame old frame → IsFrame new frame
unfolding IsFrame
IsFrame-extends e frame v = record { locals = IsRow-extends slot_cmp e frame.locals v.locals; stack = IsRow-extends slot_cmp e frame.stack v.stack; one_scope = v.one_scope }

-- frames that differ in the conditions alone, and whose rows have the same values at a configuration
same_frame : {S I : Type 0} (old new : Sets I) (frame : Frame S I) (locals stack : Conditionals Slot S I) (c : List Bool) → conds_at new locals.conds c ≡ conds_at old frame.locals.conds c → conds_at new stack.conds c ≡ conds_at old frame.stack.conds c → frame_at new (record frame { locals = locals; stack = stack }) c ≡ frame_at old frame c
same_frame old new frame locals stack c l s = λ i. record { kind = frame.kind; method = frame.method.0; position = frame.position; locals = map or_top (l i); operands = reverse (map or_top (s i)) }

pub frame_at-extends : {S I : Type 0} {old new : Sets I} → Extends old new → (frame : Frame S I) → IsFrame old frame → (c : List Bool) → frame_at new frame c ≡ frame_at old frame c
unfolding IsFrame
frame_at-extends {old = old} {new = new} e frame v c = same_frame old new frame frame.locals frame.stack c (row_at-extends slot_cmp e frame.locals v.locals c) (row_at-extends slot_cmp e frame.stack v.stack c)

pub IsFrameOf-extends : {S I : Type 0} {old new : Sets I} → Extends old new → (value : List Bool → PlainFrame) (frame : Frame S I) → IsFrameOf old value frame → IsFrameOf new value frame
unfolding IsFrameOf
IsFrameOf-extends e value frame f = record {
  is_frame = IsFrame-extends e frame f.is_frame;
  at = λ c t. frame_at-extends e frame f.is_frame c ∙ f.at c (sym (e.test (scope_of frame) c (IsFrame-scope_known _ frame f.is_frame)) ∙ t);
}

-- what a frame with these plain frames is
pub IsFrame-of : {S I : Type 0} (sets : Sets I) (value : List Bool → PlainFrame) (frame : Frame S I) → IsFrameOf sets value frame → IsFrame sets frame
unfolding IsFrameOf
IsFrame-of sets value frame f = f.is_frame

pub frame_at-of : {S I : Type 0} (sets : Sets I) (value : List Bool → PlainFrame) (frame : Frame S I) (c : List Bool) → IsFrameOf sets value frame → sets.test (scope_of frame) c ≡ true → frame_at sets frame c ≡ value c
unfolding IsFrameOf
frame_at-of sets value frame c f t = f.at c t

-- a frame stays one where its ids are kept
pub IsFrame-kept : {S I : Type 0} {old new : Sets I} → new.never ≡ old.never → (frame : Frame S I) → AreKept old new (frame_ids frame) → IsFrame old frame → IsFrame new frame
unfolding IsFrame
IsFrame-kept {old = old} {new = new} n frame k v = record {
  locals = IsRow-kept slot_cmp n frame.locals (AreKept-append_left old new (row_ids frame.locals) (row_ids frame.stack) k) v.locals;
  stack = IsRow-kept slot_cmp n frame.stack (AreKept-append_right old new (row_ids frame.locals) (row_ids frame.stack) k) v.stack;
  one_scope = v.one_scope;
}

-- two known ids of one set are one id
pub same_set : {I : Type 0} {sets : Sets I} → IsLawful sets → (a b : I) (set : List Bool → Bool) → IsSet sets a set → IsSet sets b set → a ≡ b
same_set lawful a b set s t = lawful.equal_sets a b s.known t.known (λ c. s.test c ∙ sym (t.test c))

both_hold : (a b : Bool) → (a && b) ≡ true → b ≡ true
both_hold true b h = h
both_hold false b h = cc

-- what `restrict` makes, where the operands are restricted after the locals
pub IsFrameOf-restricted : {S I : Type 0} {s0 s1 s2 : Sets I} → IsLawful s2 → (frame : Frame S I) (within : I) (locals stack : Conditionals Slot S I) → IsFrame s0 frame → s0.is_known within ≡ true → Extends s0 s1 → Extends s1 s2 → IsRowOf slot_cmp s1 (values_within s0 within (conds_at s0 frame.locals.conds)) locals → IsSet s1 locals.scope (λ c. s0.test frame.locals.scope c && s0.test within c) → IsRowOf slot_cmp s2 (values_within s1 within (conds_at s1 frame.stack.conds)) stack → IsSet s2 stack.scope (λ c. s1.test frame.stack.scope c && s1.test within c) → IsFrameOf s2 (frame_at s0 frame) (record frame { locals = locals; stack = stack })
unfolding IsFrame IsFrameOf
IsFrameOf-restricted {s0 = s0} {s1 = s1} {s2 = s2} lawful frame within locals stack v k e f l ls s ss =
    let locals_set : IsSet s2 locals.scope (λ c. s0.test frame.locals.scope c && s0.test within c) = record { known = f.known locals.scope ls.known; test = λ c. f.test locals.scope c ls.known ∙ ls.test c } in
    let known = IsRow-scope_known slot_cmp s0 frame.stack v.stack in
    let stack_set : IsSet s2 stack.scope (λ c. s0.test frame.locals.scope c && s0.test within c) = record {
      known = ss.known;
      test = λ c. ss.test c ∙ rw (e.test frame.stack.scope c known, e.test within c k) (ap (λ i. s0.test i c && s0.test within c) v.one_scope);
    } in
    let locals_row = IsRowOf-extends slot_cmp f _ locals l in
    record {
      is_frame = record {
        locals = IsRow-of slot_cmp s2 _ locals locals_row;
        stack = IsRow-of slot_cmp s2 _ stack s;
        one_scope = same_set lawful stack.scope locals.scope _ stack_set locals_set;
      };
      at = λ c t.
          let inside = both_hold (s0.test frame.locals.scope c) (s0.test within c) (sym (locals_set.test c) ∙ t) in
          same_frame s0 s2 frame locals stack c
          (conds_at-within slot_cmp s0 s2 frame.locals within locals locals_row c inside)
          (conds_at-within slot_cmp s1 s2 frame.stack within stack s c (e.test within c k ∙ inside) ∙ row_at-extends slot_cmp e frame.stack v.stack c);
    }

-- the shape of a frame of other rows of the same lengths
pub shape_of-rows : {S I : Type 0} (frame : Frame S I) (locals stack : Conditionals Slot S I) → length locals.conds ≡ length frame.locals.conds → length stack.conds ≡ length frame.stack.conds → shape_of (record frame { locals = locals; stack = stack }) ≡ shape_of frame
shape_of-rows frame locals stack l s = λ i. record { part = record { method = frame.method; position = frame.position; depth = s i; kind = frame.kind }; locals = l i }

-- the shape of what `restrict` and `join` make
pub shape_of-restricted : {S I : Type 0} {s0 s1 s2 : Sets I} (frame : Frame S I) (within : I) (locals stack : Conditionals Slot S I) → Extends s0 s1 → Extends s1 s2 → IsRowOf slot_cmp s1 (values_within s0 within (conds_at s0 frame.locals.conds)) locals → IsRowOf slot_cmp s2 (values_within s1 within (conds_at s1 frame.stack.conds)) stack → shape_of (record frame { locals = locals; stack = stack }) ≡ shape_of frame
shape_of-restricted {s0 = s0} {s1 = s1} {s2 = s2} frame within locals stack e f l s = shape_of-rows frame locals stack (length-within slot_cmp s0 s1 frame.locals within locals l) (length-within slot_cmp s1 s2 frame.stack within stack s)

pub shape_of-joined : {S I : Type 0} {s0 s1 s2 : Sets I} (a b : Frame S I) (locals stack : Conditionals Slot S I) → shape_of a ≡ shape_of b → Extends s0 s1 → Extends s1 s2 → IsRowOf slot_cmp s1 (firsts_of (conds_at s0 a.locals.conds) (conds_at s0 b.locals.conds)) locals → IsRowOf slot_cmp s2 (firsts_of (conds_at s1 a.stack.conds) (conds_at s1 b.stack.conds)) stack → shape_of (record a { locals = locals; stack = stack }) ≡ shape_of a
shape_of-joined {s0 = s0} {s1 = s1} {s2 = s2} a b locals stack h e f l s = shape_of-rows a locals stack (length-joined slot_cmp s0 s1 a.locals b.locals locals (ap (λ (q : Shape). q.locals) h) l) (length-joined slot_cmp s1 s2 a.stack b.stack stack (ap (λ (q : Shape). q.part.depth) h) s)

-- frames of one shape, of which the second's rows have the same values at a configuration
other_frame : {S I : Type 0} (old new : Sets I) (a b : Frame S I) (locals stack : Conditionals Slot S I) (c : List Bool) → shape_of a ≡ shape_of b → conds_at new locals.conds c ≡ conds_at old b.locals.conds c → conds_at new stack.conds c ≡ conds_at old b.stack.conds c → frame_at new (record a { locals = locals; stack = stack }) c ≡ frame_at old b c
other_frame old new a b locals stack c h l s = λ i. record { kind = (h i).part.kind; method = (h i).part.method.0; position = (h i).part.position; locals = map or_top (l i); operands = reverse (map or_top (s i)) }

either_holds : (a b : Bool) → (a || b) ≡ true → a ≡ false → b ≡ true
either_holds true b h e = cc
either_holds false b h e = h

-- what `join` makes, where the operands are joined after the locals
pub IsFrameOf-joined : {S I : Type 0} {s0 s1 s2 : Sets I} → IsLawful s2 → (a b : Frame S I) (locals stack : Conditionals Slot S I) → IsFrame s0 a → IsFrame s0 b → shape_of a ≡ shape_of b → Extends s0 s1 → Extends s1 s2 → IsRowOf slot_cmp s1 (firsts_of (conds_at s0 a.locals.conds) (conds_at s0 b.locals.conds)) locals → IsSet s1 locals.scope (λ c. s0.test a.locals.scope c || s0.test b.locals.scope c) → IsRowOf slot_cmp s2 (firsts_of (conds_at s1 a.stack.conds) (conds_at s1 b.stack.conds)) stack → IsSet s2 stack.scope (λ c. s1.test a.stack.scope c || s1.test b.stack.scope c) → IsFrameOf s2 (side_at s0 (scope_of a) (frame_at s0 a) (frame_at s0 b)) (record a { locals = locals; stack = stack })
unfolding IsFrame IsFrameOf
IsFrameOf-joined {S = S} {I = I} {s0 = s0} {s1 = s1} {s2 = s2} lawful a b locals stack v w h e f l ls s ss =
    let locals_set : IsSet s2 locals.scope (λ c. s0.test a.locals.scope c || s0.test b.locals.scope c) = record { known = f.known locals.scope ls.known; test = λ c. f.test locals.scope c ls.known ∙ ls.test c } in
    let known_a = IsRow-scope_known slot_cmp s0 a.stack v.stack in
    let known_b = IsRow-scope_known slot_cmp s0 b.stack w.stack in
    let stack_set : IsSet s2 stack.scope (λ c. s0.test a.locals.scope c || s0.test b.locals.scope c) = record {
      known = ss.known;
      test = λ c. ss.test c ∙ rw (e.test a.stack.scope c known_a, e.test b.stack.scope c known_b, v.one_scope, w.one_scope) refl;
    } in
    let locals_row = IsRowOf-extends slot_cmp f _ locals l in
    let same_locals = ap (λ (q : Shape). q.locals) h in
    let same_depth = ap (λ (q : Shape). q.part.depth) h in
    let stack_first : (c : List Bool) → s0.test a.locals.scope c ≡ true → conds_at s2 stack.conds c ≡ conds_at s0 a.stack.conds c = λ c t. conds_at-first slot_cmp s1 s2 a.stack b.stack stack (IsRow-extends slot_cmp e a.stack v.stack) same_depth s c (e.test a.stack.scope c known_a ∙ ap (λ i. s0.test i c) v.one_scope ∙ t) ∙ row_at-extends slot_cmp e a.stack v.stack c in
    let stack_second : (c : List Bool) → s0.test a.locals.scope c ≡ false → conds_at s2 stack.conds c ≡ conds_at s0 b.stack.conds c = λ c t. conds_at-second slot_cmp s1 s2 a.stack b.stack stack (IsRow-extends slot_cmp e a.stack v.stack) same_depth s c (e.test a.stack.scope c known_a ∙ ap (λ i. s0.test i c) v.one_scope ∙ t) ∙ row_at-extends slot_cmp e b.stack w.stack c in
    let first : (c : List Bool) → s0.test a.locals.scope c ≡ true → frame_at s2 (record a { locals = locals; stack = stack }) c ≡ frame_at s0 a c = λ c t. same_frame s0 s2 a locals stack c (conds_at-first slot_cmp s0 s2 a.locals b.locals locals v.locals same_locals locals_row c t) (stack_first c t) in
    let second : (c : List Bool) → s0.test a.locals.scope c ≡ false → frame_at s2 (record a { locals = locals; stack = stack }) c ≡ frame_at s0 b c = λ c t. other_frame s0 s2 a b locals stack c h (conds_at-second slot_cmp s0 s2 a.locals b.locals locals v.locals same_locals locals_row c t) (stack_second c t) in
    record {
      is_frame = record {
        locals = IsRow-of slot_cmp s2 _ locals locals_row;
        stack = IsRow-of slot_cmp s2 _ stack s;
        one_scope = same_set lawful stack.scope locals.scope _ stack_set locals_set;
      };
      at = λ c t. sides (frame_at s2 (record a { locals = locals; stack = stack }) c) (frame_at s0 a c) (frame_at s0 b c) (s0.test a.locals.scope c) (first c) (second c);
    }
  where
    sides : (made p q : PlainFrame) (b : Bool) → (b ≡ true → made ≡ p) → (b ≡ false → made ≡ q) → made ≡ (if b then p else q)
    sides made p q true f g = f refl
    sides made p q false f g = g refl

-- what `using` applies in the crates above
pub ruleset frame_words = (IsFrame-of, frame_at-of, IsFrame-extends, IsFrameOf-extends, frame_at-extends, IsFrame-scope_known, Extends-trans)
