-- What stands where a frame was pushed on a group.
use Rattle.std.proofs.Common.{◌≡◌, ℕ, suc, Bool, true, List, ◌∷◌, refl, sym, ◌∙◌, ap, map, length}
use Rattle.std.proofs.lemmas.Bool.{eq-eqb}
use Rattle.std.proofs.lemmas.List.{length-map}
use Rattle.std.specs.Prelude.{Option, unwrap_or}
use Rattle.std.specs.List.{list_all}
use Rattle.vx_value.specs.declared.ids.MethodId.{MethodId}
use Rattle.vx_value.specs.declared.key.Kind.{Kind}
use Rattle.vx_value.specs.declared.slot.Slot.{Slot}
use Rattle.vx_space.specs.Sets.{Sets}
use Rattle.vx_cond.specs.Cond.{Conditional, cond_at}
use Rattle.vx_frame.specs.declared.frame.Frame.{Frame}
use Rattle.vx_frame.specs.Frame.{frame_at, part_of, shape_of}
use Rattle.vx_frame.proofs.FrameLaws.{frame_at-of}
use Rattle.vx_group.specs.declared.callers.Caller.{Caller}
use Rattle.vx_group.specs.Callers.{callers_of, frames_at}
use Rattle.vx_group.specs.Group.{GroupView, IsGroupIn, depth_of, path_of, stack_of}
use Rattle.vx_group.proofs.GroupLaws.{IsGroupIn-parts, tail_of}
use Rattle.vx_heap.specs.Heap.{HeapView, globals_at}
use Rattle.vx_heap.proofs.Places.{and_true}
use Rattle.vx_java.specs.Calls.{in_locals}
use Rattle.vx_java.specs.Initialisation.{max_locals, new_frame}
use Rattle.vx_java.specs.Machine.{depth}
use Rattle.vx_link.specs.Parts.{method_at}
use Rattle.vx_link.specs.declared.program.Program.{Program}
use Rattle.vx_group_states.specs.Stands.{StandsIn, frame_held, is_shaped, plain_frame, state_at, state_of}
use Rattle.vx_frames.specs.Entering.{AreArgumentsHeld, IsBegun, IsEntered, arguments_at, begun_frame, values_at, with_frame}
use Rattle.vx_frames.proofs.BegunLaws.{begun_held, begun_plain}

head_of : {A : Type 0} (x y : A) (xs ys : List A) → x ∷ xs ≡ y ∷ ys → x ≡ y
head_of x y xs ys e = cc

-- a group has as many frames as it has parts
pub stack_depth : {S I : Type 0} (sets : Sets I) (tree : List (Option (Caller S I))) (group : GroupView S I) → IsGroupIn sets tree group → length (stack_of tree group) ≡ depth_of group
stack_depth sets tree group v = ap suc (sym (length-map (callers_of tree (length group.below) group.caller) part_of) ∙ ap length (IsGroupIn-parts sets tree group v))

-- and so has a plain state
pub state_depth : {S I : Type 0} (sets : Sets I) (heap : HeapView S I) (tree : List (Option (Caller S I))) (group : GroupView S I) (c : List Bool) → IsGroupIn sets tree group → depth (state_at sets heap tree group c) ≡ depth_of group
state_depth sets heap tree group c v =
    let callers = callers_of tree (length group.below) group.caller in
    ap suc (length-map (frames_at sets callers c) (plain_frame sets heap c) ∙ length-map callers (λ frame. frame_at sets frame c)) ∙ stack_depth sets tree group v

module _ {S I : Type 0} (p : Program) (sets : Sets I) (tree later : List (Option (Caller S I))) (before : GroupView S I) (kind : Kind) (method : MethodId) (values : List (Conditional Slot S I)) (after : GroupView S I) (frame : Frame S I) (begun : IsBegun p sets (path_of before) kind method values frame) (attempts : after.attempts ≡ before.attempts) (stack : stack_of later after ≡ frame ∷ stack_of tree before) where
  top : after.top ≡ frame
  top = head_of after.top frame _ _ stack

  callers : callers_of later (length after.below) after.caller ≡ stack_of tree before
  callers = tail_of after.top frame _ _ stack

  same_path : path_of after ≡ path_of before
  same_path = ap (λ (cond : Conditional ℕ S I). cond.scope) attempts

  plain : (c : List Bool) → sets.test (path_of before) c ≡ true → frame_at sets frame c ≡ begun_frame p kind method.0 (arguments_at sets values c)
  plain c t = frame_at-of sets (λ c. begun_frame p kind method.0 (arguments_at sets values c)) frame c begun.is_frame (ap (λ id. sets.test id c) begun.scope ∙ t)

  entered_state : (heap : HeapView S I) (c : List Bool) → sets.test (path_of before) c ≡ true → state_at sets heap later after c ≡ with_frame (state_at sets heap tree before c) (new_frame p kind method.0 (in_locals (values_at sets heap values c)))
  entered_state heap c t =
      let first : plain_frame sets heap c (frame_at sets after.top c) ≡ new_frame p kind method.0 (in_locals (values_at sets heap values c)) = ap (λ f. plain_frame sets heap c (frame_at sets f c)) top ∙ ap (plain_frame sets heap c) (plain c t) ∙ begun_plain p sets heap c kind method.0 (arguments_at sets values c) in
      λ i. state_of (globals_at sets heap c) (first i) (map (plain_frame sets heap c) (frames_at sets (callers i) c))

  entered_held : (heap : HeapView S I) → StandsIn p sets heap tree before → AreArgumentsHeld sets heap (path_of before) values → (c : List Bool) → sets.test (path_of before) c ≡ true → list_all (frame_held sets heap c) (frames_at sets (stack_of later after) c) ≡ true
  entered_held heap s h c t =
      ap (λ fs. list_all (frame_held sets heap c) (frames_at sets fs c)) stack
      ∙ and_true (frame_held sets heap c (frame_at sets frame c)) (list_all (frame_held sets heap c) (frames_at sets (stack_of tree before) c)) (ap (frame_held sets heap c) (plain c t) ∙ begun_held p sets heap c kind method.0 (arguments_at sets values c) (h.held c t)) (s.held c t)

  entered_shaped : (heap : HeapView S I) → StandsIn p sets heap tree before → list_all (is_shaped p) (map shape_of (stack_of later after)) ≡ true
  entered_shaped heap s =
      let most = max_locals (method_at p method.0).code in
      ap (λ fs. list_all (is_shaped p) (map shape_of fs)) stack
      ∙ and_true (is_shaped p (shape_of frame)) (list_all (is_shaped p) (map shape_of (stack_of tree before))) (ap (is_shaped p) begun.shape ∙ eq-eqb most most refl) s.shaped

  pub IsEntered-made : IsGroupIn sets tree before → IsGroupIn sets later after → IsEntered p sets tree later before kind method values after
  IsEntered-made v w = record {
    is_group = w;
    attempts = attempts;
    depth = sym (stack_depth sets later after w) ∙ ap length stack ∙ ap suc (stack_depth sets tree before v);
    continues = λ heap s h. (
        let inside : (c : List Bool) → sets.test (path_of after) c ≡ true → sets.test (path_of before) c ≡ true = λ c t. ap (λ id. sets.test id c) (sym same_path) ∙ t in
        record {
          stands = record {
            is_group = w;
            runs = record { inside = λ c t. s.runs.inside c (inside c t) };
            held = λ c t. entered_held heap s h c (inside c t);
            shaped = entered_shaped heap s;
          };
          inside = inside;
          attempts = λ c t. ap (λ (cond : Conditional ℕ S I). unwrap_or (cond_at sets cond c) 0) attempts;
        });
    at = entered_state;
  }
