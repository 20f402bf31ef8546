-- What stands where the frame on top was taken off a group.
use Rattle.std.proofs.Common.{◌≡◌, ℕ, suc, ◌<◌, Bool, true, List, [], ◌∷◌, sym, ◌∙◌, ap, arith, map, length}
use Rattle.std.proofs.lemmas.List.{length-map}
use Rattle.std.specs.Prelude.{Option, unwrap_or}
use Rattle.std.specs.List.{list_all}
use Rattle.vx_value.specs.declared.key.KeyPart.{KeyPart}
use Rattle.vx_space.specs.Sets.{Sets, Extends}
use Rattle.vx_cond.specs.Cond.{Conditional, cond_at}
use Rattle.vx_frame.specs.declared.frame.Frame.{Frame}
use Rattle.vx_frame.specs.Frame.{frame_at, shape_of}
use Rattle.vx_group.specs.declared.callers.Caller.{Caller}
use Rattle.vx_group.specs.Callers.{callers_of, frames_at}
use Rattle.vx_group.specs.Group.{GroupView, IsGroupIn, IsPopped, path_of, shapes_of, stack_of}
use Rattle.vx_group.proofs.GroupLaws.{IsGroup-path_known, IsGroupIn-group, attempts_at-extends, tail_of}
use Rattle.vx_heap.specs.Heap.{HeapView, IsHeap}
use Rattle.vx_heap.proofs.HeapLaws.{globals_at-extends}
use Rattle.vx_heap.proofs.Places.{both_true}
use Rattle.vx_heap.proofs.Written.{allowed_known}
use Rattle.vx_link.specs.declared.program.Program.{Program}
use Rattle.vx_group_states.specs.Stands.{StandsIn, frame_held, is_shaped, plain_frame, state_at, state_of}
use Rattle.vx_group_states.proofs.StateLaws.{all_same, frame_held-extends, map_same, plain_frame-extends}
use Rattle.vx_frames.specs.Entering.{with_frame}
use Rattle.vx_frames.specs.Uncovering.{IsUncovered}
use Rattle.vx_frames.proofs.EnterLaws.{stack_depth}

-- a group of more than one frame has a caller
pub has_below : (below : List KeyPart) → 1 < suc (length below) → below ≡ [] → ⊥
has_below [] l e = omega (arith, l)
has_below (part ∷ below) l e = cc e

module _ {S I : Type 0} {old new : Sets I} (e : Extends old new) (tree : List (Option (Caller S I))) (before : GroupView S I) (taken : Frame S I) (after : GroupView S I) (v : IsGroupIn old tree before) (popped : IsPopped old new tree before taken after) where
  known : old.is_known (path_of before) ≡ true
  known = IsGroup-path_known old before (IsGroupIn-group old tree before v)

  inside : (c : List Bool) → new.test (path_of after) c ≡ true → old.test (path_of before) c ≡ true
  inside c t = sym (e.test (path_of before) c known) ∙ ap (λ (cond : Conditional ℕ S I). new.test cond.scope c) (sym popped.attempts) ∙ t

  -- the callers were the frames that are there now
  callers : (c : List Bool) → old.test (path_of before) c ≡ true → frames_at old (callers_of tree (length before.below) before.caller) c ≡ frames_at new (stack_of tree after) c
  callers c t = tail_of (frame_at old before.top c) (frame_at old taken c) _ _ (popped.at c t)

  uncovered_held : (p : Program) (heap : HeapView S I) → IsHeap old heap → StandsIn p old heap tree before → (c : List Bool) → old.test (path_of before) c ≡ true → list_all (frame_held new heap c) (frames_at new (stack_of tree after) c) ≡ true
  uncovered_held p heap h s c t =
      all_same (frame_held new heap c) (frame_held old heap c) (frame_held-extends e heap h c) (frames_at new (stack_of tree after) c)
      ∙ ap (list_all (frame_held old heap c)) (sym (callers c t))
      ∙ (both_true (frame_held old heap c (frame_at old before.top c)) (list_all (frame_held old heap c) (frames_at old (callers_of tree (length before.below) before.caller) c)) (s.held c t)).1

  uncovered_state : (heap : HeapView S I) → IsHeap old heap → (c : List Bool) → old.test (path_of before) c ≡ true → state_at old heap tree before c ≡ with_frame (state_at new heap tree after c) (plain_frame old heap c (frame_at old taken c))
  uncovered_state heap h c t =
      let globals = globals_at-extends e heap h c in
      let frames : map (plain_frame old heap c) (frames_at old (callers_of tree (length before.below) before.caller) c) ≡ map (plain_frame new heap c) (frames_at new (stack_of tree after) c) =
      ap (map (plain_frame old heap c)) (callers c t)
      ∙ map_same (plain_frame old heap c) (plain_frame new heap c) (λ f. sym (plain_frame-extends e heap h c f)) (frames_at new (stack_of tree after) c) in
      λ i. state_of (sym globals i) (plain_frame old heap c (frame_at old (sym popped.top i) c)) (frames i)

  pub IsUncovered-made : IsUncovered old new tree before taken after
  IsUncovered-made = record {
    top = popped.top;
    is_group = popped.is_group;
    attempts = popped.attempts;
    depth = sym (stack_depth old tree before v) ∙ sym (length-map (stack_of tree before) shape_of) ∙ ap length popped.shapes ∙ ap suc (length-map (stack_of tree after) shape_of ∙ stack_depth new tree after popped.is_group);
    continues = λ p heap h s. record {
      stands = record {
        is_group = popped.is_group;
        runs = record { inside = λ c t. e.test heap.allowed c (allowed_known old heap h) ∙ s.runs.inside c (inside c t) };
        held = λ c t. uncovered_held p heap h s c (inside c t);
        shaped = (both_true (is_shaped p (shape_of taken)) (list_all (is_shaped p) (shapes_of tree after)) (ap (list_all (is_shaped p)) (sym popped.shapes) ∙ s.shaped)).1;
      };
      inside = inside;
      attempts = λ c t. ap (λ (cond : Conditional ℕ S I). unwrap_or (cond_at new cond c) 0) popped.attempts ∙ attempts_at-extends e before (IsGroupIn-group old tree before v) c;
    };
    at = uncovered_state;
  }
