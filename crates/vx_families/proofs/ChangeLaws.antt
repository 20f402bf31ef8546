-- Changes one after another, and outcomes and attempts after a change.
use Rattle.std.proofs.Common.{◌≡◌, Bool, true, false, List, refl, sym, ◌∙◌, ap, subst}
use Rattle.std.specs.Prelude.{◌||◌, if◌then◌else◌, slice_get}
use Rattle.vx_space.specs.Sets.{Sets, Extends}
use Rattle.vx_group.specs.Group.{path_of}
use Rattle.vx_group.proofs.GroupLaws.{IsGroup-path_known, IsGroupIn-group, attempts_at-extends}
use Rattle.vx_heap.specs.Heap.{Globals, HeapView, IsHeap, IsHeapFor, globals_at}
use Rattle.vx_heap.proofs.HeapLaws.{IsHeap-extends, globals_at-extends}
use Rattle.vx_group_states.specs.Stands.{Continues, state_at}
use Rattle.vx_group_states.proofs.GrownStates.{CameTo-grown, Grows-refl, Grows-trans, StandsIn-grown, state_at-changed}
use Rattle.vx_group_states.proofs.OutcomeStates.{CameTo-through}
use Rattle.vx_families.specs.Changing.{IsChangedIn, changed_in}
use Rattle.vx_families.specs.Laws.{AttemptsFollow, ChangesFollow, OutcomesStay, StaticsChangeIn}

-- what a change makes at each configuration
pub changed_at : {S I : Type 0} (old new : Sets I) (before after : HeapView S I) (set : List Bool → Bool) (change : List Bool → Globals → Globals) → IsChangedIn old new before after set change → (c : List Bool) → globals_at new after c ≡ changed_in set change c (globals_at old before c)
changed_at old new before after set change h c = from (set c) refl
  where
    from : (b : Bool) → set c ≡ b → globals_at new after c ≡ (if b then change c (globals_at old before c) else globals_at old before c)
    from true t = h.inside c t
    from false t = h.outside c t

neither : (a b : Bool) → (a || b) ≡ false → (a ≡ false) × (b ≡ false)
neither false false h = (refl, refl)
neither false true h = cc h
neither true b h = cc h

pub changes_follow : {S I : Type 0} → ChangesFollow S I
changes_follow s0 s1 s2 before middle after a b f g h k = record {
  is_heap = k.is_heap;
  grows = Grows-trans before middle after h.grows k.grows;
  keeps = λ p q. k.keeps p (h.keeps p q);
  inside = λ c t. changed_at s1 s2 middle after b g k c ∙ ap (changed_in b g c) (changed_at s0 s1 before middle a f h c);
  outside = λ c t. let parts = neither (a c) (b c) t in k.outside c parts.1 ∙ h.outside c parts.0;
}

pub statics_change_in : {S I : Type 0} → StaticsChangeIn S I
statics_change_in {S = S} {I = I} old new before after set change v same statics inits at stays = record {
  is_heap = v;
  grows = record {
    allowed = ap (λ (h : HeapView S I). h.allowed) same;
    objects = λ i o h. (o, ap (λ (x : HeapView S I). slice_get x.objects i) same ∙ h, refl);
    texts = λ n text h. ap (λ (x : HeapView S I). slice_get x.texts n) same ∙ h;
  };
  keeps = λ p h. (
      let P : HeapView S I → Type 0 = λ heap. IsHeapFor p heap in
      subst P (sym same) (record {
        static_count = statics ∙ h.static_count;
        init_count = inits ∙ h.init_count;
        literals = h.literals;
        words = h.words;
        enough = h.enough;
        resolved = h.resolved;
        first = h.first;
      }));
  inside = λ c t. at c;
  outside = λ c t. at c ∙ stays c t (globals_at old before c);
}

pub outcomes_stay : {S I : Type 0} → OutcomesStay S I
outcomes_stay p start old new before after tree later group what set outcomes e v g k stays h = CameTo-grown p e k before after v g start group what set outcomes stays h

pub attempts_follow : {S I : Type 0} → AttemptsFollow S I
attempts_follow {S = S} {I = I} p says there s0 s1 s2 before after set change tree later group outcomes v s e changed inside f k law came =
    let known = IsGroup-path_known s0 group (IsGroupIn-group s0 tree group s.is_group) in
    let continues : Continues p s0 s1 after later group group = record {
      stands = StandsIn-grown p e k before after v changed.grows group s;
      inside = λ c t. sym (e.test (path_of group) c known) ∙ t;
      attempts = λ c t. attempts_at-extends e group (IsGroupIn-group s0 tree group s.is_group) c;
    } in
    record {
      is_heap = IsHeap-extends f after changed.is_heap;
      grows = changed.grows;
      keeps = k;
      came = CameTo-through p s0 s1 s2 after later group group (λ c. there c (state_at s1 after later group c)) (λ c. says (state_at s0 before tree group c)) (s0.test (path_of group)) outcomes continues (λ c. e.test (path_of group) c known)
          (λ c t. ap (there c) (state_at-changed p e k before after v changed.grows group s c t (changed_in set change c (globals_at s0 before c)) (changed_at s0 s1 before after set change changed c)) ∙ law c t)
          came;
      outside = λ c t. globals_at-extends f after changed.is_heap c ∙ changed.outside c (not_inside c t);
    }
  where
    not_inside : (c : List Bool) → s0.test (path_of group) c ≡ false → set c ≡ false
    not_inside c t = from (set c) refl
      where
        from : (b : Bool) → set c ≡ b → b ≡ false
        from false q = refl
        from true q = cc (inside c q, t)

-- one change after another in one set
pub changes_in_one : {S I : Type 0} {s0 s1 s2 : Sets I} (before middle after : HeapView S I) (set later : List Bool → Bool) (f g : List Bool → Globals → Globals) → ((c : List Bool) → later c ≡ set c) → IsChangedIn s0 s1 before middle set f → IsChangedIn s1 s2 middle after later g → IsChangedIn s0 s2 before after set (λ c x. g c (f c x))
changes_in_one before middle after set later f g same h k = record {
  is_heap = k.is_heap;
  grows = Grows-trans before middle after h.grows k.grows;
  keeps = λ p q. k.keeps p (h.keeps p q);
  inside = λ c t. k.inside c (same c ∙ t) ∙ ap (g c) (h.inside c t);
  outside = λ c t. k.outside c (same c ∙ t) ∙ h.outside c t;
}

-- ---- the same change, told otherwise

-- a change, told over a later space, or by another function that does the same
pub changed_later : {S I : Type 0} {s0 s1 s2 : Sets I} → Extends s1 s2 → (before after : HeapView S I) (set : List Bool → Bool) (change : List Bool → Globals → Globals) → IsChangedIn s0 s1 before after set change → IsChangedIn s0 s2 before after set change
changed_later e before after set change h = record {
  is_heap = IsHeap-extends e after h.is_heap;
  grows = h.grows;
  keeps = h.keeps;
  inside = λ c t. globals_at-extends e after h.is_heap c ∙ h.inside c t;
  outside = λ c t. globals_at-extends e after h.is_heap c ∙ h.outside c t;
}

pub changed_as : {S I : Type 0} (s0 s1 : Sets I) (before after : HeapView S I) (set : List Bool → Bool) (change other : List Bool → Globals → Globals) → ((c : List Bool) → set c ≡ true → change c (globals_at s0 before c) ≡ other c (globals_at s0 before c)) → IsChangedIn s0 s1 before after set change → IsChangedIn s0 s1 before after set other
changed_as s0 s1 before after set change other same h = record {
  is_heap = h.is_heap;
  grows = h.grows;
  keeps = h.keeps;
  inside = λ c t. h.inside c t ∙ same c t;
  outside = h.outside;
}

-- nothing changes
pub unchanged : {S I : Type 0} (sets : Sets I) (heap : HeapView S I) (set : List Bool → Bool) (change : List Bool → Globals → Globals) → IsHeap sets heap → ((c : List Bool) → set c ≡ true → change c (globals_at sets heap c) ≡ globals_at sets heap c) → IsChangedIn sets sets heap heap set change
unchanged sets heap set change v same = record {
  is_heap = v;
  grows = Grows-refl heap;
  keeps = λ p h. h;
  inside = λ c t. sym (same c t);
  outside = λ c t. refl;
}
