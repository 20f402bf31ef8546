-- Heaps that changed in a set of configurations and nowhere else, and what answers come to over later ones.
use Rattle.std.proofs.Common.{◌≡◌, ℕ, ◌<◌, Bool, true, false, List, [], ◌∷◌, refl, ◌∙◌, ap, length}
use Rattle.std.proofs.lemmas.Bool.{lt-ltb, ltb-true}
use Rattle.std.proofs.lemmas.Option.{slice_get_within}
use Rattle.std.specs.Prelude.{None, Option, Some, ◌&&◌, unwrap_or}
use Rattle.vx_cond.specs.Cond.{Conditional}
use Rattle.vx_families.proofs.MoreTexts.{Grows-texts, IsHeapFor-texts, IsHeap-texts, globals_at-texts}
use Rattle.vx_families.specs.Texts.{HasMoreTexts}
use Rattle.vx_group_states.proofs.GrownStates.{Grows-refl, Grows-trans, is_held-grown, text_there, value_of-grown}
use Rattle.vx_group_states.specs.Answering.{answer_at, answered, is_answer_held, is_message}
use Rattle.vx_group_states.specs.Stands.{is_object, message_of, object_named}
use Rattle.vx_group_states.specs.declared.answer.Answer.{Answer}
use Rattle.vx_group_states.specs.declared.answer.Answer.TheVariants as answer
use Rattle.vx_families.specs.Changing.{IsChangedIn}
use Rattle.vx_heap.proofs.HeapLaws.{IsHeap-extends, globals_at-extends}
use Rattle.vx_heap.specs.Changing.{Grows}
use Rattle.vx_heap.specs.Heap.{Globals, HeapView, IsHeap, globals_at, is_held, value_of}
use Rattle.vx_java.specs.Machine.{Here, Outcome, Raise, Throw, Value, Write, go, past, push}
use Rattle.vx_java.specs.Machine.{Ref as RefValue}
use Rattle.vx_link.specs.declared.program.Program.{Program}
use Rattle.vx_space.specs.Sets.{Extends, Sets}
use Rattle.vx_value.specs.Texts.{text_at}
use Rattle.vx_value.specs.declared.slot.Slot.{Slot}
use Rattle.vx_value.specs.declared.slot.Slot.TheVariants.{Int, Long, Null, Ref, Text, Top}
use Rattle.vx_natives.specs.Doing.{IsDone, IsKept, IsSaid, Says, over, said_over}

-- ---- changes

pub IsKept-refl : {S I : Type 0} (sets : Sets I) (heap : HeapView S I) (set : List Bool → Bool) → IsHeap sets heap → IsKept sets sets heap heap set
IsKept-refl sets heap set v = record { is_heap = v; grows = Grows-refl heap; keeps = λ p h. h; outside = λ c t. refl }

-- over a later space
pub IsKept-later : {S I : Type 0} {s0 s1 s2 : Sets I} (before after : HeapView S I) (set : List Bool → Bool) → Extends s1 s2 → IsKept s0 s1 before after set → IsKept s0 s2 before after set
IsKept-later before after set e k = record {
  is_heap = IsHeap-extends e after k.is_heap;
  grows = k.grows;
  keeps = k.keeps;
  outside = λ c t. globals_at-extends e after k.is_heap c ∙ k.outside c t;
}

-- from an earlier space
pub IsKept-earlier : {S I : Type 0} {s0 s1 s2 : Sets I} (before after : HeapView S I) (set : List Bool → Bool) → Extends s0 s1 → IsHeap s0 before → IsKept s1 s2 before after set → IsKept s0 s2 before after set
IsKept-earlier before after set e v k = record {
  is_heap = k.is_heap;
  grows = k.grows;
  keeps = k.keeps;
  outside = λ c t. k.outside c t ∙ globals_at-extends e before v c;
}

-- in another set, outside of which is the first one's outside
pub IsKept-within : {S I : Type 0} (s0 s1 : Sets I) (before after : HeapView S I) (set larger : List Bool → Bool) → ((c : List Bool) → larger c ≡ false → set c ≡ false) → IsKept s0 s1 before after set → IsKept s0 s1 before after larger
IsKept-within s0 s1 before after set larger f k = record { is_heap = k.is_heap; grows = k.grows; keeps = k.keeps; outside = λ c t. k.outside c (f c t) }

-- one after the other
pub IsKept-trans : {S I : Type 0} (s0 s1 s2 : Sets I) (before middle after : HeapView S I) (set : List Bool → Bool) → IsKept s0 s1 before middle set → IsKept s1 s2 middle after set → IsKept s0 s2 before after set
IsKept-trans s0 s1 s2 before middle after set h k = record {
  is_heap = k.is_heap;
  grows = Grows-trans before middle after h.grows k.grows;
  keeps = λ p q. k.keeps p (h.keeps p q);
  outside = λ c t. k.outside c t ∙ h.outside c t;
}

pub IsKept-changed : {S I : Type 0} (s0 s1 : Sets I) (before after : HeapView S I) (set : List Bool → Bool) (change : List Bool → Globals → Globals) → IsChangedIn s0 s1 before after set change → IsKept s0 s1 before after set
IsKept-changed s0 s1 before after set change h = record { is_heap = h.is_heap; grows = h.grows; keeps = h.keeps; outside = h.outside }

-- and such a heap is changed to what stands there then
pub kept_change : {S I : Type 0} (s0 s1 : Sets I) (before after : HeapView S I) (set : List Bool → Bool) → IsKept s0 s1 before after set → IsChangedIn s0 s1 before after set (λ c _. globals_at s1 after c)
kept_change s0 s1 before after set k = record { is_heap = k.is_heap; grows = k.grows; keeps = k.keeps; inside = λ c t. refl; outside = k.outside }

pub IsKept-texts : {S I : Type 0} (sets : Sets I) (before after : HeapView S I) (set : List Bool → Bool) → IsHeap sets before → HasMoreTexts before after → IsKept sets sets before after set
IsKept-texts sets before after set v m = record {
  is_heap = IsHeap-texts sets before after m v;
  grows = Grows-texts before after m;
  keeps = λ p h. IsHeapFor-texts p before after m h;
  outside = λ c t. globals_at-texts sets before after m v c;
}

-- ---- answers over a later heap

module _ {S I : Type 0} {s1 s2 : Sets I} (e : Extends s1 s2) (now after : HeapView S I) (v : IsHeap s1 now) (k : Grows now after) (c : List Bool) where
  -- a text that is there stays
  pub text_stays : (n : ℕ) → n < length now.texts → text_at after.texts n ≡ text_at now.texts n
  text_stays n l = ap (λ (o : Option (List ℕ)). unwrap_or o []) (k.texts n (text_at now.texts n) (text_there now.texts n l))

  text_known : (n : ℕ) → n < length now.texts → n < length after.texts
  text_known n l = slice_get_within after.texts n (text_at now.texts n) (k.texts n (text_at now.texts n) (text_there now.texts n l))

  message_stays : (message : Option ℕ) → is_message now message ≡ true → message_of after message ≡ message_of now message
  message_stays None t = refl
  message_stays (Some n) t = ap Some (text_stays n (ltb-true n (length now.texts) t))

  message_known : (message : Option ℕ) → is_message now message ≡ true → is_message after message ≡ true
  message_known None t = refl
  message_known (Some n) t = lt-ltb n (length after.texts) (text_known n (ltb-true n (length now.texts) t))

  slot_stays : (slot : Slot) → is_held s1 now c slot ≡ true → value_of s2 after c slot ≡ value_of s1 now c slot
  slot_stays slot t = value_of-grown e now after v k c slot t

  slot_held : (slot : Slot) → is_held s1 now c slot ≡ true → is_held s2 after c slot ≡ true
  slot_held slot t = is_held-grown e now after v k c slot t

  named_stays : (slot : Slot) → is_held s1 now c slot ≡ true → object_named s2 after c slot ≡ object_named s1 now c slot
  named_stays (Ref r) t = same (value_of-grown e now after v k c (Ref r) t)
    where
      same : {a b : ℕ} → RefValue a ≡ RefValue b → a ≡ b
      same q = cc q
  named_stays Top t = refl
  named_stays (Int n) t = refl
  named_stays (Long n) t = refl
  named_stays Null t = refl
  named_stays (Text n) t = refl

  -- what an answer names is still there
  pub answer_held-grown : (a : Answer) → is_answer_held s1 now c a ≡ true → is_answer_held s2 after c a ≡ true
  answer_held-grown answer.Illegal t = refl
  answer_held-grown (answer.Raise class message) t = message_known message t
  answer_held-grown (answer.Push slot) t = slot_held slot t
  answer_held-grown (answer.Jump position) t = refl
  answer_held-grown answer.Pass t = refl
  answer_held-grown (answer.Give slot) t = slot_held slot t
  answer_held-grown (answer.Write stream text) t = lt-ltb text (length after.texts) (text_known text (ltb-true text (length now.texts) t))
  answer_held-grown (answer.Exit code) t = refl
  answer_held-grown (answer.Throw slot) t = both (is_object slot) (is_held s1 now c slot) (is_held s2 after c slot) (slot_held slot) t
    where
      both : (o a b : Bool) → (a ≡ true → b ≡ true) → (o && a) ≡ true → (o && b) ≡ true
      both true a b f h = f h
      both false a b f h = h

  -- and it comes to the same
  pub answered-grown : (h : Here) (rest : List Value) (a : Answer) → is_answer_held s1 now c a ≡ true → answered s2 after c h rest a ≡ answered s1 now c h rest a
  answered-grown h rest answer.Illegal t = refl
  answered-grown h rest (answer.Raise class message) t = ap (λ m. Raise class.0 m h.state) (message_stays message t)
  answered-grown h rest (answer.Push slot) t = ap (λ (v : Value). push h v rest) (slot_stays slot t)
  answered-grown h rest (answer.Jump position) t = refl
  answered-grown h rest answer.Pass t = refl
  answered-grown h rest (answer.Give slot) t = ap (λ (v : Value). go h (v ∷ rest)) (slot_stays slot t)
  answered-grown h rest (answer.Write stream text) t = ap (λ units. Write stream units (past h h.state rest)) (text_stays text (ltb-true text (length now.texts) t))
  answered-grown h rest (answer.Exit code) t = refl
  answered-grown h rest (answer.Throw slot) t = ap (λ r. Throw r h.state) (named_stays slot (second (is_object slot) (is_held s1 now c slot) t))
    where
      second : (a b : Bool) → (a && b) ≡ true → b ≡ true
      second true b x = x
      second false b x = cc x

  -- what is said of an answer stays, where nothing changed at the configuration
  pub IsSaid-grown : (p : Program) (said : Here → List Value → Outcome) (a : Answer) → globals_at s2 after c ≡ globals_at s1 now c → IsSaid p s1 now c said a → IsSaid p s2 after c said a
  IsSaid-grown p said a same s = record {
    held = answer_held-grown a s.held;
    at = λ h rest. ap (λ (g : Globals). answered s2 after c (over p h g) rest a) same ∙ answered-grown (over p h (globals_at s1 now c)) rest a s.held ∙ s.at h rest;
  }

-- over a later space alone
pub IsSaid-later : {S I : Type 0} {s1 s2 : Sets I} → Extends s1 s2 → (heap : HeapView S I) → IsHeap s1 heap → (c : List Bool) (p : Program) (said : Here → List Value → Outcome) (a : Answer) → IsSaid p s1 heap c said a → IsSaid p s2 heap c said a
IsSaid-later e heap v c p said a s = IsSaid-grown e heap heap v (Grows-refl heap) c p said a (globals_at-extends e heap v c) s

-- told by other words
pub IsSaid-same : {S I : Type 0} (p : Program) (sets : Sets I) (heap : HeapView S I) (c : List Bool) (said other : Here → List Value → Outcome) (a : Answer) → ((h : Here) (rest : List Value) → said h rest ≡ other h rest) → IsSaid p sets heap c said a → IsSaid p sets heap c other a
IsSaid-same p sets heap c said other a same s = record { held = s.held; at = λ h rest. s.at h rest ∙ same h rest }

pub IsDone-same : {S I : Type 0} (p : Program) (s0 s1 : Sets I) (before after : HeapView S I) (condition : I) (says other : Says) (answers : Conditional Answer S I) → ((c : List Bool) → s0.test condition c ≡ true → (h : Here) (rest : List Value) → said_over p s0 before says c h rest ≡ said_over p s0 before other c h rest) → IsDone p s0 s1 before after condition says answers → IsDone p s0 s1 before after condition other answers
IsDone-same p s0 s1 before after condition says other answers same d = record {
  kept = d.kept;
  is_cond = d.is_cond;
  scope = d.scope;
  at = λ c t. IsSaid-same p s1 after c (said_over p s0 before says c) (said_over p s0 before other c) (answer_at s1 answers c) (same c t) (d.at c t);
}
