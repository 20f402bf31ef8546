-- Calls that are carried out leaf by leaf.
use Rattle.std.proofs.Common.{◌≡◌, Bool, true, List, refl, ◌∙◌, ap, length, map}
use Rattle.std.specs.Prelude.{◌-◌}
use Rattle.vx_cond.specs.Cond.{Conditional, IsCond}
use Rattle.vx_families.proofs.MoreTexts.{Grows-texts, IsHeap-texts, globals_at-texts}
use Rattle.vx_families.specs.Texts.{HasMoreTexts}
use Rattle.vx_group_states.proofs.AnswerLaws.{all_drop}
use Rattle.vx_group_states.proofs.GrownStates.{all_kept, is_held-grown, map_held, value_of-grown}
use Rattle.vx_group_states.specs.Answering.{answer_at}
use Rattle.vx_group_states.specs.declared.answer.Answer.{Answer}
use Rattle.vx_heap.proofs.HeapLaws.{globals_at-extends}
use Rattle.vx_heap.proofs.Known.{cond_known}
use Rattle.vx_heap.proofs.Written.{allowed_known}
use Rattle.vx_heap.specs.Changing.{Grows}
use Rattle.vx_heap.specs.Heap.{Globals, HeapView, IsHeap, IsHeapFor, are_held, globals_at, is_held, value_of}
use Rattle.vx_java.specs.Machine.{Here, Value}
use Rattle.vx_link.specs.declared.program.Program.{Program}
use Rattle.vx_natives.proofs.CharLaws.{readings_stay}
use Rattle.vx_natives.proofs.Behaving.{read_said}
use Rattle.vx_natives.proofs.Keeping.{IsKept-later, IsKept-texts, IsKept-trans, IsKept-within, IsSaid-grown, IsSaid-same}
use Rattle.vx_natives.proofs.Leaves.{Stays}
use Rattle.vx_natives.proofs.NativeRows.{all_take}
use Rattle.vx_natives.specs.Behaviours.{meaning}
use Rattle.vx_natives.specs.CallOrder.{call_cmp}
use Rattle.vx_natives.specs.Calls.{call_at, values_of}
use Rattle.vx_natives.specs.Cells.{AreCallsHeld}
use Rattle.vx_natives.specs.Deeds.{deed_says, is_deed_held}
use Rattle.vx_natives.specs.Doing.{AreDone, IsKept, IsSaidBy, over, said_over}
use Rattle.vx_natives.specs.Readings.{HaveReadings, IsCallAt, IsCallOr, IsGivenOr, readings_of, said, said_of, values_in}
use Rattle.vx_natives.specs.declared.behaviour.Behaviour.{Behaviour}
use Rattle.vx_natives.specs.declared.call.Call.{Call}
use Rattle.vx_natives.specs.declared.call.Call.TheVariants as given
use Rattle.vx_space.specs.Sets.{Extends, Sets}
use Rattle.vx_value.specs.declared.slot.Slot.{Slot}
use Rattle.vx_lang.proofs.DeedRows.{deed_right}
use Rattle.vx_lang.specs.Deeds.{deed}

-- ---- calls over a later heap

module _ {S I : Type 0} {s0 s1 : Sets I} (e : Extends s0 s1) (before now : HeapView S I) (v : IsHeap s0 before) (k : Grows before now) (c : List Bool) (b : Behaviour) where
  held_later : (slots : List Slot) → are_held s0 before c slots ≡ true → are_held s1 now c slots ≡ true
  held_later slots t = all_kept (is_held s0 before c) (is_held s1 now c) (is_held-grown e before now v k c) slots t

  values_held : (call : Call) → are_held s0 before c (values_of call) ≡ true → are_held s0 before c (values_in b call) ≡ true
  values_held call t = all_take (is_held s0 before c) (length (values_of call) - length (readings_of b)) (values_of call) t

  at_later : (call : Call) → globals_at s1 now c ≡ globals_at s0 before c → IsCallAt s0 before c b call → IsCallAt s1 now c b call
  at_later call same h = record {
    given = h.given;
    held = held_later (values_of call) h.held;
    readings = readings_stay e before now v k c (readings_of b) _ _ same (values_held call h.held) (all_drop (is_held s0 before c) (length (values_of call) - length (readings_of b)) (values_of call) h.held) h.readings;
  }

  pub call_later : (call : Call) → globals_at s1 now c ≡ globals_at s0 before c → IsCallOr s0 before c b call → IsCallOr s1 now c b call
  call_later given.Illegal same h = tt
  call_later given.Nothing same h = at_later given.Nothing same h
  call_later (given.One x) same h = at_later (given.One x) same h
  call_later (given.Two x y) same h = at_later (given.Two x y) same h
  call_later (given.Three x y z) same h = at_later (given.Three x y z) same h
  call_later (given.Four x y z w) same h = at_later (given.Four x y z w) same h
  call_later (given.Five x y z w u) same h = at_later (given.Five x y z w u) same h

  meant_later : (call : Call) (h : Here) (rest : List Value) → are_held s0 before c (values_of call) ≡ true → meaning b h (map (value_of s1 now c) (values_in b call)) rest ≡ meaning b h (map (value_of s0 before c) (values_in b call)) rest
  meant_later call h rest t = ap (λ vs. meaning b h vs rest) (map_held (is_held s0 before c) (value_of s1 now c) (value_of s0 before c) (value_of-grown e before now v k c) (values_in b call) (values_held call t))

  -- what is said of a call stays
  said_later : (call : Call) → IsCallOr s0 before c b call → (h : Here) (rest : List Value) → said s1 now b call c h rest ≡ said s0 before b call c h rest
  said_later given.Illegal t h rest = refl
  said_later given.Nothing t h rest = meant_later given.Nothing h rest t.held
  said_later (given.One x) t h rest = meant_later (given.One x) h rest t.held
  said_later (given.Two x y) t h rest = meant_later (given.Two x y) h rest t.held
  said_later (given.Three x y z) t h rest = meant_later (given.Three x y z) h rest t.held
  said_later (given.Four x y z w) t h rest = meant_later (given.Four x y z w) h rest t.held
  said_later (given.Five x y z w u) t h rest = meant_later (given.Five x y z w u) h rest t.held

  pub said_over_later : (p : Program) (call : Call) → globals_at s1 now c ≡ globals_at s0 before c → IsCallOr s0 before c b call → (h : Here) (rest : List Value) → said_over p s1 now (said s1 now b call) c h rest ≡ said_over p s0 before (said s0 before b call) c h rest
  said_over_later p call same t h rest = ap (λ (g : Globals). said s1 now b call c (over p h g) rest) same ∙ said_later call t (over p h (globals_at s0 before c)) rest

-- the configurations of a condition that runs have still are ones of runs
pub runs_later : {S I : Type 0} {s0 s1 : Sets I} → Extends s0 s1 → (before now : HeapView S I) → IsHeap s0 before → Grows before now → (c : List Bool) → s0.test before.allowed c ≡ true → s1.test now.allowed c ≡ true
runs_later {s0 = s0} {s1 = s1} e before now v k c t = ap (λ i. s1.test i c) k.allowed ∙ e.test before.allowed c (allowed_known s0 before v) ∙ t

-- ---- what is told of answers

pub said_law : {S I : Type 0} (p : Program) (sets : Sets I) (before : HeapView S I) (b : Behaviour) → Stays (IsSaidBy p sets before (said sets before b))
said_law p sets before b = record { stays = λ s1 s2 e now after v k c call a same s. IsSaid-grown e now after v k c p (said_over p sets before (said sets before b call) c) a same s }

-- ---- one call

-- what an effect names is there, where it is that of a call
pub deed_held : {S I : Type 0} (p : Program) (sets : Sets I) (heap : HeapView S I) (c : List Bool) (b : Behaviour) (call : Call) → IsHeapFor p heap → sets.test heap.allowed c ≡ true → IsCallOr sets heap c b call → is_deed_held sets heap c (deed p heap b call) ≡ true
deed_held p sets heap c b call is_for runs h = (deed_right p sets heap c is_for runs b call h).held

pub deed_said : {S I : Type 0} (p : Program) (sets : Sets I) (heap : HeapView S I) (c : List Bool) (b : Behaviour) (call : Call) → IsHeapFor p heap → sets.test heap.allowed c ≡ true → IsCallOr sets heap c b call → (h : Here) (rest : List Value) → said_over p sets heap (deed_says sets heap (deed p heap b call)) c h rest ≡ said_over p sets heap (said sets heap b call) c h rest
deed_said p sets heap c b call is_for runs h = (deed_right p sets heap c is_for runs b call h).at

-- ---- all calls

-- the calls with what was read behind their values were carried out
pub answered-done : {S I : Type 0} (p : Program) {s0 s1 s2 : Sets I} → Extends s0 s1 → (before middle after : HeapView S I) (b : Behaviour) (calls read : Conditional Call S I) (answers : Conditional Answer S I) → IsHeap s0 before → IsCond call_cmp s0 calls → AreCallsHeld s0 before calls → ((c : List Bool) → s0.test calls.scope c ≡ true → IsGivenOr b (call_at s0 calls c)) → HasMoreTexts before middle → read.scope ≡ calls.scope → ((c : List Bool) → s0.test calls.scope c ≡ true → HaveReadings s1 middle c (readings_of b) (call_at s0 calls c) (call_at s0 calls c) (call_at s1 read c)) → AreDone given.Illegal p s1 s2 middle after (said s1 middle b) read answers → AreDone given.Illegal p s0 s2 before after (said_of s0 before b) calls answers
answered-done p {s0 = s0} {s1 = s1} {s2 = s2} e before middle after b calls read answers v w held gave more scope has done = record {
  kept = IsKept-trans s0 s1 s2 before middle after (s0.test calls.scope) first (IsKept-within s1 s2 middle after (s1.test read.scope) (s0.test calls.scope) (λ c t. later c ∙ t) done.kept);
  is_cond = done.is_cond;
  scope = done.scope ∙ scope;
  at = λ c t. IsSaid-same p s2 after c (said_over p s1 middle (said s1 middle b (call_at s1 read c)) c) (said_over p s0 before (said_of s0 before b (call_at s0 calls c)) c) (answer_at s2 answers c) (same c t) (done.at c (later c ∙ t));
}
  where
    grows : Grows before middle
    grows = Grows-texts before middle more

    later : (c : List Bool) → s1.test read.scope c ≡ s0.test calls.scope c
    later c = ap (λ i. s1.test i c) scope ∙ e.test calls.scope c (cond_known call_cmp s0 calls w).0

    first : IsKept s0 s1 before middle (s0.test calls.scope)
    first = IsKept-later before middle (s0.test calls.scope) e (IsKept-texts s0 before middle (s0.test calls.scope) v more)

    earlier : (c : List Bool) → globals_at s1 middle c ≡ globals_at s0 before c
    earlier c = globals_at-extends e middle (IsHeap-texts s0 before middle more v) c ∙ globals_at-texts s0 before middle more v c

    same : (c : List Bool) → s0.test calls.scope c ≡ true → (h : Here) (rest : List Value) → said_over p s1 middle (said s1 middle b (call_at s1 read c)) c h rest ≡ said_over p s0 before (said_of s0 before b (call_at s0 calls c)) c h rest
    same c t h rest =
        ap (λ (g : Globals). said s1 middle b (call_at s1 read c) c (over p h g) rest) (earlier c)
        ∙ read_said e before middle v grows c b (call_at s0 calls c) (call_at s1 read c) (gave c t) (held.held c t) (has c t) (over p h (globals_at s0 before c)) rest
