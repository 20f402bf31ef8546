-- From calls with what was read for them, which were answered leaf by leaf, to the attempt.
use Rattle.std.proofs.Common.{◌≡◌, ℕ, ◌+◌, ◌-◌, ◌≤◌, suc, Bool, true, false, List, [], ◌∷◌, ◌++◌, refl, sym, ◌∙◌, ap, subst, append_assoc, arith, drop, length, map, reverse, take, if◌then◌else◌}
use Rattle.std.proofs.Math.Seq.{drop-append_seam, take-append_seam}
use Rattle.std.proofs.lemmas.Bool.{eqb-true, leb-true}
use Rattle.std.proofs.lemmas.List.{append-nil, length-append}
use Rattle.std.proofs.lemmas.List.Folds.{list_all-append}
use Rattle.std.proofs.lemmas.Slice.Zip.{AllZip-long}
use Rattle.std.specs.Prelude.{◌&&◌, ◌==◌, ◌||◌, None, Option, Some, is_some, nat_le, option_map, unwrap_or}
use Rattle.std.specs.declared.cmp.Ordering.{Ordering}
use Rattle.vx_class.specs.Members.{STATIC}
use Rattle.vx_cond.specs.Cond.{Conditional, IsCond, IsCondLifting, cond_at}
use Rattle.vx_cond.specs.Leaves.{IsLifted}
use Rattle.vx_cond.proofs.SideLaws.{cond_at-covers}
use Rattle.vx_desc.specs.declared.java_type.JavaType.{JavaType}
use Rattle.vx_families.proofs.Given.{given_operands_held}
use Rattle.vx_families.specs.Attempts.{AttemptsBy, IsGiven}
use Rattle.vx_families.specs.Sorts.{slot_fits, narrowed_slot}
use Rattle.vx_group.specs.Group.{GroupView, path_of}
use Rattle.vx_group.proofs.GroupLaws.{IsGroup-path_known}
use Rattle.vx_group_states.proofs.AnswerLaws.{all_drop}
use Rattle.vx_group_states.proofs.GrownStates.{Grows-refl, all_kept, is_held-grown, map_held, value_of-grown}
use Rattle.vx_group_states.proofs.SettleLaws.{lifting_at}
use Rattle.vx_group_states.specs.Answering.{AreHeld, answer_at, answered_by, operands_at}
use Rattle.vx_group_states.specs.Sites.{GivesAt}
use Rattle.vx_group_states.specs.declared.answer.Answer.{Answer}
use Rattle.vx_group_states.specs.declared.site.Site.{Site}
use Rattle.vx_heap.proofs.HeapLaws.{globals_at-extends}
use Rattle.vx_heap.specs.Changing.{Grows}
use Rattle.vx_heap.specs.Heap.{Globals, HeapView, IsHeap, are_held, globals_at, is_held, value_of}
use Rattle.vx_java.specs.Checks.{sort_of}
use Rattle.vx_java.specs.FirstObjects.{narrow_of_type}
use Rattle.vx_java.specs.Ids.{as_class}
use Rattle.vx_java.specs.Machine.{Here, Value}
use Rattle.vx_java.specs.Natives.{native, native_of}
use Rattle.vx_java.specs.Texts.{NativeMethod}
use Rattle.vx_java.specs.declared.operation.Operation.{Operation}
use Rattle.vx_link.specs.ClassNames.{class_of_type}
use Rattle.vx_link.specs.Parts.{has, method_at}
use Rattle.vx_link.specs.Signature.{signature}
use Rattle.vx_link.specs.declared.program.LinkedMethod.{LinkedMethod}
use Rattle.vx_link.specs.declared.program.Program.{Program}
use Rattle.vx_outcome.specs.declared.outcome.Outcome.{Outcome as SharedOutcome}
use Rattle.vx_space.proofs.Spaces.{Extends-trans}
use Rattle.vx_space.specs.Sets.{Extends, Sets}
use Rattle.vx_value.specs.declared.operation.Narrow.{Narrow}
use Rattle.vx_value.specs.declared.slot.Slot.{Slot}
use Rattle.vx_value.specs.declared.slot.Slot.TheVariants.{Top, Int, Long, Null, Ref, Text}
use Rattle.vx_natives.specs.Arguments.{AreCalls, AreRead, IsRead, arguments_of, arguments_with, is_instance, is_wanted, taken_by, where_room, with_receiver, with_slot}
use Rattle.vx_natives.specs.Behaviours.{meaning}
use Rattle.vx_natives.specs.Calls.{call_at, call_given, call_of, values_of}
use Rattle.vx_natives.specs.Cells.{AreCallsHeld}
use Rattle.vx_natives.specs.Doing.{AreDone, over, said_over}
use Rattle.vx_natives.specs.Forms.{HasBehaviour, reads_at}
use Rattle.vx_natives.specs.Readings.{AreGiven, AreReadings, HaveReadings, IsCallAt, IsCallOr, IsGivenOr, read_in, readings_of, said, said_of, values_in}
use Rattle.vx_natives.specs.Rows.{said_given}
use Rattle.vx_natives.specs.Takes.{takes}
use Rattle.vx_natives.specs.declared.behaviour.Behaviour.{Behaviour}
use Rattle.vx_natives.specs.declared.behaviour.Behaviour.TheVariants as behaviour
use Rattle.vx_natives.specs.declared.behaviour.BuilderChange.TheVariants as change
use Rattle.vx_natives.specs.declared.behaviour.CellQuestion.TheVariants as cell
use Rattle.vx_natives.specs.declared.behaviour.Computation.TheVariants as compute
use Rattle.vx_natives.specs.declared.behaviour.Initialiser.TheVariants as init
use Rattle.vx_natives.specs.declared.behaviour.Maker.TheVariants as maker
use Rattle.vx_natives.specs.declared.behaviour.Printing.TheVariants as printing
use Rattle.vx_natives.specs.declared.behaviour.Spelling.TheVariants as spelling
use Rattle.vx_natives.specs.declared.behaviour.TextQuestion.TheVariants as text
use Rattle.vx_natives.specs.declared.call.Call.{Call}
use Rattle.vx_natives.specs.declared.call.Call.TheVariants as kind
use Rattle.vx_natives.specs.declared.call.Call.TheVariants.{Illegal}
use Rattle.vx_natives.specs.declared.readings.Reading.{Reading}
use Rattle.vx_natives.proofs.Attempting.{native-attempts}
use Rattle.vx_natives.proofs.CallLaws.{call_more}
use Rattle.vx_natives.proofs.Keeping.{IsKept-earlier, IsKept-within, IsSaid-same}
use Rattle.vx_natives.proofs.NativeRows.{all_reversed, all_take, form_reads, given_read}

-- ---- conditional values that a function was mapped over

pub mapped : {T A S I : Type 0} (first : T) (none : A) (cmp : T → T → Ordering) (by : A → A → Ordering) (s1 s2 : Sets I) (cond : Conditional T S I) (made : Conditional A S I) (R : T → A → Type 0) (f : T → A) → ((x : T) (a : A) → R x a → a ≡ f x) → IsCond cmp s1 cond → IsCondLifting by s2 R (cond_at s1 cond) made → (c : List Bool) → s1.test cond.scope c ≡ true → unwrap_or (cond_at s2 made c) none ≡ f (unwrap_or (cond_at s1 cond c) first)
mapped {T = T} {A = A} first none cmp by s1 s2 cond made R f law v lifting c t = at (cond_at s1 cond c) (cond_at s2 made c) (cond_at-covers cmp s1 cond v c ∙ t) (lifting_at by s2 R (cond_at s1 cond) made lifting c)
  where
    at : (x : Option T) (a : Option A) → is_some x ≡ true → IsLifted R x a → unwrap_or a none ≡ f (unwrap_or x first)
    at None a h l = cc
    at (Some x) None h l = absurd l
    at (Some x) (Some a) h l = law x a l

-- ---- the values of a call name what is there

module _ {S I : Type 0} (sets : Sets I) (heap : HeapView S I) (c : List Bool) where
  narrowed_held : (to : Option Narrow) (slot : Slot) → is_held sets heap c slot ≡ true → is_held sets heap c (narrowed_slot to slot) ≡ true
  narrowed_held None slot t = t
  narrowed_held (Some to) Top t = refl
  narrowed_held (Some to) (Int n) t = refl
  narrowed_held (Some to) (Long n) t = refl
  narrowed_held (Some to) Null t = refl
  narrowed_held (Some to) (Ref r) t = t
  narrowed_held (Some to) (Text n) t = t

  first : (a b : Bool) → (a && b) ≡ true → a ≡ true
  first true b t = refl
  first false b t = cc

  second : (a b : Bool) → (a && b) ≡ true → b ≡ true
  second true b t = t
  second false b t = cc

  abbrev all_held : Option (List Slot) → Bool
  all_held None = true
  all_held (Some values) = are_held sets heap c values

  more_held : (given : Option (List Slot)) (test : Bool) (slot : Slot) → all_held given ≡ true → is_held sets heap c slot ≡ true → all_held (with_slot given (if test then Some slot else None)) ≡ true
  more_held None test slot t u = refl
  more_held (Some values) false slot t u = refl
  more_held (Some values) true slot t u = list_all-append (is_held sets heap c) values (slot ∷ []) ∙ both (are_held sets heap c values) (is_held sets heap c slot) t u
    where
      both : (a b : Bool) → a ≡ true → b ≡ true → (a && (b && true)) ≡ true
      both true true t u = refl
      both true false t u = cc
      both false b t u = cc

  arguments_held : (p : Program) (d : List ℕ) (types : List JavaType) (slots : List Slot) (given : Option (List Slot)) → are_held sets heap c slots ≡ true → all_held given ≡ true → all_held (arguments_with p heap d types slots given) ≡ true
  arguments_held p d [] slots given t u = u
  arguments_held p d (type ∷ types) [] given t u = refl
  arguments_held p d (type ∷ types) (slot ∷ slots) given t u =
      let test = slot_fits (sort_of type) slot && is_wanted p heap (option_map as_class (class_of_type p d type)) slot in
      arguments_held p d types slots _ (second (is_held sets heap c slot) (are_held sets heap c slots) t) (more_held given test (narrowed_slot (narrow_of_type type) slot) u (narrowed_held (narrow_of_type type) slot (first (is_held sets heap c slot) (are_held sets heap c slots) t)))

  receiver_held : (p : Program) (static : Bool) (class : ℕ) (below : List Slot) → are_held sets heap c below ≡ true → all_held (with_receiver p heap static class below) ≡ true
  receiver_held p true class below t = refl
  receiver_held p false class [] t = refl
  receiver_held p false class (o ∷ below) t = by_class (is_instance p heap class o)
    where
      by_class : (b : Bool) → all_held (if b then Some (o ∷ []) else None) ≡ true
      by_class true = ap (λ b. b && true) (first (is_held sets heap c o) (are_held sets heap c below) t)
      by_class false = refl

  pub given_held : (site : Site) (m : LinkedMethod) (operands values : List Slot) → are_held sets heap c operands ≡ true → arguments_of site heap m operands ≡ Some values → are_held sets heap c values ≡ true
  given_held site m operands values t e =
      let p = site.program.now in
      let s = signature m.descriptor in
      let count = length s.arguments in
      let below = drop count operands in
      let args = reverse (take count operands) in
      let held = arguments_held p m.descriptor s.arguments args (with_receiver p heap (has STATIC m.flags) m.class.0 below) (all_reversed (is_held sets heap c) (take count operands) (all_take (is_held sets heap c) count operands t)) (receiver_held p (has STATIC m.flags) m.class.0 below (all_drop (is_held sets heap c) count operands t)) in
      sym (ap all_held e) ∙ in_room _ (arguments_with p heap m.descriptor s.arguments args (with_receiver p heap (has STATIC m.flags) m.class.0 below)) held
    where
      in_room : (room : Bool) (given : Option (List Slot)) → all_held given ≡ true → all_held (where_room room given) ≡ true
      in_room true given h = h
      in_room false given h = refl

-- ---- calls with what was read behind their values

-- what they do looks at no more than five
exact : (n k r : ℕ) → (n == k) ≡ true → nat_le (k + r) 5 ≡ true → n + r ≤ 5
exact n k r e f = omega (arith, eqb-true n k e, leb-true (k + r) 5 f)

either : (n k l r : ℕ) → ((n == k) || (n == l)) ≡ true → nat_le (k + r) 5 ≡ true → nat_le (l + r) 5 ≡ true → n + r ≤ 5
either n k l r e f g = by (n == k) refl e
  where
    by : (b : Bool) → (n == k) ≡ b → (b || (n == l)) ≡ true → n + r ≤ 5
    by true is t = exact n k r is f
    by false is t = exact n l r t g

any_of : (n : ℕ) → ((n == 1) || ((n == 2) || (n == 3))) ≡ true → n + 0 ≤ 5
any_of n e = by (n == 1) refl e
  where
    by : (b : Bool) → (n == 1) ≡ b → (b || ((n == 2) || (n == 3))) ≡ true → n + 0 ≤ 5
    by true is t = exact n 1 0 is refl
    by false is t = either n 2 3 0 t refl refl

pub fits : (b : Behaviour) (n : ℕ) → takes b n ≡ true → n + length (readings_of b) ≤ 5
fits behaviour.Missing n e = exact n 0 0 e refl
fits (behaviour.Compute compute.SameObject) n e = exact n 2 0 e refl
fits (behaviour.Compute compute.CompareInts) n e = exact n 2 0 e refl
fits (behaviour.Compute compute.GreaterInt) n e = exact n 2 0 e refl
fits (behaviour.Compute compute.GreaterLong) n e = exact n 2 0 e refl
fits (behaviour.Compute compute.LesserInt) n e = exact n 2 0 e refl
fits (behaviour.Compute compute.LesserLong) n e = exact n 2 0 e refl
fits (behaviour.Compute compute.AddSuppressed) n e = exact n 2 0 e refl
fits (behaviour.Compute _) n e = exact n 1 0 e refl
fits (behaviour.AskCells cell.SameNumber) n e = exact n 2 2 e refl
fits (behaviour.AskCells cell.CompareNumbers) n e = exact n 2 2 e refl
fits (behaviour.AskCells cell.CompareOrdinals) n e = exact n 2 2 e refl
fits (behaviour.AskCells _) n e = exact n 1 1 e refl
fits (behaviour.AskTexts text.Length) n e = exact n 1 1 e refl
fits (behaviour.AskTexts text.IsEmpty) n e = exact n 1 1 e refl
fits (behaviour.AskTexts text.Hash) n e = exact n 1 1 e refl
fits (behaviour.AskTexts text.Parse) n e = exact n 1 1 e refl
fits (behaviour.AskTexts text.CharAt) n e = exact n 2 1 e refl
fits (behaviour.AskTexts text.PlaceOfPoint) n e = exact n 2 1 e refl
fits (behaviour.AskTexts _) n e = exact n 2 2 e refl
fits (behaviour.Initialise init.Empty) n e = exact n 1 0 e refl
fits (behaviour.Initialise init.OfText) n e = exact n 2 1 e refl
fits (behaviour.Initialise init.OfChars) n e = exact n 2 1 e refl
fits (behaviour.Initialise init.OfCapacity) n e = exact n 2 0 e refl
fits (behaviour.Initialise init.Enum) n e = exact n 3 0 e refl
fits (behaviour.Initialise init.Throwable) n e = any_of n e
fits (behaviour.Change (change.Append spelling.Text)) n e = exact n 2 2 e refl
fits (behaviour.Change (change.Append spelling.Chars)) n e = exact n 2 2 e refl
fits (behaviour.Change (change.Append _)) n e = exact n 2 1 e refl
fits (behaviour.Change change.SetLength) n e = exact n 2 1 e refl
fits (behaviour.Change change.Delete) n e = exact n 2 1 e refl
fits (behaviour.Change change.Reverse) n e = exact n 1 1 e refl
fits (behaviour.Make maker.Concat) n e = exact n 2 2 e refl
fits (behaviour.Make maker.Substring) n e = either n 2 3 1 e refl refl
fits (behaviour.Make maker.LineSeparator) n e = exact n 0 0 e refl
fits (behaviour.Make maker.IntegerOf) n e = exact n 1 0 e refl
fits (behaviour.Make maker.SpellInt) n e = exact n 1 0 e refl
fits (behaviour.Make maker.ClassName) n e = exact n 1 0 e refl
fits (behaviour.Make (maker.TextOf spelling.Text)) n e = exact n 1 1 e refl
fits (behaviour.Make (maker.TextOf spelling.Chars)) n e = exact n 1 1 e refl
fits (behaviour.Make (maker.TextOf _)) n e = exact n 1 0 e refl
fits (behaviour.Make _) n e = exact n 1 1 e refl
fits (behaviour.Print (printing.Value spelling.Text)) n e = exact n 2 2 e refl
fits (behaviour.Print (printing.Value spelling.Chars)) n e = exact n 2 2 e refl
fits (behaviour.Print (printing.Value _)) n e = exact n 2 1 e refl
fits (behaviour.Print (printing.Line spelling.Text)) n e = exact n 2 2 e refl
fits (behaviour.Print (printing.Line spelling.Chars)) n e = exact n 2 2 e refl
fits (behaviour.Print (printing.Line _)) n e = exact n 2 1 e refl
fits (behaviour.Print printing.LineEnd) n e = exact n 1 1 e refl
fits behaviour.CopyArray n e = exact n 5 0 e refl

-- so many are the values of their call
back : (xs : List Slot) → length xs ≤ 5 → values_of (call_of xs) ≡ xs
back [] l = refl
back (a ∷ []) l = refl
back (a ∷ b ∷ []) l = refl
back (a ∷ b ∷ d ∷ []) l = refl
back (a ∷ b ∷ d ∷ e ∷ []) l = refl
back (a ∷ b ∷ d ∷ e ∷ f ∷ []) l = refl
back (a ∷ b ∷ d ∷ e ∷ f ∷ g ∷ xs) l = absurd (omega (arith, l))

module _ {S I : Type 0} (sets : Sets I) (heap : HeapView S I) (c : List Bool) (b : Behaviour) where
  or_call : (xs : List Slot) → length xs ≤ 5 → IsCallAt sets heap c b (call_of xs) → IsCallOr sets heap c b (call_of xs)
  or_call [] l h = h
  or_call (x ∷ []) l h = h
  or_call (x ∷ y ∷ []) l h = h
  or_call (x ∷ y ∷ z ∷ []) l h = h
  or_call (x ∷ y ∷ z ∷ u ∷ []) l h = h
  or_call (x ∷ y ∷ z ∷ u ∷ v ∷ []) l h = h
  or_call (x ∷ y ∷ z ∷ u ∷ v ∷ w ∷ xs) l h = absurd (omega (arith, l))

  list_said : (xs : List Slot) → length xs ≤ 5 → (h : Here) (rest : List Value) → said sets heap b (call_of xs) c h rest ≡ meaning b h (map (value_of sets heap c) (values_in b (call_of xs))) rest
  list_said [] l h rest = refl
  list_said (x ∷ []) l h rest = refl
  list_said (x ∷ y ∷ []) l h rest = refl
  list_said (x ∷ y ∷ z ∷ []) l h rest = refl
  list_said (x ∷ y ∷ z ∷ u ∷ []) l h rest = refl
  list_said (x ∷ y ∷ z ∷ u ∷ v ∷ []) l h rest = refl
  list_said (x ∷ y ∷ z ∷ u ∷ v ∷ w ∷ xs) l h rest = absurd (omega (arith, l))

  as_many : (rs : List Reading) (values read : List Slot) → AreReadings sets heap c rs values read → length read ≡ length rs
  as_many [] values read h = ap length h
  as_many (r ∷ rs) values [] h = absurd h
  as_many (r ∷ rs) values (x ∷ read) h = ap suc (as_many rs values read h.1)

  -- values with what was read of them
  module _ (values read : List Slot) (given : AreGiven b values) (held : are_held sets heap c values ≡ true) (there : are_held sets heap c read ≡ true) (readings : AreReadings sets heap c (readings_of b) values read) where
    few : length (values ++ read) ≤ 5
    few = omega (arith, fits b (length values) given.count, as_many (readings_of b) values read readings, length-append values read)

    all : values_of (call_of (values ++ read)) ≡ values ++ read
    all = back (values ++ read) few

    front : length (values_of (call_of (values ++ read))) - length (readings_of b) ≡ length values
    front = omega (arith, ap length all, as_many (readings_of b) values read readings, length-append values read)

    pub values_are : values_in b (call_of (values ++ read)) ≡ values
    values_are = (λ i. take (front i) (all i)) ∙ take-append_seam values read

    read_are_in : read_in b (call_of (values ++ read)) ≡ read
    read_are_in = (λ i. drop (front i) (all i)) ∙ drop-append_seam values read

    call_at_values : IsCallAt sets heap c b (call_of (values ++ read))
    call_at_values =
        let P : List Slot → List Slot → Type 0 = λ xs ys. AreReadings sets heap c (readings_of b) xs ys in
        let Q : List Slot → Type 0 = AreGiven b in
        record {
          given = subst Q (sym values_are) given;
          held = ap (are_held sets heap c) all ∙ list_all-append (is_held sets heap c) values read ∙ (λ i. held i && there i);
          readings = subst (λ (xs : List Slot). P xs (read_in b (call_of (values ++ read)))) (sym values_are) (subst (P values) (sym read_are_in) readings);
        }

    pub call_or_values : IsCallOr sets heap c b (call_of (values ++ read))
    call_or_values = or_call (values ++ read) few call_at_values

    pub said_of_values : (h : Here) (rest : List Value) → said sets heap b (call_of (values ++ read)) c h rest ≡ meaning b h (map (value_of sets heap c) values) rest
    said_of_values h rest = list_said (values ++ read) few h rest ∙ ap (λ xs. meaning b h (map (value_of sets heap c) xs) rest) values_are

  -- ---- readings of a call

  -- no values get none behind them
  illegal_stays : (rs : List Reading) (call after : Call) → HaveReadings sets heap c rs call Illegal after → after ≡ Illegal
  illegal_stays [] call after h = h
  illegal_stays (r ∷ rs) call after h = illegal_stays rs call after h.2

  -- what was read, behind values and other slots
  pub record IsReadBehind (rs : List Reading) (values before : List Slot) (after : Call) : Type 0 where
    pub read : List Slot
    pub is : after ≡ call_of (before ++ read)
    pub there : are_held sets heap c read ≡ true
    pub readings : AreReadings sets heap c rs values read

  read_behind : (rs : List Reading) (call after : Call) (before : List Slot) → HaveReadings sets heap c rs call (call_of before) after → IsReadBehind rs (values_of call) before after
  read_behind [] call after before h = record { read = []; is = h ∙ ap call_of (sym (append-nil before)); there = refl; readings = refl }
  read_behind (r ∷ rs) call after before h =
      let P : Call → Type 0 = λ k. HaveReadings sets heap c rs call k after in
      let more = read_behind rs call after (before ++ h.0 ∷ []) (subst P (call_more before h.0) h.2) in
      record {
        read = h.0 ∷ more.read;
        is = more.is ∙ ap call_of (append_assoc before (h.0 ∷ []) more.read);
        there = (λ i. h.1.held i && more.there i);
        readings = (h.1.reading, more.readings);
      }

  pub read_of_values : (values : List Slot) (after : Call) → length values ≤ 5 → HaveReadings sets heap c (readings_of b) (call_of values) (call_of values) after → IsReadBehind (readings_of b) values values after
  read_of_values values after l h =
      let P : List Slot → Type 0 = λ xs. IsReadBehind (readings_of b) xs values after in
      subst P (back values l) (read_behind (readings_of b) (call_of values) after values h)

-- ---- one call

module _ {S I : Type 0} {s1 s2 : Sets I} (e : Extends s1 s2) (before middle : HeapView S I) (v : IsHeap s1 before) (grows : Grows before middle) (c : List Bool) (b : Behaviour) where
  module _ (values : List Slot) (given : AreGiven b values) (held : are_held s1 before c values ≡ true) (after : Call) (has : HaveReadings s2 middle c (readings_of b) (call_of values) (call_of values) after) where
    behind : IsReadBehind s2 middle c b (readings_of b) values values after
    behind = read_of_values s2 middle c b values after (omega (arith, fits b (length values) given.count)) has

    held_too : are_held s2 middle c values ≡ true
    held_too = all_kept (is_held s1 before c) (is_held s2 middle c) (is_held-grown e before middle v grows c) values held

    there : IsCallOr s2 middle c b after
    there =
        let P : Call → Type 0 = IsCallOr s2 middle c b in
        subst P (sym behind.is) (call_or_values s2 middle c b values behind.read given held_too behind.there behind.readings)

    says : (h : Here) (rest : List Value) → said s2 middle b after c h rest ≡ meaning b h (map (value_of s1 before c) values) rest
    says h rest =
        ap (λ k. said s2 middle b k c h rest) behind.is
        ∙ said_of_values s2 middle c b values behind.read given held_too behind.there behind.readings h rest
        ∙ ap (λ vs. meaning b h vs rest) (map_held (is_held s1 before c) (value_of s2 middle c) (value_of s1 before c) (value_of-grown e before middle v grows c) values held)

  -- with what was read behind its values it is one that the method can look at
  pub read_is : (call after : Call) → IsGivenOr b call → are_held s1 before c (values_of call) ≡ true → HaveReadings s2 middle c (readings_of b) call call after → IsCallOr s2 middle c b after
  read_is kind.Illegal after g t has =
      let P : Call → Type 0 = IsCallOr s2 middle c b in
      subst P (sym (illegal_stays s2 middle c b (readings_of b) Illegal after has)) tt
  read_is kind.Nothing after g t has = there [] g t after has
  read_is (kind.One x) after g t has = there (x ∷ []) g t after has
  read_is (kind.Two x y) after g t has = there (x ∷ y ∷ []) g t after has
  read_is (kind.Three x y z) after g t has = there (x ∷ y ∷ z ∷ []) g t after has
  read_is (kind.Four x y z u) after g t has = there (x ∷ y ∷ z ∷ u ∷ []) g t after has
  read_is (kind.Five x y z u w) after g t has = there (x ∷ y ∷ z ∷ u ∷ w ∷ []) g t after has

  -- and the same is said of it
  pub read_said : (call after : Call) → IsGivenOr b call → are_held s1 before c (values_of call) ≡ true → HaveReadings s2 middle c (readings_of b) call call after → (h : Here) (rest : List Value) → said s2 middle b after c h rest ≡ said_of s1 before b call c h rest
  read_said kind.Illegal after g t has h rest = ap (λ k. said s2 middle b k c h rest) (illegal_stays s2 middle c b (readings_of b) Illegal after has)
  read_said kind.Nothing after g t has h rest = says [] g t after has h rest
  read_said (kind.One x) after g t has h rest = says (x ∷ []) g t after has h rest
  read_said (kind.Two x y) after g t has h rest = says (x ∷ y ∷ []) g t after has h rest
  read_said (kind.Three x y z) after g t has h rest = says (x ∷ y ∷ z ∷ []) g t after has h rest
  read_said (kind.Four x y z u) after g t has h rest = says (x ∷ y ∷ z ∷ u ∷ []) g t after has h rest
  read_said (kind.Five x y z u w) after g t has h rest = says (x ∷ y ∷ z ∷ u ∷ w ∷ []) g t after has h rest

-- values as a call
module _ {S I : Type 0} (sets : Sets I) (heap : HeapView S I) (c : List Bool) where
  values_held : (values : List Slot) → are_held sets heap c values ≡ true → are_held sets heap c (values_of (call_of values)) ≡ true
  values_held [] t = t
  values_held (x ∷ []) t = t
  values_held (x ∷ y ∷ []) t = t
  values_held (x ∷ y ∷ z ∷ []) t = t
  values_held (x ∷ y ∷ z ∷ u ∷ []) t = t
  values_held (x ∷ y ∷ z ∷ u ∷ w ∷ []) t = t
  values_held (x ∷ y ∷ z ∷ u ∷ w ∷ q ∷ xs) t = refl

  values_said : (b : Behaviour) (values : List Slot) → length values ≤ 5 → (h : Here) (rest : List Value) → said_of sets heap b (call_of values) c h rest ≡ meaning b h (map (value_of sets heap c) values) rest
  values_said b [] l h rest = refl
  values_said b (x ∷ []) l h rest = refl
  values_said b (x ∷ y ∷ []) l h rest = refl
  values_said b (x ∷ y ∷ z ∷ []) l h rest = refl
  values_said b (x ∷ y ∷ z ∷ u ∷ []) l h rest = refl
  values_said b (x ∷ y ∷ z ∷ u ∷ w ∷ []) l h rest = refl
  values_said b (x ∷ y ∷ z ∷ u ∷ w ∷ q ∷ xs) l h rest = absurd (omega (arith, l))

given_or : (b : Behaviour) (values : List Slot) → AreGiven b values → IsGivenOr b (call_of values)
given_or b [] g = g
given_or b (x ∷ []) g = g
given_or b (x ∷ y ∷ []) g = g
given_or b (x ∷ y ∷ z ∷ []) g = g
given_or b (x ∷ y ∷ z ∷ u ∷ []) g = g
given_or b (x ∷ y ∷ z ∷ u ∷ w ∷ []) g = g
given_or b (x ∷ y ∷ z ∷ u ∷ w ∷ q ∷ xs) g = tt

-- ---- the attempt

module _ {S I : Type 0} (site : Site) (operation : Operation) (m : ℕ) (b : Behaviour) {s0 s1 : Sets I} (before : HeapView S I) (group : GroupView S I) (calls : Conditional Call S I) (given : IsGiven site operation s0 before group) (does : HasBehaviour site.program.now m b) (are : AreCalls site m s0 s1 before group calls) (e : Extends s0 s1) where
  abbrev method : LinkedMethod
  method = method_at site.program.now m

  abbrev operands : List Bool → List Slot
  operands c = operands_at s0 group.top.stack c

  later : (c : List Bool) → s1.test calls.scope c ≡ s0.test (path_of group) c
  later c = ap (λ i. s1.test i c) are.scope ∙ e.test (path_of group) c (IsGroup-path_known s0 group given.is_group)

  are_given : (c : List Bool) (values : List Slot) → arguments_of site before method (operands c) ≡ Some values → AreGiven b values
  are_given c values some =
      let P : List (Option Narrow) → Type 0 = λ to. AreRead to values in
      let reads : AreRead (reads_at method.native) values = subst P (form_reads method does.numbered does.form) (given_read site before method (operands c) values some) in
      let number : length values ≡ length (reads_at method.native) = AllZip-long IsRead (reads_at method.native) values reads in
      record { count = ap (takes b) number ∙ does.count; to = reads_at method.native; read = reads; wants = does.reads }

  held_then : (c : List Bool) → s0.test (path_of group) c ≡ true → (values : List Slot) → are_held s0 before c values ≡ true → are_held s1 before c values ≡ true
  held_then c t values h = all_kept (is_held s0 before c) (is_held s1 before c) (is_held-grown e before before given.is_heap (Grows-refl before) c) values h

  held_before : (c : List Bool) → s0.test (path_of group) c ≡ true → (values : List Slot) → arguments_of site before method (operands c) ≡ Some values → are_held s0 before c values ≡ true
  held_before c t values some = given_held s0 before c site method (operands c) values (given_operands_held site operation s0 before group given c t) some

  -- each call breaks a rule, or has the values of a method that does this
  pub calls_given : (c : List Bool) → s1.test calls.scope c ≡ true → IsGivenOr b (call_at s1 calls c)
  calls_given c t =
      let P : Call → Type 0 = IsGivenOr b in
      subst P (sym (are.at c (sym (later c) ∙ t))) (by (arguments_of site before method (operands c)) refl)
    where
      by : (o : Option (List Slot)) → arguments_of site before method (operands c) ≡ o → IsGivenOr b (call_given o)
      by None some = tt
      by (Some values) some = given_or b values (are_given c values some)

  -- and names what is there
  pub calls_held : AreCallsHeld s1 before calls
  calls_held = record { held = λ c t. ap (λ k. are_held s1 before c (values_of k)) (are.at c (sym (later c) ∙ t)) ∙ by c (sym (later c) ∙ t) (arguments_of site before method (operands c)) refl }
    where
      by : (c : List Bool) → s0.test (path_of group) c ≡ true → (o : Option (List Slot)) → arguments_of site before method (operands c) ≡ o → are_held s1 before c (values_of (call_given o)) ≡ true
      by c t None some = refl
      by c t (Some values) some = values_held s1 before c values (held_then c t values (held_before c t values some))

  -- what is said of it is what the ordinary machine says of what the call was given
  same_said : (c : List Bool) → s0.test (path_of group) c ≡ true → (h : Here) (rest : List Value) → said_of s1 before b (call_at s1 calls c) c h rest ≡ said_given s0 before (native_of method.native) (arguments_of site before method (operands c)) c h rest
  same_said c t h rest = ap (λ k. said_of s1 before b k c h rest) (are.at c t) ∙ by (arguments_of site before method (operands c)) refl
    where
      by : (o : Option (List Slot)) → arguments_of site before method (operands c) ≡ o → said_of s1 before b (call_given o) c h rest ≡ said_given s0 before (native_of method.native) o c h rest
      by None some = refl
      by (Some values) some =
          values_said s1 before c b values (omega (arith, fits b (length values) (are_given c values some).count)) h rest
          ∙ ap (λ vs. meaning b h vs rest) (map_held (is_held s0 before c) (value_of s1 before c) (value_of s0 before c) (value_of-grown e before before given.is_heap (Grows-refl before) c) values (held_before c t values some))
          ∙ ap (λ (f : NativeMethod). f h (map (value_of s0 before c) values) rest) does.row

  same_over : (c : List Bool) → s0.test (path_of group) c ≡ true → (h : Here) (rest : List Value) → said_over site.program.now s1 before (said_of s1 before b (call_at s1 calls c)) c h rest ≡ said_over site.program.now s0 before (said_given s0 before (native_of method.native) (arguments_of site before method (operands c))) c h rest
  same_over c t h rest =
      ap (λ (g : Globals). said_of s1 before b (call_at s1 calls c) c (over site.program.now h g) rest) (globals_at-extends e before given.is_heap c)
      ∙ same_said c t (over site.program.now h (globals_at s0 before c)) rest

  -- The calls were answered, and the answers carried out.
  pub behaviour-attempts : {s2 s3 : Sets I} (after : HeapView S I) (answers : Conditional Answer S I) (outcomes : List (SharedOutcome S I)) → Extends s1 s2 → Extends s2 s3 → AreDone Illegal site.program.now s1 s2 before after (said_of s1 before b) calls answers → ((heap : HeapView S I) → AreHeld s2 heap (path_of group) answers → GivesAt site.program.now (answered_by site (taken_by (method_at site.program.now m)) s2 answers) s2 s3 group outcomes heap) → AttemptsBy site (λ s. native site.program.now s m) s0 s3 before after group outcomes
  behaviour-attempts {s2 = s2} after answers outcomes e12 e23 done gives =
      native-attempts site operation m before after group answers outcomes given (Extends-trans e e12) e23
      (IsKept-earlier before after (s0.test (path_of group)) e given.is_heap (IsKept-within s1 s2 before after (s1.test calls.scope) (s0.test (path_of group)) (λ c t. later c ∙ t) done.kept))
      (λ c t. IsSaid-same site.program.now s2 after c _ _ (answer_at s2 answers c) (same_over c t) (done.at c (later c ∙ t)))
      gives
