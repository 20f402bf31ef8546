-- What is read of attributes and code is spelled so, and meets its checks.
use Rattle.std.proofs.Common.{◌≡◌, ℕ, zero, suc, ◌+◌, ◌<◌, ◌≤◌, ◌^◌, Result, List, [], ◌∷◌, ◌++◌, length, Option, Some, None, Ok, refl, sym, ap, subst, ◌∙◌, append_assoc, arith}
use Rattle.std.proofs.lemmas.List.{append-nil}
use Rattle.std.proofs.lemmas.List.Concat.{flat_map-cons}
use Rattle.std.proofs.lemmas.Bool.{eqb-true, leb-true, ltb-true}
use Rattle.std.specs.Prelude.{nat_eq, nat_lt, is_some, IsTrue}
use Rattle.std.specs.List.{flat_map, AllByRecursion}
use Rattle.vx_pool.specs.declared.pool.Pool.{Pool}
use Rattle.vx_pool.specs.Place.{Place}
use Rattle.vx_pool.specs.Reading.{Fault, Read, ◌>>=◌, check, number, room, steps, item_step, items}
use Rattle.vx_pool.specs.Place.{IsBytes}
use Rattle.vx_pool.specs.Took.{bind_ok, check_ok, ok_is, Took, Took-then, width2, width4, number_took, bytes_took}
use Rattle.vx_class.specs.declared.class_file.Catch.{Catch}
use Rattle.vx_class.specs.declared.class_file.Code.{Code}
use Rattle.vx_class.specs.declared.code.Parts.{Parts}
use Rattle.vx_pool.specs.Lookups.{entry_of, utf8, text}
use Rattle.vx_class.specs.Code.{text_given, utf8_at, content_at, skipped_at, skip_step, all_skipped_at, catch_at, catches_at, catch_checks, row_checked, catches_checked, parts_at, code_checked, code_at}
use Rattle.vx_class.specs.Spelling.{u2, u4, Attribute, attribute_bytes, attributes_bytes, catch_bytes, code_bytes, IsAttribute, AreAttributes, IsCode}
use Rattle.vx_class.specs.File.{CodeHolds}
use Rattle.vx_pool.specs.Checks.{all_hold}
use Rattle.vx_pool.specs.Instructions.{starts_of, jumps_at, jumps_checked, AreInstructions, OperandHolds, JumpsHold}
use Rattle.vx_pool.specs.Holding.{none_fails, and_true, each_holds, walk_holds, jumps_hold}

abbrev pub yes : {A : Type 0} → A × Place → Read A
yes x = Ok x

-- what holds of the value that was made
pub at_end : {A : Type 0} (P : A → Place → Type 0) (x y : A) (t u : Place) → yes (x, t) ≡ yes (y, u) → P x t → P y u
at_end {A = A} P x y t u e h = subst (λ (z : A × Place). P z.0 z.1) (ok_is (x, t) (y, u) e) h

given_ok : (o : Option (List ℕ)) (at i : ℕ) (s t : Place) (x : ℕ × List ℕ) → text_given o at i s ≡ Ok (x, t) → (o ≡ Some x.1) × (i ≡ x.0) × (s ≡ t)
given_ok None at i s t x e = absurd cc
given_ok (Some text) at i s t x e =
    let is = ok_is ((i, text), s) (x, t) e in
    (ap (λ (z : (ℕ × List ℕ) × Place). Some z.0.1) is, ap (λ (z : (ℕ × List ℕ) × Place). z.0.0) is, ap (λ (z : (ℕ × List ℕ) × Place). z.1) is)

pub utf8_took : (pool : Pool) (s t : Place) (x : ℕ × List ℕ) → IsBytes s.rest → utf8_at pool s ≡ Ok (x, t) → Took s (u2 x.0) t × (text pool x.0 ≡ Some x.1)
unfolding utf8_at
utf8_took pool s t x fits e =
    let index = bind_ok _ _ _ e in
    let good = check_ok _ _ _ _ _ index.2 in
    let given = given_ok (utf8 (entry_of pool index.0.0)) s.at index.0.0 index.0.1 t x good.1 in
    let one = number_took 2 s index.0.1 index.0.0 width2 fits index.1 in (
      subst (λ (u : Place). Took s (u2 x.0) u) given.2 (subst (λ (k : ℕ). Took s (u2 k) index.0.1) given.1 one.0),
      subst (λ (k : ℕ). text pool k ≡ Some x.1) given.1 given.0,
    )

pub content_took : (s t : Place) (x : List ℕ) → IsBytes s.rest → content_at s ≡ Ok (x, t) → Took s (u4 (length x) ++ x) t × (length x < 256 ^ 4)
unfolding content_at
content_took s t x fits e =
    let len = bind_ok _ _ _ e in
    let one = number_took 4 s len.0.1 len.0.0 width4 fits len.1 in
    let two = bytes_took len.0.0 len.0.1 t x one.0.rest_fits len.2 in
    (subst (λ (k : ℕ). Took s (u4 k ++ x) t) (sym two.1) (Took-then s len.0.1 t (u4 len.0.0) x one.0 two.0), subst (λ (k : ℕ). k < 256 ^ 4) (sym two.1) one.1)

skipped_took : (pool : Pool) (u : Unit {0}) (s t : Place) → IsBytes s.rest → skipped_at pool s ≡ Ok (u, t) → (a : Attribute) × Took s (attribute_bytes a) t × IsAttribute pool a
unfolding skipped_at
skipped_took pool u s t fits e =
    let name = bind_ok _ _ _ e in
    let content = bind_ok _ _ _ name.2 in
    let one = utf8_took pool s name.0.1 name.0.0 fits name.1 in
    let two = content_took name.0.1 content.0.1 content.0.0 one.0.rest_fits content.1 in
    let both = Took-then s name.0.1 content.0.1 (u2 name.0.0.0) (u4 (length content.0.0) ++ content.0.0) one.0 two.0 in (
      record { name = name.0.0.0; content = content.0.0 },
      at_end (λ (v : Unit {0}) w. Took s (u2 name.0.0.0 ++ (u4 (length content.0.0) ++ content.0.0)) w) tt u content.0.1 t content.2 both,
      (ap is_some one.1, two.1),
    )

skips_took : (pool : Pool) (n : ℕ) (u v : Unit {0}) (s t : Place) → IsBytes s.rest → steps (skip_step pool) u n s ≡ Ok (v, t)
    → (skipped : List Attribute) × Took s (flat_map attribute_bytes skipped) t × (length skipped ≡ n) × AllByRecursion (IsAttribute pool) skipped
unfolding steps
skips_took pool zero u v s t fits e = ([], at_end (λ (w : Unit {0}) z. Took s [] z) u v s t e (record { parts = refl; at = omega arith; rest_fits = fits }), refl, tt)
skips_took pool (suc n) u v s t fits e =
    let first = bind_ok _ _ _ e in
    let one = skipped_took pool first.0.0 s first.0.1 fits first.1 in
    let others = skips_took pool n first.0.0 v first.0.1 t one.1.rest_fits first.2 in
    (one.0 ∷ others.0, rw flat_map-cons (Took-then s first.0.1 t (attribute_bytes one.0) (flat_map attribute_bytes others.0) one.1 others.1), ap suc others.2, (one.2, others.3))

pub all_skipped_took : (pool : Pool) (u : Unit {0}) (s t : Place) → IsBytes s.rest → all_skipped_at pool s ≡ Ok (u, t) → (skipped : List Attribute) × Took s (attributes_bytes skipped) t × AreAttributes pool skipped
unfolding all_skipped_at
all_skipped_took pool u s t fits e =
    let count = bind_ok _ _ _ e in
    let one = number_took 2 s count.0.1 count.0.0 width2 fits count.1 in
    let others = skips_took pool count.0.0 tt u count.0.1 t one.0.rest_fits count.2 in (
      others.0,
      subst (λ (k : ℕ). Took s (u2 k ++ flat_map attribute_bytes others.0) t) (sym others.2) (Took-then s count.0.1 t (u2 count.0.0) (flat_map attribute_bytes others.0) one.0 others.1),
      record { few = subst (λ (k : ℕ). k < 256 ^ 2) (sym others.2) one.1; each = others.3 },
    )

-- ---- items

-- what an item that is read says of itself
abbrev pub ItemTook : {A : Type 0} → (Place → Read A) → (A → List ℕ) → (A → Type 0) → Type 0
ItemTook {A} item spell P = (s t : Place) (x : A) → IsBytes s.rest → item s ≡ Ok (x, t) → Took s (spell x) t × P x

pub items_took : {A : Type 0} (item : Place → Read A) (spell : A → List ℕ) (P : A → Type 0) → ItemTook item spell P
    → (n : ℕ) (front : List A) (s t : Place) (xs : List A) → IsBytes s.rest → steps (item_step item) front n s ≡ Ok (xs, t)
    → (new : List A) × (xs ≡ front ++ new) × Took s (flat_map spell new) t × (length new ≡ n) × AllByRecursion P new
unfolding steps
items_took {A = A} item spell P took zero front s t xs fits e = (
  [],
  sym (ap (λ (z : List A × Place). z.0) (ok_is (front, s) (xs, t) e)) ∙ sym (append-nil front),
  at_end (λ (w : List A) z. Took s [] z) front xs s t e (record { parts = refl; at = omega arith; rest_fits = fits }),
  refl,
  tt,
)
items_took {A = A} item spell P took (suc n) front s t xs fits e =
    let first = bind_ok (item_step item front s) (λ y. steps (item_step item) y.0 n y.1) (xs, t) e in
    let x = bind_ok (item s) (λ x. Ok (front ++ x.0 ∷ [], x.1)) first.0 first.1 in
    let one = took s x.0.1 x.0.0 fits x.1 in
    let is = ok_is (front ++ x.0.0 ∷ [], x.0.1) first.0 x.2 in
    let here : Took s (spell x.0.0) first.0.1 = subst (λ (z : List A × Place). Took s (spell x.0.0) z.1) is one.0 in
    let others = items_took item spell P took n first.0.0 first.0.1 t xs here.rest_fits first.2 in (
      x.0.0 ∷ others.0,
      others.1 ∙ ap (λ (z : List A). z ++ others.0) (sym (ap (λ (z : List A × Place). z.0) is)) ∙ append_assoc front (x.0.0 ∷ []) others.0,
      rw flat_map-cons (Took-then s first.0.1 t (spell x.0.0) (flat_map spell others.0) here others.2),
      ap suc others.3,
      (one.1, others.4),
    )

-- so many items behind their number
pub counted_took : {A : Type 0} (item : Place → Read A) (spell : A → List ℕ) (P : A → Type 0) → ItemTook item spell P
    → (s t : Place) (xs : List A) → IsBytes s.rest → (number 2 s >>= λ count. items item count.0 count.1) ≡ Ok (xs, t)
    → Took s (u2 (length xs) ++ flat_map spell xs) t × (length xs < 256 ^ 2) × AllByRecursion P xs
counted_took {A = A} item spell P took s t xs fits e =
    let count = bind_ok (number 2 s) (λ count. items item count.0 count.1) (xs, t) e in
    let one = number_took 2 s count.0.1 count.0.0 width2 fits count.1 in
    let all = items_took item spell P took count.0.0 [] count.0.1 t xs one.0.rest_fits count.2 in
    let is : all.0 ≡ xs = sym all.1 in
    let both = Took-then s count.0.1 t (u2 count.0.0) (flat_map spell all.0) one.0 all.2 in
    subst (λ (z : List A). Took s (u2 (length z) ++ flat_map spell z) t × (length z < 256 ^ 2) × AllByRecursion P z) is (
      subst (λ (k : ℕ). Took s (u2 k ++ flat_map spell all.0) t) (sym all.3) both,
      subst (λ (k : ℕ). k < 256 ^ 2) (sym all.3) one.1,
      all.4,
    )

-- ---- code

abbrev Any : Catch → Type 0
Any row = Unit {0}

catch_took : ItemTook catch_at catch_bytes Any
unfolding catch_at
catch_took s t x fits e =
    let start = bind_ok _ _ _ e in
    let end = bind_ok _ _ _ start.2 in
    let handler = bind_ok _ _ _ end.2 in
    let class = bind_ok _ _ _ handler.2 in
    let one = number_took 2 s start.0.1 start.0.0 width2 fits start.1 in
    let two = number_took 2 start.0.1 end.0.1 end.0.0 width2 one.0.rest_fits end.1 in
    let three = number_took 2 end.0.1 handler.0.1 handler.0.0 width2 two.0.rest_fits handler.1 in
    let four = number_took 2 handler.0.1 class.0.1 class.0.0 width2 three.0.rest_fits class.1 in
    let made : Catch = record { start = start.0.0; end = end.0.0; handler = handler.0.0; class = class.0.0 } in (
      at_end (λ (y : Catch) u. Took s (catch_bytes y) u) made x class.0.1 t class.2
          (Took-then s start.0.1 class.0.1 (u2 start.0.0) (u2 end.0.0 ++ (u2 handler.0.0 ++ u2 class.0.0)) one.0
          (Took-then start.0.1 end.0.1 class.0.1 (u2 end.0.0) (u2 handler.0.0 ++ u2 class.0.0) two.0
          (Took-then end.0.1 handler.0.1 class.0.1 (u2 handler.0.0) (u2 class.0.0) three.0 four.0))),
      tt,
    )

-- what the numbers of a code attribute meet
pub record CodeFits (slots : ℕ) (code : Code) : Type 0 where
  pub stack : code.max_stack < 256 ^ 2
  pub locals : code.max_locals < 256 ^ 2
  pub arguments : slots ≤ code.max_locals
  pub some : 0 < length code.bytes
  pub few : length code.bytes < 65536
  pub few_rows : length code.catches < 256 ^ 2

parts_took : (pool : Pool) (slots : ℕ) (s t : Place) (x : Parts) → IsBytes s.rest → parts_at pool slots s ≡ Ok (x, t)
    → (skipped : List Attribute) × AreAttributes pool skipped × Took s (code_bytes x.code skipped) t × CodeFits slots x.code
unfolding parts_at catches_at
parts_took pool slots s t x fits e =
    let max_stack = bind_ok _ _ _ e in
    let max_locals = bind_ok _ _ _ max_stack.2 in
    let enough = check_ok _ _ _ _ _ max_locals.2 in
    let len = bind_ok _ _ _ enough.1 in
    let good = check_ok _ _ _ _ _ len.2 in
    let code = bind_ok _ _ _ good.1 in
    let catches = bind_ok _ _ _ code.2 in
    let rest = bind_ok _ _ _ catches.2 in
    let one = number_took 2 s max_stack.0.1 max_stack.0.0 width2 fits max_stack.1 in
    let two = number_took 2 max_stack.0.1 max_locals.0.1 max_locals.0.0 width2 one.0.rest_fits max_locals.1 in
    let three = number_took 4 max_locals.0.1 len.0.1 len.0.0 width4 two.0.rest_fits len.1 in
    let four = bytes_took len.0.0 len.0.1 code.0.1 code.0.0 three.0.rest_fits code.1 in
    let five = counted_took catch_at catch_bytes Any catch_took code.0.1 catches.0.1 catches.0.0 four.0.rest_fits catches.1 in
    let six = all_skipped_took pool rest.0.0 catches.0.1 rest.0.1 five.0.rest_fits rest.1 in
    let rows = u2 (length catches.0.0) ++ flat_map catch_bytes catches.0.0 in
    let made : Parts = record {
      code = record { max_stack = max_stack.0.0; max_locals = max_locals.0.0; bytes = code.0.0; catches = catches.0.0 };
      base = len.0.1.at;
      rows = code.0.1.at + 2;
    } in
    let after_length = Took-then len.0.1 code.0.1 rest.0.1 code.0.0 (rows ++ attributes_bytes six.0) four.0 (Took-then code.0.1 catches.0.1 rest.0.1 rows (attributes_bytes six.0) five.0 six.1) in
    let with_length = subst (λ (k : ℕ). Took max_locals.0.1 (u4 k ++ (code.0.0 ++ (rows ++ attributes_bytes six.0))) rest.0.1) (sym four.1)
    (Took-then max_locals.0.1 len.0.1 rest.0.1 (u4 len.0.0) (code.0.0 ++ (rows ++ attributes_bytes six.0)) three.0 after_length) in
    let all = Took-then s max_stack.0.1 rest.0.1 (u2 max_stack.0.0) (u2 max_locals.0.0 ++ (u4 (length code.0.0) ++ (code.0.0 ++ (rows ++ attributes_bytes six.0)))) one.0
    (Took-then max_stack.0.1 max_locals.0.1 rest.0.1 (u2 max_locals.0.0) (u4 (length code.0.0) ++ (code.0.0 ++ (rows ++ attributes_bytes six.0))) two.0 with_length) in
    let length_is = and_true (nat_lt 0 len.0.0) (nat_lt len.0.0 65536) good.0 in
    let number_fits : CodeFits slots made.code = record {
      stack = one.1;
      locals = two.1;
      arguments = leb-true slots max_locals.0.0 enough.0;
      some = subst (λ (k : ℕ). 0 < k) (sym four.1) (ltb-true 0 len.0.0 length_is.0);
      few = subst (λ (k : ℕ). k < 65536) (sym four.1) (ltb-true len.0.0 65536 length_is.1);
      few_rows = five.1;
    } in
    let both = at_end (λ (y : Parts) u. Took s (code_bytes y.code six.0) u × CodeFits slots y.code) made x rest.0.1 t rest.2 (all, number_fits) in
    (six.0, six.2, both.0, both.1)

pub unit_is : (u : Unit {0}) (r : Result (Unit {0}) Fault) → r ≡ Ok u → r ≡ Ok tt
unit_is tt r e = e

rows_hold : (pool : Pool) (starts code : List ℕ) (rows : List Catch) (at : ℕ) → catches_checked pool starts code rows at ≡ Ok tt
    → AllByRecursion (λ row. IsTrue (all_hold (catch_checks pool starts code row))) rows
rows_hold pool starts code rows at e =
    each_holds (row_checked pool starts code) (λ _. 8) (λ row. IsTrue (all_hold (catch_checks pool starts code row))) (λ row at f. none_fails at (catch_checks pool starts code row) f) rows at e

code_holds : (pool : Pool) (major slots : ℕ) (parts : Parts) → CodeFits slots parts.code → code_checked pool major parts ≡ Ok tt → CodeHolds pool major slots parts.code
unfolding code_checked
code_holds pool major slots parts fits e =
    let code = parts.code.bytes in
    let starts = bind_ok (starts_of pool major parts.code.max_locals code parts.base) (λ starts. jumps_checked starts code parts.base >>= λ _. catches_checked pool starts code parts.code.catches parts.rows) tt e in
    let jumps = bind_ok (jumps_checked starts.0 code parts.base) (λ _. catches_checked pool starts.0 code parts.code.catches parts.rows) tt starts.2 in
    let walked = walk_holds pool major parts.code.max_locals code parts.base (length code) 0 [] starts.0 (omega arith) (omega arith) starts.1 in
    let same : walked.0 ≡ starts.0 = sym walked.1 in
    let jumps_are = each_holds (λ at _. jumps_at starts.0 code parts.base at) (λ _. 0) (JumpsHold starts.0 code) (λ at _ f. jumps_hold starts.0 code parts.base at f) starts.0 0 (unit_is jumps.0 (jumps_checked starts.0 code parts.base) jumps.1) in
    record {
      stack = fits.stack;
      locals = fits.locals;
      arguments = fits.arguments;
      some = fits.some;
      few = fits.few;
      starts = starts.0;
      instructions = subst (λ (z : List ℕ). AreInstructions code 0 z) same walked.2;
      operands = subst (λ (z : List ℕ). AllByRecursion (OperandHolds pool major parts.code.max_locals code) z) same walked.3;
      jumps = jumps_are;
      few_rows = fits.few_rows;
      rows = rows_hold pool starts.0 code parts.code.catches parts.rows jumps.2;
    }

pub code_took : (pool : Pool) (major slots at : ℕ) (s t : Place) (x : Code) → IsBytes s.rest → code_at pool major slots at s ≡ Ok (x, t)
    → (content : List ℕ) × IsCode pool x content × CodeHolds pool major slots x × Took s (u4 (length content) ++ content) t × (length content < 256 ^ 4)
unfolding code_at
code_took pool major slots at s t x fits e =
    let len = bind_ok (number 4 s) _ (x, t) e in
    let rest : ℕ → Place → Parts × Place → Read Code = λ l from parts. check (nat_eq parts.1.at (from.at + l)) at 12 (code_checked pool major parts.0 >>= λ _. Ok (parts.0.code, parts.1)) in
    let enough = bind_ok (room len.0.0 len.0.1) (λ _. parts_at pool slots len.0.1 >>= rest len.0.0 len.0.1) (x, t) len.2 in
    let parts = bind_ok (parts_at pool slots len.0.1) (rest len.0.0 len.0.1) (x, t) enough.2 in
    let full = check_ok (nat_eq parts.0.1.at (len.0.1.at + len.0.0)) at 12 (code_checked pool major parts.0.0 >>= λ _. Ok (parts.0.0.code, parts.0.1)) (x, t) parts.2 in
    let checked = bind_ok (code_checked pool major parts.0.0) (λ _. Ok (parts.0.0.code, parts.0.1)) (x, t) full.1 in
    let one = number_took 4 s len.0.1 len.0.0 width4 fits len.1 in
    let two = parts_took pool slots len.0.1 parts.0.1 parts.0.0 one.0.rest_fits parts.1 in
    let content = code_bytes parts.0.0.code two.0 in
    let filled : parts.0.1.at ≡ len.0.1.at + len.0.0 = eqb-true _ _ full.0 in
    let same : len.0.0 ≡ length content = omega (arith, filled, two.2.at) in
    let both = subst (λ (k : ℕ). Took s (u4 k ++ content) parts.0.1) same (Took-then s len.0.1 parts.0.1 (u4 len.0.0) content one.0 two.2) in
    let holds = code_holds pool major slots parts.0.0 two.3 (unit_is checked.0 (code_checked pool major parts.0.0) checked.1) in
    let all = at_end (λ (y : Code) u. IsCode pool y content × CodeHolds pool major slots y × Took s (u4 (length content) ++ content) u) parts.0.0.code x parts.0.1 t checked.2 ((two.0, two.1, refl), holds, both) in
    (content, all.0, all.1, all.2, subst (λ (k : ℕ). k < 256 ^ 4) same one.1)
