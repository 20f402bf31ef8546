-- Answers of a cache stay right.
use Rattle.std.proofs.Common.{◌≡◌, ℕ, ◌<◌, Bool, true, false, List, [], ◌++◌, refl, sym, length, take, set, subst}
use Rattle.std.specs.Prelude.{Option, replicate, slice_index_or}
use Rattle.std.proofs.lemmas.List.Elements.{All-append, All-take, All-replicate, All-set, All-get_or, All-nil}
use Rattle.vx_bdd.specs.declared.node.Node.{Node}
use Rattle.vx_bdd.specs.declared.node.Answer.{Answer}
use Rattle.vx_bdd.specs.declared.node.Op.{Op}
use Rattle.vx_bdd.specs.declared.node.Op.TheVariants.{And, Or, Minus}
use Rattle.vx_bdd.specs.Diagram.{IsReduced}
use Rattle.vx_bdd.specs.Apply.{op_value, IsAnswer, IsRight, AreRight, AreStillRight, KeepsRight}
use Rattle.vx_bdd.proofs.PlainLaws.{IsAnswer-plain}

pub AreRight-none : (op : Op) (options : ℕ) (slots : List (Option Node)) → AreRight op options slots []
AreRight-none op options slots = record { each = All-nil (IsRight op options slots) }

-- the answer at a place, by its parts
pub right_at : (a b : ℕ) (known : Answer) (answers : List Answer) (place : ℕ) → place < length answers → known ≡ slice_index_or answers place known → known.a ≡ a → known.b ≡ b → (op : Op) (options : ℕ) (slots : List (Option Node)) → AreRight op options slots answers → IsAnswer op options slots a b known.id
right_at a b known answers place l e f g op options slots h =
    let here : IsRight op options slots known = subst (IsRight op options slots) (sym e) (All-get_or (IsRight op options slots) answers place known l h.each) in
    let P : ℕ → Type 0 = λ x. IsAnswer op options slots x known.b known.id in
    let Q : ℕ → Type 0 = λ y. IsAnswer op options slots a y known.id in
    subst Q g (subst P f here)

-- what each place says at first
abbrev pub nothing : Answer
nothing = record { a = 0; b = 0; id = 0 }

IsRight-nothing : (op : Op) {options : ℕ} {slots : List (Option Node)} → IsReduced options slots → IsRight op options slots nothing
IsRight-nothing op r = IsAnswer-plain r op 0 0 0 r.never r.never (record { right = λ has n t. itself op (has 0) n })
  where
    itself : (p : Op) (b : Bool) → b ≡ false → b ≡ op_value p b b
    itself And true n = refl
    itself And false n = refl
    itself Or true n = refl
    itself Or false n = refl
    itself Minus true n = cc
    itself Minus false n = refl

pub AreStillRight-refl : (answers : List Answer) → AreStillRight answers answers
AreStillRight-refl answers = record { right = λ op options slots r h. h }

pub AreStillRight-trans : {a b c : List Answer} → AreStillRight a b → AreStillRight b c → AreStillRight a c
AreStillRight-trans p q = record { right = λ op options slots r h. q.right op options slots r (p.right op options slots r h) }

-- more places
pub AreStillRight-more : (n more : ℕ) (answers : List Answer) → AreStillRight answers (take n answers ++ replicate more nothing)
AreStillRight-more n more answers = record {
  right = λ op options slots r h. record {
    each = All-append (IsRight op options slots) (take n answers) (replicate more nothing) (All-take (IsRight op options slots) n answers h.each) (All-replicate (IsRight op options slots) more nothing (IsRight-nothing op r));
  };
}

pub KeepsRight-still : {a b : List Answer} (answer : Answer) → AreStillRight a b → KeepsRight answer a b
KeepsRight-still answer p = record { right = λ op options slots r h a. p.right op options slots r h }

pub KeepsRight-same : (answer : Answer) (answers : List Answer) → KeepsRight answer answers answers
KeepsRight-same answer answers = record { right = λ op options slots r h a. h }

pub KeepsRight-set : (answer : Answer) (answers : List Answer) (place : ℕ) → KeepsRight answer answers (set answers place answer)
KeepsRight-set answer answers place = record {
  right = λ op options slots r h a. record { each = All-set (IsRight op options slots) answers place answer a h.each };
}

pub KeepsRight-after : {a b c : List Answer} (answer : Answer) → AreStillRight a b → KeepsRight answer b c → KeepsRight answer a c
KeepsRight-after answer p q = record { right = λ op options slots r h a. q.right op options slots r (p.right op options slots r h) a }

-- an answer that stood among the others
pub AreStillRight-again : {new : List Answer} (old : List Answer) (place : ℕ) (answer : Answer) → place < length old → answer ≡ slice_index_or old place answer → KeepsRight answer old new → AreStillRight old new
AreStillRight-again old place answer l e k = record {
  right = λ op options slots r h. k.right op options slots r h (subst (IsRight op options slots) (sym e) (All-get_or (IsRight op options slots) old place answer l h.each));
}

pub ruleset cache_laws = (AreRight-none, AreStillRight-refl, AreStillRight-trans, AreStillRight-more, AreStillRight-again, KeepsRight-same, KeepsRight-set, KeepsRight-still, KeepsRight-after, right_at)
