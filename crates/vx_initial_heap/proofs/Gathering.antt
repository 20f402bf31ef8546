-- Gathering literals one by one gives each of them once.
use Rattle.std.proofs.Common.{◌≡◌, Bool, true, false, List, [], ◌∷◌, ◌++◌, refl, sym, ◌∙◌, ap, ◌||◌, if◌then◌else◌, append_assoc, fold, Option, Some, None, option_map, not, length, position, nat_lt, ℕ, arith}
use Rattle.std.specs.List.{filter_map, flat_map, list_any, prefix_len}
use Rattle.std.proofs.lemmas.List.{append-nil}
use Rattle.vx_java.specs.FirstObjects.{First, each_once, first_of_entry, for_main, literals, same_first}
use Rattle.vx_initial_heap.specs.Literals.{first_of, object_among, with_class, with_entry, with_first, with_one}
use Rattle.std.proofs.lemmas.Bool.Decides.{nat_tests}
use Rattle.vx_initial_heap.specs.declared.literal.Literal.{Literal}
use Rattle.vx_link.specs.declared.program.LinkedClass.{LinkedClass}
use Rattle.vx_link.specs.declared.program.Program.{Program}
use Rattle.vx_pool.specs.declared.pool.Entry.{Entry}
use Rattle.vx_pool.specs.declared.pool.Pool.{Pool}

-- ---- each once

pub any-append : (p : First → Bool) (xs ys : List First) → list_any p (xs ++ ys) ≡ (list_any p xs || list_any p ys)
any-append p [] ys = refl
any-append p (x ∷ xs) ys = ap (λ b. p x || b) (any-append p xs ys) ∙ or-assoc (p x) (list_any p xs) (list_any p ys)
  where
    or-assoc : (a b c : Bool) → (a || (b || c)) ≡ ((a || b) || c)
    or-assoc true b c = refl
    or-assoc false b c = refl

-- two lists of literals that have the same ones
abbrev HaveSame : (seen listed : List First) → Type 0
HaveSame seen listed = (x : First) → list_any (same_first x) seen ≡ list_any (same_first x) listed

HaveSame-more : (seen listed : List First) (x : First) → HaveSame seen listed → HaveSame (x ∷ seen) (listed ++ x ∷ [])
HaveSame-more seen listed x same y =
    ap (λ b. same_first y x || b) (same y)
    ∙ turned (same_first y x) (list_any (same_first y) listed)
    ∙ sym (any-append (same_first y) listed (x ∷ []))
  where
    turned : (a b : Bool) → (a || b) ≡ (b || (a || false))
    turned true true = refl
    turned true false = refl
    turned false true = refl
    turned false false = refl

put_once : (x : First) (xs seen listed : List First) (a b : Bool) → list_any (same_first x) seen ≡ a → a ≡ b
    → fold with_first listed xs ≡ listed ++ each_once seen xs
    → fold with_first (listed ++ x ∷ []) xs ≡ (listed ++ x ∷ []) ++ each_once (x ∷ seen) xs
    → fold with_first (if b then listed else listed ++ x ∷ []) xs ≡ listed ++ each_once seen (x ∷ xs)
put_once x xs seen listed true true h e there new = rw (each_once, h) there
put_once x xs seen listed false false h e there new = rw (each_once, h) (new ∙ append_assoc listed (x ∷ []) (each_once (x ∷ seen) xs))
put_once x xs seen listed true false h e there new = cc
put_once x xs seen listed false true h e there new = cc

fold-each_once : (xs seen listed : List First) → HaveSame seen listed → fold with_first listed xs ≡ listed ++ each_once seen xs
fold-each_once [] seen listed same = sym (append-nil listed)
fold-each_once (x ∷ xs) seen listed same =
    put_once x xs seen listed (list_any (same_first x) seen) (list_any (same_first x) listed) refl (same x) (fold-each_once xs seen listed same)
    (fold-each_once xs (x ∷ seen) (listed ++ x ∷ []) (HaveSame-more seen listed x same))

-- ---- entry by entry, class by class

filter_map-cons : {A B : Type 0} (f : A → Option B) (o : Option B) (x : A) (xs : List A) → f x ≡ o → filter_map f (x ∷ xs) ≡ elim o [ None ↦ filter_map f xs | Some y ↦ y ∷ filter_map f xs ]
filter_map-cons f None x xs h = rw h refl
filter_map-cons f (Some y) x xs h = rw h refl

put_one : (pool : Pool) (e : Entry) (es : List Entry) (listed : List First) (o : Option First) → first_of_entry pool e ≡ o
    → fold with_first (with_one listed o) (filter_map (first_of_entry pool) es) ≡ fold with_first listed (filter_map (first_of_entry pool) (e ∷ es))
put_one pool e es listed None h = ap (fold with_first listed) (sym (filter_map-cons (first_of_entry pool) None e es h))
put_one pool e es listed (Some x) h = ap (fold with_first listed) (sym (filter_map-cons (first_of_entry pool) (Some x) e es h))

fold-entries : (pool : Pool) (es : List Entry) (listed : List First) → fold (with_entry pool) listed es ≡ fold with_first listed (filter_map (first_of_entry pool) es)
fold-entries pool [] listed = refl
fold-entries pool (e ∷ es) listed = fold-entries pool es (with_entry pool listed e) ∙ put_one pool e es listed (first_of_entry pool e) refl

fold-append : (xs ys : List First) (listed : List First) → fold with_first listed (xs ++ ys) ≡ fold with_first (fold with_first listed xs) ys
fold-append [] ys listed = refl
fold-append (x ∷ xs) ys listed = fold-append xs ys (with_first listed x)

fold-classes : (cs : List LinkedClass) (listed : List First) → fold with_class listed cs ≡ fold with_first listed (flat_map (λ c. filter_map (first_of_entry c.pool) c.pool.entries) cs)
fold-classes [] listed = refl
fold-classes (c ∷ cs) listed =
    fold-classes cs (with_class listed c)
    ∙ ap (λ front. fold with_first front (flat_map (λ c. filter_map (first_of_entry c.pool) c.pool.entries) cs)) (fold-entries c.pool c.pool.entries listed)
    ∙ sym (fold-append (filter_map (first_of_entry c.pool) c.pool.entries) (flat_map (λ c. filter_map (first_of_entry c.pool) c.pool.entries) cs) listed)

pub gathered-literals : (p : Program) → fold with_class [] p.classes ≡ literals p
gathered-literals p = fold-classes p.classes [] ∙ fold-each_once (flat_map (λ c. filter_map (first_of_entry c.pool) c.pool.entries) p.classes) [] [] (λ x. refl)

-- ---- an entry that is no literal

before-none : (xs : List First) → prefix_len (λ x. not (same_first for_main x)) xs ≡ length xs
before-none [] = refl
before-none (x ∷ xs) = rw (before-none xs) (omega arith)

position-none : (xs : List First) → position (same_first for_main) xs ≡ None
position-none xs = rw (before-none xs, lt-irrefl (length xs)) refl
  where
    lt-irrefl : (n : ℕ) → nat_lt n n ≡ false
    lt-irrefl n = grind (arith, nat_tests)

pub no_literal : (listed : List First) (pool : Pool) (e : Entry) (o : Option Literal) → option_map first_of o ≡ first_of_entry pool e → o ≡ None → 260 ≡ object_among listed pool e
no_literal listed pool e o h n = rw (sym h, n, position-none listed) refl
