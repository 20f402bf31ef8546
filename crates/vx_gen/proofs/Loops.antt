-- The steps of the loops that make the workload: what is left gives the whole.
use Rattle.std.proofs.Common.{List, [], ap, append-nil, append_assoc, arith, codes, drop, get_or, length, suc, sym, zero, ℕ, ◌++◌, ◌+◌, ◌/◌, ◌<◌, ◌≤◌, ◌%◌, ◌^◌, ◌∙◌, ◌∷◌, ◌≡◌}
use Rattle.std.proofs.lemmas.Bool.{ltb-true}
use Rattle.std.proofs.lemmas.Grind.{flat_map-append}
use Rattle.std.proofs.lemmas.List.{drop_all}
use Rattle.std.specs.Borrow.{Bor}
use Rattle.std.specs.List.{flat_map}
use Rattle.std.specs.Prelude.{◌==◌}
use Rattle.vx_class.specs.declared.class_file.Field.{Field}
use Rattle.vx_pool.specs.Holding.{and_true}
use Rattle.vx_pool.specs.Loops.{value_first}
use Rattle.vx_gen.specs.Parts.{AreShort, field_list, option_parts, reference_part}
use Rattle.vx_gen.specs.Workload.{all_option_items, choice_items, option_items, step_items}
use Rattle.vx_gen.specs.declared.pool.Kind.TheVariants as kind
use Rattle.vx_link.specs.Written.{item_bytes}
use Rattle.vx_pool.specs.declared.pool.Entry.{Entry}

-- ---- what is put behind one another

pub two : {A : Type 0} (old one all a b whole : List A) → one ≡ old ++ a → all ≡ one ++ b → a ++ b ≡ whole → all ≡ old ++ whole
two old one all a b whole e f is = f ∙ ap (λ x. x ++ b) e ∙ append_assoc old a b ∙ ap (λ x. old ++ x) is

pub three : {A : Type 0} (old one two all a b c whole : List A) → one ≡ old ++ a → two ≡ one ++ b → all ≡ two ++ c → a ++ (b ++ c) ≡ whole → all ≡ old ++ whole
three old one two all a b c whole e f g is =
    g ∙ ap (λ x. x ++ c) (f ∙ ap (λ x. x ++ b) e ∙ append_assoc old a b) ∙ append_assoc old (a ++ b) c ∙ ap (λ x. old ++ x) (append_assoc a b c ∙ is)

pub four : {A : Type 0} (old one two third all a b c d whole : List A) → one ≡ old ++ a → two ≡ one ++ b → third ≡ two ++ c → all ≡ third ++ d → a ++ (b ++ (c ++ d)) ≡ whole → all ≡ old ++ whole
four old one two third all a b c d whole e f g h is =
    three old one third all a (b ++ c) d whole e (g ∙ ap (λ x. x ++ c) f ∙ append_assoc one b c) h (ap (λ x. a ++ x) (append_assoc b c d) ∙ is)

pub five : {A : Type 0} (old one two third fourth all a b c d e whole : List A) → one ≡ old ++ a → two ≡ one ++ b → third ≡ two ++ c → fourth ≡ third ++ d → all ≡ fourth ++ e
    → a ++ (b ++ (c ++ (d ++ e))) ≡ whole → all ≡ old ++ whole
five old one two third fourth all a b c d e whole p q r s t is =
    four old one third fourth all a (b ++ c) d e whole p (r ∙ ap (λ x. x ++ c) q ∙ append_assoc one b c) s t (ap (λ x. a ++ x) (append_assoc b c (d ++ e)) ∙ is)

-- ---- loops

-- nothing is left
pub done : {A B : Type 0} (left : List A → List B) → left [] ≡ [] → (xs : List A) (i : ℕ) (now total : List B) → length xs ≤ i → now ++ left (drop i xs) ≡ total → now ≡ total
done left none xs i now total le so_far = sym (append-nil now) ∙ ap (λ rest. now ++ rest) (sym (ap left (drop_all i xs le) ∙ none)) ∙ so_far

-- one part more
pub step : {A : Type 0} (now new part rest left total : List A) → new ≡ now ++ part → left ≡ part ++ rest → now ++ left ≡ total → new ++ rest ≡ total
step now new part rest left total is split so_far =
    ap (λ x. x ++ rest) is ∙ append_assoc now part rest ∙ ap (λ x. now ++ x) (sym split) ∙ so_far

pub short_at : (names : List (Bor (List ℕ))) (i : ℕ) (d : Bor (List ℕ)) → AreShort names → i < length names → length (get_or names i d).now < 2 ^ 16
short_at [] i d all lt = absurd (omega (arith, lt))
short_at (n ∷ names) zero d all lt = ltb-true (length n.now) 65536 (and_true _ _ all).0
short_at (n ∷ names) (suc i) d all lt = short_at names i d (and_true _ _ all).1 (omega (arith, lt))

-- the reference of an option
pub option_step : (names : List (Bor (List ℕ))) (i : ℕ) (d : Bor (List ℕ)) (index : ℕ) (now new total : List Entry) → i < length names
    → new ≡ now ++ reference_part index kind.Field (codes "Main") (get_or names i d).now (codes "Z")
    → now ++ option_parts index (drop i names) ≡ total → new ++ option_parts (index + 6) (drop (i + 1) names) ≡ total
option_step names i d index now new total lt is so_far =
    step now new (reference_part index kind.Field (codes "Main") (get_or names i d).now (codes "Z")) (option_parts (index + 6) (drop (i + 1) names)) (option_parts index (drop i names)) total is
    (ap (option_parts index) (value_first names i d lt)) so_far

-- the field of an option
pub field_step : (names : List (Bor (List ℕ))) (i : ℕ) (d : Bor (List ℕ)) (index : ℕ) (now new total : List Field) → i < length names
    → new ≡ now ++ record { flags = 0x0009; name = index; descriptor = index + 1; constant = 0 } ∷ []
    → now ++ field_list index (drop i names) ≡ total → new ++ field_list (index + 2) (drop (i + 1) names) ≡ total
field_step names i d index now new total lt is so_far =
    step now new (record { flags = 0x0009; name = index; descriptor = index + 1; constant = 0 } ∷ []) (field_list (index + 2) (drop (i + 1) names)) (field_list index (drop i names)) total is
    (ap (field_list index) (value_first names i d lt)) so_far

-- the bytes of an option
abbrev pub bytes_from : {A : Type 0} → (at reference seed : ℕ) → List A → List ℕ
bytes_from at reference seed options = flat_map (item_bytes at) (all_option_items reference seed options)

pub bytes_step : (names : List (Bor (List ℕ))) (i : ℕ) (d : Bor (List ℕ)) (at reference seed : ℕ) (now mid new total : List ℕ) → i < length names
    → mid ≡ now ++ flat_map (item_bytes at) (choice_items reference) → new ≡ mid ++ flat_map (item_bytes at) (step_items (seed % 2 == 1))
    → now ++ bytes_from at reference seed (drop i names) ≡ total → new ++ bytes_from at (reference + 1) (seed / 2) (drop (i + 1) names) ≡ total
bytes_step names i d at reference seed now mid new total lt first second so_far =
    step now new (flat_map (item_bytes at) (option_items reference (seed % 2 == 1))) (bytes_from at (reference + 1) (seed / 2) (drop (i + 1) names)) (bytes_from at reference seed (drop i names)) total
    (second ∙ ap (λ x. x ++ flat_map (item_bytes at) (step_items (seed % 2 == 1))) first ∙ append_assoc now _ _
    ∙ ap (λ x. now ++ x) (sym (flat_map-append (item_bytes at) (choice_items reference) (step_items (seed % 2 == 1)))))
    (ap (bytes_from at reference seed) (value_first names i d lt) ∙ flat_map-append (item_bytes at) (option_items reference (seed % 2 == 1)) (all_option_items (reference + 1) (seed / 2) (drop (i + 1) names)))
    so_far
