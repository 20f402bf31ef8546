-- Words and texts taken from the front of a line.
use Rattle.std.proofs.Common.{◌≡◌, ◌≢◌, ℕ, zero, suc, ◌+◌, ◌-◌, ◌<◌, List, [], ◌∷◌, length, take, drop, get_or, true, false, Option, Some, None, refl, ap, sym, ◌∙◌, arith, nat_eq, option_map, MatchOption, Bor, ◌==◌, add-one}
use Rattle.std.proofs.lemmas.Bool.Decides.{nat_tests}
use Rattle.std.proofs.lemmas.Grind.{common_steps}
use Rattle.std.specs.Cmp.Lexicographic.{pointwise}
use Rattle.vx_report_line.specs.Parsing.{behind, cut}
use Rattle.vx_report_line.proofs.Numbers.{by_test, both_true}

same_turned : (b t : ℕ) → nat_eq b t ≡ nat_eq t b
same_turned b t = by_test (nat_eq b t) (λ y. let e : b ≡ t = grind (arith, nat_tests) in rw e refl) (λ n. let e : b ≢ t = grind (arith, nat_tests) in let f : nat_eq t b ≡ false = grind (arith, nat_tests) in n ∙ sym f)

-- what std says of a prefix
pub behind_none : (word text : List ℕ) → pointwise nat_eq (take (length word) text) word ≡ false → behind word text ≡ None
unfolding behind
behind_none [] text h = cc
behind_none (b ∷ bs) [] h = refl
behind_none (b ∷ bs) (t ∷ ts) h = by_test (nat_eq t b)
    (λ y. rw (same_turned b t, y) (behind_none bs ts (rw y at h)))
    (λ n. rw (same_turned b t, n) refl)

pub behind_some : (word text : List ℕ) → pointwise nat_eq (take (length word) text) word ≡ true → behind word text ≡ Some (drop (length word) text)
unfolding behind
behind_some [] text h = refl
behind_some (b ∷ bs) [] h = cc
behind_some (b ∷ bs) (t ∷ ts) h =
    let p = both_true (nat_eq t b) (pointwise nat_eq (take (length bs) ts) bs) h in
    rw (same_turned b t, p.0) (behind_some bs ts p.1)

pub behind_by : (word text : List ℕ) (r : Option (Bor (List ℕ))) → MatchOption r (pointwise nat_eq (take (length word) text) word ≡ false) (λ x. (pointwise nat_eq (take (length word) text) word ≡ true) × (x.now ≡ drop (length word) text) × (length x.now + length word ≡ length text))
    → option_map (λ rest. rest.now) r ≡ behind word text
behind_by word text None h = sym (behind_none word text h)
behind_by word text (Some x) h = ap Some h.1 ∙ sym (behind_some word text h.0)

-- the first space
pub cut_at : (text : List ℕ) (i : ℕ) → i < length text → ((k : ℕ) → k < i → get_or text k 0 ≢ 32) → get_or text i 0 ≡ 32 → cut text ≡ Some (take i text, drop (suc i) text)
unfolding cut
cut_at [] i h before is = absurd (omega (arith, h))
cut_at (b ∷ bs) zero h before is = let e : b ≡ 32 = is in let t : (b == 32) ≡ true = grind (arith, nat_tests) in rw t refl
cut_at (b ∷ bs) (suc i) h before is =
    let first : b ≢ 32 = before 0 (omega arith) in
    let t : (b == 32) ≡ false = grind (arith, nat_tests) in
    rw (t, cut_at bs i (omega arith) (λ k l. before (suc k) (omega (arith, l))) is) refl

pub cut_none : (text : List ℕ) → ((k : ℕ) → k < length text → get_or text k 0 ≢ 32) → cut text ≡ None
unfolding cut
cut_none [] before = refl
cut_none (b ∷ bs) before =
    let first : b ≢ 32 = before 0 (omega arith) in
    let t : (b == 32) ≡ false = grind (arith, nat_tests) in
    rw (t, cut_none bs (λ k l. before (suc k) (omega (arith, l)))) refl

pub cut_slice : (text : List ℕ) (i : ℕ) → i < length text → ((k : ℕ) → k < i → get_or text k 0 ≡ 32 → ⊥) → get_or text i 0 ≡ 32 → Some (take i text, take (length text - (i + 1)) (drop (i + 1) text)) ≡ cut text
cut_slice text i h before is =
    let all : take (length text - (i + 1)) (drop (i + 1) text) ≡ drop (i + 1) text = grind (arith, common_steps) in
    rw (all, add-one) (sym (cut_at text i h before is))
