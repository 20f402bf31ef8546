-- Texts read back byte by byte.
use Rattle.std.proofs.Common.{◌≡◌, ℕ, zero, suc, ◌<◌, ◌≤◌, List, [], ◌∷◌, ◌++◌, length, Bool, true, false, Option, Some, None, option_map, refl, ap, sym, ◌∙◌, arith, ◌==◌, append_assoc, append-nil, ◌⊎◌, inl, inr, ⊎_elim, if◌then◌else◌, nat_le}
use Rattle.std.proofs.lemmas.Bool.Decides.{nat_tests}
use Rattle.vx_value.specs.Words.{is_plain}
use Rattle.vx_report_line.specs.Parsing.{◌>>=◌, only_if, first_byte, escaped_byte, unspelled, text_in}
use Rattle.vx_report_line.proofs.Numbers.{only_if_is}

pub bind_is : {A B : Type 0} (o : Option A) (f : A → Option B) (y : B) → (o >>= f) ≡ Some y → (x : A) × (o ≡ Some x) × (f x ≡ Some y)
bind_is None f y h = cc
bind_is (Some x) f y h = (x, refl, h)

pub chosen_is : {A : Type 0} (t : Bool) (a b : Option A) (x : A) → (if t then a else b) ≡ Some x → (a ≡ Some x) ⊎ (b ≡ Some x)
chosen_is true a b x h = inl h
chosen_is false a b x h = inr h

some_rest : (a : ℕ) (rest : List ℕ) (first : ℕ × List ℕ) → Some (a, rest) ≡ Some first → rest ≡ first.1
some_rest a rest first h = ap snd (some_is h)
  where
    snd : ℕ × List ℕ → List ℕ
    snd p = p.1

    some_is : {A : Type 0} {x y : A} → Some x ≡ Some y → x ≡ y
    some_is h = cc

pub first_shorter : (least : ℕ) (text : List ℕ) (first : ℕ × List ℕ) → first_byte least text ≡ Some first → length first.1 < length text
unfolding first_byte
first_shorter least [] first h = cc
first_shorter least (b ∷ []) first h =
    let e = ap length (some_rest b [] first (only_if_is (is_plain least b) (Some (b, [])) first h).1) in omega (arith, e)
first_shorter least (b ∷ g ∷ []) first h =
    let e = ap length (some_rest b (g ∷ []) first (only_if_is (is_plain least b) (Some (b, g ∷ [])) first h).1) in omega (arith, e)
first_shorter least (b ∷ g ∷ l ∷ rest) first h = ⊎_elim
    (λ t. let p = bind_is (escaped_byte least g l) (λ byte. Some (byte, rest)) first t in let e = ap length (some_rest p.0 rest first p.2) in omega (arith, e))
    (λ f. let e = ap length (some_rest b (g ∷ l ∷ rest) first (only_if_is (is_plain least b) (Some (b, g ∷ l ∷ rest)) first f).1) in omega (arith, e))
    (chosen_is (b == 92) (escaped_byte least g l >>= λ byte. Some (byte, rest)) (only_if (is_plain least b) (Some (b, g ∷ l ∷ rest))) first h)

-- more steps than bytes read no more
pub enough : (least n m : ℕ) (text : List ℕ) → length text ≤ n → length text ≤ m → unspelled least n text ≡ unspelled least m text
unfolding unspelled
enough least n m [] h k = refl
enough least zero m (b ∷ text) h k = absurd (omega (arith, h))
enough least (suc n) zero (b ∷ text) h k = absurd (omega (arith, k))
enough least (suc n) (suc m) (b ∷ text) h k = by_first (first_byte least (b ∷ text)) (λ first e. enough least n m first.1 (less first e n h) (less first e m k))
  where
    less : (first : ℕ × List ℕ) → first_byte least (b ∷ text) ≡ Some first → (j : ℕ) → length (b ∷ text) ≤ suc j → length first.1 ≤ j
    less first e j l = omega (arith, first_shorter least (b ∷ text) first e, l)

    by_first : (o : Option (ℕ × List ℕ)) → ((first : ℕ × List ℕ) → o ≡ Some first → unspelled least n first.1 ≡ unspelled least m first.1) → (o >>= λ first. (unspelled least n first.1 >>= λ rest. Some (first.0 ∷ rest))) ≡ (o >>= λ first. (unspelled least m first.1 >>= λ rest. Some (first.0 ∷ rest)))
    by_first None same = refl
    by_first (Some first) same = rw (same first refl) refl

-- what was read before
abbrev pub prefixed : List ℕ → Option (List ℕ) → Option (List ℕ)
prefixed bs o = option_map (λ more. bs ++ more) o

pub prefixed_all : (bs : List ℕ) → prefixed bs (Some []) ≡ Some bs
prefixed_all bs = ap Some (append-nil bs)

prefixed_more : (bs : List ℕ) (b : ℕ) (o : Option (List ℕ)) → prefixed bs (o >>= λ rest. Some (b ∷ rest)) ≡ prefixed (bs ++ b ∷ []) o
prefixed_more bs b None = refl
prefixed_more bs b (Some more) = ap Some (sym (append_assoc bs (b ∷ []) more))

no_first : (least : ℕ) (first : ℕ × List ℕ) → first_byte least [] ≡ Some first → ⊥
unfolding first_byte
no_first least first e = cc

pub text_step : (least : ℕ) (bs rest after : List ℕ) (byte : ℕ) → first_byte least rest ≡ Some (byte, after) → prefixed bs (unspelled least (length rest) rest) ≡ prefixed (bs ++ byte ∷ []) (unspelled least (length after) after)
text_step least bs [] after byte e = absurd (no_first least (byte, after) e)
text_step least bs (b ∷ rest) after byte e =
    let one : unspelled least (length (b ∷ rest)) (b ∷ rest) ≡ (unspelled least (length rest) after >>= λ more. Some (byte ∷ more)) = unfold unspelled in rw e refl in
    let less : length after ≤ length rest = omega (arith, first_shorter least (b ∷ rest) (byte, after) e) in
    rw (one, enough least (length rest) (length after) after less (omega arith)) (prefixed_more bs byte (unspelled least (length after) after))

pub text_stops : (least : ℕ) (bs rest : List ℕ) → 0 < length rest → first_byte least rest ≡ None → prefixed bs (unspelled least (length rest) rest) ≡ None
text_stops least bs [] h e = absurd (omega (arith, h))
text_stops least bs (b ∷ rest) h e =
    let one : unspelled least (length (b ∷ rest)) (b ∷ rest) ≡ None = unfold unspelled in rw e refl in rw one refl

-- what a test for an empty list says
pub filled : (xs : List ℕ) (b : Bool) → b ≡ (length xs == 0) → b ≡ false → 0 < length xs
filled xs b e f = grind (arith, nat_tests)

pub emptied : (xs : List ℕ) (b : Bool) → b ≡ (length xs == 0) → b ≡ true → xs ≡ []
emptied [] b e t = refl
emptied (x ∷ xs) b e t = absurd (grind (arith, nat_tests))

pub text_in_filled : (least : ℕ) (text : List ℕ) → 0 < length text → text_in least text ≡ unspelled least (length text) text
unfolding text_in
text_in_filled least text h = let e : nat_le 1 (length text) ≡ true = grind (arith, nat_tests) in rw e refl

pub read_all : (least : ℕ) (text bs rest : List ℕ) → rest ≡ [] → prefixed bs (unspelled least (length rest) rest) ≡ unspelled least (length text) text → Some bs ≡ unspelled least (length text) text
unfolding unspelled
read_all least text bs rest e h = sym (prefixed_all bs) ∙ (rw e at h)
