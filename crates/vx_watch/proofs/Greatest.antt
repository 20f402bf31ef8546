-- Greatest numbers and sums over lists, an entry at a time.
use Rattle.std.proofs.Common.{◌≡◌, ◌<◌, ◌≤◌, ◌+◌, ◌*◌, ◌^◌, ℕ, List, [], ◌∷◌, ◌++◌, fold, length, map, take, zero, suc, true, refl, sym, ap, subst, ◌∙◌, arith}
use Rattle.std.specs.Prelude.{max, get_or}
use Rattle.std.proofs.Math.Pow.{pow_mono}
use Rattle.std.proofs.lemmas.List.{take_more}
use Rattle.vx_count.specs.Settings.{number}
use Rattle.vx_findings.specs.declared.shared.Shared.{Shared}
use Rattle.vx_group.specs.Group.{GroupView}
use Rattle.vx_space.specs.Sets.{AreKnown, Sets}
use Rattle.vx_standing.specs.State.{shared_ids}
use Rattle.vx_watch.specs.Progress.{max_from, most_from, settled}

-- as many entries of a list and one more
one_more : {A : Type 0} (xs : List A) (i : ℕ) (x : A) → i < length xs → x ≡ get_or xs i x → take (i + 1) xs ≡ take i xs ++ x ∷ []
one_more xs i x l is = take_more xs i x l ∙ ap (λ y. take i xs ++ y ∷ []) (sym is)

max_behind : {A : Type 0} (f : A → ℕ) (n : ℕ) (list : List A) (x : A) → max_from n (map f (list ++ x ∷ [])) ≡ max (max_from n (map f list)) (f x)
max_behind f n [] x = refl
max_behind f n (y ∷ list) x = max_behind f (max n (f y)) list x

pub max_step : {A : Type 0} (f : A → ℕ) (n : ℕ) (xs : List A) (i : ℕ) (x : A) (m : ℕ) → i < length xs → x ≡ get_or xs i x → m ≡ max_from n (map f (take i xs)) → max m (f x) ≡ max_from n (map f (take (i + 1) xs))
max_step f n xs i x m l is h = ap (λ k. max k (f x)) h ∙ sym (max_behind f n (take i xs) x) ∙ ap (λ list. max_from n (map f list)) (sym (one_more xs i x l is))

attempts_behind : {S I : Type 0} (n : ℕ) (groups : List (GroupView S I)) (group : GroupView S I) → most_from n (groups ++ group ∷ []) ≡ max_from (most_from n groups) (map (λ leaf. leaf.value) group.attempts.leaves)
attempts_behind n [] group = refl
attempts_behind n (g ∷ groups) group = attempts_behind (max_from n (map (λ leaf. leaf.value) g.attempts.leaves)) groups group

pub attempts_step : {S I : Type 0} (groups : List (GroupView S I)) (i : ℕ) (group : GroupView S I) (m : ℕ) → i < length groups → group ≡ get_or groups i group → m ≡ most_from 0 (take i groups) → max_from m (map (λ leaf. leaf.value) group.attempts.leaves) ≡ most_from 0 (take (i + 1) groups)
attempts_step groups i group m l is h = ap (λ k. max_from k (map (λ leaf. leaf.value) group.attempts.leaves)) h ∙ sym (attempts_behind 0 (take i groups) group) ∙ ap (most_from 0) (sym (one_more groups i group l is))

sum_behind : {A : Type 0} (f : A → ℕ) (n : ℕ) (list : List A) (x : A) → fold ◌+◌ n (map f (list ++ x ∷ [])) ≡ fold ◌+◌ n (map f list) + f x
sum_behind f n [] x = refl
sum_behind f n (y ∷ list) x = sum_behind f (n + f y) list x

pub settled_step : {V S I : Type 0} (sets : Sets I) (list : List (Shared V S I)) (i : ℕ) (x : Shared V S I) (m n : ℕ) → i < length list → x ≡ get_or list i x → m ≡ settled sets (take i list) → n ≡ number sets.options (sets.test x.condition) → m + n ≡ settled sets (take (i + 1) list)
settled_step sets list i x m n l is h e = let behind = sum_behind (λ shared. number sets.options (sets.test shared.condition)) 0 (take i list) x in omega (arith, h, e, behind) ∙ ap (settled sets) (sym (one_more list i x l is))

known_at : {V S I : Type 0} (sets : Sets I) (list : List (Shared V S I)) (i : ℕ) (d : Shared V S I) → i < length list → AreKnown sets (shared_ids list) → sets.is_known (get_or list i d).condition ≡ true
known_at sets [] i d l known = absurd (omega (arith, l))
known_at sets (x ∷ list) zero d l known = known.0
known_at sets (x ∷ list) (suc i) d l known = known_at sets list i d (omega (arith, l)) known.1

pub known_here : {V S I : Type 0} (sets : Sets I) (list : List (Shared V S I)) (i : ℕ) (x : Shared V S I) → i < length list → x ≡ get_or list i x → AreKnown sets (shared_ids list) → sets.is_known x.condition ≡ true
known_here sets list i x l is known = subst (λ y. sets.is_known y.condition ≡ true) (sym is) (known_at sets list i x l known)

within_64 : (options n : ℕ) → n ≤ 2 ^ options → options < 65 → n ≤ 2 ^ 64
within_64 options n most few = let all : 2 ^ options ≤ 2 ^ 64 = pow_mono {j = 64} (omega (arith, few)) in omega (arith, most, all)

-- a sum of so many numbers of 64 options, and one more
pub more : (sum i n options : ℕ) → sum ≤ i * 2 ^ 64 → n ≤ 2 ^ options → options < 65 → sum + n ≤ (i + 1) * 2 ^ 64
more sum i n options h most few = let m = within_64 options n most few in omega (arith, h, m)

-- it fits where the entries of a list are counted
pub room : (sum i n options : ℕ) → sum ≤ i * 2 ^ 64 → n ≤ 2 ^ options → options < 65 → i + 1 < 2 ^ 64 → sum + n < 2 ^ 128
room sum i n options h most few below = let m = within_64 options n most few in omega (arith, h, m, below)
