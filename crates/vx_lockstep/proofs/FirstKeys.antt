-- The first key among runs side by side.
use Rattle.std.proofs.Common.{◌≡◌, ◌≢◌, ℕ, zero, suc, ◌<◌, List, [], ◌∷◌, refl, sym, ap, ◌∙◌, arith, length, map}
use Rattle.std.specs.Ordering.{ordering_reverse}
use Rattle.std.specs.Prelude.{Contains, None, Option, Some, option_map, slice_index_or}
use Rattle.std.specs.declared.cmp.Ordering.{Ordering}
use Rattle.std.specs.declared.cmp.Ordering.TheVariants.{Equal, Greater, Less}
use Rattle.vx_java.specs.Lockstep.{ConfigRun, first_key, key_at, lesser_key, live_progress, of_keys}
use Rattle.vx_java.specs.Step.{Config, Progress, Run}
use Rattle.vx_value.specs.Key.{key_cmp}
use Rattle.vx_value.specs.KeyLaws.{key_cmp_total, key_exact}
use Rattle.vx_value.specs.declared.key.KeyPart.{KeyPart}
use Rattle.vx_standing.proofs.Configurations.{Contains-here, Contains-next}

-- a configuration with its run
abbrev pub member : (Config → Run) → Config → ConfigRun
member runs c = record { config = c; run = runs c }

-- no run that goes on has a key before this one
pub record IsLeast (n : ℕ) (runs : Config → Run) (list : List Config) (key : List KeyPart) : Type 0 where
  pub none_before : (c : Config) → Contains list c → (g : Progress) → live_progress n (runs c) ≡ Some g → key_cmp (key_at g) key ≢ Less

tail_least : (n : ℕ) (runs : Config → Run) (c : Config) (cs : List Config) (key : List KeyPart) → IsLeast n runs (c ∷ cs) key → IsLeast n runs cs key
tail_least n runs c cs key h = record { none_before = λ d in_list. h.none_before d (Contains-next c cs d in_list) }

-- the first key isn't before one that no run's is before
not_before : (n : ℕ) (runs : Config → Run) (key : List KeyPart) (list : List Config) → IsLeast n runs list key → (k : List KeyPart) → first_key n (map (member runs) list) ≡ Some k → key_cmp k key ≢ Less
not_before n runs key [] least k e = cc
not_before n runs key (c ∷ cs) least k e = by (live_progress n (runs c)) refl (first_key n (map (member runs) cs)) refl (not_before n runs key cs (tail_least n runs c cs key least)) e
  where
    here : (g : Progress) → live_progress n (runs c) ≡ Some g → key_cmp (key_at g) key ≢ Less
    here = least.none_before c (Contains-here c cs)

    chosen : (g : Progress) (b : List KeyPart) (o : Ordering) → live_progress n (runs c) ≡ Some g → key_cmp b key ≢ Less → of_keys (key_at g) b o ≡ k → key_cmp k key ≢ Less
    chosen g b Less live later e = λ l. later (ap (λ x. key_cmp x key) e ∙ l)
    chosen g b Equal live later e = λ l. here g live (ap (λ x. key_cmp x key) e ∙ l)
    chosen g b Greater live later e = λ l. here g live (ap (λ x. key_cmp x key) e ∙ l)

    by : (o : Option Progress) → live_progress n (runs c) ≡ o → (t : Option (List KeyPart)) → first_key n (map (member runs) cs) ≡ t → ((k : List KeyPart) → first_key n (map (member runs) cs) ≡ Some k → key_cmp k key ≢ Less) → lesser_key (option_map key_at o) t ≡ Some k → key_cmp k key ≢ Less
    by None live t rest ih e = ih k (rest ∙ e)
    by (Some g) live None rest ih e = let is : key_at g ≡ k = cc in λ l. here g live (ap (λ x. key_cmp x key) is ∙ l)
    by (Some g) live (Some b) rest ih e = let is : of_keys (key_at g) b (key_cmp b (key_at g)) ≡ k = cc in chosen g b (key_cmp b (key_at g)) live (ih b rest) is

first_at : (n : ℕ) (runs : Config → Run) (key : List KeyPart) (list : List Config) → IsLeast n runs list key → (k : ℕ) (c : Config) (g : Progress) → k < length list → slice_index_or list k c ≡ c → live_progress n (runs c) ≡ Some g → key_at g ≡ key → first_key n (map (member runs) list) ≡ Some key
first_at n runs key [] least k c g l e live is = absurd (omega (arith, l))
first_at n runs key (d ∷ ds) least zero c g l e live is =
    let own : live_progress n (runs d) ≡ Some g = ap (λ x. live_progress n (runs x)) e ∙ live in
    ap (λ o. lesser_key (option_map key_at o) (first_key n (map (member runs) ds))) own
    ∙ by (first_key n (map (member runs) ds)) refl
  where
    chosen : (b : List KeyPart) (o : Ordering) → o ≢ Less → of_keys (key_at g) b o ≡ key
    chosen b Less later = absurd (later refl)
    chosen b Equal later = is
    chosen b Greater later = is

    by : (t : Option (List KeyPart)) → first_key n (map (member runs) ds) ≡ t → lesser_key (Some (key_at g)) t ≡ Some key
    by None rest = ap Some is
    by (Some b) rest =
        let later = not_before n runs key ds (tail_least n runs d ds key least) b rest in
        ap Some (chosen b (key_cmp b (key_at g)) (λ less. later (ap (key_cmp b) (sym is) ∙ less)))
first_at n runs key (d ∷ ds) least (suc k) c g l e live is =
    ap (lesser_key (option_map key_at (live_progress n (runs d)))) (first_at n runs key ds (tail_least n runs d ds key least) k c g (omega (arith, l)) e live is)
    ∙ by (live_progress n (runs d)) refl
  where
    chosen : (f : Progress) (o : Ordering) → live_progress n (runs d) ≡ Some f → key_cmp key (key_at f) ≡ o → of_keys (key_at f) key o ≡ key
    chosen f Less there order = refl
    chosen f Equal there order = sym (key_exact key (key_at f) order)
    chosen f Greater there order =
        absurd (least.none_before d (Contains-here d ds) f there (key_cmp_total.antisymm (key_at f) key ∙ ap ordering_reverse order))

    by : (o : Option Progress) → live_progress n (runs d) ≡ o → lesser_key (option_map key_at o) (Some key) ≡ Some key
    by None there = refl
    by (Some f) there = ap Some (chosen f (key_cmp key (key_at f)) there refl)

-- a key that a run has, and that none is before, is the first one
pub first_key_is : (n : ℕ) (runs : Config → Run) (key : List KeyPart) (list : List Config) → IsLeast n runs list key → (c : Config) (g : Progress) → Contains list c → live_progress n (runs c) ≡ Some g → key_at g ≡ key → first_key n (map (member runs) list) ≡ Some key
first_key_is n runs key list least c g h live is = first_at n runs key list least h.0 c g h.1 h.2 live is

-- where no run goes on there is none
pub first_key_none : (n : ℕ) (runs : Config → Run) (list : List Config) → ((c : Config) → Contains list c → live_progress n (runs c) ≡ None) → first_key n (map (member runs) list) ≡ None
first_key_none n runs [] h = refl
first_key_none n runs (c ∷ cs) h =
    ap (λ o. lesser_key (option_map key_at o) (first_key n (map (member runs) cs))) (h c (Contains-here c cs))
    ∙ first_key_none n runs cs (λ d in_list. h d (Contains-next c cs d in_list))
