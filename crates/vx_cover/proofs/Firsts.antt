-- The targets of the first numbers, one number more.
use Rattle.std.proofs.Common.{◌≡◌, ◌≢◌, ◌⊎◌, inl, inr, ℕ, ◌≤◌, suc, Bool, true, false, List, [], refl, sym, ◌∙◌, ap, subst, arith}
use Rattle.std.specs.Prelude.{nat_eq}
use Rattle.std.proofs.lemmas.Bool.Decides.{nat_tests}
use Rattle.vx_space.specs.Sets.{Sets, IsLawful, IsSet, Extends}
use Rattle.vx_bdd_tools.proofs.NodeSets.{order_cases}
use Rattle.vx_cover.specs.declared.target.Target.{Target}
use Rattle.vx_cover.specs.Targets.{AreFirst, IsPushed}
use Rattle.vx_cover.proofs.Opening.{AreOpen-extends, AreOpen-push, AreRight-extends, AreRight-push, counted, times_open-push}

pub AreFirst-none : {I : Type 0} (s : Sets I) (has : ℕ → List Bool → Bool) → ((c : List Bool) → has 0 c ≡ false) → AreFirst s has 0 []
AreFirst-none s has z = record {
  open_sets = tt;
  right = tt;
  once = λ index c l h.
      let same : index ≡ 0 = omega (arith, l) in
      let wrong : false ≡ true = sym (z c) ∙ ap (λ n. has n c) (sym same) ∙ h in
      cc (wrong);
  later = λ index l. refl;
}

pub AreFirst-extends : {I : Type 0} {old new : Sets I} → Extends old new → (has : ℕ → List Bool → Bool) (n : ℕ) (ts : List (Target I)) → AreFirst old has n ts → AreFirst new has n ts
AreFirst-extends x has n ts f = record {
  open_sets = AreOpen-extends x ts f.open_sets;
  right = AreRight-extends x has ts f.open_sets f.right;
  once = f.once;
  later = f.later;
}

other : (a b : ℕ) → a ≢ b → counted (nat_eq a b) ≡ 0
other a b n =
    let e : nat_eq a b ≡ false = grind (arith, nat_tests) in
    rw e refl

this : (a : ℕ) → counted (nat_eq a a) ≡ 1
this a =
    let e : nat_eq a a ≡ true = grind (arith, nat_tests) in
    rw e refl

-- a number up to the next one is one of those before, or the next one
up_to : (index n : ℕ) → index ≤ suc n → (index ≤ n) ⊎ (index ≡ suc n)
up_to index n l = elim (order_cases index (suc n)) [
  | inl b ↦ inl (omega (arith, b))
  | inr m ↦ elim m [ inl b ↦ absurd (omega (arith, b, l)) | inr e ↦ inr e ]
]

abbrev one : {I : Type 0} → ℕ → I → Target I
one index set = record { index = index; set = set }

pub AreFirst-step : {I : Type 0} {s : Sets I} → IsLawful s → (has : ℕ → List Bool → Bool) (n m : ℕ) (part : I) (ts ts' : List (Target I)) → m ≡ suc n → AreFirst s has n ts → IsSet s part (has m) → IsPushed s m part ts ts' → AreFirst s has m ts'
AreFirst-step {I} {s} lawful has n m part ts ts' next f p (inl q) =
    let never : (c : List Bool) → has m c ≡ false = λ c. sym (p.test c) ∙ ap (λ x. s.test x c) q.0 ∙ lawful.never_test c in
    let P : List (Target I) → Type 0 = λ xs. AreFirst s has m xs in
    subst P (sym q.1) (record {
      open_sets = f.open_sets;
      right = f.right;
      once = λ index c l h. elim (up_to index n (omega (arith, l, next))) [
        | inl b ↦ f.once index c b h
        | inr e ↦ let wrong : false ≡ true = sym (never c) ∙ ap (λ k. has k c) (next ∙ sym e) ∙ h in cc (wrong)
      ];
      later = λ index l. f.later index (omega (arith, l, next));
    })
AreFirst-step {I} {s} lawful has n m part ts ts' next f p (inr q) =
    let P : List (Target I) → Type 0 = λ xs. AreFirst s has m xs in
    subst P (sym q.1) (record {
      open_sets = AreOpen-push s ts (one m part) f.open_sets p.known q.0;
      right = AreRight-push s has ts (one m part) f.right p.test;
      once = λ index c l h. elim (up_to index n (omega (arith, l, next))) [
        | inl b ↦ omega (arith, times_open-push index ts (one m part), f.once index c b h, other index m (omega (arith, b, next)))
        | inr e ↦
            let same : index ≡ m = e ∙ sym next in
            let here : counted (nat_eq index m) ≡ 1 = ap (λ k. counted (nat_eq k m)) same ∙ this m in
            omega (arith, times_open-push index ts (one m part), f.later index (omega (arith, e)), here)
      ];
      later = λ index l. omega (arith, times_open-push index ts (one m part), f.later index (omega (arith, l, next)), other index m (omega (arith, l)));
    })
