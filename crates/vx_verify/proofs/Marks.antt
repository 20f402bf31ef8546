-- Sets of marked positions, of which one is put in or taken out.
use Rattle.std.proofs.Common.{Bool, ap, false, inl, inr, refl, subst, sym, true, ℕ, ◌<◌, ◌⊎◌, ◌∙◌, ◌≡◌}
use Rattle.std.proofs.lemmas.Bool.Decides.{Decides-eqb}
use Rattle.std.specs.BTreeMap.{is_at}
use Rattle.std.specs.BTreeSet.{BTreeSet, IsEmpty, Updates, contains}
use Rattle.std.specs.Cmp.{unsigned_tied}
use Rattle.std.specs.List.{list_any}
use Rattle.std.specs.Ordering.{nat_cmp}
use Rattle.std.specs.Prelude.{◌==◌}
use Rattle.vx_types.proofs.Tests.{not_both}
use Rattle.vx_verify.proofs.Putting.{is_or_not}
use Rattle.vx_verify.specs.Inference.{AreWithin}

-- ---- one position is put in or taken out

-- numbers that differ compare as such
unequal : (at q : ℕ) → ¬ (q ≡ at) → is_at (nat_cmp at) q ≡ false
unequal at q other = unsigned_tied at q ∙ by (at == q) refl
  where
    by : (b : Bool) → (at == q) ≡ b → (at == q) ≡ false
    by true h = absurd (other (sym ((Decides-eqb at q).0 h)))
    by false h = h

-- whether it is marked then
pub mark_here : (s t : BTreeSet ℕ) (at : ℕ) (b : Bool) → Updates nat_cmp s t at b → contains nat_cmp t at ≡ b
mark_here s t at b u = u.1

-- and whether another one is
pub mark_elsewhere : (s t : BTreeSet ℕ) (at q : ℕ) (b : Bool) → Updates nat_cmp s t at b → ¬ (q ≡ at) → contains nat_cmp t q ≡ contains nat_cmp s q
mark_elsewhere s t at q b u other = u.2 q (unequal at q other)

-- the positions stay within a code where one that is put in lies there
pub marks_within : (s t : BTreeSet ℕ) (at n : ℕ) (b : Bool) → Updates nat_cmp s t at b → (b ≡ true → at < n) → AreWithin n s → AreWithin n t
marks_within s t at n b u place within q e = by (is_or_not q at)
  where
    by : (q ≡ at) ⊎ (¬ (q ≡ at)) → q < n
    by (inl same) =
        subst (λ m. m < n) (sym same) (place (sym (mark_here s t at b u) ∙ subst (λ m. contains nat_cmp t m ≡ true) same e))
    by (inr other) = within q (sym (mark_elsewhere s t at q b u other) ∙ e)

-- no positions lie in each code
pub none_within : (s : BTreeSet ℕ) (n : ℕ) → IsEmpty s → AreWithin n s
none_within s n none q e = not_both (contains nat_cmp s q) e (ap (list_any (is_at (nat_cmp q))) none)
