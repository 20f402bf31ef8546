-- Positions that are covered by no other rows than one of them is: one row more.
use Rattle.std.proofs.Common.{Bool, List, [], arith, false, get_or, length, refl, subst, sym, take, true, ℕ, ◌+◌, ◌<◌, ◌≡◌, ◌≤◌}
use Rattle.std.proofs.lemmas.List.{take_all, take_more}
use Rattle.std.proofs.lemmas.List.Elements.{All-nil, All-push, All-weaker}
use Rattle.std.specs.Prelude.{All}
use Rattle.vx_class.specs.declared.class_file.Catch.{Catch}
use Rattle.vx_java.specs.Selection.{covers}
use Rattle.vx_verify.specs.Spans.{AreAround, IsAround, IsNarrowed}
use Rattle.vx_verify.specs.declared.quiet.Quiet.{Quiet}

pub uncovered : (row : Catch) (p : ℕ) → (covers row p ≡ true → ⊥) → covers row p ≡ false
uncovered row p not_so = by (covers row p) refl
  where
    by : (b : Bool) → covers row p ≡ b → covers row p ≡ false
    by true c = absurd (not_so c)
    by false c = c

pub around_none : (at : ℕ) (q : Quiet) → AreAround [] at q
around_none at q = All-nil (IsAround at q)

pub around_more : (rows : List Catch) (n at : ℕ) (row other : Catch) (old new : Quiet) → n < length rows → row ≡ get_or rows n other → AreAround (take n rows) at old → IsNarrowed row at old new
    → AreAround (take (n + 1) rows) at new
around_more rows n at row other old new l e all h =
    subst (λ (rs : List Catch). All (IsAround at new) rs) (sym (take_more rows n other l))
    (All-push (IsAround at new) (take n rows) (get_or rows n other)
    (All-weaker (IsAround at old) (IsAround at new) (λ r a. record {
      here = λ p f t c. let from = h.from in let to = h.to in a.here p (omega (arith, from, f)) (omega (arith, to, t)) c;
      free = λ q. a.free (h.free q);
    }) (take n rows) all)
    (subst (λ (r : Catch). IsAround at new r) e h.around))

pub around_all : (rows : List Catch) (n at : ℕ) (q : Quiet) → length rows ≤ n → AreAround (take n rows) at q → AreAround rows at q
around_all rows n at q l all = subst (λ (rs : List Catch). All (IsAround at q) rs) (take_all n rows l) all
