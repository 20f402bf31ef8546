-- The members of linked classes have numbers that follow one another.
use Rattle.std.proofs.Common.{◌≡◌, ℕ, ◌+◌, zero, suc, List, [], ◌∷◌, ap, arith, length, map, refl, sym}
use Rattle.std.proofs.lemmas.List.FromFn.{length-range_with_len}
use Rattle.std.specs.List.{All, range_with_len}
use Rattle.vx_class.specs.declared.class_file.ClassFile.{ClassFile}
use Rattle.vx_link.specs.Linked.{field_ids, linked_class, linked_classes, method_count, method_ids}
use Rattle.vx_link.specs.Members.{HaveRuns, IsRun}
use Rattle.vx_linker.proofs.Numbering.{all-cons}

is_run : (first count : ℕ) → IsRun (range_with_len first count)
is_run first zero = refl
is_run first (suc n) = ap (range_with_len first) (sym (length-range_with_len first (suc n)))

numbers_of_methods : (first count : ℕ) → map (λ m. m.0) (method_ids first count) ≡ range_with_len first count
numbers_of_methods first zero = refl
numbers_of_methods first (suc n) = ap (λ rest. first ∷ rest) (numbers_of_methods (first + 1) n)

numbers_of_fields : (first count : ℕ) → map (λ f. f.0) (field_ids first count) ≡ range_with_len first count
numbers_of_fields first zero = refl
numbers_of_fields first (suc n) = ap (λ rest. first ∷ rest) (numbers_of_fields (first + 1) n)

run_of : (first count : ℕ) (numbers : List ℕ) → numbers ≡ range_with_len first count → IsRun numbers
run_of first count numbers e = rw e (is_run first count)

pub have_runs : (names : List (List ℕ)) (cs : List ClassFile) (m f : ℕ) → All HaveRuns (linked_classes names cs m f)
have_runs names [] m f = λ k d below. absurd (omega (arith, below))
have_runs names (c ∷ cs) m f =
    all-cons HaveRuns (linked_class names c m f) (linked_classes names cs (m + method_count c) (f + length c.fields))
    (record {
      methods = run_of m (length c.methods) _ (numbers_of_methods m (length c.methods));
      fields = run_of f (length c.fields) _ (numbers_of_fields f (length c.fields));
    })
    (have_runs names cs (m + method_count c) (f + length c.fields))
