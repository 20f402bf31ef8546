-- What carrying out a native method comes to where its call stands.
use Rattle.std.proofs.Common.{None, Option, Some, ap, refl, sym, true, ℕ, ◌∙◌, ◌≡◌}
use Rattle.vx_class.specs.declared.class_file.Code.{Code}
use Rattle.vx_java.specs.Machine.{State}
use Rattle.vx_java.specs.Natives.{native}
use Rattle.vx_kept_facts.proofs.KeptRows.{behind_call}
use Rattle.vx_kept_facts.proofs.NativeRows.{carried_out_comes, seen}
use Rattle.vx_kept_facts.proofs.Sites.{AtSite, MayCome, StandsAtInstruction, kept}
use Rattle.vx_kept_facts.specs.Kept.{is_instruction}
use Rattle.vx_kept_facts.specs.Law.{IsRunnable}
use Rattle.vx_link.specs.Parts.{method_at}
use Rattle.vx_link.specs.declared.program.Program.{Program}

native_site : (p : Program) → IsRunnable p → (s : State) → StandsAtInstruction p s → (code : Option Code) → (method_at p s.top.method).code ≡ code → AtSite (seen p s code)
native_site p whole s stands None is =
    let wrong : is_instruction None s.top.position ≡ true = ap (λ code. is_instruction code s.top.position) (sym is) ∙ stands.top in
    cc
native_site p whole s stands (Some code) is =
    let start : is_instruction (Some code) s.top.position ≡ true = ap (λ code. is_instruction code s.top.position) (sym is) ∙ stands.top in
    record {
      whole = whole;
      code = is;
      here = start;
      behind = behind_call (Some code) s.top.position start;
      below = stands.below;
      classes = stands.classes;
    }

pub native_comes : (p : Program) → IsRunnable p → (s : State) → StandsAtInstruction p s → (m : ℕ) → MayCome p (native p s m)
native_comes p whole s stands m =
    carried_out_comes kept (seen p s (method_at p s.top.method).code) (native_site p whole s stands (method_at p s.top.method).code refl) (method_at p m)
