-- What stands in a group whose frame on top wakes.
use Rattle.std.proofs.Common.{◌≡◌, refl, sym, subst}
use Rattle.vx_space.specs.Sets.{Sets}
use Rattle.vx_space.proofs.Spaces.{Extends-refl}
use Rattle.vx_frame.specs.declared.frame.Frame.{Frame}
use Rattle.vx_frame.specs.Frame.{IsFrame, frame_at}
use Rattle.vx_frame.proofs.FrameLaws.{IsFrame-locals, IsFrame-one_scope, IsFrame-rows, IsFrame-stack}
use Rattle.vx_group.specs.Group.{GroupView, IsGroup}
use Rattle.vx_group.proofs.GroupLaws.{IsGroup-attempts, IsGroup-of_parts, IsGroup-one_scope, IsGroup-top}
use Rattle.vx_java.specs.Returns.{awake}
use Rattle.vx_value.specs.declared.key.Kind.{Kind}
use Rattle.vx_group_states.proofs.StateLaws.{StandsIn-same_callers, state_at-same_callers, top_held, top_shaped}
use Rattle.vx_frames.specs.Waking.{IsWoken}

-- a group whose frame on top has another kind
abbrev of_kind : {S I : Type 0} → GroupView S I → Kind → GroupView S I
of_kind group kind = record group { top = record (group.top) { kind = kind } }

kind_frame : {S I : Type 0} (sets : Sets I) (frame : Frame S I) (kind : Kind) → IsFrame sets frame → IsFrame sets (record frame { kind = kind })
kind_frame sets frame kind v = IsFrame-rows sets (record frame { kind = kind }) (IsFrame-locals sets frame v) (IsFrame-stack sets frame v) (IsFrame-one_scope sets frame v)

kind_group : {S I : Type 0} (sets : Sets I) (group : GroupView S I) (kind : Kind) → IsGroup sets group → IsGroup sets (of_kind group kind)
kind_group sets group kind v = IsGroup-of_parts sets (of_kind group kind) (IsGroup-attempts sets group v) (kind_frame sets group.top kind (IsGroup-top sets group v)) (IsGroup-one_scope sets group v)

woken : {S I : Type 0} (sets : Sets I) (group : GroupView S I) → IsGroup sets group → IsWoken sets group (of_kind group (awake group.top.kind))
woken sets group v =
    let after = of_kind group (awake group.top.kind) in
    let here = Extends-refl sets in
    record {
      is_group = kind_group sets group (awake group.top.kind) v;
      same = refl;
      continues = λ p heap tree h s. record {
        stands = StandsIn-same_callers p tree here heap h group after s (kind_group sets group (awake group.top.kind) v) refl refl (λ c t. t) (top_shaped p sets heap tree group s) (λ c t. top_held p sets heap tree group s c t);
        inside = λ c t. t;
        attempts = λ c t. refl;
      };
      at = λ heap tree h w c. state_at-same_callers tree here heap h group after w refl refl c (record (frame_at sets group.top c) { kind = awake group.top.kind }) refl;
    }

pub IsWoken-made : {S I : Type 0} (sets : Sets I) (group after : GroupView S I) → IsGroup sets group → after ≡ record group { top = record (group.top) { kind = awake group.top.kind } } → IsWoken sets group after
IsWoken-made {S = S} {I = I} sets group after v e =
    let P : GroupView S I → Type 0 = λ g. IsWoken sets group g in
    subst P (sym e) (woken sets group v)
