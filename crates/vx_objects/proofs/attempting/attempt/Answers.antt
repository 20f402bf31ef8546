use Rattle.std.proofs.Common.{rules}
use Rattle.std.proofs.lemmas.Result.{IfOk-weaker}
use Rattle.std.proofs.Math.Facts.{to_z-of_z}
use Rattle.std.specs.Int.{w32}
use mir.Val.{SFits}
use Rattle.vx_families.proofs.AttemptLaws.{IsAttemptBy-is, IsGiven-is}
use Rattle.vx_java.specs.declared.operation.Operation.TheVariants.{CheckCast, GetField, IfSame, InstanceOf, Monitor, New, PutField}
use Rattle.vx_objects.proofs.attempting.attempt.Goals as goal

pub new_instance-requires : goal.new_instance-requires
new_instance-requires g c = IsGiven-is c.args.site.now c.args.operation (New c.in-New.index) _ c.args.heap.now c.args.group c.in-New.is c.requires.given

pub returns-in-New-clause-ok : goal.returns-in-New-clause-ok
returns-in-New-clause-ok g c =
    IfOk-weaker c.new_instance.result _ _ (λ r' h'. IsAttemptBy-is c.args.site.now c.args.operation (New c.in-New.index) _ _ c.args.heap.now c.new_instance.new.heap c.args.group _ c.in-New.is h')
    c.new_instance.ensures.ok

pub get_field-requires : goal.get_field-requires
get_field-requires g c = IsGiven-is c.args.site.now c.args.operation (GetField c.in-GetField.index) _ c.args.heap.now c.args.group c.in-GetField.is c.requires.given

pub returns-in-GetField-clause-ok : goal.returns-in-GetField-clause-ok
returns-in-GetField-clause-ok g c =
    IfOk-weaker c.get_field.result _ _ (λ r' h'. IsAttemptBy-is c.args.site.now c.args.operation (GetField c.in-GetField.index) _ _ c.args.heap.now c.get_field.new.heap c.args.group _ c.in-GetField.is h')
    c.get_field.ensures.ok

pub put_field-requires : goal.put_field-requires
put_field-requires g c = IsGiven-is c.args.site.now c.args.operation (PutField c.in-PutField.index) _ c.args.heap.now c.args.group c.in-PutField.is c.requires.given

pub returns-in-PutField-clause-ok : goal.returns-in-PutField-clause-ok
returns-in-PutField-clause-ok g c =
    IfOk-weaker c.put_field.result _ _ (λ r' h'. IsAttemptBy-is c.args.site.now c.args.operation (PutField c.in-PutField.index) _ _ c.args.heap.now c.put_field.new.heap c.args.group _ c.in-PutField.is h')
    c.put_field.ensures.ok

pub check_cast-requires : goal.check_cast-requires
check_cast-requires g c = IsGiven-is c.args.site.now c.args.operation (CheckCast c.in-CheckCast.index) _ c.args.heap.now c.args.group c.in-CheckCast.is c.requires.given

pub returns-in-CheckCast-clause-ok : goal.returns-in-CheckCast-clause-ok
returns-in-CheckCast-clause-ok g c =
    IfOk-weaker c.check_cast.result _ _ (λ r' h'. IsAttemptBy-is c.args.site.now c.args.operation (CheckCast c.in-CheckCast.index) _ _ c.args.heap.now c.args.heap.now c.args.group _ c.in-CheckCast.is h')
    c.check_cast.ensures.ok

pub instance_of-requires : goal.instance_of-requires
instance_of-requires g c = IsGiven-is c.args.site.now c.args.operation (InstanceOf c.in-InstanceOf.index) _ c.args.heap.now c.args.group c.in-InstanceOf.is c.requires.given

pub returns-in-InstanceOf-clause-ok : goal.returns-in-InstanceOf-clause-ok
returns-in-InstanceOf-clause-ok g c =
    IfOk-weaker c.instance_of.result _ _ (λ r' h'. IsAttemptBy-is c.args.site.now c.args.operation (InstanceOf c.in-InstanceOf.index) _ _ c.args.heap.now c.args.heap.now c.args.group _ c.in-InstanceOf.is h')
    c.instance_of.ensures.ok

pub monitor-requires : goal.monitor-requires
monitor-requires g c = IsGiven-is c.args.site.now c.args.operation Monitor _ c.args.heap.now c.args.group c.in-Monitor.is c.requires.given

pub returns-in-Monitor-clause-ok : goal.returns-in-Monitor-clause-ok
returns-in-Monitor-clause-ok g c =
    IfOk-weaker c.monitor.result _ _ (λ r' h'. IsAttemptBy-is c.args.site.now c.args.operation Monitor _ _ c.args.heap.now c.args.heap.now c.args.group _ c.in-Monitor.is h')
    c.monitor.ensures.ok

pub if_same-requires : goal.if_same-requires
if_same-requires g c =
    let fits : SFits w32 c.in-IfSame.offset = search rules in
    let same = to_z-of_z {w = w32} {z = c.in-IfSame.offset} fits in
    rw same (IsGiven-is c.args.site.now c.args.operation (IfSame c.in-IfSame.wanted c.in-IfSame.offset) _ c.args.heap.now c.args.group c.in-IfSame.is c.requires.given)

pub returns-in-IfSame-clause-ok : goal.returns-in-IfSame-clause-ok
returns-in-IfSame-clause-ok g c =
    IfOk-weaker c.if_same.result _ _ (λ r' h'.
    let fits : SFits w32 c.in-IfSame.offset = search rules in
    let same = to_z-of_z {w = w32} {z = c.in-IfSame.offset} fits in
    IsAttemptBy-is c.args.site.now c.args.operation (IfSame c.in-IfSame.wanted c.in-IfSame.offset) _ _ c.args.heap.now c.args.heap.now c.args.group _ c.in-IfSame.is (rw same at h'))
    c.if_same.ensures.ok
