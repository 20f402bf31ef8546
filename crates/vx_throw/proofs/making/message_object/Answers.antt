use Rattle.vx_throw.proofs.MadeExceptions.{IsMessageMade-none}
use Rattle.vx_throw.proofs.making.message_object.Goals as goal

pub text_object-requires-clause-text : goal.text_object-requires-clause-text
text_object-requires-clause-text g c = rw c.in-Some.is at c.requires.message

pub returns-in_ok-string-in-Some : goal.returns-in_ok-string-in-Some
returns-in_ok-string-in-Some g c = rw c.in-Some.is c.in_ok-string-in-Some.ensures

pub returns-in-None : goal.returns-in-None
returns-in-None g c = rw c.in-None.is (λ sets v k. IsMessageMade-none c.args.program.now sets c.args.heap.now c.args.path v)
