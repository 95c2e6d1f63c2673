-- Each call's bytes. Assumes nothing.
use Rattle.law.specs.Calls.{call_number}
use Rattle.wire.specs.Bytes.{call_bytes}
use Rattle.wire.proofs.put_call.Goals as goal

pub returns-in-Born : goal.returns-in-Born
unfolding call_bytes call_number
returns-in-Born c = rw c.in-Born.is (record { left = c.lay_call.ensures.left; value = c.lay_call.ensures.value })

pub returns-in-Wed : goal.returns-in-Wed
unfolding call_bytes call_number
returns-in-Wed c = rw c.in-Wed.is (record { left = c.lay_call-in-Wed.ensures.left; value = c.lay_call-in-Wed.ensures.value })

pub returns-in-Parted : goal.returns-in-Parted
unfolding call_bytes call_number
returns-in-Parted c = rw c.in-Parted.is (record { left = c.lay_call-in-Parted.ensures.left; value = c.lay_call-in-Parted.ensures.value })

pub returns-in-Dies : goal.returns-in-Dies
unfolding call_bytes call_number
returns-in-Dies c = rw c.in-Dies.is (record { left = c.lay_call-in-Dies.ensures.left; value = c.lay_call-in-Dies.ensures.value })

pub returns-in-EstateOf : goal.returns-in-EstateOf
unfolding call_bytes call_number
returns-in-EstateOf c = rw c.in-EstateOf.is (record { left = c.lay_call-in-EstateOf.ensures.left; value = c.lay_call-in-EstateOf.ensures.value })
