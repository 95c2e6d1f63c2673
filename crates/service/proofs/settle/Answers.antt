use Rattle.std.proofs.Common.{◌≤◌, length, arith}
use Rattle.people.specs.Layout.{family_in, limit_in, rest_in}
use Rattle.people.proofs.Layouts.{length-family}
use Rattle.service.proofs.Estates.{estate_not_there, estate_beyond, estate_within}
use Rattle.service.proofs.settle.Goals as goal

pub returns-in_default : goal.returns-in_default
returns-in_default g c = record { replied = λ ok. estate_not_there c.args.memory.now c.args.answer.now c.args.who ok c.in_default.ensures.cases }

pub settle_any-requires : goal.settle_any-requires
settle_any-requires g c =
    let l = length-family c.args.memory.now in
    let found = c.in-Some.ensures.cases.0 in
    record { room = c.requires.room; there = omega arith; bytes = omega arith }

pub returns-in_default-settle_any : goal.returns-in_default-settle_any
returns-in_default-settle_any g c =
    let ws = c.args.memory.now in
    let found = c.in-Some.ensures.cases in
    let room : length (family_in ws) ≤ limit_in ws = let l = length-family ws in let r = c.requires.room.1 in omega arith in
    record {
      replied = λ ok.
          estate_beyond ws _ _ _ c.args.who _ ok found.0
          (c.settle_any.ensures.settled (limit_in ws) (family_in ws) (rest_in ws) ok.0 ok.2 room found.0 found.1) c.in_default-settle_any.is;
    }

pub returns : goal.returns
returns g c =
    let ws = c.args.memory.now in
    let found = c.in-Some.ensures.cases in
    let room : length (family_in ws) ≤ limit_in ws = let l = length-family ws in let r = c.requires.room.1 in omega arith in
    record {
      replied = λ ok.
          estate_within ws _ _ _ c.args.who _ ok found.0
          (c.settle_any.ensures.settled (limit_in ws) (family_in ws) (rest_in ws) ok.0 ok.2 room found.0 found.1) c.in-Some-settle_any.heirs c.in-Some-settle_any.is;
    }
