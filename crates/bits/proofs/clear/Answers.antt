-- That the words are written over with zeros. Assumes nothing.
use Rattle.std.proofs.Common.{◌≡◌, ◌+◌, ◌-◌, length, take, drop, replicate, sym, ap, ◌∙◌, arith}
use borrow.Rule.Slice.PartMut.{put_mid}
use Rattle.rows.proofs.Written.{put_written}
use Rattle.rows.specs.Written.{written}
use Rattle.std.proofs.lemmas.List.{length-drop, length-replicate, length-take}
use Rattle.bits.proofs.Sets.{cleared_among}
use Rattle.bits.proofs.clear.Goals as goal

pub returns : goal.returns
returns c =
    let memory = c.args.memory.now in
    let at = c.args.at in
    let words = c.args.words in
    let many : at + words - at ≡ words = omega arith in
    let long : length (take (at + words - at) (drop at memory)) ≡ words = simp (length-take, length-drop) (omega arith) in
    let zeros : c.fill.new.self ≡ replicate words 0 = c.fill.ensures.after (λ y e. e) ∙ ap (λ n. replicate n 0) long in
    let left : put_mid at (at + words - at) memory c.fill.new.self ≡ written at (replicate words 0) memory =
    ap (put_mid at (at + words - at) memory) zeros ∙ put_written at (at + words - at) (replicate words 0) memory (omega arith) (length-replicate words 0 ∙ sym many)
    in
    record { left = left; sets = λ front row rest held first n. left ∙ cleared_among memory front row rest words at held first n }
