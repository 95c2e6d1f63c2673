-- That the words are written over with zeros. Assumes nothing.
use Rattle.std.proofs.Common.{◌≡◌, ℕ, ◌+◌, ◌-◌, length, take, drop, replicate, ap, ◌∙◌, arith}
use borrow.Rule.Slice.PartMut.{put_mid}
use Rattle.std.proofs.lemmas.List.{length-drop, length-replicate, length-take}
use Rattle.rows.proofs.Written.{put_written}
use Rattle.rows.proofs.clear.Goals as goal

pub returns : goal.returns
returns c =
    let row = c.args.row.now in
    let at = c.args.at in
    let many = at + c.args.count - at in
    let long : length (take many (drop at row)) ≡ c.args.count = simp (length-take, length-drop) (omega arith) in
    let zeros : c.fill.new.self ≡ replicate c.args.count 0 = c.fill.ensures.after (λ y e. e) ∙ ap (λ n. replicate n 0) long in
    record {
      left =
          ap (put_mid at many row) zeros
          ∙ put_written at many (replicate c.args.count 0) row (omega arith) (omega (arith, length-replicate {A = ℕ} c.args.count 0));
    }
